use Rattle.tp_value.proofs.WritingLemmas.{map_ok}
use Rattle.tp_show.proofs.LineLemmas.{three_joined}
use Rattle.tp_show.proofs.end_line.append_reductions.Goals as goal

pub returns : goal.returns
returns c = map_ok c.append.result (three_joined _ _ _ _ _ _ _ c.in_ok-append_state.ensures c.in_ok-append_counted.ensures.text) c.append.ensures.ok
