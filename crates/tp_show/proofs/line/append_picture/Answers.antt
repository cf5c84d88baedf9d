use Rattle.std.proofs.Common.{subst}
use Rattle.tp_value.proofs.WritingLemmas.{map_ok}
use Rattle.tp_show.specs.Told.{ArePartsInRange}
use Rattle.tp_show.proofs.line.append_picture.Goals as goal

pub returns-clause-range : goal.returns-clause-range
returns-clause-range c =
    map_ok c.append_shows.result (λ shows. record { state = c.append_counted.ensures.range; parts = subst ArePartsInRange c.requires c.in_ok-append_parts.ensures.range; shows = shows }) c.append_shows.ensures.range
