use Rattle.tp_parse.proofs.SpelledSources.{spellings_are_read_back}
use Rattle.tp_parse.proofs.SpelledWhole.{sources_are_whole}
use Rattle.tp_parse.proofs.TextSources.{spellings_have_their_tokens}
use Rattle.tp_parse.proofs.TextNames.{sources_are_spellable}
use Rattle.tp_parse.proofs.TextBack.{printed_is_read_back, one_spelling}
use Rattle.tp_parse.proofs.laws.printed_is_read_back.Goals as goal

pub returns : goal.returns
returns c = record {
  whole = sources_are_whole;
  spellings = spellings_are_read_back;
  texts = sources_are_spellable;
  tokens = spellings_have_their_tokens;
  read_back = printed_is_read_back;
  once = one_spelling;
}
