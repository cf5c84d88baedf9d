use Rattle.tp_lex.proofs.LawLemmas.{each_text, one_list, one_refusal, never_both, places_count, names_have_their_case}
use Rattle.tp_lex.proofs.laws.readings_are_unique.Goals as goal

pub returns : goal.returns
returns c = record { some = each_text; tokens = one_list; refusal = one_refusal; never_both = never_both; places = places_count; cases = names_have_their_case }
