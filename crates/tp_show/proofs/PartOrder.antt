-- Parts of a line in another order give the same facts.
use Rattle.std.proofs.Common.{◌≡◌, ◌∷◌, ◌++◌, [], List, ℕ, map, codes, refl, sym, ap, ◌∙◌, subst}
use Rattle.std.specs.List.{flat_map}
use Rattle.std.specs.List.Sorted.{IsPermutation}
use Rattle.std.proofs.lemmas.List.Sorted.{IsPermutation-map}
use Rattle.std.proofs.lemmas.List.{append_cancel_left}
use Rattle.tp_show.specs.declared.named_fact.NamedFact.{NamedFact}
use Rattle.tp_show.specs.Trace.{TracePart, part_facts, parts_facts, SpellsParts, none, part, state_opening}
use Rattle.tp_show.specs.TraceArranged.{PartText, OrderOfPartsTellsNothing}
use Rattle.tp_show.proofs.TraceSpelled.{parts_unique}
use Rattle.tp_show.proofs.Reordered.{IsPermutation-flat_map, clash_reordered}

abbrev part_in : PartText → TracePart
part_in p = p.part

all_spelled : (parts : List PartText) → SpellsParts (flat_map (λ p. codes " " ++ p.text) parts) (map part_in parts)
all_spelled [] = none
all_spelled (p ∷ parts) = part p.text (flat_map (λ p. codes " " ++ p.text) parts) p.part (map part_in parts) p.spelled (all_spelled parts)

pub order_of_parts : OrderOfPartsTellsNothing
order_of_parts number parts other h facts line =
    let text : List ℕ = flat_map (λ p. codes " " ++ p.text) parts in
    let rest : text ≡ line.rest = append_cancel_left (state_opening number) text line.rest line.opening in
    let spelled : map part_in parts ≡ line.parts = parts_unique (subst (λ (z : List ℕ). SpellsParts z (map part_in parts)) rest (all_spelled parts)) line.spelled in
    let given : parts_facts (map part_in parts) ≡ facts = ap parts_facts spelled ∙ sym line.given in
    let again : List NamedFact = parts_facts (map part_in other) in
    let same : IsPermutation facts again = subst (λ fs. IsPermutation fs again) given (IsPermutation-flat_map part_facts (map part_in parts) (map part_in other) (IsPermutation-map part_in parts other h)) in (
      again,
      same,
      record {
        rest = flat_map (λ p. codes " " ++ p.text) other;
        opening = refl;
        parts = map part_in other;
        spelled = all_spelled other;
        given = refl;
        no_clash = clash_reordered facts again same line.no_clash;
      },
    )
