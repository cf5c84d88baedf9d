use Rattle.std.proofs.Common.{◌≡◌, ◌+◌, ◌<◌, ◌-◌, ℕ, suc, List, ◌∙◌, ap, subst, take, drop, length, arith, add-one, refl}
use Rattle.std.proofs.lemmas.List.{take_rest}
use Rattle.tp_show.specs.TraceReading.{trace_part_of, IsPartAround}
use Rattle.tp_show.proofs.TraceParts.{no_equals, first_there, none_there}
use Rattle.tp_show.proofs.trace_part.first_part.Goals as goal

pub returns-then-cut-text : goal.returns-then-cut-text
returns-then-cut-text c = let n = c.len_before-cut.ensures.value in let far = c.if-cut-text.true in no_equals c.args.text.now (omega (arith, n, far))

behind : (z : List ℕ) (cut : ℕ) → take (length z - (cut + 1)) (drop (cut + 1) z) ≡ drop (suc cut) z
behind z cut = take_rest z (cut + 1) ∙ ap (λ (k : ℕ). drop k z) (add-one cut)

pub returns-in-Some : goal.returns-in-Some
returns-in-Some c =
    let z : List ℕ = c.args.text.now in
    let cut : ℕ = c.len_before-cut.result in
    let right : List ℕ = take (length z - (cut + 1)) (drop (cut + 1) z) in
    let found = subst (IsPartAround (take cut z) right) c.in-Some.is c.in_ok-part.ensures in
    let inside : cut < length z = c.if-cut-text.false in
    first_there z (take cut z) right cut c.len_before-cut.ensures.value inside refl (behind z cut) (trace_part_of c.in-Some.part) c.in-Some.len found.0 found.1

pub returns-in-None : goal.returns-in-None
returns-in-None c =
    let z : List ℕ = c.args.text.now in
    let cut : ℕ = c.len_before-cut.result in
    let right : List ℕ = take (length z - (cut + 1)) (drop (cut + 1) z) in
    let found = subst (IsPartAround (take cut z) right) c.in-None.is c.in_ok-part.ensures in
    let inside : cut < length z = c.if-cut-text.false in
    none_there z (take cut z) right cut c.len_before-cut.ensures.value inside refl (behind z cut) found
