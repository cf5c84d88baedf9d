use Rattle.std.proofs.Common.{◌≡◌, ℕ, ap, false, not, eqb, sym, ◌∙◌, inl, inr, arith, w64}
use Rattle.std.proofs.lemmas.Simd.{bitmask_splat, none_from_empty_mask, length-chunk}
use Rattle.std.proofs.lemmas.Bool.{eqb-true, cases_Bool, both_ways}
use lib.Lanes.{chunk}
use Rattle.tp_lanes.proofs.rows.are_empty.Goals as goal

is_zero : (x : ℕ) → not (eqb x 0) ≡ false → x ≡ 0
is_zero x e = elim (cases_Bool (eqb x 0)) [ inl yea ↦ eqb-true x 0 yea | inr nay ↦ absurd (both_ways (not (eqb x 0)) e (ap not nay)) ]

pub returns : goal.returns
returns c = λ h k from to.
    let counts = c.args.counts.now in
    let at = c.args.at in
    let mask = bitmask_splat w64 (λ a b. not (eqb a b)) (chunk at 8 counts) 8 0 (length-chunk at 8 counts c.requires) (omega arith) in
    is_zero _ (none_from_empty_mask (λ (x : ℕ). not (eqb x 0)) counts at 8 0 c.requires (sym mask ∙ eqb-true _ 0 h) k from to)
