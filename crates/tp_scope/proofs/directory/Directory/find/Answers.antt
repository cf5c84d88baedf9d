use Rattle.std.proofs.Common.{◌≡◌, ◌∙◌, sym, ap, subst, List, ℕ, ◌+◌, Option, None, Some, slice_get, refl, arith}
use Rattle.std.specs.Option.{option_map}
use Rattle.tp_scope.specs.Scope.{Called, called_of}
use Rattle.tp_scope.specs.Seen.{IsFound, signatures_seen}
use Rattle.tp_scope.specs.declared.directory.Signature.{Signature}
use Rattle.tp_scope.proofs.Called.{Entries, called_by, called_at, called_is}
use Rattle.tp_scope.proofs.directory.Directory.find.Goals as goal

pub returns-in_default : goal.returns-in_default
returns-in_default c =
    let es : Entries = c.args.self.now.signatures.entries in
    let name : List ℕ = c.args.name.now in
    let none : called_of (signatures_seen c.args.self.now) name ≡ None = called_is es name ∙ ap (called_at 0 es) (sym c.in_default.ensures.index) in
    subst (λ (o : Option Called). IsFound o None) (sym none) tt

pub returns : goal.returns
returns c =
    let es : Entries = c.args.self.now.signatures.entries in
    let name : List ℕ = c.args.name.now in
    let i : ℕ = c.in-Some.number in
    let e : List ℕ × Signature = (c.in-Some.field-0-1.now, c.in-Some.signature.now) in
    let here : slice_get es i ≡ Some e = c.in-Some.ensures.entry in
    let found : called_of (signatures_seen c.args.self.now) name ≡ Some (called_by (0 + i) e) =
    called_is es name ∙ (ap (called_at 0 es) (sym c.in-Some.ensures.index) ∙ ap (option_map (called_by (0 + i))) here) in
    let given : c.in_ok-as_number.field-0 ≡ i = c.in_ok-as_number.ensures.ok in
    let number : c.in_ok-as_number.field-0 ≡ 0 + i = omega (arith, given) in
    subst (λ (o : Option Called). IsFound o (Some (record { number = c.in_ok-as_number.field-0; signature = c.in-Some.signature.now }))) (sym found) (number, refl, refl)
