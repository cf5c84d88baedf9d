-- What the facts say of the values of the variables.
use Rattle.std.proofs.Common.{◌≡◌, ℕ, suc, Bool, true, false, ◌||◌, List, Some, None, refl, ap, sym, subst, ◌∙◌, if◌then◌else◌}
use Rattle.tp_value.specs.Tree.{Tree}
use Rattle.tp_value.specs.Shape.{shape_at_path, item_at}
use Rattle.tp_value.specs.declared.value.Shape.{Shape}
use Rattle.tp_value.specs.declared.path.Path.{Path}
use Rattle.tp_value.specs.declared.path.Fact.{Fact}
use Rattle.tp_kernel.specs.declared.fault.FaultKind.TheVariants.{NoElement}
use Rattle.tp_store.specs.Facts.{fact, kept_shape, is_excluded, AgreesWithAll}
use Rattle.tp_store.specs.Known.{NoClash, deepest, whole, limited, full}
use Rattle.tp_store.specs.Known as store
use Rattle.tp_store.specs.Laws.{FullSays}
use Rattle.tp_store.proofs.Meaning.{full_is_right, open_is_undecided}
use Rattle.tp_store.proofs.Members.{kept_in, excluded_by, apart_in, agrees_in}
use Rattle.tp_eval.specs.Reached.{fault}
use Rattle.tp_eval.specs.Evaluate.{at_path, size_at, length_in}
use Rattle.tp_eval.proofs.PlaceLemmas.{FactsAreRight}

true_false : true ≡ false → ⊥
true_false e = cc

or_false : (a b : Bool) → (a || b) ≡ false → (a ≡ false) × (b ≡ false)
or_false true b e = absurd (cc)
or_false false b e = (refl, e)

-- a path with a shape of its own isn't excluded
pub kept_not_excluded : (facts : List Fact) (p : Path) (sh : Shape) → NoClash facts → kept_shape facts p ≡ Some sh → is_excluded facts p ≡ false
kept_not_excluded facts p sh h k = none (is_excluded facts p) refl
  where
    none : (b : Bool) → is_excluded facts p ≡ b → is_excluded facts p ≡ false
    none false e = e
    none true e =
        let by = excluded_by facts p e in
        let apart = apart_in facts by.0 (fact p sh) h by.1 (kept_in facts p sh k) in
        let parts = or_false _ _ (or_false _ _ apart).1 in
        absurd (true_false (sym by.2 ∙ parts.0))

-- the size at a path with a shape of its own
pub size_kept : (facts : List Fact) (p : Path) (sh : Shape) → NoClash facts → kept_shape facts p ≡ Some sh → size_at facts (at_path p) ≡ length_in p (Some sh)
size_kept facts p sh h k =
    ap (λ (b : Bool). if b then fault NoElement else length_in p (kept_shape facts p)) (kept_not_excluded facts p sh h k) ∙ ap (length_in p) k

module _ (values : ℕ → Tree) (facts : List Fact) (agrees : AgreesWithAll values facts) where
  says : (p : Path) (o : store.Full) → full facts p ≡ o → FullSays p.at (values p.var.number) o
  says p o h = let P : store.Full → Type 0 = λ x. FullSays p.at (values p.var.number) x in subst P h (full_is_right facts values agrees p)

  kept_is : (p : Path) (sh : Shape) → kept_shape facts p ≡ Some sh → shape_at_path p.at (values p.var.number) ≡ Some sh
  kept_is p sh k = agrees_in values facts agrees (fact p sh) (kept_in facts p sh k)

  absent_is : (p : Path) → full facts p ≡ store.absent → item_at p.at (values p.var.number) ≡ None
  absent_is p h = says p store.absent h

  excluded_is : (p : Path) → is_excluded facts p ≡ true → item_at p.at (values p.var.number) ≡ None
  excluded_is p e = absent_is p (ap (λ (b : Bool). if b then store.absent else limited (whole (suc (deepest facts)) facts p)) e)

  whole_is : (p : Path) (t : Tree) → full facts p ≡ store.value t → item_at p.at (values p.var.number) ≡ Some t
  whole_is p t h = (says p (store.value t) h).0

-- in each state that agrees with them
pub facts_are_right : (facts : List Fact) (values : ℕ → Tree) → NoClash facts → FactsAreRight facts (AgreesWithAll values facts) values
facts_are_right facts values apart = record {
  kept = λ w p sh k. kept_is values facts w p sh k;
  excluded = λ w p k. excluded_is values facts w p k;
  absent = λ w p k. absent_is values facts w p k;
  whole = λ w p t k. whole_is values facts w p t k;
  undecided = λ p q k. open_is_undecided facts p q apart k;
}

-- where no state is spoken of
pub no_state_is_right : (facts : List Fact) (values : ℕ → Tree) → NoClash facts → FactsAreRight facts ⊥ values
no_state_is_right facts values apart = record {
  kept = λ w p sh k. absurd w;
  excluded = λ w p k. absurd w;
  absent = λ w p k. absurd w;
  whole = λ w p t k. absurd w;
  undecided = λ p q k. open_is_undecided facts p q apart k;
}
