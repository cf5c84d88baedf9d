-- What a place is that is a name and an index that is written as a number.
use Rattle.std.proofs.Common.{◌≡◌, ℤ, ℕ, suc, Bool, true, [], Option, Some, None, ap, ◌∙◌, if◌then◌else◌}
use Rattle.std.specs.Option.{option_and_then}
use Rattle.std.specs.List.{slice_get}
use Rattle.tp_value.specs.Tree.{num}
use Rattle.tp_value.specs.Number.{is_within_limit}
use Rattle.tp_value.specs.declared.path.Path.{Path}
use Rattle.tp_meaning.specs.Syntax.{ExprTree, BindingTree, bound, global, index, numeral, place_binding, known_binding}
use Rattle.tp_kernel.specs.Read.{bindings_of}
use Rattle.tp_kernel.specs.declared.fault.LimitKind.TheVariants as limit
use Rattle.tp_eval.specs.Reached.{Evaluation, reaches, with_reached, ◌>>=◌, gives, stop, passes}
use Rattle.tp_eval.specs.declared.lookup.Lookup.{Lookup}
use Rattle.tp_eval.specs.Evaluate.{PlaceFound, at_path, bound_place, farther, index_in}
use Rattle.tp_eval.specs.Answers.{operand_in, place_at}
use Rattle.tp_eval.specs.Operand.{bound_path, named_path}
use Rattle.tp_eval.proofs.Steps.{reaches_then}

bound_named : (o : Option BindingTree) (q : Path) (c : ℕ) → option_and_then bound_path o ≡ Some q → bound_place o c ≡ reaches (at_path q) c
bound_named None q c h = absurd (cc)
bound_named (Some (place_binding p)) q c h = let same : p ≡ q = cc in ap (λ x. reaches (at_path x) c) same
bound_named (Some (known_binding t)) q c h = absurd (cc)

module _ (l : Lookup) (d c : ℕ) where
  named_place : (e : ExprTree) (q : Path) → named_path e (bindings_of l.env.now) ≡ Some q → place_at l (suc d) e c ≡ reaches (at_path q) c
  named_place (global x) q h = let same : record { var = x; at = [] } ≡ q = cc in ap (λ p. reaches (at_path p) c) same
  named_place (bound i) q h = bound_named (slice_get (bindings_of l.env.now) i) q c h
  named_place e q h = absurd (cc)

  pub written_found : (e a i : ExprTree) (q p : Path) (n : ℤ) (k : ℕ) → e ≡ index a i → i ≡ numeral n → named_path a (bindings_of l.env.now) ≡ Some q
      → is_within_limit n ≡ true → index_in (num n) ≡ gives k → farther (at_path q) k ≡ gives (at_path p) → place_at l (suc (suc d)) e c ≡ reaches (at_path p) c
  written_found e a i q p n k is number named small counts further =
      ap (λ x. place_at l (suc (suc d)) x c) is
      ∙ reaches_then (place_at l (suc d) a c) (at_path q) c (λ x. operand_in l (suc d) i >>= λ t. index_in t >>= λ j. farther x j) (named_place a q named)
      ∙ ap (λ x. with_reached (operand_in l (suc d) x c) (λ t. index_in t >>= λ j. farther (at_path q) j)) number
      ∙ ap (λ (b : Bool). with_reached ((if b then gives (num n) else stop (passes limit.Number)) c) (λ t. index_in t >>= λ j. farther (at_path q) j)) small
      ∙ ap (λ (f : Evaluation ℕ). with_reached (f c) (λ j. farther (at_path q) j)) counts
      ∙ ap (λ (f : Evaluation PlaceFound). f c) further
