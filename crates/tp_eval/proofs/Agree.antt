-- What an evaluation that goes on or stops says of a meaning.
use Rattle.std.proofs.Common.{◌≡◌, ℕ, Bool, true, false, List, Option, Some, None, refl, ap, ◌∙◌, if◌then◌else◌}
use Rattle.tp_value.specs.declared.path.Path.{Path}
use Rattle.tp_value.specs.declared.path.Fact.{Fact}
use Rattle.tp_kernel.specs.declared.fault.LimitKind.{LimitKind}
use Rattle.tp_meaning.specs.Value.{◌>>=◌}
use Rattle.tp_store.specs.Facts.{kept_shape, is_excluded}
use Rattle.tp_eval.specs.Reached.{Reached, reaches, stops, waits, faults, passes, Evaluation, with_reached, gives, stop}

-- the path has no shape yet, and no fact excludes it
abbrev pub IsUndecided : List Fact → Path → Type 0
IsUndecided facts p = (kept_shape facts p ≡ None) × (is_excluded facts p ≡ false)

module _ (facts : List Fact) (Agreeing : Type 0) where
  -- What is reached means what `meant` says, a fault means none, and what is waited for is undecided. The first two are said of a state that
  -- agrees with the facts.
  abbrev pub Agrees : {A B : Type 0} → (meant : A → Option B) → Reached A → Option B → Type 0
  Agrees meant (reaches x c) o = Agreeing → o ≡ meant x
  Agrees meant (stops (faults k)) o = Agreeing → o ≡ None
  Agrees meant (stops (waits p)) o = IsUndecided facts p
  Agrees meant (stops (passes k)) o = Unit {0}

  pub same_meaning : {A B : Type 0} (meant : A → Option B) (r : Reached A) (o o' : Option B) → (Agreeing → o ≡ o') → Agrees meant r o' → Agrees meant r o
  same_meaning meant (reaches x c) o o' e h = λ w. e w ∙ h w
  same_meaning meant (stops (faults k)) o o' e h = λ w. e w ∙ h w
  same_meaning meant (stops (waits p)) o o' e h = h
  same_meaning meant (stops (passes k)) o o' e h = tt

  -- what is reached is used
  pub then_agrees : {A B C D : Type 0} (meant : A → Option C) (meant' : B → Option D) (r : Reached A) (o : Option C) (f : A → Evaluation B) (g : C → Option D)
      → Agrees meant r o → ((x : A) (c : ℕ) → Agrees meant' (f x c) (meant x >>= g)) → Agrees meant' (with_reached r f) (o >>= g)
  then_agrees meant meant' (reaches x c) o f g h k = same_meaning meant' (f x c) (o >>= g) (meant x >>= g) (λ w. ap (λ q. q >>= g) (h w)) (k x c)
  then_agrees meant meant' (stops (faults j)) o f g h k = λ w. ap (λ q. q >>= g) (h w)
  then_agrees meant meant' (stops (waits p)) o f g h k = h
  then_agrees meant meant' (stops (passes j)) o f g h k = tt

  pub none_after : {A B : Type 0} (f : A → Option B) → ((x : A) → f x ≡ None) → (q : Option A) → (q >>= f) ≡ None
  none_after f h None = refl
  none_after f h (Some x) = h x

  -- what is reached is used beside what something else means, if anything
  pub beside_agrees : {A B C D E : Type 0} (meant : A → Option C) (meant' : B → Option D) (r : Reached A) (o : Option C) (f : A → Evaluation B) (q : Option E) (g : E → C → Option D)
      → Agrees meant r o → ((x : A) (c : ℕ) → Agrees meant' (f x c) (q >>= λ u. meant x >>= g u)) → Agrees meant' (with_reached r f) (q >>= λ u. o >>= g u)
  beside_agrees meant meant' (reaches x c) o f q g h k = same_meaning meant' (f x c) (q >>= λ u. o >>= g u) (q >>= λ u. meant x >>= g u) (λ w. ap (λ y. q >>= λ u. y >>= g u) (h w)) (k x c)
  beside_agrees meant meant' (stops (faults j)) o f q g h k = λ w. ap (λ y. q >>= λ u. y >>= g u) (h w) ∙ none_after (λ u. None >>= g u) (λ u. refl) q
  beside_agrees meant meant' (stops (waits p)) o f q g h k = h
  beside_agrees meant meant' (stops (passes j)) o f q g h k = tt

  -- one of two
  pub either_agrees : {A B : Type 0} (meant : A → Option B) (b : Bool) (x y : Evaluation A) (o o' : Option B) (c : ℕ)
      → Agrees meant (x c) o → Agrees meant (y c) o' → Agrees meant ((if b then x else y) c) (if b then o else o')
  either_agrees meant true x y o o' c h k = h
  either_agrees meant false x y o o' c h k = k

  -- what is reached only within a limit
  pub limit_agrees : {A B : Type 0} (meant : A → Option B) (b : Bool) (x : A) (k : LimitKind) (c : ℕ) → Agrees meant ((if b then gives x else stop (passes k)) c) (meant x)
  limit_agrees meant true x k c = λ w. refl
  limit_agrees meant false x k c = tt
