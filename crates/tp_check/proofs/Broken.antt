-- What is told of the rules by what is made of phrases: all are kept, or the refusal names the first that is broken.
use Rattle.std.proofs.Common.{refl, ap, sym, subst, ◌∙◌, ◌≡◌, ℕ, zero, suc, ◌+◌, ◌<◌, ◌≤◌, ◌⊎◌, inl, inr, List, [], ◌∷◌, ◌++◌, length, slice_get, None, Some, Ok, Err, arith}
use Rattle.std.proofs.lemmas.Option.{slice_get_within}
use Rattle.tp_check.specs.declared.refusal.CheckRefusal.{CheckRefusal}
use Rattle.tp_scope.specs.Scope.{Signature}
use Rattle.tp_check.specs.Outcome.{CheckOutcome, mapped, both, three}
use Rattle.tp_check.specs.Refusals.{Placed, operands_there, StandsIn, StandsAmong, Breaks, turn_of, IsNoLater, IsFirstBroken, AreKept}

-- ---- places in two lists, one behind the other

in_either : {A : Type 0} (xs ys : List A) (i : ℕ) (x : A) → slice_get (xs ++ ys) i ≡ Some x → (slice_get xs i ≡ Some x) ⊎ ((j : ℕ) × (i ≡ j + length xs) × (slice_get ys j ≡ Some x))
in_either [] ys i x e = inr (i, omega arith, e)
in_either (y ∷ xs) ys zero x e = inl e
in_either (y ∷ xs) ys (suc i) x e = one_later (in_either xs ys i x e)
  where
    one_later : (slice_get xs i ≡ Some x) ⊎ ((j : ℕ) × (i ≡ j + length xs) × (slice_get ys j ≡ Some x)) → (slice_get (y ∷ xs) (suc i) ≡ Some x) ⊎ ((j : ℕ) × (suc i ≡ j + length (y ∷ xs)) × (slice_get ys j ≡ Some x))
    one_later (inl h) = inl h
    one_later (inr h) = inr (h.0, omega (arith, h.1), h.2)

pub in_front : {A : Type 0} (xs ys : List A) (i : ℕ) (x : A) → slice_get xs i ≡ Some x → slice_get (xs ++ ys) i ≡ Some x
in_front [] ys i x e = absurd cc
in_front (y ∷ xs) ys zero x e = e
in_front (y ∷ xs) ys (suc i) x e = in_front xs ys i x e

pub behind : {A : Type 0} (xs ys : List A) (i : ℕ) (x : A) → slice_get ys i ≡ Some x → slice_get (xs ++ ys) (i + length xs) ≡ Some x
behind [] ys i x e = let same : i + 0 ≡ i = omega arith in ap (slice_get ys) same ∙ e
behind (y ∷ xs) ys i x e = let same : i + suc (length xs) ≡ suc (i + length xs) = omega arith in ap (slice_get (y ∷ (xs ++ ys))) same ∙ behind xs ys i x e

-- ---- orders of paths

sooner : (i j : ℕ) (is js : List ℕ) (e e' : CheckRefusal) → i < j → IsNoLater (i ∷ is) e (j ∷ js) e'
sooner i j is js e e' h = inl (inl h)

-- both are under one place, or each under a place that is so much greater
shifted : (n i j : ℕ) (is js : List ℕ) (e e' : CheckRefusal) → IsNoLater (i ∷ is) e (j ∷ js) e' → (i' j' : ℕ) → i' ≡ i + n → j' ≡ j + n → IsNoLater (i' ∷ is) e (j' ∷ js) e'
shifted n i j is js e e' h i' j' p q = by h
  where
    by : IsNoLater (i ∷ is) e (j ∷ js) e' → IsNoLater (i' ∷ is) e (j' ∷ js) e'
    by (inl (inl less)) = inl (inl (omega (arith, less, p, q)))
    by (inl (inr less)) = inl (inr (omega (arith, less.0, p, q), less.1))
    by (inr same) =
        let heads : i ≡ j = cc in
        let tails : is ≡ js = cc in
        let moved : i' ≡ j' = omega (arith, heads, p, q) in
        inr (cc, same.1)

under : (i : ℕ) (is js : List ℕ) (e e' : CheckRefusal) → IsNoLater is e js e' → IsNoLater (i ∷ is) e (i ∷ js) e'
under i is js e e' (inl less) = inl (inr (refl, less))
under i is js e e' (inr same) = inr (ap (λ ks. i ∷ ks) same.0, same.1)

pub not_under : (i : ℕ) (is js : List ℕ) (e e' : CheckRefusal) → IsNoLater (i ∷ is) e (i ∷ js) e' → IsNoLater is e js e'
not_under i is js e e' (inl (inl less)) = absurd (omega arith)
not_under i is js e e' (inl (inr less)) = inl less.1
not_under i is js e e' (inr same) = let tails : is ≡ js = cc in inr (tails, same.1)

-- ---- what is told

module _ (definitions : List Signature) where
  -- of what is made of these phrases, in this order
  abbrev pub Told : {A : Type 0} → List Placed → CheckOutcome A → Type 0
  Told ps (Ok x) = AreKept definitions ps
  Told ps (Err e) = IsFirstBroken definitions ps e

  pub none_there : AreKept definitions []
  none_there (i ∷ path) p e stands breaks = let none : None ≡ Some stands.0 = stands.1 in absurd cc
  none_there [] p e stands breaks = stands

  -- what is broken first among some phrases is so among all of them, at the place to which it moves
  moved_first : (rs all : List Placed) (e : CheckRefusal) (told : IsFirstBroken definitions rs e) (move : ℕ → ℕ) → ((i : ℕ) (r : Placed) → slice_get rs i ≡ Some r → slice_get all (move i) ≡ Some r)
      → ((i : ℕ) (path : List ℕ) → StandsAmong definitions rs (i ∷ path) told.broken_by → ((path' : List ℕ) (p : Placed) (e' : CheckRefusal) → StandsAmong definitions rs path' p → Breaks definitions p.position p.phrase e' → IsNoLater (i ∷ path) e path' e')
      → (i' : ℕ) (path' : List ℕ) (p r : Placed) (e' : CheckRefusal) → slice_get all i' ≡ Some r → StandsIn definitions r path' p → Breaks definitions p.position p.phrase e' → IsNoLater (move i ∷ path) e (i' ∷ path') e') → IsFirstBroken definitions all e
  moved_first rs all e told move there order = by_path told.path told.stands told.first
    where
      by_path : (path : List ℕ) → StandsAmong definitions rs path told.broken_by → ((path' : List ℕ) (p : Placed) (e' : CheckRefusal) → StandsAmong definitions rs path' p → Breaks definitions p.position p.phrase e' → IsNoLater path e path' e') → IsFirstBroken definitions all e
      by_path [] stands first = absurd stands
      by_path (i ∷ path) stands first = record { path = move i ∷ path; broken_by = told.broken_by; stands = (stands.0, there i stands.0 stands.1, stands.2); breaks = told.breaks; first = later }
        where
          later : (path' : List ℕ) (p : Placed) (e' : CheckRefusal) → StandsAmong definitions all path' p → Breaks definitions p.position p.phrase e' → IsNoLater (move i ∷ path) e path' e'
          later [] p e' stands' breaks = absurd stands'
          later (i' ∷ path') p e' stands' breaks = order i path stands first i' path' p stands'.0 e' stands'.1 stands'.2 breaks

  kept_before : {A : Type 0} (ps qs : List Placed) (o : CheckOutcome A) → AreKept definitions ps → Told qs o → Told (ps ++ qs) o
  kept_before ps qs (Ok x) kept told = kept_both
    where
      by_part : (i : ℕ) (path : List ℕ) (p r : Placed) (e : CheckRefusal) → StandsIn definitions r path p → Breaks definitions p.position p.phrase e
          → (slice_get ps i ≡ Some r) ⊎ ((j : ℕ) × (i ≡ j + length ps) × (slice_get qs j ≡ Some r)) → ⊥
      by_part i path p r e stands breaks (inl h) = kept (i ∷ path) p e (r, h, stands) breaks
      by_part i path p r e stands breaks (inr h) = told (h.0 ∷ path) p e (r, h.2, stands) breaks

      kept_both : AreKept definitions (ps ++ qs)
      kept_both [] p e stands breaks = stands
      kept_both (i ∷ path) p e stands breaks = by_part i path p stands.0 e stands.2 breaks (in_either ps qs i stands.0 stands.1)
  kept_before ps qs (Err e) kept told = moved_first qs (ps ++ qs) e told (λ i. i + length ps) (behind ps qs) (λ i path stands first i' path' p r e' is there breaks.
      elim (in_either ps qs i' r is) [
        | inl h ↦ absurd (kept (i' ∷ path') p e' (r, h, there) breaks)
        | inr h ↦ shifted (length ps) i h.0 path path' e e' (first (h.0 ∷ path') p e' (r, h.2, there) breaks) (i + length ps) i' refl h.1
      ])

  broken_before : (ps qs : List Placed) (e : CheckRefusal) → IsFirstBroken definitions ps e → IsFirstBroken definitions (ps ++ qs) e
  broken_before ps qs e told = moved_first ps (ps ++ qs) e told (λ i. i) (in_front ps qs) (λ i path stands first i' path' p r e' is there breaks.
      elim (in_either ps qs i' r is) [
        | inl h ↦ first (i' ∷ path') p e' (r, h, there) breaks
        | inr h ↦ let before : i < length ps = slice_get_within ps i stands.0 stands.1 in sooner i i' path path' e e' (omega (arith, h.1))
      ])

  pub mapped_told : {A B : Type 0} (g : A → B) (ps : List Placed) (o : CheckOutcome A) → Told ps o → Told ps (mapped g o)
  mapped_told g ps (Ok x) told = told
  mapped_told g ps (Err e) told = told

  pub both_told : {A B C : Type 0} (g : A → B → C) (ps qs : List Placed) (a : CheckOutcome A) (b : CheckOutcome B) → Told ps a → Told qs b → Told (ps ++ qs) (both g a b)
  both_told g ps qs (Ok x) b p q = kept_before ps qs (mapped (g x) b) p (mapped_told (g x) qs b q)
  both_told g ps qs (Err e) b p q = broken_before ps qs e p

  pub three_told : {A B C D : Type 0} (g : A → B → C → D) (p q r : Placed) (a : CheckOutcome A) (b : CheckOutcome B) (c : CheckOutcome C)
      → Told (p ∷ []) a → Told (q ∷ []) b → Told (r ∷ []) c → Told (p ∷ q ∷ r ∷ []) (three g a b c)
  three_told g p q r (Ok x) b c t u v = kept_before (p ∷ []) (q ∷ r ∷ []) (both (g x) b c) t (both_told (g x) (q ∷ []) (r ∷ []) b c u v)
  three_told g p q r (Err e) b c t u v = broken_before (p ∷ []) (q ∷ r ∷ []) e t

  -- ---- one phrase

  abbrev pub Keeps : Placed → Type 0
  Keeps p = (e : CheckRefusal) → Breaks definitions p.position p.phrase e → ⊥

  -- a phrase that breaks no rule, of which is made what is made of its operands
  pub operands_told : {A : Type 0} (p : Placed) → Keeps p → (o : CheckOutcome A) → Told (operands_there definitions p) o → Told (p ∷ []) o
  operands_told p keeps (Ok x) told = kept
    where
      kept : AreKept definitions (p ∷ [])
      kept [] q e stands breaks = stands
      kept (suc i ∷ path) q e stands breaks = let none : None ≡ Some stands.0 = stands.1 in absurd cc
      kept (zero ∷ []) q e stands breaks =
          let whole : p ≡ stands.0 = cc in
          keeps e (subst (λ (r : Placed). Breaks definitions r.position r.phrase e) (sym (whole ∙ stands.2)) breaks)
      kept (zero ∷ i ∷ path) q e stands breaks =
          let whole : p ≡ stands.0 = cc in
          told (i ∷ path) q e (subst (λ (r : Placed). StandsAmong definitions (operands_there definitions r) (i ∷ path) q) (sym whole) stands.2) breaks
  operands_told p keeps (Err e) told = first_under told.path told.stands told.first
    where
      first_under : (path : List ℕ) → StandsAmong definitions (operands_there definitions p) path told.broken_by
          → ((path' : List ℕ) (q : Placed) (e' : CheckRefusal) → StandsAmong definitions (operands_there definitions p) path' q → Breaks definitions q.position q.phrase e' → IsNoLater path e path' e')
          → IsFirstBroken definitions (p ∷ []) e
      first_under [] stands first = absurd stands
      first_under (j ∷ js) stands first =
          record {
            path = 0 ∷ j ∷ js;
            broken_by = told.broken_by;
            stands = (p, refl, stands);
            breaks = told.breaks;
            first = later;
          }
        where
          later : (path' : List ℕ) (q : Placed) (e' : CheckRefusal) → StandsAmong definitions (p ∷ []) path' q → Breaks definitions q.position q.phrase e' → IsNoLater (0 ∷ j ∷ js) e path' e'
          later [] q e' there breaks = absurd there
          later (suc i ∷ path') q e' there breaks = let none : None ≡ Some there.0 = there.1 in absurd cc
          later (zero ∷ []) q e' there breaks =
              let whole : p ≡ there.0 = cc in
              absurd (keeps e' (subst (λ (r : Placed). Breaks definitions r.position r.phrase e') (sym (whole ∙ there.2)) breaks))
          later (zero ∷ i ∷ path') q e' there breaks =
              let whole : p ≡ there.0 = cc in
              under 0 (j ∷ js) (i ∷ path') e e' (first (i ∷ path') q e' (subst (λ (r : Placed). StandsAmong definitions (operands_there definitions r) (i ∷ path') q) (sym whole) there.2) breaks)

  -- and the other way round
  pub told_of_operands : {A : Type 0} (p : Placed) → Keeps p → (o : CheckOutcome A) → Told (p ∷ []) o → Told (operands_there definitions p) o
  told_of_operands p keeps (Ok x) told = kept
    where
      kept : AreKept definitions (operands_there definitions p)
      kept [] q e stands breaks = stands
      kept (i ∷ path) q e stands breaks = told (0 ∷ i ∷ path) q e (p, refl, stands) breaks
  told_of_operands p keeps (Err e) told = first_in told.path told.stands told.first
    where
      first_in : (path : List ℕ) → StandsAmong definitions (p ∷ []) path told.broken_by
          → ((path' : List ℕ) (q : Placed) (e' : CheckRefusal) → StandsAmong definitions (p ∷ []) path' q → Breaks definitions q.position q.phrase e' → IsNoLater path e path' e')
          → IsFirstBroken definitions (operands_there definitions p) e
      first_in [] stands first = absurd stands
      first_in (suc i ∷ path) stands first = let none : None ≡ Some stands.0 = stands.1 in absurd cc
      first_in (zero ∷ []) stands first =
          let whole : p ≡ stands.0 = cc in
          absurd (keeps e (subst (λ (r : Placed). Breaks definitions r.position r.phrase e) (sym (whole ∙ stands.2)) told.breaks))
      first_in (zero ∷ j ∷ js) stands first =
          let whole : p ≡ stands.0 = cc in
          record {
            path = j ∷ js;
            broken_by = told.broken_by;
            stands = subst (λ (r : Placed). StandsAmong definitions (operands_there definitions r) (j ∷ js) told.broken_by) (sym whole) stands.2;
            breaks = told.breaks;
            first = later;
          }
        where
          later : (path' : List ℕ) (q : Placed) (e' : CheckRefusal) → StandsAmong definitions (operands_there definitions p) path' q → Breaks definitions q.position q.phrase e' → IsNoLater (j ∷ js) e path' e'
          later [] q e' there breaks = absurd there
          later (i ∷ path') q e' there breaks = not_under 0 (j ∷ js) (i ∷ path') e e' (first (0 ∷ i ∷ path') q e' (p, refl, there) breaks)

  -- a phrase that breaks a rule, and none that comes before this one
  pub broken_told : (p : Placed) (e : CheckRefusal) → Breaks definitions p.position p.phrase e → ((e' : CheckRefusal) → Breaks definitions p.position p.phrase e' → turn_of e ≤ turn_of e') → IsFirstBroken definitions (p ∷ []) e
  broken_told p e breaks least = record { path = 0 ∷ []; broken_by = p; stands = (p, refl, refl); breaks = breaks; first = later }
    where
      later : (path' : List ℕ) (q : Placed) (e' : CheckRefusal) → StandsAmong definitions (p ∷ []) path' q → Breaks definitions q.position q.phrase e' → IsNoLater (0 ∷ []) e path' e'
      later [] q e' there other = absurd there
      later (suc i ∷ path') q e' there other = let none : None ≡ Some there.0 = there.1 in absurd cc
      later (zero ∷ []) q e' there other =
          let whole : p ≡ there.0 = cc in
          inr (refl, least e' (subst (λ (r : Placed). Breaks definitions r.position r.phrase e') (sym (whole ∙ there.2)) other))
      later (zero ∷ i ∷ path') q e' there other = inl (inr (refl, tt))
