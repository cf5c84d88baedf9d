-- An equation where more is known: of two places by shape, which stays so, and of sides that come to places.
use Rattle.std.proofs.Common.{◌≡◌, ◌⊎◌, ◌||◌, inl, inr, Bool, true, false, List, [], ◌∷◌, ◌++◌, Option, Some, None, refl, sym, ◌∙◌, subst, if◌then◌else◌}
use Rattle.std.proofs.lemmas.Bool.{or_cases, or_left, or_right}
use Rattle.tp_value.specs.declared.value.Shape.{Shape}
use Rattle.tp_value.specs.declared.path.Path.{Path}
use Rattle.tp_value.specs.declared.path.Fact.{Fact}
use Rattle.tp_kernel.specs.declared.fault.FaultKind.TheVariants.{NoElement}
use Rattle.tp_kernel.specs.declared.fault.LimitKind.{LimitKind}
use Rattle.tp_store.specs.Facts.{kept_shape, is_excluded, fact}
use Rattle.tp_store.specs.Known.{NoClash, Addition, adds, refuses, addition}
use Rattle.tp_store.proofs.Members.{In, in_left, in_right, in_kept, kept_in}
use Rattle.tp_store.proofs.Adding.{adds_all, given_in}
use Rattle.tp_store.proofs.States.{no_clash_arises}
use Rattle.tp_eval.specs.Outcome as found
use Rattle.tp_scene.specs.declared.answer.Clash.TheVariants.{NoValue}
use Rattle.tp_scene.specs.Step.{PickOutcome, clashes, Numbers, shares, Target, value_at, length_at, SideOf, by_shapes, equate_places, passes_or_waits, equate_values, equate}
use Rattle.tp_step_laws.specs.Outcomes.{KnowsMore, StaysKnown}
use Rattle.tp_step_laws.specs.Within.{LengthsAreWithin}
use Rattle.tp_step_laws.specs.Rows.{IsFailure, GrownTo}
use Rattle.tp_step_laws.proofs.FactsGrow.{facts_grow, kept_before}
use Rattle.tp_step_laws.proofs.Kept.{adds_none}
use Rattle.tp_step_laws.proofs.EqGrow.{bad_grown, side, SideGrows, no_path, AdditionGrows, additions_grow, waiting_grows, parts_grow}

shares_from : (gs : List Fact) (p q : Path) (sh : Shape) (n : Numbers) (a b : Addition) → AdditionGrows gs a b → GrownTo gs (shares p q sh n a) (shares p q sh n b)
shares_from gs p q sh n (adds news) (adds more) h = record { news = refl; items = refl; regions = refl; local = refl; mark = refl; facts = h }
shares_from gs p q sh n (refuses o n') (adds more) h = absurd h
shares_from gs p q sh n a b h = tt

-- where both sides have come to places, one of them was none
abbrev pub OneArises : (l l' r r' : Option Target) → Type 0
OneArises l l' r r' = (p q : Path) → l' ≡ Some (value_at p) → r' ≡ Some (value_at q) → (l ≡ None) ⊎ (r ≡ None)

module _ (fs gs : List Fact) (fc : NoClash fs) (gc : NoClash gs) (more : KnowsMore fs gs) (within : LengthsAreWithin gs) where
  abbrev stays : StaysKnown fs gs
  stays = facts_grow fs gs fc gc more

  abbrev one : Path → Shape → List Fact
  one x sh = fact x sh ∷ []

  one_grows : (x : Path) (sh : Shape) → AdditionGrows gs (addition fs (one x sh)) (addition gs (one x sh))
  one_grows x sh = additions_grow fs gs fc gc more within (one x sh) (refl, refl, tt)

  kept_one : (x : Path) (sh : Shape) → kept_shape gs x ≡ Some sh → addition gs (one x sh) ≡ adds []
  kept_one x sh k = adds_none gs (one x sh) gc (λ f i. elim i [ inl e ↦ subst (λ (g : Fact). In g gs) e (kept_in gs x sh k) | inr j ↦ absurd j ])

  module _ (p q : Path) (n : Numbers) where
    -- the left one's shape was added to the right one, which has one now
    late : (sh sh' : Shape) → kept_shape gs q ≡ Some sh' → kept_shape gs p ≡ Some sh → GrownTo gs (shares p q sh n (addition fs (one q sh))) (shares p q sh' n (addition gs (one p sh')))
    late sh sh' kq kp = go (addition gs (one p sh')) refl
      where
        go : (b : Addition) → addition gs (one p sh') ≡ b → GrownTo gs (shares p q sh n (addition fs (one q sh))) (shares p q sh' n b)
        go (refuses old new) e = bad_grown gs (shares p q sh n (addition fs (one q sh))) (shares p q sh' n (refuses old new)) tt
        go (adds news) e =
            let a = adds_all gs (one p sh') news e in
            let apart = no_clash_arises.adding gs (one p sh') news e gc (refl, refl, tt) in
            let i : In (fact p sh') (gs ++ news) = elim (given_in gs (one p sh') news a (fact p sh') (inl refl)) [ inl j ↦ in_left (fact p sh') gs news j | inr j ↦ in_right (fact p sh') gs news j ] in
            let y : Some sh ≡ Some sh' = sym (kept_before gs news p sh kp) ∙ in_kept (gs ++ news) (fact p sh') apart i in
            let s : sh ≡ sh' = cc in
            let none : adds news ≡ adds [] = sym e ∙ kept_one p sh' (kp ∙ y) in
            let grown : AdditionGrows gs (addition fs (one q sh)) (adds []) = subst (λ (b : Addition). AdditionGrows gs (addition fs (one q sh)) b) (kept_one q sh (kq ∙ sym y)) (one_grows q sh) in
            subst (λ (x : Shape). GrownTo gs (shares p q sh n (addition fs (one q sh))) (shares p q x n (adds news))) s
            (subst (λ (b : Addition). GrownTo gs (shares p q sh n (addition fs (one q sh))) (shares p q sh n b)) (sym none)
            (shares_from gs p q sh n (addition fs (one q sh)) (adds []) grown))

    shapes_grow : (s t s' t' : Option Shape) → kept_shape fs q ≡ s → kept_shape fs p ≡ t → kept_shape gs q ≡ s' → kept_shape gs p ≡ t' → GrownTo gs (by_shapes fs p q n s t) (by_shapes gs p q n s' t')
    shapes_grow (Some sh) t s' t' x y z v =
        let e : s' ≡ Some sh = sym z ∙ more q sh x in
        subst (λ (o : Option Shape). GrownTo gs (shares p q sh n (addition fs (one p sh))) (by_shapes gs p q n o t')) (sym e)
        (shares_from gs p q sh n (addition fs (one p sh)) (addition gs (one p sh)) (one_grows p sh))
    shapes_grow None (Some sh) None t' x y z v =
        let e : t' ≡ Some sh = sym v ∙ more p sh y in
        subst (λ (o : Option Shape). GrownTo gs (shares p q sh n (addition fs (one q sh))) (by_shapes gs p q n None o)) (sym e)
        (shares_from gs p q sh n (addition fs (one q sh)) (addition gs (one q sh)) (one_grows q sh))
    shapes_grow None (Some sh) (Some sh') t' x y z v = late sh sh' z (more p sh y)
    shapes_grow None None s' t' x y z v = tt

    absent_grows : (a c : Bool) (o u : PickOutcome) → (a ≡ true → c ≡ true) → GrownTo gs o u → GrownTo gs (if a then clashes (NoValue NoElement) else o) (if c then clashes (NoValue NoElement) else u)
    absent_grows true true o u h g = tt
    absent_grows true false o u h g = absurd (let z = h refl in cc)
    absent_grows false true o u h g = bad_grown gs o (clashes (NoValue NoElement)) tt
    absent_grows false false o u h g = g

    stays_absent : (is_excluded fs q || is_excluded fs p) ≡ true → (is_excluded gs q || is_excluded gs p) ≡ true
    stays_absent e = elim (or_cases (is_excluded fs q) (is_excluded fs p) e) [
      | inl x ↦ or_left (is_excluded gs q) (is_excluded gs p) (stays.excluded q x)
      | inr x ↦ or_right (is_excluded gs q) (is_excluded gs p) (stays.excluded p x)
    ]

    places_grow : GrownTo gs (equate_places fs p q n) (equate_places gs p q n)
    places_grow = absent_grows (is_excluded fs q || is_excluded fs p) (is_excluded gs q || is_excluded gs p) (by_shapes fs p q n (kept_shape fs q) (kept_shape fs p)) (by_shapes gs p q n (kept_shape gs q) (kept_shape gs p)) stays_absent
        (shapes_grow (kept_shape fs q) (kept_shape fs p) (kept_shape gs q) (kept_shape gs p) refl refl refl refl)

    absent_fails : (is_excluded gs q || is_excluded gs p) ≡ true → IsFailure (equate_places gs p q n)
    absent_fails e = subst (λ (b : Bool). IsFailure (if b then clashes (NoValue NoElement) else by_shapes gs p q n (kept_shape gs q) (kept_shape gs p))) (sym e) tt

    -- a side that waited has come to a place, and the other one is one
    abbrev Arrives : Bool → Bool → Option Target → Option Target → found.Outcome → found.Outcome → Type 0
    Arrives b c l r x y = GrownTo gs (equate_values fs (side b l x) (side c r y)) (equate_places gs p q n)

    over_waits : (t : Option Target) (k : LimitKind) (o' : found.Outcome) (x o : Path) → SideGrows gs t (found.over k) (Some (value_at x)) o' → GrownTo gs (passes_or_waits fs t o k) (equate_places gs p q n)
    over_waits (Some (value_at z)) k o' x o s = tt
    over_waits (Some (length_at z)) k o' x o s = absurd (let e = s.target (length_at z) refl in cc)
    over_waits None k o' x o s = absurd (no_path gs None (Some (value_at x)) k o' s x refl refl)

    left_arrives : (b c : Bool) (r : Option Target) (o : Path) (y y' : found.Outcome) → SideGrows gs r y (Some (value_at q)) y' → Arrives b c None r (found.wait o) y
    left_arrives b c r o (found.value v) y' d = tt
    left_arrives b c r o (found.wait w) y' d = waiting_grows fs gs fc gc more within b c o w _
    left_arrives b c r o (found.fault k) y' d = absent_fails (or_left (is_excluded gs q) (is_excluded gs p) (d.absent q k refl d.grown))
    left_arrives b c r o (found.over k) y' d = over_waits r k y' q o d

    right_arrives : (b c : Bool) (l : Option Target) (o : Path) (x x' : found.Outcome) → SideGrows gs l x (Some (value_at p)) x' → Arrives b c l None x (found.wait o)
    right_arrives b c l o (found.value v) x' d = tt
    right_arrives b c l o (found.wait w) x' d = waiting_grows fs gs fc gc more within b c w o _
    right_arrives b c l o (found.fault k) x' d = absent_fails (or_right (is_excluded gs q) (is_excluded gs p) (d.absent p k refl d.grown))
    right_arrives b c l o (found.over k) x' d = over_waits l k x' p o d

    arrives : (b c : Bool) (l r : Option Target) (x y x' y' : found.Outcome) → SideGrows gs l x (Some (value_at p)) x' → SideGrows gs r y (Some (value_at q)) y' → (l ≡ None) ⊎ (r ≡ None) → Arrives b c l r x y
    arrives b c l r x y x' y' s d (inl e) =
        let w = s.arises p e refl in
        subst (λ (t : Option Target). Arrives b c t r x y) (sym e) (subst (λ (o : found.Outcome). Arrives b c None r o y) (sym w.1) (left_arrives b c r w.0 y y' d))
    arrives b c l r x y x' y' s d (inr e) =
        let w = d.arises q e refl in
        subst (λ (t : Option Target). Arrives b c l t x y) (sym e) (subst (λ (o : found.Outcome). Arrives b c l None x o) (sym w.1) (right_arrives b c l w.0 x x' s))

  -- by what the sides have come to
  from_values : (b c : Bool) (l l' r r' : Option Target) (x y x' y' : found.Outcome) (n : Numbers) → SideGrows gs l x l' x' → SideGrows gs r y r' y'
      → OneArises l l' r r' → GrownTo gs (equate_values fs (side b l x) (side c r y)) (equate gs (side b l' x') (side c r' y') n)
  from_values b c l (Some (value_at p)) r (Some (value_at q)) x y x' y' n s d h = arrives p q n b c l r x y x' y' s d (h p q refl refl)
  from_values b c l l' r r' x y x' y' n s d h = parts_grow fs gs fc gc more within b c l l' r r' x y x' y' s d

  -- by what they were
  targets_grow : (b c : Bool) (l l' r r' : Option Target) (x y x' y' : found.Outcome) (n : Numbers) → SideGrows gs l x l' x' → SideGrows gs r y r' y' → GrownTo gs (equate fs (side b l x) (side c r y) n) (equate gs (side b l' x') (side c r' y') n)
  targets_grow b c (Some (value_at p)) l' (Some (value_at q)) r' x y x' y' n s d =
      subst (λ (t : Option Target). GrownTo gs (equate_places fs p q n) (equate gs (side b t x') (side c r' y') n)) (sym (s.target (value_at p) refl))
      (subst (λ (t : Option Target). GrownTo gs (equate_places fs p q n) (equate gs (side b (Some (value_at p)) x') (side c t y') n)) (sym (d.target (value_at q) refl)) (places_grow p q n))
  targets_grow b c (Some (value_at p)) l' (Some (length_at q)) r' x y x' y' n s d =
      from_values b c (Some (value_at p)) l' (Some (length_at q)) r' x y x' y' n s d (λ v w h k. absurd (let e : Some (length_at q) ≡ Some (value_at w) = sym (d.target (length_at q) refl) ∙ k in cc))
  targets_grow b c (Some (value_at p)) l' None r' x y x' y' n s d = from_values b c (Some (value_at p)) l' None r' x y x' y' n s d (λ v w h k. inr refl)
  targets_grow b c (Some (length_at p)) l' r r' x y x' y' n s d =
      from_values b c (Some (length_at p)) l' r r' x y x' y' n s d (λ v w h k. absurd (let e : Some (length_at p) ≡ Some (value_at v) = sym (s.target (length_at p) refl) ∙ h in cc))
  targets_grow b c None l' r r' x y x' y' n s d = from_values b c None l' r r' x y x' y' n s d (λ v w h k. inl refl)

  pub equate_grows : (l r l' r' : SideOf) (n : Numbers) → l'.placed ≡ l.placed → r'.placed ≡ r.placed → SideGrows gs l.target l.found l'.target l'.found → SideGrows gs r.target r.found r'.target r'.found → GrownTo gs (equate fs l r n) (equate gs l' r' n)
  equate_grows l r l' r' n a b s d = subst (λ (x : Bool). GrownTo gs (equate fs l r n) (equate gs (side x l'.target l'.found) r' n)) (sym a)
      (subst (λ (y : Bool). GrownTo gs (equate fs l r n) (equate gs (side l.placed l'.target l'.found) (side y r'.target r'.found) n)) (sym b)
      (targets_grow l.placed r.placed l.target l'.target r.target r'.target l.found r.found l'.found r'.found n s d))
