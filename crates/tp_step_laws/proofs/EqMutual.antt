-- An equation that added facts adds them also where another step's facts came first, if nothing clashes where both are known.
use Rattle.std.proofs.Common.{◌≡◌, ◌||◌, inl, inr, pos, negsuc, nat_lt, Bool, true, false, not, ◌&&◌, List, [], ◌∷◌, Option, Some, None, refl, ap, sym, ◌∙◌, subst, if◌then◌else◌}
use Rattle.std.proofs.lemmas.Bool.{both_ways, or_cases}
use Rattle.tp_value.specs.Tree.{Tree, num, truth, list, same_tree}
use Rattle.tp_value.specs.Limits.{length_limit}
use Rattle.tp_value.specs.Room.{IsWithinListLimit}
use Rattle.tp_value.specs.declared.path.Path.{Path}
use Rattle.tp_value.specs.declared.path.Fact.{Fact}
use Rattle.tp_value.specs.declared.value.Shape.{Shape}
use Rattle.tp_value.specs.declared.value.Shape.TheVariants.{Items}
use Rattle.tp_kernel.specs.declared.fault.FaultKind.{FaultKind}
use Rattle.tp_kernel.specs.declared.fault.FaultKind.TheVariants.{NoElement}
use Rattle.tp_kernel.specs.declared.fault.LimitKind.{LimitKind}
use Rattle.tp_kernel.specs.declared.fault.LimitKind.TheVariants as limit
use Rattle.tp_store.specs.Facts.{clash, kept_shape, is_excluded, fact, facts_at}
use Rattle.tp_store.specs.Known.{NoClash, Addition, adds, refuses, new_facts, addition}
use Rattle.tp_store.proofs.Members.{In, apart_in, kept_in, in_kept}
use Rattle.tp_store.proofs.Adding.{refused_by}
use Rattle.tp_eval.specs.Outcome as found
use Rattle.tp_scene.specs.declared.answer.Cell.TheVariants.{Part}
use Rattle.tp_scene.specs.declared.answer.Clash.TheVariants.{False, NoValue}
use Rattle.tp_scene.specs.Step.{Reduction, PickOutcome, reduces, waits, clashes, passes, Numbers, vanishes, knows, added, shares, Target, value_at, length_at, set, meets, by_shapes, equate_places, passes_or_waits, equate_values}
use Rattle.tp_step_laws.specs.Outcomes.{KnowsMore, GrownOutcome}
use Rattle.tp_step_laws.specs.Within.{LengthsAreWithin}
use Rattle.tp_step_laws.specs.Rows.{IsFailure}
use Rattle.tp_step_laws.proofs.FactsGrow.{facts_grow, in_more}
use Rattle.tp_step_laws.proofs.Kept.{TargetKnown, target_facts, target_apart, reduced_facts, set_adds}
use Rattle.tp_step_laws.proofs.EqGrow.{side, SideGrows, switch_to, same_switch}

-- what a value can be set to
abbrev pub Settable : Target → Tree → Type 0
Settable (value_at p) v = Unit {0}
Settable (length_at p) (num (pos n)) = Unit {0}
Settable (length_at p) (num (negsuc n)) = ⊥
Settable (length_at p) (truth b) = ⊥
Settable (length_at p) (list ts) = ⊥

abbrev pub IsOver : found.Outcome → Type 0
IsOver (found.over k) = Unit {0}
IsOver (found.value t) = ⊥
IsOver (found.wait p) = ⊥
IsOver (found.fault k) = ⊥

-- A side where less is known, where more is, and where most is: there what was set has its value.
pub record SideKnows (gs hs : List Fact) (t : Option Target) (o : found.Outcome) (t' : Option Target) (o' o'' : found.Outcome) : Type 0 where
  pub sides : SideGrows gs t o t' o'
  pub grown : GrownOutcome o' o''
  pub set : (x : Target) (v : Tree) → t ≡ Some x → (IsOver o → ⊥) → Settable x v → ((f : Fact) → In f (target_facts x v) → In f hs) → IsWithinListLimit v → o'' ≡ found.value v

module _ (fs gs hs : List Fact) (fc : NoClash fs) (gc : NoClash gs) (hc : NoClash hs) (knows_gs : KnowsMore fs gs) (knows_hs : KnowsMore gs hs) (within : LengthsAreWithin gs) where
  not_bad : (news : List Fact) (o : PickOutcome) → o ≡ knows news → IsFailure o → ⊥
  not_bad news o e b = subst (λ (x : PickOutcome). IsFailure x) e b

  settable : (x : Target) (v : Tree) (news : List Fact) → set fs x v ≡ knows news → Settable x v
  settable (value_at p) v news e = tt
  settable (length_at p) (num (pos n)) news e = tt
  settable (length_at p) t news e = absurd (cc)

  adding_ok : (facts : List Fact) → ((f : Fact) → In f facts → In f hs) → IsFailure (added (addition gs facts)) → ⊥
  adding_ok facts all = go (addition gs facts) refl
    where
      go : (a : Addition) → addition gs facts ≡ a → IsFailure (added a) → ⊥
      go (adds news) e b = b
      go (refuses old new) e b =
          let r = refused_by gs facts (new_facts gs facts) old new e in
          both_ways (clash old new) (apart_in hs old new hc (in_more gs hs gc hc knows_hs old r.old_kept) (all new r.new_given)) r.clashes

  set_ok : (x : Target) (v : Tree) (news : List Fact) → set fs x v ≡ knows news → ((f : Fact) → In f (target_facts x v) → In f hs) → IsFailure (set gs x v) → ⊥
  set_ok (value_at p) v news e all = adding_ok (facts_at p v) all
  set_ok (length_at p) (num (pos n)) news e all = go (nat_lt length_limit n) e
    where
      go : (b : Bool) → (if b then passes limit.List else added (addition fs (fact p (Items n) ∷ []))) ≡ knows news → IsFailure (if b then passes limit.List else added (addition gs (fact p (Items n) ∷ []))) → ⊥
      go true e = absurd (cc)
      go false e = adding_ok (fact p (Items n) ∷ []) all
  set_ok (length_at p) t news e all = absurd (cc)

  -- what has a value where most is known is no fault and passes no limit where more is
  no_fault : (o : found.Outcome) (v : Tree) (k : FaultKind) → GrownOutcome (found.fault k) o → o ≡ found.value v → ⊥
  no_fault o v k g e = let z : found.fault k ≡ found.value v = sym g ∙ e in cc

  no_limit : (o : found.Outcome) (v : Tree) (k : LimitKind) → GrownOutcome (found.over k) o → o ≡ found.value v → ⊥
  no_limit o v k g e = let z : found.over k ≡ found.value v = sym g ∙ e in cc

  -- all that was added is known where most is, and values that are set are within the limits
  module _ (news : List Fact) (added_there : (xs : List Fact) → NoClash xs → addition fs xs ≡ adds news → (f : Fact) → In f xs → In f hs) where
    all : (x : Target) (v : Tree) → set fs x v ≡ knows news → (f : Fact) → In f (target_facts x v) → In f hs
    all x v e = added_there (target_facts x v) (target_apart x v) (set_adds fs x v news e)

    waiting_unknown : (z : Bool) (p q : Path) → (if z then waits (Part p) (Some (Part q)) else waits (Part q) (Some (Part p))) ≡ knows news → ⊥
    waiting_unknown true p q e = cc
    waiting_unknown false p q e = cc

    passing_unknown : (t : Option Target) (p : Path) (k : LimitKind) → passes_or_waits fs t p k ≡ knows news → ⊥
    passing_unknown (Some (value_at q)) p k e = cc
    passing_unknown (Some (length_at q)) p k e = cc
    passing_unknown None p k e = cc

    -- the right side has the value v, and the left one was set or compared
    left_ok : (b c : Bool) (l l' r' : Option Target) (x x' x'' : found.Outcome) (v : Tree) → IsWithinListLimit v → (IsOver x → ⊥) → SideKnows gs hs l x l' x' x''
        → meets fs (side b l x) v ≡ knows news → IsFailure (equate_values gs (side b l' x') (side c r' (found.value v))) → ⊥
    left_ok b c (Some t) l' r' x x' x'' v small over k e =
        let value = k.set t v refl over (settable t v news e) (all t v e) small in
        go x' k.grown value
      where
        here : IsFailure (set gs t v) → ⊥
        here = set_ok t v news e (all t v e)

        moved : (o : found.Outcome) → IsFailure (meets gs (side b l' o) v) → ⊥
        moved o = subst (λ (y : Option Target). IsFailure (meets gs (side b y o) v) → ⊥) (sym (k.sides.target t refl)) here

        go : (o : found.Outcome) → GrownOutcome o x'' → x'' ≡ found.value v → IsFailure (equate_values gs (side b l' o) (side c r' (found.value v))) → ⊥
        go (found.value u) g h = moved (found.value u)
        go (found.wait p) g h = moved (found.wait p)
        go (found.fault j) g h = absurd (no_fault x'' v j g h)
        go (found.over j) g h = absurd (no_limit x'' v j g h)
    left_ok b c None l' r' (found.value u) x' x'' v small over k e =
        subst (λ (o : found.Outcome). IsFailure (equate_values gs (side b l' o) (side c r' (found.value v))) → ⊥) (sym k.sides.grown)
        (subst (λ (t : Option Target). IsFailure (meets gs (side b t (found.value u)) v) → ⊥) (sym (k.sides.none refl u refl)) (go (same_tree u v) e))
      where
        go : (q : Bool) → (if q then vanishes else clashes False) ≡ knows news → IsFailure (if q then vanishes else clashes False) → ⊥
        go true e = λ z. z
        go false e = absurd (cc)
    left_ok b c None l' r' o x' x'' v small over k e = absurd (cc)

    -- the left side has the value u, and the right one, which waited, was set
    right_ok : (b c : Bool) (l' r r' : Option Target) (p : Path) (y' y'' : found.Outcome) (u : Tree) → IsWithinListLimit u → ((x : Target) → l' ≡ Some x → TargetKnown gs x u)
        → SideKnows gs hs r (found.wait p) r' y' y'' → meets fs (side c r (found.wait p)) u ≡ knows news → IsFailure (equate_values gs (side b l' (found.value u)) (side c r' y')) → ⊥
    right_ok b c l' None r' p y' y'' u small left k e = absurd (cc)
    right_ok b c l' (Some t) r' p y' y'' u small left k e = go y' k.grown (k.set t u refl (λ z. z) (settable t u news e) (all t u e) small)
      where
        go : (o : found.Outcome) → GrownOutcome o y'' → y'' ≡ found.value u → IsFailure (equate_values gs (side b l' (found.value u)) (side c r' o)) → ⊥
        go (found.value v) g h =
            let q : found.value v ≡ found.value u = sym g ∙ h in
            let s : v ≡ u = cc in
            subst (λ (z : Tree). IsFailure (switch_to fs gs fc gc knows_gs within b l' u z) → ⊥) (sym s) (not_bad [] _ (same_switch fs gs fc gc knows_gs within b l' u left))
        go (found.wait q) g h = subst (λ (z : Option Target). IsFailure (meets gs (side c z (found.wait q)) u) → ⊥) (sym (k.sides.target t refl)) (set_ok t u news e (all t u e))
        go (found.fault j) g h = absurd (no_fault y'' u j g h)
        go (found.over j) g h = absurd (no_limit y'' u j g h)

    pub equate_values_ok : (b c : Bool) (l l' r r' : Option Target) (x x' x'' y y' y'' : found.Outcome) → ((v : Tree) → x ≡ found.value v → IsWithinListLimit v) → ((v : Tree) → y ≡ found.value v → IsWithinListLimit v)
        → SideKnows gs hs l x l' x' x'' → SideKnows gs hs r y r' y' y'' → equate_values fs (side b l x) (side c r y) ≡ knows news → IsFailure (equate_values gs (side b l' x') (side c r' y')) → ⊥
    equate_values_ok b c l l' r r' (found.value u) x' x'' (found.value v) y' y'' sx sy k d e =
        subst (λ (o : found.Outcome). IsFailure (equate_values gs (side b l' x') (side c r' o)) → ⊥) (sym d.sides.grown) (left_ok b c l l' r' (found.value u) x' x'' v (sy v refl) (λ z. z) k e)
    equate_values_ok b c l l' r r' (found.wait p) x' x'' (found.value v) y' y'' sx sy k d e =
        subst (λ (o : found.Outcome). IsFailure (equate_values gs (side b l' x') (side c r' o)) → ⊥) (sym d.sides.grown) (left_ok b c l l' r' (found.wait p) x' x'' v (sy v refl) (λ z. z) k e)
    equate_values_ok b c l l' r r' (found.value u) x' x'' (found.wait q) y' y'' sx sy k d e =
        subst (λ (o : found.Outcome). IsFailure (equate_values gs (side b l' o) (side c r' y')) → ⊥) (sym k.sides.grown) (right_ok b c l' r r' q y' y'' u (sx u refl) (λ t h. k.sides.known t u h k.sides.grown) d e)
    equate_values_ok b c l l' r r' (found.wait p) x' x'' (found.wait q) y' y'' sx sy k d e = absurd (waiting_unknown (c && not b) p q e)
    equate_values_ok b c l l' r r' (found.value u) x' x'' (found.fault j) y' y'' sx sy k d e = absurd (cc)
    equate_values_ok b c l l' r r' (found.value u) x' x'' (found.over j) y' y'' sx sy k d e = absurd (cc)
    equate_values_ok b c l l' r r' (found.wait p) x' x'' (found.fault j) y' y'' sx sy k d e = absurd (cc)
    equate_values_ok b c l l' r r' (found.wait p) x' x'' (found.over j) y' y'' sx sy k d e = absurd (passing_unknown r p j e)
    equate_values_ok b c l l' r r' (found.fault i) x' x'' (found.value v) y' y'' sx sy k d e = absurd (cc)
    equate_values_ok b c l l' r r' (found.fault i) x' x'' (found.wait q) y' y'' sx sy k d e = absurd (cc)
    equate_values_ok b c l l' r r' (found.fault i) x' x'' (found.fault j) y' y'' sx sy k d e = absurd (cc)
    equate_values_ok b c l l' r r' (found.fault i) x' x'' (found.over j) y' y'' sx sy k d e = absurd (cc)
    equate_values_ok b c l l' r r' (found.over i) x' x'' (found.value v) y' y'' sx sy k d e = absurd (cc)
    equate_values_ok b c l l' r r' (found.over i) x' x'' (found.wait q) y' y'' sx sy k d e = absurd (passing_unknown l q i e)
    equate_values_ok b c l l' r r' (found.over i) x' x'' (found.fault j) y' y'' sx sy k d e = absurd (cc)
    equate_values_ok b c l l' r r' (found.over i) x' x'' (found.over j) y' y'' sx sy k d e = absurd (cc)

    -- two places: the shape that the one had is the other's where most is known
    module _ (p q : Path) (n : Numbers) where
      abbrev Alike : Type 0
      Alike = (sh : Shape) × (kept_shape hs p ≡ Some sh) × (kept_shape hs q ≡ Some sh)

      shared : (x : Path) (sh : Shape) → addition fs (fact x sh ∷ []) ≡ adds news → kept_shape hs x ≡ Some sh
      shared x sh e = in_kept hs (fact x sh) hc (added_there (fact x sh ∷ []) (refl, refl, tt) e (fact x sh) (inl refl))

      most : (x : Path) (sh : Shape) → kept_shape fs x ≡ Some sh → kept_shape hs x ≡ Some sh
      most x sh k = knows_hs x sh (knows_gs x sh k)

      by_addition : (r : Reduction) (sh : Shape) → r.facts ≡ news → (o : Addition) → shares p q sh n o ≡ reduces r → o ≡ adds news
      by_addition r sh is (refuses f g) e = absurd (cc)
      by_addition r sh is (adds ns) e = ap adds (reduced_facts _ r e ∙ is)

      alike : (r : Reduction) → r.facts ≡ news → (b : Bool) (s t : Option Shape) → kept_shape fs q ≡ s → kept_shape fs p ≡ t → (if b then clashes (NoValue NoElement) else by_shapes fs p q n s t) ≡ reduces r → Alike
      alike r is true s t x y e = absurd (cc)
      alike r is false None None x y e = absurd (cc)
      alike r is false (Some sh) t x y e = (sh, shared p sh (by_addition r sh is (addition fs (fact p sh ∷ [])) e), most q sh x)
      alike r is false None (Some sh) x y e = (sh, most p sh y, shared q sh (by_addition r sh is (addition fs (fact q sh ∷ [])) e))

      shares_ok : (sh : Shape) (o : Addition) → (IsFailure (added o) → ⊥) → IsFailure (shares p q sh n o) → ⊥
      shares_ok sh (adds ns) h b = b
      shares_ok sh (refuses f g) h b = h tt

      -- what one of them has where more is known, the other has where most is
      in_most : (x y : Path) (sh sh' : Shape) → kept_shape hs x ≡ Some sh → kept_shape hs y ≡ Some sh → kept_shape gs x ≡ Some sh' → (f : Fact) → In f (fact y sh' ∷ []) → In f hs
      in_most x y sh sh' kx ky g f (inl e) =
          let z : Some sh ≡ Some sh' = sym kx ∙ knows_hs x sh' g in
          subst (λ (u : Fact). In u hs) e (kept_in hs y sh' (ky ∙ z))
      in_most x y sh sh' kx ky g f (inr j) = absurd j

      shapes_ok : Alike → (s t : Option Shape) → kept_shape gs q ≡ s → kept_shape gs p ≡ t → IsFailure (by_shapes gs p q n s t) → ⊥
      shapes_ok h (Some sh) t x y b = shares_ok sh (addition gs (fact p sh ∷ [])) (adding_ok (fact p sh ∷ []) (in_most q p h.0 sh h.2 h.1 x)) b
      shapes_ok h None (Some sh) x y b = shares_ok sh (addition gs (fact q sh ∷ [])) (adding_ok (fact q sh ∷ []) (in_most p q h.0 sh h.1 h.2 y)) b
      shapes_ok h None None x y b = b

      allowed : (x : Path) (sh : Shape) → kept_shape hs x ≡ Some sh → is_excluded gs x ≡ true → ⊥
      allowed x sh k e = both_ways (is_excluded hs x) ((facts_grow hs hs hc hc (λ y s z. z)).allowed x sh k) ((facts_grow gs hs gc hc knows_hs).excluded x e)

      pub equate_places_ok : (r : Reduction) → r.facts ≡ news → equate_places fs p q n ≡ reduces r → IsFailure (equate_places gs p q n) → ⊥
      equate_places_ok r is e = go (is_excluded gs q || is_excluded gs p) refl
        where
          h : Alike
          h = alike r is (is_excluded fs q || is_excluded fs p) (kept_shape fs q) (kept_shape fs p) refl refl e

          go : (c : Bool) → (is_excluded gs q || is_excluded gs p) ≡ c → IsFailure (if c then clashes (NoValue NoElement) else by_shapes gs p q n (kept_shape gs q) (kept_shape gs p)) → ⊥
          go true z b = elim (or_cases (is_excluded gs q) (is_excluded gs p) z) [ inl x ↦ allowed q h.0 h.2 x | inr x ↦ allowed p h.0 h.1 x ]
          go false z b = shapes_ok h (kept_shape gs q) (kept_shape gs p) refl refl b

    -- an equation of which a side has still to come to a place isn't reduced
    pub left_open : (b c : Bool) (r : Option Target) (o : Path) (y : found.Outcome) → equate_values fs (side b None (found.wait o)) (side c r y) ≡ knows news → ⊥
    left_open b c r o (found.value v) e = cc
    left_open b c r o (found.wait q) e = waiting_unknown (c && not b) o q e
    left_open b c r o (found.fault k) e = cc
    left_open b c r o (found.over k) e = passing_unknown r o k e

    pub right_open : (b c : Bool) (l : Option Target) (o : Path) (x : found.Outcome) → equate_values fs (side b l x) (side c None (found.wait o)) ≡ knows news → ⊥
    right_open b c l o (found.value v) e = cc
    right_open b c l o (found.wait q) e = waiting_unknown (c && not b) q o e
    right_open b c l o (found.fault k) e = cc
    right_open b c l o (found.over k) e = passing_unknown l o k e
