-- An equation by values where more is known: the same is known after it, or it is bad; also where the side that is known last decides.
use Rattle.std.proofs.Common.{◌≡◌, inl, inr, pos, nat_lt, Bool, true, false, not, ◌&&◌, List, [], ◌∷◌, ◌++◌, Option, Some, None, refl, ap, sym, ◌∙◌, subst, if◌then◌else◌}
use Rattle.std.proofs.lemmas.Bool.{cases_Bool, cond_both, both_ways, false_from_ne_true}
use Rattle.std.proofs.lemmas.List.{append-nil}
use Rattle.tp_value.specs.Tree.{Tree, num, same_tree}
use Rattle.tp_value.proofs.Trees.{same_tree_is_equality}
use Rattle.tp_value.specs.Limits.{length_limit}
use Rattle.tp_value.specs.declared.path.Path.{Path}
use Rattle.tp_value.specs.declared.path.Fact.{Fact}
use Rattle.tp_value.specs.declared.value.Shape.TheVariants.{Items}
use Rattle.tp_store.specs.Facts.{kept_shape, is_excluded, fact, facts_at}
use Rattle.tp_value.specs.declared.value.Shape.{Shape}
use Rattle.tp_store.specs.Known.{NoClash, is_none, Addition, adds, refuses, new_facts, addition}
use Rattle.tp_store.proofs.Members.{In, in_filter, in_kept, kept_in, NoClash-filter}
use Rattle.tp_store.proofs.Adding.{AddsAll, adds_all, given_in, news_given}
use Rattle.tp_store.proofs.States.{no_clash_arises}
use Rattle.tp_eval.specs.Outcome as found
use Rattle.tp_kernel.specs.declared.fault.FaultKind.{FaultKind}
use Rattle.tp_kernel.specs.declared.fault.LimitKind.{LimitKind}
use Rattle.tp_kernel.specs.declared.fault.LimitKind.TheVariants as limit
use Rattle.tp_scene.specs.declared.answer.Clash.TheVariants.{False}
use Rattle.tp_scene.specs.Step.{PickOutcome, reduces, waits, rests, clashes, misses, passes, vanishes, knows, added, Target, value_at, length_at, set, SideOf, meets, both_wait, passes_or_waits, equate_values}
use Rattle.tp_step_laws.specs.Outcomes.{KnowsMore, RefusesFacts, AddsAlike, StaysKnown, GrownOutcome}
use Rattle.tp_step_laws.specs.Within.{LengthsAreWithin}
use Rattle.tp_step_laws.specs.Rows.{IsFailure, SameFacts, GrownTo}
use Rattle.tp_step_laws.proofs.FactsGrow.{facts_grow, kept_before, kept_after}
use Rattle.tp_step_laws.proofs.Kept.{TargetKnown, target_facts, known_in, set_form, set_known, set_other, news_known}

pub bad_grown : (gs : List Fact) (o u : PickOutcome) → IsFailure u → GrownTo gs o u
bad_grown gs (reduces r) (reduces s) b = elim b [ ]
bad_grown gs (reduces r) (waits first other) b = elim b [ ]
bad_grown gs (reduces r) rests b = elim b [ ]
bad_grown gs (clashes c) u b = b
bad_grown gs (misses port) u b = b
bad_grown gs (passes k) u b = b
bad_grown gs o x b = tt

pub bad_stays_bad : (gs : List Fact) (o u : PickOutcome) → GrownTo gs o u → IsFailure o → IsFailure u
bad_stays_bad gs (clashes c) u h b = h
bad_stays_bad gs (misses port) u h b = h
bad_stays_bad gs (passes k) u h b = h
bad_stays_bad gs o u h b = elim b [ ]

-- outcomes of facts alone
pub knows_grown : (gs news more : List Fact) → SameFacts gs news more → GrownTo gs (knows news) (knows more)
knows_grown gs news more h = record { news = refl; items = refl; regions = refl; local = refl; mark = refl; facts = h }

pub nothing_new : (gs : List Fact) → NoClash gs → SameFacts gs [] []
nothing_new gs gc = record { shapes = λ p. refl; each = λ p sh h. absurd (cc h); apart = subst (λ (l : List Fact). NoClash l) (sym (append-nil gs)) gc }

-- a side of this form
abbrev pub side : Bool → Option Target → found.Outcome → SideOf
side b t o = record { placed = b; target = t; found = o }

-- the parts of a side before and after: what can be set stays so, and where it is known its value is what is found
pub record SideGrows (gs : List Fact) (t : Option Target) (o : found.Outcome) (t' : Option Target) (o' : found.Outcome) : Type 0 where
  pub target : (x : Target) → t ≡ Some x → t' ≡ Some x
  pub none : t ≡ None → (u : Tree) → o ≡ found.value u → t' ≡ None
  -- only what waited comes to a place, and a place with a fault is excluded
  pub arises : (q : Path) → t ≡ None → t' ≡ Some (value_at q) → (p : Path) × (o ≡ found.wait p)
  pub absent : (q : Path) (k : FaultKind) → t' ≡ Some (value_at q) → o' ≡ found.fault k → is_excluded gs q ≡ true
  pub grown : GrownOutcome o o'
  pub known : (x : Target) (v : Tree) → t' ≡ Some x → o' ≡ found.value v → TargetKnown gs x v

pub no_path : (gs : List Fact) (t t' : Option Target) (k : LimitKind) (o' : found.Outcome) → SideGrows gs t (found.over k) t' o' → (q : Path) → t ≡ None → t' ≡ Some (value_at q) → ⊥
no_path gs t t' k o' s q n h = let r = s.arises q n h in let e : found.over k ≡ found.wait r.0 = r.1 in cc

-- what was added is added again, or refused
abbrev pub AdditionGrows : List Fact → Addition → Addition → Type 0
AdditionGrows gs (adds news) (adds more) = SameFacts gs news more
AdditionGrows gs (adds news) (refuses old new) = Unit {0}
AdditionGrows gs (refuses o n) (adds more) = ⊥
AdditionGrows gs (refuses o n) (refuses old new) = Unit {0}

added_from : (gs : List Fact) (a b : Addition) → AdditionGrows gs a b → GrownTo gs (added a) (added b)
added_from gs (adds news) (adds more) h = knows_grown gs news more h
added_from gs (adds news) (refuses old new) h = tt
added_from gs (refuses o n) (adds more) h = absurd h
added_from gs (refuses o n) (refuses old new) h = tt

module _ (fs gs : List Fact) (fc : NoClash fs) (gc : NoClash gs) (more : KnowsMore fs gs) (within : LengthsAreWithin gs) where
  abbrev stays : StaysKnown fs gs
  stays = facts_grow fs gs fc gc more

  pub additions_grow : (facts : List Fact) → NoClash facts → AdditionGrows gs (addition fs facts) (addition gs facts)
  additions_grow facts single = go (addition fs facts) (addition gs facts) refl refl
    where
      each : (news more' : List Fact) → AddsAll fs facts news → AddsAll gs facts more' → (p : Path) (sh : Shape) → kept_shape news p ≡ Some sh → kept_shape (gs ++ more') p ≡ Some sh
      each news more' x y p sh h = elim (given_in gs facts more' y (fact p sh) (news_given fs facts news x (fact p sh) (kept_in news p sh h))) [
        | inl i ↦ kept_before gs more' p sh (in_kept gs (fact p sh) gc i)
        | inr i ↦ (let Q : List Fact → Type 0 = λ l. In (fact p sh) l in
            let j = in_filter (λ (f : Fact). is_none (kept_shape gs f.path)) (fact p sh) facts (subst Q (sym y.new) i) in
            kept_after gs more' p (none_is (kept_shape gs p) j.1) ∙ subst (λ (l : List Fact). kept_shape l p ≡ Some sh) y.new (in_kept (new_facts gs facts) (fact p sh) (NoClash-filter (λ (f : Fact). is_none (kept_shape gs f.path)) facts single) (subst Q (sym y.new) i)))
      ]
        where
          none_is : (o : Option Shape) → is_none o ≡ true → o ≡ None
          none_is None e = refl
          none_is (Some x) e = absurd (cc)

      go : (a b : Addition) → addition fs facts ≡ a → addition gs facts ≡ b → AdditionGrows gs a b
      go (adds news) (adds more') x y = record {
        shapes = subst (λ (b : Addition). AddsAlike gs news b) y (stays.added facts news x);
        each = each news more' (adds_all fs facts news x) (adds_all gs facts more' y);
        apart = no_clash_arises.adding gs facts more' y gc single;
      }
      go (refuses old new) (adds news) x y = elim (subst (λ (b : Addition). RefusesFacts b) y (stays.refused facts (subst (λ (a : Addition). RefusesFacts a) (sym x) tt))) [ ]
      go u v x y = tt

  added_grows : (facts : List Fact) → NoClash facts → GrownTo gs (added (addition fs facts)) (added (addition gs facts))
  added_grows facts single = added_from gs (addition fs facts) (addition gs facts) (additions_grow facts single)

  set_grows : (t : Target) (v : Tree) → GrownTo gs (set fs t v) (set gs t v)
  set_grows (value_at p) v = added_grows (facts_at p v) (no_clash_arises.value_facts p v)
  set_grows (length_at p) (num (pos n)) = go (nat_lt length_limit n)
    where
      go : (b : Bool) → GrownTo gs (if b then passes limit.List else added (addition fs (fact p (Items n) ∷ []))) (if b then passes limit.List else added (addition gs (fact p (Items n) ∷ [])))
      go true = tt
      go false = added_grows (fact p (Items n) ∷ []) (refl, refl, tt)
  set_grows (length_at p) t = tt

  -- where a target that was set is known now, nothing is to be set any more
  set_done : (t : Target) (v : Tree) → TargetKnown gs t v → GrownTo gs (set fs t v) (knows [])
  set_done t v k = elim (set_form fs t v) [
    | inl x ↦ subst (λ (o : PickOutcome). GrownTo gs o (knows [])) (sym x.1) (knows_grown gs x.0 [] (record {
      shapes = λ p. ap (λ l. kept_shape l p) (append-nil gs) ∙ news_known fs gs x.0 t v gc k x.2 p;
      each = λ p sh h. ap (λ l. kept_shape l p) (append-nil gs) ∙ in_kept gs (fact p sh) gc (known_in gs t v k (fact p sh) (news_given fs (target_facts t v) x.0 (adds_all fs (target_facts t v) x.0 x.2) (fact p sh) (kept_in x.0 p sh h)));
      apart = subst (λ (l : List Fact). NoClash l) (sym (append-nil gs)) gc;
    }))
    | inr b ↦ absurd (subst (λ (o : PickOutcome). IsFailure o) (set_known gs gc within t v k) (bad_stays_bad gs (set fs t v) (set gs t v) (set_grows t v) b))
  ]

  compared_grows : (u v : Tree) → GrownTo gs (if same_tree u v then vanishes else clashes False) (if same_tree u v then vanishes else clashes False)
  compared_grows u v = go (same_tree u v)
    where
      go : (b : Bool) → GrownTo gs (if b then vanishes else clashes False) (if b then vanishes else clashes False)
      go true = knows_grown gs [] [] (nothing_new gs gc)
      go false = tt

  -- a side whose value is known is compared or set again
  value_meets : (b : Bool) (t t' : Option Target) (u v : Tree) → SideGrows gs t (found.value u) t' (found.value u) → GrownTo gs (meets fs (side b t (found.value u)) v) (meets gs (side b t' (found.value u)) v)
  value_meets b None t' u v s = subst (λ (x : Option Target). GrownTo gs (meets fs (side b None (found.value u)) v) (meets gs (side b x (found.value u)) v)) (sym (s.none refl u refl)) (compared_grows u v)
  value_meets b (Some t) t' u v s = subst (λ (x : Option Target). GrownTo gs (set fs t v) (meets gs (side b x (found.value u)) v)) (sym (s.target t refl)) (set_grows t v)

  -- a side that waits is set, whatever it has come to
  wait_meets : (b : Bool) (t t' : Option Target) (p : Path) (o' : found.Outcome) (v : Tree) → SideGrows gs t (found.wait p) t' o' → GrownTo gs (meets fs (side b t (found.wait p)) v) (meets gs (side b t' o') v)
  wait_meets b None t' p o' v s = tt
  wait_meets b (Some t) t' p o' v s = subst (λ (x : Option Target). GrownTo gs (set fs t v) (meets gs (side b x o') v)) (sym (s.target t refl)) (set_grows t v)

  -- the left value was to set the right side; now that is known, and decides
  abbrev pub switch_to : Bool → Option Target → Tree → Tree → PickOutcome
  switch_to b l u v = meets gs (side b l (found.value u)) v

  pub same_switch : (b : Bool) (l : Option Target) (u : Tree) → ((x : Target) → l ≡ Some x → TargetKnown gs x u) → switch_to b l u u ≡ knows []
  same_switch b None u k = ap (λ (c : Bool). if c then vanishes else clashes False) ((same_tree_is_equality u u).1 refl)
  same_switch b (Some t) u k = set_known gs gc within t u (k t refl)

  other_switch : (b : Bool) (l : Option Target) (u v : Tree) → (v ≡ u → ⊥) → ((x : Target) → l ≡ Some x → TargetKnown gs x u) → IsFailure (switch_to b l u v)
  other_switch b None u v ne k = subst (λ (c : Bool). IsFailure (if c then vanishes else clashes False)) (sym (false_from_ne_true (same_tree u v) (λ e. ne (sym ((same_tree_is_equality u v).0 e))))) tt
  other_switch b (Some t) u v ne k = set_other gs gc t u v (k t refl) ne

  switched : (b c : Bool) (l r r' : Option Target) (u v : Tree) (q : Path) → ((x : Target) → l ≡ Some x → TargetKnown gs x u) → SideGrows gs r (found.wait q) r' (found.value v)
      → GrownTo gs (meets fs (side c r (found.wait q)) u) (switch_to b l u v)
  switched b c l None r' u v q k s = tt
  switched b c l (Some t) r' u v q k s = elim (cases_Bool (same_tree v u)) [
    | inl y ↦ (let e = (same_tree_is_equality v u).0 y in
        let known : TargetKnown gs t u = subst (λ (x : Tree). TargetKnown gs t x) e (s.known t v (s.target t refl) refl) in
        subst (λ (x : Tree). GrownTo gs (set fs t u) (switch_to b l u x)) (sym e) (subst (λ (o : PickOutcome). GrownTo gs (set fs t u) o) (sym (same_switch b l u k)) (set_done t u known)))
    | inr y ↦ bad_grown gs (set fs t u) (switch_to b l u v) (other_switch b l u v (λ e. both_ways (same_tree v u) y ((same_tree_is_equality v u).1 e)) k)
  ]

  pub waiting_grows : (b c : Bool) (p q : Path) (o : PickOutcome) → GrownTo gs (both_wait fs b c p q) o
  waiting_grows b c p q o = cond_both (c && not b) _ _ (λ x. GrownTo gs x o) (λ _. tt) (λ _. tt)

  abbrev Goal : Bool → Bool → Option Target → found.Outcome → Option Target → found.Outcome → Option Target → found.Outcome → Option Target → found.Outcome → Type 0
  Goal b c l x r y l' x' r' y' = GrownTo gs (equate_values fs (side b l x) (side c r y)) (equate_values gs (side b l' x') (side c r' y'))

  -- a side with a fault
  right_fault : (b c : Bool) (l r : Option Target) (x : found.Outcome) (k : FaultKind) → IsFailure (equate_values gs (side b l x) (side c r (found.fault k)))
  right_fault b c l r (found.value t) k = tt
  right_fault b c l r o k = tt

  left_fault : (b c : Bool) (l r : Option Target) (y : found.Outcome) (k : FaultKind) → IsFailure (equate_values gs (side b l (found.fault k)) (side c r y))
  left_fault b c l r (found.value t) k = tt
  left_fault b c l r o k = tt

  -- by what the sides have come to, and then by what they were
  both_values : (b c : Bool) (l l' r r' : Option Target) (x y : found.Outcome) (u v : Tree) → SideGrows gs l x l' (found.value u) → SideGrows gs r y r' (found.value v) → Goal b c l x r y l' (found.value u) r' (found.value v)
  both_values b c l l' r r' (found.value t) (found.value w) u v s d =
      let e : t ≡ u = let z = s.grown in cc in
      let f : w ≡ v = let z = d.grown in cc in
      subst (λ (z : Tree). Goal b c l (found.value z) r (found.value w) l' (found.value u) r' (found.value v)) (sym e)
      (subst (λ (z : Tree). Goal b c l (found.value u) r (found.value z) l' (found.value u) r' (found.value v)) (sym f)
      (value_meets b l l' u v (subst (λ (z : Tree). SideGrows gs l (found.value z) l' (found.value u)) e s)))
  both_values b c l l' r r' (found.wait p) (found.value w) u v s d =
      let f : w ≡ v = let z = d.grown in cc in
      subst (λ (z : Tree). Goal b c l (found.wait p) r (found.value z) l' (found.value u) r' (found.value v)) (sym f) (wait_meets b l l' p (found.value u) v s)
  both_values b c l l' r r' (found.value t) (found.wait q) u v s d =
      let e : t ≡ u = let z = s.grown in cc in
      subst (λ (z : Tree). Goal b c l (found.value z) r (found.wait q) l' (found.value u) r' (found.value v)) (sym e) (switched b c l' r r' u v q (λ x h. s.known x u h refl) d)
  both_values b c l l' r r' (found.wait p) (found.wait q) u v s d = waiting_grows b c p q _
  both_values b c l l' r r' (found.fault k) y u v s d = absurd (let z = s.grown in cc)
  both_values b c l l' r r' (found.over k) y u v s d = absurd (let z = s.grown in cc)
  both_values b c l l' r r' x (found.fault k) u v s d = absurd (let z = d.grown in cc)
  both_values b c l l' r r' x (found.over k) u v s d = absurd (let z = d.grown in cc)

  left_value : (b c : Bool) (l l' r r' : Option Target) (x y : found.Outcome) (u : Tree) (q : Path) → SideGrows gs l x l' (found.value u) → SideGrows gs r y r' (found.wait q) → Goal b c l x r y l' (found.value u) r' (found.wait q)
  left_value b c l l' r r' (found.value t) (found.wait p) u q s d =
      let e : t ≡ u = let z = s.grown in cc in
      subst (λ (z : Tree). Goal b c l (found.value z) r (found.wait p) l' (found.value u) r' (found.wait q)) (sym e) (wait_meets c r r' p (found.wait q) u d)
  left_value b c l l' r r' (found.wait o) (found.wait p) u q s d = waiting_grows b c o p _
  left_value b c l l' r r' (found.fault k) y u q s d = absurd (let z = s.grown in cc)
  left_value b c l l' r r' (found.over k) y u q s d = absurd (let z = s.grown in cc)
  left_value b c l l' r r' x (found.value w) u q s d = absurd (let z = d.grown in cc)
  left_value b c l l' r r' x (found.fault k) u q s d = absurd (let z = d.grown in cc)
  left_value b c l l' r r' x (found.over k) u q s d = absurd (let z = d.grown in cc)

  right_value : (b c : Bool) (l l' r r' : Option Target) (x y : found.Outcome) (p : Path) (v : Tree) → SideGrows gs l x l' (found.wait p) → SideGrows gs r y r' (found.value v) → Goal b c l x r y l' (found.wait p) r' (found.value v)
  right_value b c l l' r r' (found.wait o) (found.value w) p v s d =
      let f : w ≡ v = let z = d.grown in cc in
      subst (λ (z : Tree). Goal b c l (found.wait o) r (found.value z) l' (found.wait p) r' (found.value v)) (sym f) (wait_meets b l l' o (found.wait p) v s)
  right_value b c l l' r r' (found.wait o) (found.wait q) p v s d = waiting_grows b c o q _
  right_value b c l l' r r' (found.value t) y p v s d = absurd (let z = s.grown in cc)
  right_value b c l l' r r' (found.fault k) y p v s d = absurd (let z = s.grown in cc)
  right_value b c l l' r r' (found.over k) y p v s d = absurd (let z = s.grown in cc)
  right_value b c l l' r r' x (found.fault k) p v s d = absurd (let z = d.grown in cc)
  right_value b c l l' r r' x (found.over k) p v s d = absurd (let z = d.grown in cc)

  both_waiting : (b c : Bool) (l l' r r' : Option Target) (x y : found.Outcome) (p q : Path) → SideGrows gs l x l' (found.wait p) → SideGrows gs r y r' (found.wait q) → Goal b c l x r y l' (found.wait p) r' (found.wait q)
  both_waiting b c l l' r r' (found.wait o) (found.wait w) p q s d = waiting_grows b c o w _
  both_waiting b c l l' r r' (found.value t) y p q s d = absurd (let z = s.grown in cc)
  both_waiting b c l l' r r' (found.fault k) y p q s d = absurd (let z = s.grown in cc)
  both_waiting b c l l' r r' (found.over k) y p q s d = absurd (let z = s.grown in cc)
  both_waiting b c l l' r r' x (found.value w) p q s d = absurd (let z = d.grown in cc)
  both_waiting b c l l' r r' x (found.fault k) p q s d = absurd (let z = d.grown in cc)
  both_waiting b c l l' r r' x (found.over k) p q s d = absurd (let z = d.grown in cc)

  -- one side waits, and the other passes a limit: it goes on to pass one, or it is a place
  over_grows : (r r' : Option Target) (o p : Path) (j k : LimitKind) → ((x : Target) → r ≡ Some x → r' ≡ Some x) → ((z : Path) → r ≡ None → r' ≡ Some (value_at z) → ⊥)
      → GrownTo gs (passes_or_waits fs r o j) (passes_or_waits gs r' p k)
  over_grows (Some (value_at z)) r' o p j k h a = tt
  over_grows (Some (length_at z)) r' o p j k h a = subst (λ (t : Option Target). IsFailure (passes_or_waits gs t p k)) (sym (h (length_at z) refl)) tt
  over_grows None None o p j k h a = tt
  over_grows None (Some (length_at z)) o p j k h a = tt
  over_grows None (Some (value_at z)) o p j k h a = absurd (a z refl refl)

  wait_over : (b c : Bool) (l l' r r' : Option Target) (x y : found.Outcome) (p : Path) (k : LimitKind) → SideGrows gs l x l' (found.wait p) → SideGrows gs r y r' (found.over k) → Goal b c l x r y l' (found.wait p) r' (found.over k)
  wait_over b c l l' r r' (found.wait o) (found.over j) p k s d = over_grows r r' o p j k d.target (no_path gs r r' j (found.over k) d)
  wait_over b c l l' r r' (found.wait o) (found.wait q) p k s d = waiting_grows b c o q _
  wait_over b c l l' r r' (found.wait o) (found.value w) p k s d = absurd (let z = d.grown in cc)
  wait_over b c l l' r r' (found.wait o) (found.fault j) p k s d = absurd (let z = d.grown in cc)
  wait_over b c l l' r r' (found.value t) y p k s d = absurd (let z = s.grown in cc)
  wait_over b c l l' r r' (found.fault j) y p k s d = absurd (let z = s.grown in cc)
  wait_over b c l l' r r' (found.over j) y p k s d = absurd (let z = s.grown in cc)

  over_wait : (b c : Bool) (l l' r r' : Option Target) (x y : found.Outcome) (k : LimitKind) (q : Path) → SideGrows gs l x l' (found.over k) → SideGrows gs r y r' (found.wait q) → Goal b c l x r y l' (found.over k) r' (found.wait q)
  over_wait b c l l' r r' (found.over j) (found.wait o) k q s d = over_grows l l' o q j k s.target (no_path gs l l' j (found.over k) s)
  over_wait b c l l' r r' (found.wait p) (found.wait o) k q s d = waiting_grows b c p o _
  over_wait b c l l' r r' (found.value w) (found.wait o) k q s d = absurd (let z = s.grown in cc)
  over_wait b c l l' r r' (found.fault j) (found.wait o) k q s d = absurd (let z = s.grown in cc)
  over_wait b c l l' r r' x (found.value t) k q s d = absurd (let z = d.grown in cc)
  over_wait b c l l' r r' x (found.fault j) k q s d = absurd (let z = d.grown in cc)
  over_wait b c l l' r r' x (found.over j) k q s d = absurd (let z = d.grown in cc)

  fails : (b c : Bool) (l l' r r' : Option Target) (x y x' y' : found.Outcome) → IsFailure (equate_values gs (side b l' x') (side c r' y')) → Goal b c l x r y l' x' r' y'
  fails b c l l' r r' x y x' y' h = bad_grown gs (equate_values fs (side b l x) (side c r y)) (equate_values gs (side b l' x') (side c r' y')) h

  pub parts_grow : (b c : Bool) (l l' r r' : Option Target) (x y x' y' : found.Outcome) → SideGrows gs l x l' x' → SideGrows gs r y r' y' → Goal b c l x r y l' x' r' y'
  parts_grow b c l l' r r' x y (found.value u) (found.value v) s d = both_values b c l l' r r' x y u v s d
  parts_grow b c l l' r r' x y (found.value u) (found.wait q) s d = left_value b c l l' r r' x y u q s d
  parts_grow b c l l' r r' x y (found.wait p) (found.value v) s d = right_value b c l l' r r' x y p v s d
  parts_grow b c l l' r r' x y (found.wait p) (found.wait q) s d = both_waiting b c l l' r r' x y p q s d
  parts_grow b c l l' r r' x y (found.wait p) (found.over k) s d = wait_over b c l l' r r' x y p k s d
  parts_grow b c l l' r r' x y (found.over k) (found.wait q) s d = over_wait b c l l' r r' x y k q s d
  parts_grow b c l l' r r' x y (found.value u) (found.over k) s d = fails b c l l' r r' x y (found.value u) (found.over k) tt
  parts_grow b c l l' r r' x y (found.over j) (found.over k) s d = fails b c l l' r r' x y (found.over j) (found.over k) tt
  parts_grow b c l l' r r' x y (found.over k) (found.value v) s d = fails b c l l' r r' x y (found.over k) (found.value v) tt
  parts_grow b c l l' r r' x y (found.fault k) y' s d = fails b c l l' r r' x y (found.fault k) y' (left_fault b c l' r' y' k)
  parts_grow b c l l' r r' x y x' (found.fault k) s d = fails b c l l' r r' x y x' (found.fault k) (right_fault b c l' r' x' k)

  pub equate_values_grows : (l r l' r' : SideOf) → l'.placed ≡ l.placed → r'.placed ≡ r.placed → SideGrows gs l.target l.found l'.target l'.found → SideGrows gs r.target r.found r'.target r'.found → GrownTo gs (equate_values fs l r) (equate_values gs l' r')
  equate_values_grows l r l' r' a b s d = subst (λ (x : Bool). GrownTo gs (equate_values fs l r) (equate_values gs (side x l'.target l'.found) r')) (sym a)
      (subst (λ (y : Bool). GrownTo gs (equate_values fs l r) (equate_values gs (side l.placed l'.target l'.found) (side y r'.target r'.found))) (sym b)
      (parts_grow l.placed r.placed l.target l'.target r.target r'.target l.found r.found l'.found r'.found s d))
