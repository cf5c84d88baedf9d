-- A formula that has a step isn't bad after another step, if nothing clashes where both are known and no region both ends and goes.
use Rattle.std.proofs.Common.{◌≡◌, inl, inr, pos, ℕ, nat_lt, Bool, true, false, not, ◌&&◌, List, [], ◌∷◌, Option, Some, None, refl, ap, sym, ◌∙◌, subst, if◌then◌else◌}
use Rattle.tp_value.specs.Tree.{Tree, num, same_tree}
use Rattle.tp_value.specs.Limits.{length_limit}
use Rattle.tp_value.specs.Room.{IsWithinListLimit}
use Rattle.tp_value.specs.declared.value.Shape.TheVariants.{Items}
use Rattle.tp_value.specs.declared.path.Path.{Path}
use Rattle.tp_value.specs.declared.path.Fact.{Fact}
use Rattle.tp_kernel.specs.declared.fault.LimitKind.{LimitKind}
use Rattle.tp_kernel.specs.declared.fault.LimitKind.TheVariants as limit
use Rattle.tp_meaning.specs.Syntax.{ExprTree, equation}
use Rattle.tp_meaning.specs.Inputs.{input_at}
use Rattle.tp_store.specs.Facts.{fact, facts_at}
use Rattle.tp_store.specs.Known.{NoClash, Addition, adds, refuses, addition}
use Rattle.tp_store.proofs.Members.{In}
use Rattle.tp_eval.specs.Outcome as found
use Rattle.tp_eval.specs.Outcome.{outcome, place_outcome, PlaceOutcome}
use Rattle.tp_scene.specs.Scene.{Bindings, Side, other_side, Leaf, Do, Entries, Place}
use Rattle.tp_scene.specs.Step.{Reduction, PickOutcome, reduces, passes, knows, added, Numbers, marking, Target, value_at, length_at, set, meets, passes_or_waits, equate_values, equate, side_of, from_port, formula_step, leaf_step}
use Rattle.tp_scene.specs.Pick.{Setting}
use Rattle.tp_scene.specs.Fits.{IsCalm}
use Rattle.tp_step_laws.specs.Rows.{Grows, IsFailure}
use Rattle.tp_step_laws.specs.Outcomes.{KnowsMore}
use Rattle.tp_inputs.specs.Within.{InputsWithin}
use Rattle.tp_step_laws.specs.Within.{LengthsAreWithin, BindingsWithin, LeafWithin}
use Rattle.tp_step_laws.proofs.InputsWithin.{input_within}
use Rattle.tp_step_laws.proofs.Small.{values_within}
use Rattle.tp_step_laws.proofs.EqGrow.{side}
use Rattle.tp_step_laws.proofs.PlacesGrow.{OneArises}
use Rattle.tp_step_laws.proofs.EqMutual.{SideKnows, equate_values_ok, equate_places_ok, left_open, right_open}
use Rattle.tp_step_laws.proofs.SideGrow.{value_side}
use Rattle.tp_step_laws.proofs.SideKnows.{side_knows}
use Rattle.tp_step_laws.proofs.Table.{Respects, formula_row}

-- what an equation by values reduces to gives facts alone
abbrev Form : PickOutcome → Type 0
Form o = (r : Reduction) → o ≡ reduces r → o ≡ knows r.facts

knows_form : (news : List Fact) → Form (knows news)
knows_form news r e = ap knows (cc)

added_form : (a : Addition) → Form (added a)
added_form (adds news) = knows_form news
added_form (refuses old new) = λ r e. absurd (cc)

set_is : (fs : List Fact) (t : Target) (v : Tree) → Form (set fs t v)
set_is fs (value_at p) v = added_form (addition fs (facts_at p v))
set_is fs (length_at p) (num (pos n)) = go (nat_lt length_limit n)
  where
    go : (b : Bool) → Form (if b then passes limit.List else added (addition fs (fact p (Items n) ∷ [])))
    go true = λ r e. absurd (cc)
    go false = added_form (addition fs (fact p (Items n) ∷ []))
set_is fs (length_at p) t = λ r e. absurd (cc)

module _ (fs : List Fact) where
  if_form : (b : Bool) (x y : PickOutcome) → Form x → Form y → Form (if b then x else y)
  if_form true x y h k = h
  if_form false x y h k = k

  meets_is : (b : Bool) (t : Option Target) (o : found.Outcome) (v : Tree) → Form (meets fs (side b t o) v)
  meets_is b (Some t) o v = set_is fs t v
  meets_is b None (found.value u) v = if_form (same_tree u v) _ _ (knows_form []) (λ r e. absurd (cc))
  meets_is b None o v = λ r e. absurd (cc)

  passes_or_waits_is : (t : Option Target) (p : Path) (k : LimitKind) → Form (passes_or_waits fs t p k)
  passes_or_waits_is (Some (value_at q)) p k = λ r e. absurd (cc)
  passes_or_waits_is (Some (length_at q)) p k = λ r e. absurd (cc)
  passes_or_waits_is None p k = λ r e. absurd (cc)

  equate_values_is : (b c : Bool) (l r : Option Target) (x y : found.Outcome) → Form (equate_values fs (side b l x) (side c r y))
  equate_values_is b c l r (found.value t) (found.fault k) = λ r e. absurd (cc)
  equate_values_is b c l r (found.wait p) (found.fault k) = λ r e. absurd (cc)
  equate_values_is b c l r (found.fault j) (found.fault k) = λ r e. absurd (cc)
  equate_values_is b c l r (found.over j) (found.fault k) = λ r e. absurd (cc)
  equate_values_is b c l r (found.fault j) (found.value u) = λ r e. absurd (cc)
  equate_values_is b c l r (found.fault j) (found.wait q) = λ r e. absurd (cc)
  equate_values_is b c l r (found.fault j) (found.over k) = λ r e. absurd (cc)
  equate_values_is b c l r (found.value t) (found.over k) = λ r e. absurd (cc)
  equate_values_is b c l r (found.wait p) (found.over k) = passes_or_waits_is r p k
  equate_values_is b c l r (found.over j) (found.over k) = λ r e. absurd (cc)
  equate_values_is b c l r (found.over j) (found.value u) = λ r e. absurd (cc)
  equate_values_is b c l r (found.over j) (found.wait q) = passes_or_waits_is l q j
  equate_values_is b c l r (found.value t) (found.value u) = meets_is b l (found.value t) u
  equate_values_is b c l r (found.wait p) (found.value u) = meets_is b l (found.wait p) u
  equate_values_is b c l r (found.value t) (found.wait q) = meets_is c r (found.wait q) t
  equate_values_is b c l r (found.wait p) (found.wait q) = if_form (c && not b) _ _ (λ r e. absurd (cc)) (λ r e. absurd (cc))

module _ (w : Setting) (fs gs hs : List Fact) (fc : NoClash fs) (gc : NoClash gs) (hc : NoClash hs) (one : KnowsMore fs gs) (two : KnowsMore gs hs) (within : LengthsAreWithin gs) (inputs : InputsWithin w.inputs)
    (p q : Place) (n : Numbers) (up : Grows p q) (calm : IsCalm q) where
  -- what is asked of a reduction: its region isn't of the other side of its mark, and what it adds is known where both are
  abbrev pub MarkOk : Reduction → Type 0
  MarkOk r = (z : Side) → r.mark ≡ Some z → q.is (other_side z) ≡ true → ⊥

  abbrev pub FactsOk : Reduction → Type 0
  FactsOk r = (xs : List Fact) → NoClash xs → addition fs xs ≡ adds r.facts → (f : Fact) → In f xs → In f hs

  abbrev pub Good : PickOutcome → PickOutcome → Type 0
  Good o u = (r : Reduction) → o ≡ reduces r → MarkOk r → FactsOk r → IsFailure u → ⊥

  failing_good : (o u : PickOutcome) → IsFailure o → IsFailure u → Good o u
  failing_good o u h k r e = absurd (subst (λ (x : PickOutcome). IsFailure x) e h)

  marking_good : (z : Side) (b c : Bool) (d e : ℕ) (news : Entries) (i : ℕ) → q.is (other_side z) ≡ c → Good (marking z b d news i) (marking z c e news i)
  marking_good z true c d e news i h = λ r x. absurd (cc)
  marking_good z false true d e news i h = λ r x m f b. m z (let q : Some z ≡ r.mark = cc in sym q) h
  marking_good z false false d e news i h = λ r x m f b. b

  respects_good : Respects Good p q
  respects_good = record {
    waiting = λ first other u r e. absurd (cc);
    failing = failing_good;
    same = λ s e r x m f b. b;
    marks = λ z news i. marking_good z (p.is (other_side z)) (q.is (other_side z)) p.depth q.depth news i refl;
  }

  module _ (env : Bindings) (small : BindingsWithin env) where
    module _ (b c : Bool) (x x' x'' y y' y'' : found.Outcome) (sx : (v : Tree) → x ≡ found.value v → IsWithinListLimit v) (sy : (v : Tree) → y ≡ found.value v → IsWithinListLimit v) where
      values_good : (l l' r r' : Option Target) → SideKnows gs hs l x l' x' x'' → SideKnows gs hs r y r' y' y'' → Good (equate_values fs (side b l x) (side c r y)) (equate_values gs (side b l' x') (side c r' y'))
      values_good l l' r r' k d s e m f z = equate_values_ok fs gs hs fc gc hc one two within s.facts f b c l l' r r' x x' x'' y y' y'' sx sy k d (equate_values_is fs b c l r x y s e) z

      -- by what the sides have come to
      from_values_good : (l l' r r' : Option Target) → SideKnows gs hs l x l' x' x'' → SideKnows gs hs r y r' y' y'' → OneArises l l' r r' → Good (equate_values fs (side b l x) (side c r y)) (equate gs (side b l' x') (side c r' y') n)
      from_values_good l (Some (value_at v)) r (Some (value_at u)) k d h s e m f z =
          let is = equate_values_is fs b c l r x y s e in
          elim (h v u refl refl) [
            | inl i ↦ (let w = k.sides.arises v i refl in left_open fs gs hs fc gc hc one two within s.facts f b c r w.0 y
                (subst (λ (t : Option Target). equate_values fs (side b t (found.wait w.0)) (side c r y) ≡ knows s.facts) i (subst (λ (o : found.Outcome). equate_values fs (side b l o) (side c r y) ≡ knows s.facts) w.1 is)))
            | inr i ↦ (let w = d.sides.arises u i refl in right_open fs gs hs fc gc hc one two within s.facts f b c l w.0 x
                (subst (λ (t : Option Target). equate_values fs (side b l x) (side c t (found.wait w.0)) ≡ knows s.facts) i (subst (λ (o : found.Outcome). equate_values fs (side b l x) (side c r o) ≡ knows s.facts) w.1 is)))
          ]
      from_values_good l l' r r' k d h s e m f z = values_good l l' r r' k d s e m f z

      -- by what they were
      sides_good : (l l' r r' : Option Target) → SideKnows gs hs l x l' x' x'' → SideKnows gs hs r y r' y' y'' → Good (equate fs (side b l x) (side c r y) n) (equate gs (side b l' x') (side c r' y') n)
      sides_good (Some (value_at v)) l' (Some (value_at u)) r' k d = λ s e m f z.
          equate_places_ok fs gs hs fc gc hc one two within s.facts f v u n s refl e
          (subst (λ (t : Option Target). IsFailure (equate gs (side b (Some (value_at v)) x') (side c t y') n)) (d.sides.target (value_at u) refl)
          (subst (λ (t : Option Target). IsFailure (equate gs (side b t x') (side c r' y') n)) (k.sides.target (value_at v) refl) z))
      sides_good (Some (value_at v)) l' (Some (length_at u)) r' k d =
          from_values_good (Some (value_at v)) l' (Some (length_at u)) r' k d (λ i j h g. absurd (let e : Some (length_at u) ≡ Some (value_at j) = sym (d.sides.target (length_at u) refl) ∙ g in cc))
      sides_good (Some (value_at v)) l' None r' k d = from_values_good (Some (value_at v)) l' None r' k d (λ i j h g. inr refl)
      sides_good (Some (length_at v)) l' r r' k d =
          from_values_good (Some (length_at v)) l' r r' k d (λ i j h g. absurd (let e : Some (length_at v) ≡ Some (value_at i) = sym (k.sides.target (length_at v) refl) ∙ h in cc))
      sides_good None l' r r' k d = from_values_good None l' r r' k d (λ i j h g. inl refl)

    equation_row : (l r : ExprTree) → Good (formula_step w.defs w.inputs w.state fs (equation l r) env p n) (formula_step w.defs w.inputs w.state gs (equation l r) env q n)
    equation_row l r =
        sides_good (side_of w.defs fs l env).placed (side_of w.defs fs r env).placed _ _ _ _ _ _ (λ v x. (values_within fs w.defs l env small).value v x) (λ v x. (values_within fs w.defs r env small).value v x) _ _ _ _
        (side_knows w.defs fs gs hs fc gc hc one two env w.inputs w.state l) (side_knows w.defs fs gs hs fc gc hc one two env w.inputs w.state r)

    port_row : (v : Tree) (port : List ℕ) (x : ExprTree) → input_at w.inputs w.state port ≡ Some v
        → Good (from_port fs (Some v) port (side_of w.defs fs x env)) (from_port gs (Some v) port (side_of w.defs gs x env))
    port_row v port x h =
        values_good (side_of w.defs fs x env).placed false _ _ _ _ _ _ (λ u y. (values_within fs w.defs x env small).value u y) (λ u y. let z : v ≡ u = cc in subst (λ (t : Tree). IsWithinListLimit t) z (input_within w.inputs w.state port v inputs h)) _ _ _ _
        (side_knows w.defs fs gs hs fc gc hc one two env w.inputs w.state x)
        (record { sides = value_side w.defs fs gs fc gc one env v; grown = refl; set = λ y u h. absurd (cc h) })

  pub leaf_good : (l : Leaf) → LeafWithin l → Good (leaf_step w.defs w.inputs w.state fs l p n) (leaf_step w.defs w.inputs w.state gs l q n)
  leaf_good (Do f env) small = formula_row w fs gs fc gc one p q n up calm Good respects_good env (equation_row env small) (port_row env small) f
  leaf_good l small = λ r e. absurd (cc)
