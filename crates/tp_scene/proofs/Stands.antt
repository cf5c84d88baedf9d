-- What a settled moment stands for.
use Rattle.std.proofs.Common.{◌≡◌, ℕ, suc, ◌<◌, ◌≤◌, eqb, Bool, true, false, cond, List, length, slice_get, Option, Some, None, refl, ap, sym, ◌∙◌, subst, arith, inl, inr}
use Rattle.std.proofs.lemmas.Bool.{cond_both, cases_Bool, cases_lt, cond-true, cond-false, eqb-true, eq-eqb}
use Rattle.std.proofs.lemmas.Option.{slice_get_cases}
use Rattle.tp_value.specs.Tree.{Tree}
use Rattle.tp_value.specs.declared.path.Fact.{Fact}
use Rattle.tp_meaning.specs.Course.{Course, Shows}
use Rattle.tp_meaning.specs.Bindings.{Locals}
use Rattle.tp_meaning.specs.Holds.{Lasts}
use Rattle.tp_meaning.specs.Interval.{KeepsLasting}
use Rattle.tp_meaning.proofs.Move.{stay}
use Rattle.tp_store.specs.Facts.{AgreesWith, AgreesWithAll}
use Rattle.tp_store.specs.Known.{Variable, lasting_facts}
use Rattle.tp_store.proofs.Members.{In, in_filter, filter_in, agrees_in, agrees_from, NoClash-filter}
use Rattle.tp_eval.specs.Right.{values_at}
use Rattle.tp_scene.specs.Scene.{Side, Ending, Going, Scene, new_head}
use Rattle.tp_scene.specs.Says.{Claim, RegionSays, IsSo}
use Rattle.tp_scene.specs.Pick.{Setting, Moment}
use Rattle.tp_scene.specs.Rest.{ends, goes, settled}
use Rattle.tp_scene.specs.Advance.{unmarked, due, advanced, StoreGoesOn}
use Rattle.tp_scene.specs.StandsFor.{AllLast, locals_of, context_of, StandsFor}
use Rattle.tp_scene.specs.Fits.{kinds_in}
use Rattle.tp_scene.specs.Laws.{IsSound, AdvanceStands, EndStands}
use Rattle.tp_scene.proofs.Frame.{region, status_means}
use Rattle.tp_scene.proofs.Agree.{agrees_as_kept}
use Rattle.tp_scene.proofs.Law.{known_root}
use Rattle.tp_scene.proofs.MoveScene.{region_moved}
use Rattle.tp_scene.proofs.Rested.{HeadIs, Rested, IsAtSide, goes_at_side, ends_at_side, root_rests}
use Rattle.tp_scene.proofs.Advance.{region_goes_on, region_ends_here, no_marks}
use Rattle.tp_scene.proofs.Numbered.{says_numbered}
use Rattle.tp_scene.proofs.Globals.{agrees_same, at_global, at_local, globals_agree, all_agree, of_variables_in, local_lasts, locals_last}

-- some values agree with each fact of a local
abbrev pub LocalsHaveValues : (globals : ℕ) → List Fact → Type 0
LocalsHaveValues globals facts = (v : ℕ → Tree) × ((f : Fact) → In f facts → globals ≤ f.path.var.number → AgreesWith v f)

pub lasts_alone : (b : Bool) (t : Tree) → Lasts b (λ j. t)
lasts_alone true t = λ i j. refl
lasts_alone false t = tt

module _ (w : Setting) (kinds : List Bool) (m : Moment) (sound : IsSound w kinds m) (values : LocalsHaveValues (length kinds) m.store.facts) where
  abbrev globals : ℕ
  globals = length kinds

  -- what stands for an interval has the root's side
  side_is : (z : Side) → IsAtSide m.scene z → (s : Course) (a b : ℕ) (S : Shows) → StandsFor w globals m s a b S → IsSo z a b
  side_is z at s a b S x = known_root m.scene.root a b x.says.0 (λ y q. status_means (context_of w) globals m.scene.root.entries y x.depth x.locals s a b S x.in_order x.says.1 q) z at.is

  rests : (z : Side) → IsAtSide m.scene z → HeadIs z m.scene.root.head × Rested z m.scene.root.entries
  rests z at = root_rests w.defs kinds m.store.variables m.scene z sound.moment.entries sound.moment.inners at

  pub ends_stand : settled m.scene ≡ ends → EndStands w kinds m
  ends_stand e s a b S =
      let at = ends_at_side m.scene e in
      let r = rests Ending at in
      let h = m.scene.root.head in
      let es = m.scene.root.entries in (
        (λ x. let q = side_is Ending at s a b S x in (
          q,
          globals_agree globals s x.locals a m.store.facts x.agrees,
          (region_ends_here (context_of w) globals h es r.0 r.1 x.depth x.locals s a S).0 (subst (λ (j : ℕ). RegionSays (context_of w) globals (region h es) x.depth x.locals s a j S) (sym q) x.says),
        )),
        (λ x. record {
          in_order = let q = x.0 in omega (arith, q);
          locals = λ y j. values.0 y;
          last = locals_last globals m.store.variables (λ y j. values.0 y) (λ y c l i. lasts_alone c (values.0 y));
          agrees = all_agree globals s (λ y j. values.0 y) a m.store.facts x.1 (λ f i l. values.1 f i l);
          depth = 0;
          says = subst (λ (j : ℕ). RegionSays (context_of w) globals (region h es) 0 (λ y j. values.0 y) s a j S) x.0
              ((region_ends_here (context_of w) globals h es r.0 r.1 0 (λ y j. values.0 y) s a S).1 x.2);
        }),
      )

  -- Going on.
  module _ (next : Moment) (is : next.scene ≡ advanced m.scene) (on : StoreGoesOn m.store next.store) where
    abbrev kinds_here : List Bool
    kinds_here = kinds_in m.store.variables

    global_kind : (y : ℕ) (b : Bool) → y < globals → slice_get kinds_here y ≡ Some b → slice_get kinds y ≡ Some b
    global_kind y b l e = elim ((slice_get_cases kinds y).1) [
      | inl x ↦ x.2 ∙ sym (sound.store.globals y x.0 x.2) ∙ e
      | inr x ↦ absurd (let q = x.0 in omega (arith, q, l))
    ]

    -- a static variable has its value in the next state too
    lasting_same : (s : Course) (a b : ℕ) → KeepsLasting kinds s a b → a < b → (σ : Locals) → AllLast (locals_of globals m.store.variables) globals σ → (y : ℕ) → slice_get kinds_here y ≡ Some true
        → values_at globals s σ (suc a) y ≡ values_at globals s σ a y
    lasting_same s a b keeps l σ last y e = elim (cases_lt y globals) [
      | inl u ↦ at_global globals s σ (suc a) y u ∙ keeps y (global_kind y true u e) (suc a) a (omega arith) l (omega arith) (omega (arith, l)) ∙ sym (at_global globals s σ a y u)
      | inr u ↦ at_local globals s σ (suc a) y u ∙ local_lasts globals m.store.variables σ y true last u e (suc a) a ∙ sym (at_local globals s σ a y u)
    ]

    lasting_kind : (f : Fact) → In f m.store.facts → f.path.var.lasting ≡ true → slice_get kinds_here f.path.var.number ≡ Some true
    lasting_kind f i e = of_variables_in m.store.variables m.store.facts sound.store.facts f i ∙ ap Some e

    agrees_on : (s : Course) (a b : ℕ) → KeepsLasting kinds s a b → a < b → (σ : Locals) → AllLast (locals_of globals m.store.variables) globals σ
        → AgreesWithAll (values_at globals s σ a) m.store.facts → AgreesWithAll (values_at globals s σ (suc a)) next.store.facts
    agrees_on s a b keeps l σ last h = agrees_as_kept (values_at globals s σ (suc a)) next.store.facts (lasting_facts m.store.facts) on.no_clash on.kept
        (agrees_from (values_at globals s σ (suc a)) (lasting_facts m.store.facts) (λ f i.
        let x = in_filter (λ (f : Fact). f.path.var.lasting) f m.store.facts i in
        agrees_same (values_at globals s σ a) (values_at globals s σ (suc a)) f (lasting_same s a b keeps l σ last f.path.var.number (lasting_kind f x.0 x.1)) (agrees_in (values_at globals s σ a) m.store.facts h f x.0)))

    -- The values of the locals before, from those after: a static one keeps its value, and another has a value that agrees.
    abbrev is_lasting : Option Bool → Bool
    is_lasting (Some b) = b
    is_lasting None = false

    abbrev before : Locals → ℕ → Locals
    before τ a y = cond (is_lasting (slice_get kinds_here y)) (τ y) (λ j. cond (eqb j a) (values.0 y) (τ y j))

    before_lasting : (τ : Locals) (a y : ℕ) → slice_get kinds_here y ≡ Some true → before τ a y ≡ τ y
    before_lasting τ a y e = cond-true (is_lasting (slice_get kinds_here y)) _ _ (ap is_lasting e)

    before_changing : (τ : Locals) (a y : ℕ) → slice_get kinds_here y ≡ Some false → before τ a y a ≡ values.0 y
    before_changing τ a y e = (λ i. cond-false (is_lasting (slice_get kinds_here y)) (τ y) (λ j. cond (eqb j a) (values.0 y) (τ y j)) (ap is_lasting e) i a) ∙ cond-true (eqb a a) (values.0 y) (τ y a) (eq-eqb a a refl)

    before_after : (τ : Locals) (a y j : ℕ) → suc a ≤ j → before τ a y j ≡ τ y j
    before_after τ a y j l = cond_both (is_lasting (slice_get kinds_here y)) (τ y) (λ j. cond (eqb j a) (values.0 y) (τ y j)) (λ v. v j ≡ τ y j) (λ _. refl)
        (λ _. cond_both (eqb j a) (values.0 y) (τ y j) (λ v. v ≡ τ y j) (λ q. absurd (let z = eqb-true j a q in omega (arith, z, l))) (λ _. refl))

    before_lasts : (τ : Locals) (a y : ℕ) (b : Bool) → AllLast (locals_of globals m.store.variables) globals τ → globals ≤ y → slice_get kinds_here y ≡ Some b → Lasts b (before τ a y)
    before_lasts τ a y true last l e = subst (λ (v : ℕ → Tree). Lasts true v) (sym (before_lasting τ a y e)) (local_lasts globals m.store.variables τ y true last l e)
    before_lasts τ a y false last l e = tt

    before_agrees : (s : Course) (a : ℕ) (τ : Locals) → AllLast (locals_of globals m.store.variables) globals τ → AgreesWithAll (values_at globals s τ (suc a)) next.store.facts
        → (f : Fact) → In f m.store.facts → globals ≤ f.path.var.number → AgreesWith (λ y. before τ a y a) f
    before_agrees s a τ last h f i l =
        let y = f.path.var.number in
        let kind = of_variables_in m.store.variables m.store.facts sound.store.facts f i in
        elim (cases_Bool f.path.var.lasting) [
          | inl e ↦ (let k = lasting_kind f i e in
              agrees_same (values_at globals s τ (suc a)) (λ y. before τ a y a) f
              ((λ t. before_lasting τ a y k t a) ∙ local_lasts globals m.store.variables τ y true last l k a (suc a) ∙ sym (at_local globals s τ (suc a) y l))
              (agrees_in (values_at globals s τ (suc a)) (lasting_facts m.store.facts)
              (agrees_as_kept (values_at globals s τ (suc a)) (lasting_facts m.store.facts) next.store.facts (NoClash-filter (λ (f : Fact). f.path.var.lasting) m.store.facts sound.store.no_clash) (λ p. sym (on.kept p)) h)
              f (filter_in (λ (f : Fact). f.path.var.lasting) f m.store.facts i e)))
          | inr e ↦ agrees_same values.0 (λ y. before τ a y a) f (before_changing τ a y (kind ∙ ap Some e)) (values.1 f i l)
        ]

    -- what the advanced scene says is what is due
    due_said : (d : ℕ) (σ : Locals) (s : Course) (a b : ℕ) (S : Shows) → RegionSays (context_of w) globals next.scene.root d σ s a b S → RegionSays (context_of w) globals (region (unmarked m.scene.root.head) (due m.scene.root.entries)) d σ s a b S
    due_said d σ s a b S h = (
      no_marks m.scene.root.head a b,
      subst (λ (P : Claim). P d σ s a b S) (says_numbered (context_of w) globals 0 1 (due m.scene.root.entries)) (subst (λ (c : Scene). RegionSays (context_of w) globals c.root d σ s a b S) is h).1,
    )

    due_says : (d : ℕ) (σ : Locals) (s : Course) (a b : ℕ) (S : Shows) → RegionSays (context_of w) globals (region (unmarked m.scene.root.head) (due m.scene.root.entries)) d σ s a b S → RegionSays (context_of w) globals next.scene.root d σ s a b S
    due_says d σ s a b S h = subst (λ (c : Scene). RegionSays (context_of w) globals c.root d σ s a b S) (sym is)
        (no_marks (new_head 0) a b, subst (λ (P : Claim). P d σ s a b S) (sym (says_numbered (context_of w) globals 0 1 (due m.scene.root.entries))) h.1)

    pub advance_stands : settled m.scene ≡ goes → AdvanceStands w kinds m next
    advance_stands e s a b S keeps =
        let at = goes_at_side m.scene e in
        let r = rests Going at in
        let h = m.scene.root.head in
        let es = m.scene.root.entries in
        let p = region_goes_on (context_of w) globals h es r.0 r.1 in (
          (λ x.
              let l = side_is Going at s a b S x in
              let z = p.0 x.depth x.locals s a b S l x.says in (
                l,
                globals_agree globals s x.locals a m.store.facts x.agrees,
                (
                  z.0,
                  z.2,
                  record {
                    in_order = l;
                    locals = x.locals;
                    last = subst (λ (xs : List Variable). AllLast (locals_of globals xs) globals x.locals) (sym on.variables) x.last;
                    agrees = agrees_on s a b keeps l x.locals x.last x.agrees;
                    depth = x.depth;
                    says = due_says x.depth x.locals s (suc a) b z.0 z.1;
                  },
                ),
              )),
          (λ x.
              let l = x.0 in
              let y = x.2.2 in
              let U = x.2.0 in
              let last = subst (λ (xs : List Variable). AllLast (locals_of globals xs) globals y.locals) on.variables y.last in
              let σ = before y.locals a in
              let moved = region_moved (context_of w) globals (unmarked h) (due es) stay y.depth y.locals σ s s (suc a) b U (omega arith) l (λ i j u v. before_after y.locals a i j u) (λ j u v. refl) (due_said y.depth y.locals s (suc a) b U y.says) in
              record {
                in_order = omega (arith, l);
                locals = σ;
                last = locals_last globals m.store.variables σ (λ i c u q. before_lasts y.locals a i c last u q);
                agrees = all_agree globals s σ a m.store.facts x.1 (before_agrees s a y.locals last y.agrees);
                depth = y.depth;
                says = subst (λ (X : Shows). RegionSays (context_of w) globals (region h es) y.depth σ s a b X) (sym x.2.1) (p.1 y.depth σ s a b U l moved);
              }),
        )
