-- The steps of the formulas that open regions, of `forall` and of `exists` keep what these say.
use Rattle.std.proofs.Common.{◌≡◌, ℤ, pos, ◌+ℤ◌, int_le, ◌≤ℤ◌, ◌<ℤ◌, ℕ, ◌+◌, ◌≤◌, ◌<◌, Bool, true, false, List, [], ◌∷◌, ◌++◌, length, Some, refl, ap, sym, ◌∙◌, subst, arith, if◌then◌else◌}
use Rattle.std.proofs.lemmas.Bool.{cond_both, le-ltb}
use Rattle.std.proofs.lemmas.Int.{ints}
use Rattle.tp_value.specs.Tree.{Tree, num}
use Rattle.tp_value.specs.declared.path.Fact.{Fact}
use Rattle.tp_meaning.specs.Syntax.{ExprTree, numeral, FormulaTree, empty, chop, for_from, forall_from, project, exists, BindingTree, place_binding, known_binding}
use Rattle.tp_meaning.specs.Course.{Part, Course, Shows}
use Rattle.tp_meaning.specs.Bindings.{Locals, meaning_of, meanings_of}
use Rattle.tp_meaning.specs.Value.{Env, Meaning, varying}
use Rattle.tp_meaning.specs.Fits.{ExprFits}
use Rattle.tp_meaning.specs.Holds.{Context, Holds, Chopped, running, meaning_at_cuts, env_at_cuts}
use Rattle.tp_meaning.proofs.Unfold.{for_unfolds, forall_unfolds}
use Rattle.tp_meaning.proofs.Move.{projected_as}
use Rattle.tp_eval.specs.Evaluate.{depth_limit}
use Rattle.tp_scene.specs.Scene.{Bindings, Do, Split, Opened, none, leaf, no_region, Place, split_then, opened_then}
use Rattle.tp_scene.specs.Says.{at_cuts, locals_at_cuts, Claim, FormulaSays, HolderSays, RegionSays}
use Rattle.tp_scene.specs.Step.{Numbers, PickOutcome, with_region, region_of, turns, instances}
use Rattle.tp_scene.proofs.Below.{AllBelow}
use Rattle.tp_scene.proofs.Carry.{update, like_update, update_there, meanings_like}
use Rattle.tp_scene.proofs.Frame.{Keeps}
use Rattle.tp_scene.proofs.RowForms.{Agrees, new_marks, alone, of_alone, raised, turns_into, becomes_formula, gone, with_region_row}
use Rattle.tp_scene.proofs.Values.{AreRight, Finds, value_found, same_value, number_row}
use Rattle.tp_scene.proofs.SimpleRows.{FormulaKeeps}

meanings_append : (globals : ℕ) (s : Course) (σ : Locals) (env : Bindings) (b : BindingTree) → meanings_of globals s σ (env ++ b ∷ []) ≡ meanings_of globals s σ env ++ meaning_of globals s σ b ∷ []
meanings_append globals s σ [] b = refl
meanings_append globals s σ (x ∷ env) b = ap (λ E. meaning_of globals s σ x ∷ E) (meanings_append globals s σ env b)

meaning_cut : (globals : ℕ) (c : ℕ → ℕ) (s : Course) (σ : Locals) (b : BindingTree) → meaning_of globals (at_cuts c s) (locals_at_cuts c σ) b ≡ meaning_at_cuts c (meaning_of globals s σ b)
meaning_cut globals c s σ (place_binding p) = refl
meaning_cut globals c s σ (known_binding t) = refl

-- the environment at the cuts
meanings_cut : (globals : ℕ) (c : ℕ → ℕ) (s : Course) (σ : Locals) (env : Bindings) → meanings_of globals (at_cuts c s) (locals_at_cuts c σ) env ≡ env_at_cuts c (meanings_of globals s σ env)
meanings_cut globals c s σ [] = refl
meanings_cut globals c s σ (b ∷ env) = λ i. meaning_cut globals c s σ b i ∷ meanings_cut globals c s σ env i

no_less : (m k : ℤ) → int_le m k ≡ true → m ≤ℤ k
no_less m k h = omega (arith, ints)

less : (m k : ℤ) → int_le m k ≡ false → k <ℤ m
less m k h = omega (arith, ints)

module _ (w : Context) (state : ℕ) (kinds : List Bool) (facts : List Fact) (nn : Numbers) (e : ℕ) (deep : depth_limit < e) (right : AreRight w kinds facts) where
  abbrev globals : ℕ
  globals = length kinds

  -- a region with one formula says what that says
  abbrev Only : FormulaTree → Bindings → Claim
  Only f env = RegionSays w globals (region_of nn.region (nn.item 0) f env)

  only : (f : FormulaTree) (env : Bindings) (d : ℕ) (σ : Locals) (s : Course) (a b : ℕ) (S : Shows) → FormulaSays w globals f env d σ s a b S → Only f env d σ s a b S
  only f env d σ s a b S h = (new_marks nn.region a b, alone w globals facts nn.local e (FormulaSays w globals f env) d σ s a b S h)

  of_only : (f : FormulaTree) (env : Bindings) (d : ℕ) (σ : Locals) (s : Course) (a b : ℕ) (S : Shows) → Only f env d σ s a b S → FormulaSays w globals f env d σ s a b S
  of_only f env d σ s a b S h = of_alone w globals facts nn.local e (FormulaSays w globals f env) d σ s a b S h.1

  abbrev Nothing : Claim
  Nothing = RegionSays w globals (record { head = no_region; entries = none })

  -- with one more binding
  with_binding : (f : FormulaTree) (env : Bindings) (x : BindingTree) (d : ℕ) (σ : Locals) (s : Course) (a b : ℕ) (S : Shows)
      → Holds w d f (meanings_of globals s σ env ++ meaning_of globals s σ x ∷ []) s a b S → FormulaSays w globals f (env ++ x ∷ []) d σ s a b S
  with_binding f env x d σ s a b S h = subst (λ (E : Env). Holds w d f E s a b S) (sym (meanings_append globals s σ env x)) h

  of_binding : (f : FormulaTree) (env : Bindings) (x : BindingTree) (d : ℕ) (σ : Locals) (s : Course) (a b : ℕ) (S : Shows)
      → FormulaSays w globals f (env ++ x ∷ []) d σ s a b S → Holds w d f (meanings_of globals s σ env ++ meaning_of globals s σ x ∷ []) s a b S
  of_binding f env x d σ s a b S h = subst (λ (E : Env). Holds w d f E s a b S) (meanings_append globals s σ env x) h

  module _ (env : Bindings) (p : Place) (s : Course) (a b : ℕ) (le : a ≤ b) where
    abbrev Said : FormulaTree → Claim
    Said f = FormulaSays w globals f env

    abbrev env_in : Locals → Env
    env_in σ = meanings_of globals s σ env

    abbrev RowOf : FormulaTree → PickOutcome → Type 0
    RowOf f o = Keeps w globals facts nn.local e o (Said f) s a b

    -- a new region with `f`, and then `g`
    split_row : (Old : Claim) (f g : FormulaTree) (inner : Bindings)
        → ((d : ℕ) (σ : Locals) (S : Shows) → Agrees globals facts σ s a → Old d σ s a b S → Chopped (FormulaSays w globals f inner d σ s) (Said g d σ s) a b S)
        → ((d : ℕ) (σ : Locals) (S : Shows) → Agrees globals facts σ s a → Chopped (FormulaSays w globals f inner (e + d) σ s) (Said g (e + d) σ s) a b S → Old (e + d) σ s a b S)
        → Keeps w globals facts nn.local e (with_region p.depth (split_then (nn.item 1) (region_of nn.region (nn.item 0) f inner) g env none) 2) Old s a b
    split_row Old f g inner there back =
        let Holder = HolderSays w globals (Split g env) (Only f inner) Nothing in
        with_region_row w globals facts nn.local e Old s a b p.depth (split_then (nn.item 1) (region_of nn.region (nn.item 0) f inner) g env none) 2
        (turns_into w globals facts nn.local e Old s a b (split_then (nn.item 1) (region_of nn.region (nn.item 0) f inner) g env none) 2 1
        (λ d σ S ag h. let x = there d σ S ag h in alone w globals facts nn.local e Holder d σ s a b S (x.0, x.1, x.2, x.3, x.4, only f inner d σ s a x.0 x.1 x.5, x.6, x.7))
        (λ d σ S ag h. let x = of_alone w globals facts nn.local e Holder d σ s a b S h in back d σ S ag (
          x.0,
          x.1,
          x.2,
          x.3,
          x.4,
          raised w globals facts nn.local e f inner d σ s a x.0 x.1 (of_only f inner d σ s a x.0 x.1 x.5),
          raised w globals facts nn.local e g env d σ s x.0 b x.2 x.6,
          x.7,
        )))

    pub chop_row : (f g : FormulaTree) → FormulaKeeps w state kinds facts nn e deep right (chop f g) env p s a b
    chop_row f g = split_row (Said (chop f g)) f g env (λ d σ S ag h. h) (λ d σ S ag h. h)

    pub project_row : (f g : FormulaTree) → FormulaKeeps w state kinds facts nn e deep right (project f g) env p s a b
    project_row f g =
        let Holder = HolderSays w globals (Opened f env) (Only g env) Nothing in
        with_region_row w globals facts nn.local e (Said (project f g)) s a b p.depth (opened_then (nn.item 1) (region_of nn.region (nn.item 0) g env) f env none) 2
        (turns_into w globals facts nn.local e (Said (project f g)) s a b (opened_then (nn.item 1) (region_of nn.region (nn.item 0) g env) f env none) 2 1
        (λ d σ S ag h. alone w globals facts nn.local e Holder d σ s a b S (projected_as (Said f d σ s) (Said f d σ s) (outer_part d σ) (region_part d σ) (λ i j T x. x)
        (λ c m V x. only g env d (locals_at_cuts c σ) (at_cuts c s) 0 m V (subst (λ (E : Env). Holds w d g E (at_cuts c s) 0 m V) (sym (meanings_cut globals c s σ env)) x)) a b S h))
        (λ d σ S ag y. raised w globals facts nn.local e (project f g) env d σ s a b S (projected_as (Said f d σ s) (Said f d σ s) (region_part d σ) (outer_part d σ) (λ i j T x. x)
        (λ c m V x. subst (λ (E : Env). Holds w d g E (at_cuts c s) 0 m V) (meanings_cut globals c s σ env) (of_only g env d (locals_at_cuts c σ) (at_cuts c s) 0 m V x)) a b S (of_alone w globals facts nn.local e Holder d σ s a b S y))))
      where
        -- the outer part as the formula says it, and as its region does
        outer_part : (d : ℕ) → Locals → (ℕ → ℕ) → Part
        outer_part d σ c = Holds w d g (env_at_cuts c (env_in σ)) (at_cuts c s)

        region_part : (d : ℕ) → Locals → (ℕ → ℕ) → Part
        region_part d σ c = Only g env d (locals_at_cuts c σ) (at_cuts c s)

    module _ (name : List ℕ) (k : ℤ) (x : ExprTree) (f : FormulaTree) (fit : ExprFits w.defs kinds x (length env)) where
      abbrev Found : ℤ → Type 0
      Found m = Finds w kinds facts nn.local e deep right x env (num m)

      abbrev with_number_bound : ℤ → Bindings
      with_number_bound m = env ++ known_binding (num m) ∷ []

      pub for_row : FormulaKeeps w state kinds facts nn e deep right (for_from name k x f) env p s a b
      for_row = number_row w kinds facts nn.local e deep right x env fit (Said (for_from name k x f)) s a b (λ m. turns name k m f env p nn) (λ d σ S h. (h.0, h.1))
          (λ m q. cond_both (int_le m k) _ _ (RowOf (for_from name k x f))
          (λ y. becomes_formula w globals facts nn.local e (Said (for_from name k x f)) s a b (nn.item 0) empty env 1
          (λ d σ S ag h. ((for_unfolds name k x f m).ends (no_less m k y) w d (env_in σ) s a b S le (same_value w kinds facts nn.local e deep right x env fit (num m) q d σ s a ag (num h.0) h.1)).0 h)
          (λ d σ S ag h. ((for_unfolds name k x f m).ends (no_less m k y) w (e + d) (env_in σ) s a b S le (value_found w kinds facts nn.local e deep right x env fit (num m) q d σ s a ag)).1 h))
          (λ y. split_row (Said (for_from name k x f)) f (for_from name (k +ℤ pos 1) (numeral m) f) (with_number_bound k)
          (λ d σ S ag h. let z = ((for_unfolds name k x f m).turns (less m k y) w d (env_in σ) s a b S le (same_value w kinds facts nn.local e deep right x env fit (num m) q d σ s a ag (num h.0) h.1)).0 h in
          (z.0, z.1, z.2, z.3, z.4, with_binding f env (known_binding (num k)) d σ s a z.0 z.1 z.5, z.6, z.7))
          (λ d σ S ag z. ((for_unfolds name k x f m).turns (less m k y) w (e + d) (env_in σ) s a b S le (value_found w kinds facts nn.local e deep right x env fit (num m) q d σ s a ag)).1
          (z.0, z.1, z.2, z.3, z.4, of_binding f env (known_binding (num k)) (e + d) σ s a z.0 z.1 z.5, z.6, z.7))))

      abbrev for_all_after : ℤ → FormulaTree
      for_all_after m = forall_from name (k +ℤ pos 1) (numeral m) f

      pub forall_row : FormulaKeeps w state kinds facts nn e deep right (forall_from name k x f) env p s a b
      forall_row = number_row w kinds facts nn.local e deep right x env fit (Said (forall_from name k x f)) s a b (λ m. instances name k m f env nn) (λ d σ S h. (h.0, h.1))
          (λ m q. cond_both (int_le m k) _ _ (RowOf (forall_from name k x f))
          (λ y. gone w globals facts nn.local e (Said (forall_from name k x f)) s a b
          (λ d σ S ag h. ((forall_unfolds name k x f m).ends (no_less m k y) w d (env_in σ) s a b S le (same_value w kinds facts nn.local e deep right x env fit (num m) q d σ s a ag (num h.0) h.1)).0 h)
          (λ d σ S ag h. ((forall_unfolds name k x f m).ends (no_less m k y) w (e + d) (env_in σ) s a b S le (value_found w kinds facts nn.local e deep right x env fit (num m) q d σ s a ag)).1 h))
          (λ y.
          let After = for_all_after m in
          turns_into w globals facts nn.local e (Said (forall_from name k x f)) s a b (leaf (nn.item 0) (Do f (with_number_bound k)) (leaf (nn.item 1) (Do After env) none)) 2 0
          (λ d σ S ag h. let z = ((forall_unfolds name k x f m).goes (less m k y) w d (env_in σ) s a b S le (same_value w kinds facts nn.local e deep right x env fit (num m) q d σ s a ag (num h.0) h.1)).0 h in
          (z.0, z.1, with_binding f env (known_binding (num k)) d σ s a b z.0 z.2, alone w globals facts nn.local e (Said After) d σ s a b z.1 z.3, z.4))
          (λ d σ S ag z. ((forall_unfolds name k x f m).goes (less m k y) w (e + d) (env_in σ) s a b S le (value_found w kinds facts nn.local e deep right x env fit (num m) q d σ s a ag)).1 (
            z.0,
            z.1,
            of_binding f env (known_binding (num k)) (e + d) σ s a b z.0 (raised w globals facts nn.local e f (with_number_bound k) d σ s a b z.0 z.2),
            raised w globals facts nn.local e After env d σ s a b z.1 (of_alone w globals facts nn.local e (Said After) d σ s a b z.1 z.3),
            z.4,
          ))))

    -- a fresh local
    module _ (among : globals ≤ nn.local) (below : AllBelow nn.local env) (lasting : Bool) where
      abbrev fresh : BindingTree
      fresh = place_binding (record { var = record { number = nn.local; lasting = lasting }; at = [] })

      fresh_means : (σ : Locals) → meaning_of globals s σ fresh ≡ running (σ nn.local)
      fresh_means σ = ap (λ (c : Bool). varying (λ j. Some (if c then (s j).values nn.local else σ nn.local j))) (le-ltb nn.local globals among)

      fresh_env : (σ : Locals) (v : ℕ → Tree) → meanings_of globals s (update σ nn.local v) env ++ meaning_of globals s (update σ nn.local v) fresh ∷ [] ≡ env_in σ ++ running v ∷ []
      fresh_env σ v = λ i. meanings_like globals nn.local s σ (update σ nn.local v) (like_update nn.local σ v) env below i ++ (fresh_means (update σ nn.local v) ∙ ap running (update_there nn.local σ v)) i ∷ []

      pub exists_row : (name : List ℕ) (f : FormulaTree) → FormulaKeeps w state kinds facts nn e deep right (exists name lasting f) env p s a b
      exists_row name f = (
        (λ d σ S ag h. (
          h.0,
          h.1,
          tt,
          tt,
          alone w globals facts nn.local e (FormulaSays w globals f (env ++ fresh ∷ [])) d (update σ nn.local h.0) s a b S
              (with_binding f env fresh d (update σ nn.local h.0) s a b S (subst (λ (E : Env). Holds w d f E s a b S) (sym (fresh_env σ h.0)) h.2)),
        )),
        (λ d σ S ag la _ _ h. (
          σ nn.local,
          la,
          subst (λ (M : Meaning). Holds w (e + d) f (env_in σ ++ M ∷ []) s a b S) (fresh_means σ)
              (of_binding f env fresh (e + d) σ s a b S (raised w globals facts nn.local e f (env ++ fresh ∷ []) d σ s a b S (of_alone w globals facts nn.local e (FormulaSays w globals f (env ++ fresh ∷ [])) d σ s a b S h))),
        )),
      )
