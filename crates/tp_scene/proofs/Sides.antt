-- The rule of an equation keeps what it says, from what its sides mean.
use Rattle.std.proofs.Common.{◌≡◌, ◌↔◌, pos, ℕ, suc, ◌+◌, nat_lt, Bool, true, ◌&&◌, ◌||◌, not, List, [], ◌∷◌, Option, Some, None, inl, inr, if◌then◌else◌, refl, ap, sym, ◌∙◌, subst}
use Rattle.std.proofs.lemmas.Bool.{cond_both, both_ways, or_cases}
use Rattle.tp_value.specs.Tree.{Tree, num, same_tree}
use Rattle.tp_value.specs.Limits.{length_limit}
use Rattle.tp_value.specs.Shape.{shape_at_path, item_at}
use Rattle.tp_value.specs.declared.path.Path.{Path}
use Rattle.tp_value.specs.declared.path.Fact.{Fact}
use Rattle.tp_value.specs.declared.value.Shape.{Shape}
use Rattle.tp_value.specs.declared.value.Shape.TheVariants.{Items}
use Rattle.tp_value.proofs.Trees.{same_tree_is_equality}
use Rattle.tp_kernel.specs.declared.fault.FaultKind.{FaultKind}
use Rattle.tp_kernel.specs.declared.fault.LimitKind.{LimitKind}
use Rattle.tp_meaning.specs.Course.{Course, Shows, blank}
use Rattle.tp_meaning.specs.Bindings.{Locals}
use Rattle.tp_meaning.specs.Holds.{Context}
use Rattle.tp_store.specs.Facts.{AgreesWithAll, kept_shape, is_excluded, fact, facts_at}
use Rattle.tp_store.specs.Known.{Addition, adds, refuses, addition, Full, absent, limited, whole, deepest}
use Rattle.tp_store.specs.Laws.{FullSays}
use Rattle.tp_store.proofs.Meaning.{full_is_right}
use Rattle.tp_store.proofs.Members.{kept_in, agrees_in}
use Rattle.tp_eval.specs.Outcome as found
use Rattle.tp_eval.specs.Right.{values_at}
use Rattle.tp_scene.specs.Scene.{none}
use Rattle.tp_scene.specs.Says.{Claim}
use Rattle.tp_scene.specs.Step.{PickOutcome, clashes, Numbers, added, Target, value_at, length_at, SideOf, set, meets, all_do, count_of, shape_equations, both_places, passes_or_waits, shares, by_shapes, equate_places, equate_values, equate}
use Rattle.tp_kernel.specs.declared.fault.FaultKind.TheVariants.{NoElement}
use Rattle.tp_scene.specs.declared.answer.Clash.TheVariants.{NoValue}
use Rattle.tp_scene.proofs.EqualPlaces.{shape_there, HaveOneValue, one_shape, equal_says, equal_said}
use Rattle.tp_scene.proofs.Frame.{Keeps}
use Rattle.tp_scene.proofs.RowForms.{Agrees, plain, gone}

-- What comes of adding facts to those that are kept: where these are agreed with, the others are exactly where the new ones are, or nowhere.
abbrev pub AdditionMeans : (kept fs : List Fact) → Addition → Type 0
AdditionMeans kept fs (adds news) = (values : ℕ → Tree) → AgreesWithAll values kept → AgreesWithAll values fs ↔ AgreesWithAll values news
AdditionMeans kept fs (refuses g f) = (values : ℕ → Tree) → AgreesWithAll values kept → AgreesWithAll values fs → ⊥

-- the facts of a value at a path are agreed with exactly where the value stands there
abbrev pub FactsAreOfValues : Type 0
FactsAreOfValues = (values : ℕ → Tree) (p : Path) (t : Tree) → AgreesWithAll values (facts_at p t) ↔ (item_at p.at (values p.var.number) ≡ Some t)

pub record AddingIsRight (facts : List Fact) : Type 0 where
  pub adding : (fs : List Fact) → AdditionMeans facts fs (addition facts fs)
  pub values : FactsAreOfValues

-- nothing stands at an excluded path
excluded_is : (values : ℕ → Tree) (facts : List Fact) → AgreesWithAll values facts → (p : Path) → is_excluded facts p ≡ true → item_at p.at (values p.var.number) ≡ None
excluded_is values facts agrees p e =
    let P : Full → Type 0 = λ x. FullSays p.at (values p.var.number) x in
    subst P (ap (λ (b : Bool). if b then absent else limited (whole (suc (deepest facts)) facts p)) e) (full_is_right facts values agrees p)

-- what a side of an equation has, at a depth, for values of the locals, at a position of a course
abbrev pub Having : Type 1
Having = ℕ → Locals → Course → ℕ → Tree → Type 0

-- an equation of two sides
abbrev pub EquationSays : Having → Having → Claim
EquationSays L R d σ s a b S = (v : Tree) × L d σ s a v × R d σ s a v × (S ≡ blank)

-- the value stands at a path, or is the length of the list there
abbrev pub TargetIs : (globals : ℕ) → Target → Locals → Course → ℕ → Tree → Type 0
TargetIs globals (value_at p) σ s a v = item_at p.at (values_at globals s σ a p.var.number) ≡ Some v
TargetIs globals (length_at p) σ s a v = (k : ℕ) × (v ≡ num (pos k)) × (shape_at_path p.at (values_at globals s σ a p.var.number) ≡ Some (Items k))

module _ (globals : ℕ) (facts : List Fact) (e : ℕ) where
  -- what is found of a side and what it can set are what it has
  pub record SideMeans (side : SideOf) (H : Having) (s : Course) (a : ℕ) : Type 0 where
    pub value_there : (t : Tree) → side.found ≡ found.value t → (d : ℕ) (σ : Locals) → Agrees globals facts σ s a → H (e + d) σ s a t
    pub value_only : (t : Tree) → side.found ≡ found.value t → (d : ℕ) (σ : Locals) → Agrees globals facts σ s a → (u : Tree) → H d σ s a u → u ≡ t
    pub no_value : (k : FaultKind) → side.found ≡ found.fault k → (d : ℕ) (σ : Locals) → Agrees globals facts σ s a → (u : Tree) → H d σ s a u → ⊥
    pub target_there : (t : Target) → side.target ≡ Some t → (d : ℕ) (σ : Locals) → Agrees globals facts σ s a → (u : Tree) → H d σ s a u → TargetIs globals t σ s a u
    pub target_back : (t : Target) → side.target ≡ Some t → (d : ℕ) (σ : Locals) → Agrees globals facts σ s a → (u : Tree) → TargetIs globals t σ s a u → H (e + d) σ s a u

module _ (w : Context) (globals : ℕ) (facts : List Fact) (n e : ℕ) (adding : AddingIsRight facts) (s : Course) (a b : ℕ) where
  module _ (Old : Claim) where
    abbrev Row : PickOutcome → Type 0
    Row o = Keeps w globals facts n e o Old s a b

    pub added_row : (fs : List Fact)
        → ((d : ℕ) (σ : Locals) (S : Shows) → Agrees globals facts σ s a → Old d σ s a b S → Agrees globals fs σ s a × (S ≡ blank))
        → ((d : ℕ) (σ : Locals) (S : Shows) → Agrees globals facts σ s a → Agrees globals fs σ s a → S ≡ blank → Old (e + d) σ s a b S)
        → Row (added (addition facts fs))
    added_row fs there back = by_addition (addition facts fs) (adding.adding fs)
      where
        by_addition : (o : Addition) → AdditionMeans facts fs o → Row (added o)
        by_addition (adds news) means = plain w globals facts n e Old s a b none 0 0 None news
            (λ d σ S ag h. let x = there d σ S ag h in ((means (values_at globals s σ a) ag).0 x.0, tt, x.1))
            (λ d σ S ag agf _ h. back d σ S ag ((means (values_at globals s σ a) ag).1 agf) h)
        by_addition (refuses g f) means = λ d σ S ag h. means (values_at globals s σ a) ag (there d σ S ag h).0

    pub set_row : (t : Target) (v : Tree)
        → ((d : ℕ) (σ : Locals) (S : Shows) → Agrees globals facts σ s a → Old d σ s a b S → TargetIs globals t σ s a v × (S ≡ blank))
        → ((d : ℕ) (σ : Locals) (S : Shows) → Agrees globals facts σ s a → TargetIs globals t σ s a v → S ≡ blank → Old (e + d) σ s a b S)
        → Row (set facts t v)
    set_row (value_at p) v there back = added_row (facts_at p v)
        (λ d σ S ag h. let x = there d σ S ag h in ((adding.values (values_at globals s σ a) p v).1 x.0, x.1))
        (λ d σ S ag agf h. back d σ S ag ((adding.values (values_at globals s σ a) p v).0 agf) h)
    set_row (length_at p) (num (pos k)) there back = cond_both (nat_lt length_limit k) _ _ Row (λ _. tt)
        (λ _. added_row (fact p (Items k) ∷ [])
        (λ d σ S ag h. let x = there d σ S ag h in let q = x.0.1 in let r = x.0.2 in ((cc, tt), x.1))
        (λ d σ S ag agf h. back d σ S ag (k, refl, agf.0) h))
    set_row (length_at p) t there back = λ d σ S ag h. let q = (there d σ S ag h).0.1 in absurd (cc)

    -- the other side has the value v
    pub meets_row : (placed : Bool) (t : Option Target) (o : found.Outcome) (H : Having) → SideMeans globals facts e (record { placed = placed; target = t; found = o }) H s a → (v : Tree)
        → ((d : ℕ) (σ : Locals) (S : Shows) → Agrees globals facts σ s a → Old d σ s a b S → H d σ s a v × (S ≡ blank))
        → ((d : ℕ) (σ : Locals) (S : Shows) → Agrees globals facts σ s a → H (e + d) σ s a v → S ≡ blank → Old (e + d) σ s a b S)
        → Row (meets facts (record { placed = placed; target = t; found = o }) v)
    meets_row placed (Some t) o H m v there back = set_row t v
        (λ d σ S ag h. let x = there d σ S ag h in (m.target_there t refl d σ ag v x.0, x.1))
        (λ d σ S ag is h. back d σ S ag (m.target_back t refl d σ ag v is) h)
    meets_row placed None (found.value u) H m v there back = cond_both (same_tree u v) _ _ Row
        (λ y. gone w globals facts n e Old s a b (λ d σ S ag h. (there d σ S ag h).1)
        (λ d σ S ag h. back d σ S ag (subst (λ (t : Tree). H (e + d) σ s a t) ((same_tree_is_equality u v).0 y) (m.value_there u refl d σ ag)) h))
        (λ y d σ S ag h. both_ways (same_tree u v) y ((same_tree_is_equality u v).1 (sym (m.value_only u refl d σ ag v (there d σ S ag h).0))))
    meets_row placed None (found.fault k) H m v there back = λ d σ S ag h. m.no_value k refl d σ ag v (there d σ S ag h).0
    meets_row placed None o H m v there back = tt

    -- two paths, where the item holds exactly where one value stands at both
    module _ (nn : Numbers) (p q : Path)
        (there : (d : ℕ) (σ : Locals) (S : Shows) → Agrees globals facts σ s a → Old d σ s a b S → HaveOneValue w globals nn.item p q σ s a b × (S ≡ blank))
        (back : (d : ℕ) (σ : Locals) (S : Shows) → Agrees globals facts σ s a → HaveOneValue w globals nn.item p q σ s a b → S ≡ blank → Old (e + d) σ s a b S) where
      -- with the other path's fact both have the shape, and where they have the same it is agreed with
      shares_row : (x : Path) (sh : Shape)
          → ((σ : Locals) → Agrees globals facts σ s a → Agrees globals (fact x sh ∷ []) σ s a → (shape_there w globals nn.item p q σ s a b p ≡ Some sh) × (shape_there w globals nn.item p q σ s a b q ≡ Some sh))
          → ((σ : Locals) → Agrees globals facts σ s a → shape_there w globals nn.item p q σ s a b p ≡ shape_there w globals nn.item p q σ s a b q → Agrees globals (fact x sh ∷ []) σ s a)
          → Row (shares p q sh nn (addition facts (fact x sh ∷ [])))
      shares_row x sh both other = by_addition (addition facts (fact x sh ∷ [])) (adding.adding (fact x sh ∷ []))
        where
          by_addition : (o : Addition) → AdditionMeans facts (fact x sh ∷ []) o → Row (shares p q sh nn o)
          by_addition (adds news) means = plain w globals facts n e Old s a b (all_do (shape_equations sh) (both_places p q) nn.item 0) (count_of (shape_equations sh)) 0 None news
              (λ d σ S ag h. let y = there d σ S ag h in
              let new = other σ ag (one_shape w globals nn.item p q σ s a b y.0) in
              ((means (values_at globals s σ a) ag).0 new, tt, equal_says w globals nn.item p q σ s a b sh d S (both σ ag new).0 y.0 y.1))
              (λ d σ S ag agf _ h. let r = both σ ag ((means (values_at globals s σ a) ag).1 agf) in
              let z = equal_said w globals nn.item p q σ s a b sh d S r.0 r.1 h in back d σ S ag z.0 z.1)
          by_addition (refuses g f) means = λ d σ S ag h. means (values_at globals s σ a) ag (other σ ag (one_shape w globals nn.item p q σ s a b (there d σ S ag h).0))

      kept_there : (x : Path) (sh : Shape) → kept_shape facts x ≡ Some sh → (σ : Locals) → Agrees globals facts σ s a → shape_there w globals nn.item p q σ s a b x ≡ Some sh
      kept_there x sh k σ ag = agrees_in (values_at globals s σ a) facts ag (fact x sh) (kept_in facts x sh k)

      absent_row : (is_excluded facts q || is_excluded facts p) ≡ true → Row (clashes (NoValue NoElement))
      absent_row y d σ S ag h =
          let x = there d σ S ag h in
          elim (or_cases (is_excluded facts q) (is_excluded facts p) y) [
            | inl t ↦ (let r = excluded_is (values_at globals s σ a) facts ag q t in let z = x.0.2 in absurd (cc))
            | inr t ↦ (let r = excluded_is (values_at globals s σ a) facts ag p t in let z = x.0.1 in absurd (cc))
          ]

      pub places_row : Row (equate_places facts p q nn)
      places_row = cond_both (is_excluded facts q || is_excluded facts p) _ _ Row absent_row (λ _. by (kept_shape facts q) (kept_shape facts p) refl refl)
        where
          by : (x y : Option Shape) → kept_shape facts q ≡ x → kept_shape facts p ≡ y → Row (by_shapes facts p q nn x y)
          by (Some sh) y k j = shares_row p sh (λ σ ag f. (f.0, kept_there q sh k σ ag)) (λ σ ag z. (z ∙ kept_there q sh k σ ag, tt))
          by None (Some sh) k j = shares_row q sh (λ σ ag f. (kept_there p sh j σ ag, f.0)) (λ σ ag z. (sym z ∙ kept_there p sh j σ ag, tt))
          by None None k j = tt

  over_row : (Old : Claim) (t : Option Target) (p : Path) (k : LimitKind) → Keeps w globals facts n e (passes_or_waits facts t p k) Old s a b
  over_row Old (Some (value_at q)) p k = tt
  over_row Old (Some (length_at q)) p k = tt
  over_row Old None p k = tt

  pub equate_values_row : (lp : Bool) (lt : Option Target) (lo : found.Outcome) (rp : Bool) (rt : Option Target) (ro : found.Outcome) (L R : Having)
      → SideMeans globals facts e (record { placed = lp; target = lt; found = lo }) L s a → SideMeans globals facts e (record { placed = rp; target = rt; found = ro }) R s a
      → Keeps w globals facts n e (equate_values facts (record { placed = lp; target = lt; found = lo }) (record { placed = rp; target = rt; found = ro })) (EquationSays L R) s a b
  equate_values_row lp lt lo rp rt (found.fault k) L R ml mr = λ d σ S ag h. mr.no_value k refl d σ ag h.0 h.2
  equate_values_row lp lt (found.value u) rp rt (found.value v) L R ml mr = meets_row (EquationSays L R) lp lt (found.value u) L ml v
      (λ d σ S ag h. (subst (λ (t : Tree). L d σ s a t) (mr.value_only v refl d σ ag h.0 h.2) h.1, h.3))
      (λ d σ S ag hl h. (v, hl, mr.value_there v refl d σ ag, h))
  equate_values_row lp lt (found.wait p) rp rt (found.value v) L R ml mr = meets_row (EquationSays L R) lp lt (found.wait p) L ml v
      (λ d σ S ag h. (subst (λ (t : Tree). L d σ s a t) (mr.value_only v refl d σ ag h.0 h.2) h.1, h.3))
      (λ d σ S ag hl h. (v, hl, mr.value_there v refl d σ ag, h))
  equate_values_row lp lt (found.value v) rp rt (found.wait q) L R ml mr = meets_row (EquationSays L R) rp rt (found.wait q) R mr v
      (λ d σ S ag h. (subst (λ (t : Tree). R d σ s a t) (ml.value_only v refl d σ ag h.0 h.1) h.2, h.3))
      (λ d σ S ag hr h. (v, ml.value_there v refl d σ ag, hr, h))
  equate_values_row lp lt (found.wait p) rp rt (found.wait q) L R ml mr =
      cond_both (rp && not lp) _ _ (λ o. Keeps w globals facts n e o (EquationSays L R) s a b) (λ _. tt) (λ _. tt)
  equate_values_row lp lt (found.wait p) rp rt (found.over k) L R ml mr = over_row (EquationSays L R) rt p k
  equate_values_row lp lt (found.over k) rp rt (found.wait q) L R ml mr = over_row (EquationSays L R) lt q k
  equate_values_row lp lt (found.fault k) rp rt o L R ml mr = λ d σ S ag h. ml.no_value k refl d σ ag h.0 h.1
  equate_values_row lp lt o rp rt x L R ml mr = tt

  -- sides that may both be both_places
  pub equate_row : (nn : Numbers) (lp : Bool) (lt : Option Target) (lo : found.Outcome) (rp : Bool) (rt : Option Target) (ro : found.Outcome) (L R : Having)
      → SideMeans globals facts e (record { placed = lp; target = lt; found = lo }) L s a → SideMeans globals facts e (record { placed = rp; target = rt; found = ro }) R s a
      → Keeps w globals facts n e (equate facts (record { placed = lp; target = lt; found = lo }) (record { placed = rp; target = rt; found = ro }) nn) (EquationSays L R) s a b
  equate_row nn lp (Some (value_at p)) lo rp (Some (value_at q)) ro L R ml mr = places_row (EquationSays L R) nn p q
      (λ d σ S ag h. ((h.0, ml.target_there (value_at p) refl d σ ag h.0 h.1, mr.target_there (value_at q) refl d σ ag h.0 h.2), h.3))
      (λ d σ S ag x h. (x.0, ml.target_back (value_at p) refl d σ ag x.0 x.1, mr.target_back (value_at q) refl d σ ag x.0 x.2, h))
  equate_row nn lp (Some (value_at p)) lo rp (Some (length_at q)) ro L R ml mr = equate_values_row lp (Some (value_at p)) lo rp (Some (length_at q)) ro L R ml mr
  equate_row nn lp (Some (value_at p)) lo rp None ro L R ml mr = equate_values_row lp (Some (value_at p)) lo rp None ro L R ml mr
  equate_row nn lp (Some (length_at p)) lo rp rt ro L R ml mr = equate_values_row lp (Some (length_at p)) lo rp rt ro L R ml mr
  equate_row nn lp None lo rp rt ro L R ml mr = equate_values_row lp None lo rp rt ro L R ml mr
