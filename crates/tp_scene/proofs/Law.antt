-- Each step keeps what a moment stands for, from what each item's step keeps.
use Rattle.std.proofs.Common.{◌≡◌, ◌↔◌, ℕ, zero, suc, ◌+◌, ◌≤◌, Bool, true, List, [], ◌∷◌, ◌++◌, length, drop, refl, sym, subst, arith, inl, inr}
use Rattle.std.specs.Prelude.{Option, Some, None}
use Rattle.std.proofs.lemmas.Bool.{or_cases}
use Rattle.tp_value.specs.Tree.{Tree}
use Rattle.tp_value.specs.declared.path.Fact.{Fact}
use Rattle.tp_meaning.specs.Course.{Course, Shows}
use Rattle.tp_meaning.specs.Bindings.{Locals}
use Rattle.tp_meaning.specs.Holds.{Lasts}
use Rattle.tp_store.specs.Known.{Variable, NoClash}
use Rattle.tp_eval.specs.Right.{values_at}
use Rattle.tp_scene.specs.Scene.{Side, marked, risen, Region, Scene, root_place}
use Rattle.tp_scene.specs.Says.{IsSo, MarksHold, RegionSays}
use Rattle.tp_scene.specs.Step.{Reduction, PickOutcome, reduces, clashes, misses}
use Rattle.tp_scene.specs.Pick.{Setting, Moment, Reduces, outcome_of, numbers_of, put, with_local}
use Rattle.tp_scene.specs.StandsFor.{AllLast, locals_of, context_of, StandsFor}
use Rattle.tp_scene.specs.Laws.{IsSound, StandsForNone}
use Rattle.tp_scene.specs.declared.answer.Clash.{Clash}
use Rattle.tp_scene.proofs.Carry.{Like, like_update, update, update_there}
use Rattle.tp_scene.proofs.Frame.{Known, LastsIf, IsOf, KeepsIn, status_means, mark_holds, mark_held}
use Rattle.tp_scene.proofs.Asked.{LeavesKeep, HoldersKeep}
use Rattle.tp_scene.proofs.Risen.{StatusKept, status_put}
use Rattle.tp_scene.proofs.Keep.{frame}
use Rattle.tp_scene.proofs.Agree.{agrees_as_kept, agrees_append, agrees_parts, agrees_like, facts_below_length, shorter}
use Rattle.tp_scene.proofs.Below.{kinds_length}

pub drop_more : {A : Type 0} (n : ℕ) (xs ys : List A) → n ≤ length xs → drop n (xs ++ ys) ≡ drop n xs ++ ys
drop_more zero xs ys h = refl
drop_more (suc n) [] ys h = absurd (omega arith)
drop_more (suc n) (x ∷ xs) ys h = drop_more n xs ys (omega arith)

pub drop_count : {A : Type 0} (n : ℕ) (xs : List A) → n ≤ length xs → length (drop n xs) + n ≡ length xs
drop_count zero xs h = omega arith
drop_count (suc n) [] h = absurd (omega arith)
drop_count (suc n) (x ∷ xs) h = let q = drop_count n xs (omega arith) in omega (arith, q)

all_last_like : (xs : List Variable) (k n : ℕ) (σ τ : Locals) → length xs + k ≡ n → Like n σ τ → AllLast xs k σ → AllLast xs k τ
all_last_like [] k n σ τ e l h = tt
all_last_like (x ∷ xs) k n σ τ e l h = (subst (λ (v : ℕ → Tree). Lasts x.lasting v) (sym (l k (omega arith))) h.0, all_last_like xs (suc k) n σ τ (omega arith) l h.1)

all_last_append : (xs : List Variable) (x : Variable) (k : ℕ) (σ : Locals) → AllLast xs k σ → Lasts x.lasting (σ (length xs + k)) → AllLast (xs ++ x ∷ []) k σ
all_last_append [] x k σ h q = (subst (λ (i : ℕ). Lasts x.lasting (σ i)) (let z : 0 + k ≡ k = omega arith in z) q, tt)
all_last_append (y ∷ xs) x k σ h q = (h.0, all_last_append xs x (suc k) σ h.1 (subst (λ (i : ℕ). Lasts x.lasting (σ i)) (let z : length (y ∷ xs) + k ≡ length xs + suc k = omega arith in z) q))

all_last_parts : (xs : List Variable) (x : Variable) (k : ℕ) (σ : Locals) → AllLast (xs ++ x ∷ []) k σ → AllLast xs k σ × Lasts x.lasting (σ (length xs + k))
all_last_parts [] x k σ h = (tt, subst (λ (i : ℕ). Lasts x.lasting (σ i)) (let z : k ≡ 0 + k = omega arith in z) h.0)
all_last_parts (y ∷ xs) x k σ h = let r = all_last_parts xs x (suc k) σ h.1 in ((h.0, r.0), subst (λ (i : ℕ). Lasts x.lasting (σ i)) (let z : length xs + suc k ≡ length (y ∷ xs) + k = omega arith in z) r.1)

-- the values of the locals with a new one
lasts_new : (globals n : ℕ) (xs : List Variable) → globals ≤ length xs → n ≡ length xs → (fresh : Option Variable) (σ : Locals) (v : ℕ → Tree)
    → AllLast (locals_of globals xs) globals σ → LastsIf fresh v → AllLast (locals_of globals (with_local fresh xs)) globals (update σ n v)
lasts_new globals n xs le e None σ v h l = let c = drop_count globals xs le in all_last_like (drop globals xs) globals n σ (update σ n v) (omega (arith, c, e)) (like_update n σ v) h
lasts_new globals n xs le e (Some x) σ v h l =
    let c = drop_count globals xs le in
    let z : n ≡ length (drop globals xs) + globals = omega (arith, c, e) in
    subst (λ (ys : List Variable). AllLast ys globals (update σ n v)) (sym (drop_more globals xs (x ∷ []) le))
    (all_last_append (drop globals xs) x globals (update σ n v) (all_last_like (drop globals xs) globals n σ (update σ n v) (sym z) (like_update n σ v) h)
    (subst (λ (i : ℕ). Lasts x.lasting (update σ n v i)) z (subst (λ (u : ℕ → Tree). Lasts x.lasting u) (sym (update_there n σ v)) l)))

lasts_old : (globals n : ℕ) (xs : List Variable) → globals ≤ length xs → n ≡ length xs → (fresh : Option Variable) (σ : Locals)
    → AllLast (locals_of globals (with_local fresh xs)) globals σ → AllLast (locals_of globals xs) globals σ × LastsIf fresh (σ n)
lasts_old globals n xs le e None σ h = (h, tt)
lasts_old globals n xs le e (Some x) σ h =
    let c = drop_count globals xs le in
    let z : length (drop globals xs) + globals ≡ n = omega (arith, c, e) in
    let r = all_last_parts (drop globals xs) x globals σ (subst (λ (ys : List Variable). AllLast ys globals σ) (drop_more globals xs (x ∷ []) le) h) in
    (r.0, subst (λ (i : ℕ). Lasts x.lasting (σ i)) z r.1)

pub known_root : (r : Region) (a b : ℕ) → MarksHold r.head a b → ((z : Side) → risen z r.entries ≡ true → IsSo z a b) → Known (root_place r) a b
known_root r a b q g z e = elim (or_cases (marked z r.head) (risen z r.entries) e) [ inl y ↦ q z y | inr y ↦ g z y ]

-- the facts of a reduction stand apart from each other and from those that are kept
abbrev pub FactsApart : List Fact → PickOutcome → Type 0
FactsApart facts o = (r : Reduction) → o ≡ reduces r → NoClash (facts ++ r.facts)

module _ (w : Setting) (kinds : List Bool) (m : Moment) (sound : IsSound w kinds m) (e : ℕ)
    (leaves : LeavesKeep w kinds m.store (numbers_of m.scene m.store.variables) e) (holders : HoldersKeep w kinds m.store (numbers_of m.scene m.store.variables) e) (t : ℕ) where
  abbrev globals : ℕ
  globals = length kinds

  abbrev n : ℕ
  n = length m.store.variables

  globals_among : globals ≤ n
  globals_among = let q = shorter kinds _ sound.store.globals in let k = kinds_length m.store.variables in omega (arith, q, k)

  known_before : (s : Course) (a b : ℕ) (S : Shows) → StandsFor w globals m s a b S → Known (root_place m.scene.root) a b
  known_before s a b S x = known_root m.scene.root a b x.says.0 (λ z y. status_means (context_of w) globals m.scene.root.entries z x.depth x.locals s a b S x.in_order x.says.1 y)

  -- what the outcome keeps
  kept : (s : Course) (a b : ℕ) → IsOf w.state (root_place m.scene.root) s a b → KeepsIn (context_of w) globals m.store.facts n e t (outcome_of w m.store m.scene t) m.scene.root.entries s a b
  kept s a b is = frame w kinds m.store (numbers_of m.scene m.store.variables) e refl leaves holders t m.scene.root.entries (root_place m.scene.root) sound.moment.entries s a b is

  module _ (r : Reduction) (next : Moment) (red : Reduces w m t r next) (apart : FactsApart m.store.facts (outcome_of w m.store m.scene t)) where
    status_kept : (z : Side) → risen z m.scene.root.entries ≡ true → risen z (put t r.mark r.news m.scene.root.entries) ≡ true
    status_kept = subst (λ (o : PickOutcome). StatusKept t o m.scene.root.entries) red.outcome (status_put w m.store.facts t m.scene.root.entries (root_place m.scene.root) (numbers_of m.scene m.store.variables))

    swap : (s : Course) (a b : ℕ) → IsOf w.state (root_place m.scene.root) s a b → KeepsIn (context_of w) globals m.store.facts n e t (reduces r) m.scene.root.entries s a b
    swap s a b is = subst (λ (o : PickOutcome). KeepsIn (context_of w) globals m.store.facts n e t o m.scene.root.entries s a b) red.outcome (kept s a b is)

    there : (s : Course) (a b : ℕ) (S : Shows) → (s a).own ≡ w.state → StandsFor w globals m s a b S → StandsFor w globals next s a b S
    there s a b S own x =
        let z = (swap s a b (record { order = x.in_order; known = known_before s a b S x; own = own })).0 x.depth x.locals S x.agrees x.says.1 in
        record {
          in_order = x.in_order;
          locals = update x.locals n z.0;
          last = subst (λ (ys : List Variable). AllLast (locals_of globals ys) globals (update x.locals n z.0)) (sym red.store.variables)
              (lasts_new globals n m.store.variables globals_among refl r.local x.locals z.0 x.last z.1);
          agrees = agrees_as_kept (values_at globals s (update x.locals n z.0) a) next.store.facts (m.store.facts ++ r.facts) red.store.no_clash red.store.kept
              (agrees_append _ m.store.facts r.facts (agrees_like globals n m.store.facts s x.locals (update x.locals n z.0) a (facts_below_length m.store.variables m.store.facts sound.store.facts) (like_update n x.locals z.0) x.agrees) z.2);
          depth = x.depth;
          says = subst (λ (c : Scene). RegionSays (context_of w) globals c.root x.depth (update x.locals n z.0) s a b S) (sym red.scene)
              (mark_holds t r.mark m.scene.root.head m.scene.root.entries a b x.says.0 z.3, z.4);
        }

    back : (s : Course) (a b : ℕ) (S : Shows) → (s a).own ≡ w.state → StandsFor w globals next s a b S → StandsFor w globals m s a b S
    back s a b S own x =
        let l = lasts_old globals n m.store.variables globals_among refl r.local x.locals (subst (λ (ys : List Variable). AllLast (locals_of globals ys) globals x.locals) red.store.variables x.last) in
        let g = agrees_parts (values_at globals s x.locals a) m.store.facts r.facts
        (agrees_as_kept (values_at globals s x.locals a) (m.store.facts ++ r.facts) next.store.facts (apart r red.outcome) (λ p. sym (red.store.kept p)) x.agrees) in
        let said = subst (λ (c : Scene). RegionSays (context_of w) globals c.root x.depth x.locals s a b S) red.scene x.says in
        let mk = mark_held t r.mark m.scene.root.head m.scene.root.entries a b said.0 in
        let kn = known_root m.scene.root a b mk.0 (λ z y. status_means (context_of w) globals (put t r.mark r.news m.scene.root.entries) z x.depth x.locals s a b S x.in_order said.1 (status_kept z y)) in
        record {
          in_order = x.in_order;
          locals = x.locals;
          last = l.0;
          agrees = g.0;
          depth = e + x.depth;
          says = (mk.0, (swap s a b (record { order = x.in_order; known = kn; own = own })).1 x.depth x.locals S g.0 l.1 g.1 mk.1 said.1);
        }

    pub step_keeps : (s : Course) (a b : ℕ) (S : Shows) → (s a).own ≡ w.state → StandsFor w globals m s a b S ↔ StandsFor w globals next s a b S
    step_keeps s a b S own = (there s a b S own, back s a b S own)

  pub clash_stands_for_none : (c : Clash) → outcome_of w m.store m.scene t ≡ clashes c → StandsForNone w kinds m
  clash_stands_for_none c is s a b S own x =
      subst (λ (o : PickOutcome). KeepsIn (context_of w) globals m.store.facts n e t o m.scene.root.entries s a b) is
      (kept s a b (record { order = x.in_order; known = known_before s a b S x; own = own })) x.depth x.locals S x.agrees x.says.1

  pub miss_stands_for_none : (port : List ℕ) → outcome_of w m.store m.scene t ≡ misses port → StandsForNone w kinds m
  miss_stands_for_none port is s a b S own x =
      subst (λ (o : PickOutcome). KeepsIn (context_of w) globals m.store.facts n e t o m.scene.root.entries s a b) is
      (kept s a b (record { order = x.in_order; known = known_before s a b S x; own = own })) x.depth x.locals S x.agrees x.says.1
