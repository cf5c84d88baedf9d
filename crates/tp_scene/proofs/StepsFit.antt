-- A step leaves a sound moment.
use Rattle.std.proofs.Common.{◌≡◌, ℕ, zero, suc, ◌+◌, ◌≤◌, ◌<◌, Bool, false, List, [], ◌∷◌, ◌++◌, length, slice_get, Option, Some, None, refl, ap, sym, ◌∙◌, subst, arith, inl, inr}
use Rattle.std.proofs.lemmas.Bool.{cases_lt, or_cases, or_left, or_right}
use Rattle.tp_value.specs.declared.path.VarId.{VarId}
use Rattle.tp_meaning.specs.Syntax.{Definition, place_binding, known_binding}
use Rattle.tp_meaning.specs.Fits.{IsVariable}
use Rattle.tp_meaning.specs.BindingsFit.{BindingsFit}
use Rattle.tp_store.specs.Known.{Variable, AreOfVariables}
use Rattle.tp_store.proofs.Members.{in_kept, kept_in}
use Rattle.tp_scene.specs.Scene.{Bindings, Side, other_side, marked, Leaf, Do, Later, Shown, Holder, Split, SplitProject, Closed, Opened, Running, Entries, none, leaf, node, risen, Place, root_place}
use Rattle.tp_scene.specs.Step.{Reduction, PickOutcome, Numbers}
use Rattle.tp_scene.specs.Pick.{Setting, Moment, Reduces, numbers_of, put, put_in, mark_at, with_local, scene_after}
use Rattle.tp_scene.specs.Fits.{kinds_in, Dormant, LeafFits, HolderFits, EntriesFit, AreNumbers, item_numbers, region_numbers}
use Rattle.tp_scene.specs.Laws.{IsSound, StepsFit}
use Rattle.tp_scene.proofs.Risen.{StatusKept, status_put, status_marked}
use Rattle.tp_scene.proofs.Globals.{of_variables_in, in_of_variables, of_append}
use Rattle.tp_scene.proofs.Count.{one_if, count, count_first, numbers_once, once_numbers}
use Rattle.tp_scene.proofs.FitsTold.{LocalIn}
use Rattle.tp_scene.proofs.Grown.{Covers, Grown}
use Rattle.tp_scene.proofs.PutStatus.{side_of_mark, mark_at_other, marked_apart, put_rises}
use Rattle.tp_scene.proofs.PutFits.{marks_in, put_fits}
use Rattle.tp_scene.proofs.PutNumbers.{between, between_in, between_before, between_after, marked_number, put_items, put_regions}
use Rattle.tp_scene.proofs.PutInners.{put_inners}
use Rattle.tp_scene.proofs.NewFacts.{IsOfVariables, picked_facts}

-- With a new local the variables are those before, and it.
kind_kept : (xs ys : List Variable) (i : ℕ) (b : Bool) → slice_get (kinds_in xs) i ≡ Some b → slice_get (kinds_in (xs ++ ys)) i ≡ Some b
kind_kept [] ys i b e = absurd (cc)
kind_kept (x ∷ xs) ys zero b e = e
kind_kept (x ∷ xs) ys (suc i) b e = kind_kept xs ys i b e

kind_last : (xs : List Variable) (x : Variable) → slice_get (kinds_in (xs ++ x ∷ [])) (length xs) ≡ Some x.lasting
kind_last [] x = refl
kind_last (y ∷ xs) x = kind_last xs x

local_kept : (local : Option Variable) (xs : List Variable) (i : ℕ) (b : Bool) → slice_get (kinds_in xs) i ≡ Some b → slice_get (kinds_in (with_local local xs)) i ≡ Some b
local_kept None xs i b e = e
local_kept (Some x) xs i b e = kind_kept xs (x ∷ []) i b e

local_in : (local : Option Variable) (xs : List Variable) → LocalIn local (with_local local xs) (length xs)
local_in None xs = tt
local_in (Some x) xs = kind_last xs x

-- what fits some variables fits more
module _ (defs : List Definition) (kinds : List Bool) (xs ys : List Variable) (kept : (i : ℕ) (b : Bool) → slice_get (kinds_in xs) i ≡ Some b → slice_get (kinds_in ys) i ≡ Some b) where
  bindings_more : (env : Bindings) → BindingsFit (kinds_in xs) env → BindingsFit (kinds_in ys) env
  bindings_more [] h = tt
  bindings_more (place_binding p ∷ env) h = ((kept p.var.number p.var.lasting h.0.0, h.0.1), bindings_more env h.1)
  bindings_more (known_binding t ∷ env) h = (tt, bindings_more env h.1)

  leaf_more : (l : Leaf) (p : Place) → LeafFits defs kinds xs l p → LeafFits defs kinds ys l p
  leaf_more (Do f env) p h = (h.0, bindings_more env h.1)
  leaf_more (Later f env) p h = ((h.0.0, bindings_more env h.0.1), h.1)
  leaf_more (Shown vs) p h = tt

  holder_more : (k : Holder) (held : Entries) (q : Place) (X X' Y Y' : Type 0) → (X → X') → (Y → Y') → HolderFits defs kinds xs k held q X Y → HolderFits defs kinds ys k held q X' Y'
  holder_more (Split f env) held q X X' Y Y' x y h = (h.0, bindings_more env h.1)
  holder_more (SplitProject f env) held q X X' Y Y' x y h = ((h.0.0, bindings_more env h.0.1), x h.1)
  holder_more Closed held q X X' Y Y' x y h = tt
  holder_more (Opened f env) held q X X' Y Y' x y h = (h.0, bindings_more env h.1)
  holder_more (Running f env) held q X X' Y Y' x y h = ((h.0.0, bindings_more env h.0.1), y h.1)

  entries_more : (es : Entries) (p : Place) → EntriesFit defs kinds xs es p → EntriesFit defs kinds ys es p
  entries_more none p h = h
  entries_more (leaf id l rest) p h = (leaf_more l p h.0, entries_more rest p h.1)
  entries_more (node id k hd held g second rest) p h = (
    holder_more k held _ _ _ _ _ (λ (x : Dormant g second × EntriesFit defs kinds xs second (record { region = g.number; depth = p.depth + 1; is = λ z. false })). (x.0, entries_more second _ x.1)) (λ y. entries_more second _ y) h.0,
    entries_more held _ h.1,
    entries_more rest p h.2,
  )

pub once_more : (i c : ℕ) (old new : List ℕ) → AreNumbers i old → ((x : ℕ) → count x new ≤ count x old + between i (i + c) x) → AreNumbers (i + c) new
once_more i c old new h le =
    let was = numbers_once i old h in
    let most : (x : ℕ) → count x new ≤ 1 = λ x. elim (cases_lt x i) [
      | inl u ↦ (let a = le x in let b = between_before i (i + c) x u in let o = was.once x in omega (arith, a, b, o))
      | inr u ↦ elim (cases_lt 0 (count x old)) [
        | inl v ↦ absurd (let o = was.under x v in omega (arith, o, u))
        | inr v ↦ elim (cases_lt x (i + c)) [
          | inl z ↦ (let a = le x in let b = between_in i (i + c) x u z in omega (arith, a, b, v))
          | inr z ↦ (let a = le x in let b = between_after i (i + c) x z in omega (arith, a, b, v))
        ]
      ]
    ] in
    let under : (x : ℕ) → 1 ≤ count x new → x < i + c = λ x l. elim (cases_lt x (i + c)) [
      | inl z ↦ z
      | inr z ↦ elim (cases_lt 0 (count x old)) [
        | inl v ↦ (let o = was.under x v in omega (arith, o))
        | inr v ↦ absurd (let a = le x in let b = between_after i (i + c) x z in omega (arith, a, b, v, l))
      ]
    ] in
    once_numbers (i + c) new (record { once = most; under = under })

module _ (w : Setting) (kinds : List Bool) (m : Moment) (t : ℕ) (r : Reduction) (next : Moment) (sound : IsSound w kinds m) (red : Reduces w m t r next) where
  abbrev after : List Variable
  after = with_local r.local m.store.variables

  abbrev n : Numbers
  n = numbers_of m.scene m.store.variables

  abbrev es : Entries
  es = m.scene.root.entries

  abbrev p : Place
  p = root_place m.scene.root

  abbrev p' : Place
  p' = root_place (put_in t r.mark r.news m.scene.root)

  abbrev z : Side
  z = side_of_mark r.mark

  among : (x : VarId) → IsVariable kinds x → IsVariable (kinds_in after) x
  among x e = local_kept r.local m.store.variables x.number x.lasting (sound.store.globals x.number x.lasting e)

  fit : EntriesFit w.defs kinds after es p
  fit = entries_more w.defs kinds m.store.variables after (local_kept r.local m.store.variables) es p sound.moment.entries

  covers : Covers p es
  covers x e = or_right (marked x m.scene.root.head) (risen x es) e

  grown : Grown z p p'
  grown =
      let kept = subst (λ (o : PickOutcome). StatusKept t o es) red.outcome (status_put w m.store.facts t es p n) in
      let up = put_rises w m.store.facts w.defs kinds after t n r es p fit covers red.outcome in
      let y = other_side z in
      let h = m.scene.root.head in
      record {
        more = record { depth = refl; sides = λ x e. status_marked w m.store.facts t 0 Closed h es h es es x r.mark h es (put t r.mark r.news es) (kept x) e };
        other = λ e. elim (or_cases (marked y (mark_at t r.mark h es)) _ e) [ inl i ↦ or_left (marked y h) _ (mark_at_other t r.mark h es i) | inr i ↦ up.other i ];
        apart = λ e f. elim (or_cases (marked z (mark_at t r.mark h es)) _ e) [
          | inl i ↦ marked_apart w m.store.facts w.defs kinds after t n r es p h fit red.outcome (λ u. or_left (marked z h) _ u) i f
          | inr i ↦ up.apart i f
        ];
      }

  entries_after : EntriesFit w.defs kinds after (put t r.mark r.news es) p'
  entries_after = put_fits w m.store.facts kinds sound.definitions after among n t r (local_in r.local m.store.variables) es p p' grown covers fit red.outcome
      (marks_in w m.store.facts kinds sound.definitions after among n t r (local_in r.local m.store.variables) es m.scene.root.head p' (λ x i. or_left (marked x (mark_at t r.mark m.scene.root.head es)) _ i))

  items_after : AreNumbers (m.scene.next_item + r.items) (item_numbers (put t r.mark r.news es))
  items_after = once_more m.scene.next_item r.items (item_numbers es) (item_numbers (put t r.mark r.news es)) sound.moment.items
      (λ x. put_items w m.store.facts n m.scene.next_item m.scene.next_region (λ k. refl) refl x t r es p red.outcome)

  regions_after : AreNumbers (m.scene.next_region + r.regions) ((mark_at t r.mark m.scene.root.head es).number ∷ region_numbers (put t r.mark r.news es))
  regions_after = once_more m.scene.next_region r.regions (m.scene.root.head.number ∷ region_numbers es) ((mark_at t r.mark m.scene.root.head es).number ∷ region_numbers (put t r.mark r.news es)) sound.moment.regions
      (λ x.
      let a = put_regions w m.store.facts n m.scene.next_item m.scene.next_region (λ k. refl) refl x t r es p red.outcome in
      let b = count_first x m.scene.root.head.number (region_numbers es) in
      let c = count_first x (mark_at t r.mark m.scene.root.head es).number (region_numbers (put t r.mark r.news es)) in
      let d = ap (one_if x) (marked_number t r.mark m.scene.root.head es) in
      omega (arith, a, b, c, d))

  facts_after : AreOfVariables after next.store.facts
  facts_after =
      let old : AreOfVariables after m.store.facts = in_of_variables after m.store.facts (λ f i. local_kept r.local m.store.variables f.path.var.number f.path.var.lasting (of_variables_in m.store.variables m.store.facts sound.store.facts f i)) in
      let new = subst (λ (o : PickOutcome). IsOfVariables m.store.facts kinds after among o) red.outcome (picked_facts m.store.facts kinds after among w sound.definitions t es p n fit) in
      in_of_variables after next.store.facts (λ f i.
      of_variables_in after (m.store.facts ++ r.facts) (of_append after m.store.facts r.facts old new) _
      (kept_in (m.store.facts ++ r.facts) f.path f.shape (sym (red.store.kept f.path) ∙ in_kept next.store.facts f red.store.no_clash i)))

  abbrev made : Moment
  made = record { scene = scene_after t r m.scene; store = record { facts = next.store.facts; variables = after } }

  is_made : next ≡ made
  is_made = λ i. record { scene = red.scene i; store = record { facts = next.store.facts; variables = red.store.variables i } }

  sound_made : IsSound w kinds made
  sound_made = record {
    definitions = sound.definitions;
    moment = record {
      entries = entries_after;
      items = items_after;
      regions = regions_after;
      inners = put_inners w m.store.facts w.defs kinds after n t r es p p' grown.more.sides fit sound.moment.inners red.outcome;
    };
    store = record {
      no_clash = red.store.no_clash;
      facts = facts_after;
      globals = λ i b e. local_kept r.local m.store.variables i b (sound.store.globals i b e);
    };
  }

  sound_next : IsSound w kinds next
  sound_next = subst (λ (x : Moment). IsSound w kinds x) (sym is_made) sound_made

pub steps_fit : StepsFit
steps_fit w kinds m t r next sound red = sound_next w kinds m t r next sound red
