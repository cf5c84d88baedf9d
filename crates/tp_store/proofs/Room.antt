-- Room for nodes: how many of a way aren't there, and how many follow what two ways share.
use Rattle.std.proofs.Common.{◌≡◌, ℕ, suc, ◌+◌, ◌-◌, ◌<◌, ◌≤◌, Bool, true, false, eqb, cond, List, [], ◌∷◌, ◌++◌, length, take, drop, get_or, slice_get, Option, Some, None, refl, ap, ap₂, sym, ◌∙◌, subst, arith}
use Rattle.std.proofs.lemmas.Bool.{eq-eqb}
use Rattle.std.proofs.lemmas.Bool.Decides.{Decides-eqb}
use Rattle.std.proofs.lemmas.List.{length-drop}
use Rattle.std.proofs.Math.ListN.{drop_of_length-le}
use Rattle.std.proofs.Math.Seq.{drop-cons}
use Rattle.indexmap.specs.IndexMap.{spare}
use Rattle.tp_value.specs.declared.path.Path.{Path}
use Rattle.tp_value.specs.declared.path.Fact.{Fact}
use Rattle.tp_store.specs.declared.nodes.Edge.{Edge}
use Rattle.tp_store.specs.declared.nodes.Nodes.{Nodes}
use Rattle.tp_store.specs.Nodes.{edges_in, child, node_or_none, node_from, way_of, steps_behind, room_behind, room_for, missing_behind, missing_nodes}
use Rattle.tp_store.proofs.Ways.{next_item}

missing_one : (o : Option ℕ) (further : ℕ) (f : ℕ → ℕ) → ((n : ℕ) → f n ≤ further) → missing_behind o further f ≤ suc further
missing_one None further f h = omega arith
missing_one (Some n) further f h = let l = h n in omega (arith, l)

-- each index takes a node at most
pub missing_most : (es : List Edge) (ks : List ℕ) (n : ℕ) → missing_nodes es ks n ≤ length ks
missing_most es [] n = omega arith
missing_most es (k ∷ ks) n = missing_one (child es n k) (length ks) (missing_nodes es ks) (λ m. missing_most es ks m)

missing_along : (o : Option ℕ) (further most : ℕ) (on : ℕ → Option ℕ) (f : ℕ → ℕ) (m : ℕ) → ((q : ℕ) → on q ≡ Some m → f q ≤ most) → node_or_none o on ≡ Some m → missing_behind o further f ≤ most
missing_along None further most on f m h e = absurd (cc e)
missing_along (Some q) further most on f m h e = h q e

-- where the nodes of the first way are there, only those behind what both share may not be
pub missing_after : (es : List Edge) (js ks : List ℕ) (n m : ℕ) → node_from es js n ≡ Some m → missing_nodes es ks n ≤ steps_behind js ks
missing_after es [] ks n m h = missing_most es ks n
missing_after es (j ∷ js) [] n m h = omega arith
missing_after es (j ∷ js) (k ∷ ks) n m h =
    let P : Bool → Type 0 = λ b. eqb j k ≡ b → missing_nodes es (k ∷ ks) n ≤ cond b (steps_behind js ks) (suc (length ks)) in
    let cases : P (eqb j k) = elim (eqb j k) as P [
      | true ↦ λ e. missing_along (child es n k) (length ks) (steps_behind js ks) (node_from es js) (missing_nodes es ks) m (λ q l. missing_after es js ks q m l)
          (subst (λ i. node_or_none (child es n i) (node_from es js) ≡ Some m) ((Decides-eqb j k).0 e) h)
      | false ↦ λ e. missing_most es (k ∷ ks) n
    ] in
    cases refl

-- no step of a way follows the way itself
pub steps_same : (ks : List ℕ) → steps_behind ks ks ≡ 0
steps_same [] = refl
steps_same (k ∷ ks) = ap (λ b. cond b (steps_behind ks ks) (suc (length ks))) (eq-eqb k k refl) ∙ steps_same ks

-- where one way ends, or both go apart, what is left of the second follows
pub steps_past : (js ks : List ℕ) (i : ℕ) → length js ≤ i → steps_behind (drop i js) (drop i ks) ≡ length ks - i
steps_past js ks i h = ap (λ xs. steps_behind xs (drop i ks)) (drop_of_length-le js h) ∙ length-drop i ks

pub steps_out : (js ks : List ℕ) (i : ℕ) → length ks ≤ i → steps_behind (drop i js) (drop i ks) ≡ length ks - i
steps_out js ks i h =
    let none : length ks - i ≡ 0 = omega (arith, h) in
    ap (steps_behind (drop i js)) (drop_of_length-le ks h) ∙ no_steps (drop i js) ∙ sym none
  where
    no_steps : (xs : List ℕ) → steps_behind xs [] ≡ 0
    no_steps [] = refl
    no_steps (x ∷ xs) = refl

pub steps_apart : (js ks : List ℕ) (i : ℕ) → i < length js → i < length ks → eqb (get_or js i 0) (get_or ks i 0) ≡ false → steps_behind (drop i js) (drop i ks) ≡ length ks - i
steps_apart js ks i l m h =
    let left = length-drop (suc i) ks in
    let more : suc (length (drop (suc i) ks)) ≡ length ks - i = omega (arith, left, m) in
    ap₂ steps_behind (drop-cons js i 0 l) (drop-cons ks i 0 m) ∙ ap (λ b. cond b (steps_behind (drop (suc i) js) (drop (suc i) ks)) (suc (length (drop (suc i) ks)))) h ∙ more

-- one step at least takes no more than the whole way
pub missing_first : (es : List Edge) (k : ℕ) (ks : List ℕ) (n : ℕ) → missing_nodes es (k ∷ []) n ≤ missing_nodes es (k ∷ ks) n
missing_first es k ks n = by_child (child es n k)
  where
    by_child : (o : Option ℕ) → missing_behind o 0 (missing_nodes es []) ≤ missing_behind o (length ks) (missing_nodes es ks)
    by_child None = omega arith
    by_child (Some m) = omega arith

-- what a step took of the room, and what the rest of the way takes, is what the way took
pub led_room : (old new : Nodes) (k : ℕ) (ks : List ℕ) (n m : ℕ) → spare old.below ≤ spare new.below + missing_nodes (edges_in old) (k ∷ []) n
    → ((q : ℕ) → child (edges_in old) n k ≡ Some q → new ≡ old) → child (edges_in new) n k ≡ Some m
    → spare old.below + missing_nodes (edges_in new) ks m ≤ spare new.below + missing_nodes (edges_in old) (k ∷ ks) n
led_room old new k ks n m room there led =
    let es = edges_in old in
    let P : Option ℕ → Type 0 = λ o. child es n k ≡ o → spare old.below ≤ spare new.below + missing_behind o 0 (missing_nodes es [])
    → spare old.below + missing_nodes (edges_in new) ks m ≤ spare new.below + missing_behind o (length ks) (missing_nodes es ks) in
    let most = missing_most (edges_in new) ks m in
    let cases : P (child es n k) = elim (child es n k) as P [
      | None ↦ λ e r. omega (arith, r, most)
      | Some q ↦ λ e r.
          (let same : new ≡ old = there q e in
          let is : m ≡ q = cc (sym led ∙ ap (λ (t : Nodes). child (edges_in t) n k) same ∙ e) in
          let rest : missing_nodes (edges_in new) ks m ≡ missing_nodes es ks q = ap₂ (λ (t : Nodes) (i : ℕ). missing_nodes (edges_in t) ks i) same is in
          omega (arith, r, rest))
    ] in
    cases refl room

-- the same of a whole way, of which the first step led to one node, and those after it to another
pub way_room : (old first last : Nodes) (v : ℕ) (p : Path) (ks : List ℕ) (n m : ℕ) → v ≡ p.var.number → spare old.below ≤ spare first.below + missing_nodes (edges_in old) (v ∷ []) 0
    → ((q : ℕ) → child (edges_in old) 0 v ≡ Some q → first ≡ old) → child (edges_in first) 0 v ≡ Some n
    → spare first.below + missing_nodes (edges_in last) ks m ≤ spare last.below + missing_nodes (edges_in first) p.at n
    → spare old.below + missing_nodes (edges_in last) ks m ≤ spare last.below + missing_nodes (edges_in old) (way_of p) 0
way_room old first last v p ks n m is room there led on =
    let all = led_room old first v p.at 0 n room there led in
    let same : missing_nodes (edges_in old) (v ∷ p.at) 0 ≡ missing_nodes (edges_in old) (way_of p) 0 = ap (λ k. missing_nodes (edges_in old) (k ∷ p.at) 0) is in
    omega (arith, all, same, on)

-- the indices that are left of a way
pub rest_of_way : (q : List ℕ) (i k : ℕ) → i < length q → k ≡ get_or q i 0 → drop i q ≡ k ∷ drop (i + 1) q
rest_of_way q i k l h = let m : i + 1 ≡ suc i = omega arith in drop-cons q i 0 l ∙ ap₂ (λ x j. x ∷ drop j q) (sym h) (sym m)

-- the way of the last of these facts, or else this one
abbrev pub last_way : List ℕ → List Fact → List ℕ
last_way way [] = way
last_way way (f ∷ fs) = last_way (way_of f.path) fs

last_of : (way : List ℕ) (fs : List Fact) (f : Fact) → last_way way (fs ++ f ∷ []) ≡ way_of f.path
last_of way [] f = refl
last_of way (g ∷ fs) f = last_of (way_of g.path) fs f

pub last_next : (way : List ℕ) (fs : List Fact) (i : ℕ) (f : Fact) → i < length fs → f ≡ get_or fs i f → last_way way (take (i + 1) fs) ≡ way_of f.path
last_next way fs i f l h = ap (last_way way) (next_item fs i f l h) ∙ last_of way (take i fs) f

-- the room for the facts that are left
pub room_next : (way : List ℕ) (fs : List Fact) (i : ℕ) (f : Fact) → i < length fs → f ≡ get_or fs i f
    → room_behind way (drop i fs) ≡ steps_behind way (way_of f.path) + room_behind (way_of f.path) (drop (i + 1) fs)
room_next way fs i f l h =
    let m : i + 1 ≡ suc i = omega arith in
    ap (room_behind way) (drop-cons fs i f l ∙ ap₂ (λ x k. x ∷ drop k fs) (sym h) (sym m))

-- the room for all facts, by the way of the first of them
pub room_first : (fs : List Fact) (f : Fact) → Some f ≡ slice_get fs 0 → suc (length f.path.at) + room_behind (way_of f.path) fs ≡ room_for fs
room_first [] f h = absurd (cc h)
room_first (g ∷ fs) f h =
    let is : f ≡ g = cc h in
    let none = steps_same (way_of g.path) in
    subst (λ x. suc (length x.path.at) + room_behind (way_of x.path) (g ∷ fs) ≡ room_for (g ∷ fs)) (sym is) (omega (arith, none))
