-- What a tree is after it grows.
use Rattle.std.proofs.Common.{◌≡◌, inl, inr, ℕ, zero, suc, ◌-◌, ◌^◌, ◌<◌, ◌≤◌, List, [], ◌∷◌, ◌++◌, length, set, slice_get, Option, Some, None, refl, ap, ap₂, sym, ◌∙◌, subst, arith, append-nil, append_assoc}
use Rattle.std.specs.List.{IsDistinct}
use Rattle.std.proofs.lemmas.Option.{slice_get_within}
use Rattle.std.specs.Map.{keys_of, values_of}
use Rattle.indexmap.specs.IndexMap.{insert_entry, set_value_at, spare}
use Rattle.tp_value.specs.declared.path.Fact.{Fact}
use Rattle.tp_store.specs.declared.nodes.Edge.{Edge}
use Rattle.tp_store.specs.declared.nodes.Node.{Node}
use Rattle.tp_store.specs.declared.nodes.Nodes.{Nodes}
use Rattle.tp_store.specs.Facts.{kept_shape}
use Rattle.tp_store.specs.Known.{NoClash, deepest}
use Rattle.tp_store.specs.Changes.{HaveSameShapes}
use Rattle.tp_store.specs.Nodes.{bare_node, edge, same_edge, edges_in, nodes_in, child, routes, IsRooted, facts_along, beyond_among, with_node, AreBeyond, AreNarrow, StandAtNumbers, IsTree, HasMoreNodes, KeepsAll, IsRaised}
use Rattle.tp_store.proofs.Members.{In, in_kept}
use Rattle.tp_store.proofs.Same.{kept_depth}
use Rattle.tp_store.proofs.Routes.{rooted_more, child_there, child_found, length_more}
use Rattle.tp_store.proofs.Trees.{facts_grown, facts_same}
use Rattle.tp_store.proofs.Ways.{length_keys, length_values, keys_more, values_more, values_set, shape_of_node, beyond_of_node, entry_last, get_last, raised, bound_more, narrow_more, get_of_more, slice_left, none_past, beyond_there, length_with}

set_there : (xs : List ℕ) (n v : ℕ) → n < length xs → slice_get (set xs n v) n ≡ Some v
set_there [] n v h = absurd (omega arith)
set_there (x ∷ xs) zero v h = refl
set_there (x ∷ xs) (suc n) v h = set_there xs n v (omega arith)

set_other : (xs : List ℕ) (n k v : ℕ) → (k ≡ n → ⊥) → slice_get (set xs n v) k ≡ slice_get xs k
set_other [] n k v h = refl
set_other (x ∷ xs) zero zero v h = absurd (h refl)
set_other (x ∷ xs) zero (suc k) v h = refl
set_other (x ∷ xs) (suc n) zero v h = refl
set_other (x ∷ xs) (suc n) (suc k) v h = set_other xs n k v (λ e. h (ap suc e))

pub length_nodes : (t : Nodes) → length (nodes_in t) ≡ suc (length (edges_in t))
length_nodes t = ap suc (length_values t.below.entries)

pub none_more : (t : Nodes) → HasMoreNodes t t
none_more t = record { more = []; edges = sym (append-nil (edges_in t)); placed = refl; facts = λ b. refl }

pub more_then : (a b c : Nodes) → HasMoreNodes a b → HasMoreNodes b c → HasMoreNodes a c
more_then a b c m n = record {
  more = m.more ++ n.more;
  edges = n.edges ∙ ap (λ es. es ++ n.more) m.edges ∙ append_assoc (edges_in a) m.more n.more;
  placed = n.placed ∙ m.placed;
  facts = λ b. n.facts b ∙ m.facts b;
}

-- the same entries are the same tree
module _ (mid new : Nodes) (entries : new.below.entries ≡ mid.below.entries)
    (places : (k p : ℕ) → slice_get mid.places.items k ≡ Some p → slice_get new.places.items k ≡ Some p) where
  moved_edges : edges_in new ≡ edges_in mid
  moved_edges = ap keys_of entries

  moved_nodes : nodes_in new ≡ nodes_in mid
  moved_nodes = ap (λ (es : List (Edge × Node)). bare_node ∷ values_of es) entries

  pub moved_tree : IsTree mid → IsTree new
  moved_tree t =
      let R : List Edge → Type 0 = λ es. IsRooted 1 es × AreNarrow es in
      let B : List Edge → Type 0 = λ es. AreBeyond es (nodes_in new) in
      let N : List Node → Type 0 = λ ns. AreBeyond (edges_in mid) ns in
      let P : List Edge → Type 0 = λ es. StandAtNumbers es new.places.items in
      let edges = subst R (sym moved_edges) (t.rooted, t.narrow) in
      record {
        rooted = edges.0;
        placed = subst P (sym moved_edges) (λ i e q z. places e.index i (t.placed i e q z));
        narrow = edges.1;
        beyond = subst B (sym moved_edges) (subst N (sym moved_nodes) t.beyond);
      }

  pub moved_more : length new.places.items ≡ length mid.places.items → HasMoreNodes mid new
  moved_more long = record {
    more = [];
    edges = moved_edges ∙ sym (append-nil (edges_in mid));
    placed = long;
    facts = λ b. ap₂ (λ es ns. facts_along b (routes es) ns) moved_edges moved_nodes;
  }

-- an entry that wasn't there
pub grown_long : (mid : Nodes) (fs : List (Edge × Node)) (node index : ℕ) → child (edges_in mid) node index ≡ None → fs ≡ insert_entry same_edge mid.below.entries (edge node index) bare_node
    → length fs ≡ suc (length (edges_in mid))
grown_long mid fs node index none e =
    let a = ap length (entry_last mid.below.entries fs node index bare_node none e) in
    let b = length_more mid.below.entries (edge node index, bare_node) in
    let c = length_keys mid.below.entries in
    omega (arith, a, b, c)

-- A child of a node came last.
pub record HasGrown (mid new : Nodes) (node index : ℕ) : Type 0 where
  pub tree : IsTree new
  pub more : HasMoreNodes mid new
  pub found : IsDistinct same_edge (edges_in new) → child (edges_in new) node index ≡ Some (length new.below.entries)
  pub within : length new.below.entries < length (nodes_in new)

-- a child that wasn't there
module _ (mid new : Nodes) (node index : ℕ) (t : IsTree mid) (low : node < length (nodes_in mid)) (none : child (edges_in mid) node index ≡ None)
    (narrow : 0 < node → index < 2 ^ 32) (bound : 0 < node → index < beyond_among (nodes_in mid) node)
    (placed : StandAtNumbers (edges_in mid ++ edge node index ∷ []) new.places.items) (as_long : length new.places.items ≡ length mid.places.items)
    (entries : new.below.entries ≡ insert_entry same_edge mid.below.entries (edge node index) bare_node) where
  last : new.below.entries ≡ mid.below.entries ++ (edge node index, bare_node) ∷ []
  last = entry_last mid.below.entries new.below.entries node index bare_node none entries

  new_edges : edges_in new ≡ edges_in mid ++ edge node index ∷ []
  new_edges = ap keys_of last ∙ keys_more mid.below.entries (edge node index) bare_node

  new_nodes : nodes_in new ≡ nodes_in mid ++ bare_node ∷ []
  new_nodes = ap (λ (es : List (Edge × Node)). bare_node ∷ values_of es) last ∙ ap (λ vs. bare_node ∷ vs) (values_more mid.below.entries (edge node index) bare_node)

  new_tree : IsTree new
  new_tree =
      let R : List Edge → Type 0 = λ es. IsRooted 1 es × AreNarrow es in
      let B : List Edge → Type 0 = λ es. AreBeyond es (nodes_in new) in
      let N : List Node → Type 0 = λ ns. AreBeyond (edges_in mid ++ edge node index ∷ []) ns in
      let P : List Edge → Type 0 = λ es. StandAtNumbers es new.places.items in
      let long = length_nodes mid in
      let edges = subst R (sym new_edges) (
        rooted_more 1 (edges_in mid) (edge node index) t.rooted (omega (arith, low, long)),
        narrow_more (edges_in mid) (edge node index) t.narrow narrow,
      ) in
      record {
        rooted = edges.0;
        placed = subst P (sym new_edges) placed;
        narrow = edges.1;
        beyond = subst B (sym new_edges) (subst N (sym new_nodes) (bound_more (edges_in mid) (nodes_in mid) (edge node index) bare_node t.beyond bound));
      }

  new_more : HasMoreNodes mid new
  new_more = record {
    more = edge node index ∷ [];
    edges = new_edges;
    placed = as_long;
    facts = λ b. ap₂ (λ es ns. facts_along b (routes es) ns) new_edges new_nodes ∙ facts_grown b (edges_in mid) (nodes_in mid) (edge node index) bare_node (length_nodes mid) refl;
  }

  new_long : suc (length (edges_in mid)) ≡ length new.below.entries
  new_long =
      let a : length (edges_in new) ≡ suc (length (edges_in mid)) = ap length new_edges ∙ length_more (edges_in mid) (edge node index) in
      let b = length_keys new.below.entries in
      omega (arith, a, b)

  new_child : IsDistinct same_edge (edges_in new) → child (edges_in new) node index ≡ Some (length new.below.entries)
  new_child d =
      let there : slice_get (edges_in new) (length (edges_in mid)) ≡ Some (edge node index) =
      ap (λ es. slice_get es (length (edges_in mid))) new_edges ∙ get_last (edges_in mid) (edge node index) in
      child_there (edges_in new) (length (edges_in mid)) (edge node index) d there ∙ ap Some new_long

  new_within : length new.below.entries < length (nodes_in new)
  new_within =
      let a = length_nodes new in
      let b = length_keys new.below.entries in
      omega (arith, a, b)

  pub has_grown : HasGrown mid new node index
  has_grown = record { tree = new_tree; more = new_more; found = new_child; within = new_within }

-- a node that is written over
pub written : (t : Nodes) (n : ℕ) (v : Node) → 0 < n → bare_node ∷ values_of (set_value_at t.below.entries (n - 1) v) ≡ with_node (nodes_in t) n v
written t n v low =
    let more : n ≡ suc (n - 1) = omega (arith, low) in
    ap (λ (vs : List Node). bare_node ∷ vs) (values_set t.below.entries (n - 1) v) ∙ ap (λ k. with_node (nodes_in t) k v) (sym more)

pub node_below : (t : Nodes) (n : ℕ) (o : Option Node) → 0 < n → slice_get (values_of t.below.entries) (n - 1) ≡ o → slice_get (nodes_in t) n ≡ o
node_below t n o low h =
    let more : n ≡ suc (n - 1) = omega (arith, low) in
    ap (slice_get (nodes_in t)) more ∙ h

-- a node that keeps its shape
module _ (old new : Nodes) (node : ℕ) (v : Node) (t : IsTree old) (edges : edges_in new ≡ edges_in old) (nodes : nodes_in new ≡ with_node (nodes_in old) node v)
    (places : new.places.items ≡ old.places.items) (rises : beyond_among (nodes_in old) node ≤ v.beyond) where
  pub set_tree : IsTree new
  set_tree =
      let R : List Edge → Type 0 = λ es. IsRooted 1 es × AreNarrow es in
      let B : List Edge → Type 0 = λ es. AreBeyond es (nodes_in new) in
      let N : List Node → Type 0 = λ ns. AreBeyond (edges_in old) ns in
      let P : List Edge → Type 0 = λ es. StandAtNumbers es new.places.items in
      let Q : List ℕ → Type 0 = λ ps. StandAtNumbers (edges_in old) ps in
      let all = subst R (sym edges) (t.rooted, t.narrow) in
      record {
        rooted = all.0;
        placed = subst P (sym edges) (subst Q (sym places) t.placed);
        narrow = all.1;
        beyond = subst B (sym edges) (subst N (sym nodes) (raised (edges_in old) (nodes_in old) node v rises t.beyond));
      }

pub set_raised : (old new : Nodes) (node index : ℕ) (parent v : Node) → IsTree old → slice_get (nodes_in old) node ≡ Some parent → v.shape ≡ parent.shape
    → edges_in new ≡ edges_in old → nodes_in new ≡ with_node (nodes_in old) node v → new.places.items ≡ old.places.items → spare new.below ≡ spare old.below → parent.beyond ≤ v.beyond → index < v.beyond → IsRaised old node index new
set_raised old new node index parent v t there shape edges nodes places room rises l =
    let low = slice_get_within (nodes_in old) node parent there in
    let before = beyond_of_node (nodes_in old) node parent there in
    record {
      tree = set_tree old new node v t edges nodes places (omega (arith, before, rises));
      edges = edges;
      placed = ap length places;
      room = room;
      long = ap length nodes ∙ length_with (nodes_in old) node v;
      facts = λ b. ap₂ (λ es ns. facts_along b (routes es) ns) edges nodes ∙ facts_same b (routes (edges_in old)) (nodes_in old) node v (shape ∙ sym (shape_of_node (nodes_in old) node parent there));
      bound =
          (let after : beyond_among (nodes_in new) node ≡ v.beyond = ap (λ ns. beyond_among ns node) nodes ∙ beyond_there (nodes_in old) node v low in
          omega (arith, after, l));
    }

pub raised_more : (old mid : Nodes) (node index : ℕ) → IsRaised old node index mid → HasMoreNodes old mid
raised_more old mid node index r = record { more = []; edges = r.edges ∙ sym (append-nil (edges_in old)); placed = r.placed; facts = r.facts }

pub keeps_from : (old mid new : Nodes) (fs : List Fact) → HasMoreNodes old mid → KeepsAll mid fs new → KeepsAll old fs new
keeps_from old mid new fs more keeps b a n =
    let N : List Fact → Type 0 = λ gs. NoClash (gs ++ fs) in
    let k = keeps b a (subst N (sym (more.facts b)) n) in
    (k.0, λ p. k.1 p ∙ ap (λ gs. kept_shape (gs ++ fs) p) (more.facts b))

-- the greatest number of indices doesn't depend on the order
deepest_least : (fs : List Fact) (b : ℕ) → ((f : Fact) → In f fs → length f.path.at ≤ b) → deepest fs ≤ b
deepest_least [] b h = omega arith
deepest_least (f ∷ fs) b h =
    let here = h f (inl refl) in
    let rest = deepest_least fs b (λ g i. h g (inr i)) in
    omega (arith, here, rest)

pub deepest_same : (fs gs : List Fact) → NoClash fs → NoClash gs → HaveSameShapes fs gs → deepest fs ≡ deepest gs
deepest_same fs gs n m s =
    let a = deepest_least fs (deepest gs) (λ f i. kept_depth gs f.path f.shape (sym (s f.path) ∙ in_kept fs f n i)) in
    let b = deepest_least gs (deepest fs) (λ g i. kept_depth fs g.path g.shape (s g.path ∙ in_kept gs g m i)) in
    omega (arith, a, b)

-- one edge more: to an item, which has no place among the variables
pub placed_item : (es : List Edge) (e : Edge) (places : List ℕ) → 0 < e.node → StandAtNumbers es places → StandAtNumbers (es ++ e ∷ []) places
placed_item es e places low h i f q z = by (slice_get es i) refl
  where
    by : (o : Option Edge) → slice_get es i ≡ o → slice_get places f.index ≡ Some i
    by None p =
        let same : e ≡ f = get_of_more es e i f q (λ t. let n : None ≡ Some f = sym p ∙ t in cc n) in
        let node : e.node ≡ f.node = ap (λ (x : Edge). x.node) same in
        absurd (omega (arith, low, node, z))
    by (Some g) p =
        let left = slice_left es (e ∷ []) i g p in
        let n : Some g ≡ Some f = sym left ∙ q in
        h i f (p ∙ n) z

-- or to a variable, whose place is written
pub placed_root : (es : List Edge) (n : ℕ) (places : List ℕ) → n < length places → child es 0 n ≡ None → IsDistinct same_edge es → StandAtNumbers es places
    → StandAtNumbers (es ++ edge 0 n ∷ []) (set places n (length es))
placed_root es n places low none d h i f q z = by (slice_get es i) refl
  where
    by : (o : Option Edge) → slice_get es i ≡ o → slice_get (set places n (length es)) f.index ≡ Some i
    by None p =
        let same : edge 0 n ≡ f = get_of_more es (edge 0 n) i f q (λ t. let m : None ≡ Some f = sym p ∙ t in cc m) in
        let past = none_past es i p in
        let long = length_more es (edge 0 n) in
        let within = slice_get_within (es ++ edge 0 n ∷ []) i f q in
        let last : length es ≡ i = omega (arith, past, long, within) in
        ap (slice_get (set places n (length es))) (sym (ap (λ (x : Edge). x.index) same)) ∙ set_there places n (length es) low ∙ ap Some last
    by (Some g) p =
        let left = slice_left es (edge 0 n ∷ []) i g p in
        let m : Some g ≡ Some f = sym left ∙ q in
        let there = p ∙ m in
        let other : f.index ≡ n → ⊥ = λ e.
        (let here : child es f.node f.index ≡ Some (suc i) = child_there es i f d there in
        let gone : child es f.node f.index ≡ None = ap₂ (child es) z e ∙ none in
        let y : Some (suc i) ≡ None = sym here ∙ gone in
        cc y) in
        set_other places n f.index (length es) other ∙ h i f there z

-- where no edge stands at a variable's place, it has no node
pub no_root : (es : List Edge) (places : List ℕ) (n : ℕ) → StandAtNumbers es places → ((i : ℕ) → slice_get places n ≡ Some i → slice_get es i ≡ Some (edge 0 n) → ⊥) → child es 0 n ≡ None
no_root es places n h none = by (child es 0 n) refl
  where
    by : (o : Option ℕ) → child es 0 n ≡ o → o ≡ None
    by None p = refl
    by (Some c) p = let f = child_found es 0 n c p in absurd (none f.place (h f.place (edge 0 n) f.there refl) f.there)
