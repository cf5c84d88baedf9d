-- Facts as a tree of paths: its nodes, and what is kept at them.
use Rattle.std.specs.Prelude.{◌≡◌, ◌<◌, ◌+◌, ◌*◌, ◌^◌, ◌%◌, ℕ, zero, suc, Bool, not, ◌&&◌, ◌||◌, eqb, false, List, [], ◌∷◌, ◌++◌, Option, Some, None, slice_get, slice_index_or, length, if◌then◌else◌}
use Rattle.std.specs.List.{position}
use Rattle.indexmap.specs.IndexMap.{spare}
use Rattle.std.specs.Option.{option_map}
use Rattle.std.specs.Map.{keys_of, values_of}
use Rattle.tp_value.specs.declared.value.Shape.{Shape}
use Rattle.tp_value.specs.declared.path.VarId.{VarId}
use Rattle.tp_value.specs.declared.path.Path.{Path}
use Rattle.tp_value.specs.declared.path.Fact.{Fact}
use Rattle.tp_store.specs.Facts.{fact, has_item, kept_shape}
use Rattle.tp_value.specs.declared.value.Shape.TheVariants.{Items}
use Rattle.tp_store.specs.FactMap.{lacks_item, AreOfKind, IsNumberOrTruth}
use Rattle.tp_store.specs.Known.{NoClash}
use Rattle.tp_store.specs.Changes.{HaveSameShapes}
use Rattle.tp_store.specs.declared.nodes.Edge.{Edge}
use Rattle.tp_store.specs.declared.nodes.Node.{Node}
use Rattle.tp_store.specs.declared.nodes.Nodes.{Nodes}

abbrev pub edge : ℕ → ℕ → Edge
edge n k = record { node = n; index = k }

-- both numbers of an edge as one; where there are at most 2 ^ 32 nodes, each edge has its own
abbrev pub edge_number : Edge → ℕ
edge_number e = (e.node * 2 ^ 32 % 2 ^ 64 + e.index) % 2 ^ 64

abbrev pub same_edge : Edge → Edge → Bool
same_edge e f = eqb e.node f.node && eqb e.index f.index

-- the edges, of which the i-th leads to node i + 1; the root is node 0
abbrev pub edges_in : Nodes → List Edge
edges_in t = keys_of t.below.entries

-- nothing is kept there, and it has no children
abbrev pub bare_node : Node
bare_node = record { shape = None; beyond = 0 }

-- the nodes by their numbers, the root first
abbrev pub nodes_in : Nodes → List Node
nodes_in t = bare_node ∷ values_of t.below.entries

-- the child of a node with this index
abbrev pub child : List Edge → ℕ → ℕ → Option ℕ
child es n k = option_map suc (position (same_edge (edge n k)) es)

abbrev pub node_or_none : Option ℕ → (ℕ → Option ℕ) → Option ℕ
node_or_none None f = None
node_or_none (Some n) f = f n

-- the node that these indices lead to
abbrev pub node_from : List Edge → List ℕ → ℕ → Option ℕ
node_from es [] n = Some n
node_from es (k ∷ ks) n = node_or_none (child es n k) (node_from es ks)

-- the indices that lead to the nodes, where these are those of the nodes before them
abbrev pub routes_from : List (List ℕ) → List Edge → List (List ℕ)
routes_from known [] = known
routes_from known (e ∷ es) =
    routes_from (known ++ (slice_index_or known e.node [] ++ e.index ∷ []) ∷ []) es

-- the indices that lead to each node, from the root on
abbrev pub routes : List Edge → List (List ℕ)
routes es = routes_from ([] ∷ []) es

-- each edge starts at a node before the one that it leads to
abbrev pub IsRooted : ℕ → List Edge → Type 0
IsRooted n [] = Unit {0}
IsRooted n (e ∷ es) = (e.node < n) × IsRooted (suc n) es

-- each edge that doesn't start at the root has an index of a list
abbrev pub AreNarrow : List Edge → Type 0
AreNarrow es = (i : ℕ) (e : Edge) → slice_get es i ≡ Some e → 0 < e.node → e.index < 2 ^ 32

abbrev pub path_along : VarId → List ℕ → Path
path_along x ks = record { var = x; at = ks }

-- The path of the node to which these indices lead, of variables of this kind: the first is the
-- variable's number. The root's own is of the other kind, so it is none of theirs.
abbrev pub path_of : (lasting : Bool) → List ℕ → Path
path_of b [] = path_along (record { number = 0; lasting = not b }) []
path_of b (v ∷ ks) = path_along (record { number = v; lasting = b }) ks

-- the indices that lead to the node of a path
abbrev pub way_of : Path → List ℕ
way_of p = p.var.number ∷ p.at

-- the fact of a node, where it has a shape
abbrev pub fact_where : (lasting : Bool) → List ℕ → Option Shape → List Fact
fact_where b ks None = []
fact_where b ks (Some sh) = fact (path_of b ks) sh ∷ []

-- the facts that are kept at the nodes to which these indices lead
abbrev pub facts_along : (lasting : Bool) → List (List ℕ) → List Node → List Fact
facts_along b [] ns = []
facts_along b (r ∷ rs) [] = []
facts_along b (r ∷ rs) (n ∷ ns) = fact_where b r n.shape ++ facts_along b rs ns

abbrev pub facts_in_tree : (lasting : Bool) → Nodes → List Fact
facts_in_tree b t = facts_along b (routes (edges_in t)) (nodes_in t)

-- what is kept at a node
abbrev pub shape_among : List Node → ℕ → Option Shape
shape_among [] j = None
shape_among (n ∷ ns) zero = n.shape
shape_among (n ∷ ns) (suc j) = shape_among ns j

-- what is kept at a node, where there is one
abbrev pub shape_found : List Node → Option ℕ → Option Shape
shape_found ns None = None
shape_found ns (Some n) = shape_among ns n

-- a number that the indices of a node's children are less than
abbrev pub beyond_among : List Node → ℕ → ℕ
beyond_among [] j = 0
beyond_among (n ∷ ns) zero = n.beyond
beyond_among (n ∷ ns) (suc j) = beyond_among ns j

-- the nodes after one of them was replaced
abbrev pub with_node : List Node → ℕ → Node → List Node
with_node [] j v = []
with_node (n ∷ ns) zero v = v ∷ ns
with_node (n ∷ ns) (suc j) v = n ∷ with_node ns j v

-- the nodes after one of them got a shape
abbrev pub with_shape_at : List Node → ℕ → Shape → List Node
with_shape_at ns j sh =
    with_node ns j (record { shape = Some sh; beyond = beyond_among ns j })

-- each item's index is less than the bound of the node that it is a child of
abbrev pub AreBeyond : List Edge → List Node → Type 0
AreBeyond es ns =
    (i : ℕ) (e : Edge) → slice_get es i ≡ Some e → 0 < e.node → e.index < beyond_among ns e.node

-- the place of each edge to a variable's node stands at the variable's number
abbrev pub StandAtNumbers : List Edge → List ℕ → Type 0
StandAtNumbers es places =
    (i : ℕ) (e : Edge) → slice_get es i ≡ Some e → e.node ≡ 0 → slice_get places e.index ≡ Some i

-- The nodes are a tree, with bounds of their children, and those of variables are found by number.
pub record IsTree (t : Nodes) : Type 0 where
  pub rooted : IsRooted 1 (edges_in t)
  pub placed : StandAtNumbers (edges_in t) t.places.items
  pub narrow : AreNarrow (edges_in t)
  pub beyond : AreBeyond (edges_in t) (nodes_in t)

-- Nodes may have come to a tree, and no fact.
pub record HasMoreNodes (old new : Nodes) : Type 0 where
  pub more : List Edge
  pub edges : edges_in new ≡ edges_in old ++ more
  pub placed : length new.places.items ≡ length old.places.items
  pub facts : (b : Bool) → facts_in_tree b new ≡ facts_in_tree b old

-- The bound of a node is past this index, and the rest is as it was.
pub record IsRaised (old : Nodes) (node index : ℕ) (new : Nodes) : Type 0 where
  pub tree : IsTree new
  pub edges : edges_in new ≡ edges_in old
  pub placed : length new.places.items ≡ length old.places.items
  pub room : spare new.below ≡ spare old.below
  pub long : length (nodes_in new) ≡ length (nodes_in old)
  pub facts : (b : Bool) → facts_in_tree b new ≡ facts_in_tree b old
  pub bound : index < beyond_among (nodes_in new) node

abbrev pub lacks_below : Option ℕ → (ℕ → Bool) → Bool
lacks_below None f = false
lacks_below (Some n) f = f n

-- a shape on the way that these indices lead has no item with the next of them
abbrev pub lacks_way : List Edge → List Node → List ℕ → ℕ → Bool
lacks_way es ns [] n = false
lacks_way es ns (k ∷ ks) n =
    lacks_item (shape_among ns n) k || lacks_below (child es n k) (lacks_way es ns ks)

-- a shape on the way of a path has no item with the next of its indices
abbrev pub lacks_path : List Edge → List Node → Path → Bool
lacks_path es ns p = lacks_below (child es 0 p.var.number) (lacks_way es ns p.at)

-- what is kept of an item of the variable with this number
abbrev pub item_shape : Nodes → (number : ℕ) → ℕ → Option Shape
item_shape t v k = shape_found (nodes_in t) (node_from (edges_in t) (v ∷ k ∷ []) 0)

-- the items of the variable's value with lesser indices are numbers and truths
abbrev pub ArePlainBelow : (count : ℕ) → VarId → List Fact → Type 0
ArePlainBelow count x fs =
    (k : ℕ) → k < count → IsNumberOrTruth (kept_shape fs (path_along x (k ∷ [])))

-- the same, as the nodes tell it of the variable with this number
abbrev pub ArePlainItems : (count number : ℕ) → Nodes → Type 0
ArePlainItems count v t = (k : ℕ) → k < count → IsNumberOrTruth (item_shape t v k)

-- The variable with this number is a list that has an item with this index, of which nothing is
-- kept.
pub record LacksShape (t : Nodes) (number index : ℕ) : Type 0 where
  pub count : ℕ
  pub list : shape_found (nodes_in t) (node_from (edges_in t) (number ∷ []) 0) ≡ Some (Items count)
  pub within : index < count
  pub none : item_shape t number index ≡ None

-- the indices that lead to a node
abbrev pub route_to : Nodes → ℕ → List ℕ
route_to t n = slice_index_or (routes (edges_in t)) n []

-- the index that follows the first indices in the others, where these begin with them and go on
abbrev pub index_behind : (first others : List ℕ) → Option ℕ
index_behind [] [] = None
index_behind [] (k ∷ ks) = Some k
index_behind (j ∷ js) [] = None
index_behind (j ∷ js) (k ∷ ks) = if eqb j k then index_behind js ks else None

-- A fact is kept at that node, and its path goes on from the first one with an index that the shape
-- has no item for.
pub record IsCutOff (t : Nodes) (first : ℕ) (shape : Shape) (at : ℕ) : Type 0 where
  pub kept : Shape
  pub there : shape_among (nodes_in t) at ≡ Some kept
  pub index : ℕ
  pub after : index_behind (route_to t first) (route_to t at) ≡ Some index
  pub none : has_item shape index ≡ false

-- The facts are kept in a tree beside those that were, where they are of variables of one kind and
-- don't clash.
abbrev pub KeepsAll : Nodes → List Fact → Nodes → Type 0
KeepsAll old fs new =
    (b : Bool) → AreOfKind b fs → NoClash (facts_in_tree b old ++ fs)
    → NoClash (facts_in_tree b new)
    × HaveSameShapes (facts_in_tree b new) (facts_in_tree b old ++ fs)

-- each fact is of a variable with a lesser number
abbrev pub ArePlaced : (count : ℕ) → List Fact → Type 0
ArePlaced n [] = Unit {0}
ArePlaced n (f ∷ fs) = (f.path.var.number < n) × ArePlaced n fs

-- how many steps of the second way follow those that it shares with the first
abbrev pub steps_behind : (first second : List ℕ) → ℕ
steps_behind [] ks = length ks
steps_behind (j ∷ js) [] = 0
steps_behind (j ∷ js) (k ∷ ks) = if eqb j k then steps_behind js ks else suc (length ks)

-- how many nodes the paths of facts take at most, where there are those of this way
abbrev pub room_behind : List ℕ → List Fact → ℕ
room_behind way [] = 0
room_behind way (f ∷ fs) = steps_behind way (way_of f.path) + room_behind (way_of f.path) fs

-- the same, where none is known to be there
abbrev pub room_for : List Fact → ℕ
room_for fs = room_behind [] fs

abbrev pub missing_behind : Option ℕ → (further : ℕ) → (ℕ → ℕ) → ℕ
missing_behind None further f = suc further
missing_behind (Some n) further f = f n

-- how many of the nodes to which these indices lead aren't there
abbrev pub missing_nodes : List Edge → List ℕ → ℕ → ℕ
missing_nodes es [] n = 0
missing_nodes es (k ∷ ks) n = missing_behind (child es n k) (length ks) (missing_nodes es ks)

-- there is a node to which these indices lead
abbrev pub HasNode : List Edge → List ℕ → Type 0
HasNode es ks = (n : ℕ) × node_from es ks 0 ≡ Some n
