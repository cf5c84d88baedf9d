-- Facts whose paths go on from a node with an index that a shape has no item for.
use Rattle.std.proofs.Common.{◌≡◌, ℕ, zero, suc, ◌<◌, inl, inr, Bool, true, false, not, ◌&&◌, ◌||◌, eqb, cond, List, [], ◌∷◌, ◌++◌, length, Option, Some, None, refl, ap, ap₂, sym, ◌∙◌, arith}
use Rattle.std.specs.List.{IsDistinct}
use Rattle.std.specs.Map.{values_of}
use Rattle.std.proofs.lemmas.Bool.{eq-eqb, false_from_ne_true}
use Rattle.std.proofs.lemmas.Bool.Decides.{Decides-eqb}
use Rattle.tp_value.specs.declared.value.Shape.{Shape}
use Rattle.tp_value.specs.declared.path.Path.{Path}
use Rattle.tp_value.specs.declared.path.Fact.{Fact}
use Rattle.tp_store.specs.Facts.{same_path, same_shape, has_item, leaves_out, excludes, clash, kept_shape, fact}
use Rattle.tp_store.specs.Known.{NoClash, first_clash, earlier_of}
use Rattle.tp_store.specs.FactMap.{has_no_item, IsNewFact}
use Rattle.tp_store.specs.declared.nodes.Edge.{Edge}
use Rattle.tp_store.specs.declared.nodes.Node.{Node}
use Rattle.tp_store.specs.declared.nodes.Nodes.{Nodes}
use Rattle.tp_store.specs.Nodes.{same_edge, edges_in, nodes_in, node_from, route_to, index_behind, path_of, way_of, shape_found, facts_in_tree, lacks_path, IsTree, IsCutOff}
use Rattle.tp_store.proofs.Paths.{same_truth-decides, same_path-refl}
use Rattle.tp_store.proofs.Members.{In, kept_in, in_kept, excluded_by}
use Rattle.tp_store.proofs.FactMapLemmas.{apart_from_all}
use Rattle.tp_store.proofs.Trees.{kept_is, of_tree, route_is}
use Rattle.tp_store.proofs.Ways.{lacks_is}
use Rattle.tp_store.proofs.Clashes.{not_true}
use Rattle.tp_store.proofs.Growth.{length_nodes}
use Rattle.tp_store.proofs.Routes.{inner_routes, length_of_routes, node_back}

-- what follows indices in those that go on from them
pub behind_itself : (xs : List ℕ) (k : ℕ) → index_behind xs (xs ++ k ∷ []) ≡ Some k
behind_itself [] k = refl
behind_itself (x ∷ xs) k = ap (λ b. cond b (index_behind xs (xs ++ k ∷ [])) None) (eq-eqb x x refl) ∙ behind_itself xs k

pub behind_root : (xs : List ℕ) (k : ℕ) → (xs ≡ [] → ⊥) → index_behind xs (k ∷ []) ≡ None
behind_root [] k h = absurd (h refl)
behind_root (x ∷ xs) k h = let P : Bool → Type 0 = λ b. cond b (index_behind xs []) None ≡ None in elim (eqb x k) as P [ true ↦ behind_nothing xs | false ↦ refl ]
  where
    behind_nothing : (ys : List ℕ) → index_behind ys [] ≡ None
    behind_nothing [] = refl
    behind_nothing (y ∷ ys) = refl

-- one index more at the end changes nothing, where others follow
pub behind_outer : (xs ys : List ℕ) (k : ℕ) → (xs ≡ ys → ⊥) → index_behind xs (ys ++ k ∷ []) ≡ index_behind xs ys
behind_outer [] [] k h = absurd (h refl)
behind_outer [] (y ∷ ys) k h = refl
behind_outer (x ∷ xs) [] k h = behind_root (x ∷ xs) k (λ e. cc e)
behind_outer (x ∷ xs) (y ∷ ys) k h =
    let P : Bool → Type 0 = λ b. eqb x y ≡ b → cond b (index_behind xs (ys ++ k ∷ [])) None ≡ cond b (index_behind xs ys) None in
    let cases : P (eqb x y) = elim (eqb x y) as P [
      | true ↦ λ e. behind_outer xs ys k (λ q. h (ap₂ (λ (n : ℕ) (ns : List ℕ). n ∷ ns) ((Decides-eqb x y).0 e) q))
      | false ↦ λ e. refl
    ] in
    cases refl

-- each node has its own way, and only the root's is empty
pub routes_apart : (t : Nodes) (m n : ℕ) → IsTree t → IsDistinct same_edge (edges_in t) → m < length (nodes_in t) → n < length (nodes_in t) → (n ≡ m → ⊥) → route_to t m ≡ route_to t n → ⊥
routes_apart t m n tree d a b h e =
    let es = edges_in t in
    let long = length_nodes t in
    let back : (i : ℕ) → i < length (nodes_in t) → node_from es (route_to t i) 0 ≡ Some i = λ i l. node_back es (suc i) i tree.rooted d (omega arith) (omega (arith, l, long)) in
    let z : Some n ≡ Some m = sym (back n b) ∙ ap (λ r. node_from es r 0) (sym e) ∙ back m a in
    h (cc z)

pub route_below : (t : Nodes) (n : ℕ) → 0 < n → n < length (nodes_in t) → route_to t n ≡ [] → ⊥
route_below t zero low high e = omega (arith, low)
route_below t (suc n) low high e =
    let long = length_nodes t in
    let all = length_of_routes (edges_in t) in
    inner_routes (edges_in t) n (omega (arith, high, long, all)) e

-- a fact excludes the paths that go on from its own with an index that its shape has no item for
leaves_index : (at : List ℕ) (sh : Shape) (ks : List ℕ) → leaves_out at sh ks ≡ has_no_item sh (index_behind at ks)
leaves_index [] sh [] = refl
leaves_index [] sh (k ∷ ks) = refl
leaves_index (j ∷ js) sh [] = refl
leaves_index (j ∷ js) sh (k ∷ ks) =
    let P : Bool → Type 0 = λ b. (b && leaves_out js sh ks) ≡ has_no_item sh (cond b (index_behind js ks) None) in
    elim (eqb j k) as P [ true ↦ leaves_index js sh ks | false ↦ refl ]

excludes_index : (f : Fact) (q : Path) → f.path.var.lasting ≡ q.var.lasting → excludes f q ≡ has_no_item f.shape (index_behind (way_of f.path) (way_of q))
excludes_index f q same =
    let P : Bool → Type 0 = λ b. ((b && true) && leaves_out f.path.at f.shape q.at) ≡ has_no_item f.shape (cond b (index_behind f.path.at q.at) None) in
    let cases : P (eqb f.path.var.number q.var.number) = elim (eqb f.path.var.number q.var.number) as P [ true ↦ leaves_index f.path.at f.shape q.at | false ↦ refl ] in
    ap (λ b. (eqb f.path.var.number q.var.number && b) && leaves_out f.path.at f.shape q.at) ((same_truth-decides _ _).1 same) ∙ cases

or_true : (b : Bool) → (b || true) ≡ true
or_true true = refl
or_true false = refl

clash_shapes : (g f : Fact) → same_path g.path f.path ≡ true → same_shape g.shape f.shape ≡ false → clash g f ≡ true
clash_shapes g f p s =
    ap (λ b. (b && not (same_shape g.shape f.shape)) || (excludes g f.path || excludes f g.path)) p ∙ ap (λ b. not b || (excludes g f.path || excludes f g.path)) s

clash_before : (g f : Fact) → excludes g f.path ≡ true → clash g f ≡ true
clash_before g f e = let c : Bool = same_path g.path f.path && not (same_shape g.shape f.shape) in ap (λ b. c || (b || excludes f g.path)) e ∙ or_true c

clash_behind : (g f : Fact) → excludes f g.path ≡ true → clash g f ≡ true
clash_behind g f e = let c : Bool = same_path g.path f.path && not (same_shape g.shape f.shape) in ap (λ b. c || (excludes g f.path || b)) e ∙ ap (λ b. c || b) (or_true (excludes g f.path)) ∙ or_true c

-- some fact clashes, so one of these is the first
some_first : (fs : List Fact) (g f : Fact) → In g fs → clash g f ≡ true → (h : Fact) × (first_clash fs f ≡ Some h)
some_first [] g f i c = absurd i
some_first (x ∷ fs) g f (inl e) c =
    let here : clash x f ≡ true = ap (λ (y : Fact). clash y f) e ∙ c in
    (earlier_of x (first_clash fs f), ap (λ b. cond b (Some (earlier_of x (first_clash fs f))) (first_clash fs f)) here)
some_first (x ∷ fs) g f (inr i) c =
    let rest = some_first fs g f i c in
    let P : Bool → Type 0 = λ b. (h : Fact) × (cond b (Some (earlier_of x (first_clash fs f))) (first_clash fs f) ≡ Some h) in
    elim (clash x f) as P [ true ↦ (earlier_of x (first_clash fs f), refl) | false ↦ rest ]

way_path : (b : Bool) (r : List ℕ) → (r ≡ [] → ⊥) → (way_of (path_of b r) ≡ r) × ((path_of b r).var.lasting ≡ b)
way_path b [] h = absurd (h refl)
way_path b (k ∷ ks) h = (refl, refl)

-- what becomes of a fact, by what the tree tells of it
module _ (t : Nodes) (f : Fact) (tree : IsTree t) (d : IsDistinct same_edge (edges_in t)) (n : NoClash (facts_in_tree f.path.var.lasting t)) where
  abbrev es : List Edge
  es = edges_in t

  abbrev ns : List Node
  ns = nodes_in t

  abbrev b : Bool
  b = f.path.var.lasting

  abbrev fs : List Fact
  fs = facts_in_tree b t

  kept : (q : Path) → q.var.lasting ≡ b → kept_shape fs q ≡ shape_found ns (node_from es (way_of q) 0)
  kept q v = kept_is b es ns tree.rooted d (length_nodes t) q v

  pub other_shape : (sh : Shape) → kept_shape fs f.path ≡ Some sh → same_shape sh f.shape ≡ false → (h : Fact) × (first_clash fs f ≡ Some h)
  other_shape sh e s = some_first fs (fact f.path sh) f (kept_in fs f.path sh e) (clash_shapes (fact f.path sh) f (same_path-refl f.path) s)

  pub left_out : lacks_path es ns f.path ≡ true → (h : Fact) × (first_clash fs f ≡ Some h)
  left_out l =
      let x = excluded_by fs f.path (sym (lacks_is b es ns tree.rooted d (length_nodes t) f.path refl n) ∙ l) in
      some_first fs x.0 f x.1 (clash_before x.0 f x.2)

  route : (m : ℕ) (q : Path) → node_from es (way_of q) 0 ≡ Some m → route_to t m ≡ way_of q
  route m q way = route_is b es ns tree.rooted d (length_nodes t) (way_of q) m way

  pub cut : (m at : ℕ) → node_from es (way_of f.path) 0 ≡ Some m → at < length ns → IsCutOff t m f.shape at → (h : Fact) × (first_clash fs f ≡ Some h)
  cut m zero way within c = absurd (let z : None ≡ Some c.kept = c.there in cc z)
  cut m (suc at) way within c =
      let p = path_of b (route_to t (suc at)) in
      let is = way_path b (route_to t (suc at)) (route_below t (suc at) (omega arith) within) in
      let long = length_nodes t in
      let there : node_from es (way_of p) 0 ≡ Some (suc at) = ap (λ r. node_from es r 0) is.0 ∙ node_back es (suc (suc at)) (suc at) tree.rooted d (omega arith) (omega (arith, within, long)) in
      let shape : kept_shape fs p ≡ Some c.kept = kept p is.1 ∙ ap (shape_found ns) there ∙ c.there in
      let after : index_behind (way_of f.path) (way_of p) ≡ Some c.index = ap₂ index_behind (sym (route m f.path way)) is.0 ∙ c.after in
      let out : excludes f p ≡ true = excludes_index f p (sym is.1) ∙ ap (has_no_item f.shape) after ∙ ap not c.none in
      some_first fs (fact p c.kept) f (kept_in fs p c.kept shape) (clash_behind (fact p c.kept) f out)

  pub free : (m : ℕ) → node_from es (way_of f.path) 0 ≡ Some m → kept_shape fs f.path ≡ None → lacks_path es ns f.path ≡ false → ((at : ℕ) → IsCutOff t m f.shape at → ⊥) → IsNewFact fs f
  free m way none lacks whole = record {
    none = none;
    apart = apart_from_all fs f none (sym (lacks_is b es ns tree.rooted d (length_nodes t) f.path refl n) ∙ lacks) (λ g i.
        false_from_ne_true (excludes f g.path) (λ out.
        let of : g.path.var.lasting ≡ b = of_tree b es (values_of t.below.entries) g i in
        let behind = index_behind (way_of f.path) (way_of g.path) in
        let lacking : has_no_item f.shape behind ≡ true = sym (excludes_index f g.path (sym of)) ∙ out in
        let shape : shape_found ns (node_from es (way_of g.path) 0) ≡ Some g.shape = sym (kept g.path of) ∙ in_kept fs g n i in
        at_index g shape behind refl lacking (node_from es (way_of g.path) 0) refl));
  }
    where
      at_index : (g : Fact) → shape_found ns (node_from es (way_of g.path) 0) ≡ Some g.shape → (o : Option ℕ) → index_behind (way_of f.path) (way_of g.path) ≡ o → has_no_item f.shape o ≡ true
          → (a : Option ℕ) → node_from es (way_of g.path) 0 ≡ a → ⊥
      at_index g shape None e lacking a q = cc lacking
      at_index g shape (Some k) e lacking None q = let z : None ≡ Some g.shape = ap (shape_found ns) (sym q) ∙ shape in cc z
      at_index g shape (Some k) e lacking (Some i) q = whole i (record {
        kept = g.shape;
        there = ap (shape_found ns) (sym q) ∙ shape;
        index = k;
        after = ap₂ index_behind (route m f.path way) (route i g.path q) ∙ e;
        none = not_true (has_item f.shape k) lacking;
      })
