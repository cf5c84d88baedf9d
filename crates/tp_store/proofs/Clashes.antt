-- What may clash with the facts of a tree.
use Rattle.std.proofs.Common.{◌≡◌, ℕ, suc, ◌<◌, Bool, true, false, not, eqb, List, [], ◌∷◌, length, get_or, slice_get, Some, None, refl, ap, sym, ◌∙◌, arith}
use Rattle.std.specs.List.{IsDistinct}
use Rattle.std.proofs.lemmas.Bool.{eq-eqb, false_from_ne_true}
use Rattle.tp_value.specs.declared.value.Shape.{Shape}
use Rattle.tp_value.specs.declared.path.VarId.{VarId}
use Rattle.tp_value.specs.declared.path.Path.{Path}
use Rattle.tp_value.specs.declared.path.Fact.{Fact}
use Rattle.tp_store.specs.Facts.{same_shape, has_item, clash, is_excluded}
use Rattle.tp_store.specs.Known.{NoClash, addition, adds, first_clash}
use Rattle.tp_store.specs.FactMap.{AreOf, AreOfKind, facts_asked}
use Rattle.tp_store.specs.declared.copies.AskedVariables.TheVariants.{Of}
use Rattle.tp_store.specs.declared.nodes.Nodes.{Nodes}
use Rattle.std.specs.Map.{values_of}
use Rattle.tp_store.specs.declared.nodes.Edge.{Edge}
use Rattle.tp_store.specs.declared.nodes.Node.{Node}
use Rattle.tp_store.specs.Nodes.{same_edge, edges_in, nodes_in, child, node_or_none, node_from, routes, IsRooted, IsTree, facts_along, facts_in_tree, bare_node, way_of, shape_found, beyond_among, AreBeyond, lacks_path}
use Rattle.tp_store.proofs.Members.{In, excluded_by, in_filter, filter_in}
use Rattle.tp_store.proofs.Adding.{adds_to_none}
use Rattle.tp_store.proofs.Parts.{of_in, kind_from}
use Rattle.tp_store.proofs.Routes.{node_back, length_of_routes}
use Rattle.tp_store.proofs.Same.{clash-variable, excludes-variable, same_first, same_addition}
use Rattle.tp_store.proofs.FactMapLemmas.{no_first, kept_already, apart_from_all}
use Rattle.tp_store.proofs.Trees.{kept_is, of_tree, at_node, way_back}
use Rattle.tp_store.proofs.Ways.{lacks_is, none_beyond, shape_of_node}

-- facts of a variable of the other kind don't clash
pub other_clash : (b : Bool) (es : List Edge) (ns : List Node) (f : Fact) → (f.path.var.lasting ≡ b → ⊥) → first_clash (facts_along b (routes es) (bare_node ∷ ns)) f ≡ None
other_clash b es ns f h =
    no_first (facts_along b (routes es) (bare_node ∷ ns)) f (λ g i. false_from_ne_true (clash g f) (λ t. h (sym (ap (λ (x : VarId). x.lasting) (clash-variable g f t)) ∙ of_tree b es ns g i)))

pub other_excluded : (b : Bool) (es : List Edge) (ns : List Node) (q : Path) → (q.var.lasting ≡ b → ⊥) → is_excluded (facts_along b (routes es) (bare_node ∷ ns)) q ≡ false
other_excluded b es ns q h = false_from_ne_true _ (λ t.
    let r = excluded_by (facts_along b (routes es) (bare_node ∷ ns)) q t in
    h (sym (ap (λ (x : VarId). x.lasting) (excludes-variable r.0 q r.2)) ∙ of_tree b es ns r.0 r.1))

-- the facts of a tree are of one kind
pub kinds_of_tree : (b : Bool) (t : Nodes) → AreOfKind b (facts_in_tree b t)
kinds_of_tree b t = kind_from b (facts_in_tree b t) (of_tree b (edges_in t) (values_of t.below.entries))

-- where there is no node of a variable, there is no fact of it
pub none_of_variable : (b : Bool) (t : Nodes) (x : VarId) → IsTree t → IsDistinct same_edge (edges_in t) → child (edges_in t) 0 x.number ≡ None
    → (f : Fact) → In f (facts_in_tree b t) → f.path.var ≡ x → ⊥
none_of_variable b t x tree d none f i e =
    let es = edges_in t in
    let at = at_node b (routes es) (nodes_in t) f i in
    let long = length_of_routes es in
    let route : get_or (routes es) at.node [] ≡ way_of f.path = way_back b (get_or (routes es) at.node []) f.path (of_tree b es (values_of t.below.entries) f i) (sym at.path) in
    let there : node_from es (way_of f.path) 0 ≡ Some at.node =
    ap (λ ks. node_from es ks 0) (sym route) ∙ node_back es (suc at.node) at.node tree.rooted d (omega arith) (omega (arith, at.within, long)) in
    let gone : node_from es (way_of f.path) 0 ≡ None =
    ap (λ o. node_or_none o (node_from es f.path.at)) (ap (λ (y : VarId). child es 0 y.number) e ∙ none) in
    let z : None ≡ Some at.node = sym gone ∙ there in
    cc z

pub takes_all_of : (b : Bool) (t : Nodes) (x : VarId) (facts : List Fact) → IsTree t → IsDistinct same_edge (edges_in t) → NoClash (facts_in_tree b t) → child (edges_in t) 0 x.number ≡ None → AreOf x facts
    → addition (facts_in_tree b t) facts ≡ adds facts
takes_all_of b t x facts tree d n none a =
    same_addition (facts_in_tree b t) [] facts n tt (λ f i. record {
      there = λ g e j. absurd (none_of_variable b t x tree d none g j (e ∙ of_in x facts a f i));
      back = λ g e j. absurd j;
    }) ∙ adds_to_none facts

-- what clashes with a fact is of its variable
pub first_of_variable : (fs : List Fact) (f : Fact) → NoClash fs → first_clash (facts_asked (Of f.path.var.number) fs) f ≡ first_clash fs f
first_of_variable fs f n =
    let P : Fact → Bool = λ g. eqb g.path.var.number f.path.var.number in
    sym (same_first fs (facts_asked (Of f.path.var.number) fs) f n (record {
      there = λ g e i. filter_in P g fs i (eq-eqb _ _ (ap (λ (x : VarId). x.number) e));
      back = λ g e i. (in_filter P g fs i).0;
    }))

pub not_true : (b : Bool) → not b ≡ true → b ≡ false
not_true true h = absurd (cc h)
not_true false h = refl

pub not_false : (b : Bool) → not b ≡ false → b ≡ true
not_false true h = refl
not_false false h = absurd (cc h)

module _ (b : Bool) (es : List Edge) (ns : List Node) (r : IsRooted 1 es) (d : IsDistinct same_edge es) (long : length ns ≡ suc (length es))
    (f : Fact) (v : f.path.var.lasting ≡ b) (n : NoClash (facts_along b (routes es) ns)) where
  pub kept_clash : (i : ℕ) (node : Node) (sh : Shape) → node_from es (way_of f.path) 0 ≡ Some i → Some node ≡ slice_get ns i → node.shape ≡ Some sh → same_shape sh f.shape ≡ true
      → first_clash (facts_along b (routes es) ns) f ≡ None
  kept_clash i node sh way there shape same =
      kept_already (facts_along b (routes es) ns) f sh n (kept_is b es ns r d long f.path v ∙ ap (shape_found ns) way ∙ shape_of_node ns i node (sym there) ∙ shape) same

  pub free_clash : AreBeyond es ns → shape_found ns (node_from es (way_of f.path) 0) ≡ None → lacks_path es ns f.path ≡ false
      → ((i : ℕ) → node_from es (way_of f.path) 0 ≡ Some i → (k : ℕ) → k < beyond_among ns i → has_item f.shape k ≡ true)
      → first_clash (facts_along b (routes es) ns) f ≡ None
  free_clash bounds none lacks has =
      apart_from_all (facts_along b (routes es) ns) f (kept_is b es ns r d long f.path v ∙ none) (sym (lacks_is b es ns r d long f.path v n) ∙ lacks)
      (none_beyond b es ns r d long f v bounds has)

  -- where the path leads to no node
  pub gone_clash : AreBeyond es ns → node_from es (way_of f.path) 0 ≡ None → lacks_path es ns f.path ≡ false → first_clash (facts_along b (routes es) ns) f ≡ None
  gone_clash bounds gone lacks = free_clash bounds (ap (shape_found ns) gone) lacks (λ i way k low. let z : None ≡ Some i = sym gone ∙ way in absurd (cc z))
