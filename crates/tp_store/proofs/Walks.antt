-- The facts that a walk through a tree came to.
use Rattle.std.proofs.Common.{◌≡◌, ℕ, ◌+◌, ◌<◌, ◌≤◌, nat_lt, Bool, true, false, ◌&&◌, ◌||◌, cond, eqb, List, [], ◌∷◌, ◌++◌, length, filter, Option, Some, None, refl, ap, ap₂, sym, ◌∙◌, arith, append_assoc}
use Rattle.std.specs.List.{IsDistinct}
use Rattle.std.specs.Map.{values_of}
use Rattle.std.proofs.lemmas.Bool.{both_ways, false_from_ne_true, and_parts, and_left, and_right, ne_eqb, eq-eqb, eqb-true, lt-ltb, ltb-true, le-ltb}
use Rattle.std.proofs.lemmas.Bool.Decides.{Decides-eqb, Decides-like, same_from_decides}
use Rattle.std.proofs.lemmas.Option.{slice_get_within}
use Rattle.tp_value.specs.declared.value.Shape.{Shape}
use Rattle.tp_value.specs.declared.path.VarId.{VarId}
use Rattle.tp_value.specs.declared.path.Path.{Path}
use Rattle.tp_value.specs.declared.path.Fact.{Fact}
use Rattle.tp_store.specs.declared.copies.AskedVariables.TheVariants.{Of}
use Rattle.tp_store.specs.declared.nodes.Nodes.{Nodes}
use Rattle.tp_store.specs.Facts.{same_variable, same_indices, same_path, kept_shape, item_path, fact}
use Rattle.tp_store.specs.Known.{NoClash, facts_below}
use Rattle.tp_store.specs.Changes.{HaveSameShapes, HasAppended}
use Rattle.tp_store.specs.FactMap.{facts_asked, go_on_from, is_at_or_inside, facts_from}
use Rattle.tp_store.specs.Nodes.{edge, same_edge, edges_in, nodes_in, child, node_or_none, node_from, path_along, way_of, fact_where, facts_in_tree, shape_among, shape_found, beyond_among, IsTree}
use Rattle.tp_store.proofs.Paths.{same_variable-decides, same_path-decides}
use Rattle.tp_store.proofs.Members.{kept_in, in_filter, apart_in, NoClash-append, NoClash-filter}
use Rattle.tp_store.proofs.Joined.{or_else, kept_shape-append, then_appended, appended_same, none_appended}
use Rattle.tp_store.proofs.Routes.{child_found}
use Rattle.tp_store.proofs.Trees.{kept_is, of_tree}
use Rattle.tp_store.proofs.Ways.{way_below}
use Rattle.tp_store.proofs.Growth.{length_nodes}

-- the facts of the paths that a test admits
abbrev pub those : (Path → Bool) → List Fact → List Fact
those P = filter (λ f. P f.path)

none_either : (b : Bool) → cond {A = Option Shape} b None None ≡ None
none_either true = refl
none_either false = refl

kept_those : (P : Path → Bool) (fs : List Fact) (q : Path) → kept_shape (those P fs) q ≡ cond (P q) (kept_shape fs q) None
kept_those P [] q = sym (none_either (P q))
kept_those P (f ∷ fs) q = by (kept_those P fs q) (P f.path) refl (same_path f.path q) refl
  where
    here : same_path f.path q ≡ true → P q ≡ P f.path
    here t = ap P (sym ((same_path-decides f.path q).0 t))

    by : kept_shape (those P fs) q ≡ cond (P q) (kept_shape fs q) None → (a : Bool) → P f.path ≡ a → (s : Bool) → same_path f.path q ≡ s
        → kept_shape (cond a (f ∷ those P fs) (those P fs)) q ≡ cond (P q) (cond s (Some f.shape) (kept_shape fs q)) None
    by rest true e true t = ap (λ b. cond b (Some f.shape) (kept_shape (those P fs) q)) t ∙ sym (ap (λ b. cond b (Some f.shape) None) (here t ∙ e))
    by rest true e false t = ap (λ b. cond b (Some f.shape) (kept_shape (those P fs) q)) t ∙ rest
    by rest false e true t = rest ∙ ap (λ b. cond b (kept_shape fs q) None) (here t ∙ e) ∙ sym (ap (λ b. cond b (Some f.shape) None) (here t ∙ e))
    by rest false e false t = rest

same_those : (P Q : Path → Bool) (fs : List Fact) → ((q : Path) (sh : Shape) → kept_shape fs q ≡ Some sh → P q ≡ Q q) → HaveSameShapes (those P fs) (those Q fs)
same_those P Q fs h q = kept_those P fs q ∙ by (kept_shape fs q) refl ∙ sym (kept_those Q fs q)
  where
    by : (o : Option Shape) → kept_shape fs q ≡ o → cond (P q) o None ≡ cond (Q q) o None
    by None e = none_either (P q) ∙ sym (none_either (Q q))
    by (Some sh) e = ap (λ b. cond b (Some sh) None) (h q sh e)

none_of_those : (P : Path → Bool) (fs : List Fact) → ((q : Path) (sh : Shape) → kept_shape fs q ≡ Some sh → P q ≡ false) → (q : Path) → kept_shape (those P fs) q ≡ None
none_of_those P fs h q = same_those P (λ p. false) fs h q ∙ kept_those (λ p. false) fs q

-- those of either of two tests
module _ (P Q R : Path → Bool) (all : List Fact) (n : NoClash all) (other : (q : Path) → P q ≡ true → Q q ≡ false)
    (either : (q : Path) (sh : Shape) → kept_shape all q ≡ Some sh → R q ≡ (P q || Q q)) where
  parts_apart : NoClash (those P all ++ those Q all)
  parts_apart = NoClash-append (those P all) (those Q all) (NoClash-filter (λ f. P f.path) all n) (NoClash-filter (λ f. Q f.path) all n) (λ f g i j.
      let u = in_filter (λ h. P h.path) f all i in
      let w = in_filter (λ h. Q h.path) g all j in (
        false_from_ne_true (same_path g.path f.path) (λ t. both_ways (Q f.path) (other f.path u.1) (ap Q (sym ((same_path-decides g.path f.path).0 t)) ∙ w.1)),
        apart_in all g f n w.0 u.0,
      ))

  one_of : (a b : Bool) (sh : Shape) → or_else (cond a (Some sh) None) (cond b (Some sh) None) ≡ cond (a || b) (Some sh) None
  one_of true b sh = refl
  one_of false b sh = refl

  parts_same : HaveSameShapes (those P all ++ those Q all) (those R all)
  parts_same q = kept_shape-append (those P all) (those Q all) q ∙ ap₂ or_else (kept_those P all q) (kept_those Q all q) ∙ by (kept_shape all q) refl ∙ sym (kept_those R all q)
    where
      by : (o : Option Shape) → kept_shape all q ≡ o → or_else (cond (P q) o None) (cond (Q q) o None) ≡ cond (R q) o None
      by None e = ap₂ or_else (none_either (P q)) (none_either (Q q)) ∙ sym (none_either (R q))
      by (Some sh) e = one_of (P q) (Q q) sh ∙ sym (ap (λ b. cond b (Some sh) None) (either q sh e))

  both_appended : (old mid new : List Fact) → HasAppended (those P all) old mid → HasAppended (those Q all) mid new → HasAppended (those R all) old new
  both_appended old mid new h k = then_appended (those P all) (those Q all) (those R all) old mid new parts_apart parts_same h k

-- the second indices are the first ones, or go on from them with an index below k
abbrev go_on_below : (k : ℕ) (first second : List ℕ) → Bool
go_on_below k [] [] = true
go_on_below k [] (j ∷ js) = nat_lt j k
go_on_below k (i ∷ is) [] = false
go_on_below k (i ∷ is) (j ∷ js) = eqb i j && go_on_below k is js

-- the path is the outer one, or one of something inside of its first k items
abbrev pub is_before : (outer : Path) → ℕ → Path → Bool
is_before p k q = same_variable p.var q.var && go_on_below k p.at q.at

eqb_swap : (j k : ℕ) → eqb j k ≡ eqb k j
eqb_swap j k = same_from_decides (eqb j k) (eqb k j) (Decides-eqb j k) (Decides-like (eqb k j) (λ e. sym e) (λ e. sym e) (Decides-eqb k j))

lt_next : (j k : ℕ) → nat_lt j (k + 1) ≡ (nat_lt j k || eqb j k)
lt_next j k = by (nat_lt j k) refl (eqb j k) refl
  where
    by : (a : Bool) → nat_lt j k ≡ a → (b : Bool) → eqb j k ≡ b → nat_lt j (k + 1) ≡ (a || b)
    by true e b s = let l = ltb-true j k e in lt-ltb j (k + 1) (omega (arith, l))
    by false e true s = let q = eqb-true j k s in lt-ltb j (k + 1) (omega (arith, q))
    by false e false s = false_from_ne_true (nat_lt j (k + 1)) (λ t.
        let l = ltb-true j (k + 1) t in
        let not_less : j < k → ⊥ = λ m. both_ways (nat_lt j k) e (lt-ltb j k m) in
        let not_same : j ≡ k → ⊥ = λ m. both_ways (eqb j k) s (eq-eqb j k m) in
        omega (arith, l, not_less, not_same))

below_none : (xs ys : List ℕ) → go_on_below 0 xs ys ≡ same_indices xs ys
below_none [] [] = refl
below_none [] (j ∷ js) = le-ltb j 0 (omega arith)
below_none (i ∷ is) [] = refl
below_none (i ∷ is) (j ∷ js) = ap (λ b. eqb i j && b) (below_none is js)

and_or : (a b c : Bool) → (a && (b || c)) ≡ ((a && b) || (a && c))
and_or true b c = refl
and_or false b c = refl

below_next : (k : ℕ) (xs ys : List ℕ) → go_on_below (k + 1) xs ys ≡ (go_on_below k xs ys || go_on_from (xs ++ k ∷ []) ys)
below_next k [] [] = refl
below_next k [] (j ∷ js) = lt_next j k ∙ ap (λ b. nat_lt j k || b) (eqb_swap j k ∙ and_true (eqb k j))
  where
    and_true : (b : Bool) → b ≡ (b && true)
    and_true true = refl
    and_true false = refl
below_next k (i ∷ is) [] = refl
below_next k (i ∷ is) (j ∷ js) = ap (λ b. eqb i j && b) (below_next k is js) ∙ and_or (eqb i j) (go_on_below k is js) (go_on_from (is ++ k ∷ []) js)

below_other : (k : ℕ) (xs ys : List ℕ) → go_on_below k xs ys ≡ true → go_on_from (xs ++ k ∷ []) ys ≡ false
below_other k [] [] h = refl
below_other k [] (j ∷ js) h = let l = ltb-true j k h in and_left (eqb k j) (go_on_from [] js) (ne_eqb k j (λ e. let q : k ≡ j = e in omega (arith, l, q)))
below_other k (i ∷ is) [] h = absurd (cc h)
below_other k (i ∷ is) (j ∷ js) h = and_right (eqb i j) (go_on_from (is ++ k ∷ []) js) (below_other k is js (and_parts (eqb i j) (go_on_below k is js) h).1)

below_bound : (k : ℕ) (xs ys : List ℕ) → ((j : ℕ) (js : List ℕ) → ys ≡ xs ++ j ∷ js → j < k) → go_on_below k xs ys ≡ go_on_from xs ys
below_bound k [] [] h = refl
below_bound k [] (j ∷ js) h = lt-ltb j k (h j js refl)
below_bound k (i ∷ is) [] h = refl
below_bound k (i ∷ is) (j ∷ js) h = by (λ e. below_bound k is js (λ m ms q. h m ms (ap₂ (λ (x : ℕ) (xs : List ℕ). x ∷ xs) (sym e) q))) (eqb i j) refl
  where
    by : (i ≡ j → go_on_below k is js ≡ go_on_from is js) → (a : Bool) → eqb i j ≡ a → (a && go_on_below k is js) ≡ (a && go_on_from is js)
    by rest true e = rest (eqb-true i j e)
    by rest false e = refl

from_rest : (xs ys : List ℕ) → go_on_from xs ys ≡ true → (rest : List ℕ) × (ys ≡ xs ++ rest)
from_rest [] ys h = (ys, refl)
from_rest (i ∷ is) [] h = absurd (cc h)
from_rest (i ∷ is) (j ∷ js) h =
    let parts = and_parts (eqb i j) (go_on_from is js) h in
    let r = from_rest is js parts.1 in
    (r.0, ap₂ (λ (x : ℕ) (xs : List ℕ). x ∷ xs) (sym (eqb-true i j parts.0)) r.1)

before_other : (p : Path) (k : ℕ) (q : Path) → is_before p k q ≡ true → is_at_or_inside (item_path p k) q ≡ false
before_other p k q h = and_right (same_variable p.var q.var) (go_on_from (p.at ++ k ∷ []) q.at) (below_other k p.at q.at (and_parts (same_variable p.var q.var) (go_on_below k p.at q.at) h).1)

before_next : (p : Path) (k : ℕ) (q : Path) → is_before p (k + 1) q ≡ (is_before p k q || is_at_or_inside (item_path p k) q)
before_next p k q = ap (λ b. same_variable p.var q.var && b) (below_next k p.at q.at) ∙ and_or (same_variable p.var q.var) (go_on_below k p.at q.at) (go_on_from (p.at ++ k ∷ []) q.at)

node_further : (es : List _) (xs ys : List ℕ) (n : ℕ) → node_from es (xs ++ ys) n ≡ node_or_none (node_from es xs n) (node_from es ys)
node_further es [] ys n = refl
node_further es (x ∷ xs) ys n = by (λ c. node_further es xs ys c) (child es n x)
  where
    by : ((c : ℕ) → node_from es (xs ++ ys) c ≡ node_or_none (node_from es xs c) (node_from es ys)) → (o : Option ℕ)
        → node_or_none o (node_from es (xs ++ ys)) ≡ node_or_none (node_or_none o (node_from es xs)) (node_from es ys)
    by rest None = refl
    by rest (Some c) = rest c

-- what a tree keeps below a node to which a path leads
module _ (t : Nodes) (b : Bool) (tree : IsTree t) (d : IsDistinct same_edge (edges_in t)) where
  abbrev all : List Fact
  all = facts_in_tree b t

  -- a path with a shape is of this kind, and leads to a node
  record Leads (q : Path) : Type 0 where
    kind : q.var.lasting ≡ b
    node : ℕ
    way : node_from (edges_in t) (way_of q) 0 ≡ Some node

  leads : (q : Path) (sh : Shape) → kept_shape all q ≡ Some sh → Leads q
  leads q sh e =
      let of : q.var.lasting ≡ b = of_tree b (edges_in t) (values_of t.below.entries) (fact q sh) (kept_in all q sh e) in
      by of (sym (kept_is b (edges_in t) (nodes_in t) tree.rooted d (length_nodes t) q of) ∙ e) (node_from (edges_in t) (way_of q) 0) refl
    where
      by : q.var.lasting ≡ b → shape_found (nodes_in t) (node_from (edges_in t) (way_of q) 0) ≡ Some sh → (o : Option ℕ) → node_from (edges_in t) (way_of q) 0 ≡ o → Leads q
      by of found None w = let z : None ≡ Some sh = ap (shape_found (nodes_in t)) (sym w) ∙ found in cc z
      by of found (Some m) w = record { kind = of; node = m; way = w }

  -- a variable without a node
  pub no_variable : (v : ℕ) (old : List Fact) → child (edges_in t) 0 v ≡ None → HasAppended (facts_asked (Of v) all) old old
  no_variable v old none = none_appended (facts_asked (Of v) all) old (none_of_those (λ q. eqb q.var.number v) all (λ q sh e.
      false_from_ne_true (eqb q.var.number v) (λ s.
      let l = leads q sh e in
      let gone : node_from (edges_in t) (way_of q) 0 ≡ None = ap (λ o. node_or_none o (node_from (edges_in t) q.at)) (ap (child (edges_in t) 0) (eqb-true q.var.number v s) ∙ none) in
      let z : None ≡ Some l.node = sym gone ∙ l.way in
      cc z)))

  -- what a variable's node leads to are its facts
  pub whole_variable : (v : ℕ) (old new : List Fact) → HasAppended (facts_from (path_along (record { number = v; lasting = b }) []) all) old new → HasAppended (facts_asked (Of v) all) old new
  whole_variable v old new h =
      let x : VarId = record { number = v; lasting = b } in
      let own : (q : Path) → q.var.lasting ≡ b → (same_variable x q.var && true) ≡ eqb q.var.number v = λ q k. by x q k (eqb q.var.number v) refl in
      appended_same (facts_from (path_along x []) all) (facts_asked (Of v) all) old new (same_those (is_at_or_inside (path_along x [])) (λ q. eqb q.var.number v) all (λ q sh e. own q (leads q sh e).kind)) h
    where
      by : (x : VarId) (q : Path) → q.var.lasting ≡ x.lasting → (s : Bool) → eqb q.var.number x.number ≡ s → (same_variable x q.var && true) ≡ s
      by x q k true s =
          let make : ℕ → Bool → VarId = λ n c. record { number = n; lasting = c } in
          ap (λ c. c && true) ((same_variable-decides x q.var).1 (sym (ap₂ make (eqb-true q.var.number x.number s) k)))
      by x q k false s = and_left (same_variable x q.var) true (false_from_ne_true (same_variable x q.var) (λ m.
          both_ways (eqb q.var.number x.number) s (eq-eqb q.var.number x.number (ap (λ (y : VarId). y.number) (sym ((same_variable-decides x q.var).0 m))))))

  pub no_variables : (old : List Fact) → HasAppended (facts_below 0 all) old old
  no_variables old = none_appended (facts_below 0 all) old (none_of_those (λ q. nat_lt q.var.number 0) all (λ q sh e. le-ltb q.var.number 0 (omega arith)))

  pub next_variable : (v : ℕ) (old mid new : List Fact) → NoClash all → HasAppended (facts_below v all) old mid → HasAppended (facts_asked (Of v) all) mid new → HasAppended (facts_below (v + 1) all) old new
  next_variable v old mid new n h k =
      both_appended (λ q. nat_lt q.var.number v) (λ q. eqb q.var.number v) (λ q. nat_lt q.var.number (v + 1)) all n
      (λ q s. ne_eqb q.var.number v (λ e. let l = ltb-true q.var.number v s in let m : q.var.number ≡ v = e in omega (arith, l, m)))
      (λ q sh e. lt_next q.var.number v) old mid new h k

  -- those of all places are those of all variables with nodes
  pub all_variables : (v below : ℕ) (old new : List Fact) → v ≤ below → ((k : ℕ) → k < below → k < length t.places.items → k < v) → HasAppended (facts_below v all) old new → HasAppended (facts_below below all) old new
  all_variables v below old new low high h =
      appended_same (facts_below v all) (facts_below below all) old new (same_those (λ q. nat_lt q.var.number v) (λ q. nat_lt q.var.number below) all (λ q sh e. by q (leads q sh e) (nat_lt q.var.number below) refl)) h
    where
      placed : (q : Path) → (m : ℕ) → (o : Option ℕ) → child (edges_in t) 0 q.var.number ≡ o → node_or_none o (node_from (edges_in t) q.at) ≡ Some m → q.var.number < length t.places.items
      placed q m None w e = absurd (cc e)
      placed q m (Some c) w e =
          let f = child_found (edges_in t) 0 q.var.number c w in
          slice_get_within t.places.items q.var.number f.place (tree.placed f.place (edge 0 q.var.number) f.there refl)

      by : (q : Path) → Leads q → (s : Bool) → nat_lt q.var.number below ≡ s → nat_lt q.var.number v ≡ s
      by q l true s = lt-ltb q.var.number v (high q.var.number (ltb-true q.var.number below s) (placed q l.node (child (edges_in t) 0 q.var.number) refl l.way))
      by q l false s = false_from_ne_true (nat_lt q.var.number v) (λ m.
          let less = ltb-true q.var.number v m in
          both_ways (nat_lt q.var.number below) s (lt-ltb q.var.number below (omega (arith, low, less))))

-- the same below a node to which a path leads
module _ (t : Nodes) (p : Path) (node : ℕ) (tree : IsTree t) (d : IsDistinct same_edge (edges_in t)) (way : node_from (edges_in t) (way_of p) 0 ≡ Some node) where
  abbrev found : List Fact
  found = facts_in_tree p.var.lasting t

  -- what is kept there
  pub kept_there : kept_shape found p ≡ shape_among (nodes_in t) node
  kept_there = kept_is p.var.lasting (edges_in t) (nodes_in t) tree.rooted d (length_nodes t) p refl ∙ ap (shape_found (nodes_in t)) way

  pub node_fact : (old new : List Fact) → new ≡ old ++ fact_where p.var.lasting (way_of p) (shape_among (nodes_in t) node) → HasAppended (those (is_before p 0) found) old new
  node_fact old new e = by (shape_among (nodes_in t) node) kept_there e
    where
      here : (q : Path) → kept_shape (those (is_before p 0) found) q ≡ cond (same_path p q) (kept_shape found q) None
      here q = kept_those (is_before p 0) found q ∙ ap (λ c. cond (same_variable p.var q.var && c) (kept_shape found q) None) (below_none p.at q.at)

      only : (o : Option Shape) → kept_shape found p ≡ o → (q : Path) → cond (same_path p q) o None ≡ cond (same_path p q) (kept_shape found q) None
      only o k q = at (same_path p q) refl
        where
          at : (c : Bool) → same_path p q ≡ c → cond c o None ≡ cond c (kept_shape found q) None
          at true s = sym k ∙ ap (kept_shape found) ((same_path-decides p q).0 s)
          at false s = refl

      by : (o : Option Shape) → kept_shape found p ≡ o → new ≡ old ++ fact_where p.var.lasting (way_of p) o → HasAppended (those (is_before p 0) found) old new
      by None k l = record { appended = []; list = l; no_clash = tt; shapes = λ q. sym (here q ∙ sym (only None k q) ∙ none_either (same_path p q)) }
      by (Some sh) k l = record { appended = fact p sh ∷ []; list = l; no_clash = (refl, refl, tt); shapes = λ q. only (Some sh) k q ∙ sym (here q) }

  -- the way that goes on to an item
  on_way : (q : Path) (ks : List ℕ) → p.var ≡ q.var → q.at ≡ p.at ++ ks → node_from (edges_in t) (way_of q) 0 ≡ node_from (edges_in t) ks node
  on_way q ks e f =
      ap₂ (λ (x : VarId) (at : List ℕ). node_from (edges_in t) (x.number ∷ at) 0) (sym e) f
      ∙ node_further (edges_in t) (way_of p) ks 0 ∙ ap (λ o. node_or_none o (node_from (edges_in t) ks)) way

  pub item_way : (k c : ℕ) → child (edges_in t) node k ≡ Some c → node_from (edges_in t) (way_of (item_path p k)) 0 ≡ Some c
  item_way k c e = on_way (item_path p k) (k ∷ []) refl refl ∙ ap (λ o. node_or_none o (node_from (edges_in t) [])) e

  pub no_item_kept : (k : ℕ) → child (edges_in t) node k ≡ None → kept_shape found (item_path p k) ≡ None
  no_item_kept k e =
      kept_is p.var.lasting (edges_in t) (nodes_in t) tree.rooted d (length_nodes t) (item_path p k) refl
      ∙ ap (shape_found (nodes_in t)) (on_way (item_path p k) (k ∷ []) refl refl ∙ ap (λ o. node_or_none o (node_from (edges_in t) [])) e)

  -- an item that has no node
  pub no_item : (k : ℕ) (old new : List Fact) → child (edges_in t) node k ≡ None → HasAppended (those (is_before p k) found) old new → HasAppended (those (is_before p (k + 1)) found) old new
  no_item k old new none h =
      appended_same (those (is_before p k) found) (those (is_before p (k + 1)) found) old new (same_those (is_before p k) (is_before p (k + 1)) found (λ q sh e.
      sym (before_next p k q ∙ ap (λ c. is_before p k q || c) (outside q sh e) ∙ or_false (is_before p k q)))) h
    where
      or_false : (c : Bool) → (c || false) ≡ c
      or_false true = refl
      or_false false = refl

      outside : (q : Path) (sh : Shape) → kept_shape found q ≡ Some sh → is_at_or_inside (item_path p k) q ≡ false
      outside q sh e = false_from_ne_true (is_at_or_inside (item_path p k) q) (λ s.
          let parts = and_parts (same_variable p.var q.var) (go_on_from (p.at ++ k ∷ []) q.at) s in
          let rest = from_rest (p.at ++ k ∷ []) q.at parts.1 in
          let l = leads t p.var.lasting tree d q sh e in
          let gone : node_from (edges_in t) (way_of q) 0 ≡ None =
          on_way q (k ∷ rest.0) ((same_variable-decides p.var q.var).0 parts.0) (rest.1 ∙ append_assoc p.at (k ∷ []) rest.0) ∙ ap (λ o. node_or_none o (node_from (edges_in t) rest.0)) none in
          let z : None ≡ Some l.node = sym gone ∙ l.way in
          cc z)

  -- and one whose facts came
  pub next_item_facts : (k : ℕ) (old mid new : List Fact) → NoClash found → HasAppended (those (is_before p k) found) old mid → HasAppended (facts_from (item_path p k) found) mid new
      → HasAppended (those (is_before p (k + 1)) found) old new
  next_item_facts k old mid new n h g =
      both_appended (is_before p k) (is_at_or_inside (item_path p k)) (is_before p (k + 1)) found n (before_other p k) (λ q sh e. before_next p k q) old mid new h g

  -- all items have indices below the bound
  pub all_items : (k : ℕ) (old new : List Fact) → beyond_among (nodes_in t) node ≤ k → HasAppended (those (is_before p k) found) old new → HasAppended (facts_from p found) old new
  all_items k old new high h =
      appended_same (those (is_before p k) found) (facts_from p found) old new (same_those (is_before p k) (is_at_or_inside p) found (λ q sh e. within q (leads t p.var.lasting tree d q sh e) (same_variable p.var q.var) refl)) h
    where
      low : (j : ℕ) (js : List ℕ) (m : ℕ) (o : Option ℕ) → child (edges_in t) node j ≡ o → node_or_none o (node_from (edges_in t) js) ≡ Some m → j < k
      low j js m None w e = absurd (cc e)
      low j js m (Some c) w e =
          let f = child_found (edges_in t) node j c w in
          let below = tree.beyond f.place (edge node j) f.there (way_below (edges_in t) p.var.number p.at 0 node way) in
          omega (arith, high, below)

      within : (q : Path) → Leads t p.var.lasting tree d q → (c : Bool) → same_variable p.var q.var ≡ c → (c && go_on_below k p.at q.at) ≡ (c && go_on_from p.at q.at)
      within q l false s = refl
      within q l true s = below_bound k p.at q.at (λ j js e.
          low j js l.node (child (edges_in t) node j) refl (sym (on_way q (j ∷ js) ((same_variable-decides p.var q.var).0 s) e) ∙ l.way))
