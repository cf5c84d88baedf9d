-- Ways through a tree, while it grows.
use Rattle.std.proofs.Common.{◌≡◌, inl, inr, ℕ, zero, suc, ◌+◌, ◌^◌, ◌<◌, ◌≤◌, Bool, true, false, ◌||◌, List, [], ◌∷◌, ◌++◌, length, take, take-suc, drop, get_or, slice_get, Option, Some, None, refl, ap, ap₂, sym, ◌∙◌, subst, arith}
use Rattle.std.specs.List.{IsDistinct, position}
use Rattle.std.specs.Option.{option_map}
use Rattle.std.specs.Map.{keys_of, values_of}
use Rattle.indexmap.specs.IndexMap.{insert_entry, set_value_at}
use Rattle.indexmap.proofs.MapLemmas.{Missing-position, insert_entry-absent}
use Rattle.std.proofs.lemmas.Bool.{or_cases, or_parts, both_ways, false_from_ne_true}
use Rattle.std.proofs.lemmas.Option.{slice_get-map}
use Rattle.std.proofs.Math.Seq.{drop-cons}
use Rattle.tp_value.specs.declared.value.Shape.{Shape}
use Rattle.tp_value.specs.declared.path.Path.{Path}
use Rattle.tp_value.specs.declared.path.Fact.{Fact}
use Rattle.tp_store.specs.declared.nodes.Edge.{Edge}
use Rattle.tp_store.specs.declared.nodes.Node.{Node}
use Rattle.tp_store.specs.FactMap.{lacks_item, outer_path}
use Rattle.tp_store.specs.Facts.{has_item, excludes, kept_shape, is_excluded}
use Rattle.tp_store.specs.Known.{NoClash}
use Rattle.tp_store.specs.Nodes.{same_edge, edge, child, node_or_none, node_from, routes, facts_along, shape_among, shape_found, beyond_among, with_node, way_of, AreBeyond, AreNarrow, IsRooted, lacks_way, lacks_below, lacks_path}
use Rattle.tp_store.proofs.Members.{In}
use Rattle.tp_store.proofs.FactMapLemmas.{excluded_at, excluded_here, none_excludes}
use Rattle.tp_store.proofs.Routes.{child_found, child_there, node_back, node_more, length_of_routes}
use Rattle.tp_store.proofs.Trees.{kept_is, at_node, way_back}

pub length_keys : {K V : Type 0} (es : List (K × V)) → length (keys_of es) ≡ length es
length_keys [] = refl
length_keys (e ∷ es) = ap suc (length_keys es)

pub length_values : {K V : Type 0} (es : List (K × V)) → length (values_of es) ≡ length (keys_of es)
length_values [] = refl
length_values (e ∷ es) = ap suc (length_values es)

pub keys_more : (es : List (Edge × Node)) (e : Edge) (n : Node) → keys_of (es ++ (e, n) ∷ []) ≡ keys_of es ++ e ∷ []
keys_more [] e n = refl
keys_more (x ∷ es) e n = ap (λ ks. x.0 ∷ ks) (keys_more es e n)

pub values_more : (es : List (Edge × Node)) (e : Edge) (n : Node) → values_of (es ++ (e, n) ∷ []) ≡ values_of es ++ n ∷ []
values_more [] e n = refl
values_more (x ∷ es) e n = ap (λ ns. x.1 ∷ ns) (values_more es e n)

pub values_set : (es : List (Edge × Node)) (i : ℕ) (v : Node) → values_of (set_value_at es i v) ≡ with_node (values_of es) i v
values_set [] i v = refl
values_set (e ∷ es) zero v = refl
values_set (e ∷ es) (suc i) v = ap (λ ns. e.1 ∷ ns) (values_set es i v)

pub keys_set : (es : List (Edge × Node)) (i : ℕ) (v : Node) → keys_of (set_value_at es i v) ≡ keys_of es
keys_set [] i v = refl
keys_set (e ∷ es) zero v = refl
keys_set (e ∷ es) (suc i) v = ap (λ ks. e.0 ∷ ks) (keys_set es i v)

-- what stands of an entry among the nodes, and among the edges
pub values_at : (es : List (Edge × Node)) (i : ℕ) (o : Option (Edge × Node)) → slice_get es i ≡ o → slice_get (values_of es) i ≡ option_map (λ (e : Edge × Node). e.1) o
values_at es i o h = slice_get-map (λ (e : Edge × Node). e.1) es i ∙ ap (option_map (λ (e : Edge × Node). e.1)) h

pub keys_at : (es : List (Edge × Node)) (i : ℕ) (o : Option (Edge × Node)) → slice_get es i ≡ o → slice_get (keys_of es) i ≡ option_map (λ (e : Edge × Node). e.0) o
keys_at es i o h = slice_get-map (λ (e : Edge × Node). e.0) es i ∙ ap (option_map (λ (e : Edge × Node). e.0)) h

pub shape_of_node : (ns : List Node) (i : ℕ) (n : Node) → slice_get ns i ≡ Some n → shape_among ns i ≡ n.shape
shape_of_node [] i n h = absurd (cc)
shape_of_node (m ∷ ns) zero n h = let s : m ≡ n = cc h in ap (λ (k : Node). k.shape) s
shape_of_node (m ∷ ns) (suc i) n h = shape_of_node ns i n h

pub among_within : (ns : List Node) (i : ℕ) (sh : Shape) → shape_among ns i ≡ Some sh → i < length ns
among_within [] i sh h = absurd (cc h)
among_within (m ∷ ns) zero sh h = omega arith
among_within (m ∷ ns) (suc i) sh h = let w = among_within ns i sh h in omega (arith, w)

pub beyond_past : (ns : List Node) (i : ℕ) → slice_get ns i ≡ None → beyond_among ns i ≡ 0
beyond_past [] i h = refl
beyond_past (m ∷ ns) zero h = absurd (cc h)
beyond_past (m ∷ ns) (suc i) h = beyond_past ns i h

pub shape_past : (ns : List Node) (i : ℕ) → slice_get ns i ≡ None → shape_among ns i ≡ None
shape_past [] i h = refl
shape_past (m ∷ ns) zero h = absurd (cc h)
shape_past (m ∷ ns) (suc i) h = shape_past ns i h

pub beyond_of_node : (ns : List Node) (i : ℕ) (n : Node) → slice_get ns i ≡ Some n → beyond_among ns i ≡ n.beyond
beyond_of_node [] i n h = absurd (cc)
beyond_of_node (m ∷ ns) zero n h = let s : m ≡ n = cc h in ap (λ (k : Node). k.beyond) s
beyond_of_node (m ∷ ns) (suc i) n h = beyond_of_node ns i n h

pub none_past : {A : Type 0} (xs : List A) (i : ℕ) → slice_get xs i ≡ None → length xs ≤ i
none_past [] i h = omega arith
none_past (x ∷ xs) zero h = absurd (cc h)
none_past (x ∷ xs) (suc i) h = let r = none_past xs i h in omega (arith, r)

-- an entry that wasn't there goes last
pub entry_last : (es fs : List (Edge × Node)) (n k : ℕ) (v : Node) → child (keys_of es) n k ≡ None → fs ≡ insert_entry same_edge es (edge n k) v → fs ≡ es ++ (edge n k, v) ∷ []
entry_last es fs n k v h e = e ∙ insert_entry-absent same_edge (edge n k) v es (Missing-position (same_edge (edge n k)) es (no_place (position (same_edge (edge n k)) (keys_of es)) h)).absent
  where
    no_place : (o : Option ℕ) → option_map suc o ≡ None → o ≡ None
    no_place None e = refl
    no_place (Some i) e = absurd (cc e)

pub get_last : {A : Type 0} (xs : List A) (x : A) → slice_get (xs ++ x ∷ []) (length xs) ≡ Some x
get_last [] x = refl
get_last (y ∷ xs) x = get_last xs x

pub slice_left : {A : Type 0} (xs ys : List A) (i : ℕ) (x : A) → slice_get xs i ≡ Some x → slice_get (xs ++ ys) i ≡ Some x
slice_left [] ys i x h = absurd (cc)
slice_left (y ∷ xs) ys zero x h = h
slice_left (y ∷ xs) ys (suc i) x h = slice_left xs ys i x h

-- what led to a node still does
child_still : (es more : List Edge) (n k c : ℕ) → IsDistinct same_edge (es ++ more) → child es n k ≡ Some c → child (es ++ more) n k ≡ Some c
child_still es more n k c d h =
    let f = child_found es n k c h in
    child_there (es ++ more) f.place (edge n k) d (slice_left es more f.place (edge n k) f.there) ∙ ap Some (sym f.number)

pub node_still : (es more : List Edge) (ks : List ℕ) (n m : ℕ) → IsDistinct same_edge (es ++ more) → node_from es ks n ≡ Some m → node_from (es ++ more) ks n ≡ Some m
node_still es more [] n m d h = h
node_still es more (k ∷ ks) n m d h = by (λ c e. node_still es more ks c m d e) (child es n k) refl h
  where
    by : ((c : ℕ) → node_from es ks c ≡ Some m → node_from (es ++ more) ks c ≡ Some m) → (o : Option ℕ) → child es n k ≡ o → node_or_none o (node_from es ks) ≡ Some m → node_from (es ++ more) (k ∷ ks) n ≡ Some m
    by rest None p e = absurd (cc e)
    by rest (Some c) p e = ap (λ o. node_or_none o (node_from (es ++ more) ks)) (child_still es more n k c d p) ∙ rest c e

pub node_kept : (old new more : List Edge) (ks : List ℕ) (m : ℕ) → new ≡ old ++ more → IsDistinct same_edge new → node_from old ks 0 ≡ Some m → node_from new ks 0 ≡ Some m
node_kept old new more ks m g d at =
    let D : List Edge → Type 0 = λ es. IsDistinct same_edge es in
    subst (λ es. node_from es ks 0 ≡ Some m) (sym g) (node_still old more ks 0 m (subst D g d) at)

-- one step more on the way
pub way_on : (old new more : List Edge) (ks : List ℕ) (k node to : ℕ) → new ≡ old ++ more → IsDistinct same_edge new → node_from old ks 0 ≡ Some node → child new node k ≡ Some to
    → node_from new (ks ++ k ∷ []) 0 ≡ Some to
way_on old new more ks k node to g d at leads = node_more new ks k 0 node (node_kept old new more ks node g d at) ∙ leads

pub next_way : (q : List ℕ) (i k : ℕ) → i < length q → k ≡ get_or q i 0 → take (i + 1) q ≡ take i q ++ k ∷ []
next_way q i k l h = let m : i + 1 ≡ suc i = omega arith in ap (λ n. take n q) m ∙ take-suc q i 0 l ∙ ap (λ x. take i q ++ x ∷ []) (sym h)

-- bounds only rise
beyond_rises : (ns : List Node) (i : ℕ) (v : Node) (j : ℕ) → beyond_among ns i ≤ v.beyond → beyond_among ns j ≤ beyond_among (with_node ns i v) j
beyond_rises [] i v j h = omega arith
beyond_rises (n ∷ ns) zero v zero h = h
beyond_rises (n ∷ ns) zero v (suc j) h = omega arith
beyond_rises (n ∷ ns) (suc i) v zero h = omega arith
beyond_rises (n ∷ ns) (suc i) v (suc j) h = beyond_rises ns i v j h

beyond_more : (ns : List Node) (v : Node) (j : ℕ) → beyond_among ns j ≤ beyond_among (ns ++ v ∷ []) j
beyond_more [] v j = omega arith
beyond_more (n ∷ ns) v zero = omega arith
beyond_more (n ∷ ns) v (suc j) = beyond_more ns v j

pub beyond_there : (ns : List Node) (i : ℕ) (v : Node) → i < length ns → beyond_among (with_node ns i v) i ≡ v.beyond
beyond_there [] i v h = absurd (omega arith)
beyond_there (n ∷ ns) zero v h = refl
beyond_there (n ∷ ns) (suc i) v h = beyond_there ns i v (omega arith)

pub length_with : (ns : List Node) (i : ℕ) (v : Node) → length (with_node ns i v) ≡ length ns
length_with [] i v = refl
length_with (n ∷ ns) zero v = refl
length_with (n ∷ ns) (suc i) v = ap suc (length_with ns i v)

pub raised : (es : List Edge) (ns : List Node) (i : ℕ) (v : Node) → beyond_among ns i ≤ v.beyond → AreBeyond es ns → AreBeyond es (with_node ns i v)
raised es ns i v h b j e q below = let more = beyond_rises ns i v e.node h in let low = b j e q below in omega (arith, more, low)

pub get_of_more : {A : Type 0} (xs : List A) (x : A) (i : ℕ) (y : A) → slice_get (xs ++ x ∷ []) i ≡ Some y → (slice_get xs i ≡ Some y → ⊥) → x ≡ y
get_of_more [] x zero y h n = cc h
get_of_more [] x (suc i) y h n = absurd (cc h)
get_of_more (z ∷ xs) x zero y h n = absurd (n h)
get_of_more (z ∷ xs) x (suc i) y h n = get_of_more xs x i y h n

pub bound_more : (es : List Edge) (ns : List Node) (e : Edge) (v : Node) → AreBeyond es ns → (0 < e.node → e.index < beyond_among ns e.node) → AreBeyond (es ++ e ∷ []) (ns ++ v ∷ [])
bound_more es ns e v b l i f q below = by (slice_get es i) refl
  where
    by : (o : Option Edge) → slice_get es i ≡ o → f.index < beyond_among (ns ++ v ∷ []) f.node
    by None p =
        let same : e ≡ f = get_of_more es e i f q (λ h. let z : None ≡ Some f = sym p ∙ h in cc z) in
        let more = beyond_more ns v f.node in
        let L : Edge → Type 0 = λ x. 0 < x.node → x.index < beyond_among ns x.node in
        let low : f.index < beyond_among ns f.node = subst L same l below in
        omega (arith, more, low)
    by (Some g) p =
        let left = slice_left es (e ∷ []) i g p in
        let z : Some g ≡ Some f = sym left ∙ q in
        let low = b i f (p ∙ z) below in
        let more = beyond_more ns v f.node in
        omega (arith, more, low)

pub narrow_more : (es : List Edge) (e : Edge) → AreNarrow es → (0 < e.node → e.index < 2 ^ 32) → AreNarrow (es ++ e ∷ [])
narrow_more es e n l i f q below = by (slice_get es i) refl
  where
    by : (o : Option Edge) → slice_get es i ≡ o → f.index < 2 ^ 32
    by None p =
        let same : e ≡ f = get_of_more es e i f q (λ h. let z : None ≡ Some f = sym p ∙ h in cc z) in
        let L : Edge → Type 0 = λ x. 0 < x.node → x.index < 2 ^ 32 in
        subst L same l below
    by (Some g) p =
        let left = slice_left es (e ∷ []) i g p in
        let z : Some g ≡ Some f = sym left ∙ q in
        n i f (p ∙ z) below

-- a way of an index or more leads below the root
way_on_below : (es : List Edge) (ks : List ℕ) (n m : ℕ) → 0 < n → node_from es ks n ≡ Some m → 0 < m
way_on_below es [] n m low h = let s : n ≡ m = cc h in omega (arith, low, s)
way_on_below es (k ∷ ks) n m low h = by (λ c i e. way_on_below es ks c m i e) (child es n k) refl h
  where
    by : ((c : ℕ) → 0 < c → node_from es ks c ≡ Some m → 0 < m) → (o : Option ℕ) → child es n k ≡ o → node_or_none o (node_from es ks) ≡ Some m → 0 < m
    by rest None p e = absurd (cc e)
    by rest (Some c) p e = let f = child_found es n k c p in rest c (omega (arith, f.number)) e

pub way_below : (es : List Edge) (k : ℕ) (ks : List ℕ) (n m : ℕ) → node_from es (k ∷ ks) n ≡ Some m → 0 < m
way_below es k ks n m h = by (child es n k) refl h
  where
    by : (o : Option ℕ) → child es n k ≡ o → node_or_none o (node_from es ks) ≡ Some m → 0 < m
    by None p e = absurd (cc e)
    by (Some c) p e = let f = child_found es n k c p in way_on_below es ks c m (omega (arith, f.number)) e

-- a way goes through its beginnings
pub record GoesThrough (es : List Edge) (ks : List ℕ) (node n : ℕ) : Type 0 where
  pub through : ℕ
  pub to : ℕ
  pub way : node_from es (take n ks) node ≡ Some through
  pub next : child es through (get_or ks n 0) ≡ Some to

pub way_through : (es : List Edge) (ks : List ℕ) (node m n : ℕ) → node_from es ks node ≡ Some m → n < length ks → GoesThrough es ks node n
way_through es [] node m n h l = absurd (omega arith)
way_through es (k ∷ ks) node m n h l = by n (λ c i e j. way_through es ks c m i e j) l (child es node k) refl h
  where
    by : (n : ℕ) → ((c i : ℕ) → node_from es ks c ≡ Some m → i < length ks → GoesThrough es ks c i) → n < suc (length ks) → (o : Option ℕ) → child es node k ≡ o → node_or_none o (node_from es ks) ≡ Some m → GoesThrough es (k ∷ ks) node n
    by n rest l None p e = absurd (cc e)
    by zero rest l (Some c) p e = record { through = node; to = c; way = refl; next = p }
    by (suc i) rest l (Some c) p e =
        let r = rest c i e (omega arith) in
        record {
          through = r.through;
          to = r.to;
          way = ap (λ o. node_or_none o (node_from es (take i ks))) p ∙ r.way;
          next = r.next;
        }

-- what is lacking on a way
pub lacks_none : (es : List Edge) (ns : List Node) (ks : List ℕ) (node n : ℕ) → lacks_way es ns ks node ≡ false → n < length ks
    → lacks_item (shape_found ns (node_from es (take n ks) node)) (get_or ks n 0) ≡ false
lacks_none es ns [] node n h l = absurd (omega arith)
lacks_none es ns (k ∷ ks) node n h l =
    let parts = or_parts (lacks_item (shape_among ns node) k) (lacks_below (child es node k) (lacks_way es ns ks)) h in
    by n l parts.0 (λ c i e j. lacks_none es ns ks c i e j) (child es node k) refl parts.1
  where
    by : (n : ℕ) → n < suc (length ks) → lacks_item (shape_among ns node) k ≡ false
        → ((c i : ℕ) → lacks_way es ns ks c ≡ false → i < length ks → lacks_item (shape_found ns (node_from es (take i ks) c)) (get_or ks i 0) ≡ false)
        → (o : Option ℕ) → child es node k ≡ o → lacks_below o (lacks_way es ns ks) ≡ false
        → lacks_item (shape_found ns (node_from es (take n (k ∷ ks)) node)) (get_or (k ∷ ks) n 0) ≡ false
    by zero l here rest o p e = here
    by (suc i) l here rest None p e = ap (λ o. lacks_item (shape_found ns (node_or_none o (node_from es (take i ks)))) (get_or ks i 0)) p
    by (suc i) l here rest (Some c) p e = ap (λ o. lacks_item (shape_found ns (node_or_none o (node_from es (take i ks)))) (get_or ks i 0)) p ∙ rest c i e (omega arith)

pub record LacksAt (es : List Edge) (ns : List Node) (ks : List ℕ) (node : ℕ) : Type 0 where
  pub index : ℕ
  pub within : index < length ks
  pub lacks : lacks_item (shape_found ns (node_from es (take index ks) node)) (get_or ks index 0) ≡ true

pub lacks_some : (es : List Edge) (ns : List Node) (ks : List ℕ) (node : ℕ) → lacks_way es ns ks node ≡ true → LacksAt es ns ks node
lacks_some es ns [] node h = absurd (cc)
lacks_some es ns (k ∷ ks) node h =
    elim (or_cases (lacks_item (shape_among ns node) k) (lacks_below (child es node k) (lacks_way es ns ks)) h) [
      | inl t ↦ record { index = 0; within = omega arith; lacks = t }
      | inr t ↦ by (λ c e. lacks_some es ns ks c e) (child es node k) refl t
    ]
  where
    by : ((c : ℕ) → lacks_way es ns ks c ≡ true → LacksAt es ns ks c) → (o : Option ℕ) → child es node k ≡ o → lacks_below o (lacks_way es ns ks) ≡ true → LacksAt es ns (k ∷ ks) node
    by rest None p e = absurd (cc e)
    by rest (Some c) p e =
        let r = rest c e in
        record {
          index = suc r.index;
          within = omega (arith, r.within);
          lacks = ap (λ o. lacks_item (shape_found ns (node_or_none o (node_from es (take r.index ks)))) (get_or ks r.index 0)) p ∙ r.lacks;
        }

module _ (b : Bool) (es : List Edge) (ns : List Node) (r : IsRooted 1 es) (d : IsDistinct same_edge es) (long : length ns ≡ suc (length es)) where
  -- a path is excluded where a shape on its way lacks an item
  pub lacks_is : (p : Path) → p.var.lasting ≡ b → NoClash (facts_along b (routes es) ns) → lacks_path es ns p ≡ is_excluded (facts_along b (routes es) ns) p
  lacks_is p v n = by (child es 0 p.var.number) refl
    where
      at_outer : (o : Option ℕ) → child es 0 p.var.number ≡ o → (i : ℕ) → kept_shape (facts_along b (routes es) ns) (outer_path p i) ≡ shape_found ns (node_or_none o (node_from es (take i p.at)))
      at_outer o e i = kept_is b es ns r d long (outer_path p i) v ∙ ap (λ c. shape_found ns (node_or_none c (node_from es (take i p.at)))) e

      on : (c : ℕ) → child es 0 p.var.number ≡ Some c → (t : Bool) → lacks_way es ns p.at c ≡ t → t ≡ is_excluded (facts_along b (routes es) ns) p
      on c e true h =
          let l = lacks_some es ns p.at c h in
          sym (excluded_here (facts_along b (routes es) ns) p l.index l.within (ap (λ o. lacks_item o (get_or p.at l.index 0)) (at_outer (Some c) e l.index) ∙ l.lacks))
      on c e false h =
          sym (none_excludes (facts_along b (routes es) ns) p n (λ i l. ap (λ o. lacks_item o (get_or p.at i 0)) (at_outer (Some c) e i) ∙ lacks_none es ns p.at c i h l))

      by : (o : Option ℕ) → child es 0 p.var.number ≡ o → lacks_below o (lacks_way es ns p.at) ≡ is_excluded (facts_along b (routes es) ns) p
      by None e = sym (none_excludes (facts_along b (routes es) ns) p n (λ i l. ap (λ o. lacks_item o (get_or p.at i 0)) (at_outer None e i)))
      by (Some c) e = on c e (lacks_way es ns p.at c) refl

  -- a fact that has an item at each index below the bound of its node excludes no kept path
  pub none_beyond : (f : Fact) → f.path.var.lasting ≡ b → AreBeyond es ns
      → ((n : ℕ) → node_from es (way_of f.path) 0 ≡ Some n → (k : ℕ) → k < beyond_among ns n → has_item f.shape k ≡ true)
      → (g : Fact) → In g (facts_along b (routes es) ns) → excludes f g.path ≡ false
  none_beyond f v bounds has g i = false_from_ne_true (excludes f g.path) (λ t.
      let e = excluded_at f g.path t in
      let at = at_node b (routes es) ns g i in
      let long_all = length_of_routes es in
      let of : g.path.var.lasting ≡ b = sym (ap (λ (p : Path). p.var.lasting) e.path) ∙ v in
      let route : get_or (routes es) at.node [] ≡ way_of g.path = way_back b (get_or (routes es) at.node []) g.path of (sym at.path) in
      let way : node_from es (way_of g.path) 0 ≡ Some at.node =
      ap (λ ks. node_from es ks 0) (sym route) ∙ node_back es (suc at.node) at.node r d (omega arith) (omega (arith, at.within, long_all)) in
      let n = length f.path.at in
      let k = get_or g.path.at n 0 in
      let on = way_through es (way_of g.path) 0 at.node (suc n) way (omega (arith, e.below)) in
      let here : node_from es (way_of f.path) 0 ≡ Some on.through = ap (λ (p : Path). node_from es (way_of p) 0) e.path ∙ on.way in
      let step = child_found es on.through k on.to on.next in
      let low : k < beyond_among ns on.through = bounds step.place (edge on.through k) step.there (way_below es f.path.var.number f.path.at 0 on.through here) in
      both_ways (has_item f.shape k) e.lacks (has on.through here k low))

-- the look along a way, one index after the other
module _ (es : List Edge) (ns : List Node) (ks : List ℕ) (i node : ℕ) where
  one_on : i < length ks → lacks_way es ns (drop i ks) node ≡ (lacks_item (shape_among ns node) (get_or ks i 0) || lacks_below (child es node (get_or ks i 0)) (lacks_way es ns (drop (suc i) ks)))
  one_on l = ap (λ xs. lacks_way es ns xs node) (drop-cons ks i 0 l)

  pub lacks_here : i < length ks → lacks_item (shape_among ns node) (get_or ks i 0) ≡ true → lacks_way es ns (drop i ks) node ≡ true
  lacks_here l h = one_on l ∙ ap (λ b. b || lacks_below (child es node (get_or ks i 0)) (lacks_way es ns (drop (suc i) ks))) h

  pub lacks_stop : i < length ks → lacks_item (shape_among ns node) (get_or ks i 0) ≡ false → child es node (get_or ks i 0) ≡ None → lacks_way es ns (drop i ks) node ≡ false
  lacks_stop l h c = one_on l ∙ ap₂ (λ b o. b || lacks_below o (lacks_way es ns (drop (suc i) ks))) h c

  pub lacks_next : (n : ℕ) → i < length ks → lacks_item (shape_among ns node) (get_or ks i 0) ≡ false → child es node (get_or ks i 0) ≡ Some n
      → lacks_way es ns (drop (i + 1) ks) n ≡ lacks_way es ns (drop i ks) node
  lacks_next n l h c =
      let m : i + 1 ≡ suc i = omega arith in
      ap (λ j. lacks_way es ns (drop j ks) n) m ∙ sym (one_on l ∙ ap₂ (λ b o. b || lacks_below o (lacks_way es ns (drop (suc i) ks))) h c)

  pub lacks_end : length ks ≤ i → lacks_way es ns (drop i ks) node ≡ false
  lacks_end l = ap (λ xs. lacks_way es ns xs node) (drop_all ks i l)
    where
      drop_all : (xs : List ℕ) (j : ℕ) → length xs ≤ j → drop j xs ≡ []
      drop_all [] zero h = refl
      drop_all [] (suc j) h = refl
      drop_all (x ∷ xs) zero h = absurd (omega arith)
      drop_all (x ∷ xs) (suc j) h = drop_all xs j (omega arith)

  way_one_on : i < length ks → node_from es (drop i ks) node ≡ node_or_none (child es node (get_or ks i 0)) (node_from es (drop (suc i) ks))
  way_one_on l = ap (λ xs. node_from es xs node) (drop-cons ks i 0 l)

  pub way_stop : i < length ks → child es node (get_or ks i 0) ≡ None → node_from es (drop i ks) node ≡ None
  way_stop l c = way_one_on l ∙ ap (λ o. node_or_none o (node_from es (drop (suc i) ks))) c

  pub way_next : (n : ℕ) → i < length ks → child es node (get_or ks i 0) ≡ Some n → node_from es (drop (i + 1) ks) n ≡ node_from es (drop i ks) node
  way_next n l c =
      let m : i + 1 ≡ suc i = omega arith in
      ap (λ j. node_from es (drop j ks) n) m ∙ sym (way_one_on l ∙ ap (λ o. node_or_none o (node_from es (drop (suc i) ks))) c)

pub take_long : {A : Type 0} (xs : List A) (i : ℕ) → i ≤ length xs → length (take i xs) ≡ i
take_long [] zero h = refl
take_long [] (suc i) h = absurd (omega arith)
take_long (x ∷ xs) zero h = refl
take_long (x ∷ xs) (suc i) h = ap suc (take_long xs i (omega arith))

pub next_item : (fs : List Fact) (i : ℕ) (f : Fact) → i < length fs → f ≡ get_or fs i f → take (i + 1) fs ≡ take i fs ++ f ∷ []
next_item fs i f l h = let m : i + 1 ≡ suc i = omega arith in ap (λ n. take n fs) m ∙ take-suc fs i f l ∙ ap (λ x. take i fs ++ x ∷ []) (sym h)
