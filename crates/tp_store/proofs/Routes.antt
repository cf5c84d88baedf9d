-- Where the nodes stand.
use Rattle.std.proofs.Common.{◌≡◌, inl, inr, ℕ, zero, suc, ◌+◌, ◌<◌, Bool, true, false, cond, List, [], ◌∷◌, ◌++◌, length, get_or, slice_get, Option, Some, None, refl, ap, ap₂, sym, ◌∙◌, subst, arith, append-nil, append_assoc, nat_lt}
use Rattle.std.specs.List.{position, position_or_len, IsDistinct}
use Rattle.std.specs.Option.{option_map}
use Rattle.std.specs.Bool.{Decides}
use Rattle.std.proofs.lemmas.Bool.{lt-ltb, cases_eq}
use Rattle.std.proofs.lemmas.Bool.Decides.{Decides-eqb, Decides-and, Decides-like}
use Rattle.std.proofs.lemmas.List.Quantifiers.{position-Some}
use Rattle.std.proofs.lemmas.List.Sums.{position_or_len_is}
use Rattle.std.proofs.lemmas.Map.Keys.{apart_from_distinct}
use Rattle.std.proofs.lemmas.Option.{slice_get-get_or, slice_get_within, get_or_from_slice_get}
use Rattle.tp_store.specs.declared.nodes.Edge.{Edge}
use Rattle.tp_store.specs.Nodes.{edge, same_edge, child, node_or_none, node_from, routes_from, routes, IsRooted}

pub get_left : {A : Type 0} (xs ys : List A) (i : ℕ) (d : A) → i < length xs → get_or (xs ++ ys) i d ≡ get_or xs i d
get_left [] ys i d h = absurd (omega arith)
get_left (x ∷ xs) ys zero d h = refl
get_left (x ∷ xs) ys (suc i) d h = get_left xs ys i d (omega arith)

pub get_end : {A : Type 0} (xs : List A) (y : A) (ys : List A) (i : ℕ) (d : A) → i ≡ length xs → get_or (xs ++ y ∷ ys) i d ≡ y
get_end [] y ys zero d e = refl
get_end [] y ys (suc i) d e = absurd (omega arith)
get_end (x ∷ xs) y ys zero d e = absurd (omega arith)
get_end (x ∷ xs) y ys (suc i) d e = get_end xs y ys i d (omega arith)

pub length_more : {A : Type 0} (xs : List A) (y : A) → length (xs ++ y ∷ []) ≡ suc (length xs)
length_more [] y = refl
length_more (x ∷ xs) y = ap suc (length_more xs y)

-- the route of the node that an edge leads to
abbrev pub route_after : List (List ℕ) → Edge → List ℕ
route_after known s = get_or known s.node [] ++ s.index ∷ []

pub routes_known : (known : List (List ℕ)) (ss : List Edge) (i : ℕ) → i < length known → get_or (routes_from known ss) i [] ≡ get_or known i []
routes_known known [] i h = refl
routes_known known (s ∷ ss) i h =
    let p = route_after known s in
    let longer = length_more known p in
    routes_known (known ++ p ∷ []) ss i (omega (arith, longer)) ∙ get_left known (p ∷ []) i [] h

pub length_routes : (known : List (List ℕ)) (ss : List Edge) → length (routes_from known ss) ≡ length known + length ss
length_routes known [] = omega arith
length_routes known (s ∷ ss) =
    let p = route_after known s in
    let longer = length_more known p in
    let rest = length_routes (known ++ p ∷ []) ss in
    omega (arith, longer, rest)

pub routes_more : (known : List (List ℕ)) (ss : List Edge) (s : Edge) → routes_from known (ss ++ s ∷ []) ≡ routes_from known ss ++ route_after (routes_from known ss) s ∷ []
routes_more known [] s = refl
routes_more known (t ∷ ss) s = routes_more (known ++ route_after known t ∷ []) ss s

pub route_of_edge : (known : List (List ℕ)) (ss : List Edge) (i : ℕ) (s : Edge) → IsRooted (length known) ss → slice_get ss i ≡ Some s
    → get_or (routes_from known ss) (length known + i) [] ≡ route_after (routes_from known ss) s
route_of_edge known [] i s r h = absurd (cc)
route_of_edge known (t ∷ ss) zero s r h =
    let p = route_after known t in
    let more = known ++ p ∷ [] in
    let longer = length_more known p in
    let e : t ≡ s = cc h in
    let same : t.node ≡ s.node = ap (λ (x : Edge). x.node) e in
    let low : t.node < length known = r.0 in
    let at : get_or (routes_from more ss) (length known + 0) [] ≡ p =
    routes_known more ss (length known + 0) (omega (arith, longer)) ∙ get_end known p [] (length known + 0) [] (omega arith) in
    let from : get_or (routes_from more ss) t.node [] ≡ get_or known t.node [] =
    routes_known more ss t.node (omega (arith, longer)) ∙ get_left known (p ∷ []) t.node [] low in
    at ∙ ap (λ q. q ++ t.index ∷ []) (sym from) ∙ ap (λ (x : Edge). route_after (routes_from more ss) x) e
route_of_edge known (t ∷ ss) (suc i) s r h =
    let p = route_after known t in
    let more = known ++ p ∷ [] in
    let longer = length_more known p in
    let rooted : IsRooted (length more) ss = subst (λ n. IsRooted n ss) (sym longer) r.1 in
    let n : length known + suc i ≡ length more + i = omega (arith, longer) in
    ap (λ m. get_or (routes_from more ss) m []) n ∙ route_of_edge more ss i s rooted h

one_more : (i : ℕ) → suc i ≡ length {A = List ℕ} ([] ∷ []) + i
one_more i = omega arith

pub length_of_routes : (ks : List Edge) → length (routes ks) ≡ suc (length ks)
length_of_routes ks = let all = length_routes ([] ∷ []) ks in omega (arith, all)

pub route_at : (ks : List Edge) (i : ℕ) (s : Edge) → IsRooted 1 ks → slice_get ks i ≡ Some s → get_or (routes ks) (suc i) [] ≡ route_after (routes ks) s
route_at ks i s r h = ap (λ m. get_or (routes ks) m []) (one_more i) ∙ route_of_edge ([] ∷ []) ks i s r h

pub root_route : (ks : List Edge) → get_or (routes ks) 0 [] ≡ []
root_route ks = routes_known ([] ∷ []) ks 0 (omega arith)

-- the routes below the root have an index at least
pub inner_routes : (ks : List Edge) (j : ℕ) → suc j < length (routes ks) → get_or (routes ks) (suc j) [] ≡ [] → ⊥
inner_routes ks j l e = inner_from ([] ∷ []) ks (λ i m. absurd (omega (arith, m))) j l e
  where
    not_nil : (xs : List ℕ) (k : ℕ) → xs ++ k ∷ [] ≡ [] → ⊥
    not_nil [] k h = cc h
    not_nil (x ∷ xs) k h = cc h

    inner_more : (known : List (List ℕ)) (p : List ℕ) → (p ≡ [] → ⊥) → ((i : ℕ) → suc i < length known → get_or known (suc i) [] ≡ [] → ⊥)
        → 0 < length known → (i : ℕ) → suc i < length (known ++ p ∷ []) → get_or (known ++ p ∷ []) (suc i) [] ≡ [] → ⊥
    inner_more known p n h some i m q =
        let long = length_more known p in
        elim (cases_eq (suc i) (length known)) [
          | inl s ↦ n (sym (get_end known p [] (suc i) [] s) ∙ q)
          | inr s ↦ h i (omega (arith, m, long, s)) (sym (get_left known (p ∷ []) (suc i) [] (omega (arith, m, long, s))) ∙ q)
        ]

    inner_some : (known : List (List ℕ)) (ss : List Edge) → ((i : ℕ) → suc i < length known → get_or known (suc i) [] ≡ [] → ⊥) → 0 < length known
        → (i : ℕ) → suc i < length (routes_from known ss) → get_or (routes_from known ss) (suc i) [] ≡ [] → ⊥
    inner_some known [] h some i m q = h i m q
    inner_some known (s ∷ ss) h some i m q =
        let p = route_after known s in
        let long = length_more known p in
        inner_some (known ++ p ∷ []) ss (inner_more known p (not_nil (get_or known s.node []) s.index) h some) (omega (arith, long, some)) i m q

    inner_from : (known : List (List ℕ)) (ss : List Edge) → ((i : ℕ) → suc i < length {A = List ℕ} ([] ∷ []) → get_or {A = List ℕ} ([] ∷ []) (suc i) [] ≡ [] → ⊥)
        → (i : ℕ) → suc i < length (routes_from ([] ∷ []) ss) → get_or (routes_from ([] ∷ []) ss) (suc i) [] ≡ [] → ⊥
    inner_from known ss h i m q = inner_some ([] ∷ []) ss h (omega arith) i m q

pub rooted_more : (n : ℕ) (ss : List Edge) (s : Edge) → IsRooted n ss → s.node < n + length ss → IsRooted n (ss ++ s ∷ [])
rooted_more n [] s r h = (omega arith, tt)
rooted_more n (t ∷ ss) s r h = (r.0, rooted_more (suc n) ss s r.1 (omega arith))

pub same_edge-decides : (s t : Edge) → Decides (same_edge s t) (s ≡ t)
same_edge-decides s t =
    Decides-like (same_edge s t) (λ e. ap₂ edge e.0 e.1) (λ e. (ap (λ (x : Edge). x.node) e, ap (λ (x : Edge). x.index) e))
    (Decides-and _ _ (Decides-eqb s.node t.node) (Decides-eqb s.index t.index))

-- an edge that leads to a child
pub record IsChild (ks : List Edge) (n k c : ℕ) : Type 0 where
  pub place : ℕ
  pub number : c ≡ suc place
  pub there : slice_get ks place ≡ Some (edge n k)

pub child_found : (ks : List Edge) (n k c : ℕ) → child ks n k ≡ Some c → IsChild ks n k c
child_found ks n k c h = by (position (same_edge (edge n k)) ks) refl h
  where
    by : (o : Option ℕ) → position (same_edge (edge n k)) ks ≡ o → option_map suc o ≡ Some c → IsChild ks n k c
    by None p e = absurd (cc e)
    by (Some i) p e =
        let found = position-Some (same_edge (edge n k)) ks i (edge n k) p in
        let same : edge n k ≡ get_or ks i (edge n k) = (same_edge-decides (edge n k) (get_or ks i (edge n k))).0 found.1 in
        let q : suc i ≡ c = cc e in
        record {
          place = i;
          number = sym q;
          there = slice_get-get_or ks i (edge n k) found.0 ∙ ap Some (sym same);
        }

pub child_there : (ks : List Edge) (i : ℕ) (s : Edge) → IsDistinct same_edge ks → slice_get ks i ≡ Some s → child ks s.node s.index ≡ Some (suc i)
child_there ks i s d h =
    let within = slice_get_within ks i s h in
    let at : get_or ks i s ≡ s = get_or_from_slice_get ks i s s h in
    let hit : same_edge s (get_or ks i s) ≡ true = (same_edge-decides s (get_or ks i s)).1 (sym at) in
    let before : (k : ℕ) → k < i → same_edge s (get_or ks k s) ≡ false = λ k low.
    apart_back (get_or ks k s) s (ap (λ (x : Edge). same_edge (get_or ks k s) x) (sym at) ∙ apart_from_distinct same_edge ks k i s d low within) in
    let first : position_or_len (same_edge s) ks ≡ i = position_or_len_is (same_edge s) ks i s (omega (arith, within)) before (λ w. hit) in
    let found : position (same_edge s) ks ≡ Some i =
    ap (λ n. cond (nat_lt n (length ks)) (Some n) None) first ∙ ap (λ b. cond b (Some i) None) (lt-ltb i (length ks) within) in
    ap (option_map suc) found
  where
    back : (a b : Bool) → (a ≡ true → b ≡ true) → b ≡ false → a ≡ false
    back true b f h = let e : false ≡ true = sym h ∙ f refl in absurd (cc e)
    back false b f h = refl

    apart_back : (t u : Edge) → same_edge t u ≡ false → same_edge u t ≡ false
    apart_back t u h = back (same_edge u t) (same_edge t u) (λ e. (same_edge-decides t u).1 (sym ((same_edge-decides u t).0 e))) h

pub child_route : (ks : List Edge) (n k c : ℕ) → IsRooted 1 ks → child ks n k ≡ Some c → get_or (routes ks) c [] ≡ get_or (routes ks) n [] ++ k ∷ []
child_route ks n k c r h =
    let f = child_found ks n k c h in
    ap (λ m. get_or (routes ks) m []) f.number ∙ route_at ks f.place (edge n k) r f.there

pub node_route : (ks : List Edge) (xs : List ℕ) (n m : ℕ) → IsRooted 1 ks → node_from ks xs n ≡ Some m → get_or (routes ks) m [] ≡ get_or (routes ks) n [] ++ xs
node_route ks [] n m r h =
    let e : n ≡ m = cc h in
    ap (λ i. get_or (routes ks) i []) (sym e) ∙ sym (append-nil (get_or (routes ks) n []))
node_route ks (x ∷ xs) n m r h = by (λ c e. node_route ks xs c m r e) (child ks n x) refl h
  where
    by : ((c : ℕ) → node_from ks xs c ≡ Some m → get_or (routes ks) m [] ≡ get_or (routes ks) c [] ++ xs) → (o : Option ℕ) → child ks n x ≡ o → node_or_none o (node_from ks xs) ≡ Some m → get_or (routes ks) m [] ≡ get_or (routes ks) n [] ++ x ∷ xs
    by rest None p e = absurd (cc e)
    by rest (Some c) p e =
        rest c e ∙ ap (λ q. q ++ xs) (child_route ks n x c r p) ∙ append_assoc (get_or (routes ks) n []) (x ∷ []) xs

node_or_none_end : (o : Option ℕ) → node_or_none o (λ n. Some n) ≡ o
node_or_none_end None = refl
node_or_none_end (Some n) = refl

pub node_more : (ks : List Edge) (xs : List ℕ) (k n m : ℕ) → node_from ks xs n ≡ Some m → node_from ks (xs ++ k ∷ []) n ≡ child ks m k
node_more ks [] k n m h = let e : n ≡ m = cc h in node_or_none_end (child ks n k) ∙ ap (λ i. child ks i k) e
node_more ks (x ∷ xs) k n m h = by (λ c e. node_more ks xs k c m e) (child ks n x) h
  where
    by : ((c : ℕ) → node_from ks xs c ≡ Some m → node_from ks (xs ++ k ∷ []) c ≡ child ks m k) → (o : Option ℕ) → node_or_none o (node_from ks xs) ≡ Some m → node_or_none o (node_from ks (xs ++ k ∷ [])) ≡ child ks m k
    by rest None e = absurd (cc e)
    by rest (Some c) e = rest c e

pub rooted_at : (n : ℕ) (ss : List Edge) (i : ℕ) (s : Edge) → IsRooted n ss → slice_get ss i ≡ Some s → s.node < n + i
rooted_at n [] i s r q = absurd (cc)
rooted_at n (t ∷ ss) zero s r q = let e : t ≡ s = cc q in let f : t.node ≡ s.node = ap (λ (x : Edge). x.node) e in omega (arith, f, r.0)
rooted_at n (t ∷ ss) (suc i) s r q = let rest : s.node < suc n + i = rooted_at (suc n) ss i s r.1 q in omega (arith, rest)

-- each node is found from its route
pub node_back : (ks : List Edge) (bound i : ℕ) → IsRooted 1 ks → IsDistinct same_edge ks → i < bound → i < suc (length ks) → node_from ks (get_or (routes ks) i []) 0 ≡ Some i
node_back ks zero i r d low h = absurd (omega arith)
node_back ks (suc b) zero r d low h = ap (λ q. node_from ks q 0) (routes_known ([] ∷ []) ks 0 (omega arith))
node_back ks (suc b) (suc j) r d low h = by (λ k under. node_back ks b k r d (omega arith) (omega arith)) (get_or ks j (edge 0 0)) refl
  where
    by : ((k : ℕ) → k < suc j → node_from ks (get_or (routes ks) k []) 0 ≡ Some k) → (s : Edge) → get_or ks j (edge 0 0) ≡ s → node_from ks (get_or (routes ks) (suc j) []) 0 ≡ Some (suc j)
    by before_it s e =
        let there : slice_get ks j ≡ Some s = slice_get-get_or ks j (edge 0 0) (omega arith) ∙ ap Some e in
        let within = rooted_at 1 ks j s r there in
        let before : s.node < suc j = omega (arith, within) in
        let parent = before_it s.node before in
        ap (λ q. node_from ks q 0) (route_at ks j s r there) ∙ node_more ks (get_or (routes ks) s.node []) s.index 0 s.node parent ∙ child_there ks j s d there
