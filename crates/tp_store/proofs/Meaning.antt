-- What facts say of a state that agrees with them.
use Rattle.std.proofs.Common.{◌≡◌, ◌⊎◌, inl, inr, ℕ, ℤ, zero, suc, ◌+◌, ◌<◌, ◌≤◌, Bool, true, false, not, ◌&&◌, ◌||◌, cond, eqb, ltb, List, [], ◌∷◌, ◌++◌, length, drop, Option, Some, None, slice_get, refl, ap, ap₂, sym, ◌∙◌, arith}
use Rattle.std.specs.Option.{option_and_then}
use Rattle.std.proofs.lemmas.Bool.{both_ways, or_cases, and_parts, and_from, false_from_ne_true, eqb-true, ltb-false, lt-ltb, not-true}
use Rattle.std.proofs.lemmas.List.{length-append}
use Rattle.std.proofs.lemmas.Option.{slice_get_past}
use Rattle.tp_value.specs.Tree.{Tree, Trees, num, truth, list, nil, cons, items_of, of_items}
use Rattle.tp_value.specs.Equations.{items_of-of_items}
use Rattle.tp_value.specs.Limits.{is_within_list_limit}
use Rattle.tp_value.specs.Shape.{shape_of, item_of, at_item, shape_at_path, item_at}
use Rattle.tp_value.specs.declared.value.Shape.{Shape}
use Rattle.tp_value.specs.declared.value.Shape.TheVariants.{Num, Truth, Items}
use Rattle.tp_value.specs.declared.path.VarId.{VarId}
use Rattle.tp_value.specs.declared.path.Path.{Path}
use Rattle.tp_value.specs.declared.path.Fact.{Fact}
use Rattle.tp_store.specs.Facts.{same_variable, same_path, same_shape, has_item, leaves_out, excludes, kept_shape, is_excluded, item_path, fact, facts_at, facts_of_items, AgreesWith, AgreesWithAll}
use Rattle.tp_store.specs.Known.{NoClash, Whole, known, open_at, WholeItems, all_known, item_open_at, and_items, list_of_items, items_known, with_shape, whole, deepest, absent, undecided, too_long, value, limited}
use Rattle.tp_store.specs.Laws.{ClashesAgreeNowhere, FactsSayTheValue, FullSays, FullIsRight, OpenIsUndecided}
use Rattle.tp_store.proofs.Indices.{leaves_out-shorter}
use Rattle.tp_store.proofs.Paths.{same_variable-decides, same_path-decides, same_shape-decides}
use Rattle.tp_store.proofs.Members.{kept_in, in_kept, excluded_by, excluded_from, agrees_in}
use Rattle.tp_store.proofs.Same.{kept_depth}

-- an element with its shape
pub shape_item : (at : List ℕ) (t : Tree) (sh : Shape) → shape_at_path at t ≡ Some sh → (u : Tree) × (item_at at t ≡ Some u) × (shape_of u ≡ sh)
shape_item [] t sh h = (t, refl, cc h)
shape_item (k ∷ ks) t sh h =
    let P : Option Tree → Type 0 = λ o. at_item o (shape_at_path ks) ≡ Some sh → (u : Tree) × (option_and_then (item_at ks) o ≡ Some u) × (shape_of u ≡ sh) in
    let none : P None = λ e. absurd (cc e) in
    let some : (u : Tree) → P (Some u) = λ u e. shape_item ks u sh e in
    let cases : P (item_of t k) = elim (item_of t k) as P [ None ↦ none | Some u ↦ some u ] in
    cases h

pub item_shape : (at : List ℕ) (t u : Tree) → item_at at t ≡ Some u → shape_at_path at t ≡ Some (shape_of u)
item_shape [] t u h = let q : t ≡ u = cc h in ap (λ x. Some (shape_of x)) q
item_shape (k ∷ ks) t u h =
    let P : Option Tree → Type 0 = λ o. option_and_then (item_at ks) o ≡ Some u → at_item o (shape_at_path ks) ≡ Some (shape_of u) in
    let none : P None = λ e. absurd (cc e) in
    let some : (x : Tree) → P (Some x) = λ x e. item_shape ks x u e in
    let cases : P (item_of t k) = elim (item_of t k) as P [ None ↦ none | Some x ↦ some x ] in
    cases h

pub item_append : (a b : List ℕ) (t : Tree) → item_at (a ++ b) t ≡ option_and_then (item_at b) (item_at a t)
item_append [] b t = refl
item_append (k ∷ a) b t =
    let P : Option Tree → Type 0 = λ o. option_and_then (item_at (a ++ b)) o ≡ option_and_then (item_at b) (option_and_then (item_at a) o) in
    elim (item_of t k) as P [ None ↦ refl | Some u ↦ item_append a b u ]

-- the item of a list
pub item_inside : (at : List ℕ) (k : ℕ) (t : Tree) (us : Trees) → item_at at t ≡ Some (list us) → item_at (at ++ k ∷ []) t ≡ slice_get (items_of us) k
item_inside at k t us h =
    let P : Option Tree → Type 0 = λ o. option_and_then (item_at []) o ≡ o in
    let same : P (slice_get (items_of us) k) = elim (slice_get (items_of us) k) as P [ None ↦ refl | Some u ↦ refl ] in
    item_append at (k ∷ []) t ∙ ap (option_and_then (item_at (k ∷ []))) h ∙ same

num_only : (u : Tree) (n : ℤ) → shape_of u ≡ Num n → u ≡ num n
num_only (num m) n h = let q : m ≡ n = cc h in ap num q
num_only (truth b) n h = absurd (cc h)
num_only (list us) n h = absurd (cc h)

truth_only : (u : Tree) (b : Bool) → shape_of u ≡ Truth b → u ≡ truth b
truth_only (num m) b h = absurd (cc h)
truth_only (truth c) b h = let q : c ≡ b = cc h in ap truth q
truth_only (list us) b h = absurd (cc h)

list_only : (u : Tree) (n : ℕ) → shape_of u ≡ Items n → (us : Trees) × (u ≡ list us) × (length (items_of us) ≡ n)
list_only (num m) n h = absurd (cc h)
list_only (truth b) n h = absurd (cc h)
list_only (list us) n h = (us, refl, cc h)

drop_all : (k : ℕ) (ts : List Tree) → length ts ≡ k → drop k ts ≡ []
drop_all zero [] h = refl
drop_all zero (t ∷ ts) h = absurd (omega arith)
drop_all (suc k) [] h = absurd (omega arith)
drop_all (suc k) (t ∷ ts) h = drop_all k ts (omega arith)

drop_at : (k : ℕ) (ts : List Tree) (t : Tree) → slice_get ts k ≡ Some t → drop k ts ≡ t ∷ drop (suc k) ts
drop_at k [] t h = absurd (cc h)
drop_at zero (x ∷ ts) t h = let q : x ≡ t = cc h in ap (λ y. y ∷ ts) q
drop_at (suc k) (x ∷ ts) t h = drop_at k ts t h

get_drop : (k : ℕ) (ts us : List Tree) (t : Tree) → drop k ts ≡ t ∷ us → (slice_get ts k ≡ Some t) × (drop (suc k) ts ≡ us)
get_drop zero [] us t h = absurd (cc h)
get_drop zero (x ∷ ts) us t h = (ap Some (cc h), cc h)
get_drop (suc k) [] us t h = absurd (cc h)
get_drop (suc k) (x ∷ ts) us t h = get_drop k ts us t h

same_items : (us ts : Trees) → items_of us ≡ items_of ts → us ≡ ts
same_items nil nil h = refl
same_items nil (cons t ts) h = absurd (cc h)
same_items (cons u us) nil h = absurd (cc h)
same_items (cons u us) (cons t ts) h = let q : items_of us ≡ items_of ts = cc h in let e : u ≡ t = cc h in ap₂ cons e (same_items us ts q)

-- a shape without this item
no_item_of : (t : Tree) (k : ℕ) → has_item (shape_of t) k ≡ false → item_of t k ≡ None
no_item_of (num n) k h = refl
no_item_of (truth b) k h = refl
no_item_of (list ts) k h = slice_get_past (items_of ts) k (ltb-false k (length (items_of ts)) h)

left_out : (at : List ℕ) (sh : Shape) (b : List ℕ) (t : Tree) → leaves_out at sh b ≡ true → shape_at_path at t ≡ Some sh → item_at b t ≡ None
left_out [] sh [] t h s = absurd (cc h)
left_out [] sh (k ∷ ks) t h s =
    let q : shape_of t ≡ sh = cc s in
    let no : has_item (shape_of t) k ≡ false = ap (λ x. has_item x k) q ∙ not-true (has_item sh k) h in
    ap (option_and_then (item_at ks)) (no_item_of t k no)
left_out (j ∷ js) sh [] t h s = absurd (cc h)
left_out (j ∷ js) sh (k ∷ ks) t h s =
    let r = and_parts (eqb j k) (leaves_out js sh ks) h in
    let e : j ≡ k = eqb-true j k r.0 in
    let P : Option Tree → Type 0 = λ o. at_item o (shape_at_path js) ≡ Some sh → option_and_then (item_at ks) o ≡ None in
    let none : P None = λ q. refl in
    let some : (u : Tree) → P (Some u) = λ u q. left_out js sh ks u r.1 q in
    let cases : P (item_of t j) = elim (item_of t j) as P [ None ↦ none | Some u ↦ some u ] in
    ap (λ n. option_and_then (item_at ks) (item_of t n)) (sym e) ∙ cases s

excluded_right : (values : ℕ → Tree) (f : Fact) (p : Path) → excludes f p ≡ true → AgreesWith values f → item_at p.at (values p.var.number) ≡ None
excluded_right values f p h a =
    let r = and_parts (same_variable f.path.var p.var) (leaves_out f.path.at f.shape p.at) h in
    let e : f.path.var ≡ p.var = (same_variable-decides f.path.var p.var).0 r.0 in
    ap (λ (x : VarId). item_at p.at (values x.number)) (sym e) ∙ left_out f.path.at f.shape p.at (values f.path.var.number) r.1 a

no_shape_there : (values : ℕ → Tree) (f g : Fact) → excludes f g.path ≡ true → AgreesWith values f → AgreesWith values g → ⊥
no_shape_there values f g h a b =
    let none : item_at g.path.at (values g.path.var.number) ≡ None = excluded_right values f g.path h a in
    let some = shape_item g.path.at (values g.path.var.number) g.shape b in
    let both : None ≡ Some some.0 = sym none ∙ some.1 in
    absurd (cc both)

pub clashes_agree_nowhere : ClashesAgreeNowhere
clashes_agree_nowhere values f g h a b =
    elim (or_cases (same_path f.path g.path && not (same_shape f.shape g.shape)) (excludes f g.path || excludes g f.path) h) [
      | inl t ↦ (let r = and_parts (same_path f.path g.path) (not (same_shape f.shape g.shape)) t in
          let e : f.path ≡ g.path = (same_path-decides f.path g.path).0 r.0 in
          let both : Some f.shape ≡ Some g.shape = sym a ∙ ap (λ (p : Path). shape_at_path p.at (values p.var.number)) e ∙ b in
          let s : f.shape ≡ g.shape = cc both in
          absurd (both_ways (same_shape f.shape g.shape) (not-true (same_shape f.shape g.shape) r.1) ((same_shape-decides f.shape g.shape).1 s)))
      | inr t ↦ elim (or_cases (excludes f g.path) (excludes g f.path) t) [ inl e ↦ no_shape_there values f g e a b | inr e ↦ no_shape_there values g f e b a ]
    ]

agrees_left : (values : ℕ → Tree) (xs ys : List Fact) → AgreesWithAll values (xs ++ ys) → AgreesWithAll values xs × AgreesWithAll values ys
agrees_left values [] ys h = (tt, h)
agrees_left values (x ∷ xs) ys h = let r = agrees_left values xs ys h.1 in ((h.0, r.0), r.1)

agrees_both : (values : ℕ → Tree) (xs ys : List Fact) → AgreesWithAll values xs → AgreesWithAll values ys → AgreesWithAll values (xs ++ ys)
agrees_both values [] ys h k = k
agrees_both values (x ∷ xs) ys h k = (h.0, agrees_both values xs ys h.1 k)

mutual
  value_from : (values : ℕ → Tree) (p : Path) (t : Tree) → AgreesWithAll values (facts_at p t) → item_at p.at (values p.var.number) ≡ Some t
  value_from values p (num n) h = let r = shape_item p.at (values p.var.number) (Num n) h.0 in r.1 ∙ ap Some (num_only r.0 n r.2)
  value_from values p (truth b) h = let r = shape_item p.at (values p.var.number) (Truth b) h.0 in r.1 ∙ ap Some (truth_only r.0 b r.2)
  value_from values p (list ts) h =
      let r = shape_item p.at (values p.var.number) (Items (length (items_of ts))) h.0 in
      let l = list_only r.0 (length (items_of ts)) r.2 in
      let here : item_at p.at (values p.var.number) ≡ Some (list l.0) = r.1 ∙ ap Some l.1 in
      let lengths : length (items_of l.0) ≡ 0 + length (items_of ts) = omega (arith, l.2) in
      here ∙ ap (λ us. Some (list us)) (same_items l.0 ts (items_from values p l.0 here 0 ts lengths h.1))

  items_from : (values : ℕ → Tree) (p : Path) (us : Trees) → item_at p.at (values p.var.number) ≡ Some (list us) → (k : ℕ) (ts : Trees)
      → length (items_of us) ≡ k + length (items_of ts) → AgreesWithAll values (facts_of_items p k ts) → drop k (items_of us) ≡ items_of ts
  items_from values p us e k nil l h = drop_all k (items_of us) (omega arith)
  items_from values p us e k (cons t ts) l h =
      let parts = agrees_left values (facts_at (item_path p k) t) (facts_of_items p (suc k) ts) h in
      let item : slice_get (items_of us) k ≡ Some t = sym (item_inside p.at k (values p.var.number) us e) ∙ value_from values (item_path p k) t parts.0 in
      let lengths : length (items_of us) ≡ suc k + length (items_of ts) = omega arith in
      drop_at k (items_of us) t item ∙ ap (λ vs. t ∷ vs) (items_from values p us e (suc k) ts lengths parts.1)

mutual
  facts_from : (values : ℕ → Tree) (p : Path) (t : Tree) → item_at p.at (values p.var.number) ≡ Some t → AgreesWithAll values (facts_at p t)
  facts_from values p (num n) h = (item_shape p.at (values p.var.number) (num n) h, tt)
  facts_from values p (truth b) h = (item_shape p.at (values p.var.number) (truth b) h, tt)
  facts_from values p (list ts) h = (item_shape p.at (values p.var.number) (list ts) h, item_facts values p ts h 0 ts refl)

  item_facts : (values : ℕ → Tree) (p : Path) (us : Trees) → item_at p.at (values p.var.number) ≡ Some (list us) → (k : ℕ) (ts : Trees) → drop k (items_of us) ≡ items_of ts → AgreesWithAll values (facts_of_items p k ts)
  item_facts values p us e k nil d = tt
  item_facts values p us e k (cons t ts) d =
      let g = get_drop k (items_of us) (items_of ts) t d in
      agrees_both values (facts_at (item_path p k) t) (facts_of_items p (suc k) ts)
      (facts_from values (item_path p k) t (item_inside p.at k (values p.var.number) us e ∙ g.0))
      (item_facts values p us e (suc k) ts g.1)

pub facts_say_the_value : FactsSayTheValue
facts_say_the_value values p t = (value_from values p t, facts_from values p t)

-- a whole value is the value
known_both : (w : Whole) (rest : WholeItems) (ts : List Tree) → and_items w rest ≡ all_known ts → (t : Tree) × (us : List Tree) × (w ≡ known t) × (rest ≡ all_known us) × (ts ≡ t ∷ us)
known_both (known t) (all_known us) ts h = let q : t ∷ us ≡ ts = cc h in (t, us, refl, refl, sym q)
known_both (known t) (item_open_at q) ts h = absurd (cc h)
known_both (open_at q) rest ts h = absurd (cc h)

known_list : (w : WholeItems) (t : Tree) → list_of_items w ≡ known t → (ts : List Tree) × (w ≡ all_known ts) × (t ≡ list (of_items ts))
known_list (all_known ts) t h = let q : list (of_items ts) ≡ t = cc h in (ts, refl, sym q)
known_list (item_open_at q) t h = absurd (cc h)

items_right : (values : ℕ → Tree) (p : Path) (us : Trees) (item : Path → Whole) → item_at p.at (values p.var.number) ≡ Some (list us)
    → ((k : ℕ) (t : Tree) → item (item_path p k) ≡ known t → item_at (p.at ++ k ∷ []) (values p.var.number) ≡ Some t)
    → (m k : ℕ) (ts : List Tree) → length (items_of us) ≡ k + m → items_known item p m k ≡ all_known ts → drop k (items_of us) ≡ ts
items_right values p us item e each zero k ts l h = let q : [] ≡ ts = cc h in drop_all k (items_of us) (omega arith) ∙ q
items_right values p us item e each (suc m) k ts l h =
    let r = known_both (item (item_path p k)) (items_known item p m (suc k)) ts h in
    let here : slice_get (items_of us) k ≡ Some r.0 = sym (item_inside p.at k (values p.var.number) us e) ∙ each k r.0 r.2 in
    let lengths : length (items_of us) ≡ suc k + m = omega arith in
    drop_at k (items_of us) r.0 here ∙ ap (λ vs. r.0 ∷ vs) (items_right values p us item e each m (suc k) r.1 lengths r.3) ∙ sym r.4

whole_right : (d : ℕ) (fs : List Fact) (values : ℕ → Tree) → AgreesWithAll values fs → (p : Path) (t : Tree) → whole d fs p ≡ known t → item_at p.at (values p.var.number) ≡ Some t
whole_right zero fs values a p t h = absurd (cc h)
whole_right (suc d) fs values a p t h =
    let V = values p.var.number in
    let P : Option Shape → Type 0 = λ o. kept_shape fs p ≡ o → with_shape (whole d fs) p o ≡ known t → item_at p.at V ≡ Some t in
    let agrees : (sh : Shape) → kept_shape fs p ≡ Some sh → shape_at_path p.at V ≡ Some sh = λ sh e. agrees_in values fs a (fact p sh) (kept_in fs p sh e) in
    let Q : Shape → Type 0 = λ sh. P (Some sh) in
    let nums : (n : ℤ) → Q (Num n) = λ n e k. (let r = shape_item p.at V (Num n) (agrees (Num n) e) in let q : num n ≡ t = cc k in r.1 ∙ ap Some (num_only r.0 n r.2 ∙ q)) in
    let truths : (b : Bool) → Q (Truth b) = λ b e k. (let r = shape_item p.at V (Truth b) (agrees (Truth b) e) in let q : truth b ≡ t = cc k in r.1 ∙ ap Some (truth_only r.0 b r.2 ∙ q)) in
    let lists : (n : ℕ) → Q (Items n) = λ n e k.
    (let r = shape_item p.at V (Items n) (agrees (Items n) e) in
    let l = list_only r.0 n r.2 in
    let here : item_at p.at V ≡ Some (list l.0) = r.1 ∙ ap Some l.1 in
    let w = known_list (items_known (whole d fs) p n 0) t k in
    let lengths : length (items_of l.0) ≡ 0 + n = omega (arith, l.2) in
    let items : items_of l.0 ≡ w.0 = items_right values p l.0 (whole d fs) here (λ j u q. whole_right d fs values a (item_path p j) u q) n 0 w.0 lengths w.1 in
    here ∙ ap (λ us. Some (list us)) (same_items l.0 (of_items w.0) (items ∙ sym (items_of-of_items w.0))) ∙ ap Some (sym w.2)) in
    let none : P None = λ e k. absurd (cc k) in
    let some : (sh : Shape) → P (Some sh) = λ sh. elim sh as Q [ Num n ↦ nums n | Truth b ↦ truths b | Items n ↦ lists n ] in
    let cases : P (kept_shape fs p) = elim (kept_shape fs p) as P [ None ↦ none | Some sh ↦ some sh ] in
    cases refl h

limited_right : (at : List ℕ) (s : Tree) (w : Whole) → ((t : Tree) → w ≡ known t → item_at at s ≡ Some t) → FullSays at s (limited w)
limited_right at s (open_at q) h = tt
limited_right at s (known t) h =
    let P : Bool → Type 0 = λ b. is_within_list_limit t ≡ b → FullSays at s (cond b (value t) too_long) in
    let cases : P (is_within_list_limit t) = elim (is_within_list_limit t) as P [ true ↦ λ e. (h t refl, e) | false ↦ λ e. (t, h t refl, e) ] in
    cases refl

pub full_is_right : FullIsRight
full_is_right fs values a p =
    let s = values p.var.number in
    let w = whole (suc (deepest fs)) fs p in
    let P : Bool → Type 0 = λ b. is_excluded fs p ≡ b → FullSays p.at s (cond b absent (limited w)) in
    let out : P true = λ e. (let r = excluded_by fs p e in excluded_right values r.0 p r.2 (agrees_in values fs a r.0 r.1)) in
    let inside : P false = λ e. limited_right p.at s w (λ t q. whole_right (suc (deepest fs)) fs values a p t q) in
    let cases : P (is_excluded fs p) = elim (is_excluded fs p) as P [ true ↦ out | false ↦ inside ] in
    cases refl

-- an open path is undecided
left_out-item : (at : List ℕ) (sh : Shape) (b : List ℕ) (j : ℕ) → leaves_out at sh (b ++ j ∷ []) ≡ true → (leaves_out at sh b ≡ true) ⊎ ((at ≡ b) × (has_item sh j ≡ false))
left_out-item [] sh [] j h = inr (refl, not-true (has_item sh j) h)
left_out-item [] sh (k ∷ b) j h = inl h
left_out-item (x ∷ at) sh [] j h = absurd (both_ways (leaves_out (x ∷ at) sh (j ∷ [])) (leaves_out-shorter (x ∷ at) (j ∷ []) sh (omega arith)) h)
left_out-item (x ∷ at) sh (y ∷ b) j h =
    let r = and_parts (eqb x y) (leaves_out at sh (b ++ j ∷ [])) h in
    elim (left_out-item at sh b j r.1) [ inl t ↦ inl (and_from (eqb x y) (leaves_out at sh b) r.0 t) | inr t ↦ inr (ap₂ (λ z zs. z ∷ zs) (eqb-true x y r.0) t.0, t.1) ]

item_allowed : (fs : List Fact) (p : Path) (n j : ℕ) → NoClash fs → kept_shape fs p ≡ Some (Items n) → j < n → is_excluded fs p ≡ false → is_excluded fs (item_path p j) ≡ false
item_allowed fs p n j m e l x = false_from_ne_true (is_excluded fs (item_path p j)) (λ t.
    let r = excluded_by fs (item_path p j) t in
    let g = r.0 in
    let s = and_parts (same_variable g.path.var p.var) (leaves_out g.path.at g.shape (p.at ++ j ∷ [])) r.2 in
    elim (left_out-item g.path.at g.shape p.at j s.1) [
      | inl q ↦ both_ways (is_excluded fs p) x (excluded_from fs p g r.1 (and_from (same_variable g.path.var p.var) (leaves_out g.path.at g.shape p.at) s.0 q))
      | inr q ↦ (let make : VarId → List ℕ → Path = λ v at. record { var = v; at = at } in
          let path : g.path ≡ p = ap₂ make ((same_variable-decides g.path.var p.var).0 s.0) q.0 in
          let both : Some g.shape ≡ Some (Items n) = sym (in_kept fs g m r.1) ∙ ap (kept_shape fs) path ∙ e in
          let shape : g.shape ≡ Items n = cc both in
          both_ways (ltb j n) (ap (λ sh. has_item sh j) (sym shape) ∙ q.1) (lt-ltb j n l))
    ])

items_open : (item : Path → Whole) (p q : Path) (m k : ℕ) → items_known item p m k ≡ item_open_at q → (j : ℕ) × (j < k + m) × (item (item_path p j) ≡ open_at q)
items_open item p q zero k h = absurd (cc h)
items_open item p q (suc m) k h =
    let rest = items_known item p m (suc k) in
    let P : Whole → Type 0 = λ w. item (item_path p k) ≡ w → and_items w rest ≡ item_open_at q → (j : ℕ) × (j < k + suc m) × (item (item_path p j) ≡ open_at q) in
    let opens : (r : Path) → P (open_at r) = λ r e i. (let s : r ≡ q = cc i in (k, omega arith, e ∙ ap open_at s)) in
    let knows : (t : Tree) → P (known t) = λ t e i. (let s = items_open item p q m (suc k) (rest_open t rest i) in let l : s.0 < suc k + m = s.1 in (s.0, omega arith, s.2)) in
    let cases : P (item (item_path p k)) = elim (item (item_path p k)) as P [ known t ↦ knows t | open_at r ↦ opens r ] in
    cases refl h
  where
    rest_open : (t : Tree) (w : WholeItems) → and_items (known t) w ≡ item_open_at q → w ≡ item_open_at q
    rest_open t (all_known us) i = absurd (cc i)
    rest_open t (item_open_at r) i = i

open_list : (w : WholeItems) (q : Path) → list_of_items w ≡ open_at q → w ≡ item_open_at q
open_list (all_known ts) q h = absurd (cc h)
open_list (item_open_at r) q h = let s : r ≡ q = cc h in ap item_open_at s

open_here : (fs : List Fact) (p q : Path) → p ≡ q → kept_shape fs p ≡ None → is_excluded fs p ≡ false → (kept_shape fs q ≡ None) × (is_excluded fs q ≡ false)
open_here fs p q s e x = (ap (kept_shape fs) (sym s) ∙ e, ap (is_excluded fs) (sym s) ∙ x)

too_deep : (fs : List Fact) (p : Path) → deepest fs < length p.at → kept_shape fs p ≡ None
too_deep fs p l =
    let P : Option Shape → Type 0 = λ o. kept_shape fs p ≡ o → o ≡ None in
    let some : (sh : Shape) → P (Some sh) = λ sh e. (let k : length p.at ≤ deepest fs = kept_depth fs p sh e in absurd (omega arith)) in
    let cases : P (kept_shape fs p) = elim (kept_shape fs p) as P [ None ↦ λ e. refl | Some sh ↦ some sh ] in
    cases refl

pub whole_open : (d : ℕ) (fs : List Fact) (p q : Path) → NoClash fs → deepest fs < length p.at + d → is_excluded fs p ≡ false → whole d fs p ≡ open_at q → (kept_shape fs q ≡ None) × (is_excluded fs q ≡ false)
whole_open zero fs p q m l x h = let s : p ≡ q = cc h in open_here fs p q s (too_deep fs p (omega arith)) x
whole_open (suc d) fs p q m l x h =
    let R : Type 0 = (kept_shape fs q ≡ None) × (is_excluded fs q ≡ false) in
    let P : Option Shape → Type 0 = λ o. kept_shape fs p ≡ o → with_shape (whole d fs) p o ≡ open_at q → R in
    let none : P None = λ e k. (let s : p ≡ q = cc k in open_here fs p q s e x) in
    let Q : Shape → Type 0 = λ sh. P (Some sh) in
    let lists : (n : ℕ) → Q (Items n) = λ n e k.
    (let r = items_open (whole d fs) p q n 0 (open_list (items_known (whole d fs) p n 0) q k) in
    let below : r.0 < 0 + n = r.1 in
    let lengths : length (p.at ++ r.0 ∷ []) ≡ length p.at + 1 = length-append p.at (r.0 ∷ []) in
    whole_open d fs (item_path p r.0) q m (omega arith) (item_allowed fs p n r.0 m e (omega arith) x) r.2) in
    let some : (sh : Shape) → P (Some sh) = λ sh. elim sh as Q [ Num n ↦ λ e k. absurd (cc k) | Truth b ↦ λ e k. absurd (cc k) | Items n ↦ lists n ] in
    let cases : P (kept_shape fs p) = elim (kept_shape fs p) as P [ None ↦ none | Some sh ↦ some sh ] in
    cases refl h

pub open_is_undecided : OpenIsUndecided
open_is_undecided fs p q m h =
    let w = whole (suc (deepest fs)) fs p in
    let R : Type 0 = (kept_shape fs q ≡ None) × (is_excluded fs q ≡ false) in
    let P : Bool → Type 0 = λ b. is_excluded fs p ≡ b → cond b absent (limited w) ≡ undecided q → R in
    let inside : P false = λ e k. whole_open (suc (deepest fs)) fs p q m (omega arith) e (open_limited w k) in
    let cases : P (is_excluded fs p) = elim (is_excluded fs p) as P [ true ↦ λ e k. absurd (cc k) | false ↦ inside ] in
    cases refl h
  where
    open_limited : (w : Whole) → limited w ≡ undecided q → w ≡ open_at q
    open_limited (open_at r) k = let s : r ≡ q = cc k in ap open_at s
    open_limited (known t) k =
        let S : Bool → Type 0 = λ b. cond b (value t) too_long ≡ undecided q → known t ≡ open_at q in
        let cases : S (is_within_list_limit t) = elim (is_within_list_limit t) as S [ true ↦ λ j. absurd (cc j) | false ↦ λ j. absurd (cc j) ] in
        cases k
