-- What is known of a variable depends on which facts of it there are, and not on their order.
use Rattle.std.proofs.Common.{◌≡◌, inl, inr, ℕ, zero, suc, ◌+◌, ◌<◌, ◌≤◌, max, true, not, ◌&&◌, ◌||◌, cond, List, [], ◌∷◌, ◌++◌, length, Option, Some, None, refl, ap, ap₂, sym, ◌∙◌, subst, arith}
use Rattle.std.specs.Bool.{Decides}
use Rattle.std.proofs.lemmas.Bool.{both_ways, or_cases, and_parts, false_from_ne_true}
use Rattle.std.proofs.lemmas.Bool.Decides.{same_from_decides}
use Rattle.std.proofs.lemmas.List.{length-append}
use Rattle.tp_value.specs.Tree.{Tree}
use Rattle.tp_value.specs.declared.value.Shape.{Shape}
use Rattle.tp_value.specs.declared.value.Shape.TheVariants.{Num, Truth, Items}
use Rattle.tp_value.specs.declared.path.VarId.{VarId}
use Rattle.tp_value.specs.declared.path.Path.{Path}
use Rattle.tp_value.specs.declared.path.Fact.{Fact}
use Rattle.tp_store.specs.Facts.{same_variable, same_path, same_shape, leaves_out, excludes, clash, kept_shape, is_excluded, item_path, fact}
use Rattle.tp_store.specs.Known.{NoClash, is_none, first_clash, Addition, refused_or, checked, new_facts, addition, adds, Whole, WholeItems, known, open_at, all_known, item_open_at, and_items, list_of_items, items_known, with_shape, whole, deepest, absent, limited, full}
use Rattle.tp_store.proofs.Paths.{same_variable-decides, same_path-decides, fact_from}
use Rattle.tp_store.proofs.Members.{In, kept_in, kept_none, none_kept, in_kept, excluded_by, excluded_from}
use Rattle.tp_store.proofs.First.{FirstOf, first_is, not_earlier-same}

-- The two lists have the same facts of the variable.
pub record AgreeAt (x : VarId) (fs gs : List Fact) : Type 0 where
  pub there : (f : Fact) → f.path.var ≡ x → In f fs → In f gs
  pub back : (f : Fact) → f.path.var ≡ x → In f gs → In f fs

pub agree_back : {x : VarId} {fs gs : List Fact} → AgreeAt x fs gs → AgreeAt x gs fs
agree_back a = record { there = a.back; back = a.there }

variable_of_path : (p q : Path) → same_path p q ≡ true → p.var ≡ q.var
variable_of_path p q h = ap (λ (r : Path). r.var) ((same_path-decides p q).0 h)

pub excludes-variable : (f : Fact) (p : Path) → excludes f p ≡ true → f.path.var ≡ p.var
excludes-variable f p h = (same_variable-decides f.path.var p.var).0 (and_parts (same_variable f.path.var p.var) (leaves_out f.path.at f.shape p.at) h).0

-- facts that clash are of one variable
pub clash-variable : (f g : Fact) → clash f g ≡ true → f.path.var ≡ g.path.var
clash-variable f g h =
    elim (or_cases (same_path f.path g.path && not (same_shape f.shape g.shape)) (excludes f g.path || excludes g f.path) h) [
      | inl t ↦ ap (λ (r : Path). r.var) ((same_path-decides f.path g.path).0 (and_parts (same_path f.path g.path) (not (same_shape f.shape g.shape)) t).0)
      | inr t ↦ elim (or_cases (excludes f g.path) (excludes g f.path) t) [ inl e ↦ excludes-variable f g.path e | inr e ↦ sym (excludes-variable g f.path e) ]
    ]

kept_there : (fs gs : List Fact) (p : Path) → NoClash gs → AgreeAt p.var fs gs → (o : Option Shape) → kept_shape fs p ≡ o → kept_shape gs p ≡ o
kept_there fs gs p m a None h =
    kept_none gs p (λ g i. false_from_ne_true (same_path g.path p) (λ t. both_ways (same_path g.path p) (none_kept fs p h g (a.back g (variable_of_path g.path p t) i)) t))
kept_there fs gs p m a (Some sh) h = in_kept gs (fact p sh) m (a.there (fact p sh) refl (kept_in fs p sh h))

pub same_kept : (fs gs : List Fact) (p : Path) → NoClash gs → AgreeAt p.var fs gs → kept_shape fs p ≡ kept_shape gs p
same_kept fs gs p m a = sym (kept_there fs gs p m a (kept_shape fs p) refl)

excluded_there : (fs gs : List Fact) (p : Path) → AgreeAt p.var fs gs → is_excluded fs p ≡ true → is_excluded gs p ≡ true
excluded_there fs gs p a h =
    let r = excluded_by fs p h in
    excluded_from gs p r.0 (a.there r.0 (excludes-variable r.0 p r.2) r.1) r.2

pub same_excluded : (fs gs : List Fact) (p : Path) → AgreeAt p.var fs gs → is_excluded fs p ≡ is_excluded gs p
same_excluded fs gs p a =
    let here : Decides (is_excluded fs p) (is_excluded gs p ≡ true) = (excluded_there fs gs p a, excluded_there gs fs p (agree_back a)) in
    let there : Decides (is_excluded gs p) (is_excluded gs p ≡ true) = (λ e. e, λ e. e) in
    same_from_decides (is_excluded fs p) (is_excluded gs p) here there

-- the first fact that clashes is one
first_same : (fs gs : List Fact) (f : Fact) → NoClash fs → AgreeAt f.path.var fs gs → (o u : Option Fact) → FirstOf fs f o → FirstOf gs f u → o ≡ u
first_same fs gs f n a None None h k = refl
first_same fs gs f n a None (Some g) h k =
    absurd (both_ways (clash g f) (h g (a.back g (clash-variable g f k.clashes) k.kept)) k.clashes)
first_same fs gs f n a (Some g) None h k =
    absurd (both_ways (clash g f) (k g (a.there g (clash-variable g f h.clashes) h.kept)) h.clashes)
first_same fs gs f n a (Some g) (Some r) h k =
    let g_var : g.path.var ≡ f.path.var = clash-variable g f h.clashes in
    let r_var : r.path.var ≡ f.path.var = clash-variable r f k.clashes in
    let r_in : In r fs = a.back r r_var k.kept in
    let g_in : In g gs = a.there g g_var h.kept in
    let indices : g.path.at ≡ r.path.at = not_earlier-same g r (k.earliest g g_in h.clashes) (h.earliest r r_in k.clashes) in
    let make : VarId → List ℕ → Path = λ x at. record { var = x; at = at } in
    let paths : g.path ≡ r.path = ap₂ make (g_var ∙ sym r_var) indices in
    let g_kept : kept_shape fs g.path ≡ Some g.shape = in_kept fs g n h.kept in
    let r_kept : kept_shape fs r.path ≡ Some r.shape = in_kept fs r n r_in in
    let both : Some g.shape ≡ Some r.shape = sym g_kept ∙ ap (kept_shape fs) paths ∙ r_kept in
    let shapes : g.shape ≡ r.shape = cc both in
    ap Some (fact_from g r paths shapes)

pub same_first : (fs gs : List Fact) (f : Fact) → NoClash fs → AgreeAt f.path.var fs gs → first_clash fs f ≡ first_clash gs f
same_first fs gs f n a = first_same fs gs f n a (first_clash fs f) (first_clash gs f) (first_is fs f) (first_is gs f)

-- the same shapes at each path of a variable
abbrev SameAt : VarId → List Fact → List Fact → Type 0
SameAt x fs gs = (p : Path) → p.var ≡ x → kept_shape fs p ≡ kept_shape gs p

items_same : (f g : Path → Whole) (p : Path) (x : VarId) → p.var ≡ x → ((q : Path) → q.var ≡ x → f q ≡ g q) → (m k : ℕ) → items_known f p m k ≡ items_known g p m k
items_same f g p x e h zero k = refl
items_same f g p x e h (suc m) k = ap₂ and_items (h (item_path p k) e) (items_same f g p x e h m (suc k))

shape_same : (f g : Path → Whole) (p : Path) (x : VarId) → p.var ≡ x → ((q : Path) → q.var ≡ x → f q ≡ g q) → (o : Option Shape) → with_shape f p o ≡ with_shape g p o
shape_same f g p x e h None = refl
shape_same f g p x e h (Some (Num m)) = refl
shape_same f g p x e h (Some (Truth b)) = refl
shape_same f g p x e h (Some (Items m)) = ap list_of_items (items_same f g p x e h m 0)

whole_same : (d : ℕ) (fs gs : List Fact) (x : VarId) → SameAt x fs gs → (p : Path) → p.var ≡ x → whole d fs p ≡ whole d gs p
whole_same zero fs gs x s p e = refl
whole_same (suc d) fs gs x s p e = shape_same (whole d fs) (whole d gs) p x e (whole_same d fs gs x s) (kept_shape fs p) ∙ ap (with_shape (whole d gs) p) (s p e)

max-right : (a b c : ℕ) → c ≤ b → c ≤ max a b
max-right a b c h = omega arith

-- no kept path has more indices than the deepest
pub deepest_in : (fs : List Fact) (f : Fact) → In f fs → length f.path.at ≤ deepest fs
deepest_in [] f i = absurd i
deepest_in (g ∷ fs) f (inl e) = let q : length g.path.at ≡ length f.path.at = ap (λ (x : Fact). length x.path.at) e in let r : length g.path.at ≤ max (length g.path.at) (deepest fs) = omega arith in omega arith
deepest_in (g ∷ fs) f (inr i) = max-right (length g.path.at) (deepest fs) (length f.path.at) (deepest_in fs f i)

pub kept_depth : (fs : List Fact) (p : Path) (sh : Shape) → kept_shape fs p ≡ Some sh → length p.at ≤ deepest fs
kept_depth fs p sh h = deepest_in fs (fact p sh) (kept_in fs p sh h)

-- so looking deeper finds nothing else
pub deep_enough : (d : ℕ) (fs : List Fact) (p : Path) → deepest fs < length p.at + d → whole d fs p ≡ whole (suc d) fs p
deep_enough zero fs p h =
    let P : Option Shape → Type 0 = λ o. kept_shape fs p ≡ o → open_at p ≡ with_shape (whole zero fs) p o in
    let some : (sh : Shape) → P (Some sh) = λ sh e. let k : length p.at ≤ deepest fs = kept_depth fs p sh e in absurd (omega arith) in
    let cases : P (kept_shape fs p) = elim (kept_shape fs p) as P [ None ↦ λ e. refl | Some sh ↦ some sh ] in
    cases refl
deep_enough (suc d) fs p h =
    let each : (k : ℕ) → whole d fs (item_path p k) ≡ whole (suc d) fs (item_path p k) = λ k. deep_enough d fs (item_path p k) (let e : length (p.at ++ k ∷ []) ≡ length p.at + 1 = length-append p.at (k ∷ []) in omega arith) in
    deeper_shape (whole d fs) (whole (suc d) fs) p each (kept_shape fs p)
  where
    deeper_items : (f g : Path → Whole) (p : Path) → ((k : ℕ) → f (item_path p k) ≡ g (item_path p k)) → (m k : ℕ) → items_known f p m k ≡ items_known g p m k
    deeper_items f g p e zero k = refl
    deeper_items f g p e (suc m) k = ap₂ and_items (e k) (deeper_items f g p e m (suc k))

    deeper_shape : (f g : Path → Whole) (p : Path) → ((k : ℕ) → f (item_path p k) ≡ g (item_path p k)) → (o : Option Shape) → with_shape f p o ≡ with_shape g p o
    deeper_shape f g p e None = refl
    deeper_shape f g p e (Some (Num m)) = refl
    deeper_shape f g p e (Some (Truth b)) = refl
    deeper_shape f g p e (Some (Items m)) = ap list_of_items (deeper_items f g p e m 0)

deep_more : (m d : ℕ) (fs : List Fact) (p : Path) → deepest fs < length p.at + d → whole d fs p ≡ whole (m + d) fs p
deep_more zero d fs p h = let e : 0 + d ≡ d = omega arith in ap (λ n. whole n fs p) (sym e)
deep_more (suc m) d fs p h =
    let e : suc m + d ≡ suc (m + d) = omega arith in
    deep_more m d fs p h ∙ deep_enough (m + d) fs p (omega arith) ∙ ap (λ n. whole n fs p) (sym e)

-- what more facts say of a value that is known
items_more : (item other : Path → Whole) → ((q : Path) (t : Tree) → item q ≡ known t → other q ≡ known t) → (p : Path) (m k : ℕ) (ts : List Tree) → items_known item p m k ≡ all_known ts → items_known other p m k ≡ all_known ts
items_more item other h p zero k ts e = e
items_more item other h p (suc m) k ts e = by (λ us b. items_more item other h p m (suc k) us b) (item (item_path p k)) refl (items_known item p m (suc k)) refl
  where
    by : ((us : List Tree) → items_known item p m (suc k) ≡ all_known us → items_known other p m (suc k) ≡ all_known us) → (w : Whole) → item (item_path p k) ≡ w → (ws : WholeItems) → items_known item p m (suc k) ≡ ws → items_known other p (suc m) k ≡ all_known ts
    by rest (open_at q) a ws b = let z : item_open_at q ≡ all_known ts = ap (λ w. and_items w (items_known item p m (suc k))) (sym a) ∙ e in cc z
    by rest (known t) a (item_open_at q) b = let z : item_open_at q ≡ all_known ts = ap₂ and_items (sym a) (sym b) ∙ e in cc z
    by rest (known t) a (all_known us) b =
        let all : all_known (t ∷ us) ≡ all_known ts = ap₂ and_items (sym a) (sym b) ∙ e in
        ap₂ and_items (h (item_path p k) t a) (rest us b) ∙ all

shape_more : (item other : Path → Whole) → ((q : Path) (t : Tree) → item q ≡ known t → other q ≡ known t) → (p : Path) (sh : Shape) (t : Tree) → with_shape item p (Some sh) ≡ known t → with_shape other p (Some sh) ≡ known t
shape_more item other h p (Num n) t e = e
shape_more item other h p (Truth b) t e = e
shape_more item other h p (Items n) t e = by (items_known item p n 0) refl
  where
    by : (ws : WholeItems) → items_known item p n 0 ≡ ws → list_of_items (items_known other p n 0) ≡ known t
    by (item_open_at q) a = let z : open_at q ≡ known t = ap list_of_items (sym a) ∙ e in cc z
    by (all_known us) a = ap list_of_items (items_more item other h p n 0 us a) ∙ ap list_of_items (sym a) ∙ e

whole_more : (d : ℕ) (fs gs : List Fact) → ((q : Path) (sh : Shape) → kept_shape fs q ≡ Some sh → kept_shape gs q ≡ Some sh) → (p : Path) (t : Tree) → whole d fs p ≡ known t → whole d gs p ≡ known t
whole_more zero fs gs h p t e = let z : open_at p ≡ known t = e in cc z
whole_more (suc d) fs gs h p t e = by (whole_more d fs gs h) (kept_shape fs p) refl
  where
    by : ((q : Path) (u : Tree) → whole d fs q ≡ known u → whole d gs q ≡ known u) → (o : Option Shape) → kept_shape fs p ≡ o → whole (suc d) gs p ≡ known t
    by rest None a = let z : open_at p ≡ known t = ap (with_shape (whole d fs) p) (sym a) ∙ e in cc z
    by rest (Some sh) a =
        ap (with_shape (whole d gs) p) (h p sh a)
        ∙ shape_more (whole d fs) (whole d gs) rest p sh t (ap (with_shape (whole d fs) p) (sym a) ∙ e)

pub known_more_facts : (fs gs : List Fact) → ((q : Path) (sh : Shape) → kept_shape fs q ≡ Some sh → kept_shape gs q ≡ Some sh) → (p : Path) (t : Tree)
    → whole (suc (deepest fs)) fs p ≡ known t → whole (suc (deepest gs)) gs p ≡ known t
known_more_facts fs gs h p t e =
    let x = deepest fs in
    let y = deepest gs in
    let swap : x + suc y ≡ y + suc x = omega arith in
    deep_more x (suc y) gs p (omega arith) ∙ ap (λ n. whole n gs p) swap ∙ whole_more (y + suc x) fs gs h p t (sym (deep_more y (suc x) fs p (omega arith)) ∙ e)

pub same_whole : (fs gs : List Fact) (p : Path) → NoClash gs → AgreeAt p.var fs gs → whole (suc (deepest fs)) fs p ≡ whole (suc (deepest gs)) gs p
same_whole fs gs p m a =
    let s : SameAt p.var fs gs = λ q e. same_kept fs gs q m (let P : VarId → Type 0 = λ x. AgreeAt x fs gs in subst P (sym e) a) in
    let x = deepest fs in
    let y = deepest gs in
    let swap : y + suc x ≡ x + suc y = omega arith in
    deep_more y (suc x) fs p (omega arith) ∙ ap (λ n. whole n fs p) swap ∙ whole_same (x + suc y) fs gs p.var s p refl ∙ sym (deep_more x (suc y) gs p (omega arith))

pub same_full : (fs gs : List Fact) (p : Path) → NoClash gs → AgreeAt p.var fs gs → full fs p ≡ full gs p
same_full fs gs p m a = ap₂ (λ b w. cond b absent (limited w)) (same_excluded fs gs p a) (same_whole fs gs p m a)

-- and the same comes of adding facts
same_checked : (ks ls fs : List Fact) (o : Addition) → NoClash ks → ((f : Fact) → In f fs → AgreeAt f.path.var ks ls) → checked ks fs o ≡ checked ls fs o
same_checked ks ls [] o n a = refl
same_checked ks ls (f ∷ fs) o n a = ap₂ (λ c rest. refused_or c f rest) (same_first ks ls f n (a f (inl refl))) (same_checked ks ls fs o n (λ g i. a g (inr i)))

same_news : (ks ls fs : List Fact) → NoClash ls → ((f : Fact) → In f fs → AgreeAt f.path.var ks ls) → new_facts ks fs ≡ new_facts ls fs
same_news ks ls [] m a = refl
same_news ks ls (f ∷ fs) m a =
    ap₂ (λ o rest. cond (is_none o) (f ∷ rest) rest) (same_kept ks ls f.path m (a f (inl refl))) (same_news ks ls fs m (λ g i. a g (inr i)))

pub same_addition : (ks ls fs : List Fact) → NoClash ks → NoClash ls → ((f : Fact) → In f fs → AgreeAt f.path.var ks ls) → addition ks fs ≡ addition ls fs
same_addition ks ls fs n m a = same_checked ks ls fs (adds (new_facts ks fs)) n a ∙ ap (λ ns. checked ls fs (adds ns)) (same_news ks ls fs m a)
