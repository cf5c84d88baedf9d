-- The facts of a list.
use Rattle.std.proofs.Common.{◌≡◌, ◌⊎◌, inl, inr, ℕ, Bool, true, false, not, ◌&&◌, ◌||◌, cond, List, [], ◌∷◌, ◌++◌, filter, Some, None, refl, ap, ap₂, sym, ◌∙◌, subst, arith, length, ◌≤◌}
use Rattle.std.proofs.lemmas.Bool.{or_cases, or_parts, or_left, or_right, or_from}
use Rattle.tp_value.specs.Tree.{Tree}
use Rattle.tp_value.specs.declared.value.Shape.{Shape}
use Rattle.tp_value.specs.declared.path.Path.{Path}
use Rattle.tp_value.specs.declared.path.Fact.{Fact}
use Rattle.tp_store.specs.Facts.{same_path, same_shape, leaves_out, excludes, clash, kept_shape, is_excluded, fact, AgreesWith, AgreesWithAll}
use Rattle.tp_store.specs.Known.{NoClash, clashes_with_some}
use Rattle.tp_store.proofs.Indices.{leaves_out-shorter}
use Rattle.tp_store.proofs.Paths.{same_path-decides, same_shape-decides, same_path-refl, same_path-sym, fact_from, clash-sym}

-- the fact is one of the list
abbrev pub In : Fact → List Fact → Type 0
In f [] = ⊥
In f (g ∷ gs) = (g ≡ f) ⊎ In f gs

pub in_left : (f : Fact) (xs ys : List Fact) → In f xs → In f (xs ++ ys)
in_left f [] ys h = absurd h
in_left f (x ∷ xs) ys (inl e) = inl e
in_left f (x ∷ xs) ys (inr h) = inr (in_left f xs ys h)

pub in_right : (f : Fact) (xs ys : List Fact) → In f ys → In f (xs ++ ys)
in_right f [] ys h = h
in_right f (x ∷ xs) ys h = inr (in_right f xs ys h)

pub in_append : (f : Fact) (xs ys : List Fact) → In f (xs ++ ys) → In f xs ⊎ In f ys
in_append f [] ys h = inr h
in_append f (x ∷ xs) ys (inl e) = inl (inl e)
in_append f (x ∷ xs) ys (inr h) = elim (in_append f xs ys h) [ inl i ↦ inl (inr i) | inr i ↦ inr i ]

pub in_filter : (p : Fact → Bool) (f : Fact) (xs : List Fact) → In f (filter p xs) → In f xs × (p f ≡ true)
in_filter p f [] h = absurd h
in_filter p f (x ∷ xs) h =
    let P : Bool → Type 0 = λ b. In f (cond b (x ∷ filter p xs) (filter p xs)) → (p x ≡ b) → In f (x ∷ xs) × (p f ≡ true) in
    let later : In f (filter p xs) → In f (x ∷ xs) × (p f ≡ true) = λ i. let r = in_filter p f xs i in (inr r.0, r.1) in
    let here : x ≡ f → p x ≡ true → In f (x ∷ xs) × (p f ≡ true) = λ e t. (inl e, ap p (sym e) ∙ t) in
    let cases : P (p x) = elim (p x) as P [ true ↦ λ i t. elim i [ inl e ↦ here e t | inr j ↦ later j ] | false ↦ λ i t. later i ] in
    cases h refl

pub filter_in : (p : Fact → Bool) (f : Fact) (xs : List Fact) → In f xs → p f ≡ true → In f (filter p xs)
filter_in p f [] h t = absurd h
filter_in p f (x ∷ xs) (inl e) t =
    let q : p x ≡ true = ap p e ∙ t in
    let goal : (b : Bool) → b ≡ true → In f (cond b (x ∷ filter p xs) (filter p xs)) = λ b r. let P : Bool → Type 0 = λ v. In f (cond v (x ∷ filter p xs) (filter p xs)) in subst P (sym r) (inl e) in
    goal (p x) q
filter_in p f (x ∷ xs) (inr h) t =
    let rest : In f (filter p xs) = filter_in p f xs h t in
    let P : Bool → Type 0 = λ v. In f (cond v (x ∷ filter p xs) (filter p xs)) in
    elim (p x) as P [ true ↦ inr rest | false ↦ rest ]

-- a kept shape is a fact of the list
pub kept_in : (fs : List Fact) (p : Path) (sh : Shape) → kept_shape fs p ≡ Some sh → In (fact p sh) fs
kept_in [] p sh h = absurd (cc)
kept_in (f ∷ fs) p sh h =
    let P : Bool → Type 0 = λ b. cond b (Some f.shape) (kept_shape fs p) ≡ Some sh → same_path f.path p ≡ b → In (fact p sh) (f ∷ fs) in
    let here : Some f.shape ≡ Some sh → same_path f.path p ≡ true → In (fact p sh) (f ∷ fs) = λ e t. inl (fact_from f (fact p sh) ((same_path-decides f.path p).0 t) (cc)) in
    let cases : P (same_path f.path p) = elim (same_path f.path p) as P [ true ↦ here | false ↦ λ e t. inr (kept_in fs p sh e) ] in
    cases h refl

pub kept_none : (fs : List Fact) (p : Path) → ((g : Fact) → In g fs → same_path g.path p ≡ false) → kept_shape fs p ≡ None
kept_none [] p h = refl
kept_none (f ∷ fs) p h = ap (λ b. cond b (Some f.shape) (kept_shape fs p)) (h f (inl refl)) ∙ kept_none fs p (λ g i. h g (inr i))

pub none_kept : (fs : List Fact) (p : Path) → kept_shape fs p ≡ None → (g : Fact) → In g fs → same_path g.path p ≡ false
none_kept [] p h g i = absurd i
none_kept (f ∷ fs) p h g i =
    let P : Bool → Type 0 = λ b. cond b (Some f.shape) (kept_shape fs p) ≡ None → same_path f.path p ≡ b → same_path g.path p ≡ false in
    let no : Some f.shape ≡ None → same_path f.path p ≡ true → same_path g.path p ≡ false = λ e t. absurd (cc) in
    let later : kept_shape fs p ≡ None → same_path f.path p ≡ false → same_path g.path p ≡ false = λ e t. elim i [ inl q ↦ ap (λ (x : Fact). same_path x.path p) (sym q) ∙ t | inr j ↦ none_kept fs p e g j ] in
    let cases : P (same_path f.path p) = elim (same_path f.path p) as P [ true ↦ no | false ↦ later ] in
    cases h refl

-- and in a list without a clash each fact is kept
pub in_kept : (fs : List Fact) (f : Fact) → NoClash fs → In f fs → kept_shape fs f.path ≡ Some f.shape
in_kept [] f n i = absurd i
in_kept (g ∷ fs) f n (inl e) =
    let t : same_path g.path f.path ≡ true = ap (λ (x : Fact). same_path x.path f.path) e ∙ same_path-refl f.path in
    ap (λ b. cond b (Some g.shape) (kept_shape fs f.path)) t ∙ ap (λ (x : Fact). Some x.shape) e
in_kept (g ∷ fs) f n (inr i) =
    let t : same_path g.path f.path ≡ false = same_path-sym g.path f.path ∙ none_kept fs g.path n.0 f i in
    ap (λ b. cond b (Some g.shape) (kept_shape fs f.path)) t ∙ in_kept fs f n.2 i

pub excluded_by : (fs : List Fact) (p : Path) → is_excluded fs p ≡ true → (f : Fact) × In f fs × (excludes f p ≡ true)
excluded_by [] p h = absurd (cc)
excluded_by (f ∷ fs) p h = elim (or_cases (excludes f p) (is_excluded fs p) h) [ inl t ↦ (f, inl refl, t) | inr t ↦ (let r = excluded_by fs p t in (r.0, inr r.1, r.2)) ]

pub excluded_from : (fs : List Fact) (p : Path) (f : Fact) → In f fs → excludes f p ≡ true → is_excluded fs p ≡ true
excluded_from [] p f i t = absurd i
excluded_from (g ∷ fs) p f (inl e) t = or_left (excludes g p) (is_excluded fs p) (ap (λ (x : Fact). excludes x p) e ∙ t)
excluded_from (g ∷ fs) p f (inr i) t = or_right (excludes g p) (is_excluded fs p) (excluded_from fs p f i t)

pub meets_none : (fs : List Fact) (f : Fact) → ((g : Fact) → In g fs → clash g f ≡ false) → clashes_with_some fs f ≡ false
meets_none [] f h = refl
meets_none (g ∷ fs) f h = or_from (clash g f) (clashes_with_some fs f) (h g (inl refl)) (meets_none fs f (λ x i. h x (inr i)))

pub none_meets : (fs : List Fact) (f : Fact) → clashes_with_some fs f ≡ false → (g : Fact) → In g fs → clash g f ≡ false
none_meets [] f h g i = absurd i
none_meets (x ∷ fs) f h g (inl e) = ap (λ (y : Fact). clash y f) (sym e) ∙ (or_parts (clash x f) (clashes_with_some fs f) h).0
none_meets (x ∷ fs) f h g (inr i) = none_meets fs f (or_parts (clash x f) (clashes_with_some fs f) h).1 g i

same_shape-refl : (f : Fact) → same_shape f.shape f.shape ≡ true
same_shape-refl f = (same_shape-decides f.shape f.shape).1 refl

pub excludes-own : (f : Fact) (p : Path) → length p.at ≤ length f.path.at → excludes f p ≡ false
excludes-own f p h =
    let e : leaves_out f.path.at f.shape p.at ≡ false = leaves_out-shorter f.path.at p.at f.shape h in
    grind (arith, e)

clash-self : (f : Fact) → clash f f ≡ false
clash-self f =
    let e : excludes f f.path ≡ false = excludes-own f f.path (omega arith) in
    let s : same_shape f.shape f.shape ≡ true = same_shape-refl f in
    or_from (same_path f.path f.path && not (same_shape f.shape f.shape)) (excludes f f.path || excludes f f.path)
    (ap (λ b. same_path f.path f.path && not b) s ∙ grind arith) (or_from (excludes f f.path) (excludes f f.path) e e)

-- two facts of a list without a clash don't clash
pub apart_in : (fs : List Fact) (f g : Fact) → NoClash fs → In f fs → In g fs → clash f g ≡ false
apart_in [] f g n i j = absurd i
apart_in (x ∷ fs) f g n (inl e) (inl h) = ap₂ clash (sym e) (sym h) ∙ clash-self x
apart_in (x ∷ fs) f g n (inl e) (inr j) = ap (λ y. clash y g) (sym e) ∙ clash-sym x g ∙ none_meets fs x n.1 g j
apart_in (x ∷ fs) f g n (inr i) (inl h) = ap (λ y. clash f y) (sym h) ∙ none_meets fs x n.1 f i
apart_in (x ∷ fs) f g n (inr i) (inr j) = apart_in fs f g n.2 i j

-- Facts stand apart where they have two paths and don't clash.
abbrev pub Apart : Fact → Fact → Type 0
Apart f g = (same_path g.path f.path ≡ false) × (clash g f ≡ false)

pub NoClash-append : (xs ys : List Fact) → NoClash xs → NoClash ys → ((f g : Fact) → In f xs → In g ys → Apart f g) → NoClash (xs ++ ys)
NoClash-append [] ys n m h = m
NoClash-append (x ∷ xs) ys n m h =
    let all_paths : (g : Fact) → In g (xs ++ ys) → same_path g.path x.path ≡ false = λ g i. elim (in_append g xs ys i) [ inl j ↦ none_kept xs x.path n.0 g j | inr j ↦ (h x g (inl refl) j).0 ] in
    let all_apart : (g : Fact) → In g (xs ++ ys) → clash g x ≡ false = λ g i. elim (in_append g xs ys i) [ inl j ↦ none_meets xs x n.1 g j | inr j ↦ (h x g (inl refl) j).1 ] in
    (kept_none (xs ++ ys) x.path all_paths, meets_none (xs ++ ys) x all_apart, NoClash-append xs ys n.2 m (λ f g i j. h f g (inr i) j))

pub NoClash-filter : (p : Fact → Bool) (fs : List Fact) → NoClash fs → NoClash (filter p fs)
NoClash-filter p [] n = tt
NoClash-filter p (f ∷ fs) n =
    let rest : NoClash (filter p fs) = NoClash-filter p fs n.2 in
    let paths : kept_shape (filter p fs) f.path ≡ None = kept_none (filter p fs) f.path (λ g i. none_kept fs f.path n.0 g (in_filter p g fs i).0) in
    let clashes : clashes_with_some (filter p fs) f ≡ false = meets_none (filter p fs) f (λ g i. none_meets fs f n.1 g (in_filter p g fs i).0) in
    let P : Bool → Type 0 = λ b. NoClash (cond b (f ∷ filter p fs) (filter p fs)) in
    elim (p f) as P [ true ↦ (paths, clashes, rest) | false ↦ rest ]

pub agrees_in : (values : ℕ → Tree) (fs : List Fact) → AgreesWithAll values fs → (f : Fact) → In f fs → AgreesWith values f
agrees_in values [] h f i = absurd i
agrees_in values (g ∷ fs) h f (inl e) = let P : Fact → Type 0 = λ x. AgreesWith values x in subst P e h.0
agrees_in values (g ∷ fs) h f (inr i) = agrees_in values fs h.1 f i

pub agrees_from : (values : ℕ → Tree) (fs : List Fact) → ((f : Fact) → In f fs → AgreesWith values f) → AgreesWithAll values fs
agrees_from values [] h = tt
agrees_from values (g ∷ fs) h = (h g (inl refl), agrees_from values fs (λ f i. h f (inr i)))
