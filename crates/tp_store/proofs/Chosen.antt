-- A state that agrees with facts.
use Rattle.std.proofs.Common.{◌≡◌, inl, inr, ℕ, pos, zero, suc, ◌+◌, ◌<◌, ◌≤◌, max, Bool, true, false, not, ◌&&◌, ◌||◌, cond, List, [], ◌∷◌, ◌++◌, length, map, Option, Some, None, slice_get, refl, ap, sym, ◌∙◌, subst, arith, append_assoc, append-nil}
use Rattle.std.proofs.lemmas.Bool.{ltb-true, eq-eqb}
use Rattle.tp_value.specs.Tree.{Tree, num, truth, list, of_items}
use Rattle.tp_value.specs.Equations.{items_of-of_items}
use Rattle.tp_value.specs.Shape.{shape_of, item_of, at_item, shape_at_path}
use Rattle.tp_value.specs.declared.value.Shape.{Shape}
use Rattle.tp_value.specs.declared.value.Shape.TheVariants.{Num, Truth, Items}
use Rattle.tp_value.specs.declared.path.VarId.{VarId}
use Rattle.tp_value.specs.declared.path.Path.{Path}
use Rattle.tp_value.specs.declared.path.Fact.{Fact}
use Rattle.tp_store.specs.Facts.{same_variable, same_path, same_shape, has_item, leaves_out, excludes, clash, kept_shape, fact, AgreesWith, AgreesWithAll}
use Rattle.tp_store.specs.Known.{NoClash, Variable, IsVariableOf, AreOfVariables, lasting_facts, deepest}
use Rattle.tp_store.specs.Laws.{HasAgreeingState, LastingExtends}
use Rattle.tp_store.proofs.Paths.{same_variable-decides}
use Rattle.tp_store.proofs.Members.{In, kept_in, in_kept, apart_in, filter_in, agrees_in, agrees_from}
use Rattle.tp_store.proofs.Same.{kept_depth}
use Rattle.std.proofs.lemmas.Bool.{or_parts}

-- greater than each of the indices
abbrev pub above : List ℕ → ℕ
above [] = 0
above (k ∷ ks) = max (suc k) (above ks)

abbrev pub above_all : List Fact → ℕ
above_all [] = 0
above_all (f ∷ fs) = max (above f.path.at) (above_all fs)

-- m items from an index on
abbrev pub some_items : (ℕ → Tree) → (m k : ℕ) → List Tree
some_items item zero k = []
some_items item (suc m) k = item k ∷ some_items item m (suc k)

-- a value with the shape that is kept; where none is, a list with enough items for all the indices
abbrev pub some_value : ℕ → (ℕ → Tree) → Option Shape → Tree
some_value m item None = list (of_items (some_items item m 0))
some_value m item (Some (Num n)) = num n
some_value m item (Some (Truth b)) = truth b
some_value m item (Some (Items n)) = list (of_items (some_items item n 0))

-- a value of the variable that has the kept shapes, as deep as `d`
abbrev pub chosen : ℕ → List Fact → VarId → (d : ℕ) → List ℕ → Tree
chosen m fs x zero at = some_value m (λ k. num (pos 0)) (kept_shape fs (record { var = x; at = at }))
chosen m fs x (suc d) at = some_value m (λ k. chosen m fs x d (at ++ k ∷ [])) (kept_shape fs (record { var = x; at = at }))

length_items : (item : ℕ → Tree) (m k : ℕ) → length (some_items item m k) ≡ m
length_items item zero k = refl
length_items item (suc m) k = ap suc (length_items item m (suc k))

get_items : (item : ℕ → Tree) (m k j : ℕ) → j < m → slice_get (some_items item m k) j ≡ Some (item (k + j))
get_items item zero k j h = absurd (omega arith)
get_items item (suc m) k zero h = let n : k ≡ k + 0 = omega arith in ap (λ i. Some (item i)) n
get_items item (suc m) k (suc j) h = let n : suc k + j ≡ k + suc j = omega arith in get_items item m (suc k) j (omega arith) ∙ ap (λ i. Some (item i)) n

get_list : (item : ℕ → Tree) (m j : ℕ) → j < m → item_of (list (of_items (some_items item m 0))) j ≡ Some (item j)
get_list item m j h =
    let n : 0 + j ≡ j = omega arith in
    ap (λ ts. slice_get ts j) (items_of-of_items (some_items item m 0)) ∙ get_items item m 0 j h ∙ ap (λ i. Some (item i)) n

shape_some : (m : ℕ) (item : ℕ → Tree) (sh : Shape) → shape_of (some_value m item (Some sh)) ≡ sh
shape_some m item (Num n) = refl
shape_some m item (Truth b) = refl
shape_some m item (Items n) = ap Items (ap length (items_of-of_items (some_items item n 0)) ∙ length_items item n 0)

-- an item that the shape allows is there
item_some : (m : ℕ) (item : ℕ → Tree) (o : Option Shape) (k : ℕ) → k < m → ((sh : Shape) → o ≡ Some sh → has_item sh k ≡ true) → item_of (some_value m item o) k ≡ Some (item k)
item_some m item None k l h = get_list item m k l
item_some m item (Some (Num n)) k l h = let q = h (Num n) refl in absurd (cc q)
item_some m item (Some (Truth b)) k l h = let q = h (Truth b) refl in absurd (cc q)
item_some m item (Some (Items n)) k l h = get_list item n k (ltb-true k n (h (Items n) refl))

-- a proper prefix of a path
left_after : (a : List ℕ) (sh : Shape) (k : ℕ) (ks : List ℕ) → leaves_out a sh (a ++ k ∷ ks) ≡ not (has_item sh k)
left_after [] sh k ks = refl
left_after (j ∷ a) sh k ks = ap (λ b. b && leaves_out a sh (a ++ k ∷ ks)) (eq-eqb j j refl) ∙ left_after a sh k ks

not_false : (b : Bool) → not b ≡ false → b ≡ true
not_false true h = refl
not_false false h = absurd (cc h)

-- what is kept on the way to a fact has the next item
way_open : (fs : List Fact) (f : Fact) (a : List ℕ) (k : ℕ) (ks : List ℕ) → NoClash fs → In f fs → f.path.at ≡ a ++ k ∷ ks → (sh : Shape) → kept_shape fs (record { var = f.path.var; at = a }) ≡ Some sh → has_item sh k ≡ true
way_open fs f a k ks n i e sh h =
    let p : Path = record { var = f.path.var; at = a } in
    let g = fact p sh in
    let no : clash g f ≡ false = apart_in fs g f n (kept_in fs p sh h) i in
    let out : excludes g f.path ≡ false = (or_parts (excludes g f.path) (excludes f p) (or_parts (same_path p f.path && not (same_shape sh f.shape)) (excludes g f.path || excludes f p) no).1).0 in
    let same : same_variable f.path.var f.path.var ≡ true = (same_variable-decides f.path.var f.path.var).1 refl in
    let left : leaves_out a sh f.path.at ≡ false = ap (λ b. b && leaves_out a sh f.path.at) (sym same) ∙ out in
    not_false (has_item sh k) (sym (ap (leaves_out a sh) e ∙ left_after a sh k ks) ∙ left)

pub reaches_shape : (m : ℕ) (fs : List Fact) (f : Fact) → NoClash fs → In f fs → above f.path.at ≤ m → (rest a : List ℕ) (d : ℕ) → f.path.at ≡ a ++ rest → above rest ≤ m → length rest ≤ d
    → shape_at_path rest (chosen m fs f.path.var d a) ≡ Some f.shape
reaches_shape m fs f n i l [] a d e u h =
    let make : List ℕ → Path = λ at. record { var = f.path.var; at = at } in
    let here : kept_shape fs (make a) ≡ Some f.shape = ap (λ at. kept_shape fs (make at)) (sym (append-nil a) ∙ sym e) ∙ in_kept fs f n i in
    top d here
  where
    top : (d : ℕ) → kept_shape fs (record { var = f.path.var; at = a }) ≡ Some f.shape → Some (shape_of (chosen m fs f.path.var d a)) ≡ Some f.shape
    top zero q = ap (λ o. Some (shape_of (some_value m (λ k. num (pos 0)) o))) q ∙ ap Some (shape_some m (λ k. num (pos 0)) f.shape)
    top (suc d) q = ap (λ o. Some (shape_of (some_value m (λ k. chosen m fs f.path.var d (a ++ k ∷ [])) o))) q ∙ ap Some (shape_some m (λ k. chosen m fs f.path.var d (a ++ k ∷ [])) f.shape)
reaches_shape m fs f n i l (k ∷ ks) a zero e u h = absurd (omega arith)
reaches_shape m fs f n i l (k ∷ ks) a (suc d) e u h =
    let item : ℕ → Tree = λ j. chosen m fs f.path.var d (a ++ j ∷ []) in
    let low : k < m = omega arith in
    let there : item_of (chosen m fs f.path.var (suc d) a) k ≡ Some (item k) = item_some m item (kept_shape fs (record { var = f.path.var; at = a })) k low (way_open fs f a k ks n i e) in
    ap (λ o. at_item o (shape_at_path ks)) there ∙ reaches_shape m fs f n i l ks (a ++ k ∷ []) d (e ∙ sym (append_assoc a (k ∷ []) ks)) (omega arith) (omega arith)

above_in : (fs : List Fact) (f : Fact) → In f fs → above f.path.at ≤ above_all fs
above_in [] f i = absurd i
above_in (g ∷ fs) f (inl e) = let q : above g.path.at ≡ above f.path.at = ap (λ (x : Fact). above x.path.at) e in omega arith
above_in (g ∷ fs) f (inr i) = let q : above f.path.at ≤ above_all fs = above_in fs f i in omega arith

variable_in : (xs : List Variable) (fs : List Fact) → AreOfVariables xs fs → (f : Fact) → In f fs → IsVariableOf xs f.path.var
variable_in xs [] h f i = absurd i
variable_in xs (g ∷ fs) h f (inl e) = let P : Fact → Type 0 = λ x. IsVariableOf xs x.path.var in subst P e h.0
variable_in xs (g ∷ fs) h f (inr i) = variable_in xs fs h.1 f i

-- whether the variable is static, where there is one
abbrev pub kind_or : Option Bool → Bool
kind_or None = false
kind_or (Some b) = b

abbrev pub kinds : List Variable → List Bool
kinds xs = map (λ (v : Variable). v.lasting) xs

abbrev pub chosen_values : List Variable → List Fact → ℕ → Tree
chosen_values xs fs n = chosen (above_all fs) fs (record { number = n; lasting = kind_or (slice_get (kinds xs) n) }) (deepest fs) []

chosen_agrees : (xs : List Variable) (fs : List Fact) → NoClash fs → (f : Fact) → In f fs → IsVariableOf xs f.path.var → shape_at_path f.path.at (chosen_values xs fs f.path.var.number) ≡ Some f.shape
chosen_agrees xs fs n f i v =
    let make : Bool → VarId = λ b. record { number = f.path.var.number; lasting = b } in
    let var : make (kind_or (slice_get (kinds xs) f.path.var.number)) ≡ f.path.var = ap (λ o. make (kind_or o)) v in
    ap (λ x. shape_at_path f.path.at (chosen (above_all fs) fs x (deepest fs) [])) var
    ∙ reaches_shape (above_all fs) fs f n i (above_in fs f i) f.path.at [] (deepest fs) refl (above_in fs f i) (kept_depth fs f.path f.shape (in_kept fs f n i))

pub has_agreeing_state : HasAgreeingState
has_agreeing_state xs fs n a = (chosen_values xs fs, agrees_from (chosen_values xs fs) fs (λ f i. chosen_agrees xs fs n f i (variable_in xs fs a f i)))

abbrev pub picked : Option Bool → Tree → Tree → Tree
picked None s t = t
picked (Some b) s t = cond b s t

abbrev pub extended : List Variable → List Fact → (ℕ → Tree) → ℕ → Tree
extended xs fs lasting n = picked (slice_get (kinds xs) n) (lasting n) (chosen_values xs fs n)

extended_agrees : (xs : List Variable) (fs : List Fact) (lasting : ℕ → Tree) → NoClash fs → AgreesWithAll lasting (lasting_facts fs) → (f : Fact) → In f fs → IsVariableOf xs f.path.var → AgreesWith (extended xs fs lasting) f
extended_agrees xs fs lasting n a f i v =
    let k = f.path.var.number in
    let both : (b : Bool) → f.path.var.lasting ≡ b → shape_at_path f.path.at (cond b (lasting k) (chosen_values xs fs k)) ≡ Some f.shape = λ b.
    (let P : Bool → Type 0 = λ c. f.path.var.lasting ≡ c → shape_at_path f.path.at (cond c (lasting k) (chosen_values xs fs k)) ≡ Some f.shape in
    elim b as P [ true ↦ λ e. agrees_in lasting (lasting_facts fs) a f (filter_in (λ (x : Fact). x.path.var.lasting) f fs i e) | false ↦ λ e. chosen_agrees xs fs n f i v ]) in
    ap (λ o. shape_at_path f.path.at (picked o (lasting k) (chosen_values xs fs k))) v ∙ both f.path.var.lasting refl

pub lasting_extends : LastingExtends
lasting_extends xs fs n a lasting s = (
  extended xs fs lasting,
  agrees_from (extended xs fs lasting) fs (λ f i. extended_agrees xs fs lasting n s f i (variable_in xs fs a f i)),
  λ k e. ap (λ o. picked o (lasting k) (chosen_values xs fs k)) e,
)
