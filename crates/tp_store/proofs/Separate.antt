-- The facts of a value are of one variable and don't clash.
use Rattle.std.proofs.Common.{◌≡◌, ◌≢◌, inl, inr, ℕ, suc, ◌+◌, ◌<◌, ◌≤◌, false, not, ◌&&◌, ◌||◌, eqb, List, [], ◌∷◌, ◌++◌, length, refl, ap, ap₂, sym, ◌∙◌, subst, arith, append_assoc, append-nil}
use Rattle.std.proofs.lemmas.Bool.{and_left, and_right, or_from, ne_eqb, lt-ltb}
use Rattle.std.proofs.lemmas.List.{length-append}
use Rattle.tp_value.specs.Tree.{Tree, Trees, num, truth, list, nil, cons, items_of}
use Rattle.tp_value.specs.declared.value.Shape.{Shape}
use Rattle.tp_value.specs.declared.value.Shape.TheVariants.{Items}
use Rattle.tp_value.specs.declared.path.Path.{Path}
use Rattle.tp_value.specs.declared.path.Fact.{Fact}
use Rattle.tp_store.specs.Facts.{same_variable, same_indices, same_path, same_shape, leaves_out, excludes, item_path, fact, facts_at, facts_of_items}
use Rattle.tp_store.specs.Known.{NoClash}
use Rattle.tp_store.specs.FactMap.{AreOf}
use Rattle.tp_store.proofs.Indices.{same_indices-other_length}
use Rattle.tp_store.proofs.Members.{In, in_append, excludes-own, NoClash-append, Apart}
use Rattle.tp_store.proofs.Parts.{of_from}

-- the fact is of the path or of one below
record Under (p : Path) (f : Fact) : Type 0 where
  variable : f.path.var ≡ p.var
  rest : List ℕ
  indices : f.path.at ≡ p.at ++ rest

-- it is of an item of the path or below, with an index from k on and less than n
record Within (p : Path) (k n : ℕ) (f : Fact) : Type 0 where
  of_variable : f.path.var ≡ p.var
  index : ℕ
  low : k ≤ index
  high : index < n
  beyond : List ℕ
  indices_of : f.path.at ≡ p.at ++ index ∷ beyond

mutual
  under : (p : Path) (t : Tree) (f : Fact) → In f (facts_at p t) → Under p f
  under p (num n) f (inl e) = record { variable = ap (λ (x : Fact). x.path.var) (sym e); rest = []; indices = ap (λ (x : Fact). x.path.at) (sym e) ∙ sym (append-nil p.at) }
  under p (num n) f (inr i) = absurd i
  under p (truth b) f (inl e) = record { variable = ap (λ (x : Fact). x.path.var) (sym e); rest = []; indices = ap (λ (x : Fact). x.path.at) (sym e) ∙ sym (append-nil p.at) }
  under p (truth b) f (inr i) = absurd i
  under p (list ts) f (inl e) = record { variable = ap (λ (x : Fact). x.path.var) (sym e); rest = []; indices = ap (λ (x : Fact). x.path.at) (sym e) ∙ sym (append-nil p.at) }
  under p (list ts) f (inr i) = let w = within p 0 ts f i in record { variable = w.of_variable; rest = w.index ∷ w.beyond; indices = w.indices_of }

  within : (p : Path) (k : ℕ) (ts : Trees) (f : Fact) → In f (facts_of_items p k ts) → Within p k (k + length (items_of ts)) f
  within p k nil f i = absurd i
  within p k (cons t ts) f i =
      elim (in_append f (facts_at (item_path p k) t) (facts_of_items p (suc k) ts) i) [
        | inl j ↦ (let u = under (item_path p k) t f j in record { of_variable = u.variable; index = k; low = omega arith; high = omega arith; beyond = u.rest; indices_of = u.indices ∙ append_assoc p.at (k ∷ []) u.rest })
        | inr j ↦ (let w = within p (suc k) ts f j in
            let l : suc k ≤ w.index = w.low in
            let h : w.index < suc k + length (items_of ts) = w.high in
            record { of_variable = w.of_variable; index = w.index; low = omega arith; high = omega arith; beyond = w.beyond; indices_of = w.indices_of })
      ]

apart_indices : (a x y : List ℕ) (j k : ℕ) → j ≢ k → same_indices (a ++ j ∷ x) (a ++ k ∷ y) ≡ false
apart_indices [] x y j k h = and_left (eqb j k) (same_indices x y) (ne_eqb j k h)
apart_indices (i ∷ a) x y j k h = and_right (eqb i i) (same_indices (a ++ j ∷ x) (a ++ k ∷ y)) (apart_indices a x y j k h)

apart_leaves : (a x y : List ℕ) (sh : Shape) (j k : ℕ) → j ≢ k → leaves_out (a ++ j ∷ x) sh (a ++ k ∷ y) ≡ false
apart_leaves [] x y sh j k h = and_left (eqb j k) (leaves_out x sh y) (ne_eqb j k h)
apart_leaves (i ∷ a) x y sh j k h = and_right (eqb i i) (leaves_out (a ++ j ∷ x) sh (a ++ k ∷ y)) (apart_leaves a x y sh j k h)

item_leaves : (a y : List ℕ) (n k : ℕ) → k < n → leaves_out a (Items n) (a ++ k ∷ y) ≡ false
item_leaves [] y n k h = ap not (lt-ltb k n h)
item_leaves (i ∷ a) y n k h = and_right (eqb i i) (leaves_out a (Items n) (a ++ k ∷ y)) (item_leaves a y n k h)

-- facts of two items
items_apart : (p : Path) (k l m n : ℕ) (f g : Fact) → (u : Within p k l f) (w : Within p m n g) → u.index ≢ w.index → Apart f g
items_apart p k l m n f g u w h =
    let paths : same_indices g.path.at f.path.at ≡ false = ap₂ same_indices w.indices_of u.indices_of ∙ apart_indices p.at w.beyond u.beyond w.index u.index (λ e. h (sym e)) in
    let left : leaves_out g.path.at g.shape f.path.at ≡ false = ap₂ (λ a b. leaves_out a g.shape b) w.indices_of u.indices_of ∙ apart_leaves p.at w.beyond u.beyond g.shape w.index u.index (λ e. h (sym e)) in
    let right : leaves_out f.path.at f.shape g.path.at ≡ false = ap₂ (λ a b. leaves_out a f.shape b) u.indices_of w.indices_of ∙ apart_leaves p.at u.beyond w.beyond f.shape u.index w.index h in
    let path : same_path g.path f.path ≡ false = and_right (same_variable g.path.var f.path.var) (same_indices g.path.at f.path.at) paths in (
      path,
      or_from (same_path g.path f.path && not (same_shape g.shape f.shape)) (excludes g f.path || excludes f g.path)
          (and_left (same_path g.path f.path) (not (same_shape g.shape f.shape)) path)
          (or_from (excludes g f.path) (excludes f g.path)
          (and_right (same_variable g.path.var f.path.var) (leaves_out g.path.at g.shape f.path.at) left)
          (and_right (same_variable f.path.var g.path.var) (leaves_out f.path.at f.shape g.path.at) right)),
    )

-- a list's own fact and those of its items
head_apart : (p : Path) (n : ℕ) (g : Fact) → Within p 0 n g → Apart (fact p (Items n)) g
head_apart p n g w =
    let longer : length g.path.at ≡ length p.at + length (w.index ∷ w.beyond) = ap length w.indices_of ∙ length-append p.at (w.index ∷ w.beyond) in
    let paths : same_indices g.path.at p.at ≡ false = same_indices-other_length g.path.at p.at (λ e. let q : length g.path.at ≡ length p.at = e in omega arith) in
    let path : same_path g.path p ≡ false = and_right (same_variable g.path.var p.var) (same_indices g.path.at p.at) paths in
    let left : excludes g p ≡ false = excludes-own g p (omega arith) in
    let right : leaves_out p.at (Items n) g.path.at ≡ false = ap (leaves_out p.at (Items n)) w.indices_of ∙ item_leaves p.at w.beyond n w.index w.high in (
      path,
      or_from (same_path g.path p && not (same_shape g.shape (Items n))) (excludes g p || excludes (fact p (Items n)) g.path)
          (and_left (same_path g.path p) (not (same_shape g.shape (Items n))) path)
          (or_from (excludes g p) (excludes (fact p (Items n)) g.path) left (and_right (same_variable p.var g.path.var) (leaves_out p.at (Items n) g.path.at) right)),
    )

mutual
  pub value_apart : (p : Path) (t : Tree) → NoClash (facts_at p t)
  value_apart p (num n) = (refl, refl, tt)
  value_apart p (truth b) = (refl, refl, tt)
  value_apart p (list ts) =
      let n = length (items_of ts) in
      NoClash-append (fact p (Items n) ∷ []) (facts_of_items p 0 ts) (refl, refl, tt) (all_items_apart p 0 ts) (λ f g i j. elim i [
        | inl e ↦ (let P : Fact → Type 0 = λ x. Apart x g in
            let w = within p 0 ts g j in
            let h : w.index < 0 + n = w.high in
            subst P e (head_apart p n g (record { of_variable = w.of_variable; index = w.index; low = w.low; high = omega arith; beyond = w.beyond; indices_of = w.indices_of })))
        | inr b ↦ absurd b
      ])

  all_items_apart : (p : Path) (k : ℕ) (ts : Trees) → NoClash (facts_of_items p k ts)
  all_items_apart p k nil = tt
  all_items_apart p k (cons t ts) =
      NoClash-append (facts_at (item_path p k) t) (facts_of_items p (suc k) ts) (value_apart (item_path p k) t) (all_items_apart p (suc k) ts) (λ f g i j.
      let u = under (item_path p k) t f i in
      let v : Within p k (suc k) f = record { of_variable = u.variable; index = k; low = omega arith; high = omega arith; beyond = u.rest; indices_of = u.indices ∙ append_assoc p.at (k ∷ []) u.rest } in
      let w = within p (suc k) ts g j in
      let l : suc k ≤ w.index = w.low in
      items_apart p k (suc k) (suc k) (suc k + length (items_of ts)) f g v w (λ e. let q : k ≡ w.index = e in absurd (omega arith)))

pub value_of_variable : (p : Path) (t : Tree) → AreOf p.var (facts_at p t)
value_of_variable p t = of_from p.var (facts_at p t) (λ f i. (under p t f i).variable)
