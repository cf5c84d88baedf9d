-- Tests of paths and shapes tell equal ones, and a clash goes both ways.
use Rattle.std.proofs.Common.{◌≡◌, ℕ, Bool, true, false, not, ◌&&◌, ◌||◌, List, [], ◌∷◌, refl, ap, ap₂, sym}
use Rattle.std.specs.Bool.{Decides}
use Rattle.std.proofs.lemmas.Bool.Decides.{Decides-eqb, Decides-int_eq, Decides-and, Decides-like, same_from_decides}
use Rattle.tp_value.specs.Tree.{same_truth}
use Rattle.tp_value.specs.declared.value.Shape.{Shape}
use Rattle.tp_value.specs.declared.value.Shape.TheVariants.{Num, Truth, Items}
use Rattle.tp_value.specs.declared.path.VarId.{VarId}
use Rattle.tp_value.specs.declared.path.Path.{Path}
use Rattle.tp_value.specs.declared.path.Fact.{Fact}
use Rattle.tp_store.specs.Facts.{same_variable, same_indices, same_path, same_shape, excludes, clash}

pub same_truth-decides : (a b : Bool) → Decides (same_truth a b) (a ≡ b)
same_truth-decides true true = (λ e. refl, λ e. refl)
same_truth-decides true false = (λ e. absurd (cc), λ e. absurd (cc))
same_truth-decides false true = (λ e. absurd (cc), λ e. absurd (cc))
same_truth-decides false false = (λ e. refl, λ e. refl)

pub same_variable-decides : (x y : VarId) → Decides (same_variable x y) (x ≡ y)
same_variable-decides x y =
    let make : ℕ → Bool → VarId = λ n b. record { number = n; lasting = b } in
    Decides-like (same_variable x y) (λ e. ap₂ make e.0 e.1) (λ e. (ap (λ (v : VarId). v.number) e, ap (λ (v : VarId). v.lasting) e))
    (Decides-and _ _ (Decides-eqb x.number y.number) (same_truth-decides x.lasting y.lasting))

pub same_indices-decides : (a b : List ℕ) → Decides (same_indices a b) (a ≡ b)
same_indices-decides [] [] = (λ e. refl, λ e. refl)
same_indices-decides [] (k ∷ ks) = (λ e. absurd (cc), λ e. absurd (cc))
same_indices-decides (j ∷ js) [] = (λ e. absurd (cc), λ e. absurd (cc))
same_indices-decides (j ∷ js) (k ∷ ks) =
    Decides-like (same_indices (j ∷ js) (k ∷ ks)) (λ e. ap₂ (λ x xs. x ∷ xs) e.0 e.1) (λ e. (cc, cc)) (Decides-and _ _ (Decides-eqb j k) (same_indices-decides js ks))

pub same_path-decides : (p q : Path) → Decides (same_path p q) (p ≡ q)
same_path-decides p q =
    let make : VarId → List ℕ → Path = λ x at. record { var = x; at = at } in
    Decides-like (same_path p q) (λ e. ap₂ make e.0 e.1) (λ e. (ap (λ (r : Path). r.var) e, ap (λ (r : Path). r.at) e))
    (Decides-and _ _ (same_variable-decides p.var q.var) (same_indices-decides p.at q.at))

pub same_shape-decides : (a b : Shape) → Decides (same_shape a b) (a ≡ b)
same_shape-decides (Num m) (Num n) = Decides-like (same_shape (Num m) (Num n)) (λ e. ap Num e) (λ e. cc) (Decides-int_eq m n)
same_shape-decides (Truth a) (Truth b) = Decides-like (same_shape (Truth a) (Truth b)) (λ e. ap Truth e) (λ e. cc) (same_truth-decides a b)
same_shape-decides (Items m) (Items n) = Decides-like (same_shape (Items m) (Items n)) (λ e. ap Items e) (λ e. cc) (Decides-eqb m n)
same_shape-decides (Num m) (Truth b) = (λ e. absurd (cc), λ e. absurd (cc))
same_shape-decides (Num m) (Items n) = (λ e. absurd (cc), λ e. absurd (cc))
same_shape-decides (Truth a) (Num n) = (λ e. absurd (cc), λ e. absurd (cc))
same_shape-decides (Truth a) (Items n) = (λ e. absurd (cc), λ e. absurd (cc))
same_shape-decides (Items m) (Num n) = (λ e. absurd (cc), λ e. absurd (cc))
same_shape-decides (Items m) (Truth b) = (λ e. absurd (cc), λ e. absurd (cc))

-- a fact of a path and a shape
pub fact_from : (f g : Fact) → f.path ≡ g.path → f.shape ≡ g.shape → f ≡ g
fact_from f g e h = let make : Path → Shape → Fact = λ p sh. record { path = p; shape = sh } in ap₂ make e h

pub same_path-refl : (p : Path) → same_path p p ≡ true
same_path-refl p = (same_path-decides p p).1 refl

pub same_path-sym : (p q : Path) → same_path p q ≡ same_path q p
same_path-sym p q = same_from_decides (same_path p q) (same_path q p) (same_path-decides p q) (Decides-like (same_path q p) (λ e. sym e) (λ e. sym e) (same_path-decides q p))

pub same_shape-sym : (a b : Shape) → same_shape a b ≡ same_shape b a
same_shape-sym a b = same_from_decides (same_shape a b) (same_shape b a) (same_shape-decides a b) (Decides-like (same_shape b a) (λ e. sym e) (λ e. sym e) (same_shape-decides b a))

or_comm : (a b : Bool) → (a || b) ≡ (b || a)
or_comm true true = refl
or_comm true false = refl
or_comm false true = refl
or_comm false false = refl

pub clash-sym : (f g : Fact) → clash f g ≡ clash g f
clash-sym f g =
    ap₂ (λ a b. a || b)
    (ap₂ (λ a b. a && not b) (same_path-sym f.path g.path) (same_shape-sym f.shape g.shape))
    (or_comm (excludes f g.path) (excludes g f.path))
