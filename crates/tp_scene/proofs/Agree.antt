-- Agreement with facts depends on which facts there are, and on the values of the variables below a number.
use Rattle.std.proofs.Common.{◌≡◌, ℕ, suc, ◌<◌, ◌≤◌, nat_lt, Bool, List, [], ◌∷◌, ◌++◌, length, slice_get, Some, refl, ap, sym, ◌∙◌, arith, if◌then◌else◌}
use Rattle.tp_value.specs.Tree.{Tree}
use Rattle.tp_value.specs.Shape.{shape_at_path}
use Rattle.tp_value.specs.declared.path.Path.{Path}
use Rattle.tp_value.specs.declared.path.Fact.{Fact}
use Rattle.tp_meaning.specs.Course.{Course}
use Rattle.tp_meaning.specs.Bindings.{Locals}
use Rattle.tp_store.specs.Facts.{kept_shape, AgreesWithAll}
use Rattle.tp_store.specs.Known.{AreOfVariables, Variable, NoClash}
use Rattle.tp_store.proofs.Members.{in_kept, kept_in, agrees_in, agrees_from}
use Rattle.tp_eval.specs.Right.{values_at}
use Rattle.tp_scene.specs.Fits.{kinds_in}
use Rattle.tp_scene.proofs.Below.{variable_below, kinds_length}
use Rattle.tp_scene.proofs.Carry.{Like}

-- a list without a clash, of which each path has the shape that other facts give it, is agreed with where those are
pub agrees_as_kept : (values : ℕ → Tree) (fs gs : List Fact) → NoClash fs → ((p : Path) → kept_shape fs p ≡ kept_shape gs p) → AgreesWithAll values gs → AgreesWithAll values fs
agrees_as_kept values fs gs apart same h = agrees_from values fs (λ f i. agrees_in values gs h _ (kept_in gs f.path f.shape (sym (same f.path) ∙ in_kept fs f apart i)))

pub agrees_append : (values : ℕ → Tree) (fs gs : List Fact) → AgreesWithAll values fs → AgreesWithAll values gs → AgreesWithAll values (fs ++ gs)
agrees_append values [] gs h k = k
agrees_append values (f ∷ fs) gs h k = (h.0, agrees_append values fs gs h.1 k)

pub agrees_parts : (values : ℕ → Tree) (fs gs : List Fact) → AgreesWithAll values (fs ++ gs) → AgreesWithAll values fs × AgreesWithAll values gs
agrees_parts values [] gs h = (tt, h)
agrees_parts values (f ∷ fs) gs h = let z = agrees_parts values fs gs h.1 in ((h.0, z.0), z.1)

-- each fact is of a variable below n
abbrev pub FactsBelow : ℕ → List Fact → Type 0
FactsBelow n [] = Unit {0}
FactsBelow n (f ∷ fs) = (f.path.var.number < n) × FactsBelow n fs

pub facts_below_length : (xs : List Variable) (fs : List Fact) → AreOfVariables xs fs → FactsBelow (length xs) fs
facts_below_length xs [] h = tt
facts_below_length xs (f ∷ fs) h =
    (let q = variable_below (kinds_in xs) f.path.var.number f.path.var.lasting h.0 in let k = kinds_length xs in omega (arith, q, k), facts_below_length xs fs h.1)

pub value_like : (globals n : ℕ) (s : Course) (σ τ : Locals) (a y : ℕ) → Like n σ τ → y < n → values_at globals s τ a y ≡ values_at globals s σ a y
value_like globals n s σ τ a y l b = λ i. if nat_lt y globals then (s a).values y else l y b i a

pub agrees_like : (globals n : ℕ) (fs : List Fact) (s : Course) (σ τ : Locals) (a : ℕ) → FactsBelow n fs → Like n σ τ → AgreesWithAll (values_at globals s σ a) fs → AgreesWithAll (values_at globals s τ a) fs
agrees_like globals n [] s σ τ a b l h = tt
agrees_like globals n (f ∷ fs) s σ τ a b l h = (ap (shape_at_path f.path.at) (value_like globals n s σ τ a f.path.var.number l b.0) ∙ h.0, agrees_like globals n fs s σ τ a b.1 l h.1)

-- the globals come first among a store's variables
pub shorter : (xs ys : List Bool) → ((i : ℕ) (b : Bool) → slice_get xs i ≡ Some b → slice_get ys i ≡ Some b) → length xs ≤ length ys
shorter [] ys h = omega arith
shorter (x ∷ xs) [] h = absurd (let e = h 0 x refl in cc)
shorter (x ∷ xs) (y ∷ ys) h = let q = shorter xs ys (λ i b e. h (suc i) b e) in omega (arith, q)
