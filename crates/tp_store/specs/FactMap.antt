-- Facts that are kept together.
use Rattle.std.specs.Prelude.{◌≡◌, ℕ, Bool, true, false, not, ◌&&◌, eqb, nat_lt, List, [], ◌∷◌, filter, take, Option, Some, None}
use Rattle.tp_value.specs.declared.value.Shape.{Shape}
use Rattle.tp_value.specs.declared.path.VarId.{VarId}
use Rattle.tp_value.specs.declared.path.Path.{Path}
use Rattle.tp_value.specs.declared.path.Fact.{Fact}
use Rattle.tp_value.specs.declared.value.Shape.TheVariants.{Num, Truth, Items}
use Rattle.tp_store.specs.Facts.{has_item, kept_shape, same_variable}
use Rattle.tp_store.specs.Known.{first_clash}
use Rattle.tp_store.specs.declared.copies.AskedVariables.{AskedVariables}
use Rattle.tp_store.specs.declared.copies.AskedVariables.TheVariants.{Below, Of}

-- a shape is there, and has no item with this index
abbrev pub lacks_item : Option Shape → ℕ → Bool
lacks_item None k = false
lacks_item (Some sh) k = not (has_item sh k)

-- an index is there, for which the shape has no item
abbrev pub has_no_item : Shape → Option ℕ → Bool
has_no_item sh None = false
has_no_item sh (Some k) = not (has_item sh k)

-- the path of its first indices, of so many
abbrev pub outer_path : Path → ℕ → Path
outer_path p n = record { var = p.var; at = take n p.at }

-- the shape of a number or of a truth
abbrev pub IsNumberOrTruth : Option Shape → Type 0
IsNumberOrTruth None = ⊥
IsNumberOrTruth (Some (Num n)) = Unit {0}
IsNumberOrTruth (Some (Truth b)) = Unit {0}
IsNumberOrTruth (Some (Items n)) = ⊥

-- each fact is of this variable
abbrev pub AreOf : VarId → List Fact → Type 0
AreOf x [] = Unit {0}
AreOf x (f ∷ fs) = (f.path.var ≡ x) × AreOf x fs

-- each fact is of a static variable, or of a state variable
abbrev pub AreOfKind : (lasting : Bool) → List Fact → Type 0
AreOfKind b [] = Unit {0}
AreOfKind b (f ∷ fs) = (f.path.var.lasting ≡ b) × AreOfKind b fs

-- Facts of variables of one kind; the room that there is for more, as a store has it; and a number
-- below which each variable has a place.
pub record FactsOfKind : Type 0 where
  pub lasting : Bool
  pub facts : List Fact
  pub spare : ℕ
  pub placed : ℕ

-- The fact's path has no shape yet, and no kept fact clashes with it.
pub record IsNewFact (kept : List Fact) (f : Fact) : Type 0 where
  pub none : kept_shape kept f.path ≡ None
  pub apart : first_clash kept f ≡ None

-- the variables whose facts are asked for: those below a number, or that with one
abbrev pub is_among : AskedVariables → ℕ → Bool
is_among (Below n) k = nat_lt k n
is_among (Of n) k = eqb k n

abbrev pub facts_asked : AskedVariables → List Fact → List Fact
facts_asked which = filter (λ f. is_among which f.path.var.number)

-- the second indices are the first ones, or go on from them
abbrev pub go_on_from : (first second : List ℕ) → Bool
go_on_from [] ks = true
go_on_from (j ∷ js) [] = false
go_on_from (j ∷ js) (k ∷ ks) = eqb j k && go_on_from js ks

-- the path is the outer one, or one of something inside of what stands there
abbrev pub is_at_or_inside : (outer path : Path) → Bool
is_at_or_inside outer path = same_variable outer.var path.var && go_on_from outer.at path.at

-- the facts of what stands at a path, and of all inside of it
abbrev pub facts_from : Path → List Fact → List Fact
facts_from p = filter (λ f. is_at_or_inside p f.path)
