-- The text of a settled state, and what of its variables is told there.
use Rattle.std.specs.Prelude.{ℕ, Bool, true, false, nat_lt, eqb, ◌&&◌, ◌||◌, List, [], ◌∷◌, ◌++◌, length, All, IsTrue, Option, None, Some, if◌then◌else◌, codes, map, ◌≢◌}
use Rattle.std.specs.List.{starts_with, flat_map}
use Rattle.std.specs.Fmt.{decimal}
use Rattle.tp_value.specs.Tree.{Tree, num, truth}
use Rattle.tp_value.specs.Written.{text_of}
use Rattle.tp_value.specs.declared.path.Path.{Path}
use Rattle.tp_value.specs.declared.path.Fact.{Fact}
use Rattle.tp_value.specs.declared.value.Shape.{Shape}
use Rattle.tp_value.specs.declared.value.Shape.TheVariants.{Num, Truth, Items}
use Rattle.tp_store.specs.Facts.{same_variable}
use Rattle.tp_store.specs.Known.{Full, absent, undecided, too_long, value, full, is_lesser}
use Rattle.tp_show.specs.Texts.{path_text}
use Rattle.tp_value.specs.Read.{tree}
use Rattle.tp_show.specs.declared.line_part.LinePart.{LinePart}
use Rattle.tp_show.specs.declared.line_part.LinePart.TheVariants.{Value, Length}
use Rattle.tp_show.specs.declared.line_part.LineParts.{LineParts}
use Rattle.tp_decide.specs.Read.{shows_of}
use Rattle.tp_show.specs.declared.turn.Picture.{Picture}

-- ---- what is known of the variables, in parts: whole values, and lengths of lists of which not
-- all is known

-- a fact is before another: its variable's number is less, or it is of the same variable, and its
-- indices are a part of the other's from the start, or less where they first differ
abbrev pub is_before : Fact → Fact → Bool
is_before f g =
    let m = f.path.var.number in
    let n = g.path.var.number in
    nat_lt m n || (eqb m n && is_lesser f.path.at g.path.at)

-- in the order of the variables, and of one variable a list before its items, and these in order
abbrev pub AreInOrder : List Fact → Type 0
AreInOrder [] = Unit {0}
AreInOrder (f ∷ fs) = All (λ g. IsTrue (is_before f g)) fs × AreInOrder fs

-- the indices begin with these, and go on
abbrev pub is_deeper : (from at : List ℕ) → Bool
is_deeper from at = nat_lt (length from) (length at) && starts_with eqb at from

-- the path is that of something inside of what stands at the outer path
abbrev pub is_inside : (outer path : Path) → Bool
is_inside outer path = same_variable outer.var path.var && is_deeper outer.at path.at

-- it is inside of the last value that was told
abbrev pub is_written : (last : Option Path) → Path → Bool
is_written None path = false
is_written (Some outer) path = is_inside outer path

abbrev pub is_value : Full → Bool
is_value absent = false
is_value (undecided p) = false
is_value too_long = false
is_value (value t) = true

-- a place with its whole value, or a list with its length alone
pub data LinePartTree : Type 0 where
  valued : Path → Tree → LinePartTree
  measured : Path → ℕ → LinePartTree

abbrev pub shape_part : Path → Shape → LinePartTree
shape_part p (Num n) = valued p (num n)
shape_part p (Truth b) = valued p (truth b)
shape_part p (Items n) = measured p n

-- The whole value at a fact's path, where it is known and within the limits on lists; else the
-- fact, which is then the length of a list.
abbrev pub known_part : Fact → Full → LinePartTree
known_part f absent = shape_part f.path f.shape
known_part f (undecided p) = shape_part f.path f.shape
known_part f too_long = shape_part f.path f.shape
known_part f (value t) = valued f.path t

-- What facts come to, where this is known of paths, after the value at `last`: a fact inside of
-- that value makes no part, and each other one makes one.
abbrev pub parts_by : (known : Path → Full) → (last : Option Path) → List Fact → List LinePartTree
parts_by known last [] = []
parts_by known last (f ∷ fs) =
    if is_written last f.path then parts_by known last fs
    else known_part f (known f.path)
    ∷ parts_by known (if is_value (known f.path) then Some f.path else last) fs

-- What is known of the variables, in order: of each its value, or, where this isn't wholly known,
-- what is known of it.
abbrev pub line_parts : List Fact → List LinePartTree
line_parts facts = parts_by (full facts) None facts

-- a value as A=1, the length of a list as |L|=2
abbrev pub part_text : (names : List (List ℕ)) → LinePartTree → List ℕ
part_text names (valued p t) = path_text names p ++ (codes "=" ++ text_of t)
part_text names (measured p n) = codes "|" ++ path_text names p ++ codes "|=" ++ decimal n

-- a part stands after a space
abbrev pub spaced_text : (names : List (List ℕ)) → LinePartTree → List ℕ
spaced_text names part = codes " " ++ part_text names part

-- the plain parts that the parts of a picture stand for
abbrev pub plain_part : LinePart → LinePartTree
plain_part (Value path v) = valued path (tree v)
plain_part (Length path n) = measured path n

abbrev pub plain_parts : LineParts → List LinePartTree
plain_parts ps = map plain_part ps.items.items

-- ---- the text

-- What the text of a state tells: its number, the parts of its line, and the lists of values that
-- are shown.
pub record ToldState : Type 0 where
  pub state : ℕ
  pub parts : List LinePartTree
  pub shows : List (List Tree)

-- the state's number and its parts, as state 3: A=1 |L|=2
abbrev pub state_line : (names : List (List ℕ)) → ToldState → List ℕ
state_line names told =
    codes "state " ++ decimal told.state ++ codes ":" ++ flat_map (spaced_text names) told.parts
    ++ codes "\n"

-- a value after a space
abbrev pub shown_value : Tree → List ℕ
shown_value t = codes " " ++ text_of t

-- a list of values that is shown, as show 1 true
abbrev pub show_line : List Tree → List ℕ
show_line ts = codes "show" ++ flat_map shown_value ts ++ codes "\n"

-- the state's line, and then a line for each list that is shown
abbrev pub told_lines : (names : List (List ℕ)) → ToldState → List ℕ
told_lines names told = state_line names told ++ flat_map show_line told.shows

-- of several states
abbrev pub told_text : (names : List (List ℕ)) → List ToldState → List ℕ
told_text names told = flat_map (told_lines names) told

-- what is told of a picture: its number, what its facts come to, and what it shows
abbrev pub told_of : Picture → ToldState
told_of picture =
    record {
      state = picture.state;
      parts = line_parts picture.facts;
      shows = shows_of picture.shows;
    }

-- the text of a settled state
abbrev pub picture_lines : (names : List (List ℕ)) → Picture → List ℕ
picture_lines names picture = told_lines names (told_of picture)

-- no byte is a line feed
abbrev pub IsOneLine : List ℕ → Type 0
IsOneLine text = All (λ b. b ≢ 10) text

-- a line with its line feed
abbrev pub fed_line : List ℕ → List ℕ
fed_line line = line ++ codes "\n"
