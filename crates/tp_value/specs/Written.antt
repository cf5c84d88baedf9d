-- How a value is written.
use Rattle.std.specs.Prelude.{ℕ, true, false, List, [], ◌++◌, codes}
use Rattle.std.specs.Fmt.{signed_decimal}
use Rattle.tp_value.specs.Tree.{Tree, Trees, num, truth, list, nil, cons}

-- A number in decimal, `true`, `false`, or the items of a list in `<` and `>`, with a comma between
-- each two and no blanks.
abbrev mutual
  pub text_of : Tree → List ℕ
  text_of (num n) = signed_decimal n
  text_of (truth true) = codes "true"
  text_of (truth false) = codes "false"
  text_of (list ts) = codes "<" ++ (items_text ts ++ codes ">")

  -- the items of a list
  pub items_text : Trees → List ℕ
  items_text nil = []
  items_text (cons t ts) = text_of t ++ later_text ts

  -- the items that follow another one
  pub later_text : Trees → List ℕ
  later_text nil = []
  later_text (cons t ts) = codes "," ++ (text_of t ++ later_text ts)
