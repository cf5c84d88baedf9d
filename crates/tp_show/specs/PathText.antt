-- What is written before and behind a path.
use Rattle.std.specs.Prelude.{ℕ, List, [], ◌++◌, codes}
use Rattle.std.specs.Fmt.{decimal, signed_decimal}
use Rattle.tp_value.specs.declared.value.Shape.{Shape}
use Rattle.tp_value.specs.declared.value.Shape.TheVariants.{Num, Truth, Items}
use Rattle.tp_show.specs.Texts.{truth_text}

-- what stands before and behind the path
abbrev pub opening_text : Shape → List ℕ
opening_text (Num n) = []
opening_text (Truth b) = []
opening_text (Items n) = codes "|"

abbrev pub closing_text : Shape → List ℕ
closing_text (Num n) = codes "=" ++ signed_decimal n
closing_text (Truth b) = codes "=" ++ truth_text b
closing_text (Items n) = codes "|=" ++ decimal n
