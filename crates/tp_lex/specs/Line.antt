-- Places on one line.
use Rattle.std.specs.Prelude.{◌≡◌, ℕ, ◌+◌, ◌==◌, false, List, [], ◌∷◌}
use Rattle.tp_lex.specs.declared.token.TextPlace.{TextPlace}

-- no line ends within the bytes
abbrev pub EndsNoLine : List ℕ → Type 0
EndsNoLine [] = Unit {0}
EndsNoLine (b ∷ z) = ((b == 10) ≡ false) × EndsNoLine z

-- the place behind so many bytes of the same line
abbrev pub place_along : TextPlace → ℕ → TextPlace
place_along p n = record { at = p.at + n; line = p.line; column = p.column + n }
