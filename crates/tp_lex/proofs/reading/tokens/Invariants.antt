use Rattle.std.proofs.Common.{◌≡◌, ◌+◌, ◌≤◌, ◌++◌, List, length, drop}
use Rattle.tp_lex.specs.declared.token.Token.{Token}
use Rattle.tp_lex.specs.Tokens.{ReadsTokens, ReadingEnd}
use Rattle.tp_lex.specs.Place.{place_of}
use Rattle.tp_lex.proofs.reading.tokens.Given as goal

-- what the rest reads as stands behind what was found
abbrev pub invariant-loop-rest : goal.invariant-loop-rest
invariant-loop-rest l = record {
  within : l.place.at ≤ length l.bytes;
  rest : l.rest ≡ drop l.place.at l.bytes;
  place : l.place ≡ place_of l.bytes l.place.at;
  line : l.place.line ≤ l.place.at + 1;
  column : l.place.column ≤ l.place.at + 1;
  reads : (ts : List Token) (end : ReadingEnd) → ReadsTokens l.bytes l.place.at ts end → ReadsTokens l.bytes 0 (l.found.items ++ ts) end;
}

abbrev pub decreases-loop-rest : goal.decreases-loop-rest
decreases-loop-rest l = length l.rest
