use Rattle.std.proofs.Common.{◌≡◌, map, take, string_bytes}
use Rattle.tempura.proofs.texts_of.Given as goal

abbrev pub invariant-loop-word : goal.invariant-loop-word
invariant-loop-word l = l.texts.items ≡ map string_bytes (take l.word-index l.given)
