use Rattle.std.proofs.Common.{◌≡◌, ◌≢◌, ◌<◌, ◌∙◌, sym, refl, length, slice_index, rules, arith}
use Rattle.std.proofs.lemmas.Grind.{common_steps}
use Rattle.tp_lex.specs.declared.token.Symbol.TheVariants as s
use Rattle.tp_lex.proofs.SpellingLemmas.{symbol_by_byte, single_symbol, no_symbol_byte, no_symbol_in}
use Rattle.tp_lex.proofs.spelling.first_symbol.Goals as goal

pub returns-then-is_empty : goal.returns-then-is_empty
returns-then-is_empty c = let none : length c.args.text.now ≡ 0 = first_of (search rules, grind (arith, common_steps)) in sym (no_symbol_in c.args.text.now none)

pub returns-in-60 : goal.returns-in-60
returns-in-60 c = c.symbol_among.ensures ∙ symbol_by_byte c.args.text.now 60 c.in-60.is

pub returns-in-62 : goal.returns-in-62
returns-in-62 c = c.symbol_among-in-62.ensures ∙ symbol_by_byte c.args.text.now 62 c.in-62.is

pub returns-in-58 : goal.returns-in-58
returns-in-58 c = c.symbol_among-in-58.ensures ∙ symbol_by_byte c.args.text.now 58 c.in-58.is

pub returns-in-40 : goal.returns-in-40
returns-in-40 c = let some : 0 < length c.args.text.now = first_of (search rules, grind (arith, common_steps)) in single_symbol c.args.text.now 40 s.OpenRound refl refl c.in-40.is some

pub returns-in-41 : goal.returns-in-41
returns-in-41 c = let some : 0 < length c.args.text.now = first_of (search rules, grind (arith, common_steps)) in single_symbol c.args.text.now 41 s.CloseRound refl refl c.in-41.is some

pub returns-in-123 : goal.returns-in-123
returns-in-123 c = let some : 0 < length c.args.text.now = first_of (search rules, grind (arith, common_steps)) in single_symbol c.args.text.now 123 s.OpenCurly refl refl c.in-123.is some

pub returns-in-125 : goal.returns-in-125
returns-in-125 c = let some : 0 < length c.args.text.now = first_of (search rules, grind (arith, common_steps)) in single_symbol c.args.text.now 125 s.CloseCurly refl refl c.in-125.is some

pub returns-in-91 : goal.returns-in-91
returns-in-91 c = let some : 0 < length c.args.text.now = first_of (search rules, grind (arith, common_steps)) in single_symbol c.args.text.now 91 s.OpenSquare refl refl c.in-91.is some

pub returns-in-93 : goal.returns-in-93
returns-in-93 c = let some : 0 < length c.args.text.now = first_of (search rules, grind (arith, common_steps)) in single_symbol c.args.text.now 93 s.CloseSquare refl refl c.in-93.is some

pub returns-in-61 : goal.returns-in-61
returns-in-61 c = let some : 0 < length c.args.text.now = first_of (search rules, grind (arith, common_steps)) in single_symbol c.args.text.now 61 s.Equal refl refl c.in-61.is some

pub returns-in-43 : goal.returns-in-43
returns-in-43 c = let some : 0 < length c.args.text.now = first_of (search rules, grind (arith, common_steps)) in single_symbol c.args.text.now 43 s.Plus refl refl c.in-43.is some

pub returns-in-45 : goal.returns-in-45
returns-in-45 c = let some : 0 < length c.args.text.now = first_of (search rules, grind (arith, common_steps)) in single_symbol c.args.text.now 45 s.Minus refl refl c.in-45.is some

pub returns-in-42 : goal.returns-in-42
returns-in-42 c = let some : 0 < length c.args.text.now = first_of (search rules, grind (arith, common_steps)) in single_symbol c.args.text.now 42 s.Times refl refl c.in-42.is some

pub returns-in-59 : goal.returns-in-59
returns-in-59 c = let some : 0 < length c.args.text.now = first_of (search rules, grind (arith, common_steps)) in single_symbol c.args.text.now 59 s.Semicolon refl refl c.in-59.is some

pub returns-in-44 : goal.returns-in-44
returns-in-44 c = let some : 0 < length c.args.text.now = first_of (search rules, grind (arith, common_steps)) in single_symbol c.args.text.now 44 s.Comma refl refl c.in-44.is some

pub returns-in-46 : goal.returns-in-46
returns-in-46 c = let some : 0 < length c.args.text.now = first_of (search rules, grind (arith, common_steps)) in single_symbol c.args.text.now 46 s.Stop refl refl c.in-46.is some

pub returns-in-124 : goal.returns-in-124
returns-in-124 c = let some : 0 < length c.args.text.now = first_of (search rules, grind (arith, common_steps)) in single_symbol c.args.text.now 124 s.Bar refl refl c.in-124.is some

pub returns-in_default : goal.returns-in_default
returns-in_default c =
    let n60 : slice_index c.args.text.now 0 ≢ 60 = first_of (search rules, grind (arith, common_steps)) in
    let n62 : slice_index c.args.text.now 0 ≢ 62 = first_of (search rules, grind (arith, common_steps)) in
    let n58 : slice_index c.args.text.now 0 ≢ 58 = first_of (search rules, grind (arith, common_steps)) in
    let n40 : slice_index c.args.text.now 0 ≢ 40 = first_of (search rules, grind (arith, common_steps)) in
    let n41 : slice_index c.args.text.now 0 ≢ 41 = first_of (search rules, grind (arith, common_steps)) in
    let n123 : slice_index c.args.text.now 0 ≢ 123 = first_of (search rules, grind (arith, common_steps)) in
    let n125 : slice_index c.args.text.now 0 ≢ 125 = first_of (search rules, grind (arith, common_steps)) in
    let n91 : slice_index c.args.text.now 0 ≢ 91 = first_of (search rules, grind (arith, common_steps)) in
    let n93 : slice_index c.args.text.now 0 ≢ 93 = first_of (search rules, grind (arith, common_steps)) in
    let n61 : slice_index c.args.text.now 0 ≢ 61 = first_of (search rules, grind (arith, common_steps)) in
    let n43 : slice_index c.args.text.now 0 ≢ 43 = first_of (search rules, grind (arith, common_steps)) in
    let n45 : slice_index c.args.text.now 0 ≢ 45 = first_of (search rules, grind (arith, common_steps)) in
    let n42 : slice_index c.args.text.now 0 ≢ 42 = first_of (search rules, grind (arith, common_steps)) in
    let n59 : slice_index c.args.text.now 0 ≢ 59 = first_of (search rules, grind (arith, common_steps)) in
    let n44 : slice_index c.args.text.now 0 ≢ 44 = first_of (search rules, grind (arith, common_steps)) in
    let n46 : slice_index c.args.text.now 0 ≢ 46 = first_of (search rules, grind (arith, common_steps)) in
    let n124 : slice_index c.args.text.now 0 ≢ 124 = first_of (search rules, grind (arith, common_steps)) in
    sym (no_symbol_byte c.args.text.now n60 n62 n58 n40 n41 n123 n125 n91 n93 n61 n43 n45 n42 n59 n44 n46 n124)
