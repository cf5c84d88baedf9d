use Rattle.std.proofs.Common.{◌≡◌, ℕ, ◌+◌, ◌<◌, ◌≤◌, ◌∙◌, ◌++◌, ◌∷◌, List, [], length, take, drop, arith, rules, subst, sym, ap, length-drop, length-take-le, ◌⊎◌, inl, inr}
use Rattle.std.proofs.lemmas.List.{take_rest}
use Rattle.std.proofs.lemmas.Grind.{common_steps}
use Rattle.tp_lex.specs.declared.piece.Piece.{Piece}
use Rattle.tp_lex.specs.declared.piece.Piece.TheVariants as v
use Rattle.tp_lex.specs.declared.token.Kind.{Kind}
use Rattle.tp_lex.specs.declared.token.Token.{Token}
use Rattle.tp_lex.specs.declared.token.TextPlace.{TextPlace}
use Rattle.tp_lex.specs.First.{first_piece}
use Rattle.tp_lex.specs.Pieces.{BeginsPiece}
use Rattle.tp_lex.specs.Place.{place_of, token_at}
use Rattle.tp_lex.specs.Line.{EndsNoLine}
use Rattle.tp_lex.specs.Tokens.{IsRefusedUnlessMemory}
use Rattle.tp_lex.proofs.PieceLemmas.{gap_takes, lexeme_takes, piece_found}
use Rattle.tp_lex.proofs.PlaceLemmas.{lexeme_line, Follows, followed, follows_along}
use Rattle.tp_lex.proofs.ReadingLemmas.{Continues, past_gap, past_lexeme, at_fault, at_end, place_behind, rest_later, refused_so}
use Rattle.tp_lex.proofs.BlankLemmas.{past_blanks}
use Rattle.tp_lex.proofs.reading.tokens.Goals as goal
use Rattle.tp_lex.proofs.reading.tokens.Goals.{in-Gap, in-Lexeme+in_ok-push-in-Lexeme}

pub token-requires : goal.token-requires
token-requires c =
    let e : v.Lexeme c.in-Lexeme.kind c.in-Lexeme.len ≡ first_piece c.loop-rest.rest.now = sym c.in-Lexeme.is ∙ c.in_ok-len.ensures in
    let found = piece_found c.loop-rest.rest.now _ (grind (arith, common_steps)) e in
    let left = ap length c.loop-rest.invariant.rest in
    omega (arith, length-drop c.loop-rest.place.at c.args.bytes.now)

pub returns-in-Refused-clause-refused : goal.returns-in-Refused-clause-refused
returns-in-Refused-clause-refused c =
    let e : v.Refused c.in-Refused.fault ≡ first_piece c.loop-rest.rest.now = sym c.in-Refused.is ∙ c.in_ok-len.ensures in
    let found = piece_found c.loop-rest.rest.now _ (grind (arith, common_steps)) e in
    let here : BeginsPiece (drop c.loop-rest.place.at c.args.bytes.now) (v.Refused c.in-Refused.fault) = subst (λ (z : List ℕ). BeginsPiece z (v.Refused c.in-Refused.fault)) c.loop-rest.invariant.rest found.0 in
    subst (IsRefusedUnlessMemory c.args.bytes.now) (sym c.refusal.ensures) (refused_so c.args.bytes.now c.in-Refused.fault c.loop-rest.place.at (at_fault c.args.bytes.now c.loop-rest.place.at c.in-Refused.fault c.loop-rest.found.items c.loop-rest.invariant.reads here))

pub slice_bounds-after-end-in-Gap : goal.slice_bounds-after-end-in-Gap
slice_bounds-after-end-in-Gap c =
    let rest : List ℕ = c.loop-rest.rest.now in
    let e : v.Gap c.in-Gap.len ≡ first_piece rest = sym c.in-Gap.is ∙ c.in_ok-len.ensures in
    let found = piece_found rest _ (grind (arith, common_steps)) e in
    omega (arith, length-take-le c.in-Gap.len rest found.1.1)

pub along-requires-clause-column : goal.along-requires-clause-column
along-requires-clause-column c =
    let e : v.Lexeme c.in-Lexeme.kind c.in-Lexeme.len ≡ first_piece c.loop-rest.rest.now = sym c.in-Lexeme.is ∙ c.in_ok-len.ensures in
    let found = piece_found c.loop-rest.rest.now _ (grind (arith, common_steps)) e in
    let left = ap length c.loop-rest.invariant.rest in
    let column = c.loop-rest.invariant.column in
    omega (arith, length-drop c.loop-rest.place.at c.args.bytes.now)

-- what is passed has some bytes, and no more than are left
some_bytes : (rest : List ℕ) (p : Piece) (len : ℕ) → 0 < length rest → p ≡ first_piece rest → (n : ℕ) → (p ≡ v.Gap n) ⊎ ((k : Kind) × (p ≡ v.Lexeme k n)) → len ≡ n → (0 < len) × (len ≤ length rest)
some_bytes rest p len full first n (inl gap) same = gap_takes _ _ _ _ (piece_found rest p full first).1 gap same
some_bytes rest p len full first n (inr lexeme) same = lexeme_takes _ _ _ _ _ (piece_found rest p full first).1 lexeme.1 same

passed : (c : goal.After-next-1) → (0 < c.match-branch-2.len.0) × (c.match-branch-2.len.0 ≤ length c.loop-rest.rest.now)
passed c = elim c.match-branch-2.branch [
  | in-Gap w ↦ some_bytes _ _ _ (grind (arith, common_steps)) c.in_ok-len.ensures _ (inl w.in-Gap.is) (ap (λ (x : ℕ × TextPlace). x.0) w.len-is)
  | in-Lexeme+in_ok-push-in-Lexeme w ↦ some_bytes _ _ _ (grind (arith, common_steps)) c.in_ok-len.ensures _ (inr (_, w.in-Lexeme.is)) (ap (λ (x : ℕ × TextPlace). x.0) w.len-is)
]

pub slice_bounds-rest-count-in-loop-rest : goal.slice_bounds-rest-count-in-loop-rest
slice_bounds-rest-count-in-loop-rest c = (passed c).1

pub slice_bounds-rest-start-in-loop-rest : goal.slice_bounds-rest-start-in-loop-rest
slice_bounds-rest-start-in-loop-rest c = let within = (passed c).1 in search rules

-- the same, where these bytes are cut off
taken : (c : goal.After-rest-in-loop-rest-1) → (0 < c.match-branch-2.len.0) × (c.match-branch-2.len.0 ≤ length c.loop-rest.rest.now)
taken c = elim c.match-branch-2.branch [
  | in-Gap w ↦ some_bytes _ _ _ (grind (arith, common_steps)) c.in_ok-len.ensures _ (inl w.in-Gap.is) (ap (λ (x : ℕ × TextPlace). x.0) w.len-is)
  | in-Lexeme+in_ok-push-in-Lexeme w ↦ some_bytes _ _ _ (grind (arith, common_steps)) c.in_ok-len.ensures _ (inr (_, w.in-Lexeme.is)) (ap (λ (x : ℕ × TextPlace). x.0) w.len-is)
]

pub loop-rest-preserved-then-blanks-gt0 : goal.loop-rest-preserved-then-blanks-gt0
loop-rest-preserved-then-blanks-gt0 c =
    let bytes : List ℕ = c.args.bytes.now in
    let at : ℕ = c.loop-rest.place.at in
    let rest : List ℕ = c.loop-rest.rest.now in
    let n : ℕ = c.blanks_len-blanks.result in
    let next : TextPlace = c.after-place.result in
    let within : n ≤ length rest = c.blanks_len-blanks.ensures.within in
    let place : next ≡ place_of bytes (at + n) = place_behind bytes rest c.loop-rest.place next n c.loop-rest.invariant.rest c.loop-rest.invariant.place c.after-place.ensures.place in
    let advanced : next.at ≡ at + n = omega (arith, c.after-place.ensures.at, length-take-le n rest within) in
    let left = ap length c.loop-rest.invariant.rest in
    let old : List Token = c.loop-rest.found.items in
    let more : Continues bytes (at + n) old = past_blanks bytes rest at n old c.loop-rest.invariant.rest c.loop-rest.invariant.reads c.blanks_len-blanks.ensures.value in
    record {
      within = omega (arith, length-drop at bytes);
      rest = rest_later bytes rest at n c.loop-rest.invariant.rest ∙ ap (λ (k : ℕ). drop k bytes) (sym advanced);
      place = place ∙ ap (place_of bytes) (sym advanced);
      line = c.after-place.ensures.line;
      column = c.after-place.ensures.column;
      reads = subst (λ (k : ℕ). Continues bytes k old) (sym advanced) more;
    }

pub loop-rest-smaller : goal.loop-rest-smaller
loop-rest-smaller c =
    let rest : List ℕ = c.loop-rest.rest.now in
    let len : ℕ = c.match-branch-2.len.0 in
    let some = taken c in
    omega (arith, some.0, some.1, length-drop len rest, ap length (take_rest rest len))

pub loop-rest-preserved : goal.loop-rest-preserved
loop-rest-preserved c =
    let rest : List ℕ = c.loop-rest.rest.now in
    let len : ℕ = c.match-branch-2.len.0 in
    let found = piece_found rest c.in_ok-len.field-0 (grind (arith, common_steps)) c.in_ok-len.ensures in
    let within : len ≤ length rest = (taken c).1 in
    let bytes : List ℕ = c.args.bytes.now in
    let at : ℕ = c.loop-rest.place.at in
    let left = ap length c.loop-rest.invariant.rest in
    let here : BeginsPiece (drop at bytes) c.in_ok-len.field-0 = subst (λ (z : List ℕ). BeginsPiece z c.in_ok-len.field-0) c.loop-rest.invariant.rest found.0 in
    let next : TextPlace = c.match-branch-2.len.1 in
    let stands : Follows c.loop-rest.place (take len rest) next = elim c.match-branch-2.branch [
      | in-Gap w ↦
          let after : Follows c.loop-rest.place (take w.in-Gap.len rest) w.after.result = record { place = w.after.ensures.place; at = w.after.ensures.at; line = w.after.ensures.line; column = w.after.ensures.column } in
          followed c.loop-rest.place rest len _ next _ (ap (λ (x : ℕ × TextPlace). x.0) w.len-is) (ap (λ (x : ℕ × TextPlace). x.1) w.len-is) after
      | in-Lexeme+in_ok-push-in-Lexeme w ↦
          let some : len ≡ w.in-Lexeme.len = ap (λ (x : ℕ × TextPlace). x.0) w.len-is in
          let one : EndsNoLine (take w.in-Lexeme.len rest) = lexeme_line rest w.in-Lexeme.kind w.in-Lexeme.len (subst (BeginsPiece rest) w.in-Lexeme.is found.0) in
          let along : Follows c.loop-rest.place (take w.in-Lexeme.len rest) w.along.result =
          follows_along c.loop-rest.place rest w.in-Lexeme.len w.along.result (omega (arith, within, some)) one c.loop-rest.invariant.line c.loop-rest.invariant.column w.along.ensures in
          followed c.loop-rest.place rest len _ next _ some (ap (λ (x : ℕ × TextPlace). x.1) w.len-is) along
    ] in
    let place : next ≡ place_of bytes (at + len) = place_behind bytes rest c.loop-rest.place next len c.loop-rest.invariant.rest c.loop-rest.invariant.place stands.place in
    let advanced : next.at ≡ at + len = omega (arith, stands.at, length-take-le len rest within) in
    let old : List Token = c.loop-rest.found.items in
    let new : List Token = c.match-branch-2.found.items in
    let so_far : Continues bytes at old = c.loop-rest.invariant.reads in
    let more : Continues bytes (at + len) new = elim c.match-branch-2.branch [
      | in-Gap w ↦
          let kept : new ≡ old = cc in
          past_gap bytes at w.in-Gap.len len c.in_ok-len.field-0 old new so_far here w.in-Gap.is (ap (λ (x : ℕ × TextPlace). x.0) w.len-is) kept
      | in-Lexeme+in_ok-push-in-Lexeme w ↦
          let pushed : new ≡ old ++ token_at w.in-Lexeme.kind w.in-Lexeme.len c.loop-rest.place ∷ [] =
          ap (λ v. v.items) w.found-is ∙ (w.in_ok-push-in-Lexeme.ensures.items ∙ ap (λ (q : Token). old ++ q ∷ []) w.token.ensures) in
          let longer : new ≡ old ++ token_at w.in-Lexeme.kind w.in-Lexeme.len (place_of bytes at) ∷ [] =
          pushed ∙ ap (λ (q : TextPlace). old ++ token_at w.in-Lexeme.kind w.in-Lexeme.len q ∷ []) c.loop-rest.invariant.place in
          past_lexeme bytes at w.in-Lexeme.len len w.in-Lexeme.kind c.in_ok-len.field-0 old new so_far here w.in-Lexeme.is (ap (λ (x : ℕ × TextPlace). x.0) w.len-is) longer
    ] in
    record {
      within = omega (arith, length-drop at bytes);
      rest = rest_later bytes rest at len c.loop-rest.invariant.rest ∙ ap (λ (n : ℕ). drop n bytes) (sym advanced);
      place = place ∙ ap (place_of bytes) (sym advanced);
      line = stands.line;
      column = stands.column;
      reads = subst (λ (k : ℕ). Continues bytes k c.match-branch-2.found.items) (sym advanced) more;
    }

pub returns-clause-tokens : goal.returns-clause-tokens
returns-clause-tokens c =
    let none : length c.loop-rest.rest.now ≡ 0 = grind (arith, common_steps) in
    let left = ap length c.loop-rest.invariant.rest in
    let end : c.loop-rest.place.at ≡ length c.args.bytes.now = omega (arith, length-drop c.loop-rest.place.at c.args.bytes.now) in
    at_end c.args.bytes.now c.loop-rest.place.at c.loop-rest.found.items c.loop-rest.invariant.reads end
