-- The words of an end line stand on one line.
use Rattle.std.proofs.Common.{◌≡◌, ◌≢◌, ℕ, zero, suc, ltb, Bool, true, false, not, cond, ◌==◌, ◌&&◌, List, [], ◌∷◌, ◌++◌, length, slice_get, unwrap_or, All, Some, None, codes, refl, sym, ◌∙◌, subst}
use Rattle.std.specs.List.{flat_map}
use Rattle.std.specs.Fmt.{decimal, signed_decimal}
use Rattle.std.proofs.lemmas.Bool.{and_parts}
use Rattle.std.proofs.lemmas.List.Elements.{All-nil, All-cons, All-head, All-tail, All-append}
use Rattle.tp_value.specs.Tree.{same_truth}
use Rattle.tp_value.specs.declared.path.VarId.{VarId}
use Rattle.tp_value.specs.declared.path.Path.{Path}
use Rattle.tp_value.specs.declared.path.Fact.{Fact}
use Rattle.tp_value.specs.declared.value.Shape.{Shape}
use Rattle.tp_value.specs.declared.value.Shape.TheVariants.{Num, Truth, Items}
use Rattle.tp_store.specs.Known.{Variable, name_where, name_of}
use Rattle.tp_kernel.specs.declared.fault.FaultKind.{FaultKind}
use Rattle.tp_kernel.specs.declared.fault.FaultKind.TheVariants.{WrongKind, ZeroDivisor, NoElement}
use Rattle.tp_kernel.specs.declared.fault.LimitKind.{LimitKind}
use Rattle.tp_kernel.specs.declared.fault.LimitKind.TheVariants as limit
use Rattle.tp_scene.specs.declared.answer.Cell.{Cell}
use Rattle.tp_scene.specs.declared.answer.Cell.TheVariants.{Part, End}
use Rattle.tp_scene.specs.declared.answer.Clash.{Clash}
use Rattle.tp_scene.specs.declared.answer.Clash.TheVariants.{Facts, Marks, False, NoValue}
use Rattle.tp_show.specs.declared.turn.Turn.{Turn}
use Rattle.tp_show.specs.declared.turn.Turn.TheVariants.{Went, Finished, Contradictory, Undetermined, StateLimit, InputMissing, Over}
use Rattle.tp_show.specs.Texts.{global_name, index_text, shaped_text, variable_text, variable_path_text, variable_fact_text, cell_text, comes_first, pair_text, fault_text, clash_text, state_text, limit_text, last_words}
use Rattle.tp_show.specs.Trace.{IsVariableName}
use Rattle.tp_show.specs.TraceOfRun.{AreVariableNames, NamesPortOnOneLine, HasNameOnOneLine, EndLinesAreOneLine}
use Rattle.tp_show.specs.Line.{IsOneLine}
use Rattle.tp_show.proofs.PrintedBytes.{decimal_plain, signed_plain, name_plain, indices_plain}
use Rattle.tp_show.proofs.PrintedLines.{plain_one}

-- ---- pieces

abbrev lacks_feed : List ℕ → Bool
lacks_feed [] = true
lacks_feed (b ∷ z) = not (b == 10) && lacks_feed z

-- words that are written out
words_one : (z : List ℕ) → lacks_feed z ≡ true → IsOneLine z
words_one [] h = All-nil (λ b. b ≢ 10)
words_one (b ∷ z) h =
    let both = and_parts (not (b == 10)) (lacks_feed z) h in
    All-cons (λ c. c ≢ 10) b z (λ e. let bad : not (b == 10) ≡ false = subst (λ (x : ℕ). not (x == 10) ≡ false) (sym e) refl in absurd (cc (sym both.0 ∙ bad))) (words_one z both.1)

joined : (xs ys : List ℕ) → IsOneLine xs → IsOneLine ys → IsOneLine (xs ++ ys)
joined xs ys h k = All-append (λ b. b ≢ 10) xs ys h k

decimal_one : (n : ℕ) → IsOneLine (decimal n)
decimal_one n = plain_one (decimal n) (decimal_plain n)

state_one : (word : List ℕ) (state : ℕ) → IsOneLine word → IsOneLine (state_text word state)
state_one word state h = joined (word ++ codes ": state ") (decimal state) (joined word (codes ": state ") h (words_one (codes ": state ") refl)) (decimal_one state)

shaped_one : (path : List ℕ) (shape : Shape) → IsOneLine path → IsOneLine (shaped_text path shape)
shaped_one path (Num n) h = joined (path ++ codes "=") (signed_decimal n) (joined path (codes "=") h (words_one (codes "=") refl)) (plain_one (signed_decimal n) (signed_plain n))
shaped_one path (Truth true) h = joined (path ++ codes "=") (codes "true") (joined path (codes "=") h (words_one (codes "=") refl)) (words_one (codes "true") refl)
shaped_one path (Truth false) h = joined (path ++ codes "=") (codes "false") (joined path (codes "=") h (words_one (codes "=") refl)) (words_one (codes "false") refl)
shaped_one path (Items n) h =
    joined ((codes "|" ++ path) ++ codes "|=") (decimal n) (joined (codes "|" ++ path) (codes "|=") (joined (codes "|") path (words_one (codes "|") refl) h) (words_one (codes "|=") refl)) (decimal_one n)

fault_one : (fault : FaultKind) → IsOneLine (fault_text fault)
fault_one WrongKind = words_one (codes "wrong kind") refl
fault_one ZeroDivisor = words_one (codes "zero divisor") refl
fault_one NoElement = words_one (codes "no element") refl

-- ---- names

global_one : (names : List (List ℕ)) → All IsVariableName names → (i : ℕ) → IsOneLine (global_name names i)
global_one [] h i = All-nil (λ b. b ≢ 10)
global_one (name ∷ names) h zero = plain_one name (name_plain name (All-head IsVariableName name names h).bytes)
global_one (name ∷ names) h (suc i) = global_one names (All-tail IsVariableName name names h) i

known_one : (known : List Variable) → All HasNameOnOneLine known → (lasting : Bool) (i : ℕ) → IsOneLine (unwrap_or (name_where lasting (slice_get known i)) [])
known_one [] h lasting i = All-nil (λ b. b ≢ 10)
known_one (v ∷ known) h lasting zero = by (same_truth v.lasting lasting)
  where
    by : (c : Bool) → IsOneLine (unwrap_or (cond c (Some v.name) None) [])
    by true = All-head HasNameOnOneLine v known h
    by false = All-nil (λ b. b ≢ 10)
known_one (v ∷ known) h lasting (suc i) = known_one known (All-tail HasNameOnOneLine v known h) lasting i

module _ (names : List (List ℕ)) (are : AreVariableNames names) (known : List Variable) (one : All HasNameOnOneLine known) where
  variable_one : (x : VarId) → IsOneLine (variable_text names known x)
  variable_one x = by (ltb x.number (length names))
    where
      by : (c : Bool) → IsOneLine (cond c (global_name names x.number) (codes "local " ++ unwrap_or (name_of known x) []))
      by true = global_one names are.each x.number
      by false = joined (codes "local ") (unwrap_or (name_of known x) []) (words_one (codes "local ") refl) (known_one known one x.lasting x.number)

  path_one : (path : Path) → IsOneLine (variable_path_text names known path)
  path_one path = joined (variable_text names known path.var) (flat_map index_text path.at) (variable_one path.var) (plain_one (flat_map index_text path.at) (indices_plain path.at))

  fact_one : (f : Fact) → IsOneLine (variable_fact_text names known f)
  fact_one f = shaped_one (variable_path_text names known f.path) f.shape (path_one f.path)

  cell_one : (cell : Cell) → IsOneLine (cell_text names known cell)
  cell_one (Part path) = path_one path
  cell_one (End region depth) = joined (codes "end at depth ") (decimal depth) (words_one (codes "end at depth ") refl) (decimal_one depth)

  pair_one : (a b : Fact) → IsOneLine (pair_text (variable_fact_text names known a) (variable_fact_text names known b))
  pair_one a b =
      let first = variable_fact_text names known a in
      joined (first ++ codes " and ") (variable_fact_text names known b) (joined first (codes " and ") (fact_one a) (words_one (codes " and ") refl)) (fact_one b)

  clash_one : (clash : Clash) → IsOneLine (clash_text names known clash)
  clash_one (Facts a b) = by (comes_first a b)
    where
      by : (c : Bool) → IsOneLine (cond c (pair_text (variable_fact_text names known a) (variable_fact_text names known b)) (pair_text (variable_fact_text names known b) (variable_fact_text names known a)))
      by true = pair_one a b
      by false = pair_one b a
  clash_one (Marks depth) = joined (codes "ends and goes on at depth ") (decimal depth) (words_one (codes "ends and goes on at depth ") refl) (decimal_one depth)
  clash_one False = words_one (codes "false") refl
  clash_one (NoValue fault) = joined (codes "no value: ") (fault_text fault) (words_one (codes "no value: ") refl) (fault_one fault)

  limit_one : (reductions state : ℕ) (kind : LimitKind) → IsOneLine (limit_text reductions state kind)
  limit_one reductions state limit.Reductions =
      let begun = state_text (codes "reduction limit") state in
      let count = codes ": " ++ decimal reductions in
      joined (begun ++ count) (codes " reductions")
      (joined begun count (state_one (codes "reduction limit") state (words_one (codes "reduction limit") refl)) (joined (codes ": ") (decimal reductions) (words_one (codes ": ") refl) (decimal_one reductions)))
      (words_one (codes " reductions") refl)
  limit_one reductions state limit.Number = state_one (codes "number limit") state (words_one (codes "number limit") refl)
  limit_one reductions state limit.List = state_one (codes "list limit") state (words_one (codes "list limit") refl)
  limit_one reductions state limit.Calls = state_one (codes "call limit") state (words_one (codes "call limit") refl)
  limit_one reductions state limit.Nest = state_one (codes "nest limit") state (words_one (codes "nest limit") refl)

  -- a state, `: ` and more
  told_one : (word : List ℕ) (state : ℕ) (more : List ℕ) → IsOneLine word → IsOneLine more → IsOneLine (state_text word state ++ codes ": " ++ more)
  told_one word state more h k = joined (state_text word state ++ codes ": ") more (joined (state_text word state) (codes ": ") (state_one word state h) (words_one (codes ": ") refl)) k

  words_of : (reductions : ℕ) (turn : Turn) → NamesPortOnOneLine turn → IsOneLine (last_words names known reductions turn)
  words_of reductions Went h = All-nil (λ b. b ≢ 10)
  words_of reductions (Finished length) h = joined (codes "finished: length ") (decimal length) (words_one (codes "finished: length ") refl) (decimal_one length)
  words_of reductions (Contradictory state clash) h = told_one (codes "contradictory") state (clash_text names known clash) (words_one (codes "contradictory") refl) (clash_one clash)
  words_of reductions (Undetermined state cell) h = told_one (codes "undetermined") state (cell_text names known cell) (words_one (codes "undetermined") refl) (cell_one cell)
  words_of reductions (StateLimit states) h = joined (codes "state limit: ") (decimal states) (words_one (codes "state limit: ") refl) (decimal_one states)
  words_of reductions (InputMissing state port) h =
      let begun = state_text (codes "input missing") state in
      joined (begun ++ codes ": port ") port (joined begun (codes ": port ") (state_one (codes "input missing") state (words_one (codes "input missing") refl)) (words_one (codes ": port ") refl)) h
  words_of reductions (Over state kind) h = limit_one reductions state kind

pub end_lines : EndLinesAreOneLine
end_lines names are known one reductions turn port = words_of names are known one reductions turn port
