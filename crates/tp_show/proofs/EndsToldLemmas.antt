-- One end line is that of ends told alike.
use Rattle.std.proofs.Common.{◌≡◌, ℕ, Bool, eqb, true, false, cond, ◌==◌, List, [], ◌∷◌, ◌++◌, drop, codes, refl, sym, ap, ◌∙◌, subst, append_assoc}
use Rattle.std.specs.Fmt.{decimal}
use Rattle.std.proofs.lemmas.List.{append_cancel_right}
use Rattle.tp_value.specs.declared.path.Path.{Path}
use Rattle.tp_value.specs.declared.path.Fact.{Fact}
use Rattle.tp_store.specs.Known.{Variable}
use Rattle.tp_kernel.specs.declared.fault.FaultKind.{FaultKind}
use Rattle.tp_kernel.specs.declared.fault.FaultKind.TheVariants.{WrongKind, ZeroDivisor, NoElement}
use Rattle.tp_kernel.specs.declared.fault.LimitKind.{LimitKind}
use Rattle.tp_kernel.specs.declared.fault.LimitKind.TheVariants as limit
use Rattle.tp_scene.specs.declared.answer.Cell.{Cell}
use Rattle.tp_scene.specs.declared.answer.Cell.TheVariants.{Part, End}
use Rattle.tp_scene.specs.declared.answer.Clash.{Clash}
use Rattle.tp_scene.specs.declared.answer.Clash.TheVariants.{Facts, Marks, False, NoValue}
use Rattle.tp_show.specs.declared.turn.Turn.{Turn}
use Rattle.tp_show.specs.declared.turn.Turn.TheVariants.{Went, Finished, Contradictory, Undetermined, StateLimit, InputMissing, Over}
use Rattle.tp_show.specs.Texts.{variable_fact_text, cell_text, comes_first, pair_text, fault_text, clash_text, limit_text, end_line}
use Rattle.tp_show.specs.Told.{is_word_byte, IsWord, AreNames, FitsIn64Bits}
use Rattle.tp_show.specs.EndsTold.{AreStoreVariables, IsFactOf, IsCellOf, IsClashOf, IsTurnOf, FactsToldAlike, CellsToldAlike, part, end, ClashesToldAlike, in_order, turned, marks, is_false, no_value, EndsToldAlike, went, finished, contradictory, undetermined, state_limit, input_missing, over, IsAtReductions, EndLinesTell}
use Rattle.tp_show.proofs.ReadWordLemmas.{heads_apart}
use Rattle.tp_show.proofs.EndPlaces.{number_read, place_read, place_apart, fact_read, fact_apart}

-- a number and a line feed
last_number : (m n : ℕ) → FitsIn64Bits m → FitsIn64Bits n → decimal m ++ codes "\n" ≡ decimal n ++ codes "\n" → m ≡ n
last_number m n h k e = (number_read m n (codes "\n") (codes "\n") h k refl refl e).0

-- two facts in pieces
pair_is : (first second : List ℕ) → pair_text first second ++ codes "\n" ≡ first ++ (codes " and " ++ (second ++ codes "\n"))
pair_is first second = simp append_assoc

-- ---- cells, and clashes of facts, begin with no other words

module _ (globals : List (List ℕ)) (are : AreNames globals) (known : List Variable) (of : AreStoreVariables globals known) where
  -- 32 is the space behind `end`
  part_apart : (p : Path) → IsCellOf known (Part p) → (depth : ℕ) → cell_text globals known (Part p) ++ codes "\n" ≡ (codes "end at depth " ++ decimal depth) ++ codes "\n" → ⊥
  part_apart p h depth e = place_apart globals are known of p h 10 32 (codes "end") [] _ refl refl refl refl refl (refl, (refl, (refl, tt))) (λ l. heads_apart 108 101 _ _ refl l) e

  -- a pair of facts begins with no word that is followed by a space or by a line feed
  pair_apart : (a b : Fact) → IsFactOf known a → IsFactOf known b → (c : Bool) (d : ℕ) (w s : List ℕ) → eqb 61 d ≡ false → eqb 91 d ≡ false → eqb 124 d ≡ false → is_word_byte d ≡ false → IsWord w → (codes "local" ≡ w → ⊥)
      → cond c (pair_text (variable_fact_text globals known a) (variable_fact_text globals known b)) (pair_text (variable_fact_text globals known b) (variable_fact_text globals known a)) ++ codes "\n" ≡ w ++ (d ∷ s) → ⊥
  pair_apart a b h k true d w s no_end no_index no_bar ends word no_local e =
      fact_apart globals are known of a h d w _ s no_end no_index no_bar ends word no_local (sym (pair_is (variable_fact_text globals known a) (variable_fact_text globals known b)) ∙ e)
  pair_apart a b h k false d w s no_end no_index no_bar ends word no_local e =
      fact_apart globals are known of b k d w _ s no_end no_index no_bar ends word no_local (sym (pair_is (variable_fact_text globals known b) (variable_fact_text globals known a)) ∙ e)

  marks_apart : (a b : Fact) → IsClashOf known (Facts a b) → (depth : ℕ) → clash_text globals known (Facts a b) ++ codes "\n" ≡ (codes "ends and goes on at depth " ++ decimal depth) ++ codes "\n" → ⊥
  marks_apart a b h depth e = pair_apart a b h.0 h.1 (comes_first a b) 32 (codes "ends") _ refl refl refl refl (refl, (refl, (refl, (refl, tt)))) (λ l. heads_apart 108 101 _ _ refl l) e

  false_apart : (a b : Fact) → IsClashOf known (Facts a b) → clash_text globals known (Facts a b) ++ codes "\n" ≡ codes "false\n" → ⊥
  false_apart a b h e = pair_apart a b h.0 h.1 (comes_first a b) 10 (codes "false") [] refl refl refl refl (refl, (refl, (refl, (refl, (refl, tt))))) (λ l. heads_apart 108 102 _ _ refl l) e

  value_apart : (a b : Fact) → IsClashOf known (Facts a b) → (fault : List ℕ) → clash_text globals known (Facts a b) ++ codes "\n" ≡ (codes "no value: " ++ fault) ++ codes "\n" → ⊥
  value_apart a b h fault e = pair_apart a b h.0 h.1 (comes_first a b) 32 (codes "no") _ refl refl refl refl (refl, (refl, tt)) (λ l. heads_apart 108 110 _ _ refl l) e

-- ---- cells, clashes and ends

abbrev fault_at : List ℕ → FaultKind
fault_at [] = NoElement
fault_at (b ∷ z) = cond (b == 119) WrongKind (cond (b == 122) ZeroDivisor NoElement)

fault_is : (fault : FaultKind) → fault_at (fault_text fault ++ codes "\n") ≡ fault
fault_is WrongKind = refl
fault_is ZeroDivisor = refl
fault_is NoElement = refl

module _ (globals : List (List ℕ)) (are : AreNames globals) (known other : List Variable) (of : AreStoreVariables globals known) (also : AreStoreVariables globals other) where
  cell_read : (c d : Cell) → IsCellOf known c → IsCellOf other d → cell_text globals known c ++ codes "\n" ≡ cell_text globals other d ++ codes "\n" → CellsToldAlike globals known other c d
  cell_read (Part p) (Part q) h k e = part p q (place_read globals are known other of also 10 refl refl refl p q [] [] h k e).0
  cell_read (Part p) (End region depth) h k e = absurd (part_apart globals are known of p h depth e)
  cell_read (End region depth) (Part q) h k e = absurd (part_apart globals are other also q k depth (sym e))
  cell_read (End region m) (End second n) h k e =
      let same : m ≡ n = last_number m n h k (ap (drop 13) e) in
      subst (λ (x : ℕ). CellsToldAlike globals known other (End region m) (End second x)) same (end region second m)

  pair_read : (a b c d : Fact) → IsFactOf known a → IsFactOf known b → IsFactOf other c → IsFactOf other d
      → pair_text (variable_fact_text globals known a) (variable_fact_text globals known b) ++ codes "\n" ≡ pair_text (variable_fact_text globals other c) (variable_fact_text globals other d) ++ codes "\n"
      → FactsToldAlike globals known other a c × FactsToldAlike globals known other b d
  pair_read a b c d h k x y e =
      let A = variable_fact_text globals known a in
      let B = variable_fact_text globals known b in
      let C = variable_fact_text globals other c in
      let D = variable_fact_text globals other d in
      let first = fact_read globals are known other of also a c (codes " and " ++ (B ++ codes "\n")) (codes " and " ++ (D ++ codes "\n")) h x refl refl (sym (pair_is A B) ∙ (e ∙ pair_is C D)) in
      let second = fact_read globals are known other of also b d (codes "\n") (codes "\n") k y refl refl (ap (drop 5) first.1) in
      (first.0, second.0)

  facts_read : (a b c d : Fact) → IsClashOf known (Facts a b) → IsClashOf other (Facts c d) → clash_text globals known (Facts a b) ++ codes "\n" ≡ clash_text globals other (Facts c d) ++ codes "\n"
      → ClashesToldAlike globals known other (Facts a b) (Facts c d)
  facts_read a b c d h k e = by (comes_first a b) (comes_first c d) e
    where
      A : List ℕ
      A = variable_fact_text globals known a

      B : List ℕ
      B = variable_fact_text globals known b

      C : List ℕ
      C = variable_fact_text globals other c

      D : List ℕ
      D = variable_fact_text globals other d

      by : (m n : Bool) → cond m (pair_text A B) (pair_text B A) ++ codes "\n" ≡ cond n (pair_text C D) (pair_text D C) ++ codes "\n" → ClashesToldAlike globals known other (Facts a b) (Facts c d)
      by true true e = let read = pair_read a b c d h.0 h.1 k.0 k.1 e in in_order a b c d read.0 read.1
      by true false e = let read = pair_read a b d c h.0 h.1 k.1 k.0 e in turned a b c d read.0 read.1
      by false true e = let read = pair_read b a c d h.1 h.0 k.0 k.1 e in turned a b c d read.1 read.0
      by false false e = let read = pair_read b a d c h.1 h.0 k.1 k.0 e in in_order a b c d read.1 read.0

  clash_read : (c d : Clash) → IsClashOf known c → IsClashOf other d → clash_text globals known c ++ codes "\n" ≡ clash_text globals other d ++ codes "\n" → ClashesToldAlike globals known other c d
  clash_read (Facts a b) (Facts c d) h k e = facts_read a b c d h k e
  clash_read (Facts a b) (Marks n) h k e = absurd (marks_apart globals are known of a b h n e)
  clash_read (Facts a b) False h k e = absurd (false_apart globals are known of a b h e)
  clash_read (Facts a b) (NoValue fault) h k e = absurd (value_apart globals are known of a b h (fault_text fault) e)
  clash_read (Marks m) (Facts a b) h k e = absurd (marks_apart globals are other also a b k m (sym e))
  clash_read (Marks m) (Marks n) h k e = subst (λ (x : ℕ). ClashesToldAlike globals known other (Marks m) (Marks x)) (last_number m n h k (ap (drop 26) e)) (marks m)
  clash_read (Marks m) False h k e = absurd (heads_apart 101 102 _ _ refl e)
  clash_read (Marks m) (NoValue fault) h k e = absurd (heads_apart 101 110 _ _ refl e)
  clash_read False (Facts a b) h k e = absurd (false_apart globals are other also a b k (sym e))
  clash_read False (Marks n) h k e = absurd (heads_apart 102 101 _ _ refl e)
  clash_read False False h k e = is_false
  clash_read False (NoValue fault) h k e = absurd (heads_apart 102 110 _ _ refl e)
  clash_read (NoValue fault) (Facts a b) h k e = absurd (value_apart globals are other also a b k (fault_text fault) (sym e))
  clash_read (NoValue fault) (Marks n) h k e = absurd (heads_apart 110 101 _ _ refl e)
  clash_read (NoValue fault) False h k e = absurd (heads_apart 110 102 _ _ refl e)
  clash_read (NoValue f) (NoValue g) h k e =
      let same : f ≡ g = sym (fault_is f) ∙ (ap fault_at (ap (drop 10) e) ∙ fault_is g) in
      subst (λ (x : FaultKind). ClashesToldAlike globals known other (NoValue f) (NoValue x)) same (no_value f)

-- ---- which end a line tells, by its first two bytes

data EndKind : Type 0 where
  goes : EndKind
  finishes : EndKind
  clashes : EndKind
  waits : EndKind
  runs_out : EndKind
  misses : EndKind
  passes : EndKind

abbrev kind_of : Turn → EndKind
kind_of Went = goes
kind_of (Finished n) = finishes
kind_of (Contradictory state clash) = clashes
kind_of (Undetermined state cell) = waits
kind_of (StateLimit states) = runs_out
kind_of (InputMissing state port) = misses
kind_of (Over state kind) = passes

-- 102 is `f`, 117 `u`, 115 `s`, 105 `i`; and 111 the `o` of `contradictory`
abbrev kind_by : ℕ → ℕ → EndKind
kind_by b c =
    cond (b == 102) finishes (cond (b == 117) waits (cond (b == 115) runs_out (cond (b == 105) misses (cond (c == 111) clashes passes))))

abbrev kind_at : List ℕ → EndKind
kind_at [] = goes
kind_at (b ∷ []) = goes
kind_at (b ∷ c ∷ z) = kind_by b c

kind_is : (globals : List (List ℕ)) (known : List Variable) (reductions : ℕ) (turn : Turn) → kind_at (end_line globals known reductions turn) ≡ kind_of turn
kind_is globals known reductions Went = refl
kind_is globals known reductions (Finished n) = refl
kind_is globals known reductions (Contradictory state clash) = refl
kind_is globals known reductions (Undetermined state cell) = refl
kind_is globals known reductions (StateLimit states) = refl
kind_is globals known reductions (InputMissing state port) = refl
kind_is globals known reductions (Over state limit.Reductions) = refl
kind_is globals known reductions (Over state limit.Number) = refl
kind_is globals known reductions (Over state limit.List) = refl
kind_is globals known reductions (Over state limit.Calls) = refl
kind_is globals known reductions (Over state limit.Nest) = refl

abbrev IsOf : EndKind → Turn → Type 0
IsOf goes turn = turn ≡ Went
IsOf finishes turn = (n : ℕ) × (turn ≡ Finished n)
IsOf clashes turn = (state : ℕ) × (clash : Clash) × (turn ≡ Contradictory state clash)
IsOf waits turn = (state : ℕ) × (cell : Cell) × (turn ≡ Undetermined state cell)
IsOf runs_out turn = (states : ℕ) × (turn ≡ StateLimit states)
IsOf misses turn = (state : ℕ) × (port : List ℕ) × (turn ≡ InputMissing state port)
IsOf passes turn = (state : ℕ) × (kind : LimitKind) × (turn ≡ Over state kind)

only : (turn : Turn) → IsOf (kind_of turn) turn
only Went = refl
only (Finished n) = (n, refl)
only (Contradictory state clash) = (state, clash, refl)
only (Undetermined state cell) = (state, cell, refl)
only (StateLimit states) = (states, refl)
only (InputMissing state port) = (state, port, refl)
only (Over state kind) = (state, kind, refl)

has_kind : (kind : EndKind) (turn : Turn) → kind ≡ kind_of turn → IsOf kind turn
has_kind kind turn e = subst (λ (k : EndKind). IsOf k turn) (sym e) (only turn)

-- 114 is the `r` of `reduction limit`, 108 `l`, 99 `c`; and 117 the `u` of `number limit`
abbrev limit_by : ℕ → ℕ → LimitKind
limit_by b c = cond (b == 114) limit.Reductions (cond (b == 108) limit.List (cond (b == 99) limit.Calls (cond (c == 117) limit.Number limit.Nest)))

abbrev limit_at : List ℕ → LimitKind
limit_at [] = limit.Nest
limit_at (b ∷ []) = limit.Nest
limit_at (b ∷ c ∷ z) = limit_by b c

limit_is : (reductions state : ℕ) (kind : LimitKind) → limit_at (limit_text reductions state kind ++ codes "\n") ≡ kind
limit_is reductions state limit.Reductions = refl
limit_is reductions state limit.Number = refl
limit_is reductions state limit.List = refl
limit_is reductions state limit.Calls = refl
limit_is reductions state limit.Nest = refl

-- a state, and what is told behind it
told_is : (word number more : List ℕ) → ((word ++ codes ": state " ++ number) ++ codes ": " ++ more) ++ codes "\n" ≡ word ++ (codes ": state " ++ (number ++ (codes ": " ++ (more ++ codes "\n"))))
told_is word number more = simp append_assoc

state_is : (word number : List ℕ) → (word ++ codes ": state " ++ number) ++ codes "\n" ≡ word ++ (codes ": state " ++ (number ++ codes "\n"))
state_is word number = simp append_assoc

reductions_is : (number more : List ℕ) → ((codes "reduction limit" ++ codes ": state " ++ number) ++ (codes ": " ++ more) ++ codes " reductions") ++ codes "\n" ≡ codes "reduction limit: state " ++ (number ++ (codes ": " ++ (more ++ codes " reductions\n")))
reductions_is number more = simp append_assoc

port_is : (number more : List ℕ) → ((codes "input missing" ++ codes ": state " ++ number) ++ codes ": port " ++ more) ++ codes "\n" ≡ codes "input missing: state " ++ (number ++ (codes ": port " ++ (more ++ codes "\n")))
port_is number more = simp append_assoc

-- a text before a last line feed
fed_apart : (xs ys : List ℕ) → xs ++ codes "\n" ≡ ys ++ codes "\n" → xs ≡ ys
fed_apart xs ys e = append_cancel_right xs ys (codes "\n") e

module _ (globals : List (List ℕ)) (are : AreNames globals) (known other : List Variable) (of : AreStoreVariables globals known) (also : AreStoreVariables globals other)
    (reductions most : ℕ) (low : FitsIn64Bits reductions) (small : FitsIn64Bits most) where
  abbrev Tells : Turn → Turn → Type 0
  Tells turn last =
      IsTurnOf known turn → IsTurnOf other last → end_line globals known reductions turn ≡ end_line globals other most last
      → EndsToldAlike globals known other turn last × (IsAtReductions turn → reductions ≡ most)

  at_went : Tells Went Went
  at_went h k e = (went, λ w. absurd (cc w.1))

  at_finished : (m n : ℕ) → Tells (Finished m) (Finished n)
  at_finished m n h k e =
      let same : m ≡ n = last_number m n h k (ap (drop 17) e) in
      (subst (λ (x : ℕ). EndsToldAlike globals known other (Finished m) (Finished x)) same (finished m), λ w. absurd (cc w.1))

  at_states : (m n : ℕ) → Tells (StateLimit m) (StateLimit n)
  at_states m n h k e =
      let same : m ≡ n = last_number m n h k (ap (drop 13) e) in
      (subst (λ (x : ℕ). EndsToldAlike globals known other (StateLimit m) (StateLimit x)) same (state_limit m), λ w. absurd (cc w.1))

  at_clash : (m n : ℕ) (c d : Clash) → Tells (Contradictory m c) (Contradictory n d)
  at_clash m n c d h k e =
      let C = clash_text globals known c in
      let D = clash_text globals other d in
      let pieces = sym (told_is (codes "contradictory") (decimal m) C) ∙ (e ∙ told_is (codes "contradictory") (decimal n) D) in
      let state = number_read m n (codes ": " ++ (C ++ codes "\n")) (codes ": " ++ (D ++ codes "\n")) h.0 k.0 refl refl (ap (drop 21) pieces) in
      let alike = clash_read globals are known other of also c d h.1 k.1 (ap (drop 2) state.1) in
      (subst (λ (x : ℕ). EndsToldAlike globals known other (Contradictory m c) (Contradictory x d)) state.0 (contradictory m c d alike), λ w. absurd (cc w.1))

  at_cell : (m n : ℕ) (c d : Cell) → Tells (Undetermined m c) (Undetermined n d)
  at_cell m n c d h k e =
      let C = cell_text globals known c in
      let D = cell_text globals other d in
      let pieces = sym (told_is (codes "undetermined") (decimal m) C) ∙ (e ∙ told_is (codes "undetermined") (decimal n) D) in
      let state = number_read m n (codes ": " ++ (C ++ codes "\n")) (codes ": " ++ (D ++ codes "\n")) h.0 k.0 refl refl (ap (drop 20) pieces) in
      let alike = cell_read globals are known other of also c d h.1 k.1 (ap (drop 2) state.1) in
      (subst (λ (x : ℕ). EndsToldAlike globals known other (Undetermined m c) (Undetermined x d)) state.0 (undetermined m c d alike), λ w. absurd (cc w.1))

  at_port : (m n : ℕ) (p q : List ℕ) → Tells (InputMissing m p) (InputMissing n q)
  at_port m n p q h k e =
      let pieces = sym (port_is (decimal m) p) ∙ (e ∙ port_is (decimal n) q) in
      let state = number_read m n (codes ": port " ++ (p ++ codes "\n")) (codes ": port " ++ (q ++ codes "\n")) h k refl refl (ap (drop 21) pieces) in
      let port : p ≡ q = fed_apart p q (ap (drop 7) state.1) in (
        subst (λ (x : ℕ). EndsToldAlike globals known other (InputMissing m p) (InputMissing x q)) state.0
            (subst (λ (z : List ℕ). EndsToldAlike globals known other (InputMissing m p) (InputMissing m z)) port (input_missing m p)),
        λ w. absurd (cc w.1),
      )

  abbrev PassesAlike : ℕ → ℕ → LimitKind → LimitKind → Type 0
  PassesAlike m n kind last = EndsToldAlike globals known other (Over m kind) (Over n last) × (IsAtReductions (Over m kind) → reductions ≡ most)

  passed : (m n : ℕ) (kind : LimitKind) → m ≡ n → EndsToldAlike globals known other (Over m kind) (Over n kind)
  passed m n kind same = subst (λ (x : ℕ). EndsToldAlike globals known other (Over m kind) (Over x kind)) same (over m kind)

  one_limit : (m n : ℕ) (kind : LimitKind) → FitsIn64Bits m → FitsIn64Bits n → limit_text reductions m kind ++ codes "\n" ≡ limit_text most n kind ++ codes "\n" → PassesAlike m n kind kind
  one_limit m n limit.Reductions h k e =
      let pieces = sym (reductions_is (decimal m) (decimal reductions)) ∙ (e ∙ reductions_is (decimal n) (decimal most)) in
      let state = number_read m n (codes ": " ++ (decimal reductions ++ codes " reductions\n")) (codes ": " ++ (decimal most ++ codes " reductions\n")) h k refl refl (ap (drop 23) pieces) in
      let count = number_read reductions most (codes " reductions\n") (codes " reductions\n") low small refl refl (ap (drop 2) state.1) in
      (passed m n limit.Reductions state.0, λ w. count.0)
  one_limit m n limit.Number h k e =
      let pieces = sym (state_is (codes "number limit") (decimal m)) ∙ (e ∙ state_is (codes "number limit") (decimal n)) in
      (passed m n limit.Number (last_number m n h k (ap (drop 20) pieces)), λ w. absurd (cc w.1))
  one_limit m n limit.List h k e =
      let pieces = sym (state_is (codes "list limit") (decimal m)) ∙ (e ∙ state_is (codes "list limit") (decimal n)) in
      (passed m n limit.List (last_number m n h k (ap (drop 18) pieces)), λ w. absurd (cc w.1))
  one_limit m n limit.Calls h k e =
      let pieces = sym (state_is (codes "call limit") (decimal m)) ∙ (e ∙ state_is (codes "call limit") (decimal n)) in
      (passed m n limit.Calls (last_number m n h k (ap (drop 18) pieces)), λ w. absurd (cc w.1))
  one_limit m n limit.Nest h k e =
      let pieces = sym (state_is (codes "nest limit") (decimal m)) ∙ (e ∙ state_is (codes "nest limit") (decimal n)) in
      (passed m n limit.Nest (last_number m n h k (ap (drop 18) pieces)), λ w. absurd (cc w.1))

  at_limit : (m n : ℕ) (kind last : LimitKind) → Tells (Over m kind) (Over n last)
  at_limit m n kind last h k e =
      let same : kind ≡ last = sym (limit_is reductions m kind) ∙ (ap limit_at e ∙ limit_is most n last) in
      let here : limit_text reductions m kind ++ codes "\n" ≡ limit_text most n kind ++ codes "\n" = e ∙ ap (λ (l : LimitKind). limit_text most n l ++ codes "\n") (sym same) in
      subst (PassesAlike m n kind) same (one_limit m n kind h k here)

  tells : (turn last : Turn) → kind_of turn ≡ kind_of last → Tells turn last
  tells Went last e = subst (Tells Went) (sym (has_kind goes last e)) at_went
  tells (Finished m) last e = let l = has_kind finishes last e in subst (Tells (Finished m)) (sym l.1) (at_finished m l.0)
  tells (Contradictory m c) last e = let l = has_kind clashes last e in subst (Tells (Contradictory m c)) (sym l.2) (at_clash m l.0 c l.1)
  tells (Undetermined m c) last e = let l = has_kind waits last e in subst (Tells (Undetermined m c)) (sym l.2) (at_cell m l.0 c l.1)
  tells (StateLimit m) last e = let l = has_kind runs_out last e in subst (Tells (StateLimit m)) (sym l.1) (at_states m l.0)
  tells (InputMissing m p) last e = let l = has_kind misses last e in subst (Tells (InputMissing m p)) (sym l.2) (at_port m l.0 p l.1)
  tells (Over m kind) last e = let l = has_kind passes last e in subst (Tells (Over m kind)) (sym l.2) (at_limit m l.0 kind l.1)

pub end_lines_tell : EndLinesTell
end_lines_tell globals are known other of also reductions most low small turn last h k e =
    let same : kind_of turn ≡ kind_of last = sym (kind_is globals known reductions turn) ∙ (ap kind_at e ∙ kind_is globals other most last) in
    tells globals are known other of also reductions most low small turn last same h k e
