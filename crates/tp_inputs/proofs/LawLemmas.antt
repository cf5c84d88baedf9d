-- A text is one table of inputs, or has one first fault.
use Rattle.std.proofs.Common.{refl, ap, sym, subst, ◌∙◌, ◌≡◌, ℕ, zero, suc, ◌+◌, ◌<◌, ◌≤◌, Bool, inl, inr, ◌⊎◌, List, [], ◌∷◌, ◌++◌, length, drop, arith, length-drop}
use Rattle.std.specs.Str.Lines.{lines}
use Rattle.tp_value.specs.Tree.{Tree}
use Rattle.tp_meaning.specs.Inputs.{InputTable}
use Rattle.tp_inputs.specs.declared.fault.LineFault.{LineFault}
use Rattle.tp_inputs.specs.declared.span.Span.{Span}
use Rattle.tp_inputs.specs.declared.span.LineHead.{LineHead}
use Rattle.tp_inputs.specs.declared.span.LineHead.TheVariants.{Speaks, Silent, Unheard}
use Rattle.tp_inputs.specs.Spans.{IsCanonical, GivesValue, has_ranges, head_of}
use Rattle.tp_inputs.specs.FirstPart.{InputPart, Blank, Given, Faulty, BeginsPart, first_part}
use Rattle.tp_inputs.specs.Table.{PassesPart, blank, given, ReadsPairs, here, passes, IsLine, BeginsFault, HasFault, AreLines, IsFirstFault}
use Rattle.tp_inputs.specs.Laws.{EachTextIsJudged, OneTable, OneFirstFault, NoFaultyTable, RefusedValuesHaveTheirCause}
use Rattle.tp_value.proofs.ReadLemmas.{never_memory, refused_right}
use Rattle.tp_inputs.proofs.PartLemmas.{part_is, part_one, takes, Takes, no_more}
use Rattle.tp_inputs.proofs.LineLemmas.{passed_bytes, new_port}
use Rattle.tp_inputs.proofs.HeadLemmas.{HeadHas, IsOrdered, head_ordered}
use Rattle.tp_inputs.proofs.CanonicalLemmas.{one_given, none_canonical}
use Rattle.tp_inputs.proofs.Existence.{some_given}

-- ---- a line has one reading

some_bytes : (p : InputPart) (most : ℕ) → Takes p most → 0 < most
some_bytes Blank most t = omega arith
some_bytes (Given port v n) most t = let low = t.0 in let high = t.1 in omega arith
some_bytes (Faulty fault) most t = t

-- how a reading ends: with the whole line, or at a fault
data LineEnding : Type 0 where
  Whole : LineEnding
  Fails : LineFault → LineEnding

module _ (span : Span) where
  one_part : (table : InputTable) (z : List ℕ) (p q : InputPart) → BeginsPart span table z p → BeginsPart span table z q → p ≡ q
  one_part table z p q a b = part_one span table z p a ∙ sym (part_one span table z q b)

  nothing_stands : (table : InputTable) (z : List ℕ) (p : InputPart) → z ≡ [] → BeginsPart span table z p → ⊥
  nothing_stands table z p e is = let some = some_bytes p (length z) (takes span table z p is) in let none = ap length e in omega arith

  nothing_passes : (z : List ℕ) (table more : InputTable) (n : ℕ) → z ≡ [] → PassesPart span z table more n → ⊥
  nothing_passes z table more n e is = let some = passed_bytes span z table more n is in let none = ap length e in omega (arith, some.0, some.1)

  one_pass : (z : List ℕ) (table a b : InputTable) (n m : ℕ) → PassesPart span z table a n → PassesPart span z table b m → (a ≡ b) × (n ≡ m)
  one_pass z table _ _ _ _ (blank is) (blank js) = (refl, refl)
  one_pass z table _ _ _ _ (blank is) (given {port = p} {value = t} {n = n} js g) = let same : Blank ≡ Given p t n = one_part table z Blank (Given p t n) is js in absurd cc
  one_pass z table _ _ _ _ (given {port = p} {value = t} {n = n} is g) (blank js) = let same : Given p t n ≡ Blank = one_part table z (Given p t n) Blank is js in absurd cc
  one_pass z table _ _ _ _ (given {port = p} {value = t} {n = n} {more = a} is g) (given {port = q} {value = u} {n = m} {more = b} js h) =
      let same : Given p t n ≡ Given q u m = one_part table z (Given p t n) (Given q u m) is js in
      let ports : p ≡ q = cc in
      let values : t ≡ u = cc in
      (one_given span p t table a b g (subst (λ (k : List ℕ). GivesValue span k t table b) (sym ports) (subst (λ (v : Tree). GivesValue span q v table b) (sym values) h)), cc)

  no_faulty_pass : (z : List ℕ) (table more : InputTable) (n : ℕ) (f : LineFault) → PassesPart span z table more n → BeginsFault span table z f → ⊥
  no_faulty_pass z table _ _ f (blank is) js = let same : Blank ≡ Faulty f = one_part table z Blank (Faulty f) is js in cc
  no_faulty_pass z table _ _ f (given {port = p} {value = t} {n = n} is g) js = let same : Given p t n ≡ Faulty f = one_part table z (Given p t n) (Faulty f) is js in cc

  abbrev Stops : List ℕ → InputTable → LineEnding → Type 0
  Stops z table Whole = z ≡ []
  Stops z table (Fails fault) = BeginsFault span table z fault

  no_pass_stopped : (z : List ℕ) (table more : InputTable) (n : ℕ) (e : LineEnding) → Stops z table e → PassesPart span z table more n → ⊥
  no_pass_stopped z table more n Whole e is = nothing_passes z table more n e is
  no_pass_stopped z table more n (Fails fault) a is = no_faulty_pass z table more n fault is a

  one_stop : (z : List ℕ) (table : InputTable) (e f : LineEnding) → Stops z table e → Stops z table f → e ≡ f
  one_stop z table Whole Whole a b = refl
  one_stop z table Whole (Fails f) a b = absurd (nothing_stands table z (Faulty f) a b)
  one_stop z table (Fails f) Whole a b = absurd (nothing_stands table z (Faulty f) b a)
  one_stop z table (Fails f) (Fails g) a b =
      let same : Faulty f ≡ Faulty g = one_part table z (Faulty f) (Faulty g) a b in
      let both : f ≡ g = cc in
      ap Fails both

  one_reading : (z : List ℕ) (table : InputTable) (x y : List ℕ) (t u : InputTable) (e f : LineEnding) → ReadsPairs span z table x t → Stops x t e → ReadsPairs span z table y u → Stops y u f → (t ≡ u) × (e ≡ f)
  one_reading z table _ _ _ _ e f here a here b = (refl, one_stop z table e f a b)
  one_reading z table _ _ _ _ e f here a (passes {n = n} {more = more} is r) b = absurd (no_pass_stopped z table more n e a is)
  one_reading z table _ _ _ _ e f (passes {n = n} {more = more} is r) a here b = absurd (no_pass_stopped z table more n f b is)
  one_reading z table x y t u e f (passes {n = n} {more = more} is r) a (passes {n = m} {more = other} js s) b =
      let same = one_pass z table more other n m is js in
      one_reading (drop n z) more x y t u e f r a (subst (λ (v : InputTable). ReadsPairs span (drop n z) v y u) (sym same.0) (subst (λ (k : ℕ). ReadsPairs span (drop k z) other y u) (sym same.1) s)) b

  -- ---- each line has a reading

  part_canonical : (z : List ℕ) (table more : InputTable) (n : ℕ) → PassesPart span z table more n → IsCanonical table → IsCanonical more
  part_canonical z table _ _ (blank is) c = c
  part_canonical z table _ _ (given is g) c = g.canonical

  reads_canonical : (z : List ℕ) (table : InputTable) (rest : List ℕ) (all : InputTable) → ReadsPairs span z table rest all → IsCanonical table → IsCanonical all
  reads_canonical z table _ _ here c = c
  reads_canonical z table rest all (passes {n = n} {more = more} is r) c = reads_canonical (drop n z) more rest all r (part_canonical z table more n is c)

  abbrev Read : List ℕ → InputTable → Type 0
  Read z table = (rest : List ℕ) × (all : InputTable) × (end : LineEnding) × ReadsPairs span z table rest all × Stops rest all end

  abbrev Below : List ℕ → Type 0
  Below z = (n : ℕ) (more : InputTable) → IsCanonical more → 0 < n → n ≤ length z → Read (drop n z) more

  module _ (ordered : IsOrdered span) where
    read_on : (z : List ℕ) (table : InputTable) (p : InputPart) → IsCanonical table → BeginsPart span table z p → Takes p (length z) → Below z → Read z table
    read_on z table Blank c is t below = let later = below 1 table c (omega arith) t in (later.0, later.1, later.2, passes (blank is) later.3, later.4)
    read_on z table (Given port v n) c is t below =
        let added = some_given span port v table ordered c (new_port span table z port v n is) in
        let later = below n added.0 added.1.canonical t.0 t.1 in
        (later.0, later.1, later.2, passes (given is added.1) later.3, later.4)
    read_on z table (Faulty fault) c is t below = (z, table, Fails fault, here, is)

    read_full : (z : List ℕ) (table : InputTable) → IsCanonical table → Below z → Read z table
    read_full [] table c below = ([], table, Whole, here, refl)
    read_full (b ∷ z) table c below =
        let is = part_is span table (b ∷ z) (λ none. let e = ap length none in absurd (omega arith)) in
        read_on (b ∷ z) table (first_part span table (b ∷ z)) c is (takes span table (b ∷ z) (first_part span table (b ∷ z)) is) below

    some_reading : (most : ℕ) (z : List ℕ) (table : InputTable) → IsCanonical table → length z ≤ most → Read z table
    some_reading zero z table c few = (z, table, Whole, here, no_more z (omega arith))
    some_reading (suc most) z table c few = read_full z table c (λ n more d some low. some_reading most (drop n z) more d (omega (arith, length-drop n z)))

-- ---- a line with its head

one_line : (h : LineHead) (line : List ℕ) (table t u : InputTable) → IsLine h line table t → IsLine h line table u → t ≡ u
one_line (Speaks span n) line table t u a b = (one_reading span (drop n line) table [] [] t u Whole Whole a refl b refl).0
one_line Silent line table t u a b = a ∙ sym b
one_line Unheard line table t u a b = absurd a

one_fault : (h : LineHead) (line : List ℕ) (table : InputTable) (e f : LineFault) → HasFault h line table e → HasFault h line table f → e ≡ f
one_fault (Speaks span n) line table e f a b =
    let same : Fails e ≡ Fails f = (one_reading span (drop n line) table a.rest b.rest a.more b.more (Fails e) (Fails f) a.reads a.faulty b.reads b.faulty).1 in
    cc
one_fault Silent line table e f a b = absurd a
one_fault Unheard line table e f a b = a ∙ sym b

no_faulty_line : (h : LineHead) (line : List ℕ) (table t : InputTable) (f : LineFault) → IsLine h line table t → HasFault h line table f → ⊥
no_faulty_line (Speaks span n) line table t f a b =
    let same : Whole ≡ Fails f = (one_reading span (drop n line) table [] b.rest t b.more Whole (Fails f) a refl b.reads b.faulty).1 in
    absurd cc
no_faulty_line Silent line table t f a b = b
no_faulty_line Unheard line table t f a b = a

line_canonical : (h : LineHead) (line : List ℕ) (table t : InputTable) → IsLine h line table t → IsCanonical table → IsCanonical t
line_canonical (Speaks span n) line table t a c = reads_canonical span (drop n line) table [] t a c
line_canonical Silent line table t a c = subst IsCanonical (sym a) c
line_canonical Unheard line table t a c = absurd a

abbrev Judged : LineHead → List ℕ → InputTable → Type 0
Judged h line table = ((more : InputTable) × IsLine h line table more) ⊎ ((f : LineFault) × HasFault h line table f)

judged_pairs : (span : Span) (n : ℕ) (line : List ℕ) (table : InputTable) → Read span (drop n line) table → Judged (Speaks span n) line table
judged_pairs span n line table (rest, all, Whole, reads, e) = inl (all, subst (λ (z : List ℕ). ReadsPairs span (drop n line) table z all) e reads)
judged_pairs span n line table (rest, all, Fails f, reads, has) = inr (f, record { rest = rest; more = all; reads = reads; faulty = has })

judged : (h : LineHead) (line : List ℕ) (table : InputTable) → HeadHas IsOrdered h → IsCanonical table → Judged h line table
judged (Speaks span n) line table ordered c = judged_pairs span n line table (some_reading span ordered (length (drop n line)) (drop n line) table c (omega arith))
judged Silent line table ordered c = inl (table, refl)
judged Unheard line table ordered c = inr (_, refl)

-- ---- texts, of which the first has this number

record FaultFrom (second : Bool) (k : ℕ) (texts : List (List ℕ)) (first : InputTable) (number : ℕ) (fault : LineFault) : Type 0 where
  before : List (List ℕ)
  line : List ℕ
  after : List (List ℕ)
  split : texts ≡ before ++ line ∷ after
  place : number ≡ k + length before
  table : InputTable
  good : AreLines second k before first table
  faulty : HasFault (head_of second number line) line table fault

module _ (second : Bool) where
  abbrev TextsJudged : ℕ → List (List ℕ) → InputTable → Type 0
  TextsJudged k texts table = ((all : InputTable) × AreLines second k texts table all) ⊎ ((number : ℕ) × (f : LineFault) × FaultFrom second k texts table number f)

  judged_on : (k : ℕ) (line : List ℕ) (texts : List (List ℕ)) (table : InputTable) → Judged (head_of second k line) line table
      → ((more : InputTable) → IsLine (head_of second k line) line table more → TextsJudged (k + 1) texts more) → TextsJudged k (line ∷ texts) table
  judged_on k line texts table (inr (f, has)) below =
      inr (k, f, record { before = []; line = line; after = texts; split = refl; place = omega arith; table = table; good = refl; faulty = has })
  judged_on k line texts table (inl (more, is)) below = at (below more is)
    where
      at : TextsJudged (k + 1) texts more → TextsJudged k (line ∷ texts) table
      at (inl (all, are)) = inl (all, (more, is, are))
      at (inr (number, f, found)) =
          inr (
            number,
            f,
            record {
              before = line ∷ found.before;
              line = found.line;
              after = found.after;
              split = ap (λ z. line ∷ z) found.split;
              place = let e = found.place in omega arith;
              table = found.table;
              good = (more, is, found.good);
              faulty = found.faulty;
            },
          )

  texts_judged : (k : ℕ) (texts : List (List ℕ)) (table : InputTable) → IsCanonical table → TextsJudged k texts table
  texts_judged k [] table c = inl (table, refl)
  texts_judged k (line ∷ texts) table c =
      judged_on k line texts table (judged (head_of second k line) line table (head_ordered second k line) c)
      (λ more is. texts_judged (k + 1) texts more (line_canonical (head_of second k line) line table more is c))

  one_table_of : (k : ℕ) (texts : List (List ℕ)) (table t u : InputTable) → AreLines second k texts table t → AreLines second k texts table u → t ≡ u
  one_table_of k [] table t u a b = a ∙ sym b
  one_table_of k (line ∷ texts) table t u (more, is, are) (other, js, bre) =
      let same = one_line (head_of second k line) line table more other is js in
      one_table_of (k + 1) texts more t u are (subst (λ (v : InputTable). AreLines second (k + 1) texts v u) (sym same) bre)

  -- a fault at a place that is no other place's
  moved : (i j : ℕ) (line : List ℕ) (t u : InputTable) (f : LineFault) → i ≡ j → t ≡ u → HasFault (head_of second i line) line t f → HasFault (head_of second j line) line u f
  moved i j line t u f e g has = subst (λ (v : InputTable). HasFault (head_of second j line) line v f) g (subst (λ (k : ℕ). HasFault (head_of second k line) line t f) e has)

  no_fault_within : (k i : ℕ) (before : List (List ℕ)) (line : List ℕ) (after : List (List ℕ)) (table all t : InputTable) (f : LineFault) → i ≡ k + length before → AreLines second k (before ++ line ∷ after) table all
      → AreLines second k before table t → HasFault (head_of second i line) line t f → ⊥
  no_fault_within k i [] line after table all t f e (more, is, are) good has = no_faulty_line (head_of second k line) line table more f is (moved i k line t table f (omega arith) good has)
  no_fault_within k i (text ∷ before) line after table all t f e (more, is, are) (other, js, good) has =
      let same = one_line (head_of second k text) text table other more js is in
      no_fault_within (k + 1) i before line after more all t f (omega arith) are (subst (λ (v : InputTable). AreLines second (k + 1) before v t) same good) has

  one_place : (k i j : ℕ) (b c : List (List ℕ)) (l m : List ℕ) (x y : List (List ℕ)) (table t u : InputTable) (e f : LineFault) → b ++ l ∷ x ≡ c ++ m ∷ y → i ≡ k + length b → j ≡ k + length c
      → AreLines second k b table t → AreLines second k c table u → HasFault (head_of second i l) l t e → HasFault (head_of second j m) m u f → (length b ≡ length c) × (e ≡ f)
  one_place k i j [] [] l m x y table t u e f q o p a d g h =
      let same : l ≡ m = cc in
      let has : HasFault (head_of second j m) m u e = subst (λ (z : List ℕ). HasFault (head_of second j z) z u e) same (moved i j l t u e (omega arith) (a ∙ sym d) g) in
      (refl, one_fault (head_of second j m) m u e f has h)
  one_place k i j [] (text ∷ c) l m x y table t u e f q o p a (more, is, are) g h =
      let same : l ≡ text = cc in
      absurd (no_faulty_line (head_of second k text) text table more e is (subst (λ (z : List ℕ). HasFault (head_of second k z) z table e) same (moved i k l t table e (omega arith) a g)))
  one_place k i j (line ∷ b) [] l m x y table t u e f q o p (more, is, are) d g h =
      let same : m ≡ line = cc in
      absurd (no_faulty_line (head_of second k line) line table more f is (subst (λ (z : List ℕ). HasFault (head_of second k z) z table f) same (moved j k m u table f (omega arith) d h)))
  one_place k i j (line ∷ b) (text ∷ c) l m x y table t u e f q o p (more, is, are) (other, js, bre) g h =
      let first : line ≡ text = cc in
      let rest : b ++ l ∷ x ≡ c ++ m ∷ y = cc in
      let same : other ≡ more = one_line (head_of second k line) line table other more (subst (λ (z : List ℕ). IsLine (head_of second k z) z table other) (sym first) js) is in
      let below = one_place (k + 1) i j b c l m x y more t u e f rest (omega arith) (omega arith) are (subst (λ (v : InputTable). AreLines second (k + 1) c v u) same bre) g h in
      (ap suc below.0, below.1)

-- ---- the laws

first_fault : (texts : List (List ℕ)) (number : ℕ) (f : LineFault) → FaultFrom (has_ranges texts) 0 texts [] number f → IsFirstFault texts (number + 1) f
first_fault texts number f at =
    let here : number ≡ length at.before = let e = at.place in omega arith in
    record {
      before = at.before;
      line = at.line;
      after = at.after;
      split = at.split;
      numbered = omega arith;
      table = at.table;
      good = at.good;
      faulty = moved (has_ranges texts) number (length at.before) at.line at.table at.table f here refl at.faulty;
    }

pub each_text : EachTextIsJudged
each_text bytes = at (texts_judged (has_ranges (lines bytes)) 0 (lines bytes) [] none_canonical)
  where
    at : TextsJudged (has_ranges (lines bytes)) 0 (lines bytes) [] → ((table : InputTable) × AreLines (has_ranges (lines bytes)) 0 (lines bytes) [] table) ⊎ ((line : ℕ) × (fault : LineFault) × IsFirstFault (lines bytes) line fault)
    at (inl is) = inl is
    at (inr (number, f, found)) = inr (number + 1, f, first_fault (lines bytes) number f found)

pub one_table : OneTable
one_table bytes t u a b = one_table_of (has_ranges (lines bytes)) 0 (lines bytes) [] t u a b

pub one_first_fault : OneFirstFault
one_first_fault bytes m n e f a b =
    let below = one_place (has_ranges (lines bytes)) 0 (length a.before) (length b.before) a.before b.before a.line b.line a.after b.after [] a.table b.table e f (sym a.split ∙ b.split) (omega arith) (omega arith) a.good b.good a.faulty b.faulty in
    let long = below.0 in
    let one = a.numbered in
    let two = b.numbered in
    (omega arith, below.1)

pub no_faulty_table : NoFaultyTable
no_faulty_table bytes t n f are at =
    no_fault_within (has_ranges (lines bytes)) 0 (length at.before) at.before at.line at.after [] t at.table f (omega arith) (subst (λ (z : List (List ℕ)). AreLines (has_ranges (lines bytes)) 0 z [] t) at.split are) at.good at.faulty

pub values_refused : RefusedValuesHaveTheirCause
values_refused bytes from e h told = (never_memory bytes from e h told, refused_right bytes from e h told)
