-- One line is the end line of one status only.
use Rattle.std.proofs.Common.{◌≡◌, ◌+◌, arith, inl, inr, ℕ, Bool, true, false, cond, ◌==◌, ◌&&◌, ◌||◌, List, [], ◌∷◌, ◌++◌, drop, codes, refl, sym, ap, ap₂, ◌∙◌, append_assoc}
use Rattle.std.specs.Fmt.{decimal}
use Rattle.tp_store.specs.Known.{Variable}
use Rattle.tp_kernel.specs.declared.fault.LimitKind.TheVariants as limit
use Rattle.tp_show.specs.declared.turn.Turn.{Turn}
use Rattle.tp_show.specs.declared.turn.Turn.TheVariants as turn
use Rattle.tp_show.specs.Texts.{end_line}
use Rattle.tp_show.proofs.EndPlaces.{number_read}
use Rattle.tp_show.proofs.EndsToldLemmas.{end_lines_tell}
use Rattle.tp_call.specs.declared.status.Status.{Status}
use Rattle.tp_call.specs.declared.status.Status.TheVariants.{Finished, Done, Contradictory, Undetermined, StateLimit, ReductionLimit, NumberLimit, ListLimit, CallLimit, NestLimit, InputMissing, SourceRefused, InputsRefused, WordsRefused, TooLong, ReadFault, WriteFault, NoMemory, OtherRefused, TraceTooLong}
use Rattle.tp_call.specs.declared.status.Which.{Which}
use Rattle.tp_call.specs.declared.status.Which.TheVariants.{Source, Inputs, Other}
use Rattle.tp_call.specs.declared.status.SourceKind.{SourceKind}
use Rattle.tp_call.specs.declared.status.SourceKind.TheVariants.{BadByte, OpenComment, NumberTooLarge, NameTooLong, Unexpected, Unfinished, TooDeep, DefinedTwice, UnknownName, WrongCount, NotExpression, NotPlace, NotPort, NotExecutable}
use Rattle.tp_call.specs.EndLine.{which_text, kind_text, refusal_line}
use Rattle.tp_call.specs.StatusesTold.{IsToldRefusal, StatusLinesTell}

-- ---- refusals

data Refusal : Type 0 where
  source : (line column : ℕ) → SourceKind → Refusal
  inputs : (line : ℕ) → Refusal
  trace : (line : ℕ) → Refusal
  many : (states : ℕ) → Refusal
  words : Refusal
  long : Which → Refusal
  unread : Which → Refusal

abbrev status_in : Refusal → Status
status_in (source line column kind) = SourceRefused line column kind
status_in (inputs line) = InputsRefused line
status_in (trace line) = OtherRefused line
status_in (many states) = TraceTooLong states
status_in words = WordsRefused
status_in (long which) = TooLong which
status_in (unread which) = ReadFault which

abbrev IsFound : Status → Type 0
IsFound status = (r : Refusal) × IsToldRefusal (status_in r) × (status_in r ≡ status)

found : (status : Status) → IsToldRefusal status → IsFound status
found (SourceRefused line column kind) h = (source line column kind, h, refl)
found (InputsRefused line) h = (inputs line, h, refl)
found (OtherRefused line) h = (trace line, h, refl)
found (TraceTooLong states) h = (many states, h, refl)
found WordsRefused h = (words, h, refl)
found (TooLong which) h = (long which, h, refl)
found (ReadFault which) h = (unread which, h, refl)
found status h = absurd h

-- 115 is the `s` of `source`, and 111 the `o` of `other`
abbrev which_at : List ℕ → Which
which_at [] = Inputs
which_at (b ∷ z) = cond (b == 115) Source (cond (b == 111) Other Inputs)

which_is : (which : Which) → which_at (which_text which ++ codes "\n") ≡ which
which_is Source = refl
which_is Inputs = refl
which_is Other = refl

-- the kind whose text begins with a letter; at `n` the second byte tells, or the fifth and what follows it, and at `u` the third
abbrev kind_by : (a b c e f h : ℕ) → SourceKind
kind_by a b c e f h =
    cond (a == 98) BadByte (cond (a == 111) OpenComment (cond (a == 116) TooDeep (cond (a == 100) DefinedTwice (cond (a == 119) WrongCount
    (cond (a == 117) (cond (c == 101) Unexpected (cond (c == 102) Unfinished UnknownName))
    (cond (b == 117) NumberTooLarge (cond (b == 97) NameTooLong
    (cond (e == 101) NotExecutable (cond (f == 110) NotExpression (cond (h == 108) NotPlace NotPort))))))))))

abbrev kind_at : List ℕ → SourceKind
kind_at (a ∷ b ∷ c ∷ d ∷ e ∷ f ∷ g ∷ h ∷ z) = kind_by a b c e f h
kind_at z = BadByte

kind_is : (kind : SourceKind) → kind_at (kind_text kind ++ codes "\n") ≡ kind
kind_is BadByte = refl
kind_is OpenComment = refl
kind_is NumberTooLarge = refl
kind_is NameTooLong = refl
kind_is Unexpected = refl
kind_is Unfinished = refl
kind_is TooDeep = refl
kind_is DefinedTwice = refl
kind_is UnknownName = refl
kind_is WrongCount = refl
kind_is NotExpression = refl
kind_is NotPlace = refl
kind_is NotPort = refl
kind_is NotExecutable = refl

-- a refused source in pieces
source_is : (line column kind : List ℕ) → ((codes "source refused: line " ++ line ++ codes " column " ++ column) ++ codes ": " ++ kind) ++ codes "\n" ≡ codes "source refused: line " ++ (line ++ (codes " column " ++ (column ++ (codes ": " ++ (kind ++ codes "\n")))))
source_is line column kind = simp append_assoc

inputs_is : (line : List ℕ) → (codes "inputs refused: line " ++ line) ++ codes "\n" ≡ codes "inputs refused: line " ++ (line ++ codes "\n")
inputs_is line = simp append_assoc

trace_is : (line : List ℕ) → (codes "other refused: line " ++ line) ++ codes "\n" ≡ codes "other refused: line " ++ (line ++ codes "\n")
trace_is line = simp append_assoc

many_is : (states : List ℕ) → (codes "trace too long: " ++ states ++ codes " states") ++ codes "\n" ≡ codes "trace too long: " ++ (states ++ (codes " states" ++ codes "\n"))
many_is states = simp append_assoc

source_read : (l m c d : ℕ) (j k : SourceKind) → IsToldRefusal (SourceRefused l c j) → IsToldRefusal (SourceRefused m d k) → refusal_line (SourceRefused l c j) ≡ refusal_line (SourceRefused m d k) → source l c j ≡ source m d k
source_read l m c d j k h i e =
    let J = kind_text j in
    let K = kind_text k in
    let pieces = sym (source_is (decimal l) (decimal c) J) ∙ (e ∙ source_is (decimal m) (decimal d) K) in
    let line = number_read l m (codes " column " ++ (decimal c ++ (codes ": " ++ (J ++ codes "\n")))) (codes " column " ++ (decimal d ++ (codes ": " ++ (K ++ codes "\n")))) h.0 i.0 refl refl (ap (drop 21) pieces) in
    let column = number_read c d (codes ": " ++ (J ++ codes "\n")) (codes ": " ++ (K ++ codes "\n")) h.1 i.1 refl refl (ap (drop 8) line.1) in
    let kind : j ≡ k = sym (kind_is j) ∙ (ap kind_at (ap (drop 2) column.1) ∙ kind_is k) in
    ap₂ (λ x y. source x y j) line.0 column.0 ∙ ap (source m d) kind

-- the first letter tells the cause, and at `t` the second one
abbrev tag_at : List ℕ → ℕ
tag_at (a ∷ b ∷ z) = cond (a == 116) (b + b) a
tag_at z = 0

abbrev tag : Refusal → ℕ
tag (source line column kind) = 115
tag (inputs line) = 105
tag (trace line) = 111
tag (many states) = 228
tag words = 119
tag (long which) = 222
tag (unread which) = 114

-- `words`, `other`, `too long` and `trace`; `so` of `source`; `inputs`, and not `input `; `rea` of `read`
abbrev refused_by : (a b c f : ℕ) → Bool
refused_by a b c f = (a == 119) || (a == 111) || (a == 116) || ((a == 115) && (b == 111)) || ((a == 105) && (f == 115)) || ((a == 114) && (c == 97))

abbrev is_refused : List ℕ → Bool
is_refused (a ∷ b ∷ c ∷ d ∷ e ∷ f ∷ z) = refused_by a b c f
is_refused z = false

-- what the line of a refusal begins with
begins : (r : Refusal) → (tag_at (refusal_line (status_in r)) ≡ tag r) × (is_refused (refusal_line (status_in r)) ≡ true)
begins (source line column kind) = (refl, refl)
begins (inputs line) = (refl, refl)
begins (trace line) = (refl, refl)
begins (many states) = (refl, refl)
begins words = (refl, refl)
begins (long which) = (refl, refl)
begins (unread which) = (refl, refl)

-- of one cause, the line tells the rest
read_on : (r s : Refusal) → tag r ≡ tag s → IsToldRefusal (status_in r) → IsToldRefusal (status_in s) → refusal_line (status_in r) ≡ refusal_line (status_in s) → r ≡ s
read_on (source l c j) (source m d k) t h i e = source_read l m c d j k h i e
read_on (inputs l) (inputs m) t h i e =
    ap inputs (number_read l m (codes "\n") (codes "\n") h i refl refl (ap (drop 21) (sym (inputs_is (decimal l)) ∙ (e ∙ inputs_is (decimal m))))).0
read_on (trace l) (trace m) t h i e =
    ap trace (number_read l m (codes "\n") (codes "\n") h i refl refl (ap (drop 20) (sym (trace_is (decimal l)) ∙ (e ∙ trace_is (decimal m))))).0
read_on (many l) (many m) t h i e =
    ap many (number_read l m (codes " states" ++ codes "\n") (codes " states" ++ codes "\n") h i refl refl (ap (drop 16) (sym (many_is (decimal l)) ∙ (e ∙ many_is (decimal m))))).0
read_on words words t h i e = refl
read_on (long v) (long w) t h i e = ap long (sym (which_is v) ∙ (ap which_at (ap (drop 10) e) ∙ which_is w))
read_on (unread v) (unread w) t h i e = ap unread (sym (which_is v) ∙ (ap which_at (ap (drop 12) e) ∙ which_is w))
read_on _ _ t h i e = absurd (omega (arith, t))

refusal_read : (r s : Refusal) → IsToldRefusal (status_in r) → IsToldRefusal (status_in s) → refusal_line (status_in r) ≡ refusal_line (status_in s) → r ≡ s
refusal_read r s h i e = read_on r s (sym (begins r).0 ∙ (ap tag_at e ∙ (begins s).0)) h i e

-- ---- the end line of a run is none of a refusal

run_not_refused : (globals : List (List ℕ)) (known : List Variable) (reductions : ℕ) (answer : Turn) → is_refused (end_line globals known reductions answer) ≡ false
run_not_refused globals known reductions turn.Went = refl
run_not_refused globals known reductions (turn.Finished n) = refl
run_not_refused globals known reductions (turn.Contradictory state clash) = refl
run_not_refused globals known reductions (turn.Undetermined state cell) = refl
run_not_refused globals known reductions (turn.StateLimit states) = refl
run_not_refused globals known reductions (turn.InputMissing state port) = refl
run_not_refused globals known reductions (turn.Over state limit.Reductions) = refl
run_not_refused globals known reductions (turn.Over state limit.Number) = refl
run_not_refused globals known reductions (turn.Over state limit.List) = refl
run_not_refused globals known reductions (turn.Over state limit.Calls) = refl
run_not_refused globals known reductions (turn.Over state limit.Nest) = refl

apart : (globals : List (List ℕ)) (known : List Variable) (reductions : ℕ) (answer : Turn) (status : Status) → IsToldRefusal status → end_line globals known reductions answer ≡ refusal_line status → ⊥
apart globals known reductions answer status h e =
    let r = found status h in
    let same : end_line globals known reductions answer ≡ refusal_line (status_in r.0) = e ∙ ap refusal_line (sym r.2) in
    absurd (cc (sym (run_not_refused globals known reductions answer) ∙ (ap is_refused same ∙ (begins r.0).1)))

one_refusal : (status second : Status) → IsToldRefusal status → IsToldRefusal second → refusal_line status ≡ refusal_line second → status ≡ second
one_refusal status second h k e =
    let r = found status h in
    let s = found second k in
    sym r.2 ∙ (ap status_in (refusal_read r.0 s.0 r.1 s.1 (ap refusal_line r.2 ∙ (e ∙ ap refusal_line (sym s.2)))) ∙ s.2)

pub status_lines_tell : StatusLinesTell
status_lines_tell globals are known other of also reductions most low small line status second (inl h) (inl k) =
    inr (h.0, k.0, h.1, k.1, (end_lines_tell globals are known other of also reductions most low small h.0 k.0 h.2 k.2 (sym h.3 ∙ k.3)).0)
status_lines_tell globals are known other of also reductions most low small line status second (inl h) (inr k) =
    absurd (apart globals known reductions h.0 second k.0 (sym h.3 ∙ k.1))
status_lines_tell globals are known other of also reductions most low small line status second (inr h) (inl k) =
    absurd (apart globals other most k.0 status h.0 (sym k.3 ∙ h.1))
status_lines_tell globals are known other of also reductions most low small line status second (inr h) (inr k) =
    inl (one_refusal status second h.0 k.0 (sym h.1 ∙ k.1))
