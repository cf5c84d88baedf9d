-- What is read to check a trace, and what is refused of it.
use Rattle.std.proofs.Common.{◌≡◌, ◌≢◌, ◌≤◌, ◌<◌, ◌^◌, inl, inr, ℕ, List, ◌∷◌, [], length, Option, None, Some, Result, Err, IfErr, Bool, true, false, if◌then◌else◌, refl, sym, ap, ◌∙◌, arith, subst}
use Rattle.std.specs.List.{list_all}
use Rattle.std.specs.Str.{is_utf8}
use Rattle.std.specs.Str.Lines.{lines}
use Rattle.tp_inputs.proofs.ConvertedEnds.{few_lines}
use Rattle.tp_io.specs.Held.{Held, bytes_of}
use Rattle.tp_check.specs.declared.refusal.CheckRefusal.{CheckRefusal}
use Rattle.tp_check.specs.declared.refusal.CheckRefusal.TheVariants as check
use Rattle.tp_meaning.specs.Interval.{kinds_of}
use Rattle.tp_show.specs.declared.named_fact.NamedFact.{NamedFact}
use Rattle.tp_show.proofs.TraceOnce.{one_trace}
use Rattle.tp_tree.specs.Tree.{SourceTree}
use Rattle.tp_verdict.specs.Verdict.{Verdict}
use Rattle.tp_verdict.specs.Trace.{WideFits}
use Rattle.tp_monitor.specs.WideOf.{NamedWide, wide_of_source}
use Rattle.tp_monitor.specs.Told.{state_limit}
use Rattle.tp_words.specs.declared.mode.Mode.{Mode}
use Rattle.tp_words.specs.declared.mode.Mode.TheVariants.{Check}
use Rattle.tp_words.specs.Options.{has_other}
use Rattle.tp_words.specs.Words.{Wanted, wanted_of, wanted_of_texts}
use Rattle.tp_words.proofs.WordsLemmas.{texts_limits}
use Rattle.tp_call.specs.declared.source.ReadRefusal.{ReadRefusal}
use Rattle.tp_call.specs.declared.source.ReadRefusal.TheVariants as read
use Rattle.tp_call.specs.declared.status.Refused.{Refused}
use Rattle.tp_call.specs.declared.status.Status.{Status}
use Rattle.tp_call.specs.declared.status.Status.TheVariants.{TraceTooLong, ReadFault}
use Rattle.tp_call.specs.declared.status.Which.{Which}
use Rattle.tp_call.specs.declared.status.Which.TheVariants.{Source, Other}
use Rattle.tp_call.specs.Source.{IsSourceText, IsNotWide, checker_refusal}
use Rattle.tp_call.specs.Reading.{read_end}
use Rattle.tp_call.specs.Parts.{IsTraceEnd, IsUnreadTrace, IsUnjudged, IsVerdictBy, IsProgramRefusal}
use Rattle.tp_call.specs.Files.{file_named, files_named}
use Rattle.tp_call.specs.Answer.{trace_limit, WhereTold, HoldsWide, HoldsTrace, HasBadTraceLine, HasManyStates, IsPastLimit, IsJudged, Serves, ReadsFile, Refuses}
use Rattle.tp_call.proofs.FileLemmas.{reads_by, reads_second}

-- a source of the grammar that is no wider formula
pub not_wide : (source : List ℕ) (tree : SourceTree) (refusal : CheckRefusal) → IsSourceText source tree → (refusal ≢ check.NoMemory → wide_of_source tree ≡ Err refusal)
    → (r : Refused) → checker_refusal source refusal ≡ Some r → IsNotWide source r
not_wide source tree refusal is outcome r answer = record {
  tree = tree;
  is_source = is;
  refusal = refusal;
  outcome = outcome (λ e. let bad : None ≡ Some r = sym (ap (checker_refusal source) e) ∙ answer in cc);
  answer = answer;
}

-- the trace that was read is refused
pub trace_refused : (held : Option Held) (name text : List ℕ) (status : Status) → length text ≤ trace_limit → WhereTold held (λ files. text ≡ bytes_of files name) → IsTraceEnd text status → IsUnreadTrace held name status
trace_refused held name text status short told (inl memory) = inl memory
trace_refused held name text status short told (inr (line, is, cause)) = inr (inr (inr (line, is, λ files at. subst (HasBadTraceLine line) (told files at) (short, cause))))

-- it can't be read
pub trace_unread : (held : Option Held) (name : List ℕ) (refusal : ReadRefusal) (status : Status) → status ≡ read_end refusal Other → (refusal ≡ read.TooLong → WhereTold held (λ files. IsPastLimit Other (bytes_of files name))) → IsUnreadTrace held name status
trace_unread held name read.TooLong status is long = inr (inr (inl (is, long refl)))
trace_unread held name read.Failed status is long = inr (inl is)
trace_unread held name read.NoMemory status is long = inl is

no_fault_of_trace : (text : List ℕ) (which : Which) → IsTraceEnd text (ReadFault which) → ⊥
no_fault_of_trace text which (inl memory) = cc
no_fault_of_trace text which (inr (line, is, cause)) = cc

pub no_trace_fault : {T : Type 0} (R : Type 0) (result : Result T Status) (text : List ℕ) → IfErr result (IsTraceEnd text) → (which : Which) → result ≡ Err (ReadFault which) → R
no_trace_fault R result text refused which e = absurd (no_fault_of_trace text which (subst (λ r. IfErr r (IsTraceEnd text)) e refused))

-- a trace of more states than are judged
pub many_states : (held : Option Held) (name : List ℕ) (trace : List (List NamedFact)) (states : ℕ) (status : Status) → WhereTold held (λ files. HoldsTrace trace (bytes_of files name)) → length trace ≡ states → state_limit < length trace → status ≡ TraceTooLong states
    → IsUnjudged held name status
many_states held name trace states status holds count more is = inr (states, is, λ files at. (trace, holds files at, count, subst (λ n. state_limit < n) count more))

-- the same trace twice
pub one_told : (bytes : List ℕ) (a b : List (List NamedFact)) → HoldsTrace a bytes → HoldsTrace b bytes → a ≡ b
one_told bytes a b g h = one_trace (lines bytes) (few bytes g.0) a b g.1 h.1
  where
    few : (bytes : List ℕ) → length bytes ≤ trace_limit → length (lines bytes) < 2 ^ 64
    few bytes short = let most = few_lines bytes in omega (arith, short, most)

pub not_many : {T : Type 0} (bytes : List ℕ) (trace : List (List NamedFact)) (states : ℕ) → HoldsTrace trace bytes → length trace ≤ state_limit → HasManyStates states bytes → T
not_many bytes trace states h within (other, holds, count, more) =
    let same : length trace ≡ length other = ap length (one_told bytes trace other h holds) in absurd (omega (arith, same, count, more, within))

with_name : (words : List (List ℕ)) (wanted : Wanted) (b : Bool) → (if b then wanted_of_texts words else None) ≡ Some wanted → has_other wanted.mode wanted.other ≡ true
with_name words wanted true is = (texts_limits words wanted is).2
with_name words wanted false is = cc

-- accepted words of a check name a trace
pub no_name_missing : (words : List (List ℕ)) (wanted : Wanted) → wanted_of words ≡ Some wanted → wanted.mode ≡ Check → wanted.other ≡ None → ⊥
no_name_missing words wanted is mode none =
    let has = with_name words wanted (list_all is_utf8 words) is in
    let bad : false ≡ true = sym (ap (λ (m : Mode). has_other m None) mode) ∙ ap (has_other wanted.mode) (sym none) ∙ has in cc

module _ (words : List (List ℕ)) (held : Option Held) (wanted : Wanted) (accepted : wanted_of words ≡ Some wanted) (mode : wanted.mode ≡ Check) (name : List ℕ) (named : wanted.other ≡ Some name) (wide : NamedWide)
    (source : WhereTold held (λ files. HoldsWide wide (bytes_of files wanted.file))) where
  reads_other : (P : List ℕ → Type 0) → WhereTold held (λ files. P (bytes_of files name)) → ReadsFile words (WhereTold held) Other (λ mode. P)
  reads_other P other =
      reads_second words (WhereTold held) (λ mode. P) wanted accepted Source Other wanted.file name []
      (reads_by wanted Check _ mode (ap (λ (n : Option (List ℕ)). file_named Source wanted.file ∷ files_named Other n) named))
      (λ files told. subst (λ (m : Mode). Serves m Source (bytes_of files wanted.file)) (sym mode) (wide, source files told)) other

  -- the refusal of the other file is one of the call
  no_verdict_here : (status : Status) → IsUnjudged held name status → IsProgramRefusal words held status
  no_verdict_here status (inl (inl memory)) = inl memory
  no_verdict_here status (inl (inr (inl is))) = inr (subst (Refuses words held) (sym is) (reads_other (λ other. Unit {0}) (λ files told. tt)))
  no_verdict_here status (inl (inr (inr (inl (is, long))))) = inr (subst (Refuses words held) (sym is) (reads_other (IsPastLimit Other) long))
  no_verdict_here status (inl (inr (inr (inr (line, is, cause))))) = inr (subst (Refuses words held) (sym is) (reads_other (HasBadTraceLine line) cause))
  no_verdict_here status (inr (states, is, cause)) = inr (subst (Refuses words held) (sym is) (reads_other (HasManyStates states) cause))

  -- where the files that were told before the read are these
  pub no_verdict : (mid : Option Held) → mid ≡ held → (status : Status) → IsUnjudged mid name status → IsProgramRefusal words held status
  no_verdict mid same status end = no_verdict_here status (subst (λ m. IsUnjudged m name status) same end)

  pub is_judged : (mid : Option Held) → mid ≡ held → (verdict : Verdict) → WideFits (kinds_of wide.globals) wide.formula → IsVerdictBy wide mid name verdict → IsJudged words held verdict
  is_judged mid same verdict fits by = record {
    wide = wide;
    trace = by.trace;
    asked = record { wanted = wanted; accepted = accepted; mode = mode; source = source; name = name; named = named; other = subst (λ m. WhereTold m (λ files. HoldsTrace by.trace (bytes_of files name))) same by.other };
    fits = fits;
    some_state = by.some_state;
    within = by.within;
    verdict_is = by.verdict_is;
  }
