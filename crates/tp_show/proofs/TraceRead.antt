-- What reading a text comes to that a run prints.
use Rattle.std.proofs.Common.{◌≡◌, ◌≤◌, ◌<◌, ◌^◌, ◌==◌, cond, ℕ, List, [], ◌∷◌, length, map, Bool, true, false, Result, Ok, Err, IfOk, IfErr, inl, inr, refl, sym, ap, subst, arith}
use Rattle.std.specs.Str.Lines.{lines, lines_of_parts}
use Rattle.std.specs.List.{slice_split}
use Rattle.std.proofs.lemmas.List.Splits.{length-slice_split}
use Rattle.std.proofs.lemmas.List.Sums.{count_by-le-length}
use Rattle.tp_show.specs.declared.named_fact.NamedFact.{NamedFact}
use Rattle.tp_show.specs.declared.trace.TraceRefusal.{TraceRefusal}
use Rattle.tp_show.specs.declared.trace.TraceRefusal.TheVariants.{BadLine, NoMemory}
use Rattle.tp_show.specs.Trace.{IsTraceText, named_facts}
use Rattle.tp_show.specs.TraceRefused.{IsTraceRefusal}
use Rattle.tp_show.specs.TraceOfRun.{PrintedState, ReadsPrinted}
use Rattle.tp_show.proofs.TraceOnce.{one_trace, no_bad_trace}
use Rattle.tp_show.specs.TraceArranged.{ReadsArranged, HaveFactsOf}
use Rattle.tp_show.proofs.PrintedStates.{traces_tell_facts, arranged_facts, arranged_states, have_facts}

lines_in : (parts : List (List ℕ)) → length (lines_of_parts parts) ≤ length parts
lines_in [] = omega arith
lines_in (x ∷ []) = one (length x == 0)
  where
    one : (b : Bool) → length (cond b [] (x ∷ [])) ≤ 1
    one true = omega arith
    one false = omega arith
lines_in (x ∷ y ∷ more) = let rest = lines_in (y ∷ more) in omega (arith, rest)

-- a text has hardly more lines than bytes
few_lines : (bytes : List ℕ) → length bytes < 2 ^ 63 → length (lines bytes) < 2 ^ 64
few_lines bytes small =
    let parts = slice_split (λ b. b == 10) bytes in
    let few = lines_in parts in
    let count = length-slice_split (λ b. b == 10) bytes in
    let within = count_by-le-length (λ b. b == 10) bytes in
    omega (arith, few, count, within, small)

pub reads_printed : (bytes : List ℕ) (result : Result (List (List NamedFact)) TraceRefusal) → length bytes < 2 ^ 63 → IfOk result (IsTraceText bytes) → IfErr result (IsTraceRefusal bytes) → ReadsPrinted bytes result
reads_printed bytes (Ok trace) small is refused names are states each count some end ending e =
    let told : List (List NamedFact) = map (λ (s : PrintedState). named_facts names s.picture) states in
    let printed = subst (λ (b : List ℕ). IsTraceText b told) (sym e) (traces_tell_facts.printed names are states each count some end ending) in
    inl (ap Ok (one_trace (lines bytes) (few_lines bytes small) trace told is printed))
reads_printed bytes (Err NoMemory) small is refused names are states each count some end ending e = inr refl
reads_printed bytes (Err (BadLine line)) small is refused names are states each count some end ending e =
    let told : List (List NamedFact) = map (λ (s : PrintedState). named_facts names s.picture) states in
    absurd (no_bad_trace (lines bytes) told line (subst (λ (b : List ℕ). IsTraceText b told) (sym e) (traces_tell_facts.printed names are states each count some end ending)) refused)

-- ---- where the parts of lines stand in some order

pub reads_arranged : (bytes : List ℕ) (result : Result (List (List NamedFact)) TraceRefusal) → length bytes < 2 ^ 63 → IfOk result (IsTraceText bytes) → IfErr result (IsTraceRefusal bytes) → ReadsArranged bytes result
reads_arranged bytes (Ok trace) small is refused names are states each count some end ending e =
    let told : List (List NamedFact) = map (arranged_facts names are) states in
    let arranged = subst (λ (b : List ℕ). IsTraceText b told) (sym e) (arranged_states names are states each count some end ending) in
    let same : trace ≡ told = one_trace (lines bytes) (few_lines bytes small) trace told is arranged in
    inl (trace, refl, subst (HaveFactsOf names states) (sym same) (have_facts names are states each))
reads_arranged bytes (Err NoMemory) small is refused names are states each count some end ending e = inr refl
reads_arranged bytes (Err (BadLine line)) small is refused names are states each count some end ending e =
    let told : List (List NamedFact) = map (arranged_facts names are) states in
    absurd (no_bad_trace (lines bytes) told line (subst (λ (b : List ℕ). IsTraceText b told) (sym e) (arranged_states names are states each count some end ending)) refused)
