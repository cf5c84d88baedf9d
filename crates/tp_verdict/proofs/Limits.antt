-- Where all variables are known, nothing waits.
use Rattle.std.proofs.Common.{◌≡◌, refl, ◌-◌, Bool, true, false, List, [], length, if◌then◌else◌}
use Rattle.tp_value.specs.declared.path.Path.{Path}
use Rattle.tp_value.specs.declared.path.Fact.{Fact}
use Rattle.tp_kernel.specs.declared.fault.LimitKind.{LimitKind}
use Rattle.tp_meaning.specs.Syntax.{ExprTree}
use Rattle.tp_meaning.specs.Fits.{ExprFits}
use Rattle.tp_store.specs.Known.{NoClash}
use Rattle.tp_eval.specs.Outcome.{Outcome, value, wait, fault, over, outcome}
use Rattle.tp_eval.proofs.OutcomesAre.{waits_are_undecided}
use Rattle.tp_verdict.specs.Verdict.{Verdict, undecided, no}
use Rattle.tp_verdict.specs.Trace.{verdict, is_torn, known_in, known_outcome, AreAllKnown}
use Rattle.tp_verdict.specs.VerdictLaws.{StaysOpen, UndecidedByLimits}
use Rattle.tp_verdict.proofs.Right.{known_apart, undecided_where_open}
use Rattle.tp_verdict.proofs.WholeKnown.{full_there}
use Rattle.tp_verdict.proofs.Waiting.{waits_for_variables}

never_waits : (kinds : List Bool) (facts : List Fact) → NoClash facts → AreAllKnown kinds facts → (e : ExprTree) → ExprFits [] kinds e 0 → (p : Path) → outcome facts [] e [] ≡ wait p → ⊥
never_waits kinds facts apart all e fits p q =
    let r = all p.var (waits_for_variables facts kinds e fits p q) in
    full_there facts (record { var = p.var; at = [] }) r.0 r.1 p.at (waits_are_undecided facts [] e [] p apart q)

passes : (kinds : List Bool) (facts : List Fact) → NoClash facts → AreAllKnown kinds facts → (e : ExprTree) → ExprFits [] kinds e 0
    → (o : Outcome) → outcome facts [] e [] ≡ o → StaysOpen o → (k : LimitKind) × (outcome facts [] e [] ≡ over k)
passes kinds facts apart all e fits (value t) q h = absurd h
passes kinds facts apart all e fits (wait p) q h = absurd (never_waits kinds facts apart all e fits p q)
passes kinds facts apart all e fits (fault k) q h = absurd h
passes kinds facts apart all e fits (over k) q h = (k, q)

not_torn : (t : Bool) (v : Verdict) → (if t then no else v) ≡ undecided → t ≡ false
not_torn true v h = absurd (cc)
not_torn false v h = refl

pub undecided_by_limits : UndecidedByLimits
undecided_by_limits kinds w trace fits some all h =
    let r = undecided_where_open w trace some h in
    let whole : is_torn trace ≡ false = not_torn (is_torn trace) (verdict (known_outcome trace) w 0 (length trace - 1)) h in
    let apart = known_apart trace whole r.2 r.3 in
    let last = passes kinds (known_in trace r.2) apart (all r.2 r.3) r.0 (fits r.0 r.1) (known_outcome trace r.2 r.0) refl r.4 in
    (r.0, r.1, r.2, r.3, last.0, last.1)
