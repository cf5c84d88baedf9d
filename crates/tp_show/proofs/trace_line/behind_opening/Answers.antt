use Rattle.std.proofs.Common.{◌≡◌, ◌++◌, ◌≢◌, List, ℕ, codes, ◌∙◌, subst, MatchOption, Bor}
use Rattle.std.specs.Fmt.{decimal}
use Rattle.tp_show.proofs.TraceLines.{behind_both, behind_none}
use Rattle.tp_show.proofs.trace_line.behind_opening.Goals as goal

pub returns-in-Some : goal.returns-in-Some
returns-in-Some c =
    let y : List ℕ = c.in-Some.numbered.now in
    let word : c.as_slice.result.now ≡ codes "state " = c.as_slice.ensures in
    let same : c.as_bytes-digits.result.now ≡ decimal c.args.number = c.as_bytes-digits.ensures.value ∙ c.format.ensures.text in
    let found = subst (λ (ds : List ℕ). MatchOption c.behind_number.result ((r : List ℕ) → y ≢ (ds ++ codes ":") ++ r) (λ (r : Bor (List ℕ)). y ≡ (ds ++ codes ":") ++ r.now)) same c.behind_number.ensures in
    let split : c.args.line.now ≡ codes "state " ++ y = subst (λ (x : List ℕ). c.args.line.now ≡ x ++ y) word c.in-Some.ensures in
    behind_both c.args.line.now (codes "state ") (decimal c.args.number ++ codes ":") y c.behind_number.result split found

pub returns-in-None : goal.returns-in-None
returns-in-None c =
    let word : c.as_slice.result.now ≡ codes "state " = c.as_slice.ensures in
    behind_none c.args.line.now (codes "state ") (decimal c.args.number ++ codes ":") (subst (λ (x : List ℕ). (r : List ℕ) → c.args.line.now ≢ x ++ r) word c.in-None.ensures)
