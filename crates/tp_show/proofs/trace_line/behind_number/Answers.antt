use Rattle.std.proofs.Common.{◌≡◌, ◌++◌, ◌≢◌, List, ℕ, codes, subst, MatchOption, Bor}
use Rattle.tp_show.proofs.TraceLines.{behind_both, behind_none}
use Rattle.tp_show.proofs.trace_line.behind_number.Goals as goal

pub returns-in-Some : goal.returns-in-Some
returns-in-Some c =
    let y : List ℕ = c.in-Some.told.now in
    let colon : c.as_slice.result.now ≡ codes ":" = c.as_slice.ensures in
    let found = subst (λ (b : List ℕ). MatchOption c.behind-in-Some.result ((r : List ℕ) → y ≢ b ++ r) (λ (r : Bor (List ℕ)). y ≡ b ++ r.now)) colon c.behind-in-Some.ensures in
    behind_both c.args.text.now c.args.digits.now (codes ":") y c.behind-in-Some.result c.in-Some.ensures found

pub returns-in-None : goal.returns-in-None
returns-in-None c = behind_none c.args.text.now c.args.digits.now (codes ":") c.in-None.ensures
