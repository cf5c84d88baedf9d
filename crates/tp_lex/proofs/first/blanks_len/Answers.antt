use Rattle.std.proofs.Common.{ℕ, sym, subst, ◌∙◌, ◌≤◌, length}
use Rattle.std.proofs.lemmas.List.Sums.{prefix_len-le-length}
use Rattle.tp_lex.proofs.BlankLemmas.{blank_run}
use Rattle.tp_lex.proofs.first.blanks_len.Goals as goal

pub returns-clause-value : goal.returns-clause-value
returns-clause-value c = c.run_len.ensures ∙ blank_run c.args.text.now

pub returns-clause-within : goal.returns-clause-within
returns-clause-within c = subst (λ (n : ℕ). n ≤ length c.args.text.now) (sym c.run_len.ensures) (prefix_len-le-length _ c.args.text.now)
