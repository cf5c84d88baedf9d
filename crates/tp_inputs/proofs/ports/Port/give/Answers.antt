use Rattle.std.proofs.Common.{refl, sym, subst, ◌∙◌, ◌≡◌, ℕ, ◌≤◌, Bool, true, ◌||◌, nat_lt, List, [], ◌∷◌, length, Some, Result, Ok, Err, arith}
use Rattle.std.specs.Prelude.{OnOk}
use Rattle.std.proofs.lemmas.Bool.Decides.{nat_tests}
use Rattle.tp_value.specs.Read.{tree}
use Rattle.tp_value.specs.Tree.{Tree}
use Rattle.tp_value.specs.declared.refusal.NoMemory.{NoMemory}
use Rattle.tp_meaning.specs.Inputs.{InputRow, InputPort, row_value}
use Rattle.tp_inputs.specs.declared.span.Span.{Span}
use Rattle.tp_inputs.specs.declared.span.Span.TheVariants.{States}
use Rattle.tp_inputs.specs.Bounds.{IsSpan}
use Rattle.tp_inputs.specs.Moves.{GivesRows, GivesPort}
use Rattle.tp_inputs.proofs.RowLemmas.{inside_range}
use Rattle.tp_inputs.proofs.ports.Port.give.Goals as goal

told_by : (rows : List InputRow) (n : ℕ) (v : Tree) (d : Bool) → row_value rows n ≡ Some v → nat_lt 0 (length rows) || d ≡ true
told_by [] n v d e = absurd cc
told_by (r ∷ rs) n v d e = let some : nat_lt 0 (length (r ∷ rs)) ≡ true = grind (arith, nat_tests) in rw some refl

given : (a b : ℕ) (v : Tree) (p q : InputPort) → a ≤ b → q.default ≡ p.default → GivesRows a b v p.rows q.rows → GivesPort (States a b) v p q
given a b v p q low same g = record {
  apart = g.apart;
  told = told_by q.rows a v _ (g.has a ∙ rw (inside_range a b a (omega arith) low) refl);
  has = g.has;
  default = same;
}

on_ok : (a b : ℕ) (v : Tree) (span : Span) (p q : InputPort) (r : Result (Unit {0}) NoMemory) → span ≡ States a b → a ≤ b → q.default ≡ p.default → OnOk r (GivesRows a b v p.rows q.rows) → OnOk r (GivesPort span v p q)
on_ok a b v span p q (Ok u) e low same g = subst (λ (s : Span). GivesPort s v p q) (sym e) (given a b v p q low same g)
on_ok a b v span p q (Err x) e low same g = tt

pub returns-in-States : goal.returns-in-States
returns-in-States c = on_ok c.in-States.first c.in-States.last (tree c.args.value) c.args.span _ _ c.give.result c.in-States.is (subst IsSpan c.in-States.is c.requires.span).0 refl c.give.ensures
