use Rattle.std.proofs.Common.{◌≡◌, ℕ, Bool, length, true, false, if◌then◌else◌, ◌∙◌, sym, ap, arith}
use Rattle.tp_tree.specs.declared.operator.Form.{Form}
use Rattle.tp_tree.specs.declared.phrase.Phrases.{Phrases, out-Phrases}
use Rattle.tp_tree.specs.Read.{phrase_trees}
use Rattle.tp_check.specs.declared.refusal.CheckRefusal.{CheckRefusal}
use Rattle.tp_check.specs.declared.refusal.CheckRefusal.TheVariants.{WrongCount}
use Rattle.tp_scope.specs.Phrases.{takes, phrase_count}
use Rattle.tp_scope.proofs.Several.{count_of}
use Rattle.tp_check.proofs.refusals.miscounted_or.Goals as goal

-- whether so many operands are taken says which refusal it is
by_count : (at : ℕ) (form : Form) (ps : Phrases) (other : CheckRefusal) (n : ℕ) (b : Bool) → n ≡ length (out-Phrases ps).items.items → takes form n ≡ b → (if b then other else WrongCount at) ≡ (if takes form (phrase_count (phrase_trees ps)) then other else WrongCount at)
by_count at form ps other n b e is = ap (λ (x : Bool). if x then other else WrongCount at) (sym (ap (takes form) (sym (e ∙ sym (count_of ps))) ∙ is))

pub returns-then-takes : goal.returns-then-takes
returns-then-takes c = λ names. by_count c.args.at c.args.form c.args.operands.now c.args.other c.len.result true (omega (arith, c.len.ensures, (out-Phrases c.args.operands.now).items.ok.0)) (sym c.takes.ensures ∙ c.if-takes.true)

pub returns-else-takes : goal.returns-else-takes
returns-else-takes c = λ names. by_count c.args.at c.args.form c.args.operands.now c.args.other c.len.result false (omega (arith, c.len.ensures, (out-Phrases c.args.operands.now).items.ok.0)) (sym c.takes.ensures ∙ c.if-takes.false)
