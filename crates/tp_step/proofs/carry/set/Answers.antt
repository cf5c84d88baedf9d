use Rattle.std.proofs.Common.{ℕ, ◌<◌, arith, sym, subst}
use Rattle.std.specs.Prelude.{IfOk}
use Rattle.tp_scene.specs.Scene as S
use Rattle.tp_scene.specs.Step.{PickOutcome, added}
use Rattle.tp_step.specs.Chosen.{Carries}
use Rattle.tp_value.specs.Tree.{Tree}
use Rattle.tp_value.specs.Read.{tree}
use Rattle.tp_store.specs.Operand.{operand_tree}
use Rattle.tp_store.specs.Facts.{facts_at}
use Rattle.tp_store.specs.Known.{Addition, addition}
use Rattle.tp_store.specs.Stock.{contents_in}
use Rattle.tp_step.specs.Answers.{moment_of}
use Rattle.tp_step.proofs.CarryLemmas.{added_alone, added_facts, allowed}
use Rattle.tp_step.proofs.carry.set.Goals as goal

pub returns-in-Ok-clause-ok : goal.returns-in-Ok-clause-ok
returns-in-Ok-clause-ok c =
    let k = contents_in c.args.store.now in
    let news = c.in-Ok.ensures.added in
    let more : 0 < c.args.room = omega (arith, c.if-room-eq0.false) in
    added_facts (addition k.facts (facts_at c.args.target.0 (operand_tree c.args.target.1))) c.in-Ok.facts c.args.room c.args.scene.now c.learn.new.scene k (contents_in c.set.new.self) c.args.item c.learn.result more
    c.in-Ok.ensures.news (record { kept = news.shapes; no_clash = c.set.ensures.sound.no_clash; variables = news.variables }) c.learn.ensures.answer

pub returns-then-room-eq0-clause-ok : goal.returns-then-room-eq0-clause-ok
returns-then-room-eq0-clause-ok c =
    let m = moment_of c.args.scene.now (contents_in c.args.store.now) in
    let o : Addition = addition c.args.store.now.facts (facts_at c.args.target.0 (tree c.seen.result.now)) in
    let P : PickOutcome → ℕ → Type 0 = λ row n. IfOk c.full_or_refused.result (Carries row n m c.args.item m) in
    let Q : Tree → Type 0 = λ t. P (added (addition c.args.store.now.facts (facts_at c.args.target.0 t))) c.args.room in
    subst Q c.seen.ensures (subst (P (added o)) (sym c.if-room-eq0.true)
    (subst (λ row. P row 0) (added_alone o) (c.full_or_refused.ensures S.none 0 o m c.args.item (allowed o c.check.result c.check.ensures.ok c.check.ensures.refused))))
