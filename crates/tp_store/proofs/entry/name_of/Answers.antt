use Rattle.std.proofs.Common.{arith}
use Rattle.tp_store.proofs.EntryLemmas.{name_read, no_name, other_name, beq_same, beq_other}
use Rattle.tp_store.proofs.entry.name_of.Goals as goal
use Rattle.tp_store.proofs.entry.name_of.Goals.{then-place-entries+else-entry-var, else-place-entries}

pub returns-then-entry-var : goal.returns-then-entry-var
returns-then-entry-var c = name_read c.args.entries.now c.args.var.number c.args.var.lasting c.index-entries-place.result c.if-place-entries.true c.index-entries-place.is (beq_same _ _ c.if-entry-var.true)

pub returns : goal.returns
returns c =
    elim c.if-place-entries.branch [
      | then-place-entries+else-entry-var w ↦ other_name c.args.entries.now c.args.var.number c.args.var.lasting w.index-entries-place.result w.if-place-entries.true w.index-entries-place.is (beq_other _ _ w.if-entry-var.false)
      | else-place-entries w ↦ no_name c.args.entries.now c.args.var.number c.args.var.lasting (omega arith)
    ]
