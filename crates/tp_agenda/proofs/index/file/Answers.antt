use Rattle.tp_agenda.proofs.Waits.{filed_once, filed_twice}
use Rattle.tp_agenda.proofs.index.file.Goals as goal

pub returns-in-None : goal.returns-in-None
returns-in-None c = record {
  filed = λ waits over len h. filed_once c.args.index.now c.file_cell.new.index waits over c.args.wait.now c.args.place len h c.in_ok-file_cell.ensures.ok c.in_ok-file_cell.ensures.links c.in-None.is;
}

pub returns-in_ok-file_cell-in-Some : goal.returns-in_ok-file_cell-in-Some
returns-in_ok-file_cell-in-Some c = record {
  filed = λ waits over len h. filed_twice c.args.index.now c.file_cell.new.index c.file_cell-in-Some.new.index waits over c.args.wait.now c.args.place c.in-Some.cell len h
      c.in_ok-file_cell.ensures.ok c.in_ok-file_cell.ensures.links c.in_ok-file_cell-in-Some.ensures.ok c.in_ok-file_cell-in-Some.ensures.links c.in-Some.is;
}
