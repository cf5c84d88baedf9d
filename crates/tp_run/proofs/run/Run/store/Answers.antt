use Rattle.tp_store.specs.Stock.{contents_in}
use Rattle.tp_run.proofs.Stores.{store_before}
use Rattle.tp_run.proofs.run.Run.store.Goals as goal

pub returns-clause-before : goal.returns-clause-before
returns-clause-before c = λ m h. store_before c.args.self.now.stand (contents_in c.args.self.now.store) m h
