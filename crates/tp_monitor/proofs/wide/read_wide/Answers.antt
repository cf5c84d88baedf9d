use Rattle.tp_tree.specs.Read.{phrase_tree}
use Rattle.tp_monitor.proofs.Fitting.{answer_fits}
use Rattle.tp_monitor.proofs.wide.read_wide.Goals as goal

pub returns-clause-fits : goal.returns-clause-fits
returns-clause-fits c = answer_fits c.in_ok-globals.globals (phrase_tree c.args.source.now.main) c.read_main.result c.read_main.ensures
