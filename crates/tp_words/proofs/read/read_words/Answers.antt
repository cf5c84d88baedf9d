use Rattle.std.proofs.lemmas.Result.{IfOk-weaker}
use Rattle.tp_words.specs.Command.{wanted_by}
use Rattle.tp_words.proofs.WordsLemmas.{texts_limits}
use Rattle.tp_words.proofs.read.read_words.Goals as goal

pub returns-clause-states : goal.returns-clause-states
returns-clause-states c = IfOk-weaker c.command_of.result _ _ (λ command is. (texts_limits _ (wanted_by command) is).0) c.command_of.ensures.accepted

pub returns-clause-reductions : goal.returns-clause-reductions
returns-clause-reductions c = IfOk-weaker c.command_of.result _ _ (λ command is. (texts_limits _ (wanted_by command) is).1) c.command_of.ensures.accepted

pub returns-clause-other : goal.returns-clause-other
returns-clause-other c = IfOk-weaker c.command_of.result _ _ (λ command is. (texts_limits _ (wanted_by command) is).2) c.command_of.ensures.accepted

pub returns-clause-size : goal.returns-clause-size
returns-clause-size c = IfOk-weaker c.command_of.result _ _ (λ command is. (texts_limits _ (wanted_by command) is).3) c.command_of.ensures.accepted
