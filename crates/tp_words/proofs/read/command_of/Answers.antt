use Rattle.clap.specs.Words.{found_of}
use Rattle.tp_words.proofs.AppLemmas.{taken, refused}
use Rattle.tp_words.proofs.read.command_of.Goals as goal

pub returns-in-Ok-clause-accepted : goal.returns-in-Ok-clause-accepted
returns-in-Ok-clause-accepted c =
    let same = taken _ _ c.in_ok-app.ensures (found_of c.in-Ok.matches) c.in-Ok.ensures.matches c.in-Ok.ensures.kinds in
    rw same c.command_in.ensures.accepted

pub returns-in-Ok-clause-refused : goal.returns-in-Ok-clause-refused
returns-in-Ok-clause-refused c =
    let same = taken _ _ c.in_ok-app.ensures (found_of c.in-Ok.matches) c.in-Ok.ensures.matches c.in-Ok.ensures.kinds in
    rw same c.command_in.ensures.refused

pub returns-in-Err-clause-refused : goal.returns-in-Err-clause-refused
returns-in-Err-clause-refused c = λ h. refused _ _ c.in_ok-app.ensures c.in-Err.error (c.refusal_for.ensures h) c.in-Err.ensures.kinds
