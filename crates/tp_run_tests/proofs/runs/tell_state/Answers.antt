use Rattle.tp_run_tests.proofs.runs.tell_state.Goals as goal

pub returns : goal.returns
returns g c =
    let plan = c.requires.0 in
    (plan, c.state.ensures.run plan c.requires.1)
