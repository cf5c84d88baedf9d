-- What the end of a run says of every interval.
use Rattle.std.proofs.Common.{List}
use Rattle.tp_meaning.specs.Fits.{ProgramFits}
use Rattle.tp_show.specs.declared.turn.Picture.{Picture}
use Rattle.tp_show.specs.declared.turn.Turn.{Turn}
use Rattle.tp_show.specs.declared.turn.Turn.TheVariants as turn
use Rattle.tp_run.specs.History.{RunEndsWith, Plan}
use Rattle.tp_run.specs.Advances.{EndOfRunMeans}
use Rattle.tp_run.proofs.Given.{scene_laws, begin_laws, state_laws}
use Rattle.tp_run.proofs.HistoryLemmas.{end_means}
use Rattle.tp_call.specs.Run.{EndSays}

means : (plan : Plan) (pictures : List Picture) (answer : Turn) → ProgramFits plan.program → RunEndsWith plan pictures answer → EndOfRunMeans plan pictures answer
means plan pictures answer fits e = end_means scene_laws begin_laws state_laws plan fits pictures answer e

-- The end of a run says of every interval what it has to say.
pub end_says : (plan : Plan) (pictures : List Picture) (answer : Turn) → ProgramFits plan.program → RunEndsWith plan pictures answer → EndSays plan pictures answer
end_says plan pictures turn.Went fits e = absurd e
end_says plan pictures (turn.Finished n) fits e = means plan pictures (turn.Finished n) fits e
end_says plan pictures (turn.Contradictory state clash) fits e = means plan pictures (turn.Contradictory state clash) fits e
end_says plan pictures (turn.Undetermined state cell) fits e = means plan pictures (turn.Undetermined state cell) fits e
end_says plan pictures (turn.StateLimit states) fits e = means plan pictures (turn.StateLimit states) fits e
end_says plan pictures (turn.InputMissing state port) fits e = means plan pictures (turn.InputMissing state port) fits e
end_says plan pictures (turn.Over state limit) fits e = means plan pictures (turn.Over state limit) fits e
