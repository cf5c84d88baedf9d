use Rattle.tp_residual.proofs.OnePhrase.{alike_moments_have_one_phrase as law}
use Rattle.tp_residual.proofs.laws.alike_moments_have_one_phrase.Goals as goal

pub returns : goal.returns
returns c = law
