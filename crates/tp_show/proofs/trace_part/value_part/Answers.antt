use Rattle.std.proofs.Common.{subst}
use Rattle.tp_show.specs.TraceReading.{IsPathFound, IsValueFound}
use Rattle.tp_show.proofs.trace_part.value_part.Goals as goal

pub returns-in_default : goal.returns-in_default
returns-in_default c = λ p rest v. (subst (IsPathFound c.args.path.now) c.in_default.is c.in_ok-path.ensures) v.name v.at v.spelled_path

pub returns-in_default-2 : goal.returns-in_default-2
returns-in_default-2 c = λ p rest v. (subst (IsValueFound c.args.text.now) c.in_default-2.is c.in_ok-value.ensures) v.value rest v.spelled
