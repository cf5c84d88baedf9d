use Rattle.std.proofs.Common.{◌≤◌, ℕ, List, sym, arith, subst, length}
use Rattle.std.proofs.lemmas.Grind.{common_steps}
use Rattle.tp_value.specs.Limits.{path_limit}
use Rattle.tp_show.specs.Trace.{SpellsPath}
use Rattle.tp_show.specs.TraceReading.{AreIndicesFound}
use Rattle.tp_show.proofs.TraceNames.{no_name_there, no_indices_there, too_many_there, path_there}
use Rattle.tp_show.proofs.trace_path.read_path.Goals as goal

pub returns-then-not-is_variable_name : goal.returns-then-not-is_variable_name
returns-then-not-is_variable_name c =
    no_name_there c.args.text.now c.split_at.result.0.now c.split_at.result.1.now c.name_len.result c.split_at.ensures.front c.split_at.ensures.back c.name_len.ensures.value (sym (c.if-not-is_variable_name.ensures))

pub returns-in_default : goal.returns-in_default
returns-in_default c =
    no_indices_there c.args.text.now c.split_at.result.0.now c.split_at.result.1.now c.name_len.result c.split_at.ensures.front c.split_at.ensures.back c.name_len.ensures.value
    (subst (AreIndicesFound c.split_at.result.1.now) c.in_default.is c.in_ok-at.ensures)

pub returns-then-len-gt-PATH_LIMIT : goal.returns-then-len-gt-PATH_LIMIT
returns-then-len-gt-PATH_LIMIT c =
    too_many_there c.args.text.now c.split_at.result.0.now c.split_at.result.1.now c.name_len.result c.split_at.ensures.front c.split_at.ensures.back c.name_len.ensures.value
    c.in-Some.at (subst (AreIndicesFound c.split_at.result.1.now) c.in-Some.is c.in_ok-at.ensures) (grind (arith, common_steps))

pub returns : goal.returns
returns c =
    let few : length c.in-Some.at ≤ path_limit = grind (arith, common_steps) in
    let there : SpellsPath c.args.text.now c.split_at.result.0.now c.in-Some.at =
    path_there c.args.text.now c.split_at.result.0.now c.split_at.result.1.now c.name_len.result c.split_at.ensures.front c.split_at.ensures.back c.name_len.ensures.value
    c.in-Some.at (sym (c.if-not-is_variable_name.ensures)) (subst (AreIndicesFound c.split_at.result.1.now) c.in-Some.is c.in_ok-at.ensures) few in
    subst (λ (name : List ℕ). SpellsPath c.args.text.now name c.in-Some.at) (sym c.in_ok-name.ensures) there
