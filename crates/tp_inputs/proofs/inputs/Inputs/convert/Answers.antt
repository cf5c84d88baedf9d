use Rattle.tp_inputs.specs.Read.{inputs_of}
use Rattle.tp_inputs.proofs.ConvertLemmas.{read_back}
use Rattle.tp_inputs.proofs.inputs.Inputs.convert.Goals as goal

pub returns-clause-read_back : goal.returns-clause-read_back
returns-clause-read_back c =
    read_back c.append_defaults.result c.args.out.now c.append.new.self c.append_rows.new.out c.append_defaults.new.out (inputs_of c.args.self.now) c.in_ok-append.ensures.ok c.in_ok-append_rows.ensures c.append_defaults.ensures
