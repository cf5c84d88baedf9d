use Rattle.std.proofs.Common.{ap, sym, ◌∙◌, ◌≡◌, Some, None}
use Rattle.std.specs.Option.{option_map, option_or}
use Rattle.tp_value.specs.Read.{tree}
use Rattle.tp_meaning.specs.Inputs.{row_value}
use Rattle.tp_inputs.proofs.PortLemmas.{named, rows_in, default_in, value_at, rows_apart}
use Rattle.tp_inputs.proofs.ports.Ports.at.Goals as goal

pub returns-in_err-get : goal.returns-in_err-get
returns-in_err-get c =
    let es = c.args.self.now.by_name.entries in
    let none : named c.args.port.now es ≡ None = ap (λ z. named z es) (sym c.as_slice.ensures) ∙ sym c.in_err-get.ensures.value in
    ap (option_map (λ v. tree v.now)) c.from_residual.ensures ∙ sym (value_at es c.args.state c.args.port.now ∙ ap (λ o. option_or (row_value (rows_in o) c.args.state) (default_in o)) none)

pub at-requires : goal.at-requires
at-requires c =
    let es = c.args.self.now.by_name.entries in
    rows_apart es c.args.port.now c.in_ok-get.field-0.now c.requires (ap (λ z. named z es) (sym c.as_slice.ensures) ∙ sym c.in_ok-get.ensures.value)

pub returns : goal.returns
returns c =
    let es = c.args.self.now.by_name.entries in
    let some : named c.args.port.now es ≡ Some c.in_ok-get.field-0.now = ap (λ z. named z es) (sym c.as_slice.ensures) ∙ sym c.in_ok-get.ensures.value in
    c.at.ensures ∙ sym (value_at es c.args.state c.args.port.now ∙ ap (λ o. option_or (row_value (rows_in o) c.args.state) (default_in o)) some)
