use Rattle.std.proofs.Common.{refl, [], ap, sym, ◌∙◌, ◌≡◌, Some, None}
use Rattle.std.specs.Option.{option_map}
use Rattle.tp_inputs.specs.declared.span.Span.{Span}
use Rattle.tp_inputs.specs.declared.span.Span.TheVariants.{States, Others}
use Rattle.tp_inputs.specs.declared.ports.Port.{Port}
use Rattle.tp_inputs.specs.Spans.{port_meets}
use Rattle.tp_inputs.specs.Model.{named_port}
use Rattle.tp_inputs.proofs.PortLemmas.{named, met, rows_apart}
use Rattle.tp_inputs.proofs.ports.Ports.has.Goals as goal

pub meets-requires : goal.meets-requires
meets-requires c =
    let es = c.args.self.now.by_name.entries in
    rows_apart es c.args.port.now c.in-Some.known.now c.requires (ap (λ z. named z es) (sym c.as_slice.ensures) ∙ sym c.in-Some.ensures.value)

pub returns-in-Some : goal.returns-in-Some
returns-in-Some c =
    let es = c.args.self.now.by_name.entries in
    let some : named c.args.port.now es ≡ Some c.in-Some.known.now = ap (λ z. named z es) (sym c.as_slice.ensures) ∙ sym c.in-Some.ensures.value in
    c.meets.ensures ∙ (without_name c.args.span c.in-Some.known.now ∙ sym (met es c.args.span c.args.port.now ∙ ap (λ o. port_meets (option_map (named_port c.args.port.now) o) c.args.span) some))
  where
    without_name : (span : Span) (p : Port) → port_meets (Some (named_port [] p)) span ≡ port_meets (Some (named_port c.args.port.now p)) span
    without_name (States a b) p = refl
    without_name Others p = refl

pub returns-in-None : goal.returns-in-None
returns-in-None c =
    let es = c.args.self.now.by_name.entries in
    let none : named c.args.port.now es ≡ None = ap (λ z. named z es) (sym c.as_slice.ensures) ∙ sym c.in-None.ensures.value in
    sym (met es c.args.span c.args.port.now ∙ ap (λ o. port_meets (option_map (named_port c.args.port.now) o) c.args.span) none)
