use Rattle.std.proofs.Common.{ap, ◌∙◌, ◌≡◌, min}
use Rattle.tp_inputs.proofs.LastEntry.{last_in, last_low, last_meeting, none_meeting}
use Rattle.tp_inputs.proofs.ranges.Ranges.last_begun.Goals as goal

pub returns-in-Some : goal.returns-in-Some
returns-in-Some c =
    let vs = c.args.self.now.values.items in
    let m = c.args.self.now.rows in
    let capped : c.min-state.result ≡ min c.args.state 4294967295 = c.min-state.ensures ∙ ap (min c.args.state) c.from.ensures in
    let is = c.range.ensures.in_range tt in
    let ends = c.in-Some.ensures.steps in (
      last_in vs m c.args.state c.min-state.result c.range.result capped is c.requires c.args.self.now.placed _ _ c.next_back.new.self ends,
      last_low vs m c.args.state c.min-state.result c.range.result capped is c.requires c.args.self.now.placed _ _ c.next_back.new.self ends,
      last_meeting vs m c.args.state c.min-state.result c.range.result capped is c.requires c.args.self.now.placed _ _ c.next_back.new.self ends,
    )

pub returns-in-None : goal.returns-in-None
returns-in-None c =
    let capped : c.min-state.result ≡ min c.args.state 4294967295 = c.min-state.ensures ∙ ap (min c.args.state) c.from.ensures in
    none_meeting c.args.self.now.values.items c.args.self.now.rows c.args.state c.min-state.result c.range.result capped (c.range.ensures.in_range tt) c.requires c.args.self.now.placed c.in-None.ensures.steps.0
