use Rattle.std.proofs.Common.{None, List, ap, ◌∙◌}
use Rattle.tp_value.specs.declared.path.Fact.{Fact}
use Rattle.tp_store.specs.Known.{full}
use Rattle.tp_show.specs.Line.{parts_by}
use Rattle.tp_run.proofs.GlobalFacts.{parts_are}
use Rattle.tp_run.proofs.picture.settled_picture.Goals as goal

pub returns-clause-parts : goal.returns-clause-parts
returns-clause-parts c =
    c.in_ok-parts.ensures
    ∙ (ap (λ (fs : List Fact). parts_by (full c.args.store.now.facts) None fs) (c.as_slice.ensures.value ∙ c.facts.view_is)
    ∙ parts_are c.args.globals c.args.store.now.facts c.in_ok-facts.facts c.in_ok-facts.ensures.sound c.in_ok-facts.ensures.facts)
