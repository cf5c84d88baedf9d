use Rattle.std.proofs.lemmas.Result.{on_ok_weaker}
use Rattle.tp_store.proofs.PortionViews.{seen_appended}
use Rattle.tp_store.proofs.portion.Portion.copy_below.Goals as goal

pub returns : goal.returns
returns c =
    on_ok_weaker c.copy_wholes.result
    (seen_appended c.self.inside.lasting c.self.inside.parts c.self.inside.wholes.entries _ c.self.view_is c.self.invariant c.args.below c.args.facts.now.items c.copy_below.new.facts.items c.copy_wholes.new.facts.items c.in_ok-copy_below.ensures)
    c.copy_wholes.ensures
