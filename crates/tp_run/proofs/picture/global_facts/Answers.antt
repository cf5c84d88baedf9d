use Rattle.std.proofs.Common.{rules}
use Rattle.std.proofs.lemmas.List.Sorted.{answers_always}
use Rattle.tp_store.specs.Stock.{contents_in}
use Rattle.tp_show.specs.Line.{is_before}
use Rattle.tp_show.proofs.FactOrder.{is_before-order}
use Rattle.tp_run.proofs.GlobalFacts.{appended_sorted}
use Rattle.tp_run.proofs.picture.global_facts.Goals as goal

pub returns-clause-facts : goal.returns-clause-facts
returns-clause-facts c =
    let sorted = c.in_ok-sort_by.ensures.sorted is_before is_before-order (answers_always _ _ _ (λ f a r f' h. search rules)) in
    appended_sorted c.args.globals (contents_in c.args.store.now) _ _ _ c.sort_by.new.self.items c.in_ok-facts.ensures.sound c.in_ok-facts.ensures.ok c.new.ensures.items c.facts-2.view_is c.in_ok-sort_by.ensures.permutation sorted
