use Rattle.std.proofs.Common.{◌+◌, inl, inr, arith, sym, ◌∙◌}
use Rattle.std.proofs.lemmas.Grind.{common_steps}
use Rattle.std.proofs.lemmas.List.{length-map}
use Rattle.tp_io.proofs.Numbers.{contains_found}
use Rattle.tp_io.proofs.memory.ShelfFiles.read.Goals as goal
use Rattle.tp_io.proofs.memory.ShelfFiles.read.Goals.{then-contains, else-contains}

pub returns-in_ok-push-in-None-clause-fails_only :
    goal.returns-in_ok-push-in-None-clause-fails_only
returns-in_ok-push-in-None-clause-fails_only c =
    λ _. elim c.if-contains.branch [
      | then-contains w ↦
          inl (rw (← c.self.view_is) (contains_found c.self.inside.failing.items (c.len.result + 1) _ (rw (← c.deref.ensures.value) (sym c.contains.ensures.value ∙ w.if-contains.true)) (simp length-map (omega arith))))
      | else-contains w ↦ inr (grind (arith, common_steps))
    ]
