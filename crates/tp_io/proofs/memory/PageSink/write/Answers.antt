use Rattle.std.proofs.Common.{rules}
use Rattle.std.proofs.lemmas.List.{append-nil}
use Rattle.std.proofs.lemmas.Grind.{flat_map-append}
use Rattle.tp_io.proofs.Kept.{kept_within}
use Rattle.tp_io.proofs.memory.PageSink.write.Goals as goal

pub returns-in_ok-push-in-Some-clause-written : goal.returns-in_ok-push-in-Some-clause-written
returns-in_ok-push-in-Some-clause-written c =
    kept_within c.args.self.now.text _ _ c.in-Some.failure.kept (rw (c.in_ok-push-in-Some.ensures.items, ← c.self.view_is) (simp (flat_map-append, append-nil) (search rules)))
