use Rattle.std.proofs.Common.{◌≡◌, ◌++◌, None, drop, map}
use Rattle.std.specs.Option.{option_copied}
use Rattle.tp_store.specs.Known.{full}
use Rattle.tp_show.specs.Line.{plain_part, parts_by}
use Rattle.tp_show.proofs.parts.known_parts.Given as goal

abbrev pub invariant-loop-fact : goal.invariant-loop-fact
invariant-loop-fact l =
    map plain_part l.items.items ++ parts_by (full l.store.facts) (option_copied l.last) (drop l.fact-index l.facts) ≡ parts_by (full l.store.facts) None l.facts
