use Rattle.std.proofs.Common.{◌≡◌, ◌++◌, take, map}
use Rattle.std.specs.List.{flat_map}
use Rattle.tp_decide.specs.Read.{values_of}
use Rattle.tp_show.specs.Line.{show_line}
use Rattle.tp_show.specs.Told.{AreShowsInRange}
use Rattle.tp_show.proofs.line.append_shows.Given as goal

abbrev pub invariant-loop-values : goal.invariant-loop-values
invariant-loop-values l =
    (l.out ≡ l.initial.out ++ flat_map show_line (map values_of (take l.values-index l.values-items))) × AreShowsInRange (map values_of (take l.values-index l.values-items))
