use Rattle.std.proofs.Common.{◌≡◌}
use Rattle.tp_show.proofs.clash.append_clash.Goals as goal

pub returns-in-Marks : goal.returns-in-Marks
returns-in-Marks c = let e : c.from.result ≡ c.in-Marks.depth = cc in rw (c.in-Marks.is, ← e) c.append_counted.ensures.text
