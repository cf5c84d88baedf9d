use Rattle.std.proofs.Common.{◌≡◌, map, take}
use Rattle.tp_slots.specs.Row.{hold_all}
use Rattle.tp_slots.specs.Read.{region_slot_of, what_of}
use Rattle.tp_slots.proofs.put.hold_news.Given as goal

abbrev pub invariant-loop-i : goal.invariant-loop-i
invariant-loop-i l = record {
  holders : map (λ x. x.holder) l.list ≡ hold_all l.first (map (λ x. what_of x.what) (take l.i l.news)) (map (λ x. x.holder) l.fn.list);
  slots : map region_slot_of l.list ≡ map region_slot_of l.fn.list;
  ends : map (λ x. x.ends_now) l.list ≡ map (λ x. x.ends_now) l.fn.list;
  goes : map (λ x. x.goes_now) l.list ≡ map (λ x. x.goes_now) l.fn.list;
}
