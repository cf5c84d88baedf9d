-- One region after the other is taken, where it is due, or passed over.
use Rattle.std.proofs.Common.{◌≡◌, ◌⊎◌, ◌<◌, ℕ, List, [], ◌∷◌, ◌++◌, true, false, sym, subst}
use Rattle.std.specs.List.{All}
use Rattle.tp_step.specs.declared.tally.Wait.{Wait}
use Rattle.tp_lanes.specs.Planes.{flag}
use Rattle.tp_agenda.specs.Held.{IsAmong}
use Rattle.tp_agenda.specs.Taking.{TakesRegions}
use Rattle.tp_agenda.proofs.Outward.{due_parts}
use Rattle.tp_agenda.proofs.Taking.{due_read, due_room, due_within, one_passed, one_taken, left_over, left_on, takes_fits}
use Rattle.tp_agenda.proofs.board.Board.wake_inside.Goals.{In-Some}
use Rattle.tp_agenda.proofs.board.Board.wake_inside.Goals as goal

pub take-requires : goal.take-requires
take-requires c =
    let old = c.args.self.now in
    let b = c.regions.self in
    let takes = c.regions.invariant.takes in
    let fits = takes_fits c.args.scene.now c.requires.kept c.args.waits.now c.regions.left.items old b takes c.requires.fits in
    let due = due_read c.args.scene.now b.taken.items c.as_slice.result.now c.in-Some.at c.is_due.result true c.as_slice.ensures.value c.is_due.ensures c.if-is_due.true in
    record {
      filed = fits.filed;
      sizes = fits.sizes;
      below = subst (λ (n : ℕ). All (λ (x : Wait). x.item < n) c.args.waits.now) (sym takes.only.room) c.requires.below;
      within = due_room c.args.scene.now c.requires.kept b.taken.items old.taken.items c.in-Some.at due c.requires.room takes.size;
    }

pub add_inner-requires-clause-within : goal.add_inner-requires-clause-within
add_inner-requires-clause-within c =
    due_within c.args.scene.now c.requires.kept c.regions.self.taken.items c.in-Some.at
    (due_read c.args.scene.now c.regions.self.taken.items c.as_slice.result.now c.in-Some.at c.is_due.result true c.as_slice.ensures.value c.is_due.ensures c.if-is_due.true)

-- what was taken out of those that are left stood among them
takes_so_far : (c : In-Some) → TakesRegions c.args.scene.now c.args.waits.now (c.pop.new.self.items ++ c.in-Some.at ∷ []) c.args.self.now c.regions.self
takes_so_far c = subst (λ (xs : List ℕ). TakesRegions c.args.scene.now c.args.waits.now xs c.args.self.now c.regions.self) c.in-Some.ensures.items c.regions.invariant.takes

region_so_far : (c : In-Some) → (flag c.regions.self.taken.items c.args.region ≡ true) ⊎ IsAmong (c.pop.new.self.items ++ c.in-Some.at ∷ []) c.args.region
region_so_far c = subst (λ (xs : List ℕ). (flag c.regions.self.taken.items c.args.region ≡ true) ⊎ IsAmong xs c.args.region) c.in-Some.ensures.items c.regions.invariant.region

pub regions-preserved-in-Continue-branch-2 : goal.regions-preserved-in-Continue-branch-2
regions-preserved-in-Continue-branch-2 c =
    let s = c.args.scene.now in
    let b = c.regions.self in
    let left = c.pop.new.self.items in
    let at = c.in-Some.at in
    let due = due_read s b.taken.items c.as_slice.result.now at c.is_due.result true c.as_slice.ensures.value c.is_due.ensures c.if-is_due.true in
    let within = due_room s c.requires.kept b.taken.items c.args.self.now.taken.items at due c.requires.room c.regions.invariant.takes.size in
    let next = c.take.new.self in
    let e = c.take.ensures in
    let found = (goal.at.regions-preserved-in-Continue-branch-2 c).In-Some in
    record {
      takes = subst (λ (xs : List ℕ). TakesRegions s c.args.waits.now xs c.args.self.now next) (sym c.in_ok-add_inner.ensures)
          (one_taken s c.requires.kept c.args.waits.now left at c.args.self.now b (takes_so_far found) due next e.index e.bound within e.taken e.only e.all);
      region = subst (λ (xs : List ℕ). (flag next.taken.items c.args.region ≡ true) ⊎ IsAmong xs c.args.region) (sym c.in_ok-add_inner.ensures)
          (left_on s c.requires.kept c.args.waits.now left at c.args.self.now b (takes_so_far found) due next e.index e.bound within e.taken e.only e.all c.args.region (region_so_far found));
    }

pub regions-preserved : goal.regions-preserved
regions-preserved c =
    let s = c.args.scene.now in
    let old = c.args.self.now in
    let b = c.regions.self in
    let isnt = due_read s b.taken.items c.as_slice.result.now c.in-Some.at c.is_due.result false c.as_slice.ensures.value c.is_due.ensures c.if-is_due.false in
    let found = (goal.at.regions-preserved c).In-Some in
    record {
      takes = one_passed s c.requires.kept c.args.waits.now c.pop.new.self.items c.in-Some.at old b (takes_so_far found) isnt;
      region = left_over s c.requires.kept c.args.waits.now c.pop.new.self.items c.in-Some.at old b (takes_so_far found) isnt c.args.region (due_parts s old.taken.items c.args.region c.requires.due).1 (region_so_far found);
    }
