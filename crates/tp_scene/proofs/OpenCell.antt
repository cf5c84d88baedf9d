-- The open cell of a sound scene isn't decided.
use Rattle.std.proofs.Common.{◌≡◌, ℕ, Bool, true, false, List, [], ◌∷◌, refl, sym, ◌∙◌, subst, arith, inl, inr}
use Rattle.std.proofs.lemmas.Bool.{both_ways, cond-true, cond-false}
use Rattle.tp_scene.specs.declared.answer.Cell.{Cell}
use Rattle.tp_scene.specs.declared.answer.Cell.TheVariants.{End}
use Rattle.tp_scene.specs.Scene.{Side, Ending, Going, Place, root_place}
use Rattle.tp_scene.specs.Pick.{Setting, Moment}
use Rattle.tp_scene.specs.Rest.{Settled, end_open, ends, goes, settled_by, unsettled_items}
use Rattle.tp_scene.specs.Fits.{region_numbers}
use Rattle.tp_scene.specs.Laws.{IsSound}
use Rattle.tp_scene.specs.Cells.{IsKnownEnd, IsDecided}
use Rattle.tp_scene.specs.CellLaws.{OpenCellsAreUndecided}
use Rattle.tp_scene.proofs.Count.{one_there, numbers_once, count_first}
use Rattle.tp_scene.proofs.NamedItem.{by_settling}
use Rattle.tp_scene.proofs.KnownEnds.{known_counted, end_known, waits_are_for_undecided}

-- where only the root's end is open, neither of its sides is known
open_sides : (ts : List ℕ) (b c : Bool) (p : Place) → p.is Ending ≡ b → p.is Going ≡ c → settled_by ts p ≡ end_open → (z : Side) → p.is z ≡ true → ⊥
open_sides (t ∷ ts) b c p u v e z i = cc
open_sides [] true c p u v e z i = let q : ends ≡ end_open = sym (cond-true {A = Settled} (p.is Ending) _ _ u) ∙ e in cc
open_sides [] false true p u v e z i = let q : goes ≡ end_open = sym (cond-false {A = Settled} (p.is Ending) _ _ u ∙ cond-true {A = Settled} (p.is Going) _ _ v) ∙ e in cc
open_sides [] false false p u v e Ending i = both_ways (p.is Ending) u i
open_sides [] false false p u v e Going i = both_ways (p.is Going) v i

root_end_open : (w : Setting) (kinds : List Bool) (m : Moment) → IsSound w kinds m → ((z : Side) → (root_place m.scene.root).is z ≡ true → ⊥) → IsKnownEnd m.scene m.scene.root.head.number → ⊥
root_end_open w kinds m sound unknown k =
    let p = root_place m.scene.root in
    let es = m.scene.root.entries in
    elim (end_known m.scene p.region k) [
      | inl u ↦ unknown k.side u.1
      | inr u ↦ (let i = known_counted p.region k.side es p u in
          let o = one_there p.region p.region refl in
          let f = count_first p.region p.region (region_numbers es) in
          let most = (numbers_once m.scene.next_region (p.region ∷ region_numbers es) sound.moment.regions).once p.region in
          absurd (omega (arith, i, o, f, most)))
    ]

pub open_cells_are_undecided : OpenCellsAreUndecided
open_cells_are_undecided w kinds m cell sound is decided =
    let p = root_place m.scene.root in
    let ts = unsettled_items m.scene.root.entries p in
    elim (by_settling ts (p.is Ending) (p.is Going) p refl refl) [
      | inl x ↦ (let h = rw x.3 at is in (waits_are_for_undecided w kinds m x.0 cell h.0 sound h.1).not_first decided)
      | inr x ↦ elim x [
        | inl y ↦ rw y at is
        | inr y ↦ elim y [
          | inl y ↦ rw y at is
          | inr y ↦ (let same : cell ≡ End m.scene.root.head.number 0 = rw y at is in
              root_end_open w kinds m sound (open_sides ts (p.is Ending) (p.is Going) p refl refl y) (subst (λ (c : Cell). IsDecided m c) same decided))
        ]
      ]
    ]
