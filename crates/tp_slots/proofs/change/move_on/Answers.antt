-- What is put is the step of an item with a region.
use Rattle.std.proofs.Common.{◌≡◌, ℕ, ◌+◌, ◌<◌, ◌++◌, List, map, length, get_or, false, None, refl, arith, ap, sym, ◌∙◌, subst, rules}
use Rattle.std.proofs.lemmas.List.{length-map}
use Rattle.tp_slots.specs.Plain as plain
use Rattle.tp_slots.specs.Plain.{What, RegionSlot, slot_at}
use Rattle.tp_slots.specs.Row.{AllBelow, begun, stepped, held_after}
use Rattle.tp_slots.specs.Threads.{afters_then}
use Rattle.tp_slots.specs.Read.{afters_of, ends_of, goes_of, holders_of, region_slot_of, slot_of, slots_of, what_of}
use Rattle.tp_slots.specs.Reductions.{AreBare, moved_inner, moved_outs}
use Rattle.tp_slots.specs.declared.scene.Scene.{Scene}
use Rattle.tp_slots.specs.declared.scene.Slot.{Slot}
use Rattle.tp_slots.specs.declared.scene.What as code
use Rattle.tp_slots.proofs.Changing.{home_within, lives_within}
use Rattle.tp_slots.proofs.Moving.{moved_done, moves_bare, moves_below}
use Rattle.tp_slots.proofs.Seeing.{slot_read}
use Rattle.tp_slots.proofs.Newly.{moved_news_are}
use Rattle.tp_slots.proofs.change.move_on.Goals as goal

-- What is made follows the item as its slot has it.
module _ (s : Scene) (t : ℕ) (within : t < length s.slots.items) (x : Slot) (at : x ≡ get_or s.slots.items t x) where
  read : what_of x.what ≡ (slot_at (slots_of s) t).what
  read = ap (λ (y : plain.Slot). y.what) (ap slot_of at ∙ slot_read s t x within)

  inner_made : (ws : List What) → ws ≡ moved_inner (what_of x.what) → ws ≡ moved_inner (slot_at (slots_of s) t).what
  inner_made ws e = e ∙ ap moved_inner read

  outs_made : (ws : List What) (n : ℕ) → ws ≡ moved_outs (what_of x.what) n → n ≡ length s.regions.items → ws ≡ moved_outs (slot_at (slots_of s) t).what (length (slots_of s).regions)
  outs_made ws n e count = let regions = count ∙ sym (length-map s.regions.items region_slot_of) in e ∙ (λ i. moved_outs (read i) (regions i))

as_many : (made : List code.What) (ws : List What) → map what_of made ≡ ws → length made ≡ length ws
as_many made ws e = sym (length-map made what_of) ∙ ap (λ (l : List What). length l) e

pub put-requires : goal.put-requires
put-requires c =
    let s = c.args.scene.now in
    let ordered = c.requires.kept.shape.ordered in
    let within = lives_within s c.args.item ordered c.requires.lives in
    let what = (slot_at (slots_of s) c.args.item).what in
    let ei = inner_made s c.args.item within c.index.result.now c.index.ensures _ c.in_ok-inner.ensures in
    let eo = outs_made s c.args.item within c.index.result.now c.index.ensures _ c.len.result c.in_ok-outs.ensures (search rules) in
    let size = as_many c.in_ok-inner.inner.items _ ei in
    let e = length-map s.slots.items slot_of in
    let fit = (ordered.items c.args.item (omega (arith, within, e))).1 in
    let n = length-map s.regions.items region_slot_of in
    record {
      item = within;
      home = home_within s c.args.item ordered within;
      bare = subst AreBare (sym ei) (moves_bare what);
      below = subst (λ l. AllBelow (length s.regions.items + length (begun 0 (length c.in_ok-inner.inner.items))) l) (sym eo)
          (subst (λ i. AllBelow (length s.regions.items + length (begun 0 i)) (moved_outs what (length (slots_of s).regions))) (sym size)
          (subst (λ i. AllBelow (i + length (begun 0 (length (moved_inner what)))) (moved_outs what (length (slots_of s).regions))) n
          (moves_below (slots_of s) (slot_at (slots_of s) c.args.item).home c.args.item what fit)));
    }

pub returns : goal.returns
returns c =
    let s = c.args.scene.now in
    let k = c.requires in
    let within = lives_within s c.args.item k.kept.shape.ordered k.lives in
    let what = (slot_at (slots_of s) c.args.item).what in
    let ei = inner_made s c.args.item within c.index.result.now c.index.ensures _ c.in_ok-inner.ensures in
    let eo = outs_made s c.args.item within c.index.result.now c.index.ensures _ c.len.result c.in_ok-outs.ensures (search rules) in
    let size = as_many c.in_ok-inner.inner.items _ ei in
    let places = as_many c.in_ok-outs.outs.items _ eo in
    let put = c.in_ok-put.ensures in
    let done = moved_done s c.args.item k.kept k.lives c.put.new.scene 0 what refl k.holder (
      put.slots ∙ (λ i. stepped (slots_of s) c.args.item None (ei i) (eo i)),
      put.holders ∙ (λ i. held_after (slots_of s) (ei i) (eo i) (holders_of s)),
      put.ends ∙ ap (λ n. ends_of s ++ map (λ (x : RegionSlot). false) (begun 0 n)) size,
      put.goes ∙ ap (λ n. goes_of s ++ map (λ (x : RegionSlot). false) (begun 0 n)) size,
      c.put.ensures.looks,
      put.afters ∙ (λ i. afters_then (afters_of s) (size i) (places i) c.args.item),
    ) k.reduced in
    record {
      kept = done.0;
      scene = done.1;
      news = c.in_ok-fresh.ensures ∙ moved_news_are s c.args.item k.kept k.lives c.put.new.scene k.holder k.reduced done.1;
      err = tt;
    }

pub moved_items-requires-clause-item : goal.moved_items-requires-clause-item
moved_items-requires-clause-item c = lives_within c.args.scene.now c.args.item c.requires.kept.shape.ordered c.requires.lives
