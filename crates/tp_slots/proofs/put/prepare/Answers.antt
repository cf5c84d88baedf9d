-- What was made stands for what is to be put.
use Rattle.std.proofs.Common.{◌≡◌, ℕ, ◌+◌, ◌≤◌, Option, None, List, [], false, ◌++◌, map, length, ap, sym, ◌∙◌, rules}
use Rattle.std.specs.Prelude.{vec_len, vec_capacity}
use Rattle.std.specs.List.{range_with_len}
use Rattle.std.proofs.lemmas.List.{length-map, get_or-map}
use Rattle.tp_slots.specs.Plain as plain
use Rattle.tp_slots.specs.Read.{afters_of, item_home, slot_afters, slot_of, what_of}
use Rattle.tp_slots.specs.Row.{begun, slots_in}
use Rattle.tp_slots.specs.Threads.{after_at, links, nothing_after}
use Rattle.tp_slots.specs.declared.scene.Region.{Region}
use Rattle.tp_slots.specs.declared.scene.Scene.{Scene}
use Rattle.tp_slots.specs.declared.scene.Slot.{Slot}
use Rattle.tp_slots.proofs.Lists.{home_is, news_are}
use Rattle.tp_slots.proofs.Preparing.{unset_same}
use Rattle.tp_slots.proofs.put.prepare.Goals as goal

pub returns-clause-prepared : goal.returns-clause-prepared
returns-clause-prepared c =
    let s = c.args.scene.now in
    let t = c.args.item in
    let ins = map what_of c.args.inner.items in
    let outs = map what_of c.args.outs.items in
    let mid : Scene = record { slots = c.reserve.new.self; regions = c.reserve-2.new.self; looks = s.looks } in
    let after : Slot → Option ℕ = λ x. x.after in
    let same = c.in_ok-reserve.ensures.items in
    let first : c.len-first.result ≡ length mid.slots.items = (let e : c.len-first.result ≡ length s.slots.items = search rules in e) ∙ sym (ap (λ (l : List Slot). length l) same) in
    let region : c.len.result ≡ length mid.regions.items = (let e : c.len.result ≡ length s.regions.items = search rules in e) ∙ sym (ap (λ (l : List Region). length l) c.in_ok-reserve-2.ensures.items) in
    let many : c.len-begun.result ≡ length ins = (let e : c.len-begun.result ≡ length c.args.inner.items = search rules in e) ∙ sym (length-map c.args.inner.items what_of) in
    let count : c.len-count.result ≡ length outs = (let e : c.len-count.result ≡ length c.args.outs.items = search rules in e) ∙ sym (length-map c.args.outs.items what_of) in
    let home : c.index.result.now.home ≡ item_home mid t =
    ap (λ (x : Slot). x.home) c.index.ensures ∙ home_is s.slots.items t c.index.result.now c.requires ∙ ap (λ (l : List Slot). (plain.slot_at (record { slots = map slot_of l; regions = [] }) t).home) (sym same) in
    let end : c.index-2.result.now.after ≡ after_at (afters_of mid) t = ap after c.index-2.ensures ∙ sym (get_or-map after s.slots.items t c.index-2.result.now None c.requires) ∙ ap (λ (l : List Slot). after_at (map after l) t) (sym same) in
    let begins = c.in_ok-push_in.ensures.slots ∙ ap (λ l. map slot_of l ++ slots_in c.len.result ins) c.new-slots.ensures.items in
    let slots = c.in_ok-push_linked.ensures.slots in
    let nothing : slot_afters c.push_in.new.list.items ≡ nothing_after (length ins) =
    c.in_ok-push_in.ensures.afters ∙ ap (λ (l : List Slot). map after l ++ nothing_after (length c.args.inner.items)) c.new-slots.ensures.items ∙ ap nothing_after (sym (length-map c.args.inner.items what_of)) in
    let linked = sym (length-map c.args.outs.items what_of) in
    let slots_room : vec_len mid.slots + vec_len c.push_linked.new.list ≤ vec_capacity mid.slots = search rules in
    let regions_room : vec_len mid.regions + vec_len c.in_ok-regions.regions ≤ vec_capacity mid.regions = search rules in
    record {
      numbers = λ i. range_with_len (first i + many i) (count i);
      slots = slots ∙ (λ i. begins i ++ slots_in c.index.result.now.home outs) ∙ (λ i. slots_in (region i) ins ++ slots_in (home i) outs);
      whats = news_are c.len.result c.index.result.now.home ins outs c.push_in.new.list.items c.push_linked.new.list.items begins slots;
      afters = c.in_ok-push_linked.ensures.afters ∙ (λ i. nothing i ++ links (first i + many i) (linked i) (end i));
      regions = c.in_ok-regions.ensures.regions ∙ (λ i. begun (first i) (many i));
      holders = c.in_ok-regions.ensures.holders ∙ (λ i. map (λ (x : plain.RegionSlot). 0) (begun (first i) (many i)));
      ends = c.in_ok-regions.ensures.ends ∙ unset_same c.len-first.result c.len-begun.result ∙ (λ i. map (λ (x : plain.RegionSlot). false) (begun 0 (many i)));
      goes = c.in_ok-regions.ensures.goes ∙ unset_same c.len-first.result c.len-begun.result ∙ (λ i. map (λ (x : plain.RegionSlot). false) (begun 0 (many i)));
      slots_room = slots_room;
      regions_room = regions_room;
    }
