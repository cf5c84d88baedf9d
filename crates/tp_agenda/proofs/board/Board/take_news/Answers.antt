-- The board grows, what is new is added, and what is over is woken.
use Rattle.std.proofs.Common.{◌≡◌, ◌≤◌, ℕ, Option, None, Some, List, Bool, true, false, Vec, Global, length, refl, ap, sym, ◌∙◌, subst, inl, rules, arith}
use Rattle.std.proofs.lemmas.Bool.{both_ways}
use Rattle.std.proofs.lemmas.List.{length-map}
use Rattle.tp_slots.specs.Read.{scene_of, slot_of}
use Rattle.tp_lanes.specs.Planes.{flag}
use Rattle.tp_agenda.specs.declared.board.Board.{Board}
use Rattle.tp_agenda.specs.Board.{FitsBoard, TakesNews, facts_decide, moving_among}
use Rattle.tp_agenda.specs.Decides.{ends_decide}
use Rattle.tp_agenda.specs.Held.{AddsReady}
use Rattle.tp_agenda.specs.Marks.{has_known_end}
use Rattle.tp_agenda.specs.Outward.{MeetOutward}
use Rattle.tp_agenda.specs.Taking.{TakesKnown}
use Rattle.tp_agenda.specs.Wakes.{WakesOnly, AreOver}
use Rattle.tp_agenda.proofs.Adding.{adds_grown}
use Rattle.tp_agenda.proofs.Waked.{by_news, unmarked_woken, unmarked_over, marked_woken, marked_over}
use Rattle.tp_agenda.proofs.board.Board.take_news.Goals.{After-wake_by_facts}
use Rattle.tp_agenda.proofs.board.Board.take_news.Goals as goal

pub wake_near-requires-clause-near : goal.wake_near-requires-clause-near
wake_near-requires-clause-near c = λ i x r d at lasts has known.
    let s = c.args.scene.now in
    let old = c.args.self.now in
    let same : c.grow.new.self.over.items ≡ old.over.items = ap (λ v. v.items) c.grow.ensures.over in
    let before : flag old.over.items i ≡ true → flag c.wake_by_facts.new.over.items i ≡ true = λ e. c.wake_by_facts.ensures.only.over_kept i (ap (λ os. flag os i) same ∙ e) in
    subst (λ (v : Vec Bool Global). MeetOutward s v.items c.in-Some.region r) (sym c.grow.ensures.taken)
    (c.requires.near c.in-Some.region c.in-Some.is i x r d at (not_yet (flag old.over.items i) (flag c.wake_by_facts.new.over.items i) lasts before) has known)
  where
    not_yet : (a b : Bool) → b ≡ false → (a ≡ true → b ≡ true) → a ≡ false
    not_yet true b e f = absurd (both_ways b e (f refl))
    not_yet false b e f = refl

-- the waits that the facts end were woken
facts_woken : (c : After-wake_by_facts)
    → WakesOnly c.args.waits.now (facts_decide c.args.news.facts) c.add_moving.new.ready c.args.self.now.over.items c.wake_by_facts.new.ready c.wake_by_facts.new.over.items
facts_woken c =
    subst (λ (os : List Bool). WakesOnly c.args.waits.now (facts_decide c.args.news.facts) c.add_moving.new.ready os c.wake_by_facts.new.ready c.wake_by_facts.new.over.items)
    (ap (λ v. v.items) c.grow.ensures.over) c.wake_by_facts.ensures.only

-- the board has a flag for each item, and the new ones that may move are ready
has_room : (c : After-wake_by_facts) → (scene_of c.args.scene.now).next_item ≤ length c.wake_by_facts.new.ready
has_room c =
    let slots = c.args.scene.now.slots.items in
    let many : c.len.result ≡ length slots = search rules in
    let least = many ∙ sym (length-map slots slot_of) in
    let fits = c.in_ok-grow.ensures.room in
    let size = c.add_moving.ensures.size in
    let room = c.wake_by_facts.ensures.only.room in
    omega (arith, least, fits, size, room)

adds_new : (c : After-wake_by_facts) → AddsReady (moving_among (scene_of c.args.scene.now).root.entries c.args.news.items) c.args.self.now.ready c.add_moving.new.ready
adds_new c =
    let es = (scene_of c.args.scene.now).root.entries in
    let grown = c.grow.new.self.ready in
    let items : c.as_slice.result.now ≡ c.args.news.items = search rules in
    let added = subst (λ (xs : List ℕ). AddsReady (moving_among es xs) grown c.add_moving.new.ready) items c.add_moving.ensures.adds in
    adds_grown (moving_among es c.args.news.items) c.args.self.now.ready grown c.add_moving.new.ready c.in_ok-grow.ensures.larger c.in_ok-grow.ensures.kept added

-- what then holds, with or without a mark
news_taken : (c : After-wake_by_facts) (marked : Option ℕ) → c.args.news.marked ≡ marked → (new : Board) → FitsBoard c.args.waits.now new → length new.ready ≡ length c.wake_by_facts.new.ready
    → WakesOnly c.args.waits.now (by_news (facts_decide c.args.news.facts) (ends_decide (has_known_end (scene_of c.args.scene.now))) marked) c.add_moving.new.ready c.args.self.now.over.items new.ready new.over.items
    → AreOver c.args.waits.now (by_news (facts_decide c.args.news.facts) (ends_decide (has_known_end (scene_of c.args.scene.now))) marked) new.over.items
    → TakesKnown (has_known_end (scene_of c.args.scene.now)) c.grow.new.self.taken.items new.taken.items → TakesNews (scene_of c.args.scene.now) c.args.news c.args.waits.now c.args.self.now new
news_taken c marked is new fits room only all taken =
    let decides = by_news (facts_decide c.args.news.facts) (ends_decide (has_known_end (scene_of c.args.scene.now))) in
    let flags = has_room c in
    record {
      fits = fits;
      flags = omega (arith, flags, room);
      between = c.add_moving.new.ready;
      adds = adds_new c;
      only = subst (λ (o : Option ℕ). WakesOnly c.args.waits.now (decides o) c.add_moving.new.ready c.args.self.now.over.items new.ready new.over.items) (sym is) only;
      all = subst (λ (o : Option ℕ). AreOver c.args.waits.now (decides o) new.over.items) (sym is) all;
      taken = subst (λ (ts : List Bool). TakesKnown (has_known_end (scene_of c.args.scene.now)) ts new.taken.items) (ap (λ v. v.items) c.grow.ensures.taken) taken;
    }

pub returns-in-Some : goal.returns-in-Some
returns-in-Some c =
    let found = (goal.at.returns-in-Some c).After-wake_by_facts in
    let e = c.in_ok-wake_near-in-Some.ensures in
    let ends = ends_decide (has_known_end (scene_of c.args.scene.now)) in
    news_taken found (Some c.in-Some.region) c.in-Some.is c.wake_near.new.self e.fits e.only.room
    (marked_woken c.args.waits.now (facts_decide c.args.news.facts) ends _ _ _ _ (facts_woken found) c.wake_by_facts.ensures.all c.in-Some.region _ _ e.only e.all)
    (marked_over c.args.waits.now (facts_decide c.args.news.facts) ends _ _ _ _ (facts_woken found) c.wake_by_facts.ensures.all c.in-Some.region _ _ e.only e.all) e.taken

pub returns : goal.returns
returns c =
    let found = (goal.at.returns c).After-wake_by_facts in
    let grown = c.grow.new.self in
    let woken = c.wake_by_facts.new in
    let bound = c.in_ok-grow.ensures.bound in
    let small = c.in_ok-grow.ensures.small in
    let size = c.add_moving.ensures.size in
    let room = c.wake_by_facts.ensures.only.room in
    let sizes = c.wake_by_facts.ensures.only.sizes in
    let old_sizes = c.requires.fits.sizes in
    let over_sizes = ap (λ v. length v.items) c.grow.ensures.over in
    let ends = ends_decide (has_known_end (scene_of c.args.scene.now)) in
    news_taken found None c.in-None.is (record { alloc = grown.alloc; bound = grown.bound; ready = woken.ready; over = woken.over; index = grown.index; taken = grown.taken })
    (record { bound = omega (arith, bound, size, room); small = omega (arith, small, size, room); sizes = omega (arith, sizes, over_sizes, old_sizes); filed = c.wake_by_facts.ensures.filed }) refl
    (unmarked_woken c.args.waits.now (facts_decide c.args.news.facts) ends _ _ _ _ (facts_woken found) c.wake_by_facts.ensures.all)
    (unmarked_over c.args.waits.now (facts_decide c.args.news.facts) ends _ _ _ _ (facts_woken found) c.wake_by_facts.ensures.all) (λ r t. inl t)
