use Rattle.std.proofs.Common.{◌≡◌, ℕ, ◌<◌, ◌≤◌, ◌+◌, ◌*◌, ◌^◌, ◌||◌, List, Bool, length, get_or, ap, ap₂, subst, sym, ◌∙◌, arith}
use Rattle.tp_lanes.specs.Planes.{flag, bit_in, passing_below, HasBetween}
use Rattle.tp_lanes.proofs.Planes.{seen_long}
use Rattle.tp_lanes.proofs.Edits.{AreJoined, joined_few, joined_plane, joined_flags}
use Rattle.tp_lanes.proofs.plane.Plane.join.Goals as goal

pub join_words-requires-clause-room : goal.join_words-requires-clause-room
join_words-requires-clause-room c =
    let s = c.self.inside in
    let o = c.other.inside in
    let le : o.bound ≤ s.bound = omega (arith, c.requires, seen_long s.bound s.words.items c.self.view_is, seen_long o.bound o.words.items c.other.view_is) in
    let read : length c.deref.result.now ≡ length o.words.items = ap length c.deref.ensures.value in
    omega (arith, le, read, c.self.invariant.rows_are, c.self.invariant.words_are, c.other.invariant.rows_are, c.other.invariant.words_are)

pub count_rows-self-inside-requires-clause-few : goal.count_rows-self-inside-requires-clause-few
count_rows-self-inside-requires-clause-few c =
    let s = c.self.inside in
    let o = c.other.inside in
    let le : o.bound ≤ s.bound = omega (arith, c.requires, seen_long s.bound s.words.items c.self.view_is, seen_long o.bound o.words.items c.other.view_is) in
    let zs = c.join_words.new.words.items in
    let each = subst (AreJoined s.words.items zs) c.deref.ensures.value c.join_words.ensures.each in
    subst (λ (ws : List ℕ). passing_below (bit_in ws) (512 * length s.rows.items) < 2 ^ 64) (sym c.deref-2.ensures.value)
    (joined_few s.words.items o.words.items zs each s.bound o.bound s.size o.size s.rows.items o.rows.items c.self.invariant c.other.invariant le)

pub invariant_of-self : goal.invariant_of-self
invariant_of-self c =
    let s = c.self.inside in
    let o = c.other.inside in
    let le : o.bound ≤ s.bound = omega (arith, c.requires, seen_long s.bound s.words.items c.self.view_is, seen_long o.bound o.words.items c.other.view_is) in
    let zs = c.join_words.new.words.items in
    let each = subst (AreJoined s.words.items zs) c.deref.ensures.value c.join_words.ensures.each in
    let new_rows = c.count_rows-self-inside.new.rows.items in
    let total = c.count_rows-self-inside.result in
    let counts : (r : ℕ) → r < length new_rows → HasBetween (bit_in zs) (512 * r) (512 * r + 512) (get_or new_rows r 0) =
    subst (λ (ws : List ℕ). (r : ℕ) → r < length new_rows → HasBetween (bit_in ws) (512 * r) (512 * r + 512) (get_or new_rows r 0)) c.deref-2.ensures.value c.count_rows-self-inside.ensures.counts in
    let all : total ≡ passing_below (bit_in zs) (512 * length new_rows) =
    subst (λ (ws : List ℕ). total ≡ passing_below (bit_in ws) (512 * length new_rows)) c.deref-2.ensures.value c.count_rows-self-inside.ensures.total in
    joined_plane s.words.items o.words.items zs each s.bound o.bound s.size o.size s.rows.items o.rows.items c.self.invariant c.other.invariant le
    new_rows total c.join_words.ensures.len c.count_rows-self-inside.ensures.len counts all

pub returns-clause-both : goal.returns-clause-both
returns-clause-both c = λ n.
    let s = c.self.inside in
    let o = c.other.inside in
    let le : o.bound ≤ s.bound = omega (arith, c.requires, seen_long s.bound s.words.items c.self.view_is, seen_long o.bound o.words.items c.other.view_is) in
    let zs = c.join_words.new.words.items in
    let each = subst (AreJoined s.words.items zs) c.deref.ensures.value c.join_words.ensures.each in
    joined_flags s.words.items o.words.items zs each s.bound o.bound s.size o.size s.rows.items o.rows.items c.self.invariant c.other.invariant le n
    ∙ ap₂ (λ a b. a || b) (ap (λ (xs : List Bool). flag xs n) c.self.view_is) (ap (λ (xs : List Bool). flag xs n) c.other.view_is)
