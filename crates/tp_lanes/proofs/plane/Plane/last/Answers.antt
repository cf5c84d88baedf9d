use Rattle.std.proofs.Common.{◌≡◌, ℕ, ◌<◌, ◌-◌, List, Bool, false, length, subst, arith}
use Rattle.std.proofs.lemmas.Bool.{both_ways}
use Rattle.tp_lanes.specs.Planes.{flag, IsLastMember}
use Rattle.tp_lanes.proofs.Planes.{member_seen}
use Rattle.tp_lanes.proofs.Ends.{none_filled, filled, last_is}
use Rattle.tp_lanes.proofs.plane.Plane.last.Goals as goal

pub returns-then-end-eq0-clause-none : goal.returns-then-end-eq0-clause-none
returns-then-end-eq0-clause-none c =
    let none = none_filled c.self.inside c.self.invariant c.deref.ensures.value (λ k less. c.last_filled-end.ensures.behind k (omega (arith, c.if-end-eq0.true)) less) in
    (λ e. subst (λ (xs : List Bool). (n : ℕ) → flag xs n ≡ false) c.self.view_is none, λ e. cc)

pub last_member-requires-clause-some : goal.last_member-requires-clause-some
last_member-requires-clause-some c =
    let row = c.last_filled-end.result - 1 in
    let less : row < length c.deref.result.now = omega (arith, c.last_filled-end.ensures.within, c.if-end-eq0.false) in
    filled c.self.inside c.self.invariant c.deref.ensures.value row less c.deref-2.ensures.value (c.last_filled-end.ensures.here (omega (arith, c.if-end-eq0.false)) row (omega (arith, c.if-end-eq0.false)))

pub returns-clause-some : goal.returns-clause-some
returns-clause-some c =
    let row = c.last_filled-end.result - 1 in
    let less : row < length c.deref.result.now = omega (arith, c.last_filled-end.ensures.within, c.if-end-eq0.false) in
    subst (λ (xs : List Bool). IsLastMember xs c.last_member.result) c.self.view_is
    (last_is c.self.inside c.self.invariant c.deref.ensures.value row less c.deref-2.ensures.value c.last_member.result c.last_member.ensures.member
    (λ k from. c.last_filled-end.ensures.behind k (omega (arith, from, c.if-end-eq0.false))) c.last_member.ensures.greatest)

pub returns-clause-none : goal.returns-clause-none
returns-clause-none c =
    let there = member_seen c.self.inside.bound c.self.inside.words.items c.self.inside.rows.items c.self.inside.size c.self.invariant c.self.view_is c.deref-2.ensures.value c.last_member.result c.last_member.ensures.member in
    (λ e k. cc, λ none. absurd (both_ways (flag c.args.self.now c.last_member.result) (none c.last_member.result) there))
