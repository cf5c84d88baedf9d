use Rattle.std.proofs.Common.{◌≡◌, ℕ, ◌<◌, List, Bool, false, length, subst, arith}
use Rattle.std.proofs.lemmas.Bool.{both_ways}
use Rattle.tp_lanes.specs.Planes.{flag, IsFirstMember}
use Rattle.tp_lanes.proofs.Planes.{member_seen}
use Rattle.tp_lanes.proofs.Ends.{none_filled, fits, filled, first_is}
use Rattle.tp_lanes.proofs.plane.Plane.first.Goals as goal

pub returns-then-row-len-clause-none : goal.returns-then-row-len-clause-none
returns-then-row-len-clause-none c =
    let none = none_filled c.self.inside c.self.invariant c.deref.ensures.value (λ k less. c.first_filled-row.ensures.before k (omega (arith, less, c.if-row-len.true, c.len.ensures, c.deref.ensures.len))) in
    (λ e. subst (λ (xs : List Bool). (n : ℕ) → flag xs n ≡ false) c.self.view_is none, λ e. cc)

pub first_member-requires-clause-fits : goal.first_member-requires-clause-fits
first_member-requires-clause-fits c =
    fits c.self.inside c.self.invariant c.deref.ensures.value c.first_filled-row.result (omega (arith, c.first_filled-row.ensures.within, c.if-row-len.false, c.len.ensures, c.deref.ensures.len))

pub first_member-requires-clause-some : goal.first_member-requires-clause-some
first_member-requires-clause-some c =
    let less : c.first_filled-row.result < length c.deref.result.now = omega (arith, c.first_filled-row.ensures.within, c.if-row-len.false, c.len.ensures, c.deref.ensures.len) in
    filled c.self.inside c.self.invariant c.deref.ensures.value c.first_filled-row.result less c.deref-2.ensures.value (c.first_filled-row.ensures.here less)

pub returns-clause-some : goal.returns-clause-some
returns-clause-some c =
    let less : c.first_filled-row.result < length c.deref.result.now = omega (arith, c.first_filled-row.ensures.within, c.if-row-len.false, c.len.ensures, c.deref.ensures.len) in
    subst (λ (xs : List Bool). IsFirstMember xs c.first_member.result) c.self.view_is
    (first_is c.self.inside c.self.invariant c.deref.ensures.value c.first_filled-row.result less c.deref-2.ensures.value c.first_member.result c.first_member.ensures.member c.first_filled-row.ensures.before c.first_member.ensures.least)

pub returns-clause-none : goal.returns-clause-none
returns-clause-none c =
    let there = member_seen c.self.inside.bound c.self.inside.words.items c.self.inside.rows.items c.self.inside.size c.self.invariant c.self.view_is c.deref-2.ensures.value c.first_member.result c.first_member.ensures.member in
    (λ e k. cc, λ none. absurd (both_ways (flag c.args.self.now c.first_member.result) (none c.first_member.result) there))
