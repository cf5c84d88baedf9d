use Rattle.std.proofs.Common.{refl, ap, sym, subst, ◌∙◌, ◌≡◌, true, false, not, cond, List, ℕ, [], Some, None}
use Rattle.std.specs.Ordering.{nat_cmp, is_eq}
use Rattle.std.specs.declared.cmp.Ordering.{Ordering}
use Rattle.std.specs.Cmp.Lexicographic.{slice_cmp}
use Rattle.std.specs.List.Sorted.{IsStrictlySortedBy}
use Rattle.std.specs.Map.{set_value, keys_of}
use Rattle.std.specs.BTreeMap.{insert_entry}
use Rattle.std.specs.Option.{option_map}
use Rattle.tp_value.specs.Tree.{Tree}
use Rattle.tp_value.specs.Read.{tree}
use Rattle.tp_meaning.specs.Inputs.{row_value}
use Rattle.tp_inputs.specs.declared.span.Span.{Span}
use Rattle.tp_inputs.specs.declared.span.Span.TheVariants.{States, Others}
use Rattle.tp_inputs.specs.declared.ports.Port.{Port}
use Rattle.tp_inputs.specs.Spans.{are_ports, span_has, is_others, port_meets, is_given, GivesValue}
use Rattle.tp_inputs.specs.Model.{rows_of, default_of, named_port}
use Rattle.tp_inputs.specs.Moves.{GivesPort}
use Rattle.tp_inputs.proofs.PortLemmas.{Key, key_cmp, Entries, name_cmp, table_in, Changes, named, met, rows_apart, gives, set_changes, insert_changes, set_ports, insert_ports, names_ordered, rows_in, default_in}
use Rattle.tp_inputs.proofs.ports.Ports.give.Goals as goal

named_meets : (name other : List ℕ) (span : Span) (p : Port) → port_meets (Some (named_port name p)) span ≡ port_meets (Some (named_port other p)) span
named_meets name other (States a b) p = refl
named_meets name other Others p = refl

pub give-requires-clause-rows : goal.give-requires-clause-rows
give-requires-clause-rows c =
    let es = c.args.self.now.by_name.entries in
    rows_apart es c.args.port c.in-Some.known.now c.requires.ports (ap (λ z. named z es) (sym c.as_slice.ensures) ∙ sym c.in-Some.ensures.value)

pub meets-requires : goal.meets-requires
meets-requires c =
    let es = c.args.self.now.by_name.entries in
    rows_apart es c.args.port c.in-Some.known.now c.requires.ports (ap (λ z. named z es) (sym c.as_slice.ensures) ∙ sym c.in-Some.ensures.value)

-- what is asked of a port that is there, and of one that isn't
found_given : (es : Entries) (span : Span) (port : List ℕ) (p : Port) → named port es ≡ Some p → is_given (table_in es) span port ≡ port_meets (Some (named_port [] p)) span
found_given es span port p some = met es span port ∙ (ap (λ o. port_meets (option_map (named_port port) o) span) some ∙ named_meets port [] span p)

none_given : (es : Entries) (span : Span) (port : List ℕ) → named port es ≡ None → is_given (table_in es) span port ≡ false
none_given es span port none = met es span port ∙ ap (λ o. port_meets (option_map (named_port port) o) span) none

module _ (cmp : Key → Key → Ordering) (is : (a b : Key) → cmp a b ≡ slice_cmp nat_cmp a.items b.items) (es : Entries) (span : Span) (v : Tree) (w : Port) (ports : are_ports (table_in es) ≡ true) where
  set_gives : (slice port : List ℕ) (p : Port) (fs : Entries) → slice ≡ port → named slice es ≡ Some p → fs ≡ set_value (λ k. is_eq (name_cmp slice k)) es w → IsStrictlySortedBy cmp (keys_of fs)
      → GivesPort span v (named_port [] p) (named_port [] w) → GivesValue span port v (table_in es) (table_in fs)
  set_gives slice port p fs same there entries sorted g =
      subst (λ (z : List ℕ). GivesValue span z v (table_in es) (table_in fs)) same
      (gives es fs span slice v w (subst (λ (z : Entries). Changes slice w es z) (sym entries) (set_changes es slice w (rw there refl)))
      (names_ordered cmp is fs sorted)
      (subst (λ (z : Entries). are_ports (table_in z) ≡ true) (sym entries) (set_ports es (λ k. is_eq (name_cmp slice k)) w ports g.apart (λ name. g.told)))
      (λ n. g.has n ∙ ap (λ o. cond (span_has span n) (Some v) (row_value (rows_in o) n)) (sym there))
      (g.default ∙ ap (λ o. cond (is_others span) (Some v) (default_in o)) (sym there)))

  insert_gives : (k : Key) (port : List ℕ) (fs : Entries) → k.items ≡ port → named k.items es ≡ None → fs ≡ insert_entry cmp es k w → IsStrictlySortedBy cmp (keys_of fs)
      → (p : Port) → rows_of p.ranges ≡ [] → default_of p ≡ None → GivesPort span v (named_port [] p) (named_port [] w) → GivesValue span port v (table_in es) (table_in fs)
  insert_gives k port fs same none entries sorted p no_rows no_default g =
      subst (λ (z : List ℕ). GivesValue span z v (table_in es) (table_in fs)) same
      (gives es fs span k.items v w (subst (λ (z : Entries). Changes k.items w es z) (sym entries) (insert_changes cmp is es k w none))
      (names_ordered cmp is fs sorted)
      (subst (λ (z : Entries). are_ports (table_in z) ≡ true) (sym entries) (insert_ports cmp es k w ports g.apart (λ name. g.told)))
      (λ n. g.has n ∙ (ap (λ rs. cond (span_has span n) (Some v) (row_value rs n)) no_rows ∙ ap (λ o. cond (span_has span n) (Some v) (row_value (rows_in o) n)) (sym none)))
      (g.default ∙ (ap (cond (is_others span) (Some v)) no_default ∙ ap (λ o. cond (is_others span) (Some v) (default_in o)) (sym none))))

pub returns-then-meets-clause-told : goal.returns-then-meets-clause-told
returns-then-meets-clause-told c =
    let es = c.args.self.now.by_name.entries in
    sym (ap not (found_given es c.args.span c.args.port c.in-Some.known.now (ap (λ z. named z es) (sym c.as_slice.ensures) ∙ sym c.in-Some.ensures.value) ∙ (sym c.meets.ensures ∙ c.if-meets.true)))

pub returns-in_ok-give-in-Some-clause-told : goal.returns-in_ok-give-in-Some-clause-told
returns-in_ok-give-in-Some-clause-told c =
    let es = c.args.self.now.by_name.entries in
    sym (ap not (found_given es c.args.span c.args.port c.in-Some.known.now (ap (λ z. named z es) (sym c.as_slice.ensures) ∙ sym c.in-Some.ensures.value) ∙ (sym c.meets.ensures ∙ c.if-meets.false)))

pub returns-in_ok-give-in-Some-clause-gives : goal.returns-in_ok-give-in-Some-clause-gives
returns-in_ok-give-in-Some-clause-gives c = λ given.
    let es = c.args.self.now.by_name.entries in
    let slice = c.as_slice.result.now in
    let w = c.give.new.self in
    let written = c.get_mut.follows.holds w in
    set_gives key_cmp (λ a b. refl) es c.args.span (tree c.args.value) w c.requires.ports slice c.args.port c.in-Some.known.now _ c.as_slice.ensures (sym c.in-Some.ensures.value) written.0 written.4 c.in_ok-give-in-Some.ensures

pub returns-in_ok-insert-in-None-clause-told : goal.returns-in_ok-insert-in-None-clause-told
returns-in_ok-insert-in-None-clause-told c =
    let es = c.args.self.now.by_name.entries in
    sym (ap not (none_given es c.args.span c.args.port (ap (λ z. named z es) (sym c.as_slice.ensures) ∙ sym c.in-None.ensures.value)))

pub returns-in_ok-insert-in-None-clause-gives : goal.returns-in_ok-insert-in-None-clause-gives
returns-in_ok-insert-in-None-clause-gives c = λ given.
    let es = c.args.self.now.by_name.entries in
    let slice = c.as_slice.result.now in
    let w = c.give-in-None.new.self in
    let k = c.port.inside.items in
    let key : k.items ≡ c.args.port = c.port.view_is in
    insert_gives key_cmp (λ a b. refl) es c.args.span (tree c.args.value) w c.requires.ports k c.args.port c.insert.new.self.entries key (ap (λ z. named z es) (key ∙ sym c.as_slice.ensures) ∙ sym c.in-None.ensures.value)
    (c.in_ok-insert-in-None.ensures.entries ∙ ap (λ m. insert_entry key_cmp m.entries k w) c.get_mut.follows.holds-at-none) c.insert.ensures.ordered c.new-new.result c.new-new.ensures.ranges c.new-new.ensures.default c.in_ok-give-in-None.ensures
