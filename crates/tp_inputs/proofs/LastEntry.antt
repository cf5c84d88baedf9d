-- The last entry of a map that begins at a state or before it.
use Rattle.std.proofs.Common.{refl, ap, sym, ◌∙◌, ◌≡◌, ℕ, ◌≤◌, ◌<◌, Bool, false, true, List, [], ◌∷◌, ◌++◌, length, map, min, Some, None, IsSome, nat_le, arith}
use Rattle.std.specs.List.{All}
use Rattle.std.specs.Map.{values_of}
use Rattle.std.specs.declared.ops.Bound.TheVariants.{Included, Unbounded}
use Rattle.std.specs.Ordering.{nat_cmp, is_gt, is_lt}
use Rattle.std.specs.BTreeMap.{get, BTreeMap}
use Rattle.std.specs.BTreeMap.Range.{IsRangeOf}
use Rattle.tp_value.specs.declared.value.Value.{Value}
use Rattle.std.proofs.lemmas.Bool.Decides.{nat_tests}
use Rattle.tp_meaning.specs.Inputs.{InputRow, row_value}
use Rattle.tp_inputs.specs.declared.ranges.Row.{Row}
use Rattle.tp_inputs.specs.Spans.{are_rows, rows_meet}
use Rattle.tp_inputs.specs.Model.{row_of}
use Rattle.tp_inputs.specs.Places.{IsPlaced}
use Rattle.tp_inputs.proofs.RowLemmas.{Order, less, equal, greater, order, meets_capped, none_begins, last_meets, unmet}
use Rattle.tp_inputs.proofs.EntryLemmas.{Entries, entry_row, row_entry}
use Rattle.tp_inputs.proofs.PlaceLemmas.{ends_low}

not_after : (q b : ℕ) → q ≤ b → is_gt (nat_cmp q b) ≡ false
not_after q b low = at (order q b)
  where
    at : Order q b → is_gt (nat_cmp q b) ≡ false
    at (less o x) = rw o refl
    at (equal o x) = rw o refl
    at (greater o x) = absurd (omega arith)

up_to : (q b : ℕ) → is_gt (nat_cmp q b) ≡ false → q ≤ b
up_to q b e = at (order q b)
  where
    at : Order q b → q ≤ b
    at (less o x) = omega arith
    at (equal o x) = omega arith
    at (greater o x) = let yes : is_gt (nat_cmp q b) ≡ true = rw o refl in absurd cc

not_below : (k q : ℕ) → is_lt (nat_cmp k q) ≡ false → q ≤ k
not_below k q e = at (order k q)
  where
    at : Order k q → q ≤ k
    at (less o x) = let yes : is_lt (nat_cmp k q) ≡ true = rw o refl in absurd cc
    at (equal o x) = omega arith
    at (greater o x) = omega arith

module _ (vs : List Value) (m : BTreeMap ℕ Row) (state b : ℕ) (r : Entries) (capped : b ≡ min state 4294967295) (is : IsRangeOf nat_cmp Unbounded (Included b) m r) (apart : are_rows (map (row_of vs) m.entries) ≡ true)
    (placed : All (IsPlaced (length vs)) (values_of m.entries)) where
  abbrev rows : List InputRow
  rows = map (row_of vs) m.entries

  all_states : (a : ℕ) → rows_meet rows a state ≡ rows_meet rows a b
  all_states a = sym (meets_capped rows a state apart (ends_low vs m.entries placed)) ∙ ap (rows_meet rows a) (sym capped)

  -- of the entry that is last
  module _ (k : ℕ) (x : Row) (t : Entries) (ends : r ≡ t ++ (k, x) ∷ []) where
    pub last_in : get nat_cmp m k ≡ Some x
    last_in = (is.3 (k, x) t ends).1

    low : k ≤ b
    low = up_to k b (is.3 (k, x) t ends).0.1

    pub last_low : k ≤ state
    last_low = let a = low in omega arith

    pub last_meeting : (a : ℕ) → rows_meet rows a state ≡ nat_le a x.last
    last_meeting a = all_states a ∙ last_meets rows a b k (row_of vs (k, x)) apart (entry_row vs m.entries k x last_in) low (λ j s f few. not_below k j (is.4 (k, x) t ends j (tt, not_after j b few) (row_entry vs m.entries j s f)))

  -- and where there is none
  module _ (empty : r ≡ []) where
    pub none_meeting : (a : ℕ) → rows_meet rows a state ≡ false
    none_meeting a = all_states a ∙ none_begins rows a b (λ j s f few. let none = is.5 empty j (tt, not_after j b few) in nothing j (row_entry vs m.entries j s f) none) apart
      where
        nothing : (j : ℕ) → IsSome (get nat_cmp m j) → get nat_cmp m j ≡ None → ⊥
        nothing j some none = let no : false ≡ true = rw none at some in cc

-- the last row that begins there ends before the state
pub unmet_above : (rows : List InputRow) (state last : ℕ) → rows_meet rows state state ≡ nat_le state last → last < state → row_value rows state ≡ None
unmet_above rows state last met over = unmet rows state (met ∙ short (nat_le state last) refl)
  where
    short : (p : Bool) → nat_le state last ≡ p → p ≡ false
    short true e = absurd (grind (arith, nat_tests))
    short false e = refl
