-- The rows of a map's entries.
use Rattle.std.proofs.Common.{refl, ap, sym, ◌∙◌, ◌≡◌, ℕ, List, [], ◌∷◌, map, Some, IsSome}
use Rattle.std.specs.Ordering.{nat_cmp}
use Rattle.std.specs.Map.{lookup, remove_entry}
use Rattle.std.specs.BTreeMap.{insert_entry, is_at}
use Rattle.tp_meaning.specs.Inputs.{InputRow}
use Rattle.tp_value.specs.declared.value.Value.{Value}
use Rattle.tp_inputs.specs.declared.ranges.Row.{Row}
use Rattle.tp_inputs.specs.Model.{row_of}
use Rattle.tp_inputs.proofs.RowLemmas.{row_at, without, Order, less, equal, greater, order}
use Rattle.tp_inputs.proofs.RowMoves.{with_row}

abbrev pub Entries : Type 0
Entries = List (ℕ × Row)

pub entry_row : (vs : List Value) (es : Entries) (k : ℕ) (x : Row) → lookup (is_at (nat_cmp k)) es ≡ Some x → row_at k (map (row_of vs) es) ≡ Some (row_of vs (k, x))
entry_row vs [] k x f = absurd cc
entry_row vs (e ∷ es) k x f = at (order k e.0) (entry_row vs es k x)
  where
    at : Order k e.0 → (lookup (is_at (nat_cmp k)) es ≡ Some x → row_at k (map (row_of vs) es) ≡ Some (row_of vs (k, x))) → row_at k (map (row_of vs) (e ∷ es)) ≡ Some (row_of vs (k, x))
    at (less o y) later = rw o (later (sym (rw o refl) ∙ f))
    at (greater o y) later = rw o (later (sym (rw o refl) ∙ f))
    at (equal o y) later = let it : Some e.1 ≡ Some x = sym (rw o refl) ∙ f in let is : e.1 ≡ x = cc in rw o (ap (λ (j : ℕ). Some (row_of vs (j, e.1))) (sym y) ∙ ap (λ (z : Row). Some (row_of vs (k, z))) is)

pub row_entry : (vs : List Value) (es : Entries) (k : ℕ) (s : InputRow) → row_at k (map (row_of vs) es) ≡ Some s → IsSome (lookup (is_at (nat_cmp k)) es)
row_entry vs [] k s f = absurd cc
row_entry vs (e ∷ es) k s f = at (order k e.0) (row_entry vs es k s)
  where
    at : Order k e.0 → (row_at k (map (row_of vs) es) ≡ Some s → IsSome (lookup (is_at (nat_cmp k)) es)) → IsSome (lookup (is_at (nat_cmp k)) (e ∷ es))
    at (less o y) later = rw o (later (sym (rw o refl) ∙ f))
    at (greater o y) later = rw o (later (sym (rw o refl) ∙ f))
    at (equal o y) later = rw o refl

pub removed_row : (vs : List Value) (es : Entries) (k : ℕ) → map (row_of vs) (remove_entry (is_at (nat_cmp k)) es) ≡ without k (map (row_of vs) es)
removed_row vs [] k = refl
removed_row vs (e ∷ es) k = at (order k e.0) (removed_row vs es k)
  where
    at : Order k e.0 → map (row_of vs) (remove_entry (is_at (nat_cmp k)) es) ≡ without k (map (row_of vs) es) → map (row_of vs) (remove_entry (is_at (nat_cmp k)) (e ∷ es)) ≡ without k (map (row_of vs) (e ∷ es))
    at (less o y) later = rw o (ap (λ rs. row_of vs e ∷ rs) later)
    at (greater o y) later = rw o (ap (λ rs. row_of vs e ∷ rs) later)
    at (equal o y) later = rw o refl

pub inserted_row : (vs : List Value) (es : Entries) (k : ℕ) (x : Row) → map (row_of vs) (insert_entry nat_cmp es k x) ≡ with_row (row_of vs (k, x)) (map (row_of vs) es)
inserted_row vs [] k x = refl
inserted_row vs (e ∷ es) k x = at (order k e.0) (inserted_row vs es k x)
  where
    at : Order k e.0 → map (row_of vs) (insert_entry nat_cmp es k x) ≡ with_row (row_of vs (k, x)) (map (row_of vs) es) → map (row_of vs) (insert_entry nat_cmp (e ∷ es) k x) ≡ with_row (row_of vs (k, x)) (map (row_of vs) (e ∷ es))
    at (less o y) later = rw o refl
    at (greater o y) later = rw o (ap (λ rs. row_of vs e ∷ rs) later)
    at (equal o y) later = rw o (ap (λ (j : ℕ). row_of vs (j, x) ∷ map (row_of vs) es) (sym y))
