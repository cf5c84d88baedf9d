-- The first and the last row that has members, as they are looked for in the same counts, and their members in the same words.
use Rattle.std.proofs.Common.{◌≡◌, ℕ, ◌+◌, ◌*◌, ◌^◌, ◌<◌, ◌≤◌, List, true, false, length, get_or, subst, ◌∙◌}
use Rattle.tp_lanes.specs.Planes.{flag, bit_in, flags_below, AreEmpty, IsPlane, IsFirstMember, IsLastMember}
use Rattle.tp_lanes.specs.declared.plane.Plane.TheInside.{Inside}
use Rattle.tp_lanes.proofs.Planes.{flag_is, all_clear, row_fits, row_filled, least_is, greatest_is}

module _ (s : Inside) (p : IsPlane s.bound s.words.items s.rows.items s.size) {rows : List ℕ} (counts : rows ≡ s.rows.items) where
  pub none_filled : ((k : ℕ) → k < length rows → get_or rows k 0 ≡ 0) → (n : ℕ) → flag (flags_below s.bound s.words.items) n ≡ false
  none_filled none = all_clear s.bound s.words.items s.rows.items s.size p (subst (λ (rs : List ℕ). (k : ℕ) → k < length rs → get_or rs k 0 ≡ 0) counts none)

  module _ (row : ℕ) (less : row < length rows) where
    is_row : row < length s.rows.items
    is_row = subst (λ (rs : List ℕ). row < length rs) counts less

    pub fits : 512 * row + 512 ≤ 2 ^ 64
    fits = row_fits s.bound s.words.items s.rows.items s.size p row is_row

    module _ {words : List ℕ} (bits : words ≡ s.words.items) where
      pub filled : 0 < get_or rows row 0 → AreEmpty words (8 * row) (8 * row + 8) → ⊥
      filled some empty = row_filled s.bound s.words.items s.rows.items s.size p row is_row (subst (λ (rs : List ℕ). 0 < get_or rs row 0) counts some)
          (subst (λ (ws : List ℕ). AreEmpty ws (8 * row) (8 * row + 8)) bits empty)

      module _ (n : ℕ) (member : bit_in words n ≡ true) where
        is_member : flag (flags_below s.bound s.words.items) n ≡ true
        is_member = flag_is s.bound s.words.items s.rows.items s.size p n ∙ subst (λ (ws : List ℕ). bit_in ws n ≡ true) bits member

        pub first_is : ((k : ℕ) → k < row → get_or rows k 0 ≡ 0) → ((k : ℕ) → 512 * row ≤ k → k < n → bit_in words k ≡ false) → IsFirstMember (flags_below s.bound s.words.items) n
        first_is before least = record {
          member = is_member;
          least = least_is s.bound s.words.items s.rows.items s.size p row n is_row (subst (λ (rs : List ℕ). (k : ℕ) → k < row → get_or rs k 0 ≡ 0) counts before)
              (subst (λ (ws : List ℕ). (k : ℕ) → 512 * row ≤ k → k < n → bit_in ws k ≡ false) bits least);
        }

        pub last_is : ((k : ℕ) → row + 1 ≤ k → k < length rows → get_or rows k 0 ≡ 0) → ((k : ℕ) → n < k → k < 512 * row + 512 → bit_in words k ≡ false) → IsLastMember (flags_below s.bound s.words.items) n
        last_is behind greatest = record {
          member = is_member;
          greatest = greatest_is s.bound s.words.items s.rows.items s.size p row n is_row (subst (λ (rs : List ℕ). (k : ℕ) → row + 1 ≤ k → k < length rs → get_or rs k 0 ≡ 0) counts behind)
              (subst (λ (ws : List ℕ). (k : ℕ) → n < k → k < 512 * row + 512 → bit_in ws k ≡ false) bits greatest);
        }
