-- Enough is enough: how far slots are read makes no difference from then on.
use Rattle.std.proofs.Common.{◌≡◌, ℕ, suc, ◌+◌, ◌≤◌, ◌<◌, cond, length, Some, None, refl, ap, sym, ◌∙◌, arith}
use Rattle.tp_scene.specs.Scene.{Head, Holder, Split, Entries, none, leaf, node}
use Rattle.tp_slots.specs.Plain.{Slots, slot_at, item_entries, region_entries, has_second, IsOrdered}
use Rattle.tp_slots.specs.Edit.{edited_entries, Follows}
use Rattle.tp_slots.proofs.Read.{region_edited, item_edited}

unmarked : (k : Holder) (g : Head) → cond (has_second k) g g ≡ g
unmarked (Split f env) g = refl
unmarked _ g = refl

pub same_edited : (es : Entries) → edited_entries (λ u. None) (λ r. None) es ≡ es
same_edited none = refl
same_edited (leaf id l rest) = ap (leaf id l) (same_edited rest)
same_edited (node id k h held g second rest) =
    let a = same_edited held in
    let b = same_edited second in
    let c = same_edited rest in
    let d = unmarked k g in
    λ i. node id k h (a i) (d i) (b i) (c i)

pub same_follows : (s : Slots) → Follows 0 s s (λ u. None) (λ r. None)
same_follows s = record {
  items = omega arith;
  regions = omega arith;
  kept = λ u l o p. refl;
  heads = λ r l o. refl;
  roots = λ r l o. refl;
  lived = λ u e l p. absurd (no_some e p);
  news = λ u e l o p n m a b rest. absurd (no_some e p);
}
  where
    no_some : (e : Entries) → None ≡ Some e → ⊥
    no_some e p = cc

pub region_enough : (s : Slots) → IsOrdered s → (n m r : ℕ) → length s.regions ≤ n + r → length s.regions ≤ m + r → r < length s.regions → region_entries s m r ≡ region_entries s n r
region_enough s sound n m r a b l = region_edited s s (λ u. None) (λ r. None) 0 sound (same_follows s) n m r (omega arith) a b l ∙ same_edited (region_entries s n r)

pub item_enough : (s : Slots) → IsOrdered s → (n n' m m' t : ℕ) → t < length s.slots → length s.regions ≤ n + suc (slot_at s t).home → length s.regions ≤ n' + suc (slot_at s t).home
    → length s.slots ≤ m + t → length s.slots ≤ m' + t → (rest : Entries) → item_entries s (region_entries s n') m' t rest ≡ item_entries s (region_entries s n) m t rest
item_enough s sound n n' m m' t l a a' b b' rest =
    ap (item_entries s (region_entries s n') m' t) (sym (same_edited rest))
    ∙ (item_edited s s (λ u. None) (λ r. None) 0 sound (same_follows s) n n' (slot_at s t).home (omega arith) a'
    (λ p c d. region_edited s s (λ u. None) (λ r. None) 0 sound (same_follows s) n n' p (omega arith) (omega (arith, a, c)) (omega (arith, a', c)) d)
    m m' t b b' l refl rest
    ∙ same_edited (item_entries s (region_entries s n) m t rest))
