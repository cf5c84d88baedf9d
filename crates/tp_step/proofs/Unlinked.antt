-- Where nothing is visited after any item, and none is gone, it is known what is.
use Rattle.std.proofs.Common.{◌≡◌, ℕ, zero, suc, true, eqb, List, [], ◌∷◌, ◌++◌, map, get_or, Option, None, refl, sym, subst, inl, inr}
use Rattle.std.proofs.lemmas.Bool.{cases_Bool, eqb-true}
use Rattle.tp_scene.specs.Scene.{Entries, none, leaf, node}
use Rattle.tp_slots.specs.Plain.{What, bare, holds, gone, Slot, Slots, slot_at, IsLive}
use Rattle.tp_slots.specs.Lives.{has_own}
use Rattle.tp_slots.specs.Shown.{AreShown}
use Rattle.tp_slots.specs.Threads.{after_at, IsLinked, AreLast}
use Rattle.tp_slots.specs.declared.scene.Slot as code

pub live_linked : (ns : List (Option ℕ)) (t : ℕ) (w : What) → IsLive w → IsLinked ns t w
live_linked ns t (bare l) h = tt
live_linked ns t (holds k r q) h = tt
live_linked ns t (gone by) h = absurd h

pub unlinked_last : (ns : List (Option ℕ)) → ((t : ℕ) → after_at ns t ≡ None) → (ids : List ℕ) → AreLast ns ids
unlinked_last ns h [] = tt
unlinked_last ns h (t ∷ ts) = (h t, unlinked_last ns h ts)

-- an item that is read among entries is there
pub own_live : (s : Slots) (r t : ℕ) (es : Entries) → AreShown s r es → has_own t es ≡ true → IsLive (slot_at s t).what
own_live s r t none a h = absurd (cc)
own_live s r t (leaf id l rest) a h = elim (cases_Bool (eqb id t)) [
  | inl e ↦ subst (λ n. IsLive (slot_at s n).what) (eqb-true id t e) (subst (λ (x : Slot). IsLive x.what) (sym a.1) tt)
  | inr e ↦ own_live s r t rest a.2 (rw e at h)
]
own_live s r t (node id k x held g second rest) a h = elim (cases_Bool (eqb id t)) [
  | inl e ↦ subst (λ n. IsLive (slot_at s n).what) (eqb-true id t e) (subst (λ (y : Slot). IsLive y.what) (sym a.2) tt)
  | inr e ↦ own_live s r t rest a.9 (rw e at h)
]

-- one more item after which nothing is visited
pub unlinked_push : (xs : List code.Slot) (x : code.Slot) → x.after ≡ None → ((t : ℕ) → get_or (map (λ y. y.after) xs) t None ≡ None) → (t : ℕ) → get_or (map (λ y. y.after) (xs ++ x ∷ [])) t None ≡ None
unlinked_push [] x e h zero = e
unlinked_push [] x e h (suc t) = refl
unlinked_push (y ∷ ys) x e h zero = h zero
unlinked_push (y ∷ ys) x e h (suc t) = unlinked_push ys x e (λ n. h (suc n)) t
