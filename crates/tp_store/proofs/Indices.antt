-- Indices one after another.
use Rattle.std.proofs.Common.{◌≡◌, ◌≢◌, ℕ, zero, suc, ◌<◌, ◌≤◌, true, false, not, ◌&&◌, ◌||◌, eqb, ltb, List, [], ◌∷◌, length, get_or, drop, refl, ap, arith}
use Rattle.tp_value.specs.declared.value.Shape.{Shape}
use Rattle.tp_store.specs.Facts.{same_indices, has_item, leaves_out}
use Rattle.tp_store.specs.Known.{is_lesser}

pub same_indices-other_length : (a b : List ℕ) → length a ≢ length b → same_indices a b ≡ false
same_indices-other_length [] [] h = absurd (h refl)
same_indices-other_length [] (k ∷ ks) h = refl
same_indices-other_length (j ∷ js) [] h = refl
same_indices-other_length (j ∷ js) (k ∷ ks) h =
    let rest : same_indices js ks ≡ false = same_indices-other_length js ks (λ e. h (ap suc e)) in
    rw rest (grind arith)

pub same_indices-at : (a b : List ℕ) (i : ℕ) → i < length a → i < length b → same_indices (drop i a) (drop i b) ≡ (eqb (get_or a i 0) (get_or b i 0) && same_indices (drop (suc i) a) (drop (suc i) b))
same_indices-at [] b i h l = absurd (omega arith)
same_indices-at (j ∷ js) [] i h l = absurd (omega arith)
same_indices-at (j ∷ js) (k ∷ ks) zero h l = refl
same_indices-at (j ∷ js) (k ∷ ks) (suc i) h l = same_indices-at js ks i (omega arith) (omega arith)

pub leaves_out-shorter : (a b : List ℕ) (sh : Shape) → length b ≤ length a → leaves_out a sh b ≡ false
leaves_out-shorter [] [] sh h = refl
leaves_out-shorter [] (k ∷ ks) sh h = absurd (omega arith)
leaves_out-shorter (j ∷ js) [] sh h = refl
leaves_out-shorter (j ∷ js) (k ∷ ks) sh h =
    let rest : leaves_out js sh ks ≡ false = leaves_out-shorter js ks sh (omega arith) in
    rw rest (grind arith)

pub leaves_out-at : (a b : List ℕ) (sh : Shape) (i : ℕ) → i < length a → i < length b → leaves_out (drop i a) sh (drop i b) ≡ (eqb (get_or a i 0) (get_or b i 0) && leaves_out (drop (suc i) a) sh (drop (suc i) b))
leaves_out-at [] b sh i h l = absurd (omega arith)
leaves_out-at (j ∷ js) [] sh i h l = absurd (omega arith)
leaves_out-at (j ∷ js) (k ∷ ks) sh zero h l = refl
leaves_out-at (j ∷ js) (k ∷ ks) sh (suc i) h l = leaves_out-at js ks sh i (omega arith) (omega arith)

pub leaves_out-end : (a b : List ℕ) (sh : Shape) → length a < length b → leaves_out (drop (length a) a) sh (drop (length a) b) ≡ not (has_item sh (get_or b (length a) 0))
leaves_out-end [] [] sh h = absurd (omega arith)
leaves_out-end [] (k ∷ ks) sh h = refl
leaves_out-end (j ∷ js) [] sh h = absurd (omega arith)
leaves_out-end (j ∷ js) (k ∷ ks) sh h = leaves_out-end js ks sh (omega arith)

pub is_lesser-at : (a b : List ℕ) (i : ℕ) → i < length a → i < length b → is_lesser (drop i a) (drop i b) ≡ (ltb (get_or a i 0) (get_or b i 0) || (eqb (get_or a i 0) (get_or b i 0) && is_lesser (drop (suc i) a) (drop (suc i) b)))
is_lesser-at [] b i h l = absurd (omega arith)
is_lesser-at (j ∷ js) [] i h l = absurd (omega arith)
is_lesser-at (j ∷ js) (k ∷ ks) zero h l = refl
is_lesser-at (j ∷ js) (k ∷ ks) (suc i) h l = is_lesser-at js ks i (omega arith) (omega arith)

pub is_lesser-end : (a b : List ℕ) → length a ≡ length b → is_lesser (drop (length a) a) (drop (length a) b) ≡ false
is_lesser-end [] [] h = refl
is_lesser-end [] (k ∷ ks) h = absurd (omega arith)
is_lesser-end (j ∷ js) [] h = absurd (omega arith)
is_lesser-end (j ∷ js) (k ∷ ks) h = is_lesser-end js ks (omega arith)

pub same_indices-end : (a b : List ℕ) → length a ≡ length b → same_indices (drop (length a) a) (drop (length a) b) ≡ true
same_indices-end [] [] h = refl
same_indices-end [] (k ∷ ks) h = absurd (omega arith)
same_indices-end (j ∷ js) [] h = absurd (omega arith)
same_indices-end (j ∷ js) (k ∷ ks) h = same_indices-end js ks (omega arith)
