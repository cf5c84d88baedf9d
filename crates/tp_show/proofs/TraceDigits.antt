-- Where a front of passing bytes ends, and what numbers texts of digits spell.
use Rattle.std.proofs.Common.{◌≡◌, ℕ, suc, ◌+◌, ◌<◌, ◌≤◌, ltb, leb, Bool, true, false, not, ◌&&◌, ◌==◌, cond, List, [], ◌∷◌, ◌++◌, length, take, drop, Some, None, refl, sym, ap, ◌∙◌, subst, arith, tests}
use Rattle.std.specs.List.{prefix_len}
use Rattle.std.specs.Char.{is_ascii_digit}
use Rattle.tp_value.specs.Spelling.{AllDigits, AreDigits, decimal_value}
use Rattle.tp_show.specs.TraceReading.{all_digits, digits_within}

-- each byte passes
abbrev pub AllPass : (ℕ → Bool) → List ℕ → Type 0
AllPass p [] = Unit {0}
AllPass p (b ∷ z) = (p b ≡ true) × AllPass p z

-- nothing comes, or a byte that doesn't pass
abbrev pub Stops : (ℕ → Bool) → List ℕ → Type 0
Stops p [] = Unit {0}
Stops p (b ∷ z) = p b ≡ false

pub front_len : (p : ℕ → Bool) (xs rest : List ℕ) → AllPass p xs → Stops p rest → prefix_len p (xs ++ rest) ≡ length xs
front_len p [] [] all stops = refl
front_len p [] (b ∷ z) all stops = ap (λ c. cond c (1 + prefix_len p z) 0) stops
front_len p (x ∷ xs) rest all stops = ap (λ c. cond c (1 + prefix_len p (xs ++ rest)) 0) all.0 ∙ (ap (λ n. 1 + n) (front_len p xs rest all.1 stops) ∙ omega arith)

pub front_passes : (p : ℕ → Bool) (z : List ℕ) → AllPass p (take (prefix_len p z) z)
front_passes p [] = tt
front_passes p (b ∷ z) = by (front_passes p z) (p b) refl
  where
    by : AllPass p (take (prefix_len p z) z) → (c : Bool) → p b ≡ c → AllPass p (take (cond c (1 + prefix_len p z) 0) (b ∷ z))
    by later true e = let n : 1 + prefix_len p z ≡ suc (prefix_len p z) = omega arith in subst (λ (k : ℕ). AllPass p (take k (b ∷ z))) (sym n) (e, later)
    by later false e = tt

pub front_stops : (p : ℕ → Bool) (z : List ℕ) → Stops p (drop (prefix_len p z) z)
front_stops p [] = tt
front_stops p (b ∷ z) = by (front_stops p z) (p b) refl
  where
    by : Stops p (drop (prefix_len p z) z) → (c : Bool) → p b ≡ c → Stops p (drop (cond c (1 + prefix_len p z) 0) (b ∷ z))
    by later true e = let n : 1 + prefix_len p z ≡ suc (prefix_len p z) = omega arith in subst (λ (k : ℕ). Stops p (drop k (b ∷ z))) (sym n) later
    by later false e = e

pub front_within : (p : ℕ → Bool) (z : List ℕ) → prefix_len p z ≤ length z
front_within p [] = omega arith
front_within p (b ∷ z) = by (front_within p z) (p b)
  where
    by : prefix_len p z ≤ length z → (c : Bool) → cond c (1 + prefix_len p z) 0 ≤ length (b ∷ z)
    by later true = omega (arith, later)
    by later false = omega arith

-- bytes that pass are other than one that doesn't
pub pass_another : (p : ℕ → Bool) (stop : ℕ) (z : List ℕ) → p stop ≡ false → AllPass p z → AllPass (λ b. not (b == stop)) z
pass_another p stop [] e h = tt
pass_another p stop (b ∷ z) e h = (apart (b == stop) refl, pass_another p stop z e h.1)
  where
    apart : (c : Bool) → (b == stop) ≡ c → not (b == stop) ≡ true
    apart true t = let same : b ≡ stop = grind (arith, tests, t) in let d : p stop ≡ true = subst (λ (x : ℕ). p x ≡ true) same h.0 in absurd cc
    apart false t = ap not t

-- digits

pub digits_true : (z : List ℕ) → AllDigits z → all_digits z ≡ true
digits_true [] h = refl
digits_true (b ∷ z) h = ap (λ c. c && all_digits z) h.0 ∙ digits_true z h.1

pub digits_from : (z : List ℕ) → all_digits z ≡ true → AllDigits z
digits_from [] h = tt
digits_from (b ∷ z) h = by (digits_from z) (is_ascii_digit b) refl h
  where
    by : (all_digits z ≡ true → AllDigits z) → (c : Bool) → is_ascii_digit b ≡ c → (c && all_digits z) ≡ true → AllDigits (b ∷ z)
    by later true e t = (e, later t)
    by later false e t = absurd cc

pub some_digits : (z : List ℕ) → AreDigits z → AllDigits z × (0 < length z)
some_digits [] h = absurd h
some_digits (b ∷ z) h = (h, omega arith)

pass_digits : (z : List ℕ) → AllDigits z → AllPass is_ascii_digit z
pass_digits [] h = tt
pass_digits (b ∷ z) h = (h.0, pass_digits z h.1)

-- no digit is another byte
pub no_digit : (stop : ℕ) (ds : List ℕ) → is_ascii_digit stop ≡ false → AreDigits ds → AllPass (λ b. not (b == stop)) ds
no_digit stop ds e h = pass_another is_ascii_digit stop ds e (pass_digits ds (some_digits ds h).0)

pub within_from : (limit : ℕ) (z : List ℕ) → AreDigits z → decimal_value z ≤ limit → digits_within limit z ≡ Some (decimal_value z)
within_from limit z h small =
    let s = some_digits z h in
    let t : all_digits z ≡ true = digits_true z s.0 in
    let long : ltb 0 (length z) ≡ true = grind (arith, tests, s.1) in
    let low : leb (decimal_value z) limit ≡ true = grind (arith, tests) in
    ap (λ c. cond (c && (all_digits z && leb (decimal_value z) limit)) (Some (decimal_value z)) None) long
    ∙ (ap (λ c. cond (c && leb (decimal_value z) limit) (Some (decimal_value z)) None) t
    ∙ ap (λ c. cond c (Some (decimal_value z)) None) low)

pub record IsWithin (limit : ℕ) (z : List ℕ) (n : ℕ) : Type 0 where
  pub digits : AreDigits z
  pub value : n ≡ decimal_value z
  pub small : decimal_value z ≤ limit

pub within_is : (limit : ℕ) (z : List ℕ) (n : ℕ) → digits_within limit z ≡ Some n → IsWithin limit z n
within_is limit [] n e = absurd cc
within_is limit (b ∷ z) n e = by (all_digits (b ∷ z)) refl (leb (decimal_value (b ∷ z)) limit) refl long
  where
    long : cond (all_digits (b ∷ z) && leb (decimal_value (b ∷ z)) limit) (Some (decimal_value (b ∷ z))) None ≡ Some n
    long = let h : ltb 0 (length (b ∷ z)) ≡ true = grind (arith, tests) in ap (λ c. cond (c && (all_digits (b ∷ z) && leb (decimal_value (b ∷ z)) limit)) (Some (decimal_value (b ∷ z))) None) (sym h) ∙ e

    by : (c : Bool) → all_digits (b ∷ z) ≡ c → (d : Bool) → leb (decimal_value (b ∷ z)) limit ≡ d → cond (c && d) (Some (decimal_value (b ∷ z))) None ≡ Some n → IsWithin limit (b ∷ z) n
    by true t true l f = record { digits = digits_from (b ∷ z) t; value = cc; small = grind (arith, tests) }
    by true t false l f = absurd cc
    by false t d l f = absurd cc
