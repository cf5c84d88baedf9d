-- Reading words back: a word ends where another byte comes.
use Rattle.std.proofs.Common.{◌≡◌, ◌<◌, ◌≤◌, ◌+◌, ◌^◌, ◌%◌, ℤ, pos, negsuc, ℕ, suc, eqb, true, false, IsTrue, List, [], ◌∷◌, ◌++◌, refl, sym, ap, ◌∙◌, subst, arith, tests}
use Rattle.std.specs.Fmt.{decimal, signed_decimal}
use Rattle.std.specs.Str.Parse.{AllDigits, digits_value}
use Rattle.std.proofs.lemmas.Fmt.{decimal_by_steps_wide, decimal_is_IsNumeral_wide}
use Rattle.std.proofs.lemmas.Str.Parse.{digit_from_value}
use lib.Signed.{mag}
use Rattle.tp_show.specs.Told.{is_word_byte, IsWord}

-- the text does not begin with a byte of a word
abbrev pub EndsWord : List ℕ → Type 0
EndsWord [] = Unit {0}
EndsWord (c ∷ cs) = is_word_byte c ≡ false

inside : (c : ℕ) (T : Type 0) → IsTrue (is_word_byte c) → is_word_byte c ≡ false → T
inside c T h e = let bad : true ≡ false = sym h ∙ e in cc

-- a word is read as far as it goes
pub word_read : (a b r s : List ℕ) → IsWord a → IsWord b → EndsWord r → EndsWord s → a ++ r ≡ b ++ s → (a ≡ b) × (r ≡ s)
word_read [] [] r s p q u v e = (refl, e)
word_read [] (y ∷ b) [] s p q u v e = cc
word_read [] (y ∷ b) (c ∷ r) s p q u v e = let same : c ≡ y = cc in inside y _ q.0 (subst (λ x. is_word_byte x ≡ false) same u)
word_read (x ∷ a) [] r [] p q u v e = cc
word_read (x ∷ a) [] r (c ∷ s) p q u v e = let same : c ≡ x = cc in inside x _ p.0 (subst (λ y. is_word_byte y ≡ false) same v)
word_read (x ∷ a) (y ∷ b) r s p q u v e =
    let head : x ≡ y = cc in
    let tail : a ++ r ≡ b ++ s = cc in
    let rest = word_read a b r s p.1 q.1 u v tail in
    (cc (head, rest.0), rest.1)

IsWord-snoc : (a : List ℕ) (c : ℕ) → IsWord a → IsTrue (is_word_byte c) → IsWord (a ++ c ∷ [])
IsWord-snoc [] c p q = (q, tt)
IsWord-snoc (x ∷ a) c p q = (p.0, IsWord-snoc a c p.1 q)

digit_is_word : (d : ℕ) → d < 10 → IsTrue (is_word_byte (48 + d))
digit_is_word d h = grind (arith, tests)

-- a state's number, an index or a length is low enough
pub is_low : (n : ℕ) → n < 2 ^ 64 → n < 10 ^ 64
is_low n h = omega (arith, h)

pub decimal_is_word : (n : ℕ) → n < 10 ^ 64 → IsWord (decimal n)
decimal_is_word n h =
    decimal_by_steps_wide (λ n ds. IsWord ds) (λ n low. (digit_is_word n low, tt)) (λ n ds high p. IsWord-snoc ds (48 + n % 10) p (digit_is_word (n % 10) (omega arith))) n h

-- 45 is `-`
pub signed_is_word : (z : ℤ) → mag z < 2 ^ 127 → IsWord (signed_decimal z)
signed_is_word (pos n) h = decimal_is_word n (omega (arith, h))
signed_is_word (negsuc n) h = (refl, decimal_is_word (suc n) (omega (arith, h)))

pub rest_is : (x y : ℕ) (xs ys : List ℕ) → x ∷ xs ≡ y ∷ ys → xs ≡ ys
rest_is x y xs ys e = cc

pub head_is : (x y : ℕ) (xs ys : List ℕ) → x ∷ xs ≡ y ∷ ys → x ≡ y
head_is x y xs ys e = cc

-- two numbers of the machine have two texts
decimal_apart : (m n : ℕ) → m < 10 ^ 64 → n < 10 ^ 64 → decimal m ≡ decimal n → m ≡ n
decimal_apart m n p q e = sym (decimal_is_IsNumeral_wide m p).1 ∙ (ap (digits_value 10) e ∙ (decimal_is_IsNumeral_wide n q).1)

decimal_unsigned : (n : ℕ) (ds : List ℕ) → n < 10 ^ 64 → decimal n ≡ 45 ∷ ds → ⊥
decimal_unsigned n ds h e = omega (arith, digit_from_value 45 (subst (AllDigits 10) e (decimal_is_IsNumeral_wide n h).0.1).0)

pub signed_apart : (y z : ℤ) → mag y < 2 ^ 127 → mag z < 2 ^ 127 → signed_decimal y ≡ signed_decimal z → y ≡ z
signed_apart (pos m) (pos n) p q e = ap pos (decimal_apart m n (omega (arith, p)) (omega (arith, q)) e)
signed_apart (pos m) (negsuc n) p q e = absurd (decimal_unsigned m _ (omega (arith, p)) e)
signed_apart (negsuc m) (pos n) p q e = absurd (decimal_unsigned n _ (omega (arith, q)) (sym e))
signed_apart (negsuc m) (negsuc n) p q e =
    let same : suc m ≡ suc n = decimal_apart (suc m) (suc n) (omega (arith, p)) (omega (arith, q)) (rest_is 45 45 _ _ e) in
    ap negsuc (omega (arith, same))

-- two texts begin with two bytes
pub heads_apart : (x y : ℕ) (xs ys : List ℕ) → eqb x y ≡ false → x ∷ xs ≡ y ∷ ys → ⊥
heads_apart x y xs ys h e = let same : x ≡ y = head_is x y xs ys e in grind (arith, tests)

-- a number begins with a digit or with `-`
abbrev pub BeginsLow : List ℕ → Type 0
BeginsLow [] = ⊥
BeginsLow (c ∷ cs) = c < 58

BeginsLow-snoc : (ds : List ℕ) (c : ℕ) → BeginsLow ds → BeginsLow (ds ++ c ∷ [])
BeginsLow-snoc [] c h = absurd h
BeginsLow-snoc (d ∷ ds) c h = h

pub decimal_low : (n : ℕ) → n < 10 ^ 64 → BeginsLow (decimal n)
decimal_low n h = decimal_by_steps_wide (λ n ds. BeginsLow ds) (λ n low. omega arith) (λ n ds high p. BeginsLow-snoc ds (48 + n % 10) p) n h

pub signed_low : (z : ℤ) → mag z < 2 ^ 127 → BeginsLow (signed_decimal z)
signed_low (pos n) h = decimal_low n (omega (arith, h))
signed_low (negsuc n) h = omega arith

-- so with no letter and no bracket
pub low_apart : (ds r xs : List ℕ) (c : ℕ) → BeginsLow ds → 58 ≤ c → ds ++ r ≡ c ∷ xs → ⊥
low_apart [] r xs c low high e = low
low_apart (d ∷ ds) r xs c low high e = let same : d ≡ c = head_is _ _ _ _ e in absurd (omega (arith, low, high, same))
