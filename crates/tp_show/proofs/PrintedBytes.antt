-- The line of a state has no control characters, and so it stays whole as lines are told apart.
use Rattle.std.proofs.Common.{◌≡◌, ◌+◌, ◌-◌, ◌/◌, ◌%◌, ℕ, ℤ, pos, negsuc, zero, suc, ltb, Bool, true, false, cond, ◌==◌, List, [], ◌∷◌, ◌++◌, length, slice_index, take, codes, refl, ap, subst, arith, tests, append_assoc}
use Rattle.std.specs.List.{flat_map}
use Rattle.std.specs.Fmt.{digits, digits_onto, digit_glyph, decimal, signed_decimal}
use Rattle.std.specs.Str.Lines.{strip_carriage_return}
use Rattle.tp_value.specs.Tree.{Tree, Trees, num, truth, list, nil, cons}
use Rattle.tp_value.specs.Written.{text_of, items_text, later_text}
use Rattle.tp_lex.specs.Bytes.{is_name_byte}
use Rattle.tp_show.specs.Texts.{index_text}
use Rattle.tp_show.specs.Trace.{AreNameBytes}
use Rattle.tp_show.proofs.TraceDigits.{AllPass}
use Rattle.tp_show.proofs.TraceNames.{passes_append}

-- the byte is no control character
abbrev pub is_plain : ℕ → Bool
is_plain b = ltb 31 b

abbrev pub ArePlain : List ℕ → Type 0
ArePlain z = AllPass is_plain z

pub plain_append : (xs ys : List ℕ) → ArePlain xs → ArePlain ys → ArePlain (xs ++ ys)
plain_append xs ys h k = passes_append is_plain xs ys h k

-- ---- what is plain

glyph_plain : (d : ℕ) (c : Bool) → ltb 31 (cond c (48 + d) (87 + d)) ≡ true
glyph_plain d true = grind (arith, tests)
glyph_plain d false = grind (arith, tests)

onto_plain : (k n : ℕ) (acc : List ℕ) → ArePlain acc → ArePlain (digits_onto k 10 false n acc)
onto_plain zero n acc h = h
onto_plain (suc k) n acc h =
    let first : ArePlain (digit_glyph false (n % 10) ∷ acc) = (glyph_plain (n % 10) (ltb (n % 10) 10), h) in
    by (n / 10 == 0) first (onto_plain k (n / 10) (digit_glyph false (n % 10) ∷ acc) first)
  where
    by : (c : Bool) → ArePlain (digit_glyph false (n % 10) ∷ acc) → ArePlain (digits_onto k 10 false (n / 10) (digit_glyph false (n % 10) ∷ acc)) → ArePlain (cond c (digit_glyph false (n % 10) ∷ acc) (digits_onto k 10 false (n / 10) (digit_glyph false (n % 10) ∷ acc)))
    by true one more = one
    by false one more = more

pub decimal_plain : (n : ℕ) → ArePlain (decimal n)
unfolding digits
decimal_plain n = onto_plain 64 n [] tt

pub signed_plain : (n : ℤ) → ArePlain (signed_decimal n)
signed_plain (pos n) = decimal_plain n
signed_plain (negsuc n) = (refl, decimal_plain (suc n))

mutual
  pub text_plain : (t : Tree) → ArePlain (text_of t)
  text_plain (num n) = signed_plain n
  text_plain (truth true) = (refl, (refl, (refl, (refl, tt))))
  text_plain (truth false) = (refl, (refl, (refl, (refl, (refl, tt)))))
  text_plain (list ts) = (refl, plain_append (items_text ts) (codes ">") (items_plain ts) (refl, tt))

  items_plain : (ts : Trees) → ArePlain (items_text ts)
  items_plain nil = tt
  items_plain (cons t ts) = plain_append (text_of t) (later_text ts) (text_plain t) (later_plain ts)

  later_plain : (ts : Trees) → ArePlain (later_text ts)
  later_plain nil = tt
  later_plain (cons t ts) = (refl, plain_append (text_of t) (later_text ts) (text_plain t) (later_plain ts))

pub name_plain : (z : List ℕ) → AreNameBytes z → ArePlain z
name_plain [] h = tt
name_plain (b ∷ z) h = (let named : is_name_byte b ≡ true = h.0 in grind (arith, tests), name_plain z h.1)

pub indices_plain : (at : List ℕ) → ArePlain (flat_map index_text at)
indices_plain [] = tt
indices_plain (i ∷ at) = plain_append (index_text i) (flat_map index_text at) one (indices_plain at)
  where
    one : ArePlain (index_text i)
    one = subst ArePlain (pieces (decimal i)) (refl, plain_append (decimal i) (codes "]") (decimal_plain i) (refl, tt))
      where
        pieces : (ds : List ℕ) → codes "[" ++ (ds ++ codes "]") ≡ codes "[" ++ ds ++ codes "]"
        pieces ds = simp append_assoc

-- ---- what is plain stays whole

plain_at : (z : List ℕ) (k : ℕ) → ArePlain z → (slice_index z k == 13) ≡ false
plain_at [] k h = refl
plain_at (b ∷ z) zero h = let plain : ltb 31 b ≡ true = h.0 in grind (arith, tests)
plain_at (b ∷ z) (suc k) h = plain_at z k h.1

pub plain_whole : (z : List ℕ) → ArePlain z → strip_carriage_return z ≡ z
plain_whole z h = ap (λ c. cond c (take (length z - 1) z) z) (plain_at z (length z - 1) h)
