-- Reading the text of a value back.
use Rattle.std.proofs.Common.{◌≡◌, ◌≤◌, ℤ, ℕ, true, false, List, ◌∷◌, ◌++◌, drop, codes, refl, sym, ap, ap₂, ◌∙◌, arith, append_assoc}
use Rattle.std.specs.Fmt.{signed_decimal}
use Rattle.std.specs.Prelude.{FitsSigned}
use Rattle.tp_value.specs.Number.{number_width}
use Rattle.tp_value.specs.Tree.{Tree, Trees, num, truth, list, nil, cons}
use Rattle.tp_value.specs.Range.{HasMachineNumbers, HaveMachineNumbers}
use Rattle.tp_value.specs.Written.{text_of, items_text, later_text}
use Rattle.tp_show.proofs.ReadWordLemmas.{EndsWord, word_read, signed_is_word, rest_is, heads_apart, signed_low, signed_apart, low_apart}

number_read : (m n : ℤ) (r s : List ℕ) → FitsSigned number_width m → FitsSigned number_width n → EndsWord r → EndsWord s → signed_decimal m ++ r ≡ signed_decimal n ++ s → (num m ≡ num n) × (r ≡ s)
number_read m n r s p q u v e =
    let w = word_read (signed_decimal m) (signed_decimal n) r s (signed_is_word m p.sfits) (signed_is_word n q.sfits) u v e in
    (ap num (signed_apart m n p.sfits q.sfits w.0), w.1)

-- a number's text begins with no letter and no bracket
number_apart : (n : ℤ) (r xs : List ℕ) (c : ℕ) → FitsSigned number_width n → 58 ≤ c → signed_decimal n ++ r ≡ c ∷ xs → ⊥
number_apart n r xs c h high e = low_apart (signed_decimal n) r xs c (signed_low n h.sfits) high e

-- 62 is `>`, with which no value begins
value_apart : (t : Tree) (r xs : List ℕ) → HasMachineNumbers t → text_of t ++ r ≡ 62 ∷ xs → ⊥
value_apart (num n) r xs h e = number_apart n r xs 62 h (omega arith) e
value_apart (truth true) r xs h e = heads_apart 116 62 _ _ refl e
value_apart (truth false) r xs h e = heads_apart 102 62 _ _ refl e
value_apart (list ts) r xs h e = heads_apart 60 62 _ _ refl e

-- a list's text in pieces: `<`, the items and `>`
list_text : (ts : Trees) (r : List ℕ) → text_of (list ts) ++ r ≡ 60 ∷ (items_text ts ++ (62 ∷ r))
list_text ts r = ap (λ l. 60 ∷ l) (append_assoc (items_text ts) (codes ">") r)

-- after an item comes `,` or `>`
later_ends : (ts : Trees) (r : List ℕ) → EndsWord (later_text ts ++ (62 ∷ r))
later_ends nil r = refl
later_ends (cons t ts) r = refl

-- an item, and what follows it
item_text : (t : Tree) (ts : Trees) (r : List ℕ) → items_text (cons t ts) ++ (62 ∷ r) ≡ text_of t ++ (later_text ts ++ (62 ∷ r))
item_text t ts r = append_assoc (text_of t) (later_text ts) (62 ∷ r)

mutual
  -- a value is read as far as it goes
  pub value_read : (a b : Tree) (r s : List ℕ) → HasMachineNumbers a → HasMachineNumbers b → EndsWord r → EndsWord s → text_of a ++ r ≡ text_of b ++ s → (a ≡ b) × (r ≡ s)
  value_read (num m) (num n) r s p q u v e = number_read m n r s p q u v e
  value_read (num m) (truth true) r s p q u v e = absurd (number_apart m r _ 116 p (omega arith) e)
  value_read (num m) (truth false) r s p q u v e = absurd (number_apart m r _ 102 p (omega arith) e)
  value_read (num m) (list us) r s p q u v e = absurd (number_apart m r _ 60 p (omega arith) e)
  value_read (truth true) (num n) r s p q u v e = absurd (number_apart n s _ 116 q (omega arith) (sym e))
  value_read (truth false) (num n) r s p q u v e = absurd (number_apart n s _ 102 q (omega arith) (sym e))
  value_read (list ts) (num n) r s p q u v e = absurd (number_apart n s _ 60 q (omega arith) (sym e))
  value_read (truth true) (truth true) r s p q u v e = (refl, ap (drop 4) e)
  value_read (truth true) (truth false) r s p q u v e = absurd (heads_apart 116 102 _ _ refl e)
  value_read (truth true) (list us) r s p q u v e = absurd (heads_apart 116 60 _ _ refl e)
  value_read (truth false) (truth true) r s p q u v e = absurd (heads_apart 102 116 _ _ refl e)
  value_read (truth false) (truth false) r s p q u v e = (refl, ap (drop 5) e)
  value_read (truth false) (list us) r s p q u v e = absurd (heads_apart 102 60 _ _ refl e)
  value_read (list ts) (truth true) r s p q u v e = absurd (heads_apart 60 116 _ _ refl e)
  value_read (list ts) (truth false) r s p q u v e = absurd (heads_apart 60 102 _ _ refl e)
  value_read (list ts) (list us) r s p q u v e =
      let w = items_read ts us r s p q (rest_is _ _ _ _ (sym (list_text ts r) ∙ (e ∙ list_text us s))) in
      (ap list w.0, w.1)

  items_read : (ts us : Trees) (r s : List ℕ) → HaveMachineNumbers ts → HaveMachineNumbers us → items_text ts ++ (62 ∷ r) ≡ items_text us ++ (62 ∷ s) → (ts ≡ us) × (r ≡ s)
  items_read nil nil r s p q e = (refl, rest_is _ _ _ _ e)
  items_read nil (cons u us) r s p q e = absurd (value_apart u _ _ q.0 (sym (e ∙ item_text u us s)))
  items_read (cons t ts) nil r s p q e = absurd (value_apart t _ _ p.0 (sym (item_text t ts r) ∙ e))
  items_read (cons t ts) (cons u us) r s p q e =
      let one = value_read t u _ _ p.0 q.0 (later_ends ts r) (later_ends us s) (sym (item_text t ts r) ∙ (e ∙ item_text u us s)) in
      let more = later_read ts us r s p.1 q.1 one.1 in
      (ap₂ cons one.0 more.0, more.1)

  later_read : (ts us : Trees) (r s : List ℕ) → HaveMachineNumbers ts → HaveMachineNumbers us → later_text ts ++ (62 ∷ r) ≡ later_text us ++ (62 ∷ s) → (ts ≡ us) × (r ≡ s)
  later_read nil nil r s p q e = (refl, rest_is _ _ _ _ e)
  later_read nil (cons u us) r s p q e = absurd (heads_apart 62 44 _ _ refl e)
  later_read (cons t ts) nil r s p q e = absurd (heads_apart 44 62 _ _ refl e)
  later_read (cons t ts) (cons u us) r s p q e =
      let one = value_read t u _ _ p.0 q.0 (later_ends ts r) (later_ends us s) (sym (item_text t ts r) ∙ (rest_is _ _ _ _ e ∙ item_text u us s)) in
      let more = later_read ts us r s p.1 q.1 one.1 in
      (ap₂ cons one.0 more.0, more.1)
