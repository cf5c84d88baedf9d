-- Where bytes spell a value, reading comes at least to their end.
use Rattle.std.proofs.Common.{◌≡◌, ℕ, ◌+◌, ◌-◌, ◌≤◌, inl, inr, ℤ, Bool, true, false, List, [], ◌∷◌, ◌++◌, length, fold, Option, Some, None, refl, sym, ◌∙◌, subst, arith}
use Rattle.std.specs.Char.{is_ascii_digit}
use Rattle.tp_value.specs.declared.reading.ReadValue.TheVariants.{NoValue, TooLarge, TooLong, TooDeep, NoMemory}
use Rattle.tp_value.specs.Number.{within_limit}
use Rattle.tp_value.specs.Tree.{Tree, truth, list, of_items}
use Rattle.tp_value.specs.Spelling.{with_digit, Spells, digits, minus, word, closed, spelling}
use Rattle.tp_value.specs.Reading.{Answer, found, refused, continued, start_state, reading}
use Rattle.tp_value.proofs.Digits.{IsOver, signed, in_digits, digits_read, digit_steps, Read}
use Rattle.tp_value.proofs.Completes.{Goes, number_ends, value_goes, digits_start, minus_start, digit_small}

-- reading comes as far as the place, and finds a value there or later, or passes a limit
abbrev pub ComesTo : ℕ → Answer → Type 0
ComesTo n (found t after) = n ≤ after
ComesTo n (refused (NoValue at)) = ⊥
ComesTo n (refused (TooLarge at)) = Unit {0}
ComesTo n (refused (TooLong at)) = Unit {0}
ComesTo n (refused (TooDeep at)) = Unit {0}
ComesTo n (refused NoMemory) = ⊥

over_comes : (n : ℕ) (x : Answer) → IsOver x → ComesTo n x
over_comes n (found t after) h = absurd h
over_comes n (refused (NoValue at)) h = absurd h
over_comes n (refused (TooLarge at)) h = tt
over_comes n (refused (TooLong at)) h = tt
over_comes n (refused (TooDeep at)) h = tt
over_comes n (refused NoMemory) h = absurd h

comes_less : (n : ℕ) (x : Answer) → ComesTo (n + 1) x → ComesTo n x
comes_less n (found t after) h = omega (arith, h)
comes_less n (refused (NoValue at)) h = h
comes_less n (refused (TooLarge at)) h = tt
comes_less n (refused (TooLong at)) h = tt
comes_less n (refused (TooDeep at)) h = tt
comes_less n (refused NoMemory) h = h

digit_comes : (n begun begin : ℕ) (negative : Bool) (m : ℤ) (b : ℕ) (z : List ℕ) (o : Option ℤ) → within_limit (continued negative m (b - 48)) ≡ o → is_ascii_digit b ≡ true
    → ((k : ℤ) → ComesTo (n + 1) (reading (n + 1) (in_digits [] begun begin negative k) z)) → ComesTo n (reading n (in_digits [] begun begin negative m) (b ∷ z))
digit_comes n begun begin negative m b z (Some k) e h later = subst (ComesTo n) (sym (digit_steps n [] begun begin negative m b z (Some k) h e)) (comes_less n _ (later k))
digit_comes n begun begin negative m b z None e h later = subst (ComesTo n) (sym (digit_steps n [] begun begin negative m b z None h e)) tt

byte_comes : (n begun begin : ℕ) (negative : Bool) (m : ℤ) (b : ℕ) (z : List ℕ) (c : Bool) → is_ascii_digit b ≡ c
    → ((k : ℤ) → ComesTo (n + 1) (reading (n + 1) (in_digits [] begun begin negative k) z)) → ComesTo n (reading n (in_digits [] begun begin negative m) (b ∷ z))
byte_comes n begun begin negative m b z true h later = digit_comes n begun begin negative m b z (within_limit (continued negative m (b - 48))) refl h later
byte_comes n begun begin negative m b z false h later = subst (ComesTo n) (sym (number_ends n [] begun begin negative m (b ∷ z) h)) (omega arith)

digits_come : (z : List ℕ) (n begun begin : ℕ) (negative : Bool) (m : ℤ) → ComesTo n (reading n (in_digits [] begun begin negative m) z)
digits_come [] n begun begin negative m = omega arith
digits_come (b ∷ z) n begun begin negative m = byte_comes n begun begin negative m b z (is_ascii_digit b) refl (λ k. digits_come z (n + 1) begun begin negative k)

number_comes : (n m : ℕ) (negative : Bool) (v : ℕ) (s ds rest : List ℕ) → reading n start_state (s ++ rest) ≡ reading m (in_digits [] 0 n negative (signed negative v)) (ds ++ rest) → m + length ds ≡ n + length s
    → Read m [] 0 n negative v ds rest → ComesTo (n + length s) (reading n start_state (s ++ rest))
number_comes n m negative v s ds rest here place (inl r) =
    subst (λ (k : ℕ). ComesTo k (reading n start_state (s ++ rest))) place
    (subst (ComesTo (m + length ds)) (sym (here ∙ r.0)) (digits_come rest (m + length ds) 0 n negative (signed negative (fold with_digit v ds))))
number_comes n m negative v s ds rest here place (inr r) = over_comes (n + length s) _ (subst IsOver (sym here) r.0)

found_comes : (n : ℕ) (s : List ℕ) (t : Tree) (rest : List ℕ) → Goes n [] 0 s t rest → ComesTo (n + length s) (reading n start_state (s ++ rest))
found_comes n s t rest (inl g) = subst (ComesTo (n + length s)) (sym g.0) (omega arith)
found_comes n s t rest (inr g) = over_comes (n + length s) _ g.0

pub reads_on : {s : List ℕ} {t : Tree} → Spells s t → (n : ℕ) (rest : List ℕ) → ComesTo (n + length s) (reading n start_state (s ++ rest))
reads_on (digits [] a) n rest = absurd a
reads_on (digits (b ∷ z) a) n rest =
    number_comes n (n + 1) false (with_digit 0 b) (b ∷ z) z rest (digits_start n [] 0 b z rest a.0) (omega arith) (digits_read z a.1 (n + 1) [] 0 n false (with_digit 0 b) rest (digit_small b a.0))
reads_on (minus [] a) n rest = absurd a
reads_on (minus (b ∷ z) a) n rest =
    number_comes n (n + 1) true 0 (45 ∷ (b ∷ z)) (b ∷ z) rest (minus_start n [] 0 b z rest a.0) (omega arith) (digits_read (b ∷ z) a (n + 1) [] 0 n true 0 rest (omega arith))
reads_on (word b) n rest = found_comes n (spelling b) (truth b) rest (value_goes (word b) n [] 0 rest tt (omega arith) (omega arith))
reads_on (closed s ts last u c) n rest = found_comes n _ (list (of_items ts)) rest (value_goes (closed s ts last u c) n [] 0 rest tt (omega arith) (omega arith))
