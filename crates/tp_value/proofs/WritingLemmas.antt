-- The text of a list, item by item.
use Rattle.std.proofs.Common.{◌≡◌, ℕ, zero, suc, ◌+◌, ◌<◌, ◌≤◌, List, [], ◌∷◌, ◌++◌, length, take, drop, get_or, map, refl, sym, ap, ◌∙◌, arith, append_assoc, subst, Result, Ok, Err}
use Rattle.std.specs.Result.{OnOk, OnErr}
use Rattle.std.proofs.lemmas.List.{append-nil}
use Rattle.std.specs.Prelude.{codes}
use Rattle.tp_value.specs.Range.{HasMachineNumbers, HaveMachineNumbers}
use Rattle.tp_value.specs.Tree.{Tree, of_items}
use Rattle.tp_value.specs.Written.{text_of, items_text, later_text}

-- the text of the items from the i-th on
abbrev pub text_from : ℕ → List Tree → List ℕ
text_from zero ts = items_text (of_items ts)
text_from (suc i) ts = later_text (of_items ts)

-- to go on twice is to go on
pub through : (a b c : List ℕ) → take (length a) b ≡ a → take (length b) c ≡ b → take (length a) c ≡ a
through [] b c e f = refl
through (x ∷ a) [] c e f = absurd (cc)
through (x ∷ a) (y ∷ b) [] e f = absurd (cc)
through (x ∷ a) (y ∷ b) (z ∷ c) e f =
    let first : y ≡ x = cc in
    let next : z ≡ y = cc in
    let upper : take (length a) b ≡ a = cc in
    let lower : take (length b) c ≡ b = cc in
    let rest = through a b c upper lower in
    cc

-- what a loop over the items of a list keeps
pub record Writes (start out : List ℕ) (i : ℕ) (left all : List Tree) : Type 0 where
  pub text : out ++ text_from i left ≡ (start ++ codes "<") ++ items_text (of_items all)
  pub begins : take (length start) out ≡ start

pub written : (start out : List ℕ) (i : ℕ) (all : List Tree) (end : List ℕ) → Writes start out i [] all → end ≡ out ++ codes ">" → end ≡ start ++ (codes "<" ++ (items_text (of_items all) ++ codes ">"))
written start out i all end w e =
    let nothing : text_from i [] ≡ [] = elim i as (λ n. text_from n [] ≡ []) [ zero ↦ refl | suc n ↦ refl ] in
    let whole : out ≡ (start ++ codes "<") ++ items_text (of_items all) = sym (append-nil out) ∙ ap (λ z. out ++ z) (sym nothing) ∙ w.text in
    let shape : ((start ++ codes "<") ++ items_text (of_items all)) ++ codes ">" ≡ start ++ (codes "<" ++ (items_text (of_items all) ++ codes ">")) = simp append_assoc in
    e ∙ ap (λ z. z ++ codes ">") whole ∙ shape

pub goes_on : (start out more : List ℕ) → take (length start) out ≡ start → take (length start) (out ++ more) ≡ start
goes_on [] out more e = refl
goes_on (x ∷ start) [] more e = absurd (cc)
goes_on (x ∷ start) (y ∷ out) more e =
    let first : y ≡ x = cc in
    let later : take (length start) out ≡ start = cc in
    let rest = goes_on start out more later in
    cc

-- the first item, and one behind a comma
pub first_written : (start out new : List ℕ) (t : Tree) (ts all : List Tree) → Writes start out 0 (t ∷ ts) all → new ≡ out ++ text_of t → Writes start new 1 ts all
first_written start out new t ts all w e = record {
  text = ap (λ z. z ++ later_text (of_items ts)) e ∙ append_assoc out (text_of t) (later_text (of_items ts)) ∙ w.text;
  begins = ap (λ z. take (length start) z) e ∙ goes_on start out (text_of t) w.begins;
}

pub later_written : (start out new : List ℕ) (i : ℕ) (t : Tree) (ts all : List Tree) → 0 < i → Writes start out i (t ∷ ts) all → new ≡ (out ++ codes ",") ++ text_of t → Writes start new (i + 1) ts all
later_written start out new zero t ts all h w e = absurd (omega arith)
later_written start out new (suc i) t ts all h w e =
    let shape : ((out ++ codes ",") ++ text_of t) ++ later_text (of_items ts) ≡ out ++ (codes "," ++ (text_of t ++ later_text (of_items ts))) = simp append_assoc in
    let next : suc i + 1 ≡ suc (suc i) = omega arith in
    let made : Writes start new (suc (suc i)) ts all = record {
      text = ap (λ z. z ++ later_text (of_items ts)) e ∙ shape ∙ w.text;
      begins = ap (λ z. take (length start) z) (e ∙ append_assoc out (codes ",") (text_of t)) ∙ goes_on start out (codes "," ++ text_of t) w.begins;
    } in
    subst (λ (n : ℕ). Writes start new n ts all) (sym next) made

pub on_err : {A E : Type 0} (r : Result A E) {P : Type 0} → P → OnErr r P
on_err (Ok a) p = tt
on_err (Err e) p = p

pub map_ok : {A E : Type 0} (r : Result A E) {P Q : Type 0} → (P → Q) → OnOk r P → OnOk r Q
map_ok (Ok a) f p = f p
map_ok (Err e) f p = tt

-- the items from a place on
pub items_left : {A B : Type 0} (f : A → B) (xs : List A) (i : ℕ) (d : A) → i < length xs → map f (drop i xs) ≡ f (get_or xs i d) ∷ map f (drop (i + 1) xs)
items_left f [] i d h = absurd (omega arith)
items_left f (x ∷ xs) zero d h = refl
items_left f (x ∷ xs) (suc i) d h = let next : suc i + 1 ≡ suc (i + 1) = omega arith in items_left f xs i d (omega arith) ∙ ap (λ n. f (get_or xs i d) ∷ map f (drop n (x ∷ xs))) (sym next)

pub none_left : {A B : Type 0} (f : A → B) (xs : List A) (i : ℕ) → length xs ≤ i → map f (drop i xs) ≡ []
none_left f [] zero h = refl
none_left f [] (suc i) h = refl
none_left f (x ∷ xs) zero h = absurd (omega arith)
none_left f (x ∷ xs) (suc i) h = none_left f xs i (omega arith)

pub on_ok : {A E : Type 0} (r : Result A E) {P : Type 0} → P → OnOk r P
on_ok (Ok a) p = p
on_ok (Err e) p = tt

-- one more item has numbers of 64 bits
pub numbers_more : {A : Type 0} (f : A → Tree) (xs : List A) (i : ℕ) (d : A) → i < length xs → HaveMachineNumbers (of_items (map f (take i xs))) → HasMachineNumbers (f (get_or xs i d)) → HaveMachineNumbers (of_items (map f (take (i + 1) xs)))
numbers_more f [] i d h all one = absurd (omega arith)
numbers_more f (x ∷ xs) zero d h all one = (one, tt)
numbers_more f (x ∷ xs) (suc i) d h all one =
    let next : suc (i + 1) ≡ suc i + 1 = omega arith in
    subst (λ n. HaveMachineNumbers (of_items (map f (take n (x ∷ xs))))) next (all.0, numbers_more f xs i d (omega arith) all.1 one)

-- and in the end all of them
pub numbers_all : {A : Type 0} (f : A → Tree) (xs : List A) (i : ℕ) → length xs ≤ i → HaveMachineNumbers (of_items (map f (take i xs))) → HaveMachineNumbers (of_items (map f xs))
numbers_all f [] i h all = tt
numbers_all f (x ∷ xs) zero h all = absurd (omega arith)
numbers_all f (x ∷ xs) (suc i) h all = (all.0, numbers_all f xs i (omega arith) all.1)
