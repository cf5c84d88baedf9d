-- Paths: names and indices.
use Rattle.std.proofs.Common.{◌≡◌, ℕ, suc, ◌+◌, ◌<◌, ◌≤◌, ltb, Bool, true, false, not, cond, inl, inr, ◌⊎◌, List, [], ◌∷◌, ◌++◌, length, take, drop, get_or, Option, Some, None, refl, sym, ap, ◌∙◌, subst, arith, tests, append_assoc, append-nil, codes, length-append, add-one, ◌==◌}
use Rattle.std.specs.Option.{option_map}
use Rattle.std.proofs.lemmas.Option.{same_Some, none-some}
use Rattle.std.proofs.lemmas.List.{take_at, drop_at, drop_more, take-append-drop}
use Rattle.tp_value.specs.Limits.{index_limit}
use Rattle.tp_value.specs.Spelling.{AreDigits, decimal_value}
use Rattle.tp_show.specs.Trace.{SpellsIndices, none, index}
use Rattle.tp_show.specs.TraceReading.{len_before, digits_within, index_of_len, first_index}
use Rattle.tp_show.proofs.TraceDigits.{Stops, front_len, front_stops, no_digit, within_from, within_is}

-- the bytes in front of the first that is this, that byte, and the rest
pub cut_at : (stop : ℕ) (z : List ℕ) → len_before stop z < length z → z ≡ take (len_before stop z) z ++ stop ∷ drop (suc (len_before stop z)) z
cut_at stop z h =
    let n = len_before stop z in
    let rest : drop n z ≡ get_or z n 0 ∷ drop (n + 1) z = drop_more z n 0 h in
    let stops : Stops (λ b. not (b == stop)) (get_or z n 0 ∷ drop (n + 1) z) = subst (Stops (λ b. not (b == stop))) rest (front_stops (λ b. not (b == stop)) z) in
    let here : get_or z n 0 ≡ stop = grind (arith, tests, stops) in
    sym (take-append-drop n z) ∙ ap (λ y. take n z ++ y) (rest ∙ (ap (λ b. b ∷ drop (n + 1) z) here ∙ ap (λ k. stop ∷ drop k z) (add-one n)))

pub index_from : (ds z : List ℕ) → AreDigits ds → decimal_value ds ≤ index_limit → first_index (codes "[" ++ (ds ++ (codes "]" ++ z))) ≡ Some (decimal_value ds, suc (suc (length ds)))
index_from ds z h small =
    let y = ds ++ 93 ∷ z in
    let n : len_before 93 y ≡ length ds = front_len (λ b. not (b == 93)) ds (93 ∷ z) (no_digit 93 ds refl h) refl in
    let front : take (length ds) y ≡ ds = take_at ds (93 ∷ z) (length ds) refl in
    let inside : ltb (length ds) (length y) ≡ true = (let long = length-append ds (93 ∷ z) in grind (arith, tests)) in
    let number : digits_within index_limit (take (length ds) y) ≡ Some (decimal_value ds) = ap (digits_within index_limit) front ∙ within_from index_limit ds h small in
    ap (λ k. index_of_len k y) n ∙ (ap (λ c. cond c (option_map (λ i. (i, suc (suc (length ds)))) (digits_within index_limit (take (length ds) y))) None) inside
    ∙ ap (option_map (λ i. (i, suc (suc (length ds))))) number)

pub index_rest : (ds z : List ℕ) → drop (suc (suc (length ds))) (codes "[" ++ (ds ++ (codes "]" ++ z))) ≡ z
index_rest ds z =
    let long : length (ds ++ 93 ∷ []) ≡ suc (length ds) = length-append ds (93 ∷ []) ∙ omega arith in
    ap (drop (suc (length ds))) (sym (append_assoc ds (93 ∷ []) z)) ∙ drop_at (ds ++ 93 ∷ []) z (suc (length ds)) long

-- what the first index is read from
pub record IsFirstIndex (z : List ℕ) (i n : ℕ) : Type 0 where
  pub digits : List ℕ
  pub are_digits : AreDigits digits
  pub value : i ≡ decimal_value digits
  pub small : decimal_value digits ≤ index_limit
  pub split : z ≡ codes "[" ++ (digits ++ (codes "]" ++ drop n z))
  pub inside : n ≤ length z
  pub some : 0 < n

behind_bracket : (y : List ℕ) (i n m : ℕ) → len_before 93 y ≡ m → (c : Bool) → ltb m (length y) ≡ c → (o : Option ℕ) → digits_within index_limit (take m y) ≡ o
    → cond c (option_map {U = ℕ × ℕ} (λ i. (i, suc (suc m))) o) None ≡ Some (i, n) → IsFirstIndex (91 ∷ y) i n
behind_bracket y i n m at true inside (Some k) d e =
    let w = within_is index_limit (take m y) k d in
    let same : suc (suc m) ≡ n = ap (λ (p : ℕ × ℕ). p.1) (same_Some _ _ e) in
    let value : k ≡ i = ap (λ (p : ℕ × ℕ). p.0) (same_Some _ _ e) in
    let low : m < length y = grind (arith, tests) in
    let cut : y ≡ take m y ++ 93 ∷ drop (suc m) y = subst (λ (k : ℕ). y ≡ take k y ++ 93 ∷ drop (suc k) y) at (cut_at 93 y (subst (λ (k : ℕ). k < length y) (sym at) low)) in
    record {
      digits = take m y;
      are_digits = w.digits;
      value = sym value ∙ w.value;
      small = w.small;
      split = ap (λ x. 91 ∷ x) (cut ∙ ap (λ k. take m y ++ 93 ∷ drop k (91 ∷ y)) same);
      inside = omega (arith, same, low);
      some = omega (arith, same);
    }
behind_bracket y i n m at true inside None d e = absurd cc
behind_bracket y i n m at false inside o d e = absurd cc

pub index_is : (z : List ℕ) (i n : ℕ) → first_index z ≡ Some (i, n) → IsFirstIndex z i n
index_is [] i n e = absurd cc
index_is (b ∷ y) i n e = by (b == 91) refl e
  where
    by : (c : Bool) → (b == 91) ≡ c → cond c (index_of_len (len_before 93 y) y) None ≡ Some (i, n) → IsFirstIndex (b ∷ y) i n
    by true t f =
        let same : b ≡ 91 = grind (arith, tests) in
        subst (λ (x : ℕ). IsFirstIndex (x ∷ y) i n) (sym same) (behind_bracket y i n (len_before 93 y) refl (ltb (len_before 93 y) (length y)) refl (digits_within index_limit (take (len_before 93 y) y)) refl f)
    by false t f = absurd cc

-- the indices that were read, and those that the rest spells, are those that the text spells
pub record IndicesGoOn (text rest items : List ℕ) : Type 0 where
  pub back : (is : List ℕ) → SpellsIndices rest is → SpellsIndices text (items ++ is)
  pub ahead : (at : List ℕ) → SpellsIndices text at → (is : List ℕ) × SpellsIndices rest is × (at ≡ items ++ is)

pub indices_start : (text : List ℕ) → IndicesGoOn text text []
indices_start text = record { back = λ is s. s; ahead = λ at s. (at, s, refl) }

-- indices that aren't over go on with the first
first_of_indices : {z at : List ℕ} → SpellsIndices z at → ((z ≡ []) × (at ≡ [])) ⊎ ((i n : ℕ) × (is : List ℕ) × (first_index z ≡ Some (i, n)) × (at ≡ i ∷ is) × SpellsIndices (drop n z) is)
first_of_indices none = inl (refl, refl)
first_of_indices (index ds z is h small s) = inr (decimal_value ds, suc (suc (length ds)), is, index_from ds z h small, refl, subst (λ (y : List ℕ). SpellsIndices y is) (sym (index_rest ds z)) s)

pub indices_next : (text rest items : List ℕ) (i n : ℕ) → IndicesGoOn text rest items → first_index rest ≡ Some (i, n) → IndicesGoOn text (drop n rest) (items ++ i ∷ [])
indices_next text rest items i n g e = record {
  back = λ is s.
      let f = index_is rest i n e in
      let all : SpellsIndices rest (decimal_value f.digits ∷ is) = subst (λ (z : List ℕ). SpellsIndices z (decimal_value f.digits ∷ is)) (sym f.split) (index f.digits (drop n rest) is f.are_digits f.small s) in
      subst (λ (at : List ℕ). SpellsIndices text at) (ap (λ k. items ++ k ∷ is) (sym f.value) ∙ sym (append_assoc items (i ∷ []) is)) (g.back (decimal_value f.digits ∷ is) all);
  ahead = λ at s. (let a = g.ahead at s in onward a.0 a.2 (first_of_indices a.1));
}
  where
    onward : {at : List ℕ} (is : List ℕ) → at ≡ items ++ is → ((rest ≡ []) × (is ≡ [])) ⊎ ((j m : ℕ) × (js : List ℕ) × (first_index rest ≡ Some (j, m)) × (is ≡ j ∷ js) × SpellsIndices (drop m rest) js)
        → (js : List ℕ) × SpellsIndices (drop n rest) js × (at ≡ (items ++ i ∷ []) ++ js)
    onward is same (inl (no_more, over)) = let nothing : first_index [] ≡ Some (i, n) = ap first_index (sym no_more) ∙ e in absurd cc
    onward is same (inr (j, m, js, f, first, later)) =
        let pair : (j, m) ≡ (i, n) = same_Some _ _ (sym f ∙ e) in
        let one : j ≡ i = ap (λ (p : ℕ × ℕ). p.0) pair in
        let two : m ≡ n = ap (λ (p : ℕ × ℕ). p.1) pair in
        (js, subst (λ (k : ℕ). SpellsIndices (drop k rest) js) two later, same ∙ (ap (λ (x : List ℕ). items ++ x) (first ∙ ap (λ k. k ∷ js) one) ∙ sym (append_assoc items (i ∷ []) js)))

pub indices_end : (text items : List ℕ) → IndicesGoOn text [] items → SpellsIndices text items
indices_end text items g = subst (λ (at : List ℕ). SpellsIndices text at) (append-nil items) (g.back [] none)

pub indices_fail : (text rest items : List ℕ) → IndicesGoOn text rest items → (rest ≡ [] → ⊥) → first_index rest ≡ None → (at : List ℕ) → ¬ SpellsIndices text at
indices_fail text rest items g some e at s = (let a = g.ahead at s in onward (first_of_indices a.1))
  where
    onward : {is : List ℕ} → ((rest ≡ []) × (is ≡ [])) ⊎ ((j m : ℕ) × (js : List ℕ) × (first_index rest ≡ Some (j, m)) × (is ≡ j ∷ js) × SpellsIndices (drop m rest) js) → ⊥
    onward (inl (no_more, over)) = some no_more
    onward (inr (j, m, js, f, first, later)) = none-some (j, m) (sym e ∙ f)

-- a text spells one list of indices
pub indices_unique : {z at other : List ℕ} → SpellsIndices z at → SpellsIndices z other → at ≡ other
indices_unique none t = (let f = first_of_indices t in by f)
  where
    by : {other : List ℕ} → ((◌≡◌ {A = List ℕ} [] []) × (other ≡ [])) ⊎ ((j m : ℕ) × (js : List ℕ) × (first_index [] ≡ Some (j, m)) × (other ≡ j ∷ js) × SpellsIndices (drop m []) js) → [] ≡ other
    by (inl f) = sym f.1
    by (inr f) = absurd (none-some (f.0, f.1) f.3)
indices_unique {other = other} (index ds z is h small s) t = by (λ js r. indices_unique s r) (first_of_indices t)
  where
    by : ((js : List ℕ) → SpellsIndices z js → is ≡ js) → ((codes "[" ++ (ds ++ (codes "]" ++ z)) ≡ []) × (other ≡ [])) ⊎ ((j m : ℕ) × (js : List ℕ) × (first_index (codes "[" ++ (ds ++ (codes "]" ++ z))) ≡ Some (j, m)) × (other ≡ j ∷ js) × SpellsIndices (drop m (codes "[" ++ (ds ++ (codes "]" ++ z)))) js)
        → decimal_value ds ∷ is ≡ other
    by later (inl f) = absurd (cc f.0)
    by later (inr (j, m, js, e, first, rest)) =
        let pair : (decimal_value ds, suc (suc (length ds))) ≡ (j, m) = same_Some _ _ (sym (index_from ds z h small) ∙ e) in
        let one : decimal_value ds ≡ j = ap (λ (p : ℕ × ℕ). p.0) pair in
        let two : suc (suc (length ds)) ≡ m = ap (λ (p : ℕ × ℕ). p.1) pair in
        let behind : drop m (codes "[" ++ (ds ++ (codes "]" ++ z))) ≡ z = ap (λ k. drop k (codes "[" ++ (ds ++ (codes "]" ++ z)))) (sym two) ∙ index_rest ds z in
        ap (λ k. k ∷ is) one ∙ (ap (λ (x : List ℕ). j ∷ x) (later js (subst (λ (y : List ℕ). SpellsIndices y js) behind rest)) ∙ sym first)
