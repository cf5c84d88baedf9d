-- The variables of a growing list of names.
use Rattle.std.proofs.Common.{◌≡◌, ℕ, suc, ◌+◌, ◌<◌, ◌≤◌, Bool, true, false, cond, List, [], ◌∷◌, ◌++◌, map, length, Option, Some, None, refl, sym, ap, ◌∙◌, arith, slice_get, ◌-◌}
use Rattle.std.specs.List.{position_from}
use Rattle.std.specs.Option.{option_map}
use Rattle.std.specs.Str.{bytes_eq}
use Rattle.std.proofs.lemmas.Option.{same_Some, none-some}
use Rattle.std.proofs.lemmas.List.{map_push}
use Rattle.std.proofs.lemmas.Slice.Eq.{bytes_eq-Decides}
use Rattle.tp_value.specs.Globals.{is_lower, variable, variable_of, with_name}
use Rattle.tp_value.specs.declared.path.VarId.{VarId}
use Rattle.tp_value.proofs.GlobalsLemmas.{variable_of-at_end}
use Rattle.tp_store.specs.Known.{Variable, IsVariableOf, global_variable}

position_low : (p : List ℕ → Bool) (i : ℕ) (xs : List (List ℕ)) (k : ℕ) → position_from p i xs ≡ Some k → i ≤ k
position_low p i [] k e = absurd (none-some k e)
position_low p i (x ∷ xs) k e = by (position_low p (i + 1) xs k) (p x) e
  where
    by : (position_from p (i + 1) xs ≡ Some k → i + 1 ≤ k) → (c : Bool) → cond c (Some i) (position_from p (i + 1) xs) ≡ Some k → i ≤ k
    by later true f = let same : i ≡ k = same_Some _ _ f in omega arith
    by later false f = let l = later f in omega (arith, l)

position_high : (p : List ℕ → Bool) (i : ℕ) (xs : List (List ℕ)) (k : ℕ) → position_from p i xs ≡ Some k → k < i + length xs
position_high p i [] k e = absurd (none-some k e)
position_high p i (x ∷ xs) k e = by (position_high p (i + 1) xs k) (p x) e
  where
    by : (position_from p (i + 1) xs ≡ Some k → k < i + 1 + length xs) → (c : Bool) → cond c (Some i) (position_from p (i + 1) xs) ≡ Some k → k < i + length (x ∷ xs)
    by later true f = let same : i ≡ k = same_Some _ _ f in omega arith
    by later false f = let l = later f in omega (arith, l)

position_stays : (p : List ℕ → Bool) (i : ℕ) (xs ys : List (List ℕ)) (k : ℕ) → position_from p i xs ≡ Some k → position_from p i (xs ++ ys) ≡ Some k
position_stays p i [] ys k e = absurd (none-some k e)
position_stays p i (x ∷ xs) ys k e = by (position_stays p (i + 1) xs ys k) (p x) e
  where
    by : (position_from p (i + 1) xs ≡ Some k → position_from p (i + 1) (xs ++ ys) ≡ Some k) → (c : Bool) → cond c (Some i) (position_from p (i + 1) xs) ≡ Some k → cond c (Some i) (position_from p (i + 1) (xs ++ ys)) ≡ Some k
    by later true f = f
    by later false f = later f

-- no two names have one place
one_place : (a b : List ℕ) (i : ℕ) (xs : List (List ℕ)) (k : ℕ) → position_from (bytes_eq a) i xs ≡ Some k → position_from (bytes_eq b) i xs ≡ Some k → a ≡ b
one_place a b i [] k e f = absurd (none-some k e)
one_place a b i (x ∷ xs) k e f = by (one_place a b (i + 1) xs k) (bytes_eq a x) refl e (bytes_eq b x) refl f
  where
    by : (position_from (bytes_eq a) (i + 1) xs ≡ Some k → position_from (bytes_eq b) (i + 1) xs ≡ Some k → a ≡ b)
        → (c : Bool) → bytes_eq a x ≡ c → cond c (Some i) (position_from (bytes_eq a) (i + 1) xs) ≡ Some k → (d : Bool) → bytes_eq b x ≡ d → cond d (Some i) (position_from (bytes_eq b) (i + 1) xs) ≡ Some k → a ≡ b
    by later true s g true t h = (bytes_eq-Decides a x).0 s ∙ sym ((bytes_eq-Decides b x).0 t)
    by later true s g false t h = let same : i ≡ k = same_Some _ _ g in let low = position_low (bytes_eq b) (i + 1) xs k h in absurd (omega (arith, same, low))
    by later false s g true t h = let same : i ≡ k = same_Some _ _ h in let low = position_low (bytes_eq a) (i + 1) xs k g in absurd (omega (arith, same, low))
    by later false s g false t h = later g h

place_is : (o : Option ℕ) (name : List ℕ) (x : VarId) → option_map (variable name) o ≡ Some x → (o ≡ Some x.number) × (x.lasting ≡ is_lower name)
place_is None name x e = absurd (none-some x e)
place_is (Some i) name x e = let same : variable name i ≡ x = same_Some _ _ e in (ap (λ (v : VarId). Some v.number) same, ap (λ (v : VarId). v.lasting) (sym same))

pub variable_below : (names : List (List ℕ)) (name : List ℕ) (x : VarId) → variable_of names name ≡ Some x → x.number < length names
variable_below names name x e = let h = position_high (bytes_eq name) 0 names x.number (place_is (position_from (bytes_eq name) 0 names) name x e).0 in omega (arith, h)

pub one_variable : (names : List (List ℕ)) (a b : List ℕ) (x : VarId) → variable_of names a ≡ Some x → variable_of names b ≡ Some x → a ≡ b
one_variable names a b x e f = one_place a b 0 names x.number (place_is (position_from (bytes_eq a) 0 names) a x e).0 (place_is (position_from (bytes_eq b) 0 names) b x f).0

variable_stays_in : (names more : List (List ℕ)) (name : List ℕ) (x : VarId) (o : Option ℕ) → position_from (bytes_eq name) 0 names ≡ o → option_map (variable name) o ≡ Some x → variable_of (names ++ more) name ≡ Some x
variable_stays_in names more name x None p e = absurd (none-some x e)
variable_stays_in names more name x (Some i) p e = ap (option_map (variable name)) (position_stays (bytes_eq name) 0 names more i p) ∙ e

with_new : (names : List (List ℕ)) (name : List ℕ) → variable_of names name ≡ None → with_name names name ≡ names ++ name ∷ []
with_new names name e = rw e refl

with_old : (names : List (List ℕ)) (name : List ℕ) (x : VarId) → variable_of names name ≡ Some x → with_name names name ≡ names
with_old names name x e = rw e refl

-- a variable keeps its number as names are added
pub variable_stays : (names : List (List ℕ)) (added name : List ℕ) (x : VarId) → variable_of names name ≡ Some x → variable_of (with_name names added) name ≡ Some x
variable_stays names added name x e = by (variable_of names added) refl
  where
    by : (o : Option VarId) → variable_of names added ≡ o → variable_of (with_name names added) name ≡ Some x
    by None n = ap (λ (xs : List (List ℕ)). variable_of xs name) (with_new names added n) ∙ variable_stays_in names (added ∷ []) name x (position_from (bytes_eq name) 0 names) refl e
    by (Some y) s = ap (λ (xs : List (List ℕ)). variable_of xs name) (with_old names added y s) ∙ e

-- a variable with the next number is new
pub fresh_variables : (names : List (List ℕ)) (name : List ℕ) (x : VarId) (old new : List Variable) → variable_of (with_name names name) name ≡ Some x → x.number ≡ length names → old ≡ map global_variable names
    → new ≡ old ++ record { name = name; lasting = x.lasting } ∷ [] → new ≡ map global_variable (with_name names name)
fresh_variables names name x old new e n same more = by (variable_of names name) refl
  where
    kind : x.lasting ≡ is_lower name
    kind = (place_is (position_from (bytes_eq name) 0 (with_name names name)) name x e).1

    by : (o : Option VarId) → variable_of names name ≡ o → new ≡ map global_variable (with_name names name)
    by None f = more ∙ (ap (λ (vs : List Variable). vs ++ record { name = name; lasting = x.lasting } ∷ []) same ∙ (ap (λ b. map global_variable names ++ record { name = name; lasting = b } ∷ []) kind
        ∙ (sym (map_push global_variable names name) ∙ ap (map global_variable) (sym (with_new names name f)))))
    by (Some y) f = let low = variable_below names name x (ap (λ (xs : List (List ℕ)). variable_of xs name) (sym (with_old names name y f)) ∙ e) in absurd (omega (arith, low, n))

-- and one with another number was there
pub kept_names : (names : List (List ℕ)) (name : List ℕ) (x : VarId) → variable_of (with_name names name) name ≡ Some x → (x.number ≡ length names → ⊥) → with_name names name ≡ names
kept_names names name x e n = by (variable_of names name) refl
  where
    by : (o : Option VarId) → variable_of names name ≡ o → with_name names name ≡ names
    by None f =
        let at_end : variable_of (with_name names name) name ≡ Some (variable name (length names)) = ap (λ (xs : List (List ℕ)). variable_of xs name) (with_new names name f) ∙ variable_of-at_end names name (sym f) in
        let same : x ≡ variable name (length names) = same_Some _ _ (sym e ∙ at_end) in
        absurd (n (ap (λ (v : VarId). v.number) same))
    by (Some y) f = with_old names name y f

-- such a variable is one of a store's whose variables are those of the names
lasting_at : (name : List ℕ) (i : ℕ) (xs : List (List ℕ)) (k : ℕ) → position_from (bytes_eq name) i xs ≡ Some k → slice_get (map (λ (v : Variable). v.lasting) (map global_variable xs)) (k - i) ≡ Some (is_lower name)
lasting_at name i [] k e = absurd (none-some k e)
lasting_at name i (x ∷ xs) k e = by (lasting_at name (i + 1) xs k) (bytes_eq name x) refl e
  where
    all : List Bool
    all = map (λ (v : Variable). v.lasting) (map global_variable (x ∷ xs))

    by : (position_from (bytes_eq name) (i + 1) xs ≡ Some k → slice_get (map (λ (v : Variable). v.lasting) (map global_variable xs)) (k - (i + 1)) ≡ Some (is_lower name))
        → (c : Bool) → bytes_eq name x ≡ c → cond c (Some i) (position_from (bytes_eq name) (i + 1) xs) ≡ Some k → slice_get (map (λ (v : Variable). v.lasting) (map global_variable (x ∷ xs))) (k - i) ≡ Some (is_lower name)
    by later true s f =
        let same : i ≡ k = same_Some _ _ f in
        let none : k - i ≡ 0 = omega (arith, same) in
        ap (slice_get (map (λ (v : Variable). v.lasting) (map global_variable (x ∷ xs)))) none ∙ ap (λ z. Some (is_lower z)) (sym ((bytes_eq-Decides name x).0 s))
    by later false s f =
        let low = position_low (bytes_eq name) (i + 1) xs k f in
        let more : k - i ≡ suc (k - (i + 1)) = omega (arith, low) in
        ap (slice_get (map (λ (v : Variable). v.lasting) (map global_variable (x ∷ xs)))) more ∙ later f

pub variable_is_of : (names : List (List ℕ)) (name : List ℕ) (x : VarId) → variable_of names name ≡ Some x → IsVariableOf (map global_variable names) x
variable_is_of names name x e =
    let p = place_is (position_from (bytes_eq name) 0 names) name x e in
    let here = lasting_at name 0 names x.number p.0 in
    ap (slice_get (map (λ (v : Variable). v.lasting) (map global_variable names))) (omega arith) ∙ (here ∙ ap Some (sym p.1))
