-- The callers of each definition are listed one definition after the other.
use Rattle.std.proofs.Common.{refl, ap, sym, subst, ◌∙◌, ◌≡◌, ◌⊎◌, ◌↔◌, inl, inr, ℕ, zero, suc, ◌+◌, ◌<◌, Bool, true, false, List, [], ◌∷◌, ◌++◌, map, length, get_or, set, take, Option, Some, None, Result, Ok, Err, Global, append_assoc, arith, slice_get}
use Rattle.std.proofs.lemmas.List.Elements.{Contains-append_left, Contains-append_right, Contains-push, Contains-push_cases, Contains-append_cases, filter_map-append}
use Rattle.std.proofs.lemmas.Option.{slice_get-map, slice_get_read, slice_get_within, same_Some}
use Rattle.std.specs.List.{Contains, position, filter_map}
use Rattle.std.specs.Str.{bytes_eq}
use Rattle.std.specs.Option.{option_map}
use Rattle.std.specs.Result.{OnOk}
use Rattle.std.specs.declared.vec.Vec.{Vec}
use Rattle.std.proofs.lemmas.List.{map-set}
use Rattle.std.proofs.lemmas.Grind.{take_at_read}
use Rattle.std.proofs.lemmas.List.Quantifiers.{position-Some}
use Rattle.tp_tree.specs.declared.phrase.Phrase.{Phrase}
use Rattle.tp_tree.specs.declared.phrase.Definition.{Definition}
use Rattle.tp_tree.specs.Tree.{PhraseTree, KindTree, phrases_of, DefinitionTree}
use Rattle.tp_tree.specs.Read.{phrase_tree, kind_tree, definition_tree}
use Rattle.tp_tree.specs.Equations.{tree_is}
use Rattle.tp_scope.specs.Scope.{Names}
use Rattle.tp_scope.specs.Phrases.{calls_in, calls_in_kind, calls_in_all}
use Rattle.tp_scope.specs.Names.{CallsDefinition}
use Rattle.tp_scope.specs.Callers.{numbers_among, number_lists, IsListed, IsListedToo, AreCallers}

-- ---- lists

pub in_none : {A : Type 0} (x : A) → Contains [] x → ⊥
in_none x c = omega (arith, c.1)

pub first_in : {A : Type 0} (x : A) (xs : List A) → Contains (x ∷ xs) x
first_in x xs = (0, omega arith, refl)

pub later_in : {A : Type 0} (x y : A) (xs : List A) → Contains xs y → Contains (x ∷ xs) y
later_in x y xs c = Contains-append_right (x ∷ []) xs y c

pub first_or_later : {A : Type 0} (x y : A) (xs : List A) → Contains (x ∷ xs) y → (x ≡ y) ⊎ Contains xs y
first_or_later x y xs (zero, l, e) = inl e
first_or_later x y xs (suc k, l, e) = inr (k, omega (arith, l), e)

pub set_here : {A : Type 0} (xs : List A) (i : ℕ) (y : A) → i < length xs → slice_get (set xs i y) i ≡ Some y
set_here [] i y l = absurd (omega (arith, l))
set_here (x ∷ xs) zero y l = refl
set_here (x ∷ xs) (suc i) y l = set_here xs i y (omega (arith, l))

-- what stands there after a write was there before, or it was written
pub by_set : {A : Type 0} (xs : List A) (i j : ℕ) (x y : A) → slice_get (set xs i y) j ≡ Some x → (slice_get xs j ≡ Some x) ⊎ ((i ≡ j) × (y ≡ x))
by_set [] i j x y e = inl e
by_set (z ∷ xs) zero zero x y e = inr (refl, same_Some y x e)
by_set (z ∷ xs) zero (suc j) x y e = inl e
by_set (z ∷ xs) (suc i) zero x y e = inl e
by_set (z ∷ xs) (suc i) (suc j) x y e = elim (by_set xs i j x y e) [ inl h ↦ inl h | inr h ↦ inr (ap suc h.0, h.1) ]

-- what stood there before a write stands there after it, or it was written over
pub kept_by_set : {A : Type 0} (xs : List A) (i j : ℕ) (x y : A) → slice_get xs j ≡ Some x → (slice_get (set xs i y) j ≡ Some x) ⊎ (i ≡ j)
kept_by_set [] i j x y e = inl e
kept_by_set (z ∷ xs) zero zero x y e = inr refl
kept_by_set (z ∷ xs) zero (suc j) x y e = inl e
kept_by_set (z ∷ xs) (suc i) zero x y e = inl e
kept_by_set (z ∷ xs) (suc i) (suc j) x y e = elim (kept_by_set xs i j x y e) [ inl h ↦ inl h | inr h ↦ inr (ap suc h) ]

-- ---- numbers of called definitions

pub numbers_join : (names xs ys : Names) → numbers_among names (xs ++ ys) ≡ numbers_among names xs ++ numbers_among names ys
numbers_join names xs ys = filter_map-append (λ x. position (bytes_eq x) names) xs ys

-- a number among those of some names is that of one of them
given_by : {A : Type 0} (h : A → Option ℕ) (x : A) (xs : List A) (o : Option ℕ) (j : ℕ) → h x ≡ o
    → (Contains (filter_map h xs) j → (place : ℕ) × (y : A) × (slice_get xs place ≡ Some y) × (h y ≡ Some j))
    → Contains (filter_map h (x ∷ [])) j ⊎ Contains (filter_map h xs) j → (place : ℕ) × (y : A) × (slice_get (x ∷ xs) place ≡ Some y) × (h y ≡ Some j)
given_by h x xs (Some i) j e more (inl c) = (0, x, refl, e ∙ ap Some (one c))
  where
    one : Contains (filter_map h (x ∷ [])) j → i ≡ j
    one c = elim (first_or_later i j [] (subst (λ o. Contains (filter_map (λ _. o) (x ∷ [])) j) e c)) [ inl q ↦ q | inr q ↦ absurd (in_none j q) ]
given_by h x xs None j e more (inl c) = absurd (in_none j (subst (λ o. Contains (filter_map (λ _. o) (x ∷ [])) j) e c))
given_by h x xs o j e more (inr c) = let m = more c in (suc m.0, m.1, m.2, m.3)

pub given : {A : Type 0} (h : A → Option ℕ) (xs : List A) (j : ℕ) → Contains (filter_map h xs) j → (place : ℕ) × (y : A) × (slice_get xs place ≡ Some y) × (h y ≡ Some j)
given h [] j c = absurd (in_none j c)
given h (x ∷ xs) j c = given_by h x xs (h x) j refl (given h xs j) (Contains-append_cases (filter_map h (x ∷ [])) (filter_map h xs) j (subst (λ ns. Contains ns j) (filter_map-append h (x ∷ []) xs) c))

-- and that of each of them is among them
pub gives : {A : Type 0} (h : A → Option ℕ) (xs : List A) (place : ℕ) (y : A) (j : ℕ) → slice_get xs place ≡ Some y → h y ≡ Some j → Contains (filter_map h xs) j
gives h [] place y j e is = absurd cc
gives h (x ∷ xs) zero y j e is =
    let here : Contains (filter_map h (x ∷ [])) j = subst (λ o. Contains (filter_map (λ _. o) (x ∷ [])) j) (sym (ap h (same_Some x y e) ∙ is)) (first_in j []) in
    subst (λ ns. Contains ns j) (sym (filter_map-append h (x ∷ []) xs)) (Contains-append_left (filter_map h (x ∷ [])) (filter_map h xs) j here)
gives h (x ∷ xs) (suc place) y j e is =
    subst (λ ns. Contains ns j) (sym (filter_map-append h (x ∷ []) xs)) (Contains-append_right (filter_map h (x ∷ [])) (filter_map h xs) j (gives h xs place y j e is))

-- the numbers of what a body calls
pub called_numbers : (ds : List DefinitionTree) (names : Names) (i j : ℕ) (d : DefinitionTree) → names ≡ map (λ d. d.name) ds → slice_get ds i ≡ Some d → Contains (numbers_among names (calls_in d.body)) j ↔ CallsDefinition ds i j
called_numbers ds names i j d are is = (there, back)
  where
    there : Contains (numbers_among names (calls_in d.body)) j → CallsDefinition ds i j
    there c =
        let g = given (λ x. position (bytes_eq x) names) (calls_in d.body) j c in
        record { caller = d; name = g.1; place = g.0; is_caller = is; calls = g.2; is_called = ap (position (bytes_eq g.1)) (sym are) ∙ g.3 }

    back : CallsDefinition ds i j → Contains (numbers_among names (calls_in d.body)) j
    back c =
        let same : c.caller ≡ d = same_Some c.caller d (sym c.is_caller ∙ is) in
        gives (λ x. position (bytes_eq x) names) (calls_in d.body) c.place c.name j (ap (λ (d : DefinitionTree). slice_get (calls_in d.body) c.place) (sym same) ∙ c.calls) (ap (position (bytes_eq c.name)) are ∙ c.is_called)

-- ---- a number comes into lists

module _ (old mid : List (List ℕ)) (numbers : List ℕ) (n j : ℕ) (is : List ℕ) (before : IsListedToo old numbers n mid) (here : slice_get mid j ≡ Some is) where
  kept : (k i : ℕ) → IsListed mid k i → IsListed (set mid j (is ++ n ∷ [])) k i
  kept k i (ks, get, c) = elim (kept_by_set mid j k ks (is ++ n ∷ []) get) [
    | inl e ↦ (ks, e, c)
    | inr e ↦ subst (λ k. IsListed (set mid j (is ++ n ∷ [])) k i) e
        (is ++ n ∷ [], set_here mid j (is ++ n ∷ []) (slice_get_within mid j is here), Contains-append_left is (n ∷ []) i (subst (λ ns. Contains ns i) (same_Some ks is (sym get ∙ (ap (slice_get mid) (sym e) ∙ here))) c))
  ]

  came : (k i : ℕ) → IsListed (set mid j (is ++ n ∷ [])) k i → IsListed old k i ⊎ (Contains (numbers ++ j ∷ []) k × (i ≡ n))
  came k i (ks, get, c) = elim (by_set mid j k ks (is ++ n ∷ []) get) [
    | inl e ↦ from_mid (ks, e, c)
    | inr e ↦ elim (Contains-push_cases is n i (subst (λ ns. Contains ns i) (sym e.1) c)) [
      | inl v ↦ from_mid (subst (λ k. IsListed mid k i) e.0 (is, here, v))
      | inr q ↦ inr (subst (Contains (numbers ++ j ∷ [])) e.0 (Contains-push numbers j), sym q)
    ]
  ]
    where
      from_mid : IsListed mid k i → IsListed old k i ⊎ (Contains (numbers ++ j ∷ []) k × (i ≡ n))
      from_mid m = elim ((before k i).0 m) [ inl o ↦ inl o | inr q ↦ inr (Contains-append_left numbers (j ∷ []) k q.0, q.1) ]

  goes : (k i : ℕ) → IsListed old k i ⊎ (Contains (numbers ++ j ∷ []) k × (i ≡ n)) → IsListed (set mid j (is ++ n ∷ [])) k i
  goes k i (inl o) = kept k i ((before k i).1 (inl o))
  goes k i (inr q) = elim (Contains-push_cases numbers j k q.0) [
    | inl v ↦ kept k i ((before k i).1 (inr (v, q.1)))
    | inr e ↦ subst (λ k. IsListed (set mid j (is ++ n ∷ [])) k i) e (subst (IsListed (set mid j (is ++ n ∷ [])) j) (sym q.1)
        (is ++ n ∷ [], set_here mid j (is ++ n ∷ []) (slice_get_within mid j is here), Contains-push is n))
  ]

  pub one_listed : IsListedToo old (numbers ++ j ∷ []) n (set mid j (is ++ n ∷ []))
  one_listed = λ k i. (came k i, goes k i)

-- ---- the callers of each definition

-- those among the first so many definitions
abbrev pub AreFirstCallers : List DefinitionTree → ℕ → List (List ℕ) → Type 0
AreFirstCallers ds n callers = (i j : ℕ) → IsListed callers j i ↔ ((i < n) × CallsDefinition ds i j)

pub one_more_caller : (ds : List DefinitionTree) (names : Names) (n : ℕ) (d : DefinitionTree) (before after : List (List ℕ)) → names ≡ map (λ d. d.name) ds → slice_get ds n ≡ Some d
    → AreFirstCallers ds n before → IsListedToo before (numbers_among names (calls_in d.body)) n after → AreFirstCallers ds (n + 1) after
one_more_caller ds names n d before after are is first too = λ i j. (there i j, back i j)
  where
    there : (i j : ℕ) → IsListed after j i → (i < n + 1) × CallsDefinition ds i j
    there i j l = elim ((too j i).0 l) [
      | inl o ↦ let q = (first i j).0 o in (omega (arith, q.0), q.1)
      | inr q ↦ (omega (arith, q.1), subst (λ i. CallsDefinition ds i j) (sym q.1) ((called_numbers ds names n j d are is).0 q.0))
    ]

    at : (i j : ℕ) → CallsDefinition ds i j → (i < n) ⊎ (i ≡ n) → IsListed after j i
    at i j calls (inl l) = (too j i).1 (inl ((first i j).1 (l, calls)))
    at i j calls (inr e) = (too j i).1 (inr ((called_numbers ds names n j d are is).1 (subst (λ i. CallsDefinition ds i j) e calls), e))

    back : (i j : ℕ) → (i < n + 1) × CallsDefinition ds i j → IsListed after j i
    back i j q = at i j q.1 (grind (arith, q.0))

pub all_callers : (ds : List DefinitionTree) (callers : List (List ℕ)) → length callers ≡ length ds → AreFirstCallers ds (length ds) callers → AreCallers ds callers
all_callers ds callers each first = record {
  each = each;
  right = λ i j. (λ l. ((first i j).0 l).1, λ c. (first i j).1 (slice_get_within ds i c.caller c.is_caller, c));
}

-- ---- the steps of the loops

pub joined : (names : Names) (before : List ℕ) (xs ys : Names) → (before ++ numbers_among names xs) ++ numbers_among names ys ≡ before ++ numbers_among names (xs ++ ys)
joined names before xs ys = append_assoc before (numbers_among names xs) (numbers_among names ys) ∙ ap (λ ns. before ++ ns) (sym (numbers_join names xs ys))

-- the calls in a phrase, and then those in others
pub calls_then : (names : Names) (before after : List ℕ) (p : PhraseTree) (ps : List PhraseTree) → after ≡ before ++ numbers_among names (calls_in p)
    → after ++ numbers_among names (calls_in_all (phrases_of ps)) ≡ before ++ numbers_among names (calls_in_all (phrases_of (p ∷ ps)))
calls_then names before after p ps e =
    ap (λ ns. ns ++ numbers_among names (calls_in_all (phrases_of ps))) e ∙ joined names before (calls_in p) (calls_in_all (phrases_of ps))

-- after some calls others, which together are all
pub two_called : {T E : Type 0} (r : Result T E) (names xs ys all : Names) (before first second : List ℕ) → first ≡ before ++ numbers_among names xs → OnOk r (second ≡ first ++ numbers_among names ys) → all ≡ xs ++ ys
    → OnOk r (second ≡ before ++ numbers_among names all)
two_called (Ok x) names xs ys all before first second e f a =
    f ∙ (ap (λ ns. ns ++ numbers_among names ys) e ∙ (joined names before xs ys ∙ ap (λ xs. before ++ numbers_among names xs) (sym a)))
two_called (Err x) names xs ys all before first second e f a = tt

-- one more list gets the number
pub more_listed : (old : List (List ℕ)) (vs : List (Vec ℕ Global)) (called : List ℕ) (k n : ℕ) (before after : Vec ℕ Global) → IsListedToo old (take k called) n (number_lists vs) → k < length called
    → slice_get vs (get_or called k 0) ≡ Some before → after.items ≡ before.items ++ n ∷ [] → IsListedToo old (take (k + 1) called) n (number_lists (set vs (get_or called k 0) after))
more_listed old vs called k n before after so_far within here pushed =
    let j = get_or called k 0 in
    let step = one_listed old (number_lists vs) (take k called) n j before.items so_far (slice_get-map (λ (v : Vec ℕ Global). v.items) vs j ∙ ap (option_map (λ (v : Vec ℕ Global). v.items)) here) in
    let written : set (number_lists vs) j (before.items ++ n ∷ []) ≡ number_lists (set vs j after) = ap (set (number_lists vs) j) (sym pushed) ∙ sym (map-set (λ (v : Vec ℕ Global). v.items) vs j after) in
    subst (λ lists. IsListedToo old (take (k + 1) called) n lists) written
    (subst (λ ns. IsListedToo old ns n (set (number_lists vs) j (before.items ++ n ∷ []))) (sym (take_at_read called k 0 within).1) step)

-- the numbers of those that are false, among the first so many
abbrev pub IsListOfFalse : List Bool → List ℕ → ℕ → Type 0
IsListOfFalse states others n = (i : ℕ) → Contains others i ↔ ((i < n) × (slice_get states i ≡ Some false))

pub one_false : (states : List Bool) (others : List ℕ) (n : ℕ) (more : List ℕ) → IsListOfFalse states others n → slice_get states n ≡ Some false → more ≡ others ++ n ∷ [] → IsListOfFalse states more (n + 1)
one_false states others n more so_far here is = λ i. (there i, λ q. at i q.1 (grind (arith, q.0)))
  where
    there : (i : ℕ) → Contains more i → (i < n + 1) × (slice_get states i ≡ Some false)
    there i c = elim (Contains-push_cases others n i (subst (λ ns. Contains ns i) is c)) [
      | inl v ↦ let q = (so_far i).0 v in (omega (arith, q.0), q.1)
      | inr e ↦ (omega (arith, e), ap (slice_get states) (sym e) ∙ here)
    ]

    at : (i : ℕ) → slice_get states i ≡ Some false → (i < n) ⊎ (n ≡ i) → Contains more i
    at i f (inl l) = subst (λ ns. Contains ns i) (sym is) (Contains-append_left others (n ∷ []) i ((so_far i).1 (l, f)))
    at i f (inr e) = subst (λ ns. Contains ns i) (sym is) (subst (Contains (others ++ n ∷ [])) e (Contains-push others n))

true_not_false : ◌≡◌ {A = Option Bool} (Some true) (Some false) → ⊥
true_not_false e = absurd cc

pub one_true : (states : List Bool) (others : List ℕ) (n : ℕ) (same : List ℕ) → IsListOfFalse states others n → slice_get states n ≡ Some true → same ≡ others → IsListOfFalse states same (n + 1)
one_true states others n same so_far here is = λ i. (there i, λ q. at i q.1 (grind (arith, q.0)))
  where
    there : (i : ℕ) → Contains same i → (i < n + 1) × (slice_get states i ≡ Some false)
    there i c = let q = (so_far i).0 (subst (λ ns. Contains ns i) is c) in (omega (arith, q.0), q.1)

    at : (i : ℕ) → slice_get states i ≡ Some false → (i < n) ⊎ (n ≡ i) → Contains same i
    at i f (inl l) = subst (λ ns. Contains ns i) (sym is) ((so_far i).1 (l, f))
    at i f (inr e) = absurd (true_not_false (sym here ∙ (ap (slice_get states) e ∙ f)))

-- the calls in a phrase, by its kind
pub seen_as : (p : Phrase) (k : KindTree) → kind_tree p.kind ≡ k → calls_in (phrase_tree p) ≡ calls_in_kind k
seen_as p k e = ap calls_in (tree_is p) ∙ ap calls_in_kind e

-- the number of a name is below the number of names
pub number_within : (names xs : Names) (j : ℕ) → Contains (numbers_among names xs) j → j < length names
number_within names xs j c = let g = given (λ x. position (bytes_eq x) names) xs j c in (position-Some (bytes_eq g.1) names j g.1 g.3).0

pub names_again : (ds : List Definition) → map (λ d. d.name) ds ≡ map (λ d. d.name) (map definition_tree ds)
names_again [] = refl
names_again (d ∷ ds) = ap (λ xs. d.name ∷ xs) (names_again ds)

pub tree_at : (ds : List Definition) (i : ℕ) (d : Definition) → i < length ds → d ≡ get_or ds i d → slice_get (map definition_tree ds) i ≡ Some (definition_tree d)
tree_at ds i d l e = slice_get-map definition_tree ds i ∙ ap (option_map definition_tree) (slice_get_read ds (length ds) i d refl l e)
