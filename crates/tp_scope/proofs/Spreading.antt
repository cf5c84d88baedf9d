-- State definitions are found by taking out those that aren't, and then whatever calls one that was taken out.
use Rattle.std.proofs.Common.{refl, cond, ap, sym, subst, ◌∙◌, ◌≡◌, ◌⊎◌, inl, inr, ℕ, zero, suc, ◌+◌, ◌<◌, Bool, true, false, List, [], ◌∷◌, ◌++◌, map, length, get_or, set, Option, Some, None, arith, slice_get}
use Rattle.std.proofs.lemmas.List.{length-map, length-set}
use Rattle.std.proofs.lemmas.List.Elements.{Contains-append_left, Contains-push, Contains-push_cases}
use Rattle.std.proofs.lemmas.List.Quantifiers.{position-Some}
use Rattle.std.proofs.lemmas.Option.{slice_get-map, slice_get_within, slice_get-get_or, same_Some}
use Rattle.std.specs.List.{Contains, count_by}
use Rattle.std.proofs.lemmas.List.Sums.{sum_by-set}
use Rattle.std.specs.Option.{option_map}
use Rattle.std.specs.Str.{bytes_eq}
use Rattle.tp_tree.specs.Tree.{DefinitionTree}
use Rattle.tp_scope.specs.Phrases.{is_state_phrase}
use Rattle.tp_scope.specs.Names.{CallsDefinition, Reaches, itself, by_call, IsStateDefinition, AreStates}
use Rattle.tp_scope.specs.Callers.{own_states, AreCallers}
use Rattle.tp_scope.proofs.Listing.{in_none, first_in, later_in, first_or_later, set_here}

-- ---- lists

set_false : (bs : List Bool) (i j : ℕ) → slice_get bs j ≡ Some false → slice_get (set bs i false) j ≡ Some false
set_false [] i j e = e
set_false (b ∷ bs) zero zero e = refl
set_false (b ∷ bs) zero (suc j) e = e
set_false (b ∷ bs) (suc i) zero e = e
set_false (b ∷ bs) (suc i) (suc j) e = set_false bs i j e

false_by_set : (bs : List Bool) (i j : ℕ) → slice_get (set bs i false) j ≡ Some false → (slice_get bs j ≡ Some false) ⊎ (i ≡ j)
false_by_set [] i j e = inl e
false_by_set (b ∷ bs) zero zero e = inr refl
false_by_set (b ∷ bs) zero (suc j) e = inl e
false_by_set (b ∷ bs) (suc i) zero e = inl e
false_by_set (b ∷ bs) (suc i) (suc j) e = elim (false_by_set bs i j e) [ inl h ↦ inl h | inr h ↦ inr (ap suc h) ]

not_both : (o : Option Bool) → o ≡ Some true → o ≡ Some false → ⊥
not_both o t f = absurd cc

-- ---- what holds while callers are taken out

-- Those that are false are no state definitions. A caller of one of them is false too, but where the called one is in the work, or it is the
-- one with the number `at` and the caller is among the rest.
pub record Progress (ds : List DefinitionTree) (states : List Bool) (work : List ℕ) (at : ℕ) (rest : List ℕ) : Type 0 where
  pub each : length states ≡ length ds
  pub own : (i : ℕ) → slice_get (own_states ds) i ≡ Some false → slice_get states i ≡ Some false
  pub sound : (i : ℕ) → slice_get states i ≡ Some false → IsStateDefinition ds i → ⊥
  pub spread : (i j : ℕ) → CallsDefinition ds i j → slice_get states j ≡ Some false → (slice_get states i ≡ Some false) ⊎ (Contains work j ⊎ ((j ≡ at) × Contains rest i))
  pub listed : (j : ℕ) → Contains work j → slice_get states j ≡ Some false
  pub callers : (i : ℕ) → Contains rest i → CallsDefinition ds i at × (slice_get states at ≡ Some false)

caller_within : (ds : List DefinitionTree) (i j : ℕ) → CallsDefinition ds i j → i < length ds
caller_within ds i j calls = slice_get_within ds i calls.caller calls.is_caller

called_within : (ds : List DefinitionTree) (i j : ℕ) → CallsDefinition ds i j → j < length ds
called_within ds i j calls = rw (sym (length-map ds (λ d. d.name))) (position-Some (bytes_eq calls.name) (map (λ d. d.name) ds) j calls.name calls.is_called).0

-- a definition that calls one that isn't a state definition is none either
caller_is_none : (ds : List DefinitionTree) (i j : ℕ) → CallsDefinition ds i j → (IsStateDefinition ds j → ⊥) → IsStateDefinition ds i → ⊥
caller_is_none ds i j calls none is_state = none (λ k d reaches e. is_state k d (by_call i j k calls reaches) e)

own_of : (ds : List DefinitionTree) (i : ℕ) (d : DefinitionTree) → slice_get ds i ≡ Some d → slice_get (own_states ds) i ≡ Some (is_state_phrase (λ x. true) d.body)
own_of ds i d e = slice_get-map (λ d. is_state_phrase (λ x. true) d.body) ds i ∙ ap (option_map (λ d. is_state_phrase (λ x. true) d.body)) e

own_by : (ds : List DefinitionTree) (i : ℕ) (o : Option DefinitionTree) → slice_get ds i ≡ o → option_map (λ d. is_state_phrase (λ x. true) d.body) o ≡ Some false → IsStateDefinition ds i → ⊥
own_by ds i None e f is_state = absurd cc
own_by ds i (Some d) e f is_state = not_both (Some (is_state_phrase (λ x. true) d.body)) (ap Some (is_state i d (itself i) e)) f

pub started : (ds : List DefinitionTree) (states : List Bool) (work : List ℕ) → states ≡ own_states ds → ((i : ℕ) → (Contains work i → slice_get states i ≡ Some false) × (slice_get states i ≡ Some false → Contains work i)) → Progress ds states work 0 []
started ds states work is_own all = record {
  each = ap length is_own ∙ length-map ds _;
  own = λ i f. ap (λ bs. slice_get bs i) is_own ∙ f;
  sound = λ i f. own_by ds i (slice_get ds i) refl (sym (slice_get-map (λ d. is_state_phrase (λ x. true) d.body) ds i) ∙ (ap (λ bs. slice_get bs i) (sym is_own) ∙ f));
  spread = λ i j calls f. inr (inl ((all j).1 f));
  listed = λ j w. (all j).0 w;
  callers = λ i c. absurd (in_none i c);
}

-- one is taken from the work, and its callers are the rest
pub taken : (ds : List DefinitionTree) (callers : List (List ℕ)) (states : List Bool) (work : List ℕ) (at j : ℕ) (rest : List ℕ) → AreCallers ds callers → slice_get callers j ≡ Some rest → Progress ds states (work ++ j ∷ []) at [] → Progress ds states work j rest
taken ds callers states work at j rest are is p = record {
  each = p.each;
  own = p.own;
  sound = p.sound;
  spread = λ i k calls f. elim (p.spread i k calls f) [
    | inl h ↦ inl h
    | inr (inl w) ↦ elim (Contains-push_cases work j k w) [
      | inl v ↦ inr (inl v)
      | inr e ↦ inr (inr (sym e, here i k calls e))
    ]
    | inr (inr c) ↦ absurd (in_none i c.1)
  ];
  listed = λ k w. p.listed k (Contains-append_left work (j ∷ []) k w);
  callers = λ i c. ((are.right i j).0 (rest, is, c), p.listed j (Contains-push work j));
}
  where
    here : (i k : ℕ) → CallsDefinition ds i k → j ≡ k → Contains rest i
    here i k calls e =
        let l = (are.right i k).1 calls in
        subst (λ cs. Contains cs i) (same_Some l.0 rest (sym l.1 ∙ (ap (slice_get callers) (sym e) ∙ is))) l.2

-- where of the callers some are done with, the others are left
fewer : (ds : List DefinitionTree) (states : List Bool) (work : List ℕ) (at at' : ℕ) (rest rest' : List ℕ) → Progress ds states work at rest
    → ((i j : ℕ) → (j ≡ at) × Contains rest i → (slice_get states i ≡ Some false) ⊎ (Contains work j ⊎ ((j ≡ at') × Contains rest' i))) → ((i : ℕ) → Contains rest' i → CallsDefinition ds i at' × (slice_get states at' ≡ Some false)) → Progress ds states work at' rest'
fewer ds states work at at' rest rest' p left callers = record {
  each = p.each;
  own = p.own;
  sound = p.sound;
  spread = λ i j calls f. elim (p.spread i j calls f) [ inl h ↦ inl h | inr (inl w) ↦ inr (inl w) | inr (inr c) ↦ left i j c ];
  listed = p.listed;
  callers = callers;
}

-- a caller is false already
pub passed : (ds : List DefinitionTree) (states : List Bool) (work : List ℕ) (at i : ℕ) (rest : List ℕ) → slice_get states i ≡ Some false → Progress ds states work at (i ∷ rest) → Progress ds states work at rest
passed ds states work at i rest is_false p = fewer ds states work at at (i ∷ rest) rest p (λ k j c. elim (first_or_later i k rest c.1) [
  | inl e ↦ inl (ap (slice_get states) (sym e) ∙ is_false)
  | inr l ↦ inr (inr (c.0, l))
]) (λ k c. p.callers k (later_in i k rest c))

-- a caller becomes false, and comes into the work
pub added : (ds : List DefinitionTree) (states : List Bool) (work : List ℕ) (at i : ℕ) (rest : List ℕ) → Progress ds states work at (i ∷ rest) → Progress ds (set states i false) (work ++ i ∷ []) at rest
added ds states work at i rest p = record {
  each = length-set states i false ∙ p.each;
  own = λ j f. set_false states i j (p.own j f);
  sound = λ j f. elim (false_by_set states i j f) [
    | inl h ↦ p.sound j h
    | inr e ↦ subst (λ k. IsStateDefinition ds k → ⊥) e none
  ];
  spread = λ k j calls f. elim (false_by_set states i j f) [
    | inl h ↦ elim (p.spread k j calls h) [
      | inl g ↦ inl (set_false states i k g)
      | inr (inl w) ↦ inr (inl (Contains-append_left work (i ∷ []) j w))
      | inr (inr c) ↦ elim (first_or_later i k rest c.1) [
        | inl e ↦ inl (ap (slice_get (set states i false)) (sym e) ∙ now_false)
        | inr l ↦ inr (inr (c.0, l))
      ]
    ]
    | inr e ↦ inr (inl (subst (Contains (work ++ i ∷ [])) e (Contains-push work i)))
  ];
  listed = λ j w. elim (Contains-push_cases work i j w) [
    | inl v ↦ set_false states i j (p.listed j v)
    | inr e ↦ ap (slice_get (set states i false)) (sym e) ∙ now_false
  ];
  callers = λ k c. let q = p.callers k (later_in i k rest c) in (q.0, set_false states i at q.1);
}
  where
    calling : CallsDefinition ds i at × (slice_get states at ≡ Some false)
    calling = p.callers i (first_in i rest)

    now_false : slice_get (set states i false) i ≡ Some false
    now_false = set_here states i false (rw p.each (caller_within ds i at calling.0))

    none : IsStateDefinition ds i → ⊥
    none = caller_is_none ds i at calling.0 (p.sound at calling.1)

-- no caller is left
pub gone : (ds : List DefinitionTree) (states : List Bool) (work : List ℕ) (at : ℕ) → Progress ds states work at [] → Progress ds states work 0 []
gone ds states work at p = fewer ds states work at 0 [] [] p (λ i j c. absurd (in_none i c.1)) (λ i c. absurd (in_none i c))

-- who is taken from the work, and a caller, are definitions
pub called_is : (ds : List DefinitionTree) (states : List Bool) (work : List ℕ) (at j : ℕ) (rest : List ℕ) → Progress ds states (work ++ j ∷ []) at rest → j < length ds
called_is ds states work at j rest p = rw (sym p.each) (slice_get_within states j false (p.listed j (Contains-push work j)))

pub caller_is : (ds : List DefinitionTree) (states : List Bool) (work : List ℕ) (at i : ℕ) (rest : List ℕ) → Progress ds states work at (i ∷ rest) → i < length states
caller_is ds states work at i rest p = rw p.each (caller_within ds i at (p.callers i (first_in i rest)).0)

-- one that is true no more is one fewer to go
pub one_fewer : (states : List Bool) (i : ℕ) → i < length states → get_or states i false ≡ true → count_by (λ b. b) (set states i false) + 1 ≡ count_by (λ b. b) states
one_fewer states i l e =
    let set_is = sum_by-set (λ (b : Bool). cond b 1 0) states i false false l in
    omega (arith, set_is, ap {B = ℕ} (λ b. cond b 1 0) e)

-- ---- nothing is left

module _ (ds : List DefinitionTree) (states : List Bool) (at : ℕ) (p : Progress ds states [] at []) where
  called_true : (i j : ℕ) (b : Bool) → CallsDefinition ds i j → slice_get states j ≡ Some b → slice_get states i ≡ Some true → slice_get states j ≡ Some true
  called_true i j true calls e t = e
  called_true i j false calls e t = elim (p.spread i j calls e) [
    | inl h ↦ absurd (not_both (slice_get states i) t h)
    | inr (inl w) ↦ absurd (in_none j w)
    | inr (inr c) ↦ absurd (in_none i c.1)
  ]

  reached_true : (i j : ℕ) → Reaches ds i j → slice_get states i ≡ Some true → slice_get states j ≡ Some true
  reached_true _ _ (itself i) t = t
  reached_true _ _ (by_call i j k calls reaches) t =
      let within : j < length states = rw p.each (called_within ds i j calls) in
      reached_true j k reaches (called_true i j (get_or states j false) calls (slice_get-get_or states j false within) t)

  own_true : (i : ℕ) (d : DefinitionTree) (b : Bool) → is_state_phrase (λ x. true) d.body ≡ b → slice_get ds i ≡ Some d → slice_get states i ≡ Some true → is_state_phrase (λ x. true) d.body ≡ true
  own_true i d true s e t = s
  own_true i d false s e t = absurd (not_both (slice_get states i) t (p.own i (own_of ds i d e ∙ ap Some s)))

  state_true : (i : ℕ) (b : Bool) → slice_get states i ≡ Some b → IsStateDefinition ds i → b ≡ true
  state_true i true e is_state = refl
  state_true i false e is_state = absurd (p.sound i e is_state)

  pub finished : AreStates ds states
  finished = record {
    each = p.each;
    right = λ i b e. (λ t. λ j d reaches f. own_true j d (is_state_phrase (λ x. true) d.body) refl f (reached_true i j reaches (e ∙ ap Some t)), state_true i b e);
  }
