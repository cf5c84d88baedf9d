-- The body of a state definition is an expression wherever it is a formula.
use Rattle.std.proofs.Common.{refl, ap, subst, ◌∙◌, ◌≡◌, ℕ, zero, suc, ◌+◌, ◌&&◌, nat_eq, Bool, true, false, cond, if◌then◌else◌, List, [], ◌∷◌, ◌++◌, length, map, slice_get, Option, None, Some, Ok, Err, add-one, arith}
use Rattle.std.specs.List.{position, position_from}
use Rattle.std.specs.Str.{bytes_eq}
use Rattle.std.proofs.lemmas.Iterator.Adapters.{position_from-zero}
use Rattle.tp_tree.specs.declared.operator.Op.{Op}
use Rattle.tp_tree.specs.declared.operator.Op.TheVariants as op
use Rattle.tp_tree.specs.Tree as k
use Rattle.tp_tree.specs.Tree.{PhraseTree, phrase, KindTree, PhraseTrees, no_phrase, phrase_then, DefinitionTree}
use Rattle.tp_meaning.specs.Syntax.{ExprTree, exprs_of, invoke, test}
use Rattle.tp_meaning.specs.Syntax as m
use Rattle.tp_check.specs.declared.refusal.CheckRefusal.TheVariants.{WrongCount}
use Rattle.tp_scope.specs.Scope.{Names, Signature, VisibleNames, Called, called_from, called_of}
use Rattle.tp_check.specs.Outcome.{CheckOutcome, mapped, both, three, not_run, not_expression}
use Rattle.tp_scope.specs.Phrases.{is_state_operator, is_state_phrase, is_state_kind, are_state_phrases, calls_in, calls_in_kind, calls_in_all, is_place_phrase, is_place_kind, phrase_count, nexts_of, behind_nexts, at_of}
use Rattle.tp_scope.specs.Names.{signatures_of, CallsDefinition, itself, by_call, IsStateDefinition, AreStates}
use Rattle.tp_check.specs.Positions.{called_expr, expr_of, expr_of_kind, exprs_in, arguments_in, equation_of, is_state_in, place_is, state_in, called_formula, formula_of, formula_of_kind, formulas_in}
use Rattle.tp_check.proofs.Broken.{in_front, behind}

-- ---- what a state definition calls

-- the first of the states belongs to the number i
abbrev StateIs : ℕ → List Bool → Called → Type 0
StateIs i states c = (j : ℕ) × (c.number ≡ j + i) × (slice_get states j ≡ Some c.signature.is_state)

found_by : (i : ℕ) (s : Signature) (states : List Bool) (c : Called) (same : Bool) (later : Option Called) (place : Option ℕ) → (if same then Some (record { number = i; signature = s }) else later) ≡ Some c
    → (later ≡ Some c → (place ≡ Some c.number) × StateIs (suc i) states c) → (cond same (Some i) place ≡ Some c.number) × StateIs i (s.is_state ∷ states) c
found_by i s states c true later place e rest =
    let is : record { number = i; signature = s } ≡ c = cc in
    let number : i ≡ c.number = ap (λ (d : Called). d.number) is in
    (ap Some number, (0, omega (arith, number), ap (λ (d : Called). Some d.signature.is_state) is))
found_by i s states c false later place e rest = let h = rest e in (h.0, (suc h.1.0, omega (arith, h.1.1), h.1.2))

found_at : (i : ℕ) (ds : List DefinitionTree) (states : List Bool) (x : List ℕ) (c : Called) → called_from i (signatures_of ds states) x ≡ Some c
    → (position_from (bytes_eq x) i (map (λ d. d.name) ds) ≡ Some c.number) × StateIs i states c
found_at i [] states x c e = absurd cc
found_at i (d ∷ ds) [] x c e = absurd cc
found_at i (d ∷ ds) (b ∷ bs) x c e =
    found_by i (record { name = d.name; parameters = d.parameters; is_state = b }) bs c (bytes_eq x d.name) (called_from (suc i) (signatures_of ds bs) x) (position_from (bytes_eq x) (i + 1) (map (λ d. d.name) ds)) e
    (λ later. let h = found_at (suc i) ds bs x c later in (ap (λ j. position_from (bytes_eq x) j (map (λ d. d.name) ds)) (add-one i) ∙ h.0, h.1))

-- whatever is called by one of these names is a state definition
abbrev CallStates : List Signature → Names → Type 0
CallStates definitions xs = (i : ℕ) (x : List ℕ) → slice_get xs i ≡ Some x → (c : Called) → called_of definitions x ≡ Some c → c.signature.is_state ≡ true

-- a phrase of one state that calls state definitions alone
abbrev pub SaysOfOneState : List Signature → PhraseTree → Type 0
SaysOfOneState definitions p = (is_state_phrase (λ x. true) p ≡ true) × CallStates definitions (calls_in p)

pub states_say : (ds : List DefinitionTree) (states : List Bool) → AreStates ds states → (i : ℕ) (d : DefinitionTree) → slice_get ds i ≡ Some d → slice_get states i ≡ Some true → SaysOfOneState (signatures_of ds states) d.body
states_say ds states are i d there is = (state i d (itself i) there, calls_state)
  where
    state : IsStateDefinition ds i
    state = (are.right i true is).0 refl

    calls_state : CallStates (signatures_of ds states) (calls_in d.body)
    calls_state n x calls c e =
        let found = found_at 0 ds states x c e in
        let called : position (bytes_eq x) (map (λ d. d.name) ds) ≡ Some c.number = position_from-zero (bytes_eq x) (map (λ d. d.name) ds) ∙ found.0 in
        let call : CallsDefinition ds i c.number = record { caller = d; name = x; place = n; is_caller = there; calls = calls; is_called = called } in
        let number : c.number ≡ found.1.0 = omega (arith, found.1.1) in
        (are.right c.number c.signature.is_state (ap (slice_get states) number ∙ found.1.2)).1 (λ j e reaches get. state j e (by_call i c.number j call reaches) get)

-- ---- what is made

abbrev pub IsMade : {A : Type 0} → CheckOutcome A → Type 0
IsMade (Ok x) = Unit {0}
IsMade (Err e) = ⊥

pub mapped_made : {A B : Type 0} (g : A → B) (a : CheckOutcome A) → IsMade a → IsMade (mapped g a)
mapped_made g (Ok x) h = tt
mapped_made g (Err e) h = h

of_mapped : {A B : Type 0} (g : A → B) (a : CheckOutcome A) → IsMade (mapped g a) → IsMade a
of_mapped g (Ok x) h = tt
of_mapped g (Err e) h = h

both_made : {A B C : Type 0} (g : A → B → C) (a : CheckOutcome A) (b : CheckOutcome B) → IsMade a → IsMade b → IsMade (both g a b)
both_made g (Ok x) b p q = mapped_made (g x) b q
both_made g (Err e) b p q = p

of_both : {A B C : Type 0} (g : A → B → C) (a : CheckOutcome A) (b : CheckOutcome B) → IsMade (both g a b) → IsMade a × IsMade b
of_both g (Ok x) b h = (tt, of_mapped (g x) b h)
of_both g (Err e) b h = (h, absurd h)

three_made : {A B C D : Type 0} (g : A → B → C → D) (a : CheckOutcome A) (b : CheckOutcome B) (c : CheckOutcome C) → IsMade a → IsMade b → IsMade c → IsMade (three g a b c)
three_made g (Ok x) b c p q r = both_made (g x) b c q r
three_made g (Err e) b c p q r = p

of_three : {A B C D : Type 0} (g : A → B → C → D) (a : CheckOutcome A) (b : CheckOutcome B) (c : CheckOutcome C) → IsMade (three g a b c) → IsMade a × IsMade b × IsMade c
of_three g (Ok x) b c h = let rest = of_both (g x) b c h in (tt, rest.0, rest.1)
of_three g (Err e) b c h = (h, absurd h, absurd h)

-- ---- phrases of one state

first_holds : (a b : Bool) → (a && b) ≡ true → a ≡ true
first_holds true b e = refl
first_holds false b e = e

second_holds : (a b : Bool) → (a && b) ≡ true → b ≡ true
second_holds true b e = e
second_holds false b e = absurd cc

front_calls : (definitions : List Signature) (xs ys : Names) → CallStates definitions (xs ++ ys) → CallStates definitions xs
front_calls definitions xs ys calls i x e = calls i x (in_front xs ys i x e)

back_calls : (definitions : List Signature) (xs ys : Names) → CallStates definitions (xs ++ ys) → CallStates definitions ys
back_calls definitions xs ys calls i x e = calls (i + length xs) x (behind xs ys i x e)

state_behind : (p : PhraseTree) → is_state_phrase (λ x. true) p ≡ true → behind_nexts p ≡ p
state_behind (phrase at (k.next p)) e = absurd cc
state_behind (phrase at kind) e = refl

module _ (names : VisibleNames) where
  state_of : (at : ℕ) (kind : KindTree) → IsMade (state_in names at kind) → IsMade (expr_of_kind names at kind)
  state_of at kind h = by (is_place_kind kind) h
    where
      by : (b : Bool) → IsMade (if b then mapped (place_is true) (expr_of_kind names at kind) else mapped test (expr_of_kind names at kind)) → IsMade (expr_of_kind names at kind)
      by true h = of_mapped (place_is true) (expr_of_kind names at kind) h
      by false h = of_mapped test (expr_of_kind names at kind) h

  negation_of : (at : ℕ) (p : PhraseTree) (is_place is_state : Bool)
      → IsMade (if is_place then mapped (place_is false) (expr_of names p) else if is_state then state_in names at (k.negation p) else not_run at) → IsMade (expr_of_kind names at (k.negation p))
  negation_of at p true is_state h = mapped_made m.negation (expr_of names p) (of_mapped (place_is false) (expr_of names p) h)
  negation_of at p false true h = state_of at (k.negation p) h
  negation_of at p false false h = absurd h

  or_of : (at : ℕ) (l r : PhraseTree) (are_states : Bool) → IsMade (if are_states then state_in names at (k.binary op.Or l r) else not_run at) → IsMade (expr_of_kind names at (k.binary op.Or l r))
  or_of at l r true h = state_of at (k.binary op.Or l r) h
  or_of at l r false h = absurd h

  sides_of : (n j at : ℕ) (a b : CheckOutcome ExprTree) → IsMade (equation_of n j at a b) → IsMade a × IsMade b
  sides_of zero zero at a b h = of_both _ a b h
  sides_of (suc n) zero at a b h = of_both _ a b h
  sides_of zero (suc j) at a b h = of_both _ a b h
  sides_of (suc n) (suc j) at a b h = absurd (of_both m.equation a (not_expression at) h).1

  equation_of_states : (at : ℕ) (l r : PhraseTree) → is_state_phrase (λ x. true) l ≡ true → is_state_phrase (λ x. true) r ≡ true → IsMade (formula_of_kind names at (k.binary op.Equal l r)) → IsMade (expr_of_kind names at (k.binary op.Equal l r))
  equation_of_states at l r p q h =
      let sides = sides_of (nexts_of l) (nexts_of r) (at_of r) (expr_of names (behind_nexts l)) (expr_of names (behind_nexts r)) h in
      both_made _ (expr_of names l) (expr_of names r) (subst (λ (s : PhraseTree). IsMade (expr_of names s)) (state_behind l p) sides.0) (subst (λ (s : PhraseTree). IsMade (expr_of names s)) (state_behind r q) sides.1)

  binary_of_states : (at : ℕ) (o : Op) (l r : PhraseTree) → is_state_operator o ≡ true → is_state_phrase (λ x. true) l ≡ true → is_state_phrase (λ x. true) r ≡ true
      → IsMade (formula_of_kind names at (k.binary o l r)) → IsMade (expr_of_kind names at (k.binary o l r))
  binary_of_states at op.Chop l r s p q h = absurd cc
  binary_of_states at op.Proj l r s p q h = absurd cc
  binary_of_states at op.Gets l r s p q h = absurd cc
  binary_of_states at op.Arrow l r s p q h = absurd cc
  binary_of_states at op.Becomes l r s p q h = absurd cc
  binary_of_states at op.Equal l r s p q h = equation_of_states at l r p q h
  binary_of_states at op.Or l r s p q h = or_of at l r (is_state_in names l && is_state_in names r) h
  binary_of_states at o l r s p q h = state_of at (k.binary o l r) h

  call_by : (at : ℕ) (c : Called) (counted is_state : Bool) → is_state ≡ true → (arguments : CheckOutcome (List ExprTree)) → IsMade (if counted then mapped (λ es. m.call c.number (exprs_of es)) arguments else Err (WrongCount at))
      → IsMade (if counted then (if is_state then mapped (λ es. invoke c.number (exprs_of es)) arguments else not_expression at) else Err (WrongCount at))
  call_by at c true true s arguments h = mapped_made _ arguments (of_mapped (λ es. m.call c.number (exprs_of es)) arguments h)
  call_by at c true false s arguments h = absurd cc
  call_by at c false is_state s arguments h = absurd h

  call_of_states : (at : ℕ) (ps : PhraseTrees) (o : Option Called) → ((c : Called) → o ≡ Some c → c.signature.is_state ≡ true) → IsMade (called_formula names at o ps) → IsMade (called_expr at o (phrase_count ps) (λ xs. arguments_in names ps xs))
  call_of_states at ps None state h = absurd h
  call_of_states at ps (Some c) state h = call_by at c (nat_eq (phrase_count ps) (length c.signature.parameters)) c.signature.is_state (state c refl) (arguments_in names ps c.signature.parameters) h

mutual
  -- a phrase of one state that is made to a formula is made to an expression
  pub expr_made : (names : VisibleNames) (p : PhraseTree) → is_state_phrase (λ x. true) p ≡ true → CallStates names.definitions (calls_in p) → IsMade (formula_of names p) → IsMade (expr_of names p)
  expr_made names (phrase at kind) is calls h = expr_kind_made names at kind is calls h

  expr_kind_made : (names : VisibleNames) (at : ℕ) (kind : KindTree) → is_state_kind (λ x. true) kind ≡ true → CallStates names.definitions (calls_in_kind kind) → IsMade (formula_of_kind names at kind) → IsMade (expr_of_kind names at kind)
  expr_kind_made names at (k.number n) is calls h = tt
  expr_kind_made names at (k.truth b) is calls h = tt
  expr_kind_made names at (k.name x) is calls h = state_of names at (k.name x) h
  expr_kind_made names at (k.list ps) is calls h = state_of names at (k.list ps) h
  expr_kind_made names at (k.size p) is calls h = state_of names at (k.size p) h
  expr_kind_made names at (k.index p i) is calls h = state_of names at (k.index p i) h
  expr_kind_made names at (k.minus p) is calls h = state_of names at (k.minus p) h
  expr_kind_made names at (k.negation p) is calls h = negation_of names at p (is_place_phrase p) (is_state_in names p) h
  expr_kind_made names at (k.binary o l r) is calls h =
      let a = is_state_phrase (λ x. true) l in
      let b = is_state_phrase (λ x. true) r in
      let sides = second_holds (is_state_operator o) (a && b) is in
      binary_of_states names at o l r (first_holds (is_state_operator o) (a && b) is) (first_holds a b sides) (second_holds a b sides) h
  expr_kind_made names at (k.conjunction ps) is calls h = mapped_made _ (exprs_in names ps) (exprs_made names ps is calls (of_mapped _ (formulas_in names ps) h))
  expr_kind_made names at (k.choice_else b p q) is calls h =
      let first = is_state_phrase (λ x. true) b in
      let second = is_state_phrase (λ x. true) p in
      let third = is_state_phrase (λ x. true) q in
      let rest = second_holds first (second && third) is in
      let two = front_calls names.definitions (calls_in b ++ calls_in p) (calls_in q) calls in
      let parts = of_three m.branch (expr_of names b) (formula_of names p) (formula_of names q) h in
      three_made m.choice (expr_of names b) (expr_of names p) (expr_of names q) parts.0
      (expr_made names p (first_holds second third rest) (back_calls names.definitions (calls_in b) (calls_in p) two) parts.1)
      (expr_made names q (second_holds second third rest) (back_calls names.definitions (calls_in b ++ calls_in p) (calls_in q) calls) parts.2)
  expr_kind_made names at (k.call x ps) is calls h = call_of_states names at ps (called_of names.definitions x) (λ c found. calls 0 x refl c found) h
  expr_kind_made names at kind is calls h = absurd cc

  exprs_made : (names : VisibleNames) (ps : PhraseTrees) → are_state_phrases (λ x. true) ps ≡ true → CallStates names.definitions (calls_in_all ps) → IsMade (formulas_in names ps) → IsMade (exprs_in names ps)
  exprs_made names no_phrase is calls h = tt
  exprs_made names (phrase_then p ps) is calls h =
      let one = is_state_phrase (λ x. true) p in
      let rest = are_state_phrases (λ x. true) ps in
      let parts = of_both _ (formula_of names p) (formulas_in names ps) h in
      both_made _ (expr_of names p) (exprs_in names ps) (expr_made names p (first_holds one rest is) (front_calls names.definitions (calls_in p) (calls_in_all ps) calls) parts.0)
      (exprs_made names ps (second_holds one rest is) (back_calls names.definitions (calls_in p) (calls_in_all ps) calls) parts.1)
