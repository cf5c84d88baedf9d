-- The variables of a store, and their names.
use Rattle.std.proofs.Common.{◌≡◌, ℕ, zero, suc, ◌+◌, ◌<◌, ◌≤◌, Bool, true, false, cond, List, [], ◌∷◌, ◌++◌, length, map, take, get_or, Some, None, slice_get, refl, ap, sym, ◌∙◌, arith}
use mathlib.Core.Bool.{beq}
use Rattle.std.proofs.lemmas.Bool.{false_from_ne_true}
use Rattle.tp_value.specs.Tree.{same_truth}
use Rattle.tp_value.specs.Globals.{is_lower}
use Rattle.tp_store.specs.Known.{Variable, name_where, global_variable}
use Rattle.tp_store.specs.declared.entry.Entry.{Entry}
use Rattle.tp_store.specs.Entries.{variable_in, variables_in}
use Rattle.tp_store.proofs.Paths.{same_truth-decides}

-- the name of a variable
name_seen : (es : List Entry) (i : ℕ) (b : Bool) (d : Entry) → i < length es → name_where b (slice_get (variables_in es) i) ≡ cond (same_truth (get_or es i d).lasting b) (Some (get_or es i d).name) None
name_seen [] i b d h = absurd (omega arith)
name_seen (e ∷ es) zero b d h = refl
name_seen (e ∷ es) (suc i) b d h = name_seen es i b d (omega arith)

pub name_read : (es : List Entry) (i : ℕ) (b : Bool) (e : Entry) → i < length es → e ≡ get_or es i e → e.lasting ≡ b → Some e.name ≡ name_where b (slice_get (variables_in es) i)
name_read es i b e h q t =
    let same : same_truth e.lasting b ≡ true = (same_truth-decides e.lasting b).1 t in
    sym (name_seen es i b e h ∙ ap (λ (x : Entry). cond (same_truth x.lasting b) (Some x.name) None) (sym q) ∙ ap (λ v. cond v (Some e.name) None) same)

pub other_name : (es : List Entry) (i : ℕ) (b : Bool) (e : Entry) → i < length es → e ≡ get_or es i e → (e.lasting ≡ b → ⊥) → None ≡ name_where b (slice_get (variables_in es) i)
other_name es i b e h q t =
    let other : same_truth e.lasting b ≡ false = false_from_ne_true (same_truth e.lasting b) (λ s. t ((same_truth-decides e.lasting b).0 s)) in
    sym (name_seen es i b e h ∙ ap (λ (x : Entry). cond (same_truth x.lasting b) (Some x.name) None) (sym q) ∙ ap (λ v. cond v (Some e.name) None) other)

pub no_name : (es : List Entry) (i : ℕ) (b : Bool) → length es ≤ i → None ≡ name_where b (slice_get (variables_in es) i)
no_name [] i b h = refl
no_name (e ∷ es) zero b h = absurd (omega arith)
no_name (e ∷ es) (suc i) b h = no_name es i b (omega arith)

-- one more global
pub global_entry : (name : List ℕ) (e : Entry) → e.name ≡ name → e.lasting ≡ is_lower name → variable_in e ≡ global_variable name
global_entry name e n l =
    let make : List ℕ → Bool → Variable = λ a b. record { name = a; lasting = b } in
    ap (λ y. make y e.lasting) n ∙ ap (make name) l

pub global_more : (names : List (List ℕ)) (i : ℕ) (name : List ℕ) → slice_get names i ≡ Some name
    → map global_variable (take i names) ++ global_variable name ∷ [] ≡ map global_variable (take (i + 1) names)
global_more [] i name e = absurd (cc)
global_more (n ∷ ns) zero name e = let q : name ≡ n = cc e in ap (λ m. global_variable m ∷ []) q
global_more (n ∷ ns) (suc i) name e =
    let m : suc (i + 1) ≡ suc i + 1 = omega arith in
    ap (λ ps. global_variable n ∷ ps) (global_more ns i name e) ∙ ap (λ k. map global_variable (take k (n ∷ ns))) m

-- there is a name at each number below the length
pub no_global : {A : Type 0} (xs : List A) (i : ℕ) → slice_get xs i ≡ None → i < length xs → ⊥
no_global [] i e h = omega arith
no_global (x ∷ xs) zero e h = cc e
no_global (x ∷ xs) (suc i) e h = no_global xs i e (omega arith)

pub beq_same : (a b : Bool) → beq a b ≡ true → a ≡ b
beq_same true true h = refl
beq_same true false h = absurd (cc h)
beq_same false true h = absurd (cc h)
beq_same false false h = refl

pub beq_other : (a b : Bool) → beq a b ≡ false → a ≡ b → ⊥
beq_other true true h e = cc h
beq_other true false h e = cc e
beq_other false true h e = cc e
beq_other false false h e = cc h
