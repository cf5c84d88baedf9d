-- Values that variables have as a whole, beside the facts of other variables.
use Rattle.std.proofs.Common.{◌≡◌, ◌≢◌, inl, inr, ℕ, zero, suc, ◌+◌, ◌<◌, ◌≤◌, nat_eq, Bool, true, false, cond, if◌then◌else◌, List, [], ◌∷◌, ◌++◌, length, drop, slice_get, Option, Some, None, refl, ap, sym, ◌∙◌, subst, arith, append_assoc, append-nil}
use Rattle.std.specs.Map.{lookup}
use Rattle.std.specs.declared.rc.Rc.{Rc}
use Rattle.std.specs.declared.alloc.Global.{Global}
use Rattle.std.proofs.lemmas.List.Elements.{filter-append}
use Rattle.std.proofs.lemmas.Bool.{both_ways, false_from_ne_true, eqb-true, eq-eqb, ne_eqb}
use Rattle.tp_value.specs.Limits.{is_within_list_limit}
use Rattle.tp_value.specs.Tree.{same_truth}
use Rattle.tp_value.specs.Read.{tree}
use Rattle.tp_value.specs.declared.value.Value.{Value}
use Rattle.tp_value.specs.declared.path.VarId.{VarId}
use Rattle.tp_value.specs.declared.path.Path.{Path}
use Rattle.tp_value.specs.declared.path.Fact.{Fact}
use Rattle.tp_store.specs.Facts.{same_path, clash, fact}
use Rattle.tp_store.specs.Known.{NoClash, addition, adds}
use Rattle.tp_store.specs.Changes.{HaveSameShapes}
use Rattle.tp_store.specs.FactMap.{AreOf, AreOfKind, is_among, facts_asked}
use Rattle.tp_store.specs.declared.copies.AskedVariables.{AskedVariables}
use Rattle.tp_store.specs.Nodes.{path_along}
use Rattle.tp_store.specs.Wholes.{facts_of_value, whole_facts, whole_value, AreOfDifferent, AreOfOthers, AreWholes}
use Rattle.tp_store.proofs.Paths.{same_truth-decides, same_path-decides}
use Rattle.tp_store.proofs.Members.{In, in_left, in_right, in_append, kept_in, in_kept, NoClash-append, Apart}
use Rattle.tp_store.proofs.Separate.{value_apart, value_of_variable}
use Rattle.tp_store.proofs.Parts.{of_in, kind_in, kind_from}
use Rattle.tp_store.proofs.Same.{AgreeAt, clash-variable, same_addition}
use Rattle.tp_store.proofs.Values.{first_fact}
use Rattle.tp_store.proofs.Adding.{adds_to_none}

-- no fact of these is of that variable
pub others_none : (n : ℕ) (fs : List Fact) → AreOfOthers n fs → (f : Fact) → In f fs → f.path.var.number ≡ n → ⊥
others_none n [] h f i e = absurd i
others_none n (g ∷ fs) h f (inl q) e = h.0 (ap (λ (y : Fact). y.path.var.number) q ∙ e)
others_none n (g ∷ fs) h f (inr i) e = others_none n fs h.1 f i e

pub others_from : (n : ℕ) (fs : List Fact) → ((f : Fact) → In f fs → f.path.var.number ≡ n → ⊥) → AreOfOthers n fs
others_from n [] h = tt
others_from n (g ∷ fs) h = (h g (inl refl), others_from n fs (λ f i. h f (inr i)))

-- so it stays where facts of other variables come
pub others_grow : (n : ℕ) (old news new : List Fact) → NoClash new → HaveSameShapes new (old ++ news) → AreOfOthers n old → AreOfOthers n news → AreOfOthers n new
others_grow n old news new apart same h k =
    others_from n new (λ f i e. elim (in_append f old news (kept_in (old ++ news) f.path f.shape (sym (same f.path) ∙ in_kept new f apart i))) [
      | inl j ↦ others_none n old h f j e
      | inr j ↦ others_none n news k f j e
    ])

pub of_another : (x : VarId) (n : ℕ) (fs : List Fact) → AreOf x fs → x.number ≢ n → AreOfOthers n fs
of_another x n fs a d = others_from n fs (λ f i e. d (ap (λ (y : VarId). y.number) (sym (of_in x fs a f i)) ∙ e))

-- facts of two variables
other_numbers : (f g : Fact) → f.path.var.number ≢ g.path.var.number → Apart f g
other_numbers f g d = (
  false_from_ne_true (same_path g.path f.path) (λ t. d (ap (λ (p : Path). p.var.number) (sym ((same_path-decides g.path f.path).0 t)))),
  false_from_ne_true (clash g f) (λ t. d (ap (λ (x : VarId). x.number) (sym (clash-variable g f t)))),
)

abbrev pub variable_of : Bool → ℕ → VarId
variable_of b n = record { number = n; lasting = b }

-- a fact of one of the values
record OfAValue (b : Bool) (es : List (ℕ × Rc Value Global)) (f : Fact) : Type 0 where
  number : ℕ
  value : Rc Value Global
  found : lookup (nat_eq number) es ≡ Some value
  variable : f.path.var ≡ variable_of b number
  is_in : In f (facts_of_value (variable_of b number) (tree value.value))

in_values : (b : Bool) (es : List (ℕ × Rc Value Global)) (f : Fact) → AreOfDifferent es → In f (whole_facts b es) → OfAValue b es f
in_values b [] f d i = absurd i
in_values b (e ∷ es) f d i =
    let x = variable_of b e.0 in
    let first = facts_of_value x (tree e.1.value) in
    elim (in_append f first (whole_facts b es) i) [
      | inl j ↦ record {
        number = e.0;
        value = e.1;
        found = ap (λ c. cond c (Some e.1) (lookup (nat_eq e.0) es)) (eq-eqb e.0 e.0 refl);
        variable = of_in x first (value_of_variable (path_along x []) (tree e.1.value)) f j;
        is_in = j;
      }
      | inr j ↦ (let r = in_values b es f d.1 j in
          let other : nat_eq r.number e.0 ≡ false = false_from_ne_true (nat_eq r.number e.0) (λ t.
          let same : r.number ≡ e.0 = eqb-true r.number e.0 t in
          let both : Some r.value ≡ None = sym r.found ∙ ap (λ n. lookup (nat_eq n) es) same ∙ d.0 in
          cc both) in
          record { number = r.number; value = r.value; found = ap (λ c. cond c (Some e.1) (lookup (nat_eq r.number) es)) other ∙ r.found; variable = r.variable; is_in = r.is_in })
    ]

values_in : (b : Bool) (n : ℕ) (es : List (ℕ × Rc Value Global)) (v : Rc Value Global) → lookup (nat_eq n) es ≡ Some v
    → (f : Fact) → In f (facts_of_value (variable_of b n) (tree v.value)) → In f (whole_facts b es)
values_in b n [] v h f i = absurd (cc h)
values_in b n (e ∷ es) v h f i =
    let first = facts_of_value (variable_of b e.0) (tree e.1.value) in
    let P : Bool → Type 0 = λ c. nat_eq n e.0 ≡ c → cond c (Some e.1) (lookup (nat_eq n) es) ≡ Some v → In f (first ++ whole_facts b es) in
    let here : P true = λ t q.
    (let number : n ≡ e.0 = eqb-true n e.0 t in
    let value : v ≡ e.1 = sym (cc q) in
    let I : ℕ → Rc Value Global → Type 0 = λ k w. In f (facts_of_value (variable_of b k) (tree w.value)) in
    in_left f first (whole_facts b es) (subst (λ w. I e.0 w) value (subst (λ k. I k v) number i))) in
    let later : P false = λ t q. in_right f first (whole_facts b es) (values_in b n es v q f i) in
    let cases : P (nat_eq n e.0) = elim (nat_eq n e.0) as P [ true ↦ here | false ↦ later ] in
    cases refl h

-- the values' facts are of this kind, and don't clash
pub whole_kinds : (b : Bool) (es : List (ℕ × Rc Value Global)) → AreOfDifferent es → AreOfKind b (whole_facts b es)
whole_kinds b es d = kind_from b (whole_facts b es) (λ f i. ap (λ (x : VarId). x.lasting) (in_values b es f d i).variable)

wholes_apart : (b : Bool) (es : List (ℕ × Rc Value Global)) → AreOfDifferent es → NoClash (whole_facts b es)
wholes_apart b [] d = tt
wholes_apart b (e ∷ es) d =
    let x = variable_of b e.0 in
    let first = facts_of_value x (tree e.1.value) in
    NoClash-append first (whole_facts b es) (value_apart (path_along x []) (tree e.1.value)) (wholes_apart b es d.1) (λ f g i j.
    let r = in_values b es g d.1 j in
    other_numbers f g (λ q.
    let own : f.path.var.number ≡ e.0 = ap (λ (y : VarId). y.number) (of_in x first (value_of_variable (path_along x []) (tree e.1.value)) f i) in
    let number : r.number ≡ e.0 = sym (ap (λ (y : VarId). y.number) r.variable) ∙ sym q ∙ own in
    let both : Some r.value ≡ None = sym r.found ∙ ap (λ n. lookup (nat_eq n) es) number ∙ d.0 in
    absurd (cc both)))

-- what is found of a variable
found_kind : (b : Bool) (es : List (ℕ × Rc Value Global)) (x : VarId) (v : Rc Value Global) → whole_value b es x ≡ Some v → (x ≡ variable_of b x.number) × (lookup (nat_eq x.number) es ≡ Some v)
found_kind b es x v h =
    let P : Bool → Type 0 = λ c. same_truth x.lasting b ≡ c → (if c then lookup (nat_eq x.number) es else None) ≡ Some v → (x ≡ variable_of b x.number) × (lookup (nat_eq x.number) es ≡ Some v) in
    let yes_ : P true = λ t q. (ap (λ k. variable_of k x.number) ((same_truth-decides x.lasting b).0 t), q) in
    let no_ : P false = λ t q. absurd (cc q) in
    let cases : P (same_truth x.lasting b) = elim (same_truth x.lasting b) as P [ true ↦ yes_ | false ↦ no_ ] in
    cases refl h

pub none_found : (b : Bool) (es : List (ℕ × Rc Value Global)) (x : VarId) → whole_value b es x ≡ None → x.lasting ≡ b → lookup (nat_eq x.number) es ≡ None
none_found b es x h k = sym (ap (λ c. if c then lookup (nat_eq x.number) es else None) ((same_truth-decides x.lasting b).1 k)) ∙ h

module _ (b : Bool) (es : List (ℕ × Rc Value Global)) (parts : List Fact) (h : AreWholes es parts) where
  abbrev all : List Fact
  all = parts ++ whole_facts b es

  -- a variable with such a value has its facts alone
  pub agree_whole : (x : VarId) (v : Rc Value Global) → whole_value b es x ≡ Some v → AgreeAt x all (facts_of_value x (tree v.value))
  agree_whole x v e =
      let r = found_kind b es x v e in
      let F : VarId → Fact → Type 0 = λ y f. In f (facts_of_value y (tree v.value)) in
      record {
        there = λ f q i.
            elim (in_append f parts (whole_facts b es) i) [
              | inl j ↦ absurd (others_none x.number parts (h.apart x.number v r.1) f j (ap (λ (y : VarId). y.number) q))
              | inr j ↦ (let o = in_values b es f h.different j in
                  let number : o.number ≡ x.number = sym (ap (λ (y : VarId). y.number) o.variable) ∙ ap (λ (y : VarId). y.number) q in
                  let values : Some o.value ≡ Some v = sym o.found ∙ ap (λ n. lookup (nat_eq n) es) number ∙ r.1 in
                  let value : o.value ≡ v = cc values in
                  let there : In f (facts_of_value (variable_of b x.number) (tree o.value.value)) = subst (λ n. In f (facts_of_value (variable_of b n) (tree o.value.value))) number o.is_in in
                  subst (λ y. F y f) (sym r.0) (subst (λ (w : Rc Value Global). In f (facts_of_value (variable_of b x.number) (tree w.value))) value there))
            ];
        back = λ f q i. in_right f parts (whole_facts b es) (values_in b x.number es v r.1 f (subst (λ y. F y f) r.0 i));
      }

  -- no fact of the values is of any other one
  pub none_of_values : (x : VarId) → whole_value b es x ≡ None → (f : Fact) → In f (whole_facts b es) → f.path.var ≡ x → ⊥
  none_of_values x e f j q =
      let o = in_values b es f h.different j in
      let variable : x ≡ variable_of b o.number = sym q ∙ o.variable in
      let none = none_found b es x e (ap (λ (y : VarId). y.lasting) variable) in
      let both : Some o.value ≡ None = sym o.found ∙ ap (λ n. lookup (nat_eq n) es) (sym (ap (λ (y : VarId). y.number) variable)) ∙ none in
      cc both

  -- and it has those beside alone
  pub agree_parts : (x : VarId) → whole_value b es x ≡ None → AgreeAt x all parts
  agree_parts x e = record {
    there = λ f q i. elim (in_append f parts (whole_facts b es) i) [ inl j ↦ j | inr j ↦ absurd (none_of_values x e f j q) ];
    back = λ f q i. in_left f parts (whole_facts b es) i;
  }

  pub all_apart : NoClash parts → NoClash all
  all_apart n = NoClash-append parts (whole_facts b es) n (wholes_apart b es h.different) (λ f g i j.
      let o = in_values b es g h.different j in
      other_numbers f g (λ q. absurd (others_none o.number parts (h.apart o.number o.value o.found) f i (q ∙ ap (λ (y : VarId). y.number) o.variable))))

  pub all_kinds : AreOfKind b parts → AreOfKind b all
  all_kinds k = kind_from b all (λ f i. elim (in_append f parts (whole_facts b es) i) [
    | inl j ↦ kind_in b parts k f j
    | inr j ↦ kind_in b (whole_facts b es) (whole_kinds b es h.different) f j
  ])

  -- of a variable that is found in neither there is no fact
  pub others_all : (n : ℕ) → lookup (nat_eq n) es ≡ None → AreOfOthers n parts → AreOfOthers n all
  others_all n none o = others_from n all (λ f i e. elim (in_append f parts (whole_facts b es) i) [
    | inl j ↦ others_none n parts o f j e
    | inr j ↦ (let w = in_values b es f h.different j in
        let number : w.number ≡ n = sym (ap (λ (y : VarId). y.number) w.variable) ∙ e in
        let both : Some w.value ≡ None = sym w.found ∙ ap (λ k. lookup (nat_eq k) es) number ∙ none in
        cc both)
  ])

  -- a value that is found may be read
  pub whole_limit : (x : VarId) (v : Rc Value Global) → whole_value b es x ≡ Some v → is_within_list_limit (tree v.value) ≡ true
  whole_limit x v e = h.limit x.number v (found_kind b es x v e).1

-- one more value, of a variable that is found in neither
lookup_last : (k n : ℕ) (es : List (ℕ × Rc Value Global)) (v : Rc Value Global) → lookup (nat_eq k) es ≡ None → lookup (nat_eq k) (es ++ (n, v) ∷ []) ≡ (if nat_eq k n then Some v else None)
lookup_last k n [] v h = refl
lookup_last k n (e ∷ es) v h =
    let P : Bool → Type 0 = λ c. cond c (Some e.1) (lookup (nat_eq k) es) ≡ None → cond c (Some e.1) (lookup (nat_eq k) (es ++ (n, v) ∷ [])) ≡ (if nat_eq k n then Some v else None) in
    (elim (nat_eq k e.0) as P [ true ↦ λ q. absurd (cc q) | false ↦ λ q. lookup_last k n es v q ]) h

lookup_first : (k n : ℕ) (es : List (ℕ × Rc Value Global)) (v w : Rc Value Global) → lookup (nat_eq k) es ≡ Some w → lookup (nat_eq k) (es ++ (n, v) ∷ []) ≡ Some w
lookup_first k n [] v w h = absurd (cc h)
lookup_first k n (e ∷ es) v w h =
    let P : Bool → Type 0 = λ c. cond c (Some e.1) (lookup (nat_eq k) es) ≡ Some w → cond c (Some e.1) (lookup (nat_eq k) (es ++ (n, v) ∷ [])) ≡ Some w in
    (elim (nat_eq k e.0) as P [ true ↦ λ q. q | false ↦ λ q. lookup_first k n es v w q ]) h

different_more : (n : ℕ) (es : List (ℕ × Rc Value Global)) (v : Rc Value Global) → lookup (nat_eq n) es ≡ None → AreOfDifferent es → AreOfDifferent (es ++ (n, v) ∷ [])
different_more n [] v h d = (refl, tt)
different_more n (e ∷ es) v h d =
    let P : Bool → Type 0 = λ c. nat_eq n e.0 ≡ c → cond c (Some e.1) (lookup (nat_eq n) es) ≡ None → (nat_eq e.0 n ≡ false) × (lookup (nat_eq n) es ≡ None) in
    let no_ : P true = λ t q. absurd (cc q) in
    let yes_ : P false = λ t q. (ne_eqb e.0 n (λ r. both_ways (nat_eq n e.0) t (eq-eqb n e.0 (sym r))), q) in
    let cases : P (nat_eq n e.0) = elim (nat_eq n e.0) as P [ true ↦ no_ | false ↦ yes_ ] in
    let r = cases refl h in
    (lookup_last e.0 n es v d.0 ∙ ap (λ c. if c then Some v else None) r.0, different_more n es v r.1 d.1)

pub facts_more : (b : Bool) (n : ℕ) (es : List (ℕ × Rc Value Global)) (v : Rc Value Global) → whole_facts b (es ++ (n, v) ∷ []) ≡ whole_facts b es ++ facts_of_value (variable_of b n) (tree v.value)
facts_more b n [] v = append-nil (facts_of_value (variable_of b n) (tree v.value))
facts_more b n (e ∷ es) v =
    let first = facts_of_value (variable_of b e.0) (tree e.1.value) in
    ap (λ fs. first ++ fs) (facts_more b n es v) ∙ sym (append_assoc first (whole_facts b es) (facts_of_value (variable_of b n) (tree v.value)))

-- what is found there is found already, or is the new one
data FoundThere (n : ℕ) (es : List (ℕ × Rc Value Global)) (v : Rc Value Global) (k : ℕ) (w : Rc Value Global) : Type 0 where
  earlier : lookup (nat_eq k) es ≡ Some w → FoundThere n es v k w
  last : k ≡ n → v ≡ w → FoundThere n es v k w

found_there : (n : ℕ) (es : List (ℕ × Rc Value Global)) (v : Rc Value Global) (k : ℕ) (w : Rc Value Global) → lookup (nat_eq k) (es ++ (n, v) ∷ []) ≡ Some w → FoundThere n es v k w
found_there n es v k w h = by (lookup (nat_eq k) es) refl
  where
    there : (c : Bool) → nat_eq k n ≡ c → (if c then Some v else None) ≡ Some w → FoundThere n es v k w
    there true t q = last (eqb-true k n t) (cc q)
    there false t q = absurd (cc q)

    by : (o : Option (Rc Value Global)) → lookup (nat_eq k) es ≡ o → FoundThere n es v k w
    by (Some u) e = earlier (e ∙ sym (lookup_first k n es v u e) ∙ h)
    by None e = there (nat_eq k n) refl (sym (lookup_last k n es v e) ∙ h)

pub wholes_more : (n : ℕ) (es : List (ℕ × Rc Value Global)) (v : Rc Value Global) (parts : List Fact) → lookup (nat_eq n) es ≡ None → AreOfOthers n parts → is_within_list_limit (tree v.value) ≡ true
    → AreWholes es parts → AreWholes (es ++ (n, v) ∷ []) parts
wholes_more n es v parts none others limit h = record {
  different = different_more n es v none h.different;
  apart = λ k w e. apart_of k w (found_there n es v k w e);
  limit = λ k w e. limit_of k w (found_there n es v k w e);
}
  where
    apart_of : (k : ℕ) (w : Rc Value Global) → FoundThere n es v k w → AreOfOthers k parts
    apart_of k w (earlier e) = h.apart k w e
    apart_of k w (last e q) = subst (λ j. AreOfOthers j parts) (sym e) others

    limit_of : (k : ℕ) (w : Rc Value Global) → FoundThere n es v k w → is_within_list_limit (tree w.value) ≡ true
    limit_of k w (earlier e) = h.limit k w e
    limit_of k w (last e q) = ap (λ (u : Rc Value Global). is_within_list_limit (tree u.value)) (sym q) ∙ limit

-- other facts may come beside the values
pub wholes_beside : (es : List (ℕ × Rc Value Global)) (old news new : List Fact) → NoClash new → HaveSameShapes new (old ++ news)
    → ((n : ℕ) (v : Rc Value Global) → lookup (nat_eq n) es ≡ Some v → AreOfOthers n news) → AreWholes es old → AreWholes es new
wholes_beside es old news new apart same others h = record {
  different = h.different;
  apart = λ n v e. others_grow n old news new apart same (h.apart n v e) (others n v e);
  limit = h.limit;
}

-- none of a variable that is found in neither
pub left_others : (n : ℕ) (xs ys : List Fact) → AreOfOthers n (xs ++ ys) → AreOfOthers n xs
left_others n xs ys h = others_from n xs (λ f i e. others_none n (xs ++ ys) h f (in_left f xs ys i) e)

-- where a variable has a value, some fact is of it
pub not_free : (b : Bool) (es : List (ℕ × Rc Value Global)) (parts : List Fact) (n : ℕ) (v : Rc Value Global) → lookup (nat_eq n) es ≡ Some v → AreOfOthers n (parts ++ whole_facts b es) → ⊥
not_free b es parts n v e h =
    let x = variable_of b n in
    let f = first_fact (path_along x []) (tree v.value) in
    others_none n (parts ++ whole_facts b es) h (fact (path_along x []) f.0) (in_right (fact (path_along x []) f.0) parts (whole_facts b es) (values_in b n es v e (fact (path_along x []) f.0) f.1)) refl

-- the values from one on
whole_next : (b : Bool) (es : List (ℕ × Rc Value Global)) (i n : ℕ) (v : Rc Value Global) → slice_get es i ≡ Some (n, v) → whole_facts b (drop i es) ≡ facts_of_value (variable_of b n) (tree v.value) ++ whole_facts b (drop (i + 1) es)
whole_next b [] i n v h = absurd (cc h)
whole_next b (e ∷ es) zero n v h =
    let same : e ≡ (n, v) = cc h in
    ap (λ (k : ℕ × Rc Value Global). facts_of_value (variable_of b k.0) (tree k.1.value) ++ whole_facts b es) same
whole_next b (e ∷ es) (suc i) n v h =
    let past : suc (i + 1) ≡ suc i + 1 = omega arith in
    whole_next b es i n v h ∙ ap (λ k. facts_of_value (variable_of b n) (tree v.value) ++ whole_facts b (drop k (e ∷ es))) past

asked_all : (which : AskedVariables) (x : VarId) (fs : List Fact) → AreOf x fs → is_among which x.number ≡ true → facts_asked which fs ≡ fs
asked_all which x [] a h = refl
asked_all which x (f ∷ fs) a h =
    let here : is_among which f.path.var.number ≡ true = ap (λ (y : VarId). is_among which y.number) a.0 ∙ h in
    ap (λ c. cond c (f ∷ facts_asked which fs) (facts_asked which fs)) here ∙ ap (λ gs. f ∷ gs) (asked_all which x fs a.1 h)

asked_none : (which : AskedVariables) (x : VarId) (fs : List Fact) → AreOf x fs → is_among which x.number ≡ false → facts_asked which fs ≡ []
asked_none which x [] a h = refl
asked_none which x (f ∷ fs) a h =
    let here : is_among which f.path.var.number ≡ false = ap (λ (y : VarId). is_among which y.number) a.0 ∙ h in
    ap (λ c. cond c (f ∷ facts_asked which fs) (facts_asked which fs)) here ∙ asked_none which x fs a.1 h

asked_append : (which : AskedVariables) (xs ys : List Fact) → facts_asked which (xs ++ ys) ≡ facts_asked which xs ++ facts_asked which ys
asked_append which xs ys = filter-append (λ (f : Fact). is_among which f.path.var.number) xs ys

pub next_asked : (which : AskedVariables) (b : Bool) (es : List (ℕ × Rc Value Global)) (i n : ℕ) (v : Rc Value Global) → slice_get es i ≡ Some (n, v) → is_among which n ≡ true
    → facts_asked which (whole_facts b (drop i es)) ≡ facts_of_value (variable_of b n) (tree v.value) ++ facts_asked which (whole_facts b (drop (i + 1) es))
next_asked which b es i n v h t =
    let x = variable_of b n in
    ap (facts_asked which) (whole_next b es i n v h) ∙ asked_append which (facts_of_value x (tree v.value)) (whole_facts b (drop (i + 1) es))
    ∙ ap (λ fs. fs ++ facts_asked which (whole_facts b (drop (i + 1) es))) (asked_all which x (facts_of_value x (tree v.value)) (value_of_variable (path_along x []) (tree v.value)) t)

pub next_not_asked : (which : AskedVariables) (b : Bool) (es : List (ℕ × Rc Value Global)) (i n : ℕ) (v : Rc Value Global) → slice_get es i ≡ Some (n, v) → is_among which n ≡ false
    → facts_asked which (whole_facts b (drop i es)) ≡ facts_asked which (whole_facts b (drop (i + 1) es))
next_not_asked which b es i n v h t =
    let x = variable_of b n in
    ap (facts_asked which) (whole_next b es i n v h) ∙ asked_append which (facts_of_value x (tree v.value)) (whole_facts b (drop (i + 1) es))
    ∙ ap (λ fs. fs ++ facts_asked which (whole_facts b (drop (i + 1) es))) (asked_none which x (facts_of_value x (tree v.value)) (value_of_variable (path_along x []) (tree v.value)) t)

pub none_next : (which : AskedVariables) (b : Bool) (es : List (ℕ × Rc Value Global)) (i : ℕ) → i < length es → slice_get es i ≡ None
    → facts_asked which (whole_facts b (drop i es)) ≡ facts_asked which (whole_facts b (drop (i + 1) es))
none_next which b [] i l h = absurd (omega (arith, l))
none_next which b (e ∷ es) zero l h = absurd (cc h)
none_next which b (e ∷ es) (suc i) l h =
    let past : suc (i + 1) ≡ suc i + 1 = omega arith in
    none_next which b es i (omega (arith, l)) h ∙ ap (λ k. facts_asked which (whole_facts b (drop k (e ∷ es)))) past

none_left : (es : List (ℕ × Rc Value Global)) (i : ℕ) → length es ≤ i → drop i es ≡ []
none_left [] zero h = refl
none_left [] (suc i) h = refl
none_left (e ∷ es) zero h = absurd (omega (arith, h))
none_left (e ∷ es) (suc i) h = none_left es i (omega (arith, h))

pub all_asked : (which : AskedVariables) (b : Bool) (es : List (ℕ × Rc Value Global)) (i : ℕ) (out all : List Fact) → length es ≤ i → out ++ facts_asked which (whole_facts b (drop i es)) ≡ all → out ≡ all
all_asked which b es i out all h e = sym (append-nil out) ∙ sym (ap (λ xs. out ++ facts_asked which (whole_facts b xs)) (none_left es i h)) ∙ e

pub both_others : (n : ℕ) (xs ys : List Fact) → AreOfOthers n xs → AreOfOthers n ys → AreOfOthers n (xs ++ ys)
both_others n xs ys h k = others_from n (xs ++ ys) (λ f i e. elim (in_append f xs ys i) [ inl j ↦ others_none n xs h f j e | inr j ↦ others_none n ys k f j e ])

pub right_others : (n : ℕ) (xs ys : List Fact) → AreOfOthers n (xs ++ ys) → AreOfOthers n ys
right_others n xs ys h = others_from n ys (λ f i e. others_none n (xs ++ ys) h f (in_right f xs ys i) e)

-- all facts of a variable are new where there is none of it
pub adds_to_others : (fs facts : List Fact) (x : VarId) → NoClash fs → AreOf x facts → AreOfOthers x.number fs → addition fs facts ≡ adds facts
adds_to_others fs facts x n a o =
    same_addition fs [] facts n tt (λ f i. record {
      there = λ g e j. absurd (others_none x.number fs o g j (ap (λ (y : VarId). y.number) (e ∙ of_in x facts a f i)));
      back = λ g e j. absurd j;
    }) ∙ adds_to_none facts
