-- What is seen from outside of whole values and the facts beside them.
use Rattle.std.proofs.Common.{◌≡◌, ◌≢◌, ◌⊎◌, inl, inr, ℕ, nat_eq, nat_lt, Bool, true, List, [], ◌∷◌, ◌++◌, Option, Some, None, refl, ap, ap₂, sym, ◌∙◌, subst, append_assoc}
use Rattle.std.specs.Map.{lookup}
use Rattle.std.proofs.lemmas.Bool.{false_from_ne_true}
use Rattle.std.specs.declared.rc.Rc.{Rc}
use Rattle.std.specs.declared.alloc.Global.{Global}
use Rattle.tp_value.specs.Limits.{is_within_list_limit}
use Rattle.tp_value.specs.Shape.{shape_at_path}
use Rattle.tp_value.specs.Read.{tree}
use Rattle.tp_value.specs.declared.value.Value.{Value}
use Rattle.tp_value.specs.declared.value.Shape.{Shape}
use Rattle.tp_value.specs.declared.path.VarId.{VarId}
use Rattle.tp_value.specs.declared.path.Path.{Path}
use Rattle.tp_value.specs.declared.path.Fact.{Fact}
use Rattle.tp_store.specs.Facts.{same_path, kept_shape, is_excluded, fact}
use Rattle.tp_store.specs.Known.{NoClash, addition, adds, facts_below, first_clash, full, is_none}
use Rattle.tp_store.specs.Changes.{HaveSameShapes, HasAppended}
use Rattle.tp_store.specs.FactMap.{AreOf, AreOfKind, FactsOfKind, IsNewFact}
use Rattle.tp_store.specs.Nodes.{path_along}
use Rattle.tp_store.specs.Answers.{IsNoted}
use Rattle.tp_store.specs.Wholes.{facts_of_value, whole_facts, whole_value, AreOfOthers, AreWholes, full_inside}
use Rattle.tp_store.specs.declared.note.Noted.{Noted}
use Rattle.tp_store.specs.declared.note.Noted.TheVariants.{New, Kept}
use Rattle.tp_store.specs.declared.note.Noted.TheVariants as noted
use Rattle.tp_store.proofs.Members.{kept_none, NoClash-filter}
use Rattle.tp_store.proofs.Joined.{all_appended, below_appended}
use Rattle.tp_store.proofs.FactMapLemmas.{later_apart}
use Rattle.tp_store.proofs.Paths.{same_path-decides}
use Rattle.tp_store.proofs.Parts.{of_in, shapes_swap}
use Rattle.tp_store.proofs.Same.{AgreeAt, same_kept, same_excluded, same_full, same_first, same_addition}
use Rattle.tp_store.proofs.Separate.{value_apart}
use Rattle.tp_store.proofs.WholeValues.{agree_whole, agree_parts, all_apart, all_kinds, none_of_values, of_another, none_found, wholes_beside, wholes_more, left_others, not_free, facts_more, variable_of, whole_limit}
use Rattle.tp_store.proofs.WholeLooks.{kept_whole, excluded_whole, other_clashes, no_news, value_full}

-- what holds of a portion
abbrev pub IsPortion : Bool → FactsOfKind → List (ℕ × Rc Value Global) → Type 0
IsPortion b m es = (m.lasting ≡ b) × NoClash m.facts × AreOfKind b m.facts × AreWholes es m.facts

abbrev pub seen : Bool → FactsOfKind → List (ℕ × Rc Value Global) → FactsOfKind
seen b m es = record { lasting = b; facts = m.facts ++ whole_facts b es; spare = m.spare; placed = m.placed }

module _ (b : Bool) (m : FactsOfKind) (es : List (ℕ × Rc Value Global)) (v : FactsOfKind) (e : seen b m es ≡ v) (h : IsPortion b m es) where
  abbrev all : List Fact
  all = m.facts ++ whole_facts b es

  facts_seen : all ≡ v.facts
  facts_seen = ap (λ (o : FactsOfKind). o.facts) e

  pub seen_apart : NoClash v.facts
  seen_apart = subst (λ fs. NoClash fs) facts_seen (all_apart b es m.facts h.3 h.1)

  pub seen_kinds : AreOfKind v.lasting v.facts
  seen_kinds = let P : FactsOfKind → Type 0 = λ o. AreOfKind o.lasting o.facts in subst P e (all_kinds b es m.facts h.3 h.2)

  -- the facts of the variables with lesser numbers
  pub seen_appended : (below : ℕ) (old mid new : List Fact) → HasAppended (facts_below below m.facts) old mid → new ≡ mid ++ facts_below below (whole_facts b es) → HasAppended (facts_below below v.facts) old new
  seen_appended below old mid new g q =
      let apart = later_apart m.facts (whole_facts b es) (subst (λ fs. NoClash fs) (sym facts_seen) seen_apart) in
      below_appended below m.facts (whole_facts b es) v.facts old mid new seen_apart facts_seen g
      (all_appended (facts_below below (whole_facts b es)) mid new (NoClash-filter (λ (f : Fact). nat_lt f.path.var.number below) (whole_facts b es) apart) q)

  -- of a variable without such a value
  module _ (x : VarId) (none : whole_value b es x ≡ None) where
    beside : AgreeAt x v.facts m.facts
    beside = subst (λ fs. AgreeAt x fs m.facts) facts_seen (agree_parts b es m.facts h.3 x none)

    pub kept_beside : (at : List ℕ) → kept_shape m.facts (path_along x at) ≡ kept_shape v.facts (path_along x at)
    kept_beside at = sym (same_kept v.facts m.facts (path_along x at) h.1 beside)

    pub excluded_beside : (at : List ℕ) → is_excluded m.facts (path_along x at) ≡ is_excluded v.facts (path_along x at)
    excluded_beside at = sym (same_excluded v.facts m.facts (path_along x at) beside)

    pub full_beside : (at : List ℕ) → full m.facts (path_along x at) ≡ full v.facts (path_along x at)
    full_beside at = sym (same_full v.facts m.facts (path_along x at) h.1 beside)

    pub first_beside : (f : Fact) → f.path.var ≡ x → first_clash m.facts f ≡ first_clash v.facts f
    first_beside f q = sym (same_first v.facts m.facts f seen_apart (subst (λ y. AgreeAt y v.facts m.facts) (sym q) beside))

    pub noted_beside : (at : List ℕ) (sh : Shape) (r : Noted) → IsNoted m.facts (fact (path_along x at) sh) r → IsNoted v.facts (fact (path_along x at) sh) r
    noted_beside at sh New is = record { none = sym (kept_beside at) ∙ is.none; apart = sym (first_beside (fact (path_along x at) sh) refl) ∙ is.apart }
    noted_beside at sh Kept is = sym (kept_beside at) ∙ is
    noted_beside at sh noted.Clash is = (is.0, sym (first_beside (fact (path_along x at) sh) refl) ∙ is.1)

    pub addition_beside : (fs : List Fact) → AreOf x fs → addition m.facts fs ≡ addition v.facts fs
    addition_beside fs a = sym (same_addition v.facts m.facts fs seen_apart h.1 (λ f i. subst (λ y. AgreeAt y v.facts m.facts) (sym (of_in x fs a f i)) beside))

  -- a value that is found may be read
  pub found_limit : (x : VarId) (w : Rc Value Global) → whole_value b es x ≡ Some w → (u : Value) → u ≡ w.value → is_within_list_limit (tree u) ≡ true
  found_limit x w found u q = ap (λ y. is_within_list_limit (tree y)) q ∙ whole_limit b es m.facts h.3 x w found

  -- and of one with such a value
  module _ (x : VarId) (w : Rc Value Global) (found : whole_value b es x ≡ Some w) where
    alone : AgreeAt x v.facts (facts_of_value x (tree w.value))
    alone = subst (λ fs. AgreeAt x fs (facts_of_value x (tree w.value))) facts_seen (agree_whole b es m.facts h.3 x w found)

    pub kept_alone : (at : List ℕ) → shape_at_path at (tree w.value) ≡ kept_shape v.facts (path_along x at)
    kept_alone at = sym (kept_whole v.facts x (tree w.value) seen_apart alone at)

    pub excluded_alone : (at : List ℕ) → is_none (shape_at_path at (tree w.value)) ≡ is_excluded v.facts (path_along x at)
    excluded_alone at = sym (excluded_whole v.facts x (tree w.value) seen_apart alone at)

    pub full_alone : (at : List ℕ) → full_inside (tree w.value) at ≡ full v.facts (path_along x at)
    full_alone at = sym (same_full v.facts (facts_of_value x (tree w.value)) (path_along x at) (value_apart (path_along x []) (tree w.value)) alone ∙ value_full x (tree w.value) at)

    pub kept_noted : (at : List ℕ) (sh : Shape) → shape_at_path at (tree w.value) ≡ Some sh → IsNoted v.facts (fact (path_along x at) sh) Kept
    kept_noted at sh q = sym (kept_alone at) ∙ q

    pub clash_noted : (at : List ℕ) (sh : Shape) → shape_at_path at (tree w.value) ≢ Some sh → IsNoted v.facts (fact (path_along x at) sh) noted.Clash
    clash_noted at sh d = other_clashes v.facts x (tree w.value) seen_apart alone at sh d

    pub first_alone : (f : Fact) → f.path.var ≡ x → first_clash (facts_of_value x (tree w.value)) f ≡ first_clash v.facts f
    first_alone f q = sym (same_first v.facts (facts_of_value x (tree w.value)) f seen_apart (subst (λ y. AgreeAt y v.facts (facts_of_value x (tree w.value))) (sym q) alone))

    pub none_new : (fs news : List Fact) → AreOf x fs → addition v.facts fs ≡ adds news → news ≡ []
    none_new fs news a q = no_news v.facts x (tree w.value) seen_apart alone fs news a q

  -- a fact that is new is of a variable without such a value
  pub new_beside : (f : Fact) → IsNewFact v.facts f → whole_value b es f.path.var ≡ None
  new_beside f new = by (whole_value b es f.path.var) refl
    where
      of_shape : (w : Rc Value Global) → whole_value b es f.path.var ≡ Some w → (o : Option Shape) → shape_at_path f.path.at (tree w.value) ≡ o → ⊥
      of_shape w found None e =
          let r = clash_noted f.path.var w found f.path.at f.shape (λ q. let z : None ≡ Some f.shape = sym e ∙ q in cc z) in
          let z : Some r.0 ≡ None = sym r.1 ∙ new.apart in
          cc z
      of_shape w found (Some sh) e = let z : Some sh ≡ None = sym e ∙ kept_alone f.path.var w found f.path.at ∙ new.none in cc z

      by : (o : Option (Rc Value Global)) → whole_value b es f.path.var ≡ o → o ≡ None
      by None e = refl
      by (Some w) e = absurd (of_shape w e (shape_at_path f.path.at (tree w.value)) refl)

  pub new_in_parts : (f : Fact) → IsNewFact v.facts f → IsNewFact m.facts f
  new_in_parts f new =
      let none = new_beside f new in
      record { none = kept_beside f.path.var none f.path.at ∙ new.none; apart = first_beside f.path.var none f refl ∙ new.apart }

  -- facts of a variable without such a value come to those beside
  module _ (x : VarId) (none : whole_value b es x ≡ None) (kind : x.lasting ≡ v.lasting) (news : List Fact) (of : AreOf x news) where
    not_of_values : (n : ℕ) (w : Rc Value Global) → lookup (nat_eq n) es ≡ Some w → AreOfOthers n news
    not_of_values n w found =
        let nothing = none_found b es x none (kind ∙ ap (λ (o : FactsOfKind). o.lasting) (sym e)) in
        of_another x n news of (λ q. let z : Some w ≡ None = sym found ∙ ap (λ k. lookup (nat_eq k) es) (sym q) ∙ nothing in absurd (cc z))

    -- at each path one of both has nothing
    either_none : (p : Path) → (kept_shape news p ≡ None) ⊎ (kept_shape (whole_facts b es) p ≡ None)
    either_none p = by (whole_value b es p.var) refl
      where
        by : (o : Option (Rc Value Global)) → whole_value b es p.var ≡ o → (kept_shape news p ≡ None) ⊎ (kept_shape (whole_facts b es) p ≡ None)
        by None q = inr (kept_none (whole_facts b es) p (λ g i. false_from_ne_true (same_path g.path p) (λ t.
            none_of_values b es m.facts h.3 p.var q g i (ap (λ (r : Path). r.var) ((same_path-decides g.path p).0 t)))))
        by (Some w) q = inl (kept_none news p (λ g i. false_from_ne_true (same_path g.path p) (λ t.
            let is_x : p.var ≡ x = ap (λ (r : Path). r.var) (sym ((same_path-decides g.path p).0 t)) ∙ of_in x news of g i in
            let z : Some w ≡ None = sym q ∙ ap (whole_value b es) is_x ∙ none in
            absurd (cc z))))

    module _ (o : FactsOfKind) (apart : NoClash o.facts) (same : HaveSameShapes o.facts (m.facts ++ news)) where
      pub grown_wholes : AreWholes es o.facts
      grown_wholes = wholes_beside es m.facts news o.facts apart same not_of_values h.3

      pub grown_shapes : HaveSameShapes (o.facts ++ whole_facts b es) (v.facts ++ news)
      grown_shapes p = shapes_swap o.facts m.facts news (whole_facts b es) p same (either_none p) ∙ ap (λ fs. kept_shape (fs ++ news) p) facts_seen

  -- a value comes to a variable of which nothing is known
  pub given_free : (n : ℕ) → AreOfOthers n v.facts → lookup (nat_eq n) es ≡ None
  given_free n free = by (lookup (nat_eq n) es) refl
    where
      by : (o : Option (Rc Value Global)) → lookup (nat_eq n) es ≡ o → o ≡ None
      by None q = refl
      by (Some w) q = absurd (not_free b es m.facts n w q (subst (λ fs. AreOfOthers n fs) (sym facts_seen) free))

  pub given_wholes : (n : ℕ) (w : Rc Value Global) → AreOfOthers n v.facts → is_within_list_limit (tree w.value) ≡ true → AreWholes (es ++ (n, w) ∷ []) m.facts
  given_wholes n w free limit =
      wholes_more n es w m.facts (given_free n free) (left_others n m.facts (whole_facts b es) (subst (λ fs. AreOfOthers n fs) (sym facts_seen) free)) limit h.3

  pub given_facts : (x : VarId) (w : Rc Value Global) → x.lasting ≡ v.lasting → m.facts ++ whole_facts b (es ++ (x.number, w) ∷ []) ≡ v.facts ++ facts_of_value x (tree w.value)
  given_facts x w kind =
      let is_x : variable_of b x.number ≡ x = ap (λ k. variable_of k x.number) (sym (kind ∙ ap (λ (o : FactsOfKind). o.lasting) (sym e))) in
      ap (λ fs. m.facts ++ fs) (facts_more b x.number es w) ∙ sym (append_assoc m.facts (whole_facts b es) (facts_of_value (variable_of b x.number) (tree w.value)))
      ∙ ap₂ (λ fs y. fs ++ facts_of_value y (tree w.value)) facts_seen is_x
