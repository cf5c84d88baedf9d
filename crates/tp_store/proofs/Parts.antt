-- The facts of a store: those of its state variables and those of its static ones.
use Rattle.std.proofs.Common.{◌≡◌, ◌⊎◌, ◌+◌, ◌≤◌, ◌<◌, inl, inr, ℕ, zero, suc, length, arith, Bool, true, false, cond, List, [], ◌∷◌, ◌++◌, map, Option, Some, None, slice_get, get_or, refl, ap, ap₂, sym, ◌∙◌, subst}
use Rattle.std.proofs.lemmas.Bool.{false_from_ne_true}
use Rattle.std.proofs.lemmas.List.{map-append, length-append, length-map}
use Rattle.std.proofs.lemmas.List.Elements.{filter-append}
use Rattle.std.proofs.lemmas.Option.{slice_get_within}
use Rattle.tp_value.specs.declared.value.Shape.{Shape}
use Rattle.tp_value.specs.declared.path.VarId.{VarId}
use Rattle.tp_value.specs.declared.path.Path.{Path}
use Rattle.tp_value.specs.declared.path.Fact.{Fact}
use Rattle.tp_store.specs.Facts.{same_path, clash, kept_shape, is_excluded, fact}
use Rattle.tp_store.specs.Known.{Contents, NoClash, Variable, IsVariableOf, AreOfVariables, lasting_facts, facts_below, full, addition, adds, first_clash, new_store, global_variable}
use Rattle.tp_store.specs.Entries.{variable_in, variables_in, contents_of, part_by_kind, IsPart, AreParts, TakesFact}
use Rattle.tp_store.specs.FactMap.{AreOf, AreOfKind, FactsOfKind}
use Rattle.tp_store.specs.Nodes.{ArePlaced}
use Rattle.tp_store.specs.declared.entry.Entry.{Entry}
use Rattle.tp_store.specs.declared.note.Noted.{Noted}
use Rattle.tp_store.specs.declared.note.Noted.TheVariants.{New, Kept}
use Rattle.tp_store.specs.declared.note.Noted.TheVariants as noted
use Rattle.tp_store.specs.Answers.{IsNoted, IfNew, UnlessNew}
use Rattle.tp_store.specs.Changes.{IsSoundStore, HaveSameShapes, AddsFacts, HasAppended}
use Rattle.tp_store.proofs.Paths.{same_path-decides}
use Rattle.tp_store.proofs.Members.{In, in_left, in_right, in_append, kept_in, in_kept, kept_none, NoClash-append, Apart}
use Rattle.tp_store.proofs.Joined.{or_else, kept_shape-append, below_appended}
use Rattle.tp_store.proofs.Adding.{adds_all, new_added, news_given}
use Rattle.tp_store.proofs.Same.{AgreeAt, same_kept, same_excluded, same_full, same_first, same_addition, clash-variable}

pub of_in : (x : VarId) (fs : List Fact) → AreOf x fs → (f : Fact) → In f fs → f.path.var ≡ x
of_in x [] h f i = absurd i
of_in x (g ∷ fs) h f (inl e) = ap (λ (y : Fact). y.path.var) (sym e) ∙ h.0
of_in x (g ∷ fs) h f (inr i) = of_in x fs h.1 f i

pub of_from : (x : VarId) (fs : List Fact) → ((f : Fact) → In f fs → f.path.var ≡ x) → AreOf x fs
of_from x [] h = tt
of_from x (g ∷ fs) h = (h g (inl refl), of_from x fs (λ f i. h f (inr i)))

pub kind_in : (b : Bool) (fs : List Fact) → AreOfKind b fs → (f : Fact) → In f fs → f.path.var.lasting ≡ b
kind_in b [] h f i = absurd i
kind_in b (g ∷ fs) h f (inl e) = ap (λ (y : Fact). y.path.var.lasting) (sym e) ∙ h.0
kind_in b (g ∷ fs) h f (inr i) = kind_in b fs h.1 f i

pub kind_from : (b : Bool) (fs : List Fact) → ((f : Fact) → In f fs → f.path.var.lasting ≡ b) → AreOfKind b fs
kind_from b [] h = tt
kind_from b (g ∷ fs) h = (h g (inl refl), kind_from b fs (λ f i. h f (inr i)))

pub kind_of : (x : VarId) (b : Bool) (fs : List Fact) → x.lasting ≡ b → AreOf x fs → AreOfKind b fs
kind_of x b [] e h = tt
kind_of x b (f ∷ fs) e h = (ap (λ (y : VarId). y.lasting) h.0 ∙ e, kind_of x b fs e h.1)

-- the facts of a variable that are new are of it
pub news_of : (x : VarId) (kept facts news : List Fact) → addition kept facts ≡ adds news → AreOf x facts → AreOf x news
news_of x kept facts news h a =
    let all = adds_all kept facts news h in
    of_from x news (λ f i. of_in x facts a f (news_given kept facts news all f i))

both_kinds : (b : Bool) → b ≡ true → b ≡ false → ⊥
both_kinds b t f = let z : true ≡ false = sym t ∙ f in cc z

-- no fact of a kind is of a path of the other one
pub kept_of_other : (b : Bool) (fs : List Fact) (p : Path) → AreOfKind b fs → (p.var.lasting ≡ b → ⊥) → kept_shape fs p ≡ None
kept_of_other b fs p h n =
    kept_none fs p (λ g i. false_from_ne_true (same_path g.path p) (λ t. n (sym (ap (λ (q : Path). q.var.lasting) ((same_path-decides g.path p).0 t)) ∙ kind_in b fs h g i)))

other_kinds : (f g : Fact) → f.path.var.lasting ≡ false → g.path.var.lasting ≡ true → Apart f g
other_kinds f g h k = (
  false_from_ne_true (same_path g.path f.path) (λ t. both_kinds _ k (ap (λ (p : Path). p.var.lasting) ((same_path-decides g.path f.path).0 t) ∙ h)),
  false_from_ne_true (clash g f) (λ t. both_kinds _ k (ap (λ (x : VarId). x.lasting) (clash-variable g f t) ∙ h)),
)

module _ (m n : FactsOfKind) (p : IsPart false m) (q : IsPart true n) where
  pub parts_apart : NoClash (m.facts ++ n.facts)
  parts_apart = NoClash-append m.facts n.facts p.apart q.apart (λ f g i j. other_kinds f g (kind_in false m.facts p.of_kind f i) (kind_in true n.facts q.of_kind g j))

  pub part_apart : (b : Bool) → NoClash (part_by_kind b m n).facts
  part_apart true = q.apart
  part_apart false = p.apart

  -- the facts of a variable are all in the part of its kind
  pub part_agrees : (b : Bool) (x : VarId) → x.lasting ≡ b → AgreeAt x (m.facts ++ n.facts) (part_by_kind b m n).facts
  part_agrees false x v = record {
    there = λ f e i.
        elim (in_append f m.facts n.facts i) [
          | inl j ↦ j
          | inr j ↦ absurd (both_kinds _ (kind_in true n.facts q.of_kind f j) (ap (λ (y : VarId). y.lasting) e ∙ v))
        ];
    back = λ f e i. in_left f m.facts n.facts i;
  }
  part_agrees true x v = record {
    there = λ f e i.
        elim (in_append f m.facts n.facts i) [
          | inl j ↦ absurd (both_kinds _ (ap (λ (y : VarId). y.lasting) e ∙ v) (kind_in false m.facts p.of_kind f j))
          | inr j ↦ j
        ];
    back = λ f e i. in_right f m.facts n.facts i;
  }

-- each fact's variable is one of the store's
pub variables_from : (xs : List Variable) (fs : List Fact) → ((f : Fact) → In f fs → IsVariableOf xs f.path.var) → AreOfVariables xs fs
variables_from xs [] h = tt
variables_from xs (f ∷ fs) h = (h f (inl refl), variables_from xs fs (λ g i. h g (inr i)))

pub variables_each : (xs : List Variable) (fs : List Fact) → AreOfVariables xs fs → (f : Fact) → In f fs → IsVariableOf xs f.path.var
variables_each xs [] h f i = absurd i
variables_each xs (g ∷ fs) h f (inl e) = let P : Fact → Type 0 = λ y. IsVariableOf xs y.path.var in subst P e h.0
variables_each xs (g ∷ fs) h f (inr i) = variables_each xs fs h.1 f i

pub sound : (es : List Entry) (m n : FactsOfKind) → AreParts es m n → IsSoundStore (contents_of es m n)
sound es m n h = record { no_clash = parts_apart m n h.state_facts h.static_facts; of_variables = h.of_variables }

-- what is seen from outside, by the part of the variable's kind
module _ (es : List Entry) (m n : FactsOfKind) (v : Contents) (e : contents_of es m n ≡ v) (h : AreParts es m n) where
  pub sound_view : IsSoundStore v
  sound_view = let P : Contents → Type 0 = λ s. IsSoundStore s in subst P e (sound es m n h)

  pub kept_view : (p : Path) (q : FactsOfKind) → q ≡ part_by_kind p.var.lasting m n → kept_shape q.facts p ≡ kept_shape v.facts p
  kept_view p q part =
      ap (λ (r : FactsOfKind). kept_shape r.facts p) part
      ∙ sym (same_kept (m.facts ++ n.facts) (part_by_kind p.var.lasting m n).facts p (part_apart m n h.state_facts h.static_facts p.var.lasting) (part_agrees m n h.state_facts h.static_facts p.var.lasting p.var refl))
      ∙ ap (λ (s : Contents). kept_shape s.facts p) e

  pub excluded_view : (p : Path) (q : FactsOfKind) → q ≡ part_by_kind p.var.lasting m n → is_excluded q.facts p ≡ is_excluded v.facts p
  excluded_view p q part =
      ap (λ (r : FactsOfKind). is_excluded r.facts p) part
      ∙ sym (same_excluded (m.facts ++ n.facts) (part_by_kind p.var.lasting m n).facts p (part_agrees m n h.state_facts h.static_facts p.var.lasting p.var refl)) ∙ ap (λ (s : Contents). is_excluded s.facts p) e

  pub full_view : (p : Path) (q : FactsOfKind) → q ≡ part_by_kind p.var.lasting m n → full q.facts p ≡ full v.facts p
  full_view p q part =
      ap (λ (r : FactsOfKind). full r.facts p) part
      ∙ sym (same_full (m.facts ++ n.facts) (part_by_kind p.var.lasting m n).facts p (part_apart m n h.state_facts h.static_facts p.var.lasting) (part_agrees m n h.state_facts h.static_facts p.var.lasting p.var refl))
      ∙ ap (λ (s : Contents). full s.facts p) e

  pub first_view : (f : Fact) (q : FactsOfKind) → q ≡ part_by_kind f.path.var.lasting m n → first_clash q.facts f ≡ first_clash v.facts f
  first_view f q part =
      ap (λ (r : FactsOfKind). first_clash r.facts f) part
      ∙ sym (same_first (m.facts ++ n.facts) (part_by_kind f.path.var.lasting m n).facts f (parts_apart m n h.state_facts h.static_facts) (part_agrees m n h.state_facts h.static_facts f.path.var.lasting f.path.var refl))
      ∙ ap (λ (s : Contents). first_clash s.facts f) e

  -- and what becomes of a fact
  pub noted_view : (f : Fact) (q : FactsOfKind) (r : Noted) → q ≡ part_by_kind f.path.var.lasting m n → IsNoted q.facts f r → IsNoted v.facts f r
  noted_view f q New part is = record { none = sym (kept_view f.path q part) ∙ is.none; apart = sym (first_view f q part) ∙ is.apart }
  noted_view f q Kept part is = sym (kept_view f.path q part) ∙ is
  noted_view f q noted.Clash part is = (is.0, sym (first_view f q part) ∙ is.1)

  pub addition_view : (b : Bool) (x : VarId) (fs : List Fact) → x.lasting ≡ b → AreOf x fs → addition (part_by_kind b m n).facts fs ≡ addition v.facts fs
  addition_view b x fs k a =
      let A : VarId → Type 0 = λ y. AgreeAt y (m.facts ++ n.facts) (part_by_kind b m n).facts in
      sym (same_addition (m.facts ++ n.facts) (part_by_kind b m n).facts fs (parts_apart m n h.state_facts h.static_facts) (part_apart m n h.state_facts h.static_facts b)
      (λ f i. subst A (sym (of_in x fs a f i)) (part_agrees m n h.state_facts h.static_facts b x k)))
      ∙ ap (λ (s : Contents). addition s.facts fs) e

  -- what is below a number, appended
  pub appended_is : (b : ℕ) (old mid new : List Fact) → HasAppended (facts_below b m.facts) old mid → HasAppended (facts_below b n.facts) mid new → HasAppended (facts_below b v.facts) old new
  appended_is b old mid new f g = below_appended b m.facts n.facts v.facts old mid new sound_view.no_clash (ap (λ (s : Contents). s.facts) e) f g

-- the place of a variable
pub of_placed : (x : VarId) (n : ℕ) (fs : List Fact) → AreOf x fs → x.number < n → ArePlaced n fs
of_placed x n [] a h = tt
of_placed x n (f ∷ fs) a h = (let P : VarId → Type 0 = λ y. y.number < n in subst P (sym a.0) h, of_placed x n fs a.1 h)

pub placed_at : (n : ℕ) (fs : List Fact) (i : ℕ) (f : Fact) → ArePlaced n fs → i < length fs → f ≡ get_or fs i f → f.path.var.number < n
placed_at n [] i f h low e = absurd (omega (arith, low))
placed_at n (g ∷ fs) zero f h low e = let P : Fact → Type 0 = λ y. y.path.var.number < n in subst P (sym e) h.0
placed_at n (g ∷ fs) (suc i) f h low e = placed_at n fs i f h.1 (omega (arith, low)) e

pub variable_placed : (es : List Entry) (x : VarId) (n : ℕ) → IsVariableOf (variables_in es) x → length es ≤ n → x.number < n
variable_placed es x n k long =
    let within = slice_get_within (map (λ (v : Variable). v.lasting) (variables_in es)) x.number x.lasting k in
    let a : length (map (λ (v : Variable). v.lasting) (variables_in es)) ≡ length (variables_in es) = length-map (variables_in es) (λ (v : Variable). v.lasting) in
    let b : length (variables_in es) ≡ length es = length-map es variable_in in
    omega (arith, within, a, b, long)

-- one more variable
slice_more : (bs : List Bool) (c : Bool) (k : ℕ) (b : Bool) → slice_get bs k ≡ Some b → slice_get (bs ++ c ∷ []) k ≡ Some b
slice_more [] c k b q = absurd (cc)
slice_more (a ∷ bs) c zero b q = q
slice_more (a ∷ bs) c (suc k) b q = slice_more bs c k b q

variable_more : (xs : List Variable) (v : Variable) (x : VarId) → IsVariableOf xs x → IsVariableOf (xs ++ v ∷ []) x
variable_more xs v x h =
    ap (λ bs. slice_get bs x.number) (map-append (λ (y : Variable). y.lasting) xs (v ∷ [])) ∙ slice_more (map (λ (y : Variable). y.lasting) xs) v.lasting x.number x.lasting h

pub parts_moved : (es fs : List Entry) (m n : FactsOfKind) → fs ≡ es → AreParts es m n → AreParts fs m n
parts_moved es fs m n q h = let P : List Entry → Type 0 = λ xs. AreParts xs m n in subst P (sym q) h

pub variables_more : (es fs : List Entry) (e : Entry) → fs ≡ es ++ e ∷ [] → variables_in fs ≡ variables_in es ++ variable_in e ∷ []
variables_more es fs e q = ap variables_in q ∙ map-append variable_in es (e ∷ [])

pub fresh_parts : (es fs : List Entry) (e : Entry) (m n : FactsOfKind) → fs ≡ es ++ e ∷ [] → length es + 1 ≤ m.placed → length es + 1 ≤ n.placed → AreParts es m n → AreParts fs m n
fresh_parts es fs e m n q a b h =
    let all = m.facts ++ n.facts in
    let V : List Variable → Type 0 = λ xs. AreOfVariables xs all in
    let long : length fs ≡ length es + 1 = ap length q ∙ length-append es (e ∷ []) in
    record {
      state_facts = h.state_facts;
      static_facts = h.static_facts;
      state_placed = omega (arith, long, a);
      static_placed = omega (arith, long, b);
      of_variables = subst V (sym (variables_more es fs e q))
          (variables_from (variables_in es ++ variable_in e ∷ []) all (λ f i. variable_more (variables_in es) (variable_in e) f.path.var (variables_each (variables_in es) all h.of_variables f i)));
    }

-- the next state
filter_all : (fs : List Fact) → AreOfKind true fs → lasting_facts fs ≡ fs
filter_all [] h = refl
filter_all (f ∷ fs) h = ap (λ b. cond b (f ∷ lasting_facts fs) (lasting_facts fs)) h.0 ∙ ap (λ gs. f ∷ gs) (filter_all fs h.1)

filter_none : (fs : List Fact) → AreOfKind false fs → lasting_facts fs ≡ []
filter_none [] h = refl
filter_none (f ∷ fs) h = ap (λ b. cond b (f ∷ lasting_facts fs) (lasting_facts fs)) h.0 ∙ filter_none fs h.1

pub next_parts : (es : List Entry) (m o n : FactsOfKind) → o.lasting ≡ m.lasting → o.facts ≡ [] → o.placed ≡ m.placed → AreParts es m n → AreParts es o n
next_parts es m o n k none p h =
    let K : List Fact → Type 0 = λ fs. AreOfKind false fs in
    let N : List Fact → Type 0 = λ fs. NoClash fs in
    let V : List Fact → Type 0 = λ fs. AreOfVariables (variables_in es) (fs ++ n.facts) in
    record {
      state_facts = record { kind = k ∙ h.state_facts.kind; of_kind = subst K (sym none) tt; apart = subst N (sym none) tt };
      static_facts = h.static_facts;
      state_placed = omega (arith, p, h.state_placed);
      static_placed = h.static_placed;
      of_variables = subst V (sym none) (variables_from (variables_in es) n.facts (λ f i. variables_each (variables_in es) (m.facts ++ n.facts) h.of_variables f (in_right f m.facts n.facts i)));
    }

pub next_facts : (es : List Entry) (m o n : FactsOfKind) (v : Contents) → contents_of es m n ≡ v → o.facts ≡ [] → AreParts es m n → o.facts ++ n.facts ≡ lasting_facts v.facts
next_facts es m o n v e none h =
    ap (λ fs. fs ++ n.facts) none
    ∙ sym (filter-append (λ (f : Fact). f.path.var.lasting) m.facts n.facts ∙ ap₂ (λ (xs ys : List Fact). xs ++ ys) (filter_none m.facts h.state_facts.of_kind) (filter_all n.facts h.static_facts.of_kind))
    ∙ ap (λ (s : Contents). lasting_facts s.facts) e

-- the facts stay, and the room may not
same_part : (b : Bool) (m o : FactsOfKind) → o.lasting ≡ m.lasting → o.facts ≡ m.facts → IsPart b m → IsPart b o
same_part b m o k same p =
    let K : List Fact → Type 0 = λ fs. AreOfKind b fs in
    let N : List Fact → Type 0 = λ fs. NoClash fs in
    record { kind = k ∙ p.kind; of_kind = subst K (sym same) p.of_kind; apart = subst N (sym same) p.apart }

pub state_same : (es : List Entry) (m n o : FactsOfKind) → o.lasting ≡ m.lasting → o.facts ≡ m.facts → m.placed ≤ o.placed → AreParts es m n → AreParts es o n
state_same es m n o k same p h =
    let V : List Fact → Type 0 = λ fs. AreOfVariables (variables_in es) (fs ++ n.facts) in
    record { state_facts = same_part false m o k same h.state_facts; static_facts = h.static_facts; state_placed = omega (arith, p, h.state_placed); static_placed = h.static_placed; of_variables = subst V (sym same) h.of_variables }

pub static_same : (es : List Entry) (m n o : FactsOfKind) → o.lasting ≡ n.lasting → o.facts ≡ n.facts → n.placed ≤ o.placed → AreParts es m n → AreParts es m o
static_same es m n o k same p h =
    let V : List Fact → Type 0 = λ fs. AreOfVariables (variables_in es) (m.facts ++ fs) in
    record { state_facts = h.state_facts; static_facts = same_part true n o k same h.static_facts; state_placed = h.state_placed; static_placed = omega (arith, p, h.static_placed); of_variables = subst V (sym same) h.of_variables }

pub same_contents : (es fs : List Entry) (m n o p : FactsOfKind) → fs ≡ es → o.facts ≡ m.facts → p.facts ≡ n.facts → contents_of fs o p ≡ contents_of es m n
same_contents es fs m n o p q a b =
    let make : List Fact → List Variable → Contents = λ gs vs. record { facts = gs; variables = vs } in
    ap₂ make (ap₂ (λ (x y : List Fact). x ++ y) a b) (ap variables_in q)

pub sound_same : (es fs : List Entry) (m n o p : FactsOfKind) → fs ≡ es → o.facts ≡ m.facts → p.facts ≡ n.facts → AreParts es m n → IsSoundStore (contents_of fs o p)
sound_same es fs m n o p q a b h = let P : Contents → Type 0 = λ s. IsSoundStore s in subst P (sym (same_contents es fs m n o p q a b)) (sound es m n h)

-- a new store
bare_part : (b : Bool) (m : FactsOfKind) → m.lasting ≡ b → m.facts ≡ [] → IsPart b m
bare_part b m k p =
    let K : List Fact → Type 0 = λ fs. AreOfKind b fs in
    let N : List Fact → Type 0 = λ fs. NoClash fs in
    record { kind = k; of_kind = subst K (sym p) tt; apart = subst N (sym p) tt }

pub new_parts : (es : List Entry) (m n : FactsOfKind) → m.lasting ≡ false → m.facts ≡ [] → n.lasting ≡ true → n.facts ≡ [] → length es ≤ m.placed → length es ≤ n.placed → AreParts es m n
new_parts es m n k p l q a b =
    let V : List Fact → List Fact → Type 0 = λ fs gs. AreOfVariables (variables_in es) (fs ++ gs) in
    record {
      state_facts = bare_part false m k p;
      static_facts = bare_part true n l q;
      state_placed = a;
      static_placed = b;
      of_variables = subst (λ fs. V fs n.facts) (sym p) (subst (λ gs. V [] gs) (sym q) tt);
    }

pub new_contents : (es : List Entry) (m n : FactsOfKind) (names : List (List ℕ)) → m.facts ≡ [] → n.facts ≡ []
    → variables_in es ≡ map global_variable names → contents_of es m n ≡ new_store names
new_contents es m n names p q v =
    let make : List Fact → List Variable → Contents = λ fs vs. record { facts = fs; variables = vs } in
    ap₂ make (ap₂ (λ (a b : List Fact). a ++ b) p q) v

-- facts are added to a part
or_else-none : (y : Option Shape) → or_else y None ≡ y
or_else-none None = refl
or_else-none (Some sh) = refl

or_else-assoc : (a b c : Option Shape) → or_else a (or_else b c) ≡ or_else (or_else a b) c
or_else-assoc None b c = refl
or_else-assoc (Some sh) b c = refl

-- of these two one is none
or_else-swap : (a b c : Option Shape) → (b ≡ None) ⊎ (c ≡ None) → or_else (or_else a b) c ≡ or_else (or_else a c) b
or_else-swap a b c (inl n) =
    ap (λ o. or_else (or_else a o) c) n ∙ ap (λ o. or_else o c) (or_else-none a) ∙ sym (or_else-none (or_else a c)) ∙ ap (or_else (or_else a c)) (sym n)
or_else-swap a b c (inr n) =
    ap (or_else (or_else a b)) n ∙ or_else-none (or_else a b) ∙ ap (λ o. or_else o b) (sym (or_else-none a)) ∙ ap (λ o. or_else (or_else a o) b) (sym n)

kinds_differ : (fs gs : List Fact) (p : Path) → AreOfKind false fs → AreOfKind true gs → (kept_shape gs p ≡ None) ⊎ (kept_shape fs p ≡ None)
kinds_differ fs gs p h k =
    let P : Bool → Type 0 = λ b. p.var.lasting ≡ b → (kept_shape gs p ≡ None) ⊎ (kept_shape fs p ≡ None) in
    let cases : P p.var.lasting = elim p.var.lasting as P [
      | true ↦ λ e. inr (kept_of_other false fs p h (λ f. both_kinds _ e f))
      | false ↦ λ e. inl (kept_of_other true gs p k (λ t. both_kinds _ t e))
    ] in
    cases refl

-- facts that came in front of others come behind them
pub shapes_swap : (new old news others : List Fact) (p : Path) → HaveSameShapes new (old ++ news) → (kept_shape news p ≡ None) ⊎ (kept_shape others p ≡ None)
    → kept_shape (new ++ others) p ≡ kept_shape ((old ++ others) ++ news) p
shapes_swap new old news others p same h =
    kept_shape-append new others p ∙ ap (λ y. or_else y (kept_shape others p)) (same p ∙ kept_shape-append old news p)
    ∙ or_else-swap (kept_shape old p) (kept_shape news p) (kept_shape others p) h
    ∙ ap (λ y. or_else y (kept_shape news p)) (sym (kept_shape-append old others p)) ∙ sym (kept_shape-append (old ++ others) news p)

swap_kinds : {A B : Type 0} → A ⊎ B → B ⊎ A
swap_kinds (inl a) = inr a
swap_kinds (inr b) = inl b

part_grown : (b : Bool) (m o : FactsOfKind) → IsPart b m → o.lasting ≡ m.lasting → AreOfKind o.lasting o.facts → NoClash o.facts → IsPart b o
part_grown b m o p kind of_kind apart =
    let same = kind ∙ p.kind in
    record { kind = same; of_kind = subst (λ c. AreOfKind c o.facts) same of_kind; apart = apart }

-- the variables of what is kept then
kept_variables : (xs : List Variable) (x : VarId) (old news new : List Fact) → IsVariableOf xs x → AreOf x news → NoClash new → HaveSameShapes new (old ++ news)
    → ((f : Fact) → In f old → IsVariableOf xs f.path.var) → (f : Fact) → In f new → IsVariableOf xs f.path.var
kept_variables xs x old news new k a n s h f i =
    let there : In (fact f.path f.shape) (old ++ news) = kept_in (old ++ news) f.path f.shape (sym (s f.path) ∙ in_kept new f n i) in
    let P : VarId → Type 0 = λ y. IsVariableOf xs y in
    elim (in_append f old news there) [ inl j ↦ h f j | inr j ↦ subst P (sym (of_in x news a f j)) k ]

module _ (es : List Entry) (m n : FactsOfKind) (v : Contents) (e : contents_of es m n ≡ v) (h : AreParts es m n) (x : VarId) (facts news : List Fact) (k : IsVariableOf v.variables x) (filed : AreOf x facts) where
  is_variable : IsVariableOf (variables_in es) x
  is_variable = let P : Contents → Type 0 = λ s. IsVariableOf s.variables x in subst P (sym e) k

  old_variables : (f : Fact) → In f (m.facts ++ n.facts) → IsVariableOf (variables_in es) f.path.var
  old_variables = variables_each (variables_in es) (m.facts ++ n.facts) h.of_variables

  module _ (o : FactsOfKind) (added : addition m.facts facts ≡ adds news) (kind : o.lasting ≡ m.lasting) (of_kind : AreOfKind o.lasting o.facts) (apart : NoClash o.facts) (s : HaveSameShapes o.facts (m.facts ++ news)) (placed : o.placed ≡ m.placed) (lasting : x.lasting ≡ false) where
    state_news : AreOf x news
    state_news = news_of x m.facts facts news added filed

    pub state_grown : AreParts es o n
    state_grown = record {
      state_facts = part_grown false m o h.state_facts kind of_kind apart;
      static_facts = h.static_facts;
      state_placed = omega (arith, placed, h.state_placed);
      static_placed = h.static_placed;
      of_variables = variables_from (variables_in es) (o.facts ++ n.facts) (λ f i.
          elim (in_append f o.facts n.facts i) [
            | inl j ↦ kept_variables (variables_in es) x m.facts news o.facts is_variable state_news apart s (λ g l. old_variables g (in_left g m.facts n.facts l)) f j
            | inr j ↦ old_variables f (in_right f m.facts n.facts j)
          ]);
    }

    pub state_adds : AddsFacts v news (contents_of es o n)
    state_adds = record {
      shapes = λ p.
          shapes_swap o.facts m.facts news n.facts p s (swap_kinds (kinds_differ news n.facts p (kind_of x false news lasting state_news) h.static_facts.of_kind))
          ∙ ap (λ (c : Contents). kept_shape (c.facts ++ news) p) e;
      variables = ap (λ (c : Contents). c.variables) e;
    }

  module _ (o : FactsOfKind) (added : addition n.facts facts ≡ adds news) (kind : o.lasting ≡ n.lasting) (of_kind : AreOfKind o.lasting o.facts) (apart : NoClash o.facts) (s : HaveSameShapes o.facts (n.facts ++ news)) (placed : o.placed ≡ n.placed) where
    static_news : AreOf x news
    static_news = news_of x n.facts facts news added filed

    pub static_grown : AreParts es m o
    static_grown = record {
      state_facts = h.state_facts;
      static_facts = part_grown true n o h.static_facts kind of_kind apart;
      state_placed = h.state_placed;
      static_placed = omega (arith, placed, h.static_placed);
      of_variables = variables_from (variables_in es) (m.facts ++ o.facts) (λ f i.
          elim (in_append f m.facts o.facts i) [
            | inl j ↦ old_variables f (in_left f m.facts n.facts j)
            | inr j ↦ kept_variables (variables_in es) x n.facts news o.facts is_variable static_news apart s (λ g l. old_variables g (in_right g m.facts n.facts l)) f j
          ]);
    }

    pub static_adds : AddsFacts v news (contents_of es m o)
    static_adds = record {
      shapes = λ p.
          kept_shape-append m.facts o.facts p ∙ ap (or_else (kept_shape m.facts p)) (s p ∙ kept_shape-append n.facts news p)
          ∙ or_else-assoc (kept_shape m.facts p) (kept_shape n.facts p) (kept_shape news p)
          ∙ ap (λ y. or_else y (kept_shape news p)) (sym (kept_shape-append m.facts n.facts p)) ∙ sym (kept_shape-append (m.facts ++ n.facts) news p)
          ∙ ap (λ (c : Contents). kept_shape (c.facts ++ news) p) e;
      variables = ap (λ (c : Contents). c.variables) e;
    }

-- a fact is noted by one of both parts
module _ (es : List Entry) (m n : FactsOfKind) (v : Contents) (e : contents_of es m n ≡ v) (h : AreParts es m n) (f : Fact) (k : IsVariableOf v.variables f.path.var) (o : FactsOfKind) where
  pub state_noted : (r : Noted) → f.path.var.lasting ≡ false → IsNoted m.facts f r → IfNew r (TakesFact m f o) → UnlessNew r (o ≡ m) → AreParts es o n
  state_noted New s is new same =
      state_grown es m n v e h f.path.var (f ∷ []) (f ∷ []) k (refl, tt) o (new_added m.facts f is) new.kind new.of_kind new.apart new.shapes new.placed s
  state_noted Kept s is new same = let P : FactsOfKind → Type 0 = λ q. AreParts es q n in subst P (sym same) h
  state_noted noted.Clash s is new same = let P : FactsOfKind → Type 0 = λ q. AreParts es q n in subst P (sym same) h

  pub state_noted_adds : (r : Noted) → f.path.var.lasting ≡ false → IsNoted m.facts f r → IfNew r (TakesFact m f o) → IfNew r (AddsFacts v (f ∷ []) (contents_of es o n))
  state_noted_adds New s is new =
      state_adds es m n v e h f.path.var (f ∷ []) (f ∷ []) k (refl, tt) o (new_added m.facts f is) new.kind new.of_kind new.apart new.shapes new.placed s
  state_noted_adds Kept s is new = tt
  state_noted_adds noted.Clash s is new = tt

  pub static_noted : (r : Noted) → IsNoted n.facts f r → IfNew r (TakesFact n f o) → UnlessNew r (o ≡ n) → AreParts es m o
  static_noted New is new same =
      static_grown es m n v e h f.path.var (f ∷ []) (f ∷ []) k (refl, tt) o (new_added n.facts f is) new.kind new.of_kind new.apart new.shapes new.placed
  static_noted Kept is new same = let P : FactsOfKind → Type 0 = λ q. AreParts es m q in subst P (sym same) h
  static_noted noted.Clash is new same = let P : FactsOfKind → Type 0 = λ q. AreParts es m q in subst P (sym same) h

  pub static_noted_adds : (r : Noted) → IsNoted n.facts f r → IfNew r (TakesFact n f o) → IfNew r (AddsFacts v (f ∷ []) (contents_of es m o))
  static_noted_adds New is new =
      static_adds es m n v e h f.path.var (f ∷ []) (f ∷ []) k (refl, tt) o (new_added n.facts f is) new.kind new.of_kind new.apart new.shapes new.placed
  static_noted_adds Kept is new = tt
  static_noted_adds noted.Clash is new = tt
