-- The parts of a line tell the facts.
use Rattle.std.proofs.Common.{◌≡◌, ◌⊎◌, inl, inr, ◌+◌, ℕ, ℤ, zero, suc, Bool, true, false, cond, eqb, List, [], ◌∷◌, ◌++◌, length, drop, All, IsTrue, Option, None, Some, slice_get, map, refl, sym, ap, ap₂, ◌∙◌, subst, arith, append_assoc, append-nil}
use Rattle.std.specs.List.{starts_with}
use Rattle.std.specs.Option.{option_and_then}
use Rattle.std.proofs.lemmas.Bool.{and_parts, both_ways}
use Rattle.std.proofs.lemmas.Bool.Decides.{Decides-eqb}
use Rattle.std.proofs.lemmas.List.Elements.{All-nil, All-cons, All-head, All-tail}
use Rattle.std.proofs.lemmas.Slice.Eq.{starts_is}
use Rattle.tp_value.specs.Tree.{Tree, num, truth, list, items_of, of_items}
use Rattle.tp_value.specs.Equations.{items_of-of_items}
use Rattle.tp_value.specs.Limits.{is_within_list_limit}
use Rattle.tp_value.specs.Shape.{at_item, shape_of, shape_at_path, item_at}
use Rattle.tp_value.specs.declared.path.VarId.{VarId}
use Rattle.tp_value.specs.declared.path.Path.{Path}
use Rattle.tp_value.specs.declared.path.Fact.{Fact}
use Rattle.tp_value.specs.declared.value.Shape.{Shape}
use Rattle.tp_value.specs.declared.value.Shape.TheVariants.{Num, Truth, Items}
use Rattle.tp_store.specs.Facts.{same_variable, kept_shape, is_excluded, item_path, fact, AgreesWith, AgreesWithAll}
use Rattle.tp_store.specs.Known.{NoClash, Whole, known, open_at, WholeItems, all_known, item_open_at, and_items, list_of_items, items_known, with_shape, whole, deepest, Full, absent, undecided, too_long, value, limited, full, IsVariableOf, AreOfVariables, global_variable}
use Rattle.tp_store.specs.Laws.{FullSays}
use Rattle.tp_store.proofs.Paths.{same_variable-decides, fact_from}
use Rattle.tp_store.proofs.Members.{In, kept_in, in_kept, agrees_in, agrees_from}
use Rattle.tp_store.proofs.Meaning.{shape_item, item_shape, item_append, full_is_right}
use Rattle.tp_store.proofs.Chosen.{has_agreeing_state}
use Rattle.tp_scene.proofs.Globals.{of_variables_in}
use Rattle.tp_show.specs.Line.{is_before, AreInOrder, is_deeper, is_inside, is_written, is_value, LinePartTree, valued, measured, shape_part, known_part, parts_by}
use Rattle.tp_show.proofs.FactOrder.{is_before-order}
use Rattle.tp_show.specs.FactsOf.{AreFactsOf}
use Rattle.tp_show.specs.Told.{IsPartOf, HasPart}
use Rattle.tp_show.specs.ToldLaws.{PartsTellFacts}

-- the path of what stands at these indices in what stands at a path
abbrev pub beyond : Path → List ℕ → Path
beyond p rest = record { var = p.var; at = p.at ++ rest }

pub here : (p : Path) → p ≡ beyond p []
here p = ap (λ (at : List ℕ). let q : Path = record { var = p.var; at = at } in q) (sym (append-nil p.at))

-- the value at a path has this fact
pub record HasFact (p : Path) (t : Tree) (f : Fact) : Type 0 where
  pub rest : List ℕ
  pub path : f.path ≡ beyond p rest
  pub shape : shape_at_path rest t ≡ Some f.shape

abbrev pub Tells : LinePartTree → Fact → Type 0
Tells (valued p t) f = HasFact p t f
Tells (measured p n) f = f ≡ fact p (Items n)

-- one of the parts tells the fact
abbrev pub AreTelling : List LinePartTree → Fact → Type 0
AreTelling [] f = ⊥
AreTelling (a ∷ rest) f = Tells a f ⊎ AreTelling rest f

-- Each fact is told. What a known value has at a path, a state that agrees with the facts has there.

shape_beyond : (a b : List ℕ) (s t : Tree) (sh : Shape) → item_at a s ≡ Some t → shape_at_path (a ++ b) s ≡ Some sh → shape_at_path b t ≡ Some sh
shape_beyond a b s t sh h e =
    let found = shape_item (a ++ b) s sh e in
    let item : item_at b t ≡ Some found.0 = sym (item_append a b s ∙ ap (option_and_then (item_at b)) h) ∙ found.1 in
    item_shape b t found.0 item ∙ ap Some found.2

value_tells : (names : List (List ℕ)) (all : List Fact) (p : Path) (t : Tree) (f : Fact) (rest : List ℕ) → AreFactsOf names all → full all p ≡ value t → In f all → f.path ≡ beyond p rest → HasFact p t f
value_tells names all p t f rest are k i e =
    let state = has_agreeing_state (map global_variable names) all are.no_clash are.of_variables in
    let s = state.0 p.var.number in
    let says : FullSays p.at s (value t) = subst (FullSays p.at s) k (full_is_right all state.0 state.1 p) in
    let holds : shape_at_path f.path.at (state.0 f.path.var.number) ≡ Some f.shape = agrees_in state.0 all state.1 f i in
    let there : shape_at_path (p.at ++ rest) s ≡ Some f.shape = subst (λ (q : Path). shape_at_path q.at (state.0 q.var.number) ≡ Some f.shape) e holds in
    record { rest = rest; path = e; shape = shape_beyond p.at rest s t f.shape says.0 there }

-- what is inside of a path stands beyond it
inside_beyond : (p q : Path) → is_inside p q ≡ true → (rest : List ℕ) × (q ≡ beyond p rest)
inside_beyond p q h =
    let parts = and_parts (same_variable p.var q.var) (is_deeper p.at q.at) h in
    let begins = (and_parts _ (starts_with eqb q.at p.at) parts.1).1 in
    let rest = drop (length p.at) q.at in
    let at : q.at ≡ p.at ++ rest = (starts_is Decides-eqb q.at p.at (starts_with eqb q.at p.at) refl).0 begins in
    let var : p.var ≡ q.var = (same_variable-decides p.var q.var).0 parts.0 in
    let make : VarId → List ℕ → Path = λ x is. record { var = x; at = is } in
    (rest, ap₂ make (sym var) at)

-- the last value that was written is a value, and has this fact
abbrev pub IsLast : List Fact → Option Path → Type 0
IsLast all None = Unit {0}
IsLast all (Some p) = (t : Tree) × (full all p ≡ value t)

abbrev pub LastTells : List Fact → Option Path → Fact → Type 0
LastTells all None f = ⊥
LastTells all (Some p) f = (t : Tree) × (full all p ≡ value t) × HasFact p t f

next_last : (all : List Fact) (last : Option Path) (f : Fact) (k : Full) → full all f.path ≡ k → IsLast all last → IsLast all (cond (is_value k) (Some f.path) last)
next_last all last f absent e l = l
next_last all last f (undecided p) e l = l
next_last all last f too_long e l = l
next_last all last f (value t) e l = (t, e)

last_tells : (names : List (List ℕ)) (all : List Fact) (last : Option Path) (f : Fact) → AreFactsOf names all → IsLast all last → In f all → is_written last f.path ≡ true → LastTells all last f
last_tells names all None f are l i h = absurd (cc h)
last_tells names all (Some p) f are l i h = let r = inside_beyond p f.path h in (l.0, l.1, value_tells names all p l.0 f r.0 are l.1 i r.1)

shape_tells : (f : Fact) (sh : Shape) → f.shape ≡ sh → Tells (shape_part f.path sh) f
shape_tells f (Num n) e = record { rest = []; path = here f.path; shape = ap Some (sym e) }
shape_tells f (Truth b) e = record { rest = []; path = here f.path; shape = ap Some (sym e) }
shape_tells f (Items n) e = fact_from f (fact f.path (Items n)) refl e

part_tells : (names : List (List ℕ)) (all : List Fact) (f : Fact) → AreFactsOf names all → In f all → (k : Full) → full all f.path ≡ k → Tells (known_part f k) f
part_tells names all f are i absent e = shape_tells f f.shape refl
part_tells names all f are i (undecided p) e = shape_tells f f.shape refl
part_tells names all f are i too_long e = shape_tells f f.shape refl
part_tells names all f are i (value t) e = value_tells names all f.path t f [] are e i (here f.path)

-- what the next last value tells, its part tells, or the last one
next_tells : (all : List Fact) (last : Option Path) (f g : Fact) (k : Full) → full all g.path ≡ k → LastTells all (cond (is_value k) (Some g.path) last) f → Tells (known_part g k) f ⊎ LastTells all last f
next_tells all last f g absent e l = inr l
next_tells all last f g (undecided p) e l = inr l
next_tells all last f g too_long e l = inr l
next_tells all last f g (value t) e l =
    let both : value l.0 ≡ value t = sym l.1 ∙ e in
    let same : l.0 ≡ t = cc both in
    inl (subst (λ u. HasFact g.path u f) same l.2)

pub all_told : (names : List (List ℕ)) (all : List Fact) → AreFactsOf names all → (last : Option Path) → IsLast all last → (fs : List Fact) → ((g : Fact) → In g fs → In g all) → (f : Fact) → In f fs
    → AreTelling (parts_by (full all) last fs) f ⊎ LastTells all last f
all_told names all are last l [] within f i = absurd i
all_told names all are last l (g ∷ gs) within f i =
    let k = full all g.path in
    let next : Option Path = cond (is_value k) (Some g.path) last in
    let more : (h : Fact) → In h gs → In h all = λ h j. within h (inr j) in
    let skipped : In f gs → AreTelling (parts_by (full all) last gs) f ⊎ LastTells all last f = all_told names all are last l gs more f in
    let later : In f gs → AreTelling (parts_by (full all) next gs) f ⊎ LastTells all next f = all_told names all are next (next_last all last g k refl l) gs more f in
    let P : Bool → Type 0 = λ b. is_written last g.path ≡ b → AreTelling (cond b (parts_by (full all) last gs) (known_part g k ∷ parts_by (full all) next gs)) f ⊎ LastTells all last f in
    let first : g ≡ f → Tells (known_part g k) f = λ e. subst (Tells (known_part g k)) e (part_tells names all g are (within g (inl refl)) k refl) in
    let inside : P true = λ e. elim i [ inl q ↦ inr (subst (LastTells all last) q (last_tells names all last g are l (within g (inl refl)) e)) | inr j ↦ skipped j ] in
    let apart : P false = λ e. elim i [
      | inl q ↦ inl (inl (first q))
      | inr j ↦ elim (later j) [ inl t ↦ inl (inr t) | inr t ↦ elim (next_tells all last f g k refl t) [ inl u ↦ inl (inl u) | inr u ↦ inr u ] ]
    ] in
    let cases : P (is_written last g.path) = elim (is_written last g.path) as P [ true ↦ inside | false ↦ apart ] in
    cases refl

-- Each fact that is told is one. What a whole value has at a path is kept there.

both_known : (w : Whole) (rest : WholeItems) (ts : List Tree) → and_items w rest ≡ all_known ts → (t : Tree) × (us : List Tree) × (w ≡ known t) × (rest ≡ all_known us) × (t ∷ us ≡ ts)
both_known (open_at q) rest ts h = absurd (cc h)
both_known (known t) (item_open_at q) ts h = absurd (cc h)
both_known (known t) (all_known us) ts h = (t, us, refl, refl, cc h)

-- as many items, each known
record AllKnown (item : Path → Whole) (p : Path) (m k : ℕ) (ts : List Tree) : Type 0 where
  count : length ts ≡ m
  each : (j : ℕ) (t : Tree) → slice_get ts j ≡ Some t → item (item_path p (k + j)) ≡ known t

items_each : (item : Path → Whole) (p : Path) (k : ℕ) (u : Tree) (us : List Tree) → item (item_path p k) ≡ known u → ((j : ℕ) (t : Tree) → slice_get us j ≡ Some t → item (item_path p (suc k + j)) ≡ known t)
    → (j : ℕ) (t : Tree) → slice_get (u ∷ us) j ≡ Some t → item (item_path p (k + j)) ≡ known t
items_each item p k u us first later zero t e =
    let at : k + zero ≡ k = omega arith in
    let same : u ≡ t = cc e in
    ap (λ n. item (item_path p n)) at ∙ (first ∙ ap known same)
items_each item p k u us first later (suc j) t e =
    let at : k + suc j ≡ suc k + j = omega arith in
    ap (λ n. item (item_path p n)) at ∙ later j t e

items_all : (item : Path → Whole) (p : Path) (m k : ℕ) (ts : List Tree) → items_known item p m k ≡ all_known ts → AllKnown item p m k ts
items_all item p zero k [] h = record { count = refl; each = λ j t e. absurd (cc e) }
items_all item p zero k (t ∷ ts) h = absurd (cc h)
items_all item p (suc m) k ts h =
    let both = both_known (item (item_path p k)) (items_known item p m (suc k)) ts h in
    let rest = items_all item p m (suc k) both.1 both.3 in
    subst (AllKnown item p (suc m) k) both.4 (record { count = ap suc rest.count; each = items_each item p k both.0 both.1 both.2 rest.each })

-- each shape of the value is kept
abbrev pub IsKept : List Fact → Path → Tree → Type 0
IsKept all p t = (rest : List ℕ) (sh : Shape) → shape_at_path rest t ≡ Some sh → kept_shape all (beyond p rest) ≡ Some sh

kept_here : (all : List Fact) (p : Path) → kept_shape all (beyond p []) ≡ kept_shape all p
kept_here all p = ap (kept_shape all) (sym (here p))

kept_number : (all : List Fact) (p : Path) (n : ℤ) → kept_shape all p ≡ Some (Num n) → IsKept all p (num n)
kept_number all p n k [] sh e = kept_here all p ∙ (k ∙ e)
kept_number all p n k (j ∷ js) sh e = absurd (cc e)

kept_truth : (all : List Fact) (p : Path) (b : Bool) → kept_shape all p ≡ Some (Truth b) → IsKept all p (truth b)
kept_truth all p b k [] sh e = kept_here all p ∙ (k ∙ e)
kept_truth all p b k (j ∷ js) sh e = absurd (cc e)

kept_list : (all : List Fact) (p : Path) (item : Path → Whole) (n : ℕ) (ts : List Tree) → kept_shape all p ≡ Some (Items n) → AllKnown item p n 0 ts → ((q : Path) (t : Tree) → item q ≡ known t → IsKept all q t)
    → IsKept all p (list (of_items ts))
kept_list all p item n ts k a again [] sh e =
    let count : n ≡ length (items_of (of_items ts)) = sym a.count ∙ sym (ap length (items_of-of_items ts)) in
    kept_here all p ∙ (k ∙ (ap (λ m. Some (Items m)) count ∙ e))
kept_list all p item n ts k a again (j ∷ js) sh e =
    let P : Option Tree → Type 0 = λ o. slice_get ts j ≡ o → at_item o (shape_at_path js) ≡ Some sh → kept_shape all (beyond (item_path p j) js) ≡ Some sh in
    let at : 0 + j ≡ j = omega arith in
    let none : P None = λ q h. absurd (cc h) in
    let some : (t : Tree) → P (Some t) = λ t q h. again (item_path p j) t (ap (λ m. item (item_path p m)) (sym at) ∙ a.each j t q) js sh h in
    let cases : P (slice_get ts j) = elim (slice_get ts j) as P [ None ↦ none | Some t ↦ some t ] in
    let path : p.at ++ (j ∷ js) ≡ (p.at ++ j ∷ []) ++ js = sym (append_assoc p.at (j ∷ []) js) in
    let spelled : at_item (slice_get ts j) (shape_at_path js) ≡ Some sh = ap (λ us. at_item (slice_get us j) (shape_at_path js)) (sym (items_of-of_items ts)) ∙ e in
    ap (λ (is : List ℕ). kept_shape all (record { var = p.var; at = is })) path ∙ cases refl spelled

known_items : (w : WholeItems) (t : Tree) → list_of_items w ≡ known t → (ts : List Tree) × (w ≡ all_known ts) × (list (of_items ts) ≡ t)
known_items (item_open_at q) t h = absurd (cc h)
known_items (all_known ts) t h = (ts, refl, cc h)

kept_shaped : (all : List Fact) (p : Path) (item : Path → Whole) (o : Option Shape) (t : Tree) → kept_shape all p ≡ o → with_shape item p o ≡ known t → ((q : Path) (t : Tree) → item q ≡ known t → IsKept all q t) → IsKept all p t
kept_shaped all p item None t k h again = absurd (cc h)
kept_shaped all p item (Some (Num n)) t k h again = let same : num n ≡ t = cc h in subst (IsKept all p) same (kept_number all p n k)
kept_shaped all p item (Some (Truth b)) t k h again = let same : truth b ≡ t = cc h in subst (IsKept all p) same (kept_truth all p b k)
kept_shaped all p item (Some (Items n)) t k h again =
    let w = known_items (items_known item p n 0) t h in
    subst (IsKept all p) w.2 (kept_list all p item n w.0 k (items_all item p n 0 w.0 w.1) again)

whole_kept : (d : ℕ) (all : List Fact) (p : Path) (t : Tree) → whole d all p ≡ known t → IsKept all p t
whole_kept zero all p t h = absurd (cc h)
whole_kept (suc d) all p t h = kept_shaped all p (whole d all) (kept_shape all p) t refl h (λ q u e. whole_kept d all q u e)

full_whole : (out : Bool) (w : Whole) (t : Tree) → cond out absent (limited w) ≡ value t → w ≡ known t
full_whole true w t h = absurd (cc h)
full_whole false (open_at q) t h = absurd (cc h)
full_whole false (known u) t h = within (is_within_list_limit u) h where
  within : (b : Bool) → cond b (value u) too_long ≡ value t → known u ≡ known t
  within true e = cc e
  within false e = absurd (cc e)

pub value_kept : (all : List Fact) (p : Path) (t : Tree) → full all p ≡ value t → IsKept all p t
value_kept all p t h = whole_kept (suc (deepest all)) all p t (full_whole (is_excluded all p) (whole (suc (deepest all)) all p) t h)

fact_in : (all : List Fact) (p : Path) (t : Tree) (f : Fact) → IsKept all p t → HasFact p t f → In f all
fact_in all p t f k h = subst (λ g. In g all) (fact_from (fact (beyond p h.rest) f.shape) f (sym h.path) refl) (kept_in all (beyond p h.rest) f.shape (k h.rest f.shape h.shape))

shape_in : (all : List Fact) (f g : Fact) → NoClash all → In g all → (sh : Shape) → g.shape ≡ sh → Tells (shape_part g.path sh) f → In f all
shape_in all f g n i (Num m) e h = fact_in all g.path (num m) f (kept_number all g.path m (in_kept all g n i ∙ ap Some e)) h
shape_in all f g n i (Truth b) e h = fact_in all g.path (truth b) f (kept_truth all g.path b (in_kept all g n i ∙ ap Some e)) h
shape_in all f g n i (Items m) e h = subst (λ x. In x all) (fact_from g (fact g.path (Items m)) refl e ∙ sym h) i

part_in : (all : List Fact) (f g : Fact) → NoClash all → In g all → (k : Full) → full all g.path ≡ k → Tells (known_part g k) f → In f all
part_in all f g n i absent e h = shape_in all f g n i g.shape refl h
part_in all f g n i (undecided p) e h = shape_in all f g n i g.shape refl h
part_in all f g n i too_long e h = shape_in all f g n i g.shape refl h
part_in all f g n i (value t) e h = fact_in all g.path t f (value_kept all g.path t e) h

pub told_in : (all : List Fact) → NoClash all → (last : Option Path) (fs : List Fact) → ((g : Fact) → In g fs → In g all) → (f : Fact) → AreTelling (parts_by (full all) last fs) f → In f all
told_in all n last [] within f h = absurd h
told_in all n last (g ∷ gs) within f h =
    let k = full all g.path in
    let next : Option Path = cond (is_value k) (Some g.path) last in
    let more : (x : Fact) → In x gs → In x all = λ x j. within x (inr j) in
    let P : Bool → Type 0 = λ b. AreTelling (cond b (parts_by (full all) last gs) (known_part g k ∷ parts_by (full all) next gs)) f → In f all in
    let inside : P true = λ t. told_in all n last gs more f t in
    let apart : P false = λ t. elim t [ inl x ↦ part_in all f g n (within g (inl refl)) k refl x | inr x ↦ told_in all n next gs more f x ] in
    let cases : P (is_written last g.path) = elim (is_written last g.path) as P [ true ↦ inside | false ↦ apart ] in
    cases h

-- Facts in order are one list where they are the same facts.

pub all_in : (P : Fact → Type 0) (fs : List Fact) → All P fs → (f : Fact) → In f fs → P f
all_in P [] h f i = absurd i
all_in P (g ∷ gs) h f (inl e) = subst P e (All-head P g gs h)
all_in P (g ∷ gs) h f (inr i) = all_in P gs (All-tail P g gs h) f i

never_both : (f g : Fact) → is_before f g ≡ true → is_before g f ≡ true → ⊥
never_both f g h k = both_ways (is_before g f) (is_before-order.one_way f g h) k

pub in_order_same : (fs gs : List Fact) → AreInOrder fs → AreInOrder gs → ((f : Fact) → In f fs → In f gs) → ((f : Fact) → In f gs → In f fs) → fs ≡ gs
in_order_same [] [] o q there back = refl
in_order_same [] (g ∷ gs) o q there back = absurd (back g (inl refl))
in_order_same (f ∷ fs) [] o q there back = absurd (there f (inl refl))
in_order_same (f ∷ fs) (g ∷ gs) o q there back =
    let after_f : (h : Fact) → In h fs → is_before f h ≡ true = all_in (λ h. IsTrue (is_before f h)) fs o.0 in
    let after_g : (h : Fact) → In h gs → is_before g h ≡ true = all_in (λ h. IsTrue (is_before g h)) gs q.0 in
    let first : f ≡ g = elim (there f (inl refl)) [
      | inl e ↦ sym e
      | inr i ↦ elim (back g (inl refl)) [ inl e ↦ e | inr j ↦ absurd (never_both f g (after_f g j) (after_g f i)) ]
    ] in
    let left : (h : Fact) → In h fs → In h gs = λ h i. elim (there h (inr i)) [
      | inl e ↦ (let self : is_before f f ≡ true = ap (is_before f) (first ∙ e) ∙ after_f h i in absurd (never_both f f self self))
      | inr j ↦ j
    ] in
    let right : (h : Fact) → In h gs → In h fs = λ h i. elim (back h (inr i)) [
      | inl e ↦ (let self : is_before g g ≡ true = ap (is_before g) (sym first ∙ e) ∙ after_g h i in absurd (never_both g g self self))
      | inr j ↦ j
    ] in
    let rest = in_order_same fs gs o.1 q.1 left right in
    cc (first, rest)

told_there : (names : List (List ℕ)) (fs gs : List Fact) → AreFactsOf names fs → AreFactsOf names gs → parts_by (full fs) None fs ≡ parts_by (full gs) None gs → (f : Fact) → In f fs → In f gs
told_there names fs gs are these e f i =
    elim (all_told names fs are None tt fs (λ g j. j) f i) [
      | inl t ↦ told_in gs these.no_clash None gs (λ g j. j) f (subst (λ ps. AreTelling ps f) e t)
      | inr t ↦ absurd t
    ]

-- facts with the same parts are the same
pub same_facts : (names : List (List ℕ)) (fs gs : List Fact) → AreFactsOf names fs → AreFactsOf names gs → parts_by (full fs) None fs ≡ parts_by (full gs) None gs → fs ≡ gs
same_facts names fs gs are these e = in_order_same fs gs are.order these.order (told_there names fs gs are these e) (told_there names gs fs these are (sym e))

-- Where values agree with the facts, they have the parts.

number_shaped : (t : Tree) (n : ℤ) → shape_of t ≡ Num n → t ≡ num n
number_shaped (num m) n e = cc e
number_shaped (truth b) n e = absurd (cc e)
number_shaped (list ts) n e = absurd (cc e)

truth_shaped : (t : Tree) (b : Bool) → shape_of t ≡ Truth b → t ≡ truth b
truth_shaped (num m) b e = absurd (cc e)
truth_shaped (truth c) b e = cc e
truth_shaped (list ts) b e = absurd (cc e)

has_shape : (values : ℕ → Tree) (p : Path) (sh : Shape) → shape_at_path p.at (values p.var.number) ≡ Some sh → HasPart values (shape_part p sh)
has_shape values p (Num n) e = let found = shape_item p.at (values p.var.number) (Num n) e in found.1 ∙ ap Some (number_shaped found.0 n found.2)
has_shape values p (Truth b) e = let found = shape_item p.at (values p.var.number) (Truth b) e in found.1 ∙ ap Some (truth_shaped found.0 b found.2)
has_shape values p (Items n) e = e

has_known : (values : ℕ → Tree) (f : Fact) (k : Full) → AgreesWith values f → FullSays f.path.at (values f.path.var.number) k → HasPart values (known_part f k)
has_known values f absent a says = has_shape values f.path f.shape a
has_known values f (undecided p) a says = has_shape values f.path f.shape a
has_known values f too_long a says = has_shape values f.path f.shape a
has_known values f (value t) a says = says.0

-- each part that the facts come to has a property
pub parts_all : (P : LinePartTree → Type 0) (k : Path → Full) (last : Option Path) (fs : List Fact) → ((f : Fact) → In f fs → P (known_part f (k f.path))) → All P (parts_by k last fs)
parts_all P k last [] each = All-nil P
parts_all P k last (f ∷ fs) each =
    let more : (g : Fact) → In g fs → P (known_part g (k g.path)) = λ g i. each g (inr i) in
    let next : Option Path = cond (is_value (k f.path)) (Some f.path) last in
    let M : Bool → Type 0 = λ b. All P (cond b (parts_by k last fs) (known_part f (k f.path) ∷ parts_by k next fs)) in
    let apart : M false = All-cons P (known_part f (k f.path)) (parts_by k next fs) (each f (inl refl)) (parts_all P k next fs more) in
    elim (is_written last f.path) as M [ true ↦ parts_all P k last fs more | false ↦ apart ]

have_parts : (facts : List Fact) (values : ℕ → Tree) → AgreesWithAll values facts → All (HasPart values) (parts_by (full facts) None facts)
have_parts facts values agree =
    parts_all (HasPart values) (full facts) None facts (λ f i. has_known values f (full facts f.path) (agrees_in values facts agree f i) (full_is_right facts values agree f.path))

-- Where they have the parts, they agree with the facts.

has_told : (values : ℕ → Tree) (a : LinePartTree) (f : Fact) → HasPart values a → Tells a f → AgreesWith values f
has_told values (valued p t) f has tells =
    let root = values p.var.number in
    let found = shape_item tells.rest t f.shape tells.shape in
    let item : item_at (p.at ++ tells.rest) root ≡ Some found.0 = item_append p.at tells.rest root ∙ (ap (option_and_then (item_at tells.rest)) has ∙ found.1) in
    let shape : shape_at_path (p.at ++ tells.rest) root ≡ Some f.shape = item_shape (p.at ++ tells.rest) root found.0 item ∙ ap Some found.2 in
    subst (λ (q : Path). shape_at_path q.at (values q.var.number) ≡ Some f.shape) (sym tells.path) shape
has_told values (measured p n) f has tells = subst (AgreesWith values) (sym tells) has

have_told : (values : ℕ → Tree) (parts : List LinePartTree) (f : Fact) → All (HasPart values) parts → AreTelling parts f → AgreesWith values f
have_told values [] f has tells = absurd tells
have_told values (a ∷ parts) f has (inl t) = has_told values a f (All-head (HasPart values) a parts has) t
have_told values (a ∷ parts) f has (inr t) = have_told values parts f (All-tail (HasPart values) a parts has) t

pub parts_tell_facts : PartsTellFacts
parts_tell_facts names facts are values =
    let each : All (HasPart values) (parts_by (full facts) None facts) → (f : Fact) → In f facts → AgreesWith values f = λ has f i.
    elim (all_told names facts are None tt facts (λ g j. j) f i) [
      | inl t ↦ have_told values (parts_by (full facts) None facts) f has t
      | inr t ↦ absurd t
    ] in
    (λ agree. have_parts facts values agree, λ has. agrees_from values facts (each has))

-- The parts are of the variables that the facts are of.

shape_part_of : (names : List (List ℕ)) (p : Path) (sh : Shape) → IsVariableOf (map global_variable names) p.var → IsPartOf names (shape_part p sh)
shape_part_of names p (Num n) h = h
shape_part_of names p (Truth b) h = h
shape_part_of names p (Items n) h = h

known_part_of : (names : List (List ℕ)) (f : Fact) (k : Full) → IsVariableOf (map global_variable names) f.path.var → IsPartOf names (known_part f k)
known_part_of names f absent h = shape_part_of names f.path f.shape h
known_part_of names f (undecided p) h = shape_part_of names f.path f.shape h
known_part_of names f too_long h = shape_part_of names f.path f.shape h
known_part_of names f (value t) h = h

pub parts_of_variables : (names : List (List ℕ)) (facts : List Fact) → AreOfVariables (map global_variable names) facts → All (IsPartOf names) (parts_by (full facts) None facts)
parts_of_variables names facts of =
    parts_all (IsPartOf names) (full facts) None facts (λ f i. known_part_of names f (full facts f.path) (of_variables_in (map global_variable names) facts of f i))
