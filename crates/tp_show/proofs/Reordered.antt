-- Lists in other orders: what is made of their elements, and clashes of facts.
use Rattle.std.proofs.Common.{◌≡◌, inl, inr, ◌<◌, ℕ, zero, suc, false, not, eqb, ◌&&◌, ◌||◌, List, [], ◌∷◌, ◌++◌, length, All, refl, sym, ap, ap₂, ◌∙◌, subst, arith, append_assoc}
use Rattle.std.specs.List.{flat_map, list_any, swap, slice_set, slice_index_or}
use Rattle.std.specs.List.Sorted.{IsPermutation}
use Rattle.std.specs.Str.{bytes_eq}
use Rattle.std.proofs.lemmas.Bool.{and_right, not_from_true, or_from, or_parts}
use Rattle.std.proofs.lemmas.Bool.Decides.{Decides-like, same_from_decides}
use Rattle.std.proofs.lemmas.List.Edits.{swap_is}
use Rattle.std.proofs.lemmas.List.Elements.{All-nil, All-cons, All-head, All-tail}
use Rattle.std.proofs.lemmas.List.Sorted.{IsPermutation-refl, IsPermutation-trans, IsPermutation-append_left, IsPermutation-append_right, IsPermutation-append_comm, IsPermutation-keeps, All-permutation}
use Rattle.std.proofs.lemmas.Slice.Eq.{bytes_eq-Decides}
use Rattle.tp_value.specs.declared.path.Fact.{Fact}
use Rattle.tp_value.specs.declared.value.Shape.{Shape}
use Rattle.tp_store.specs.Facts.{same_variable, same_path, same_shape, leaves_out, excludes, clash}
use Rattle.tp_store.proofs.Paths.{same_shape-decides, clash-sym}
use Rattle.tp_show.specs.declared.named_fact.NamedFact.{NamedFact}
use Rattle.tp_show.specs.Trace.{some_variable, fact_in, names_clash, have_clash}
use Rattle.tp_show.proofs.TraceFiled.{ToldIn, all_apart}

module _ {A B : Type 0} (f : A → List B) where
  -- two blocks change places before a third
  blocks : (xs ys zs : List B) → IsPermutation (xs ++ (ys ++ zs)) (ys ++ (xs ++ zs))
  blocks xs ys zs =
      subst (λ l. IsPermutation l (ys ++ (xs ++ zs))) (append_assoc xs ys zs)
      (subst (λ l. IsPermutation ((xs ++ ys) ++ zs) l) (append_assoc ys xs zs)
      (IsPermutation-append_left zs (xs ++ ys) (ys ++ xs) (IsPermutation-append_comm xs ys)))

  -- the first element and one behind it change places
  exchanged : (d : A) (ys : List A) (j : ℕ) → j < length ys → IsPermutation (flat_map f (d ∷ ys)) (flat_map f (slice_index_or ys j d ∷ slice_set ys j d))
  exchanged d [] j h = absurd (omega (arith, h))
  exchanged d (y ∷ ys) zero h = blocks (f d) (f y) (flat_map f ys)
  exchanged d (y ∷ ys) (suc j) h =
      let x = slice_index_or ys j d in
      let rest = flat_map f (slice_set ys j d) in
      let later = IsPermutation-append_right (f y) (f d ++ flat_map f ys) (f x ++ rest) (exchanged d ys j (omega (arith, h))) in
      IsPermutation-trans (f d ++ (f y ++ flat_map f ys)) (f y ++ (f d ++ flat_map f ys)) (f x ++ (f y ++ rest)) (blocks (f d) (f y) (flat_map f ys))
      (IsPermutation-trans (f y ++ (f d ++ flat_map f ys)) (f y ++ (f x ++ rest)) (f x ++ (f y ++ rest)) later (blocks (f y) (f x) rest))

  swapped : (l : List A) (i j : ℕ) → i < length l → j < length l → IsPermutation (flat_map f l) (flat_map f (swap l i j))
  swapped [] i j h k = absurd (omega (arith, h))
  swapped (d ∷ ys) zero zero h k = IsPermutation-refl (flat_map f (d ∷ ys))
  swapped (d ∷ ys) zero (suc j) h k = exchanged d ys j (omega (arith, k))
  swapped (d ∷ ys) (suc i) zero h k = exchanged d ys i (omega (arith, h))
  swapped (d ∷ ys) (suc i) (suc j) h k =
      let a : i < length ys = omega (arith, h) in
      let b : j < length ys = omega (arith, k) in
      subst (λ l. IsPermutation (flat_map f (d ∷ ys)) (f d ++ flat_map f l)) (sym (swap_is ys i j d a b))
      (IsPermutation-append_right (f d) (flat_map f ys) (flat_map f (swap ys i j)) (swapped ys i j a b))

  -- what is made of the elements, one after another
  pub IsPermutation-flat_map : (xs ys : List A) → IsPermutation xs ys → IsPermutation (flat_map f xs) (flat_map f ys)
  IsPermutation-flat_map xs ys h =
      IsPermutation-keeps xs (λ l. IsPermutation (flat_map f xs) (flat_map f l)) (IsPermutation-refl (flat_map f xs))
      (λ l i j a b p. IsPermutation-trans (flat_map f xs) (flat_map f l) (flat_map f (swap l i j)) p (swapped l i j a b)) ys h

-- ---- clashes

bytes_eq-sym : (x y : List ℕ) → bytes_eq x y ≡ bytes_eq y x
bytes_eq-sym x y = same_from_decides (bytes_eq x y) (bytes_eq y x) (bytes_eq-Decides x y) (Decides-like (bytes_eq y x) (λ e. sym e) (λ e. sym e) (bytes_eq-Decides y x))

names_clash-sym : (f g : NamedFact) → names_clash f g ≡ names_clash g f
names_clash-sym f g = ap₂ (λ a b. a && b) (bytes_eq-sym f.name g.name) (clash-sym (fact_in some_variable f) (fact_in some_variable g))

none_of : (f : NamedFact) (fs : List NamedFact) → list_any (names_clash f) fs ≡ false → (g : NamedFact) → ToldIn g fs → names_clash f g ≡ false
none_of f [] h g i = absurd i
none_of f (x ∷ fs) h g (inl e) = ap (names_clash f) (sym e) ∙ (or_parts (names_clash f x) (list_any (names_clash f) fs) h).0
none_of f (x ∷ fs) h g (inr i) = none_of f fs (or_parts (names_clash f x) (list_any (names_clash f) fs) h).1 g i

-- no fact clashes with itself
leaves_itself : (at : List ℕ) (shape : Shape) → leaves_out at shape at ≡ false
leaves_itself [] shape = refl
leaves_itself (j ∷ at) shape = and_right (eqb j j) (leaves_out at shape at) (leaves_itself at shape)

clash_itself : (f : Fact) → clash f f ≡ false
clash_itself f =
    let same = and_right (same_path f.path f.path) (not (same_shape f.shape f.shape)) (not_from_true (same_shape f.shape f.shape) ((same_shape-decides f.shape f.shape).1 refl)) in
    let out : excludes f f.path ≡ false = and_right (same_variable f.path.var f.path.var) (leaves_out f.path.at f.shape f.path.at) (leaves_itself f.path.at f.shape) in
    or_from (same_path f.path f.path && not (same_shape f.shape f.shape)) (excludes f f.path || excludes f f.path) same (or_from (excludes f f.path) (excludes f f.path) out out)

names_clash_itself : (f : NamedFact) → names_clash f f ≡ false
names_clash_itself f = and_right (bytes_eq f.name f.name) (clash (fact_in some_variable f) (fact_in some_variable f)) (clash_itself (fact_in some_variable f))

-- where no two facts clash, none does with any other
each_apart : (fs : List NamedFact) → have_clash fs ≡ false → (f g : NamedFact) → ToldIn f fs → ToldIn g fs → names_clash f g ≡ false
each_apart [] h f g i j = absurd i
each_apart (x ∷ fs) h f g (inl e) (inl k) = ap₂ names_clash (sym e) (sym k) ∙ names_clash_itself x
each_apart (x ∷ fs) h f g (inl e) (inr j) =
    ap (λ (y : NamedFact). names_clash y g) (sym e) ∙ none_of x fs (or_parts (list_any (names_clash x) fs) (have_clash fs) h).0 g j
each_apart (x ∷ fs) h f g (inr i) (inl k) =
    ap (names_clash f) (sym k) ∙ (names_clash-sym f x ∙ none_of x fs (or_parts (list_any (names_clash x) fs) (have_clash fs) h).0 f i)
each_apart (x ∷ fs) h f g (inr i) (inr j) = each_apart fs (or_parts (list_any (names_clash x) fs) (have_clash fs) h).1 f g i j

are_told : (all fs : List NamedFact) → ((f : NamedFact) → ToldIn f fs → ToldIn f all) → All (λ f. ToldIn f all) fs
are_told all [] within = All-nil (λ f. ToldIn f all)
are_told all (f ∷ fs) within = All-cons (λ f. ToldIn f all) f fs (within f (inl refl)) (are_told all fs (λ g i. within g (inr i)))

one_told : (P : NamedFact → Type 0) (fs : List NamedFact) → All P fs → (f : NamedFact) → ToldIn f fs → P f
one_told P [] h f i = absurd i
one_told P (g ∷ fs) h f (inl e) = subst P e (All-head P g fs h)
one_told P (g ∷ fs) h f (inr i) = one_told P fs (All-tail P g fs h) f i

-- facts in another order clash no more
pub clash_reordered : (fs gs : List NamedFact) → IsPermutation fs gs → have_clash fs ≡ false → have_clash gs ≡ false
clash_reordered fs gs h free =
    let there : (f : NamedFact) → ToldIn f gs → ToldIn f fs = one_told (λ f. ToldIn f fs) gs (All-permutation (λ f. ToldIn f fs) fs gs h (are_told fs fs (λ f i. i))) in
    all_apart gs (λ f g i j. each_apart fs free f g (there f i) (there g j))
