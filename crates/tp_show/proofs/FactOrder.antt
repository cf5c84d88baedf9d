-- Facts in order.
use Rattle.std.proofs.Common.{◌≡◌, ℕ, Bool, ◌&&◌, ◌||◌, ltb, eqb, List, refl, sym, ◌∙◌, arith}
use Rattle.std.specs.Cmp.{IsTotalOrder, IsStrictWeakOrder}
use Rattle.std.specs.Cmp.Lexicographic.{slice_cmp}
use Rattle.std.specs.Ordering.{nat_cmp, ordering_then, is_lt, is_gt}
use Rattle.std.specs.declared.cmp.Ordering.{Ordering}
use Rattle.std.proofs.lemmas.Bool.Decides.{nat_tests}
use Rattle.std.proofs.lemmas.Cmp.{nat_cmp_total, nat_list_cmp_total, on_total, then_total, same_from_slice_cmp}
use Rattle.std.proofs.lemmas.List.Sorted.{ranks_by}
use Rattle.tp_value.specs.declared.path.Fact.{Fact}
use Rattle.tp_store.specs.Known.{is_lesser}
use Rattle.tp_show.specs.Line.{is_before}

-- the order of facts by their numbers and indices
abbrev pub order_of : Fact → Fact → Ordering
order_of f g = ordering_then (nat_cmp f.path.var.number g.path.var.number) (slice_cmp nat_cmp f.path.at g.path.at)

order-total : IsTotalOrder order_of
order-total = then_total (on_total (λ (f : Fact). f.path.var.number) nat_cmp_total) (on_total (λ (f : Fact). f.path.at) nat_list_cmp_total)

lesser_is : (a b : List ℕ) → is_lt (slice_cmp nat_cmp a b) ≡ is_lesser a b
lesser_is a b = same_from_slice_cmp nat_cmp is_lt is_lesser refl (λ _ _. refl) (λ _ _. refl) (λ x y xs ys o h. grind (arith, nat_tests)) a b (slice_cmp nat_cmp a b) refl

greater_is : (a b : List ℕ) → is_gt (slice_cmp nat_cmp a b) ≡ is_lesser b a
greater_is a b = same_from_slice_cmp nat_cmp is_gt (λ x y. is_lesser y x) refl (λ _ _. refl) (λ _ _. refl) (λ x y xs ys o h. grind (arith, nat_tests)) a b (slice_cmp nat_cmp a b) refl

then_less : (m n : ℕ) (o : Ordering) (p : Bool) → is_lt o ≡ p → is_lt (ordering_then (nat_cmp m n) o) ≡ (ltb m n || (eqb m n && p))
then_less m n o p h = grind (arith, nat_tests)

then_greater : (m n : ℕ) (o : Ordering) (p : Bool) → is_gt o ≡ p → is_gt (ordering_then (nat_cmp m n) o) ≡ (ltb n m || (eqb n m && p))
then_greater m n o p h = grind (arith, nat_tests)

pub before_is : (f g : Fact) → is_lt (order_of f g) ≡ is_before f g
before_is f g = then_less f.path.var.number g.path.var.number (slice_cmp nat_cmp f.path.at g.path.at) (is_lesser f.path.at g.path.at) (lesser_is f.path.at g.path.at)

pub after_is : (f g : Fact) → is_gt (order_of f g) ≡ is_before g f
after_is f g = then_greater f.path.var.number g.path.var.number (slice_cmp nat_cmp f.path.at g.path.at) (is_lesser g.path.at f.path.at) (greater_is f.path.at g.path.at)

pub is_before-order : IsStrictWeakOrder is_before
is_before-order =
    let w : IsStrictWeakOrder (λ x y. is_lt (order_of x y)) = ranks_by order-total (λ (f : Fact). f) in
    record {
      one_way = λ x y h. sym (before_is y x) ∙ w.one_way x y (before_is x y ∙ h);
      chain = λ x y z h k. sym (before_is x z) ∙ w.chain x y z (before_is x y ∙ h) (before_is y z ∙ k);
    }
