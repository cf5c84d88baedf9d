-- Whether some two facts of a list clash depends on which facts it has.
use Rattle.std.proofs.Common.{◌≡◌, inl, inr, Bool, true, false, not, ◌&&◌, ◌||◌, cond, List, [], ◌∷◌, Some, refl, ap, ap₂, ◌∙◌}
use Rattle.std.proofs.lemmas.Bool.{or_from, or_parts, both_ways, cases_Bool}
use Rattle.tp_value.specs.declared.path.Fact.{Fact}
use Rattle.tp_store.specs.Facts.{same_path, same_shape, excludes, clash, kept_shape}
use Rattle.tp_store.specs.Known.{NoClash, clashes_with_some}
use Rattle.tp_store.proofs.Members.{In, meets_none}
use Rattle.tp_store.proofs.Paths.{same_path-refl, same_shape-decides}
use Rattle.tp_verdict.specs.Trace.{clash_somewhere}
use Rattle.tp_verdict.proofs.Torn.{apart}

all_apart : (fs : List Fact) → ((f g : Fact) → In f fs → In g fs → clash g f ≡ false) → clash_somewhere fs ≡ false
all_apart [] h = refl
all_apart (f ∷ fs) h = or_from (clashes_with_some fs f) (clash_somewhere fs) (meets_none fs f (λ g i. h f g (inl refl) (inr i))) (all_apart fs (λ f' g i j. h f' g (inr i) (inr j)))

pub clash_fewer : (fs gs : List Fact) → ((f : Fact) → In f fs → In f gs) → clash_somewhere gs ≡ false → clash_somewhere fs ≡ false
clash_fewer fs gs there h = all_apart fs (λ f g i j. apart gs h f g (there f i) (there g j))

pub clash_pair : (fs : List Fact) (f g : Fact) → In f fs → In g fs → clash g f ≡ true → clash_somewhere fs ≡ true
clash_pair fs f g i j t = elim (cases_Bool (clash_somewhere fs)) [ inl e ↦ e | inr e ↦ absurd (both_ways (clash g f) (apart fs e f g i j) t) ]

pub clash_alike : (fs gs : List Fact) → ((f : Fact) → In f fs → In f gs) → ((f : Fact) → In f gs → In f fs) → clash_somewhere fs ≡ clash_somewhere gs
clash_alike fs gs there back = by (clash_somewhere gs) refl (clash_somewhere fs) refl
  where
    by : (b : Bool) → clash_somewhere gs ≡ b → (c : Bool) → clash_somewhere fs ≡ c → c ≡ b
    by true e true d = refl
    by false e false d = refl
    by true e false d = absurd (both_ways (clash_somewhere gs) (clash_fewer gs fs back d) e)
    by false e true d = absurd (both_ways (clash_somewhere fs) (clash_fewer fs gs there e) d)

pub kept_apart : (fs : List Fact) → NoClash fs → clash_somewhere fs ≡ false
kept_apart [] n = refl
kept_apart (f ∷ fs) n = or_from (clashes_with_some fs f) (clash_somewhere fs) n.1 (kept_apart fs n.2)

-- facts of one path that don't clash have one shape
one_shape : (f g : Fact) → same_path f.path g.path ≡ true → clash f g ≡ false → f.shape ≡ g.shape
one_shape f g e h = by (same_shape f.shape g.shape) refl
  where
    part : (same_path f.path g.path && not (same_shape f.shape g.shape)) ≡ false
    part = (or_parts (same_path f.path g.path && not (same_shape f.shape g.shape)) (excludes f g.path || excludes g f.path) h).0

    by : (b : Bool) → same_shape f.shape g.shape ≡ b → f.shape ≡ g.shape
    by true s = (same_shape-decides f.shape g.shape).0 s
    by false s = absurd (both_ways (same_path f.path g.path && not (same_shape f.shape g.shape)) part (ap₂ (λ a b. a && not b) e s))

-- where no two facts clash each of them is kept
pub each_kept : (fs : List Fact) → clash_somewhere fs ≡ false → (f : Fact) → In f fs → kept_shape fs f.path ≡ Some f.shape
each_kept [] h f i = absurd i
each_kept (x ∷ xs) h f (inl e) =
    let t : same_path x.path f.path ≡ true = ap (λ (y : Fact). same_path y.path f.path) e ∙ same_path-refl f.path in
    ap (λ b. cond b (Some x.shape) (kept_shape xs f.path)) t ∙ ap (λ (y : Fact). Some y.shape) e
each_kept (x ∷ xs) h f (inr i) = by (each_kept xs (or_parts (clashes_with_some xs x) (clash_somewhere xs) h).1 f i) (same_path x.path f.path) refl
  where
    by : kept_shape xs f.path ≡ Some f.shape → (b : Bool) → same_path x.path f.path ≡ b → cond b (Some x.shape) (kept_shape xs f.path) ≡ Some f.shape
    by rest true e = ap Some (one_shape x f e (apart (x ∷ xs) h f x (inr i) (inl refl)))
    by rest false e = rest
