-- The numbers that a scene's entries are given.
use Rattle.std.proofs.Common.{◌≡◌, ℕ, suc, ◌+◌, ◌-◌, ◌≤◌, [], ◌∷◌, refl, ap, sym, ◌∙◌, subst, arith, inl, inr}
use Rattle.std.proofs.lemmas.Bool.{cases_lt}
use Rattle.tp_scene.specs.Scene.{Head, Holder, Split, SplitProject, Running, Entries, none, leaf, node}
use Rattle.tp_scene.specs.Advance.{items_in, regions_in, regions_held, numbered_head, second_head, numbered}
use Rattle.tp_scene.specs.Fits.{AreNumbers, item_numbers, second_number, region_numbers}
use Rattle.tp_scene.proofs.Count.{count, count_none, count_first}
use Rattle.tp_scene.proofs.PutNumbers.{between, between_in, between_before, between_after, between_first, between_none, items, regions, items_leaf, items_node, regions_node}
use Rattle.tp_scene.proofs.StepsFit.{once_more}

between_join : (a b c x : ℕ) → a ≤ b → b ≤ c → between a b x + between b c x ≡ between a c x
between_join a b c x u v = elim (cases_lt x a) [
  | inl l ↦ (let p = between_before a b x l in let q = between_before b c x (omega arith) in let r = between_before a c x l in omega (arith, p, q, r))
  | inr l ↦ elim (cases_lt x b) [
    | inl k ↦ (let p = between_in a b x l k in let q = between_before b c x k in let r = between_in a c x l (omega arith) in omega (arith, p, q, r))
    | inr k ↦ elim (cases_lt x c) [
      | inl j ↦ (let p = between_after a b x k in let q = between_in b c x k j in let r = between_in a c x l j in omega (arith, p, q, r))
      | inr j ↦ (let p = between_after a b x k in let q = between_after b c x j in let r = between_after a c x j in omega (arith, p, q, r))
    ]
  ]
]

between_same : (a b c d x : ℕ) → a ≡ c → b ≡ d → between a b x ≡ between c d x
between_same a b c d x p q = λ i. between (p i) (q i) x

pub numbered_items : (x i r : ℕ) (es : Entries) → items x (numbered i r es) ≡ between i (i + items_in es) x
numbered_items x i r none = let e : i + 0 ≡ i = omega arith in count_none x ∙ sym (ap (λ b. between i b x) e ∙ between_none i x)
numbered_items x i r (leaf id l rest) =
    let p = items_leaf x i l (numbered (i + 1) r rest) in
    let q = numbered_items x (i + 1) r rest in
    let s = between_first i (i + suc (items_in rest)) x (omega arith) in
    let t = between_same (i + 1) (i + 1 + items_in rest) (suc i) (i + suc (items_in rest)) x (omega arith) (omega arith) in
    omega (arith, p, q, s, t)
numbered_items x i r (node id k h held g second rest) =
    let at = i + items_in held in
    let outer = r + 1 + regions_in held in
    let rs = r + regions_held k + regions_in held in
    let p = items_node x at k (numbered_head r h) (numbered i (r + 1) held) (second_head k outer g) (numbered (at + 1) rs second) (numbered (at + 1 + items_in second) (rs + regions_in second) rest) in
    let a = numbered_items x i (r + 1) held in
    let b = numbered_items x (at + 1) rs second in
    let c = numbered_items x (at + 1 + items_in second) (rs + regions_in second) rest in
    let top = i + suc (items_in held + items_in second + items_in rest) in
    let j1 = between_join (at + 1) (at + 1 + items_in second) top x (omega arith) (omega arith) in
    let t = between_same (at + 1 + items_in second) (at + 1 + items_in second + items_in rest) (at + 1 + items_in second) top x refl (omega arith) in
    let f = between_first at top x (omega arith) in
    let s = between_same (at + 1) top (suc at) top x (omega arith) refl in
    let j2 = between_join i at top x (omega arith) (omega arith) in
    omega (arith, p, a, b, c, j1, t, f, s, j2)

one_region : (x o : ℕ) → count x (o ∷ []) ≡ between o (o + 1) x
one_region x o =
    let a = count_first x o [] in
    let b = count_none x in
    let c = between_first o (o + 1) x (omega arith) in
    let e : suc o ≡ o + 1 = omega arith in
    let d = ap (λ s. between s (o + 1) x) e ∙ between_none (o + 1) x in
    omega (arith, a, b, c, d)

second_counted : (x o : ℕ) (k : Holder) (g : Head) → count x (second_number k (second_head k o g)) ≡ between o (o + (regions_held k - 1)) x
second_counted x o (SplitProject f env) g = one_region x o
second_counted x o (Running f env) g = one_region x o
second_counted x o k g = let e : o + 0 ≡ o = omega arith in count_none x ∙ sym (ap (λ b. between o b x) e ∙ between_none o x)

holds_one : (k : Holder) → 1 ≤ regions_held k
holds_one (Split f env) = omega arith
holds_one k = omega arith

pub numbered_regions : (x i r : ℕ) (es : Entries) → regions x (numbered i r es) ≡ between r (r + regions_in es) x
numbered_regions x i r none = let e : r + 0 ≡ r = omega arith in count_none x ∙ sym (ap (λ b. between r b x) e ∙ between_none r x)
numbered_regions x i r (leaf id l rest) = numbered_regions x (i + 1) r rest
numbered_regions x i r (node id k h held g second rest) =
    let at = i + items_in held in
    let outer = r + 1 + regions_in held in
    let rs = r + regions_held k + regions_in held in
    let one = holds_one k in
    let p = regions_node x at k (numbered_head r h) (numbered i (r + 1) held) (second_head k outer g) (numbered (at + 1) rs second) (numbered (at + 1 + items_in second) (rs + regions_in second) rest) in
    let a = numbered_regions x i (r + 1) held in
    let n = second_counted x outer k g in
    let b = numbered_regions x (at + 1) rs second in
    let c = numbered_regions x (at + 1 + items_in second) (rs + regions_in second) rest in
    let top = r + (regions_held k + regions_in held + regions_in second + regions_in rest) in
    let t = between_same (rs + regions_in second) (rs + regions_in second + regions_in rest) (rs + regions_in second) top x refl (omega arith) in
    let j1 = between_join rs (rs + regions_in second) top x (omega arith) (omega arith) in
    let s = between_same outer (outer + (regions_held k - 1)) outer rs x refl (omega (arith, one)) in
    let j2 = between_join outer rs top x (omega (arith, one)) (omega arith) in
    let u = between_same (r + 1) (r + 1 + regions_in held) (r + 1) outer x refl refl in
    let j3 = between_join (r + 1) outer top x (omega arith) (omega (arith, one)) in
    let f = between_first r top x (omega (arith, one)) in
    let v = between_same (r + 1) top (suc r) top x (omega arith) refl in
    omega (arith, p, a, n, b, c, t, j1, s, j2, u, j3, f, v)

pub items_once : (es : Entries) → AreNumbers (items_in es) (item_numbers (numbered 0 1 es))
items_once es =
    let e : 0 + items_in es ≡ items_in es = omega arith in
    subst (λ c. AreNumbers c (item_numbers (numbered 0 1 es))) e (once_more 0 (items_in es) [] (item_numbers (numbered 0 1 es)) tt (λ x. let q = numbered_items x 0 1 es in omega (arith, q)))

pub regions_once : (es : Entries) → AreNumbers (1 + regions_in es) (0 ∷ region_numbers (numbered 0 1 es))
regions_once es =
    let e : 0 + (1 + regions_in es) ≡ 1 + regions_in es = omega arith in
    subst (λ c. AreNumbers c (0 ∷ region_numbers (numbered 0 1 es))) e (once_more 0 (1 + regions_in es) [] (0 ∷ region_numbers (numbered 0 1 es)) tt
    (λ x.
    let q = numbered_regions x 0 1 es in
    let f = count_first x 0 (region_numbers (numbered 0 1 es)) in
    let b = between_first 0 (0 + (1 + regions_in es)) x (omega arith) in
    let s = between_same 1 (1 + regions_in es) (suc 0) (0 + (1 + regions_in es)) x refl (omega arith) in
    omega (arith, q, f, b, s)))

-- each number below the next ones is given
pub item_given : (es : Entries) (t : ℕ) → suc t ≤ items_in es → 1 ≤ items t (numbered 0 1 es)
item_given es t l = let q = numbered_items t 0 1 es in let b = between_in 0 (0 + items_in es) t (omega arith) (omega (arith, l)) in omega (arith, q, b)

pub region_given : (es : Entries) (r : ℕ) → 1 ≤ r → suc r ≤ 1 + regions_in es → 1 ≤ regions r (numbered 0 1 es)
region_given es r a l = let q = numbered_regions r 0 1 es in let b = between_in 1 (1 + regions_in es) r a (omega (arith, l)) in omega (arith, q, b)
