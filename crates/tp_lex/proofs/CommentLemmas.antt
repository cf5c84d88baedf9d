-- Where a comment closes, from star to star.
use Rattle.std.proofs.Common.{refl, ap, sym, subst, ◌∙◌, ◌≡◌, ℕ, suc, ◌+◌, ◌-◌, ◌<◌, ◌≤◌, Bool, true, false, cond, List, [], ◌∷◌, length, take, drop, take_all, nat_eq, Option, Some, None, arith, codes, length-drop}
use Rattle.std.specs.Option.{option_map}
use Rattle.std.specs.List.{starts_with, prefix_len}
use Rattle.std.proofs.lemmas.Bool.Decides.{nat_tests}
use Rattle.std.proofs.lemmas.List.{drop-drop}
use Rattle.std.proofs.lemmas.List.Sums.{prefix_len-le-length}
use Rattle.tp_lanes.specs.Classes.{in_class}
use Rattle.tp_lex.specs.declared.first.TheConstants.{NO_STARS}
use Rattle.tp_lex.specs.First.{first_close}

-- no star
abbrev pub plain : ℕ → Bool
plain b = in_class NO_STARS b

map_later : (i m : ℕ) (found : Option ℕ) → option_map (λ n. i + n) (option_map (λ n. m + n) found) ≡ option_map (λ n. (i + m) + n) found
map_later i m None = refl
map_later i m (Some n) = let e : i + (m + n) ≡ (i + m) + n = omega arith in ap Some e

map_none : (found : Option ℕ) → found ≡ option_map (λ n. 0 + n) found
map_none None = refl
map_none (Some n) = let e : n ≡ 0 + n = omega arith in ap Some e

map_suc : (m : ℕ) (found : Option ℕ) → option_map suc (option_map (λ n. m + n) found) ≡ option_map (λ n. (1 + m) + n) found
map_suc m None = refl
map_suc m (Some n) = let e : suc (m + n) ≡ (1 + m) + n = omega arith in ap Some e

plain_first : (b : ℕ) (z : List ℕ) → plain b ≡ true → starts_with nat_eq (b ∷ z) (codes "*/") ≡ false
plain_first b z e = let no : nat_eq 42 b ≡ false = grind (arith, nat_tests) in rw no refl

-- the bytes before the first star close nothing
pub before_star : (z : List ℕ) → first_close z ≡ option_map (λ n. prefix_len plain z + n) (first_close (drop (prefix_len plain z) z))
before_star [] = refl
before_star (b ∷ z) = at (plain b) refl (before_star z)
  where
    at : (t : Bool) → plain b ≡ t → first_close z ≡ option_map (λ n. prefix_len plain z + n) (first_close (drop (prefix_len plain z) z))
        → first_close (b ∷ z) ≡ option_map (λ n. cond t (1 + prefix_len plain z) 0 + n) (first_close (drop (cond t (1 + prefix_len plain z) 0) (b ∷ z)))
    at true e below =
        let m : ℕ = prefix_len plain z in
        let one : suc m ≡ 1 + m = omega arith in
        let here : first_close (b ∷ z) ≡ option_map suc (first_close z) = ap (λ t. cond t (Some 0) (option_map suc (first_close z))) (plain_first b z e) in
        let later : first_close (b ∷ z) ≡ option_map (λ n. (1 + m) + n) (first_close (drop m z)) = here ∙ (ap (option_map suc) below ∙ map_suc m (first_close (drop m z))) in
        later ∙ ap (λ (k : ℕ). option_map (λ n. (1 + m) + n) (first_close (drop k (b ∷ z)))) one
    at false e below = map_none (first_close (b ∷ z))

closes : (z : List ℕ) → starts_with nat_eq z (codes "*/") ≡ true → first_close z ≡ Some 0
closes [] e = absurd cc
closes (b ∷ z) e = ap (λ t. cond t (Some 0) (option_map suc (first_close z))) e

passes : (z : List ℕ) → starts_with nat_eq z (codes "*/") ≡ false → first_close z ≡ option_map (λ n. 1 + n) (first_close (drop 1 z))
passes [] e = refl
passes (b ∷ z) e = ap (λ t. cond t (Some 0) (option_map suc (first_close z))) e ∙ same (first_close z)
  where
    same : (found : Option ℕ) → option_map suc found ≡ option_map (λ n. 1 + n) found
    same None = refl
    same (Some n) = let e : suc n ≡ 1 + n = omega arith in ap Some e

-- from a place up to the next star
to_star : (z : List ℕ) (at m : ℕ) → first_close z ≡ option_map (λ n. at + n) (first_close (drop at z)) → m ≡ prefix_len plain (drop at z)
    → first_close z ≡ option_map (λ n. (at + m) + n) (first_close (drop (at + m) z))
to_star z at m before is =
    let next : first_close (drop at z) ≡ option_map (λ n. m + n) (first_close (drop m (drop at z))) = subst (λ (k : ℕ). first_close (drop at z) ≡ option_map (λ n. k + n) (first_close (drop k (drop at z)))) (sym is) (before_star (drop at z)) in
    before ∙ (ap (option_map (λ n. at + n)) next ∙ (map_later at m (first_close (drop m (drop at z))) ∙ ap (λ x. option_map (λ n. (at + m) + n) (first_close x)) (drop-drop m at z)))

-- a slice from a place on is all that stands behind the place
behind : (z : List ℕ) (at : ℕ) → at ≤ length z → take (length z - at) (drop at z) ≡ drop at z
behind z at within = take_all (length z - at) (drop at z) (omega (arith, length-drop at z))

run_behind : (z : List ℕ) (at m : ℕ) → at < length z → m ≡ prefix_len plain (take (length z - at) (drop at z)) → m ≡ prefix_len plain (drop at z)
run_behind z at m inside is = is ∙ ap (prefix_len plain) (behind z at (omega (arith, inside)))

-- no further than the end
pub star_within : (z : List ℕ) (at m : ℕ) → at < length z → m ≡ prefix_len plain (take (length z - at) (drop at z)) → at + m ≤ length z
star_within z at m inside is =
    let run : m ≡ prefix_len plain (drop at z) = run_behind z at m inside is in
    omega (arith, inside, run, prefix_len-le-length plain (drop at z), length-drop at z)

test_behind : (z : List ℕ) (k : ℕ) (t : Bool) → k ≤ length z → starts_with nat_eq (take (length z - k) (drop k z)) (codes "*/") ≡ t → starts_with nat_eq (drop k z) (codes "*/") ≡ t
test_behind z k t within = subst (λ (x : List ℕ). starts_with nat_eq x (codes "*/") ≡ t) (behind z k within)

pub star_closes : (z : List ℕ) (at m : ℕ) → at < length z → first_close z ≡ option_map (λ n. at + n) (first_close (drop at z)) → m ≡ prefix_len plain (take (length z - at) (drop at z))
    → starts_with nat_eq (take (length z - (at + m)) (drop (at + m) z)) (codes "*/") ≡ true → Some (at + m) ≡ first_close z
star_closes z at m inside before is test =
    let here : starts_with nat_eq (drop (at + m) z) (codes "*/") ≡ true = test_behind z (at + m) true (star_within z at m inside is) test in
    let e : (at + m) + 0 ≡ at + m = omega arith in
    sym (to_star z at m before (run_behind z at m inside is) ∙ (ap (option_map (λ n. (at + m) + n)) (closes (drop (at + m) z) here) ∙ ap Some e))

pub star_passes : (z : List ℕ) (at m : ℕ) → at < length z → first_close z ≡ option_map (λ n. at + n) (first_close (drop at z)) → m ≡ prefix_len plain (take (length z - at) (drop at z))
    → starts_with nat_eq (take (length z - (at + m)) (drop (at + m) z)) (codes "*/") ≡ false → first_close z ≡ option_map (λ n. ((at + m) + 1) + n) (first_close (drop ((at + m) + 1) z))
star_passes z at m inside before is test =
    let here : starts_with nat_eq (drop (at + m) z) (codes "*/") ≡ false = test_behind z (at + m) false (star_within z at m inside is) test in
    to_star z at m before (run_behind z at m inside is) ∙ (ap (option_map (λ n. (at + m) + n)) (passes (drop (at + m) z) here)
    ∙ (map_later (at + m) 1 (first_close (drop 1 (drop (at + m) z))) ∙ ap (λ x. option_map (λ n. ((at + m) + 1) + n) (first_close x)) (drop-drop 1 (at + m) z)))
