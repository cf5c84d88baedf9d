-- A place is filed under one key.
use Rattle.std.proofs.Common.{◌≡◌, ℕ, suc, ◌<◌, ◌≤◌, Bool, true, false, ◌&&◌, cond, List, [], ◌∷◌, ◌++◌, length, length-append, get_or, nat_eq, take, unwrap_or, Option, Some, refl, ap, ap₂, sym, ◌∙◌, subst, inl, inr, arith}
use Rattle.std.proofs.Math.Bool.{and-true}
use Rattle.std.proofs.lemmas.Bool.{and_right, cases_Bool, cases_eq}
use Rattle.std.proofs.lemmas.Bool.Decides.{Decides-eqb}
use Rattle.std.proofs.lemmas.List.{get_or_push}
use Rattle.std.specs.Cmp.Lexicographic.{pointwise}
use Rattle.indexmap.specs.IndexMap.{get}
use Rattle.tp_value.specs.declared.path.VarId.{VarId}
use Rattle.tp_value.specs.declared.path.Path.{Path}
use Rattle.tp_agenda.specs.declared.index.Link.{Link}
use Rattle.tp_agenda.specs.declared.index.Item.{Item}
use Rattle.tp_agenda.specs.declared.index.Index.{Index}
use Rattle.tp_agenda.specs.Index.{no_link, places_named, equal_items, equal_paths, equal_variables, kept_of, newest_at, newest_for, IsChained, HasFiled, IsPushed}
use Rattle.tp_agenda.proofs.Links.{LeadBack, lead_back, named_new, named_old, still_there, equal_paths-decides}

abbrev named_from : List Link → ℕ → List ℕ
named_from ls n = places_named n ls n

newest_now : (b : Bool) (v : ℕ) (o : Option ℕ) → unwrap_or (cond b (Some v) o) 0 ≡ cond b v (unwrap_or o 0)
newest_now true v o = refl
newest_now false v o = refl

-- The newest links of keys lead to the same places as before, with one more for each key that passes the test.
record AreFiled {K : Type 0} (ls ls' : List Link) (place : ℕ) (heads heads' : K → ℕ) (test : K → Bool) : Type 0 where
  fit : (q : K) → heads' q ≤ length ls'
  places : (q : K) → named_from ls' (heads' q) ≡ cond (test q) (place ∷ named_from ls (heads q)) (named_from ls (heads q))

-- Keys with their newest links, before and after a link was put in front of the n-th, which is the
-- newest of each key that passes the test.
module _ {K : Type 0} (ls ls' : List Link) (place n : ℕ) (heads heads' : K → ℕ) (test : K → Bool)
    (back : LeadBack ls) (fit : (q : K) → heads q ≤ length ls) (within : n ≤ length ls)
    (same : (q : K) → test q ≡ true → heads q ≡ n)
    (grown : ls' ≡ ls ++ record { place = place; next = n } ∷ [])
    (now : (q : K) → heads' q ≡ cond (test q) (suc (length ls)) (heads q)) where
  now_at : (b : Bool) (q : K) → test q ≡ b → heads' q ≡ cond b (suc (length ls)) (heads q)
  now_at b q e = now q ∙ ap (λ z. cond z (suc (length ls)) (heads q)) e

  heads_fit : (q : K) → heads' q ≤ length ls'
  heads_fit q =
      let a = length-append ls (record { place = place; next = n } ∷ []) in
      let g = ap length grown in
      let f = fit q in
      elim (cases_Bool (test q)) [
        | inl is_so ↦ (let e : heads' q ≡ suc (length ls) = now_at true q is_so in omega (arith, a, g, e))
        | inr isnt ↦ (let e : heads' q ≡ heads q = now_at false q isnt in omega (arith, a, g, e, f))
      ]

  filed_one : (q : K) → named_from ls' (heads' q) ≡ cond (test q) (place ∷ named_from ls (heads q)) (named_from ls (heads q))
  filed_one q = elim (cases_Bool (test q)) [
    | inl is_so ↦ ap (named_from ls') (now_at true q is_so) ∙ ap (λ z. named_from z (suc (length ls))) grown ∙ named_new ls back place n within
        ∙ ap (λ z. place ∷ named_from ls z) (sym (same q is_so)) ∙ ap (λ z. cond z (place ∷ named_from ls (heads q)) (named_from ls (heads q))) (sym is_so)
    | inr isnt ↦ ap (named_from ls') (now_at false q isnt) ∙ ap (λ z. named_from z (heads q)) grown ∙ named_old ls back place n within (heads q) (fit q)
        ∙ ap (λ z. cond z (place ∷ named_from ls (heads q)) (named_from ls (heads q))) (sym isnt)
  ]

  keys_filed : AreFiled ls ls' place heads heads' test
  keys_filed = record { fit = heads_fit; places = filed_one }

-- the link is that of one key
key_filed : {K : Type 0} (ls ls' : List Link) (place v : ℕ) (key : K) (test : K → Bool) → ((q : K) → test q ≡ true → key ≡ q) → (kept kept' : K → Option ℕ) → LeadBack ls
    → ((q : K) → unwrap_or (kept q) 0 ≤ length ls) → ls' ≡ ls ++ record { place = place; next = unwrap_or (kept key) 0 } ∷ [] → v ≡ suc (length ls)
    → ((q : K) → kept' q ≡ cond (test q) (Some v) (kept q)) → AreFiled ls ls' place (λ q. unwrap_or (kept q) 0) (λ q. unwrap_or (kept' q) 0) test
key_filed {K} ls ls' place v key test decides kept kept' back fit grown e put =
    let heads : K → ℕ = λ q. unwrap_or (kept q) 0 in
    let heads' : K → ℕ = λ q. unwrap_or (kept' q) 0 in
    let now : (q : K) → heads' q ≡ cond (test q) (suc (length ls)) (heads q) =
    (λ q. ap (λ o. unwrap_or o 0) (put q) ∙ newest_now (test q) v (kept q) ∙ ap (λ z. cond (test q) z (heads q)) e) in
    keys_filed ls ls' place (heads key) heads heads' test back fit (fit key) (λ q is_so. ap heads (sym (decides q is_so))) grown now

-- keys whose newest links stay
module _ {K : Type 0} (ls ls' : List Link) (place n : ℕ) (heads heads' : K → ℕ) (back : LeadBack ls) (fit : (q : K) → heads q ≤ length ls) (within : n ≤ length ls)
    (grown : ls' ≡ ls ++ record { place = place; next = n } ∷ []) (now : (q : K) → heads' q ≡ heads q) where
  others_fit : (q : K) → heads' q ≤ length ls'
  others_fit q =
      let a = length-append ls (record { place = place; next = n } ∷ []) in
      let g = ap length grown in
      let f = fit q in
      let e = now q in
      omega (arith, a, g, e, f)

  others_stay : (q : K) → named_from ls' (heads' q) ≡ named_from ls (heads q)
  others_stay q = ap (named_from ls') (now q) ∙ ap (λ z. named_from z (heads q)) grown ∙ named_old ls back place n within (heads q) (fit q)

  others_filed : AreFiled ls ls' place heads heads' (λ q. false)
  others_filed = record { fit = others_fit; places = others_stay }

abbrev HasLink : (old new : Index) → (place n : ℕ) → Type 0
HasLink old new place n = new.links.items ≡ old.links.items ++ record { place = place; next = n } ∷ []

has_filed : (old new : Index) (place n : ℕ) → IsChained old → HasLink old new place n → n ≤ length old.links.items → (path : Path → Bool) (region : ℕ → Bool)
    → AreFiled old.links.items new.links.items place (newest_at old) (newest_at new) path
    → AreFiled old.links.items new.links.items place (newest_for old) (newest_for new) region → HasFiled old new place path region
has_filed old new place n h grown within path region at for = record {
  chained = record { nexts = subst LeadBack (sym grown) (lead_back old.links.items h.nexts place n within); paths_fit = at.fit; ends_fit = for.fit };
  paths = at.places;
  ends = for.places;
}

pub filed_under_path : (old new : Index) (path : Path) (place v : ℕ) → IsChained old → HasLink old new place (newest_at old path) → v ≡ suc (length old.links.items)
    → ((q : Path) → kept_of new q q.at ≡ cond (equal_paths path q) (Some v) (kept_of old q q.at)) → ((r : ℕ) → newest_for new r ≡ newest_for old r)
    → HasFiled old new place (equal_paths path) (λ r. false)
filed_under_path old new path place v h grown e put stay =
    let ls = old.links.items in
    let n = newest_at old path in
    has_filed old new place n h grown (h.paths_fit path) (equal_paths path) (λ r. false)
    (key_filed ls new.links.items place v path (equal_paths path) (λ q. (equal_paths-decides path q).0) (λ q. kept_of old q q.at) (λ q. kept_of new q q.at) h.nexts h.paths_fit grown e put)
    (others_filed ls new.links.items place n (newest_for old) (newest_for new) h.nexts h.ends_fit (h.paths_fit path) grown stay)

-- the links of an item are kept by its index, and those of paths with more indices by the paths
pub item_found : (x : Index) (p : Path) (at : List ℕ) → length at ≡ 1 → kept_of x p at ≡ get equal_items x.items (record { var = p.var; index = get_or at 0 0 })
item_found x p [] one = absurd (omega (arith, one))
item_found x p (k ∷ []) one = refl
item_found x p (j ∷ k ∷ ks) one = absurd (omega (arith, one))

pub part_found : (x : Index) (p : Path) (at : List ℕ) → 1 < length at → kept_of x p at ≡ get equal_paths x.parts p
part_found x p [] some = absurd (omega (arith, some))
part_found x p (k ∷ []) some = absurd (omega (arith, some))
part_found x p (j ∷ k ∷ ks) some = refl

pub first_taken : (at : List ℕ) → 0 < length at → take 1 at ≡ get_or at 0 0 ∷ []
first_taken [] some = absurd (omega (arith, some))
first_taken (k ∷ ks) some = refl

-- a test that fails beside another
off : (b c : Bool) → (b && (c && false)) ≡ false
off b c = ap (λ z. b && z) (and_right c false refl) ∙ and_right b false refl

unchanged : (v : ℕ) (b : Bool) (old new : Option ℕ) → b ≡ false → new ≡ old → new ≡ cond b (Some v) old
unchanged v b old new isnt same = same ∙ ap (λ z. cond z (Some v) old) (sym isnt)

-- a map of one kind of paths got a link, and the others are as they were
pub whole_kept : (old new : Index) (x : VarId) (v : ℕ) → ((y : VarId) → get equal_variables new.wholes y ≡ cond (equal_variables x y) (Some v) (get equal_variables old.wholes y))
    → new.items ≡ old.items → new.parts ≡ old.parts → (q : Path) (at : List ℕ) → kept_of new q at ≡ cond (equal_variables x q.var && pointwise nat_eq [] at) (Some v) (kept_of old q at)
whole_kept old new x v put items parts q [] = put q.var ∙ ap (λ b. cond b (Some v) (get equal_variables old.wholes q.var)) (sym (and-true (equal_variables x q.var)))
whole_kept old new x v put items parts q (k ∷ []) =
    unchanged v (equal_variables x q.var && false) (kept_of old q (k ∷ [])) (kept_of new q (k ∷ [])) (and_right (equal_variables x q.var) false refl)
    (ap (λ m. get equal_items m (record { var = q.var; index = k })) items)
whole_kept old new x v put items parts q (j ∷ k ∷ ks) =
    unchanged v (equal_variables x q.var && false) (kept_of old q (j ∷ k ∷ ks)) (kept_of new q (j ∷ k ∷ ks)) (and_right (equal_variables x q.var) false refl)
    (ap (λ m. get equal_paths m q) parts)

pub item_kept : (old new : Index) (i : Item) (v : ℕ) → ((j : Item) → get equal_items new.items j ≡ cond (equal_items i j) (Some v) (get equal_items old.items j))
    → new.wholes ≡ old.wholes → new.parts ≡ old.parts → (q : Path) (at : List ℕ) → kept_of new q at ≡ cond (equal_variables i.var q.var && pointwise nat_eq (i.index ∷ []) at) (Some v) (kept_of old q at)
item_kept old new i v put wholes parts q [] =
    unchanged v (equal_variables i.var q.var && false) (kept_of old q []) (kept_of new q []) (and_right (equal_variables i.var q.var) false refl)
    (ap (λ m. get equal_variables m q.var) wholes)
item_kept old new i v put wholes parts q (k ∷ []) = put (record { var = q.var; index = k })
    ∙ ap (λ b. cond (equal_variables i.var q.var && b) (Some v) (kept_of old q (k ∷ []))) (sym (and-true (nat_eq i.index k)))
item_kept old new i v put wholes parts q (j ∷ k ∷ ks) =
    unchanged v (equal_variables i.var q.var && (nat_eq i.index j && false)) (kept_of old q (j ∷ k ∷ ks)) (kept_of new q (j ∷ k ∷ ks)) (off (equal_variables i.var q.var) (nat_eq i.index j))
    (ap (λ m. get equal_paths m q) parts)

pub part_kept : (old new : Index) (p : Path) (v : ℕ) → ((q : Path) → get equal_paths new.parts q ≡ cond (equal_paths p q) (Some v) (get equal_paths old.parts q))
    → new.wholes ≡ old.wholes → new.items ≡ old.items → (q : Path) (of at : List ℕ) → 1 < length of → of ≡ p.at → at ≡ q.at
    → kept_of new q at ≡ cond (equal_variables p.var q.var && pointwise nat_eq of at) (Some v) (kept_of old q at)
part_kept old new p v put wholes items q [] at some e e' = absurd (omega (arith, some))
part_kept old new p v put wholes items q (i ∷ []) at some e e' = absurd (omega (arith, some))
part_kept old new p v put wholes items q (i ∷ j ∷ js) [] some e e' =
    unchanged v (equal_variables p.var q.var && false) (kept_of old q []) (kept_of new q []) (and_right (equal_variables p.var q.var) false refl)
    (ap (λ m. get equal_variables m q.var) wholes)
part_kept old new p v put wholes items q (i ∷ j ∷ js) (k ∷ []) some e e' =
    unchanged v (equal_variables p.var q.var && (nat_eq i k && false)) (kept_of old q (k ∷ [])) (kept_of new q (k ∷ [])) (off (equal_variables p.var q.var) (nat_eq i k))
    (ap (λ m. get equal_items m (record { var = q.var; index = k })) items)
part_kept old new p v put wholes items q (i ∷ j ∷ js) (k ∷ l ∷ ls) some e e' =
    put q ∙ ap₂ (λ a b. cond (equal_variables p.var q.var && pointwise nat_eq a b) (Some v) (get equal_paths old.parts q)) (sym e) (sym e')

pub filed_under_end : (old new : Index) (region : ℕ) (place v : ℕ) → IsChained old → HasLink old new place (newest_for old region) → v ≡ suc (length old.links.items)
    → ((r : ℕ) → get nat_eq new.ends r ≡ cond (nat_eq region r) (Some v) (get nat_eq old.ends r)) → ((q : Path) → newest_at new q ≡ newest_at old q)
    → HasFiled old new place (λ q. false) (nat_eq region)
filed_under_end old new region place v h grown e put stay =
    let ls = old.links.items in
    let n = newest_for old region in
    has_filed old new place n h grown (h.ends_fit region) (λ q. false) (nat_eq region)
    (others_filed ls new.links.items place n (newest_at old) (newest_at new) h.nexts h.paths_fit (h.ends_fit region) grown stay)
    (key_filed ls new.links.items place v region (nat_eq region) (λ r. (Decides-eqb region r).0) (get nat_eq old.ends) (get nat_eq new.ends) h.nexts h.ends_fit grown e put)

-- the new link names the place
pub pushed : (old new : Index) (place n : ℕ) → HasLink old new place n → IsPushed old new place
pushed old new place n grown k less =
    let ls = old.links.items in
    let x : Link = record { place = place; next = n } in
    let a = length-append ls (x ∷ []) in
    let g = ap length grown in
    elim (cases_eq k (length ls)) [
      | inl same ↦ inr (ap (λ (zs : List Link). (get_or zs k no_link).place) grown ∙ ap (λ (z : Link). z.place) (get_or_push ls x no_link k (sym same)))
      | inr other ↦ (let l : k < length ls = omega (arith, less, a, g, other) in inl (l, ap (λ zs. get_or zs k no_link) grown ∙ still_there ls x k no_link l))
    ]
