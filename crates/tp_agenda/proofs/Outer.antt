-- A place is filed under one path after the other that a path lies within.
use Rattle.std.proofs.Common.{◌≡◌, ℕ, zero, suc, ◌+◌, ◌<◌, ◌≤◌, ◌&&◌, true, false, cond, eqb, List, [], ◌∷◌, length, take, refl, ap, ap₂, sym, ◌∙◌, subst, inl, inr, arith}
use Rattle.std.proofs.lemmas.Bool.{both_ways, cases_Bool, cases_eq, and_parts}
use Rattle.std.proofs.lemmas.List.{length-take-le}
use Rattle.std.proofs.lemmas.Bool.Decides.{Decides-eqb}
use Rattle.tp_value.specs.declared.path.VarId.{VarId}
use Rattle.tp_value.specs.declared.path.Path.{Path}
use Rattle.tp_store.specs.Facts.{same_variable}
use Rattle.tp_store.specs.FactMap.{outer_path}
use Rattle.tp_store.proofs.Paths.{same_variable-decides}
use Rattle.tp_agenda.specs.declared.index.Index.{Index}
use Rattle.tp_agenda.specs.Decides.{leads_into, holds_path}
use Rattle.tp_agenda.specs.Index.{equal_paths, filed_at, filed_for, IsChained, HasFiled, IsPushed}
use Rattle.tp_agenda.proofs.Links.{equal_paths-decides}

pub leads_length : (a b : List ℕ) → leads_into a b ≡ true → length a ≤ length b
leads_length [] b h = omega arith
leads_length (j ∷ js) [] h = absurd (cc)
leads_length (j ∷ js) (k ∷ ks) h = let l = leads_length js ks (and_parts (eqb j k) (leads_into js ks) h).1 in omega (arith, l)

pub leads_take : (a b : List ℕ) → leads_into a b ≡ true → a ≡ take (length a) b
leads_take [] b h = refl
leads_take (j ∷ js) [] h = absurd (cc)
leads_take (j ∷ js) (k ∷ ks) h = let p = and_parts (eqb j k) (leads_into js ks) h in ap₂ (λ x xs. x ∷ xs) ((Decides-eqb j k).0 p.0) (leads_take js ks p.1)

pub take_leads : (n : ℕ) (b : List ℕ) → leads_into (take n b) b ≡ true
take_leads zero b = refl
take_leads (suc n) [] = refl
take_leads (suc n) (k ∷ ks) = ap₂ (λ x y. x && y) ((Decides-eqb k k).1 refl) (take_leads n ks)

pub outer_holds : (p : Path) (n : ℕ) → holds_path (outer_path p n) p ≡ true
outer_holds p n = ap₂ (λ x y. x && y) ((same_variable-decides p.var p.var).1 refl) (take_leads n p.at)

pub held_outer : (q p : Path) → holds_path q p ≡ true → q ≡ outer_path p (length q.at)
held_outer q p h =
    let parts = and_parts (same_variable q.var p.var) (leads_into q.at p.at) h in
    let make : VarId → List ℕ → Path = λ x at. record { var = x; at = at } in
    ap₂ make ((same_variable-decides q.var p.var).0 parts.0) (leads_take q.at p.at parts.1)

pub held_length : (q p : Path) → holds_path q p ≡ true → length q.at ≤ length p.at
held_length q p h = leads_length q.at p.at (and_parts (same_variable q.var p.var) (leads_into q.at p.at) h).1

-- filed under those with fewer indices than that
pub record IsFiledBelow (old new : Index) (place : ℕ) (p : Path) (n : ℕ) : Type 0 where
  pub chained : IsChained new
  pub within : (q : Path) → holds_path q p ≡ true → length q.at < n → filed_at new q ≡ place ∷ filed_at old q
  pub beyond : (q : Path) → (holds_path q p ≡ true → length q.at < n → ⊥) → filed_at new q ≡ filed_at old q
  pub ends : (r : ℕ) → filed_for new r ≡ filed_for old r
  pub pushed : IsPushed old new place

pub none_pushed : (old : Index) (place : ℕ) → IsPushed old old place
none_pushed old place k less = inl (less, refl)

pub more_pushed : (old mid new : Index) (place : ℕ) → IsPushed old mid place → IsPushed mid new place → IsPushed old new place
more_pushed old mid new place a b k less = elim (b k less) [
  | inl x ↦ elim (a k x.0) [
    | inl y ↦ inl (y.0, x.1 ∙ y.1)
    | inr y ↦ inr (ap (λ z. z.place) x.1 ∙ y)
  ]
  | inr y ↦ inr y
]

pub none_filed : (old : Index) (place : ℕ) (p : Path) → IsChained old → IsFiledBelow old old place p 0
none_filed old place p h = record {
  chained = h;
  within = λ q e less. absurd (omega (arith, less));
  beyond = λ q f. refl;
  ends = λ r. refl;
  pushed = none_pushed old place;
}

pub one_filed : (old mid new : Index) (place : ℕ) (p : Path) (n : ℕ) → n ≤ length p.at → IsFiledBelow old mid place p n
    → HasFiled mid new place (equal_paths (outer_path p n)) (λ r. false) → IsPushed mid new place → IsFiledBelow old new place p (n + 1)
one_filed old mid new place p n l h f pushed = record {
  chained = f.chained;
  within = λ q e less. elim (cases_Bool (equal_paths (outer_path p n) q)) [
    | inl is_so ↦ at_it q is_so ∙ ap (λ xs. place ∷ xs) (h.beyond q (λ e' less'. (let a = its_length q is_so in omega (arith, less', a))))
    | inr isnt ↦ elsewhere q isnt ∙ h.within q e (elim (cases_eq (length q.at) n) [
      | inl same ↦ absurd (both_ways (equal_paths (outer_path p n) q) isnt ((equal_paths-decides (outer_path p n) q).1 (ap (outer_path p) (sym same) ∙ sym (held_outer q p e))))
      | inr other ↦ omega (arith, less, other)
    ])
  ];
  beyond = λ q none. elim (cases_Bool (equal_paths (outer_path p n) q)) [
    | inl is_so ↦ absurd (none (subst (λ z. holds_path z p ≡ true) ((equal_paths-decides (outer_path p n) q).0 is_so) (outer_holds p n)) (let a = its_length q is_so in omega (arith, a)))
    | inr isnt ↦ elsewhere q isnt ∙ h.beyond q (λ e less. none e (omega (arith, less)))
  ];
  ends = λ r. f.ends r ∙ h.ends r;
  pushed = more_pushed old mid new place h.pushed pushed;
}
  where
    its_length : (q : Path) → equal_paths (outer_path p n) q ≡ true → length q.at ≡ n
    its_length q is_so = ap (λ (z : Path). length z.at) (sym ((equal_paths-decides (outer_path p n) q).0 is_so)) ∙ length-take-le n p.at l

    at_it : (q : Path) → equal_paths (outer_path p n) q ≡ true → filed_at new q ≡ place ∷ filed_at mid q
    at_it q e = f.paths q ∙ ap (λ b. cond b (place ∷ filed_at mid q) (filed_at mid q)) e

    elsewhere : (q : Path) → equal_paths (outer_path p n) q ≡ false → filed_at new q ≡ filed_at mid q
    elsewhere q e = f.paths q ∙ ap (λ b. cond b (place ∷ filed_at mid q) (filed_at mid q)) e

pub all_filed : (old new : Index) (place : ℕ) (p : Path) (n : ℕ) → length p.at < n → IsFiledBelow old new place p n → HasFiled old new place (λ q. holds_path q p) (λ r. false)
all_filed old new place p n l h = record {
  chained = h.chained;
  paths = λ q. elim (cases_Bool (holds_path q p)) [
    | inl is_so ↦ h.within q is_so (let a = held_length q p is_so in omega (arith, a, l)) ∙ ap (λ b. cond b (place ∷ filed_at old q) (filed_at old q)) (sym is_so)
    | inr isnt ↦ h.beyond q (λ e less. both_ways (holds_path q p) isnt e) ∙ ap (λ b. cond b (place ∷ filed_at old q) (filed_at old q)) (sym isnt)
  ];
  ends = h.ends;
}
