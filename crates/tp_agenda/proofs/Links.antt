-- Chains of links, and what filing one more place does to them.
use Rattle.std.proofs.Common.{◌≡◌, ℕ, zero, suc, ◌<◌, ◌≤◌, ◌&&◌, Bool, List, [], ◌∷◌, ◌++◌, length, length-append, get_or, nat_eq, refl, ap, ap₂, sym, ◌∙◌, inl, inr, arith}
use Rattle.std.specs.Bool.{Decides, beq}
use Rattle.std.specs.Cmp.{booleans_Decides}
use Rattle.std.specs.Cmp.Lexicographic.{pointwise, pointwise_decides}
use Rattle.std.proofs.lemmas.Bool.{cases_eq}
use Rattle.std.proofs.lemmas.Bool.Decides.{Decides-eqb, Decides-and, Decides-like}
use Rattle.std.proofs.lemmas.List.{get_or_push}
use Rattle.tp_value.specs.declared.path.VarId.{VarId}
use Rattle.tp_value.specs.declared.path.Path.{Path}
use Rattle.tp_agenda.specs.declared.index.Link.{Link}
use Rattle.tp_agenda.specs.Index.{no_link, places_named, equal_paths}

-- the map's test of paths tells equal ones
pub equal_paths-decides : (p q : Path) → Decides (equal_paths p q) (p ≡ q)
equal_paths-decides p q =
    let make_variable : ℕ → Bool → VarId = λ n b. record { number = n; lasting = b } in
    let make : VarId → List ℕ → Path = λ x at. record { var = x; at = at } in
    Decides-like (equal_paths p q) (λ e. ap₂ make e.0 e.1) (λ e. (ap (λ (r : Path). r.var) e, ap (λ (r : Path). r.at) e))
    (Decides-and (nat_eq p.var.number q.var.number && beq p.var.lasting q.var.lasting) (pointwise nat_eq p.at q.at)
    (Decides-like (nat_eq p.var.number q.var.number && beq p.var.lasting q.var.lasting) (λ e. ap₂ make_variable e.0 e.1) (λ e. (ap (λ (v : VarId). v.number) e, ap (λ (v : VarId). v.lasting) e))
    (Decides-and (nat_eq p.var.number q.var.number) (beq p.var.lasting q.var.lasting) (Decides-eqb p.var.number q.var.number) (booleans_Decides p.var.lasting q.var.lasting)))
    (pointwise_decides Decides-eqb p.at q.at))

abbrev pub LeadBack : List Link → Type 0
LeadBack ls = (k : ℕ) → k < length ls → (get_or ls k no_link).next ≤ k

-- more links than lead on from here change nothing
pub enough : (ls : List Link) → LeadBack ls → (j k n : ℕ) → n ≤ j → n ≤ k → n ≤ length ls → places_named j ls n ≡ places_named k ls n
enough ls fit zero zero n a b l = refl
enough ls fit zero (suc k) zero a b l = refl
enough ls fit zero (suc k) (suc n) a b l = absurd (omega (arith, a))
enough ls fit (suc j) zero zero a b l = refl
enough ls fit (suc j) zero (suc n) a b l = absurd (omega (arith, b))
enough ls fit (suc j) (suc k) zero a b l = refl
enough ls fit (suc j) (suc k) (suc n) a b l =
    let f = fit n (omega (arith, l)) in
    let x = get_or ls n no_link in
    ap (λ xs. x.place ∷ xs) (enough ls fit j k x.next (omega (arith, f, a)) (omega (arith, f, b)) (omega (arith, f, l)))

pub still_there : {A : Type 0} (xs : List A) (y : A) (i : ℕ) (d : A) → i < length xs → get_or (xs ++ y ∷ []) i d ≡ get_or xs i d
still_there [] y i d l = absurd (omega (arith, l))
still_there (x ∷ xs) y zero d l = refl
still_there (x ∷ xs) y (suc i) d l = still_there xs y i d (omega (arith, l))

pub named_before : (ls : List Link) (x : Link) → LeadBack ls → (k n : ℕ) → n ≤ length ls → places_named k (ls ++ x ∷ []) n ≡ places_named k ls n
named_before ls x fit zero n l = refl
named_before ls x fit (suc k) zero l = refl
named_before ls x fit (suc k) (suc n) l =
    let f = fit n (omega (arith, l)) in
    let y = get_or ls n no_link in
    ap (λ (z : Link). z.place ∷ places_named k (ls ++ x ∷ []) z.next) (still_there ls x n no_link (omega (arith, l)))
    ∙ ap (λ xs. y.place ∷ xs) (named_before ls x fit k y.next (omega (arith, f, l)))

-- One more link, in front of the n-th.
module _ (ls : List Link) (fit : LeadBack ls) (place n : ℕ) (within : n ≤ length ls) where
  abbrev pub new_link : Link
  new_link = record { place = place; next = n }

  longer : length (ls ++ new_link ∷ []) ≡ suc (length ls)
  longer = let a = length-append ls (new_link ∷ []) in omega (arith, a)

  pub lead_back : LeadBack (ls ++ new_link ∷ [])
  lead_back k less = elim (cases_eq k (length ls)) [
    | inl same ↦ (let b : (get_or (ls ++ new_link ∷ []) k no_link).next ≡ n = ap (λ (z : Link). z.next) (get_or_push ls new_link no_link k (sym same)) in omega (arith, b, within, same))
    | inr other ↦ (let l : k < length ls = (let b = longer in omega (arith, less, b, other)) in let b : (get_or (ls ++ new_link ∷ []) k no_link).next ≡ (get_or ls k no_link).next = ap (λ (z : Link). z.next) (still_there ls new_link k no_link l) in let f = fit k l in omega (arith, b, f))
  ]

  pub named_new : places_named (suc (length ls)) (ls ++ new_link ∷ []) (suc (length ls)) ≡ place ∷ places_named n ls n
  named_new =
      let m = length ls in
      ap (λ (z : Link). z.place ∷ places_named m (ls ++ new_link ∷ []) z.next) (get_or_push ls new_link no_link m refl)
      ∙ ap (λ xs. place ∷ xs) (named_before ls new_link fit m n within ∙ enough ls fit m n n within (omega arith) within)

  pub named_old : (k : ℕ) → k ≤ length ls → places_named k (ls ++ new_link ∷ []) k ≡ places_named k ls k
  named_old k l = named_before ls new_link fit k k l
