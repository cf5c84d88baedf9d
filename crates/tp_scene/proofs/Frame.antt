-- The frame: where an entry and what replaces it say the same, the whole scene says the same.
use Rattle.std.proofs.Common.{◌≡◌, ℕ, ◌+◌, ◌≤◌, Bool, true, false, ◌||◌, ◌&&◌, List, refl, ap, sym, ◌∙◌, subst, arith, inl, inr}
use Rattle.std.specs.Prelude.{IsTrue, Option, Some, None}
use Rattle.std.proofs.lemmas.Bool.{cond_both, cases_Bool, or_cases, false≢true, both_ways, and_parts}
use Rattle.tp_value.specs.Tree.{Tree}
use Rattle.tp_value.specs.declared.path.Fact.{Fact}
use Rattle.tp_meaning.specs.Course.{Course, Shows, blank, ◌⊕◌}
use Rattle.tp_meaning.specs.Bindings.{Locals}
use Rattle.tp_meaning.specs.Holds.{Context, Lasts, Joined}
use Rattle.tp_meaning.proofs.Shows.{join-assoc}
use Rattle.tp_store.specs.Facts.{AgreesWithAll}
use Rattle.tp_store.specs.Known.{Variable}
use Rattle.tp_eval.specs.Right.{values_at}
use Rattle.tp_scene.specs.Scene.{Side, Ending, Going, Head, marked, Entries, none, leaf, node, Region, second_lives, has_here, append, rises, risen, Place}
use Rattle.tp_scene.specs.Says.{at_cuts, locals_at_cuts, IsSo, MarksHold, Claim, Says, RegionSays}
use Rattle.tp_scene.specs.Step.{PickOutcome, reduces, waits, rests, clashes, misses, passes}
use Rattle.tp_scene.specs.Pick.{mark_head, mark_at, put}
use Rattle.tp_scene.proofs.Below.{Below}
use Rattle.tp_scene.proofs.Carry.{like_self, like_update, Carried, says_carried, update, update_at_cuts}
use Rattle.tp_scene.proofs.Lens.{Lens, HasLens, first_lens, second_lens}

-- what is known of a region by its status
abbrev pub Known : Place → ℕ → ℕ → Type 0
Known p a b = (z : Side) → IsTrue (p.is z) → IsSo z a b

-- a mark is true of the region
abbrev pub MarkSo : Option Side → ℕ → ℕ → Type 0
MarkSo None a b = Unit {0}
MarkSo (Some z) a b = IsSo z a b

-- the values may be those of a new local
abbrev pub LastsIf : Option Variable → (ℕ → Tree) → Type 0
LastsIf None v = Unit {0}
LastsIf (Some x) v = Lasts x.lasting v

-- An interval of a region of that place, whose first state has that number of its own.
pub record IsOf (state : ℕ) (p : Place) (s : Course) (a b : ℕ) : Type 0 where
  pub order : a ≤ b
  pub known : Known p a b
  pub own : (s a).own ≡ state

abbrev pub region : Head → Entries → Region
region h es = record { head = h; entries = es }

-- Entries one after another.

module _ (w : Context) (globals : ℕ) where
  pub says_append : (xs ys : Entries) (d : ℕ) (σ : Locals) (s : Course) (a b : ℕ) (T U : Shows) → Says w globals xs d σ s a b T → Says w globals ys d σ s a b U → Says w globals (append xs ys) d σ s a b (T ⊕ U)
  says_append none ys d σ s a b T U h k = subst (λ (X : Shows). Says w globals ys d σ s a b (X ⊕ U)) (sym h) k
  says_append (leaf id l rest) ys d σ s a b T U h k = (h.0, h.1 ⊕ U, h.2, says_append rest ys d σ s a b h.1 U h.3 k, ap (λ X. X ⊕ U) h.4 ∙ join-assoc h.0 h.1 U)
  says_append (node id i hd held g second rest) ys d σ s a b T U h k = (h.0, h.1 ⊕ U, h.2, says_append rest ys d σ s a b h.1 U h.3 k, ap (λ X. X ⊕ U) h.4 ∙ join-assoc h.0 h.1 U)

  pub says_parts : (xs ys : Entries) (d : ℕ) (σ : Locals) (s : Course) (a b : ℕ) (S : Shows) → Says w globals (append xs ys) d σ s a b S → Joined (Says w globals xs d σ s) (Says w globals ys d σ s) a b S
  says_parts none ys d σ s a b S h = (blank, S, refl, h, refl)
  says_parts (leaf id l rest) ys d σ s a b S h = let r = says_parts rest ys d σ s a b h.1 h.3 in
      (h.0 ⊕ r.0, r.1, (h.0, r.0, h.2, r.2, refl), r.3, h.4 ∙ ap (λ X. h.0 ⊕ X) r.4 ∙ sym (join-assoc h.0 r.0 r.1))
  says_parts (node id i hd held g second rest) ys d σ s a b S h = let r = says_parts rest ys d σ s a b h.1 h.3 in
      (h.0 ⊕ r.0, r.1, (h.0, r.0, h.2, r.2, refl), r.3, h.4 ∙ ap (λ X. h.0 ⊕ X) r.4 ∙ sym (join-assoc h.0 r.0 r.1))

  -- a status that rises is so
  pub status_means : (es : Entries) (z : Side) (d : ℕ) (σ : Locals) (s : Course) (a b : ℕ) (S : Shows) → a ≤ b → Says w globals es d σ s a b S → risen z es ≡ true → IsSo z a b
  status_means none z d σ s a b S le h e = absurd (false≢true e)
  status_means (leaf id l rest) z d σ s a b S le h e = status_means rest z d σ s a b h.1 le h.3 e
  status_means (node id k hd held g second rest) z d σ s a b S le h e =
      elim (or_cases (rises k z && (marked z hd || risen z held)) _ e) [
        | inl y ↦ (let u = and_parts (rises k z) (marked z hd || risen z held) y in
            let L = first_lens w globals 0 k (RegionSays w globals (region g second)) (RegionSays w globals (region hd held)) d σ s a b h.0 le h.2 in
            L.risen z u.0 (elim (or_cases (marked z hd) (risen z held) u.1) [
              | inl m ↦ L.said.0 z m
              | inr i ↦ status_means held z d _ _ L.from L.to L.shows L.order L.said.1 i
            ]))
        | inr x ↦ elim (or_cases (second_lives k && (marked z g || risen z second)) (risen z rest) x) [
          | inl y ↦ (let u = and_parts (second_lives k) (marked z g || risen z second) y in
              let L = second_lens w globals 0 k (RegionSays w globals (region hd held)) u.0 (RegionSays w globals (region g second)) d σ s a b h.0 le h.2 in
              L.risen z refl (elim (or_cases (marked z g) (risen z second) u.1) [
                | inl m ↦ L.said.0 z m
                | inr i ↦ status_means second z d _ _ L.from L.to L.shows L.order L.said.1 i
              ]))
          | inr y ↦ status_means rest z d σ s a b h.1 le h.3 y
        ]
      ]

-- marks on the head of a region
mark_head_holds : (m : Option Side) (h : Head) (a i : ℕ) → MarksHold h a i → MarkSo m a i → MarksHold (mark_head m h) a i
mark_head_holds (Some Ending) h a i q y Ending t = y
mark_head_holds (Some Going) h a i q y Going t = y
mark_head_holds m h a i q y z t = q z t

unmarked_ends : (h : Head) (a i : ℕ) → MarksHold (mark_head (Some Ending) h) a i → MarksHold h a i
unmarked_ends h a i q Ending t = q Ending refl
unmarked_ends h a i q Going t = q Going t

unmarked_goes : (h : Head) (a i : ℕ) → MarksHold (mark_head (Some Going) h) a i → MarksHold h a i
unmarked_goes h a i q Ending t = q Ending t
unmarked_goes h a i q Going t = q Going refl

mark_head_held : (m : Option Side) (h : Head) (a i : ℕ) → MarksHold (mark_head m h) a i → MarksHold h a i × MarkSo m a i
mark_head_held None h a i q = (q, tt)
mark_head_held (Some Ending) h a i q = (unmarked_ends h a i q, q Ending refl)
mark_head_held (Some Going) h a i q = (unmarked_goes h a i q, q Going refl)

pub mark_holds : (t : ℕ) (m : Option Side) (h : Head) (es : Entries) (a i : ℕ) → MarksHold h a i → (IsTrue (has_here t es) → MarkSo m a i) → MarksHold (mark_at t m h es) a i
mark_holds t m h es a i q y =
    cond_both (has_here t es) (mark_head m h) h (λ x. MarksHold x a i) (λ e. mark_head_holds m h a i q (y e)) (λ _. q)

pub mark_held : (t : ℕ) (m : Option Side) (h : Head) (es : Entries) (a i : ℕ) → MarksHold (mark_at t m h es) a i → MarksHold h a i × (IsTrue (has_here t es) → MarkSo m a i)
mark_held t m h es a i q =
    elim (cases_Bool (has_here t es)) [
      | inl e ↦ (let z = mark_head_held m h a i (rw e at q) in (z.0, (λ _. z.1)))
      | inr e ↦ (rw e at q, (λ y. absurd (both_ways (has_here t es) e y)))
    ]

-- A claim in place of another.

lasts_back : (fresh : Option Variable) (v : ℕ → Tree) (r : ℕ → ℕ) → LastsIf fresh v → LastsIf fresh (λ j. v (r j))
lasts_back None v r l = tt
lasts_back (Some x) v r l = go x.lasting l where
  go : (b : Bool) → Lasts b v → Lasts b (λ j. v (r j))
  go true l = λ i j. l (r i) (r j)
  go false l = tt

-- Where the facts of a store are agreed with. `n` is the number that a new local takes, and what the new claim says at a depth the old one
-- says at one that is greater by `e`.
module _ (w : Context) (globals : ℕ) (facts : List Fact) (n e : ℕ) where
  -- What `Old` says, `New` says for some values of a new local, with the new facts, and `M` is so. And what `New` says, `Old` says at the
  -- greater depth.
  abbrev pub Swap : Option Variable → List Fact → Type 0 → Claim → Claim → Course → ℕ → ℕ → Type 0
  Swap fresh fs M Old New s a b =
      ((d : ℕ) (σ : Locals) (S : Shows) → AgreesWithAll (values_at globals s σ a) facts → Old d σ s a b S → (v : ℕ → Tree) × LastsIf fresh v × AgreesWithAll (values_at globals s (update σ n v) a) fs × M × New d (update σ n v) s a b S)
      × ((d : ℕ) (σ : Locals) (S : Shows) → AgreesWithAll (values_at globals s σ a) facts → LastsIf fresh (σ n) → AgreesWithAll (values_at globals s σ a) fs → M → New d σ s a b S → Old (e + d) σ s a b S)

  abbrev pub Never : Claim → Course → ℕ → ℕ → Type 0
  Never Old s a b = (d : ℕ) (σ : Locals) (S : Shows) → AgreesWithAll (values_at globals s σ a) facts → Old d σ s a b S → ⊥

  -- an outcome keeps what an entry says
  abbrev pub Keeps : PickOutcome → Claim → Course → ℕ → ℕ → Type 0
  Keeps (reduces r) Old s a b = Swap r.local r.facts (MarkSo r.mark a b) Old (Says w globals r.news) s a b
  Keeps (waits first other) Old s a b = Unit {0}
  Keeps rests Old s a b = Unit {0}
  Keeps (clashes c) Old s a b = Never Old s a b
  Keeps (misses port) Old s a b = Never Old s a b
  Keeps (passes k) Old s a b = Unit {0}

  -- and what the entries say where the entry stands
  abbrev pub KeepsIn : ℕ → PickOutcome → Entries → Course → ℕ → ℕ → Type 0
  KeepsIn t (reduces r) es s a b = Swap r.local r.facts (IsTrue (has_here t es) → MarkSo r.mark a b) (Says w globals es) (Says w globals (put t r.mark r.news es)) s a b
  KeepsIn t (waits first other) es s a b = Unit {0}
  KeepsIn t rests es s a b = Unit {0}
  KeepsIn t (clashes c) es s a b = Never (Says w globals es) s a b
  KeepsIn t (misses port) es s a b = Never (Says w globals es) s a b
  KeepsIn t (passes k) es s a b = Unit {0}

  abbrev pub Both : Claim → Entries → Claim
  Both First rest d σ s = Joined (First d σ s) (Says w globals rest d σ s)

  deeper : (d : ℕ) → d ≤ e + d
  deeper d = omega arith

  pub here_swap : (Old : Claim) (news rest : Entries) → Below n rest → (fresh : Option Variable) (m : Option Side) (fs : List Fact) (s : Course) (a b : ℕ)
      → Swap fresh fs (MarkSo m a b) Old (Says w globals news) s a b → Swap fresh fs (IsTrue true → MarkSo m a b) (Both Old rest) (Says w globals (append news rest)) s a b
  here_swap Old news rest below fresh m fs s a b k = (
    (λ d σ S ag h. let z = k.0 d σ h.0 ag h.2 in (
      z.0,
      z.1,
      z.2,
      (λ _. z.3),
      subst (λ (X : Shows). Says w globals (append news rest) d (update σ n z.0) s a b X) (sym h.4)
          (says_append w globals news rest d (update σ n z.0) s a b h.0 h.1 z.4 (says_carried w globals n rest below d d σ (update σ n z.0) (omega arith) (like_update n σ z.0) s a b h.1 h.3)),
    )),
    (λ d σ S ag la agf mk h. let z = says_parts w globals news rest d σ s a b S h in
        (z.0, z.1, k.1 d σ z.0 ag la agf (mk refl) z.2, says_carried w globals n rest below d (e + d) σ σ (deeper d) (like_self n σ) s a b z.1 z.3, z.4)),
  )

  pub later_swap : (First : Claim) → Carried w globals n First → (rest rest' : Entries) (fresh : Option Variable) (M : Type 0) (fs : List Fact) (s : Course) (a b : ℕ)
      → Swap fresh fs M (Says w globals rest) (Says w globals rest') s a b → Swap fresh fs M (Both First rest) (Both First rest') s a b
  later_swap First up rest rest' fresh M fs s a b k = (
    (λ d σ S ag h. let z = k.0 d σ h.1 ag h.3 in
        (z.0, z.1, z.2, z.3, (h.0, h.1, up d d σ (update σ n z.0) (omega arith) (like_update n σ z.0) s a b h.0 h.2, z.4, h.4))),
    (λ d σ S ag la agf mk h. (h.0, h.1, up d (e + d) σ σ (deeper d) (like_self n σ) s a b h.0 h.2, k.1 d σ h.1 ag la agf mk h.3, h.4)),
  )

  pub node_swap : (W W' : Claim) (rest : Entries) → Below n rest → (fresh : Option Variable) (m : Option Side) (fs : List Fact) (s : Course) (a b : ℕ)
      → Swap fresh fs (Unit {0}) W W' s a b → Swap fresh fs (IsTrue false → MarkSo m a b) (Both W rest) (Both W' rest) s a b
  node_swap W W' rest below fresh m fs s a b k = (
    (λ d σ S ag h. let z = k.0 d σ h.0 ag h.2 in
        (z.0, z.1, z.2, (λ y. absurd (false≢true y)), (h.0, h.1, z.4, says_carried w globals n rest below d d σ (update σ n z.0) (omega arith) (like_update n σ z.0) s a b h.1 h.3, h.4))),
    (λ d σ S ag la agf mk h. (h.0, h.1, k.1 d σ h.0 ag la agf tt h.2, says_carried w globals n rest below d (e + d) σ σ (deeper d) (like_self n σ) s a b h.1 h.3, h.4)),
  )

  -- A step inside of a held region.
  module _ (state t : ℕ) (hd : Head) (held : Entries) (p q : Place) (Safe : Type 0) (sk fk rk : Side → Bool) (Whole : Claim → Claim)
      (lens : HasLens n Safe sk fk rk Whole) (safe : Safe)
      (qis : (z : Side) → IsTrue (q.is z) → ((sk z && p.is z) || (fk z || (marked z hd || risen z held))) ≡ true) where
    pub known_at : (P : Claim) (d : ℕ) (σ : Locals) (s : Course) (a b : ℕ) (S : Shows) → Known p a b → (L : Lens n Safe sk fk rk Whole P d σ s a b S)
        → MarksHold hd L.from L.to → ((z : Side) → risen z held ≡ true → IsSo z L.from L.to) → Known q L.from L.to
    known_at P d σ s a b S kn L marks st z y =
        elim (or_cases (sk z && p.is z) _ (qis z y)) [
          | inl u ↦ (let v = and_parts (sk z) (p.is z) u in L.sunk z v.0 (kn z v.1))
          | inr u ↦ elim (or_cases (fk z) _ u) [
            | inl v ↦ L.must z v
            | inr v ↦ elim (or_cases (marked z hd) _ v) [ inl x ↦ marks z x | inr x ↦ st z x ]
          ]
        ]

    is_of_at : (P : Claim) (d : ℕ) (σ : Locals) (s : Course) (a b : ℕ) (S : Shows) → IsOf state p s a b → (L : Lens n Safe sk fk rk Whole P d σ s a b S)
        → MarksHold hd L.from L.to → ((z : Side) → risen z held ≡ true → IsSo z L.from L.to) → IsOf state q (at_cuts L.cuts s) L.from L.to
    is_of_at P d σ s a b S x L marks st = record { order = L.order; known = known_at P d σ s a b S x.known L marks st; own = ap (λ i. (s i).own) L.start ∙ x.own }

    at_start : (P : Claim) (d : ℕ) (σ : Locals) (s : Course) (a b : ℕ) (S : Shows) (fs : List Fact) → (L : Lens n Safe sk fk rk Whole P d σ s a b S)
        → (τ : Locals) → AgreesWithAll (values_at globals s τ a) fs → AgreesWithAll (values_at globals (at_cuts L.cuts s) (locals_at_cuts L.cuts τ) L.from) fs
    at_start P d σ s a b S fs L τ g = subst (λ (i : ℕ). AgreesWithAll (values_at globals s τ i) fs) (sym L.start) g

    from_start : (P : Claim) (d : ℕ) (σ : Locals) (s : Course) (a b : ℕ) (S : Shows) (fs : List Fact) → (L : Lens n Safe sk fk rk Whole P d σ s a b S)
        → (τ : Locals) → AgreesWithAll (values_at globals (at_cuts L.cuts s) (locals_at_cuts L.cuts τ) L.from) fs → AgreesWithAll (values_at globals s τ a) fs
    from_start P d σ s a b S fs L τ g = subst (λ (i : ℕ). AgreesWithAll (values_at globals s τ i) fs) L.start g

    pub descend : (news : Entries) (fresh : Option Variable) (m : Option Side) (fs : List Fact)
        → ((z : Side) → risen z held ≡ true → risen z (put t m news held) ≡ true)
        → ((s : Course) (i j : ℕ) → IsOf state q s i j → Swap fresh fs (IsTrue (has_here t held) → MarkSo m i j) (Says w globals held) (Says w globals (put t m news held)) s i j)
        → (s : Course) (a b : ℕ) → IsOf state p s a b → Swap fresh fs (Unit {0}) (Whole (RegionSays w globals (region hd held))) (Whole (RegionSays w globals (region (mark_at t m hd held) (put t m news held)))) s a b
    descend news fresh m fs kept ih s a b x = (
      (λ d σ S ag y.
          let P = RegionSays w globals (region hd held) in
          let L = lens P d σ s a b S x.order y in
          let k = is_of_at P d σ s a b S x L L.said.0 (λ z i. status_means w globals held z d _ _ L.from L.to L.shows L.order L.said.1 i) in
          let z = (ih (at_cuts L.cuts s) L.from L.to k).0 d (locals_at_cuts L.cuts σ) L.shows (at_start P d σ s a b S facts L σ ag) L.said.1 in
          let same = update_at_cuts n σ z.0 L.cuts L.back L.undo in (
            (λ j. z.0 (L.back j)),
            lasts_back fresh z.0 L.back z.1,
            from_start P d σ s a b S fs L (update σ n (λ j. z.0 (L.back j))) (subst (λ (τ : Locals). AgreesWithAll (values_at globals (at_cuts L.cuts s) τ L.from) fs) (sym same) z.2),
            tt,
            L.again safe d (update σ n (λ j. z.0 (L.back j))) (omega arith) (like_update n σ _) (RegionSays w globals (region (mark_at t m hd held) (put t m news held)))
                (mark_holds t m hd held L.from L.to L.said.0 z.3, subst (λ (τ : Locals). Says w globals (put t m news held) d τ (at_cuts L.cuts s) L.from L.to L.shows) (sym same) z.4),
          )),
      (λ d σ S ag la agf _ y.
          let P = RegionSays w globals (region (mark_at t m hd held) (put t m news held)) in
          let L = lens P d σ s a b S x.order y in
          let mk = mark_held t m hd held L.from L.to L.said.0 in
          let k = is_of_at P d σ s a b S x L mk.0 (λ z i. status_means w globals (put t m news held) z d _ _ L.from L.to L.shows L.order L.said.1 (kept z i)) in
          L.again safe (e + d) σ (deeper d) (like_self n σ) (RegionSays w globals (region hd held))
          (mk.0, (ih (at_cuts L.cuts s) L.from L.to k).1 d (locals_at_cuts L.cuts σ) L.shows (at_start P d σ s a b S facts L σ ag) (lasts_back fresh (σ n) L.cuts la) (at_start P d σ s a b S fs L σ agf) mk.1 L.said.1)),
    )

    pub descend_never : ((s : Course) (i j : ℕ) → IsOf state q s i j → Never (Says w globals held) s i j)
        → (s : Course) (a b : ℕ) → IsOf state p s a b → Never (Whole (RegionSays w globals (region hd held))) s a b
    descend_never ih s a b x d σ S ag y =
        let P = RegionSays w globals (region hd held) in
        let L = lens P d σ s a b S x.order y in
        let k = is_of_at P d σ s a b S x L L.said.0 (λ z i. status_means w globals held z d _ _ L.from L.to L.shows L.order L.said.1 i) in
        ih (at_cuts L.cuts s) L.from L.to k d (locals_at_cuts L.cuts σ) L.shows (at_start P d σ s a b S facts L σ ag) L.said.1
