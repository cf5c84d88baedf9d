-- The steps of items with a region keep what these say.
use Rattle.std.proofs.Common.{◌≡◌, ℕ, zero, suc, ◌+◌, ◌≤◌, ◌<◌, List, refl, ap, sym, ◌∙◌, subst, arith, inl, inr, IsTrue}
use Rattle.std.proofs.lemmas.Bool.{cond_both, cases_lt}
use Rattle.tp_value.specs.declared.path.Fact.{Fact}
use Rattle.tp_meaning.specs.Syntax.{FormulaTree, more}
use Rattle.tp_meaning.specs.Course.{Course, Shows, blank, ◌⊕◌, woven, Rising}
use Rattle.tp_meaning.specs.Bindings.{Locals}
use Rattle.tp_meaning.specs.Holds.{Context}
use Rattle.tp_meaning.proofs.Shows.{join-blank}
use Rattle.tp_scene.specs.Scene.{Bindings, Ending, Going, Head, new_head, Do, Holder, Split, SplitProject, Opened, Entries, none, leaf, Region, Place, held_place, closed_then, opened_then, running_then, rises, sinks, forced}
use Rattle.tp_scene.specs.Says.{at_cuts, locals_at_cuts, Claim, FormulaSays, OpenedSays, RunningSays, SplitSays, HolderSays, RegionSays, Says}
use Rattle.tp_scene.specs.Step.{Numbers, PickOutcome, rests, becomes, by_status, holder_step}
use Rattle.tp_scene.proofs.Below.{HolderBelow, IfSecond, if_second, Below}
use Rattle.tp_scene.proofs.Carry.{like_self, Carried, formula_carried, opened_carried, region_carried}
use Rattle.tp_scene.proofs.Lens.{first_lens}
use Rattle.tp_scene.proofs.Frame.{Known, IsOf, region, Keeps, status_means, known_at}
use Rattle.tp_scene.proofs.RowForms.{new_marks, alone, of_alone, turns_into}

module _ (w : Context) (state globals : ℕ) (facts : List Fact) (nn : Numbers) (e : ℕ) where
  abbrev n : ℕ
  n = nn.local

  raise : (F : Claim) → Carried w globals n F → (d : ℕ) (σ : Locals) (s : Course) (a b : ℕ) (S : Shows) → F d σ s a b S → F (e + d) σ s a b S
  raise F up d σ s a b S h = up d (e + d) σ σ (omega arith) (like_self n σ) s a b S h

  by_side : (q : Place) (if_goes if_ends : PickOutcome) (Old : Claim) (s : Course) (a b : ℕ)
      → (IsTrue (q.is Going) → Keeps w globals facts n e if_goes Old s a b) → (IsTrue (q.is Ending) → Keeps w globals facts n e if_ends Old s a b)
      → Keeps w globals facts n e (by_status q if_goes if_ends) Old s a b
  by_side q if_goes if_ends Old s a b g f =
      cond_both (q.is Going) _ _ (λ o. Keeps w globals facts n e o Old s a b) g (λ _. cond_both (q.is Ending) _ _ (λ o. Keeps w globals facts n e o Old s a b) f (λ _. tt))

  -- a left region that ends is closed, and what follows it begins
  close_keeps : (A : Claim) → Carried w globals n A → (h : Head) (held : Entries) → Below n held → (after : Entries) (s : Course) (a b : ℕ) → a ≤ b
      → ((d : ℕ) (σ : Locals) (S : Shows) → A d σ s a b S → Says w globals after d σ s a b S)
      → ((d : ℕ) (σ : Locals) (S : Shows) → Says w globals after d σ s a b S → A d σ s a b S)
      → ((d : ℕ) (σ : Locals) (S : Shows) (x : SplitSays w globals (RegionSays w globals (region h held)) A d σ s a b S) → a ≡ x.0)
      → Keeps w globals facts n e (becomes (closed_then (nn.item 0) (region h held) after) 2) (SplitSays w globals (RegionSays w globals (region h held)) A) s a b
  close_keeps A up h held below after s a b le there back ended =
      let Left = RegionSays w globals (region h held) in
      turns_into w globals facts n e (SplitSays w globals Left A) s a b (closed_then (nn.item 0) (region h held) after) 2 0
      (λ d σ S ag x. let q : a ≡ x.0 = ended d σ S x in (
        x.1,
        x.2,
        subst (λ (i : ℕ). Left d σ s a i x.1) (sym q) x.5,
        there d σ x.2 (subst (λ (i : ℕ). A d σ s i b x.2) (sym q) x.6),
        x.7,
      ))
      (λ d σ S ag x. (
        a,
        x.0,
        x.1,
        omega arith,
        le,
        raise Left (region_carried w globals n h held below) d σ s a a x.0 x.2,
        raise A up d σ s a b x.1 (back d σ x.1 x.3),
        x.4,
      ))

  module _ (k : Holder) (h : Head) (held : Entries) (g : Head) (second : Entries) (holder_below : HolderBelow n k) (held_below : Below n held) (second_below : IfSecond k (Below n second)) where
    abbrev Held : Claim
    Held = RegionSays w globals (region h held)

    abbrev Second : Claim
    Second = RegionSays w globals (region g second)

    second_up : IfSecond k (Carried w globals n Second)
    second_up = if_second k _ _ (λ u. region_carried w globals n g second u) second_below

    -- the region that is held has the status that is computed for it
    held_known : (p : Place) (s : Course) (a b : ℕ) → Known p a b → (d : ℕ) (σ : Locals) (S : Shows) (le : a ≤ b) (x : HolderSays w globals k Held Second d σ s a b S)
        → Known (held_place k h held p) (first_lens w globals n k Second Held d σ s a b S le x).from (first_lens w globals n k Second Held d σ s a b S le x).to
    held_known p s a b known d σ S le x =
        let L = first_lens w globals n k Second Held d σ s a b S le x in
        known_at w globals facts n e state 0 h held p (held_place k h held p) _ (sinks k) (forced k) (rises k) (λ P. HolderSays w globals k P Second) (first_lens w globals n k Second) (holder_below, second_up) (λ z u. u)
        Held d σ s a b S known L L.said.0 (λ z y. status_means w globals held z d _ _ L.from L.to L.shows L.order L.said.1 y)

    -- a left region that ends is closed, and what follows it begins; one that goes rests
    left_keeps : (p : Place) (s : Course) (a b : ℕ) → IsOf state p s a b → (A : Claim) → Carried w globals n A → (after : Entries)
        → ((d : ℕ) (σ : Locals) (S : Shows) → A d σ s a b S → Says w globals after d σ s a b S)
        → ((d : ℕ) (σ : Locals) (S : Shows) → Says w globals after d σ s a b S → A d σ s a b S)
        → ((d : ℕ) (σ : Locals) (S : Shows) (x : SplitSays w globals Held A d σ s a b S) → IsTrue ((held_place k h held p).is Ending) → a ≡ x.0)
        → Keeps w globals facts n e (by_status (held_place k h held p) rests (becomes (closed_then (nn.item 0) (region h held) after) 2)) (SplitSays w globals Held A) s a b
    left_keeps p s a b is A up after there back ended =
        by_side (held_place k h held p) rests (becomes (closed_then (nn.item 0) (region h held) after) 2) (SplitSays w globals Held A) s a b (λ _. tt)
        (λ y. close_keeps A up h held held_below after s a b is.order there back (λ d σ S x. ended d σ S x y))

  -- An outer region that goes has a first piece.
  abbrev first_region : FormulaTree → Bindings → Region
  first_region f env = region (new_head nn.region) (leaf (nn.item 0) (Do f env) (leaf (nn.item 1) (Do more env) none))

  abbrev First : FormulaTree → Bindings → Claim
  First f env = RegionSays w globals (first_region f env)

  first_piece : (f : FormulaTree) (env : Bindings) (d : ℕ) (σ : Locals) (s : Course) (i j : ℕ) (T : Shows) → i < j → FormulaSays w globals f env d σ s i j T → First f env d σ s i j T
  first_piece f env d σ s i j T l h = (new_marks nn.region i j, (T, blank, h, alone w globals facts n e (FormulaSays w globals more env) d σ s i j blank (l, refl), sym (join-blank T)))

  of_first_piece : (f : FormulaTree) (env : Bindings) (d : ℕ) (σ : Locals) (s : Course) (i j : ℕ) (T : Shows) → First f env d σ s i j T → FormulaSays w globals f env d σ s i j T
  of_first_piece f env d σ s i j T h =
      let x = of_alone w globals facts n e (FormulaSays w globals more env) d σ s i j h.1.1 h.1.3 in
      subst (λ (X : Shows). FormulaSays w globals f env d σ s i j X) (sym (h.1.4 ∙ ap (λ X. h.1.0 ⊕ X) x.1 ∙ join-blank h.1.0)) h.1.2

  run_there : (f : FormulaTree) (env : Bindings) (O : Claim) (d : ℕ) (σ : Locals) (s : Course) (a b : ℕ) (S : Shows) (m : ℕ)
      (c : ℕ → ℕ) (V : Shows) (T : ℕ → Shows) → Rising c → c 0 ≡ a → c m ≡ b
      → ((j : ℕ) → j < m → FormulaSays w globals f env d σ s (c j) (c (suc j)) (T j))
      → O d (locals_at_cuts c σ) (at_cuts c s) 0 m V → S ≡ woven m 0 c V T → 0 < m
      → RunningSays w globals f env (First f env) O d σ s a b S
  run_there f env O d σ s a b S zero c V T r u v pieces outer q l = absurd (omega arith)
  run_there f env O d σ s a b S (suc m) c V T r u v pieces outer q l =
      (c, m, V, T, r, u, v, first_piece f env d σ s (c 0) (c 1) (T 0) (r 0) (pieces 0 l), (λ j x y. pieces j y), outer, q)

  run_back : (f : FormulaTree) (env : Bindings) (O : Claim) (d : ℕ) (σ : Locals) (s : Course) (a b : ℕ) (S : Shows)
      → RunningSays w globals f env (First f env) O d σ s a b S → OpenedSays w globals f env O d σ s a b S
  run_back f env O d σ s a b S x = (
    x.0,
    suc x.1,
    x.2,
    x.3,
    x.4,
    x.5,
    x.6,
    (λ j v. elim (cases_lt 0 j) [
      | inl l ↦ x.8 j l v
      | inr l ↦ (let y : 0 ≡ j = omega arith in subst (λ (i : ℕ). FormulaSays w globals f env d σ s (x.0 i) (x.0 (suc i)) (x.3 i)) y (of_first_piece f env d σ s (x.0 0) (x.0 1) (x.3 0) x.7))
    ]),
    x.9,
    x.10,
  )

  pub holder_row : (k : Holder) (h : Head) (held : Entries) (g : Head) (second : Entries) → HolderBelow n k → Below n held → IfSecond k (Below n second)
      → (p : Place) (s : Course) (a b : ℕ) → IsOf state p s a b
      → Keeps w globals facts n e (holder_step w.defs w.inputs state facts k (region h held) (region g second) (held_place k h held p) nn)
      (HolderSays w globals k (RegionSays w globals (region h held)) (RegionSays w globals (region g second))) s a b
  holder_row (Split f env) h held g second bk bh bs p s a b is =
      let After = FormulaSays w globals f env in
      left_keeps (Split f env) h held g second bk bh bs p s a b is After (formula_carried w globals n f env bk) (leaf (nn.item 1) (Do f env) none)
      (λ d σ S x. alone w globals facts n e After d σ s a b S x) (λ d σ S x. of_alone w globals facts n e After d σ s a b S x)
      (λ d σ S x y. held_known (Split f env) h held g second bk bh bs p s a b is.known d σ S is.order x Ending y)
  holder_row (SplitProject f env) h held g second bk bh bs p s a b is =
      let O = RegionSays w globals (region g second) in
      let After = OpenedSays w globals f env O in
      left_keeps (SplitProject f env) h held g second bk bh bs p s a b is After (opened_carried w globals n f env O bk (region_carried w globals n g second bs)) (opened_then (nn.item 1) (region g second) f env none)
      (λ d σ S x. alone w globals facts n e After d σ s a b S x) (λ d σ S x. of_alone w globals facts n e After d σ s a b S x)
      (λ d σ S x y. held_known (SplitProject f env) h held g second bk bh bs p s a b is.known d σ S is.order x Ending y)
  holder_row (Opened f env) h held g second bk bh bs p s a b is =
      let q = held_place (Opened f env) h held p in
      let O = RegionSays w globals (region h held) in
      let Old = OpenedSays w globals f env O in
      let Run = RunningSays w globals f env (First f env) O in
      let news = running_then (nn.item 2) (first_region f env) (region h held) f env none in
      by_side q _ rests Old s a b
      (λ y. turns_into w globals facts n e Old s a b news 3 1
      (λ d σ S ag x. alone w globals facts n e Run d σ s a b S
      (run_there f env O d σ s a b S x.1 x.0 x.2 x.3 x.4 x.5 x.6 x.7 x.8 x.9 (held_known (Opened f env) h held g second bk bh bs p s a b is.known d σ S is.order x Going y)))
      (λ d σ S ag x. raise Old (opened_carried w globals n f env O bk (region_carried w globals n h held bh)) d σ s a b S
      (run_back f env O d σ s a b S (of_alone w globals facts n e Run d σ s a b S x))))
      (λ _. tt)
  holder_row k h held g second bk bh bs p s a b is = tt
