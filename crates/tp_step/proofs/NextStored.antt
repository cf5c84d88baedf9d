-- Numbered entries have their places in their own slots.
use Rattle.std.proofs.Common.{◌≡◌, ℕ, ◌+◌, ◌<◌, true, cond, List, [], ◌∷◌, ◌++◌, length, get_or, Some, None, refl, ap, sym, ◌∙◌, subst, arith}
use Rattle.std.proofs.lemmas.List.{append_assoc, length-append}
use Rattle.std.proofs.Math.Seq.{get_or-append_seam}
use Rattle.tp_scene.specs.Scene.{Head, Holder, Split, SplitProject, Closed, Opened, Running, Entries, none, leaf, node, new_head}
use Rattle.tp_scene.specs.Advance.{items_in, regions_in, regions_held, second_head, numbered, numbered_head}
use Rattle.tp_slots.specs.Plain.{What, bare, holds, gone, Slot, has_second}
use Rattle.tp_slots.specs.Own.{own_ids}
use Rattle.tp_step.specs.Successors.{slots_for, FullRegion, unmarked_region, regions_for}
use Rattle.tp_step.proofs.Carrying.{slots_count, held_count, regions_count}
use Rattle.tp_step.proofs.NextShape.{SecondIsPlain, AreUnmarked, IsStoredRegion, IsStoredSecond, IsStoredItem, AreStored}

module _ (ss : List Slot) (rs : List FullRegion) where
  item_seam : (home n : ℕ) (w : What) (pre post : List Slot) → pre ++ record { home = home; what = w } ∷ post ≡ ss → n ≡ length pre → IsStoredItem ss rs home n w
  item_seam home n w pre post e f = record {
    within = let c = ap length (sym e) ∙ length-append pre (record { home = home; what = w } ∷ post) in omega (arith, c, f);
    is =
        let x : Slot = record { home = home; what = w } in
        let d : Slot = record { home = 0; what = gone [] } in
        (λ i. get_or (sym e i) (f i) d) ∙ get_or-append_seam pre x post d;
  }

  region_seam : (home id : ℕ) (h : Head) (held : Entries) (pre post : List FullRegion) → pre ++ unmarked_region id (own_ids held) ∷ post ≡ rs → h.number ≡ length pre → home < h.number → h ≡ new_head h.number → IsStoredRegion ss rs home id h held
  region_seam home id h held pre post e f l p = record {
    above = l;
    within = let c = ap length (sym e) ∙ length-append pre (unmarked_region id (own_ids held) ∷ post) in omega (arith, c, f);
    is = (λ i. get_or (sym e i) (f i) (unmarked_region 0 [])) ∙ get_or-append_seam pre (unmarked_region id (own_ids held)) post (unmarked_region 0 []);
    plain_head = p;
  }

  second_seam : (home id r outer : ℕ) (k : Holder) (g : Head) (second next : Entries) (pre post : List FullRegion)
      → pre ++ (cond (has_second k) (unmarked_region id (own_ids next) ∷ []) [] ++ post) ≡ rs → outer ≡ length pre → home < outer → r < outer → SecondIsPlain (has_second k) g second → (second ≡ none → next ≡ none)
      → IsStoredSecond ss rs (has_second k) home id r (second_head k outer g) next
  second_seam home id r outer (Split f env) g second next pre post e n l m p o = (p.0, o p.1)
  second_seam home id r outer (SplitProject f env) g second next pre post e n l m p o = (region_seam home id (numbered_head outer g) next pre post e n l (ap (numbered_head outer) p), m)
  second_seam home id r outer Closed g second next pre post e n l m p o = (p.0, o p.1)
  second_seam home id r outer (Opened f env) g second next pre post e n l m p o = (p.0, o p.1)
  second_seam home id r outer (Running f env) g second next pre post e n l m p o = (region_seam home id (numbered_head outer g) next pre post e n l (ap (numbered_head outer) p), m)

  -- the entries of a second region, where there is one
  second_stored : (outer : ℕ) (k : Holder) (g : Head) (second next : Entries) → SecondIsPlain (has_second k) g second → (second ≡ none → next ≡ none)
      → (has_second k ≡ true → (second_head k outer g).number ≡ outer → regions_held k ≡ 2 → AreStored ss rs (second_head k outer g).number next) → AreStored ss rs (second_head k outer g).number next
  second_stored outer (Split f env) g second next p o y = subst (AreStored ss rs g.number) (sym (o p.1)) tt
  second_stored outer (SplitProject f env) g second next p o y = y refl refl refl
  second_stored outer Closed g second next p o y = subst (AreStored ss rs g.number) (sym (o p.1)) tt
  second_stored outer (Opened f env) g second next p o y = subst (AreStored ss rs g.number) (sym (o p.1)) tt
  second_stored outer (Running f env) g second next p o y = y refl refl refl

  pub stored : (home i r : ℕ) (fs : Entries) (pre post : List Slot) (rpre rpost : List FullRegion) → AreUnmarked fs → pre ++ (slots_for home (numbered i r fs) ++ post) ≡ ss → i ≡ length pre
      → rpre ++ (regions_for (numbered i r fs) ++ rpost) ≡ rs → r ≡ length rpre → home < r → AreStored ss rs home (numbered i r fs)
  stored home i r none pre post rpre rpost p e l f m o = tt
  stored home i r (leaf id w rest) pre post rpre rpost p e l f m o =
      let x : Slot = record { home = home; what = bare w } in
      let last = slots_for home (numbered (i + 1) r rest) in
      let n = length-append pre (x ∷ []) in
      (item_seam home i (bare w) pre (last ++ post) e l, stored home (i + 1) r rest (pre ++ x ∷ []) post rpre rpost p (append_assoc pre (x ∷ []) (last ++ post) ∙ e) (omega (arith, n, l)) f m o)
  stored home i r (node id k h held g second rest) pre post rpre rpost p e l f m o =
      let at = i + items_in held in
      let outer = r + 1 + regions_in held in
      let r2 = r + regions_held k + regions_in held in
      let n = (second_head k outer g).number in
      let inner = numbered i (r + 1) held in
      let seconds = numbered (at + 1) r2 second in
      let others = numbered (at + 1 + items_in second) (r2 + regions_in second) rest in
      let x : Slot = record { home = home; what = holds k r (cond (has_second k) (Some n) None) } in
      let s1 = slots_for r inner in
      let s2 = slots_for n seconds in
      let s3 = slots_for home others in
      let e1 : pre ++ (s1 ++ x ∷ ((s2 ++ s3) ++ post)) ≡ ss = ap (λ zs. pre ++ zs) (sym (append_assoc s1 (x ∷ (s2 ++ s3)) post)) ∙ e in
      let e2 : (pre ++ s1) ++ x ∷ ((s2 ++ s3) ++ post) ≡ ss = append_assoc pre s1 (x ∷ ((s2 ++ s3) ++ post)) ∙ e1 in
      let p3 = (pre ++ s1) ++ x ∷ [] in
      let e3 : p3 ++ (s2 ++ (s3 ++ post)) ≡ ss = ap (λ zs. p3 ++ zs) (sym (append_assoc s2 s3 post)) ∙ (append_assoc (pre ++ s1) (x ∷ []) ((s2 ++ s3) ++ post) ∙ e2) in
      let e4 : (p3 ++ s2) ++ (s3 ++ post) ≡ ss = append_assoc p3 s2 (s3 ++ post) ∙ e3 in
      let c1 = slots_count r i (r + 1) held in
      let c2 = slots_count n (at + 1) r2 second in
      let l1 = length-append pre s1 in
      let l2 = length-append (pre ++ s1) (x ∷ []) in
      let l3 = length-append p3 s2 in
      let u = unmarked_region at (own_ids inner) in
      let t1 = regions_for inner in
      let t2 = cond (has_second k) (unmarked_region at (own_ids seconds) ∷ []) [] in
      let t3 = regions_for seconds in
      let t4 = regions_for others in
      let q1 = rpre ++ u ∷ [] in
      let f1 : q1 ++ (t1 ++ ((t2 ++ (t3 ++ t4)) ++ rpost)) ≡ rs = ap (λ zs. q1 ++ zs) (sym (append_assoc t1 (t2 ++ (t3 ++ t4)) rpost)) ∙ (append_assoc rpre (u ∷ []) ((t1 ++ (t2 ++ (t3 ++ t4))) ++ rpost) ∙ f) in
      let q2 = q1 ++ t1 in
      let f2 : q2 ++ (t2 ++ ((t3 ++ t4) ++ rpost)) ≡ rs = ap (λ zs. q2 ++ zs) (sym (append_assoc t2 (t3 ++ t4) rpost)) ∙ (append_assoc q1 t1 ((t2 ++ (t3 ++ t4)) ++ rpost) ∙ f1) in
      let q3 = q2 ++ t2 in
      let f3 : q3 ++ (t3 ++ (t4 ++ rpost)) ≡ rs = ap (λ zs. q3 ++ zs) (sym (append_assoc t3 t4 rpost)) ∙ (append_assoc q2 t2 ((t3 ++ t4) ++ rpost) ∙ f2) in
      let f4 : (q3 ++ t3) ++ (t4 ++ rpost) ≡ rs = append_assoc q3 t3 (t4 ++ rpost) ∙ f3 in
      let d1 = regions_count i (r + 1) held in
      let d2 = held_count k (unmarked_region at (own_ids seconds)) in
      let d3 = regions_count (at + 1) r2 second in
      let m1 = length-append rpre (u ∷ []) in
      let m2 = length-append q1 t1 in
      let m3 = length-append q2 t2 in
      let m4 = length-append q3 t3 in (
        item_seam home at (holds k r (cond (has_second k) (Some n) None)) (pre ++ s1) ((s2 ++ s3) ++ post) e2 (omega (arith, l, l1, c1)),
        region_seam home at (numbered_head r h) inner rpre ((t1 ++ (t2 ++ (t3 ++ t4))) ++ rpost) f m o (ap (numbered_head r) p.0),
        second_seam home at r outer k g second seconds q2 ((t3 ++ t4) ++ rpost) f2 (omega (arith, m, m1, m2, d1)) (omega (arith, o)) (omega arith) p.1 (ap (numbered (at + 1) r2)),
        stored r i (r + 1) held pre (x ∷ ((s2 ++ s3) ++ post)) q1 ((t2 ++ (t3 ++ t4)) ++ rpost) p.2 e1 l f1 (omega (arith, m, m1)) (omega arith),
        second_stored outer k g second seconds p.1 (ap (numbered (at + 1) r2))
            (λ a b c. stored n (at + 1) r2 second p3 (s3 ++ post) q3 (t4 ++ rpost) p.3 e3 (omega (arith, l, l1, l2, c1)) f3 (omega (arith, m, m1, m2, m3, d1, d2)) (omega (arith, b, c))),
        stored home (at + 1 + items_in second) (r2 + regions_in second) rest (p3 ++ s2) post (q3 ++ t3) rpost p.4 e4 (omega (arith, l, l1, l2, l3, c1, c2)) f4 (omega (arith, m, m1, m2, m3, m4, d1, d2, d3)) (omega (arith, o)),
      )
