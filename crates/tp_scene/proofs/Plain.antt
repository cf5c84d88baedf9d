-- What a formula becomes: new items in order, or one new region with one item, and a mark on a side whose other side the region hasn't.
use Rattle.std.proofs.Common.{◌≡◌, ℕ, suc, true, List, ◌⊎◌, inl, inr, sym, ◌∙◌}
use Rattle.std.specs.Prelude.{Option, Some}
use Rattle.std.proofs.lemmas.Bool.{false≢true}
use Rattle.tp_value.specs.declared.path.Fact.{Fact}
use Rattle.tp_meaning.specs.Syntax.{Definition}
use Rattle.tp_meaning.specs.Inputs.{InputTable}
use Rattle.tp_scene.specs.Scene.{Side, other_side, Leaf, Do, Holder, Split, SplitProject, Closed, Opened, Running, Entries, none, leaf, node, new_head, no_region, Place}
use Rattle.tp_scene.specs.Step.{Reduction, PickOutcome, reduces, waits, rests, clashes, misses, passes, Numbers, leaf_step}
use Rattle.tp_scene.proofs.Parts.{Whatever}
use Rattle.tp_scene.proofs.Told.{Bundle, LeavesTold, HolderTold, Told}
use Rattle.tp_scene.proofs.Free.{loose, LooseKeep, loose_told}

-- the new items with these numbers, in order
abbrev pub FreshLeaves : Numbers → (from : ℕ) → Entries → (to : ℕ) → Type 0
FreshLeaves n from none to = to ≡ from
FreshLeaves n from (leaf id l rest) to = (id ≡ n.item from) × FreshLeaves n (suc from) rest to
FreshLeaves n from (node id k h held g second rest) to = ⊥

-- a left or an outer region
abbrev pub IsNewHolder : Holder → Type 0
IsNewHolder (Split f env) = Unit {0}
IsNewHolder (SplitProject f env) = ⊥
IsNewHolder Closed = ⊥
IsNewHolder (Opened f env) = Unit {0}
IsNewHolder (Running f env) = ⊥

-- one new region with one item
pub record NewRegion (n : Numbers) (es : Entries) : Type 0 where
  pub holder : Holder
  pub is_new : IsNewHolder holder
  pub item : Leaf
  pub is : es ≡ node (n.item 1) holder (new_head n.region) (leaf (n.item 0) item none) no_region none none

pub record Plain (p : Place) (n : Numbers) (r : Reduction) : Type 0 where
  pub mark : (z : Side) → r.mark ≡ Some z → p.is (other_side z) ≡ true → ⊥
  pub news : (FreshLeaves n 0 r.news r.items × (r.regions ≡ 0)) ⊎ (NewRegion n r.news × (r.items ≡ 2) × (r.regions ≡ 1))

module _ (facts : List Fact) (p : Place) (n : Numbers) where
  abbrev pub IsPlain : PickOutcome → Type 0
  IsPlain (reduces r) = Plain p n r
  IsPlain (waits first other) = Unit {0}
  IsPlain rests = Unit {0}
  IsPlain (clashes c) = Unit {0}
  IsPlain (misses port) = Unit {0}
  IsPlain (passes k) = Unit {0}

  abbrev b : Bundle
  b = loose Whatever (λ fs. Unit {0})

  fresh : (m : Option Side) (from : ℕ) (es : Entries) (to : ℕ) → LeavesTold b facts p n m from es to → FreshLeaves n from es to
  fresh m from (leaf id l rest) to h = (h.0, fresh m (suc from) rest to h.2)
  fresh m from es to h = h

  new_holder : (k : Holder) → HolderTold b facts p n k → IsNewHolder k
  new_holder (Split f env) h = tt
  new_holder (Opened f env) h = tt
  new_holder k h = h

  plain : (o : PickOutcome) → Told b facts p n o → IsPlain o
  plain (reduces r) h = record {
    mark = λ z e f. false≢true (sym (h.mark z e) ∙ f);
    news = elim (h.news tt) [
      | inl x ↦ inl (fresh r.mark 0 r.news r.items x.0, x.1)
      | inr x ↦ inr (record { holder = x.0.holder; is_new = new_holder x.0.holder x.0.told; item = Do x.0.item x.0.env; is = x.0.is }, x.1, x.2)
    ];
  }
  plain o h = tt

  module _ (defs : List Definition) (inputs : InputTable) (state : ℕ) where
    pub leaf_plain : (l : Leaf) → IsPlain (leaf_step defs inputs state facts l p n)
    leaf_plain (Do f env) = plain _ (loose_told Whatever (λ fs. Unit {0}) defs inputs state facts keep f env p n) where
      keep : LooseKeep Whatever (λ fs. Unit {0}) defs facts
      keep = record { value = λ e xs. tt; other = λ e xs o q. tt; values = λ v. tt; sets = λ q v. tt; lengthens = λ q k. tt; shapes = λ x q sh e. tt; open_path = λ q u v. tt }
    leaf_plain l = tt
