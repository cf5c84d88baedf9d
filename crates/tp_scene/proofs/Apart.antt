-- The facts of a reduction stand apart from each other and from those that are kept.
use Rattle.std.proofs.Common.{◌≡◌, ℕ, List, [], ◌++◌, inl, inr, refl, sym, subst, append-nil}
use Rattle.tp_value.specs.Tree.{Tree}
use Rattle.tp_value.specs.declared.path.Path.{Path}
use Rattle.tp_value.specs.declared.path.Fact.{Fact}
use Rattle.tp_meaning.specs.Syntax.{Definition}
use Rattle.tp_meaning.specs.Inputs.{InputTable}
use Rattle.tp_store.specs.Facts.{facts_at}
use Rattle.tp_store.specs.Known.{NoClash, adds, addition}
use Rattle.tp_scene.specs.Scene.{Leaf, Do, Holder, Closed, Opened, Running, Entries, Region, Place, held_place}
use Rattle.tp_scene.specs.Step.{PickOutcome, reduces, waits, rests, clashes, misses, passes, Numbers, by_status, leaf_step, holder_step}
use Rattle.tp_scene.specs.Pick.{Setting, pick}
use Rattle.tp_scene.proofs.Frame.{region}
use Rattle.tp_scene.proofs.Parts.{Whatever, status_has, picked_has}
use Rattle.tp_scene.proofs.Told.{Told}
use Rattle.tp_scene.proofs.Free.{loose, LooseKeep, loose_told}

-- the facts of a value stand apart
abbrev pub ValuesApart : Type 0
ValuesApart = (p : Path) (t : Tree) → NoClash (facts_at p t)

-- and so do the new facts of an addition
abbrev pub AdditionsApart : Type 0
AdditionsApart = (kept facts news : List Fact) → NoClash kept → NoClash facts → addition kept facts ≡ adds news → NoClash (kept ++ news)

module _ (facts : List Fact) (kept : NoClash facts) where
  abbrev pub IsApart : PickOutcome → Type 0
  IsApart (reduces r) = NoClash (facts ++ r.facts)
  IsApart (waits first other) = Unit {0}
  IsApart rests = Unit {0}
  IsApart (clashes c) = Unit {0}
  IsApart (misses port) = Unit {0}
  IsApart (passes k) = Unit {0}

  nothing_new : NoClash (facts ++ [])
  nothing_new = subst (λ (fs : List Fact). NoClash fs) (sym (append-nil facts)) kept

  status_apart : (p : Place) (o o' : PickOutcome) → IsApart o → IsApart o' → IsApart (by_status p o o')
  status_apart p o o' h h' = status_has IsApart p o o' (λ g. h) (λ g e. h') (λ g e. tt)

  module _ (values : ValuesApart) (additions : AdditionsApart) where
    apart : (p : Place) (n : Numbers) (o : PickOutcome) → Told (loose Whatever NoClash) facts p n o → IsApart o
    apart p n (reduces r) h = elim h.facts_of [
      | inl e ↦ subst (λ (fs : List Fact). NoClash (facts ++ fs)) (sym e) nothing_new
      | inr x ↦ additions facts x.0 r.facts kept x.1 x.2
    ]
    apart p n o h = tt

    module _ (defs : List Definition) (inputs : InputTable) (state : ℕ) where
      leaf_apart : (l : Leaf) (p : Place) (n : Numbers) → IsApart (leaf_step defs inputs state facts l p n)
      leaf_apart (Do f env) p n = apart p n _ (loose_told Whatever NoClash defs inputs state facts keep f env p n) where
        keep : LooseKeep Whatever NoClash defs facts
        keep = record { value = λ e xs. tt; other = λ e xs o q. tt; values = λ v. tt; sets = values; lengthens = λ q k. (refl, refl, tt); shapes = λ x q sh e. (refl, refl, tt); open_path = λ q u v. tt }
      leaf_apart l p n = tt

      holder_apart : (k : Holder) (held second : Region) (q : Place) (n : Numbers) → IsApart (holder_step defs inputs state facts k held second q n)
      holder_apart Closed held second q n = tt
      holder_apart (Opened f env) held second q n = status_apart q _ _ nothing_new tt
      holder_apart (Running f env) held second q n = tt
      holder_apart k held second q n = status_apart q _ _ tt nothing_new

pub picked_apart : ValuesApart → AdditionsApart → (w : Setting) (facts : List Fact) (kept : NoClash facts) (t : ℕ) (es : Entries) (p : Place) (n : Numbers) → IsApart facts kept (pick w facts t es p n)
picked_apart values additions w facts kept t es p n =
    picked_has (IsApart facts kept) w facts t n (λ es p. Unit {0}) tt (λ id l rest p h. (leaf_apart facts kept values additions w.defs w.inputs w.state l p n, tt))
    (λ id k h held g second rest p x. (holder_apart facts kept values additions w.defs w.inputs w.state k (region h held) (region g second) (held_place k h held p) n, λ e. tt, tt, tt)) es p tt
