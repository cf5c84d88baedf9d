-- What picking an item gives in moments that are alike.
use Rattle.std.proofs.Common.{◌≡◌, ℕ, ◌||◌, Bool, List, length, ap, sym, ◌∙◌, subst}
use Rattle.tp_scene.specs.Scene.{Region, has, Place, root_place}
use Rattle.tp_scene.specs.Step.{Numbers}
use Rattle.tp_scene.specs.Pick.{Setting, Moment, pick, numbers_of, outcome_of}
use Rattle.tp_scene.specs.Laws.{IsSound}
use Rattle.tp_step_laws.specs.Renaming.{renamed_entries, renamed_region, renamed_place, Renamed}
use Rattle.tp_step_laws.specs.Maps.{Renaming}
use Rattle.tp_step_laws.specs.Alike.{AlikeBy}
use Rattle.tp_step_laws.proofs.RenamePick.{marked_to, has_to, risen_to, pick_to}

pub root_to : (ρ : Renaming) (r : Region) → root_place (renamed_region ρ r) ≡ renamed_place ρ (root_place r)
root_to ρ r = λ j. record { region = ρ.region.to r.head.number; depth = 0; is = λ z. marked_to ρ z r.head j || risen_to ρ z r.entries j }

pub lives_alike : (m n : Moment) (globals : ℕ) (ρ : Renaming) → AlikeBy globals ρ m n → (t : ℕ) → has (ρ.item.to t) n.scene.root.entries ≡ has t m.scene.root.entries
lives_alike m n globals ρ a t = ap (λ (r : Region). has (ρ.item.to t) r.entries) a.root ∙ has_to ρ t m.scene.root.entries

module _ (w : Setting) (kinds : List Bool) (m n : Moment) (ρ : Renaming) (sm : IsSound w kinds m) (sn : IsSound w kinds n) (a : AlikeBy (length kinds) ρ m n) where
  abbrev nm : Numbers
  nm = numbers_of m.scene m.store.variables

  abbrev nn : Numbers
  nn = numbers_of n.scene n.store.variables

  pub given_alike : (t : ℕ) → Renamed ρ nm nn (outcome_of w m.store m.scene t) (outcome_of w n.store n.scene (ρ.item.to t))
  given_alike t =
      let x = pick_to ρ nm nn w kinds sm.definitions a.globals_fixed m.store.facts n.store.facts sm.store.no_clash sn.store.no_clash a.facts m.store.variables t m.scene.root.entries (root_place m.scene.root) sm.moment.entries in
      let y = subst (λ (p : Place). Renamed ρ nm nn (outcome_of w m.store m.scene t) (pick w n.store.facts (ρ.item.to t) (renamed_entries ρ m.scene.root.entries) p nn)) (sym (root_to ρ m.scene.root)) x in
      subst (λ (r : Region). Renamed ρ nm nn (outcome_of w m.store m.scene t) (pick w n.store.facts (ρ.item.to t) r.entries (root_place r) nn)) (sym a.root) y
