-- Steps that set a mark.
use Rattle.std.specs.Prelude.{◌≡◌, ◌≢◌, ℕ, Bool, true, List}
use Rattle.std.specs.Option.{is_some}
use Rattle.tp_scene.specs.Scene.{Head, Entries, Scene}
use Rattle.tp_scene.specs.Regions.{Role, HoldsRegion, LiveRegion}
use Rattle.tp_scene.specs.RegionLaws.{StandsLive}
use Rattle.tp_scene.specs.Step.{Reduction}
use Rattle.tp_scene.specs.Pick.{Setting, Moment, Reduces}
use Rattle.tp_scene.specs.Cells.{IsKnownEnd}
use Rattle.tp_scene.specs.Laws.{IsSound}

-- An item of the live region with the number p holds the live region with the number q.
pub record StandsAround (s : Scene) (q p : ℕ) : Type 0 where
  pub head : Head
  pub entries : Entries
  pub around : LiveRegion s head entries
  pub numbered : head.number ≡ p
  pub role : Role
  pub inner : Head
  pub held : Entries
  pub holds : HoldsRegion entries role inner held
  pub named : inner.number ≡ q

-- One region at most stands around a region, and never the region itself.
abbrev pub OneStandsAround : Type 0
OneStandsAround = (w : Setting) (kinds : List Bool) (m : Moment) → IsSound w kinds m
    → (q p : ℕ) → StandsAround m.scene q p
    → (q ≢ p) × ((other : ℕ) → StandsAround m.scene q other → other ≡ p)

-- Of this region it has become known whether it ends or goes.
pub record IsNewlyKnown (before after : Scene) (r : ℕ) : Type 0 where
  pub now : IsKnownEnd after r
  pub not_before : IsKnownEnd before r → ⊥

-- From one region outward to another, through regions of which that has become known.
pub data LeadsOutward (before after : Scene) : ℕ → ℕ → Type 0 where
  arrived : {r : ℕ} → IsNewlyKnown before after r → LeadsOutward before after r r
  outward : {r p top : ℕ} → IsNewlyKnown before after r → StandsAround after r p
      → LeadsOutward before after p top → LeadsOutward before after r top

-- What a mark makes known leads outward to where the marked region leads.
abbrev pub MarkedStepsEndNear : Type 0
MarkedStepsEndNear = (w : Setting) (kinds : List Bool) (m : Moment) (t : ℕ) (s : Reduction)
    (next : Moment)
    → IsSound w kinds m → Reduces w m t s next → is_some s.mark ≡ true
    → (home : StandsLive m.scene t) (r : ℕ) → IsNewlyKnown m.scene next.scene r
    → (top : ℕ) × LeadsOutward m.scene next.scene home.head.number top
    × LeadsOutward m.scene next.scene r top
