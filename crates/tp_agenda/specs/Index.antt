-- What the index of waits holds. No moment is in it.
use Rattle.std.specs.Prelude.{◌≡◌, ◌⊎◌, ◌+◌, ◌*◌, ◌^◌, ◌%◌, ℕ, zero, suc, ◌<◌, ◌≤◌, ◌&&◌, Bool, true, false, nat_eq, List, [], ◌∷◌, Option, length, get_or, slice_get, unwrap_or, cond, Some}
use Rattle.std.specs.Cmp.Lexicographic.{pointwise}
use Rattle.std.specs.Bool.{beq}
use Rattle.indexmap.specs.IndexMap.{get}
use Rattle.tp_value.specs.declared.path.VarId.{VarId}
use Rattle.tp_value.specs.declared.path.Path.{Path}
use Rattle.tp_scene.specs.declared.answer.Cell.{Cell}
use Rattle.tp_scene.specs.declared.answer.Cell.TheVariants.{Part, End}
use Rattle.tp_step.specs.declared.tally.Wait.{Wait}
use Rattle.tp_agenda.specs.declared.index.Link.{Link}
use Rattle.tp_agenda.specs.declared.index.Item.{Item}
use Rattle.tp_agenda.specs.declared.index.Index.{Index}
use Rattle.tp_agenda.specs.Decides.{holds_path}
use Rattle.tp_agenda.specs.Ready.{WaitsFor}
use Rattle.tp_lanes.specs.Planes.{flag}

abbrev pub no_link : Link
no_link = record { place = 0; next = 0 }

-- the places that the links name from the n-th on, as far as so many of them
abbrev pub places_named : (most : ℕ) → List Link → (n : ℕ) → List ℕ
places_named zero ls n = []
places_named (suc k) ls zero = []
places_named (suc k) ls (suc n) =
    (get_or ls n no_link).place ∷ places_named k ls (get_or ls n no_link).next

-- the tests of keys by which links are found
abbrev pub equal_variables : VarId → VarId → Bool
equal_variables x y = nat_eq x.number y.number && beq x.lasting y.lasting

abbrev pub equal_paths : Path → Path → Bool
equal_paths p q = equal_variables p.var q.var && pointwise nat_eq p.at q.at

abbrev pub equal_items : Item → Item → Bool
equal_items i j = equal_variables i.var j.var && nat_eq i.index j.index

-- the numbers of an item as one; where they are small, each item has its own
abbrev pub item_number : Item → ℕ
item_number i = ((i.var.number * 2 % 2 ^ 64 + cond i.var.lasting 1 0) % 2 ^ 64 * 2 ^ 32 % 2 ^ 64
    + i.index) % 2 ^ 64

-- what is kept of a path, which has these indices
abbrev pub kept_of : Index → Path → (at : List ℕ) → Option ℕ
kept_of x p [] = get equal_variables x.wholes p.var
kept_of x p (k ∷ []) = get equal_items x.items (record { var = p.var; index = k })
kept_of x p (j ∷ k ∷ ks) = get equal_paths x.parts p

-- the newest link of a path, from 1, and of a region's end; 0 for none
abbrev pub newest_at : Index → Path → ℕ
newest_at x p = unwrap_or (kept_of x p p.at) 0

abbrev pub newest_for : Index → (region : ℕ) → ℕ
newest_for x r = unwrap_or (get nat_eq x.ends r) 0

-- the places of waits that are filed under a path, and for the end of a region
abbrev pub filed_at : Index → Path → List ℕ
filed_at x p = places_named (newest_at x p) x.links.items (newest_at x p)

abbrev pub filed_for : Index → (region : ℕ) → List ℕ
filed_for x r = places_named (newest_for x r) x.links.items (newest_for x r)

-- Each link leads to an earlier one, and none is missing.
pub record IsChained (x : Index) : Type 0 where
  pub nexts : (k : ℕ) → k < length x.links.items → (get_or x.links.items k no_link).next ≤ k
  pub paths_fit : (p : Path) → newest_at x p ≤ length x.links.items
  pub ends_fit : (r : ℕ) → newest_for x r ≤ length x.links.items

-- each new link names this place
abbrev pub IsPushed : (old new : Index) → (place : ℕ) → Type 0
IsPushed old new place = (k : ℕ) → k < length new.links.items
    → (k < length old.links.items)
    × (get_or new.links.items k no_link ≡ get_or old.links.items k no_link)
    ⊎ ((get_or new.links.items k no_link).place ≡ place)

-- One more place was filed, under the paths and for the ends that pass these tests.
pub record HasFiled (old new : Index) (place : ℕ) (path : Path → Bool) (region : ℕ → Bool) :
    Type 0 where
  pub chained : IsChained new
  pub paths : (q : Path) → filed_at new q ≡ cond (path q) (place ∷ filed_at old q) (filed_at old q)
  pub ends : (r : ℕ) → filed_for new r
      ≡ cond (region r) (place ∷ filed_for old r) (filed_for old r)

-- where a wait for the cell is filed
abbrev pub is_filed_under : Cell → Path → Bool
is_filed_under (Part p) q = holds_path q p
is_filed_under (End region depth) q = false

abbrev pub is_filed_for : Cell → (region : ℕ) → Bool
is_filed_for (Part p) r = false
is_filed_for (End region depth) r = nat_eq region r

-- the place is one of these
abbrev pub IsPlaceIn : List ℕ → ℕ → Type 0
IsPlaceIn [] i = ⊥
IsPlaceIn (k ∷ ks) i = (k ≡ i) ⊎ IsPlaceIn ks i

-- A wait for a path is filed under the path and each that it lies within; one for the end of a
-- region is filed there as long as it isn't over.
pub record IsFiled (x : Index) (waits : List Wait) (over : List Bool) : Type 0 where
  pub chained : IsChained x
  pub within : (k : ℕ) → k < length x.links.items
      → (get_or x.links.items k no_link).place < length waits
  pub paths : (i : ℕ) (w : Wait) (p q : Path) → slice_get waits i ≡ Some w → WaitsFor w (Part p)
      → holds_path q p ≡ true → IsPlaceIn (filed_at x q) i
  pub ends : (i : ℕ) (w : Wait) (r d : ℕ) → slice_get waits i ≡ Some w → flag over i ≡ false
      → WaitsFor w (End r d) → IsPlaceIn (filed_for x r) i
