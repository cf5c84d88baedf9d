-- The calls' answers as what they stand for.
use Rattle.std.specs.Prelude.{◌≡◌, List, Some}
use Rattle.tp_value.specs.declared.path.Fact.{Fact}
use Rattle.tp_value.specs.Read.{tree}
use Rattle.tp_store.specs.Known as known
use Rattle.tp_store.specs.Facts.{kept_shape}
use Rattle.tp_store.specs.Known.{Full, absent, undecided, too_long, Addition, adds, refuses, Whole, open_at, first_clash}
use Rattle.tp_store.specs.FactMap.{IsNewFact}
use Rattle.tp_store.specs.declared.note.Noted.{Noted}
use Rattle.tp_store.specs.declared.note.Noted.TheVariants.{New, Kept}
use Rattle.tp_store.specs.declared.note.Noted.TheVariants as noted
use Rattle.tp_store.specs.declared.full.Known.{Known}
use Rattle.tp_store.specs.declared.full.Known.TheVariants.{Absent, Open, TooLong, Value}
use Rattle.tp_store.specs.declared.full.WholeFound.{WholeFound}
use Rattle.tp_store.specs.declared.full.WholeFound.TheVariants as found
use Rattle.tp_store.specs.declared.add.AddRefusal.{AddRefusal}
use Rattle.tp_store.specs.declared.add.AddRefusal.TheVariants.{Clash, NoMemory}

abbrev pub full_of : Known → Full
full_of Absent = absent
full_of (Open p) = undecided p
full_of TooLong = too_long
full_of (Value v) = known.value (tree v)

abbrev pub whole_of : WholeFound → Whole
whole_of (found.Whole v) = known.known (tree v)
whole_of (found.Open p) = open_at p

-- The facts can be added.
abbrev pub Adds : Addition → Type 0
Adds (adds news) = Unit {0}
Adds (refuses kept new) = ⊥

-- What becomes of a fact that is noted: it is new and clashes with none that is kept, it is kept
-- already, or one that is kept clashes with it.
abbrev pub IsNoted : (kept : List Fact) → Fact → Noted → Type 0
IsNoted kept f New = IsNewFact kept f
IsNoted kept f Kept = kept_shape kept f.path ≡ Some f.shape
IsNoted kept f noted.Clash = (g : Fact) × (first_clash kept f ≡ Some g)

-- it holds where the fact is new
abbrev pub IfNew : Noted → Type 0 → Type 0
IfNew New P = P
IfNew Kept P = Unit {0}
IfNew noted.Clash P = Unit {0}

-- it holds where the fact isn't new
abbrev pub UnlessNew : Noted → Type 0 → Type 0
UnlessNew New P = Unit {0}
UnlessNew Kept P = P
UnlessNew noted.Clash P = P

-- A refusal names the two facts of a clash, or it is for want of memory.
abbrev pub IsRefusal : Addition → AddRefusal → Type 0
IsRefusal o (Clash kept new) = o ≡ refuses kept new
IsRefusal o NoMemory = Unit {0}
