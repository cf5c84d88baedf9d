-- What each call of files and sinks in memory answers and leaves.
use Rattle.std.specs.Prelude.{◌≡◌, ◌⊎◌, ◌+◌, ℕ, nat_eq, List, [], ◌∷◌, ◌++◌, length, take, Contains, find, Option, None, Some, Result, Ok, Err}
use Rattle.std.specs.FinMap.{get}
use Rattle.tp_io.specs.Held.{file_request}
use Rattle.tp_io.specs.Memory.{held_of, ShelfView, PageView, SureShelfView}
use Rattle.tp_io.specs.declared.memory.Failure.{Failure}
use Rattle.tp_io.specs.declared.refusal.FileRefusal.{FileRefusal}
use Rattle.tp_io.specs.declared.refusal.WriteRefusal.{WriteRefusal}
use Rattle.tp_io.specs.declared.refusal.FileRefusal.TheVariants as file
use Rattle.tp_io.specs.declared.refusal.WriteRefusal.TheVariants as sink

-- The next read of this name fails: its number, counted from 1, is one of those that are to fail,
-- or the name isn't there. A read that wanted memory has no number.
abbrev pub FailsAt : ShelfView → List ℕ → Type 0
FailsAt shelf name =
    Contains shelf.failing (length shelf.asked + 1) ⊎ (get (held_of shelf.contents) name ≡ None)

abbrev pub shelf_after : {T : Type 0} → ShelfView → List ℕ → (most : ℕ) → Result T FileRefusal
    → ShelfView
shelf_after old name most (Ok x) = record old { asked = old.asked ++ file_request name most ∷ [] }
shelf_after old name most (Err file.Failed) =
    record old { asked = old.asked ++ file_request name most ∷ []; faults = old.faults + 1 }
shelf_after old name most (Err file.NoMemory) = old

abbrev pub sure_shelf_after : {T : Type 0} → SureShelfView → List ℕ → (most : ℕ)
    → Result T FileRefusal → SureShelfView
sure_shelf_after old name most (Ok x) =
    record old { asked = old.asked ++ file_request name most ∷ [] }
sure_shelf_after old name most (Err refusal) = old

-- The next write fails where this tells how many bytes of its piece are kept; of two failures of
-- one number the first counts. A write that wanted memory has no number.
abbrev pub failure_of : PageView → Option Failure
failure_of page = find (λ (f : Failure). nat_eq f.call (page.calls + 1)) page.failing

-- how many bytes of its piece the next write keeps where it fails
abbrev pub kept_by : Option Failure → ℕ
kept_by None = 0
kept_by (Some failure) = failure.kept

abbrev pub page_after : {T : Type 0} → PageView → List ℕ → Result T WriteRefusal → PageView
page_after old piece (Ok x) = record old { calls = old.calls + 1; text = old.text ++ piece }
page_after old piece (Err sink.Failed) =
    record old {
      calls = old.calls + 1;
      text = old.text ++ take (kept_by (failure_of old)) piece;
      faults = old.faults + 1;
    }
page_after old piece (Err sink.NoMemory) = old
