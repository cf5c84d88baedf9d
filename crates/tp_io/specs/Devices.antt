-- What the calls of a set of files and of a sink do.
use Rattle.std.specs.Prelude.{◌≡◌, ◌≤◌, ◌+◌, ◌-◌, ◌^◌, ℕ, List, [], ◌∷◌, ◌++◌, length, take, Option, Some, Result, Ok, Err, IfSome}
use Rattle.std.specs.Option.{option_map}
use Rattle.std.specs.Io.KnownBytes.{Appends}
use Rattle.tp_io.specs.declared.refusal.FileRefusal.{FileRefusal}
use Rattle.tp_io.specs.declared.refusal.WriteRefusal.{WriteRefusal}
use Rattle.tp_io.specs.declared.refusal.FileRefusal.TheVariants as file
use Rattle.tp_io.specs.declared.refusal.WriteRefusal.TheVariants as sink
use Rattle.tp_io.specs.Held.{next_count, Held, bytes_of, FileRequest, file_request}

-- the greatest number of the real files' count and of the real sink's, which have 64 bits
abbrev pub last_count : Option ℕ
last_count = Some (2 ^ 64 - 1)

-- the list with one more, where the list is told
abbrev pub and_one_more : {X : Type 0} → Option (List X) → X → Option (List X)
and_one_more told x = option_map (λ xs. xs ++ x ∷ []) told

-- the requests after a read: one more, unless memory is wanted
abbrev pub asked_after : {T : Type 0} → Option (List FileRequest) → List ℕ → (most : ℕ)
    → Result T FileRefusal → Option (List FileRequest)
asked_after told name most (Ok x) = and_one_more told (file_request name most)
asked_after told name most (Err file.Failed) = and_one_more told (file_request name most)
asked_after told name most (Err file.NoMemory) = told

-- a read gave no more than this many bytes, and the first bytes of what the name holds
pub record Reads (held : Option Held) (name : List ℕ) (most : ℕ) (bytes : List ℕ) : Type 0 where
  pub within : length bytes ≤ most
  pub first : IfSome held (λ files. bytes ≡ take most (bytes_of files name))

-- a write appended the piece at `Ok`, a part of it from its start at `Failed`, and nothing at
-- `NoMemory`
abbrev pub Writes : {T : Type 0} → Option (List ℕ) → Option (List ℕ) → List ℕ
    → Result T WriteRefusal → Type 0
Writes old new piece (Ok x) = new ≡ option_map (λ bytes. bytes ++ piece) old
Writes old new piece (Err sink.Failed) =
    (kept : ℕ) × (kept ≤ length piece) × (new ≡ option_map (λ bytes. bytes ++ take kept piece) old)
Writes old new piece (Err sink.NoMemory) = new ≡ old

-- a count of failed reads after one more read: it rises where that failed, and at its greatest
-- number it stands still
abbrev pub reads_failed_after : {T : Type 0} → Option ℕ → ℕ → Result T FileRefusal → ℕ
reads_failed_after greatest count (Ok x) = count
reads_failed_after greatest count (Err file.Failed) = next_count greatest count
reads_failed_after greatest count (Err file.NoMemory) = count

-- the same for writes
abbrev pub writes_failed_after : {T : Type 0} → Option ℕ → ℕ → Result T WriteRefusal → ℕ
writes_failed_after greatest count (Ok x) = count
writes_failed_after greatest count (Err sink.Failed) = next_count greatest count
writes_failed_after greatest count (Err sink.NoMemory) = count

-- a part of the piece from its start was appended, where the bytes are known
abbrev pub AppendsPart : Option (List ℕ) → Option (List ℕ) → List ℕ → Type 0
AppendsPart old new piece = (kept : ℕ) × (kept ≤ length piece) × Appends old new (take kept piece)
