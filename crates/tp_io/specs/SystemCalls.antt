-- The calls of the system that the real devices make, and which of them a read and a write are made
-- of.
use Rattle.std.specs.Prelude.{◌≡◌, ◌≢◌, ◌⊎◌, ◌≤◌, ◌<◌, ◌+◌, ◌-◌, ◌^◌, ℕ, Bool, true, false, List, [], ◌∷◌, ◌++◌, length, drop, Option, None, Some, Result, Ok, Err}
use Rattle.std.specs.Option.{option_map}
use Rattle.std.specs.declared.io.ErrorKind.{ErrorKind}
use Rattle.std.specs.declared.io.ErrorKind.TheVariants as kind
use Rattle.tp_io.specs.declared.system.CallFault.{CallFault}
use Rattle.tp_io.specs.declared.system.CallFault.TheVariants as fault
use Rattle.tp_io.specs.declared.refusal.FileRefusal.{FileRefusal}
use Rattle.tp_io.specs.declared.refusal.WriteRefusal.{WriteRefusal}
use Rattle.tp_io.specs.declared.refusal.FileRefusal.TheVariants as file
use Rattle.tp_io.specs.declared.refusal.WriteRefusal.TheVariants as sink

-- why a call did nothing, if it did
abbrev pub fault_in : {T : Type 0} → Result T CallFault → Option CallFault
fault_in (Ok x) = None
fault_in (Err e) = Some e

-- A call that opened a file, or didn't; and one that read so many bytes of as many as were asked
-- for, or none.
pub data FileCall : Type 0 where
  open_call : (name : List ℕ) (fault : Option CallFault) → FileCall
  read_call : (asked : ℕ) (outcome : Result ℕ CallFault) → FileCall

-- A call that wrote so many of these bytes, or none.
pub data WriteCall : Type 0 where
  write_call : (bytes : List ℕ) (outcome : Result ℕ CallFault) → WriteCall

-- the fault that stands for an error of this kind
abbrev pub IsFaultOf : ErrorKind → CallFault → Type 0
IsFaultOf k fault.Interrupted = k ≡ kind.Interrupted
IsFaultOf k fault.NoMemory = k ≡ kind.OutOfMemory
IsFaultOf k fault.Failed = (k ≢ kind.Interrupted) × (k ≢ kind.OutOfMemory)

-- what is left of the open file; without one nothing is
abbrev pub unread_in : {F : Type 0} → (F → Option (List ℕ)) → Option F → Option (List ℕ)
unread_in remaining None = Some []
unread_in remaining (Some f) = remaining f

-- the calls so far after these, where they are told
abbrev pub and_these : {X : Type 0} → Option (List X) → List X → Option (List X)
and_these told xs = option_map (λ ys. ys ++ xs) told

-- so many calls are made at the most
abbrev pub most_calls : ℕ
most_calls = 2 ^ 64 - 1

-- The calls that read so many bytes of an open file, of which `most` are wanted: none asked for
-- more than was still wanted; one that was interrupted was made again; and none failed.
pub data HaveRead (most : ℕ) : List FileCall → ℕ → Type 0 where
  none_yet : HaveRead most [] 0
  gave : {calls : List FileCall} {n : ℕ} (asked count : ℕ) → HaveRead most calls n
      → n + asked ≤ most → 0 < count → count ≤ asked
      → HaveRead most (calls ++ read_call asked (Ok count) ∷ []) (n + count)
  again : {calls : List FileCall} {n : ℕ} (asked : ℕ) → HaveRead most calls n → n + asked ≤ most
      → HaveRead most (calls ++ read_call asked (Err fault.Interrupted) ∷ []) n

-- Calls that read so many bytes, and then one more, with this outcome, which asked for some of what
-- was still wanted.
pub record OneMoreRead (most : ℕ) (calls : List FileCall) (n : ℕ) (outcome : Result ℕ CallFault) :
    Type 0 where
  pub before : List FileCall
  pub asked : ℕ
  pub read : HaveRead most before n
  pub some : 0 < asked
  pub within : n + asked ≤ most
  pub last : calls ≡ before ++ read_call asked outcome ∷ []

-- The calls that read an open file, by what comes of them. Either all was read that is wanted, or
-- the last call gave nothing: there is no more. Or the last call failed, or as many calls were made
-- as may be. Or the last call wanted memory, or the reader did, for what was read.
abbrev pub ReadsOpen : ℕ → List FileCall → Result (List ℕ) FileRefusal → Type 0
ReadsOpen most calls (Ok bytes) =
    ((length bytes ≡ most) × HaveRead most calls most)
    ⊎ OneMoreRead most calls (length bytes) (Ok 0)
ReadsOpen most calls (Err file.Failed) = (n : ℕ)
    × (OneMoreRead most calls n (Err fault.Failed)
    ⊎ (HaveRead most calls n × (most_calls ≤ length calls)))
ReadsOpen most calls (Err file.NoMemory) = (n : ℕ)
    × (OneMoreRead most calls n (Err fault.NoMemory) ⊎ HaveRead most calls n)

-- why a file that wasn't opened couldn't be read
abbrev pub refusal_of_fault : CallFault → FileRefusal
refusal_of_fault fault.Interrupted = file.Failed
refusal_of_fault fault.NoMemory = file.NoMemory
refusal_of_fault fault.Failed = file.Failed

-- The calls that read the file with this name, which is opened by the first of them alone.
abbrev pub ReadsByCalls : List ℕ → ℕ → List FileCall → Result (List ℕ) FileRefusal → Type 0
ReadsByCalls name most calls result =
    ((f : CallFault) × (calls ≡ open_call name (Some f) ∷ []) × (result ≡ Err (refusal_of_fault f)))
    ⊎ ((reads : List FileCall) × (calls ≡ open_call name None ∷ reads)
    × ReadsOpen most reads result)

-- The calls that wrote so many bytes of the piece: each was handed all that was still to be
-- written; one that was interrupted was made again; and none failed or took nothing.
pub data HaveWritten (piece : List ℕ) : List WriteCall → ℕ → Type 0 where
  none_yet : HaveWritten piece [] 0
  took : {calls : List WriteCall} {n : ℕ} (count : ℕ) → HaveWritten piece calls n → 0 < count
      → n + count ≤ length piece
      → HaveWritten piece (calls ++ write_call (drop n piece) (Ok count) ∷ []) (n + count)
  again : {calls : List WriteCall} {n : ℕ} → HaveWritten piece calls n → n < length piece
      → HaveWritten piece (calls ++ write_call (drop n piece) (Err fault.Interrupted) ∷ []) n

-- Calls that wrote so many bytes, and then one more, with this outcome.
pub record OneMoreWrite (piece : List ℕ) (calls : List WriteCall) (outcome : Result ℕ CallFault) :
    Type 0 where
  pub before : List WriteCall
  pub count : ℕ
  pub written : HaveWritten piece before count
  pub some : count < length piece
  pub last : calls ≡ before ++ write_call (drop count piece) outcome ∷ []

-- The calls that write a piece, by what comes of them. All of it was written; or the last call
-- failed, or took nothing, or as many were made as may be; or the last call wanted memory.
abbrev pub WritesPiece : {T : Type 0} → List ℕ → List WriteCall → Result T WriteRefusal → Type 0
WritesPiece piece calls (Ok x) = HaveWritten piece calls (length piece)
WritesPiece piece calls (Err sink.Failed) = OneMoreWrite piece calls (Err fault.Failed)
    ⊎ OneMoreWrite piece calls (Ok 0)
    ⊎ ((n : ℕ) × HaveWritten piece calls n × (most_calls ≤ length calls))
WritesPiece piece calls (Err sink.NoMemory) = OneMoreWrite piece calls (Err fault.NoMemory)

-- What one read of so many bytes comes to: it goes on, since it gave some, which were appended, or
-- was interrupted; or there is no more; or it failed; or it wanted memory, or the reader did,
-- before the call or for what it gave.
abbrev pub OneRead : ℕ → List FileCall → (old new : List ℕ) → Result Bool FileRefusal → Type 0
OneRead asked calls old new (Ok true) =
    ((count : ℕ) × (0 < count) × (count ≤ asked) × (length new ≡ length old + count)
    × (calls ≡ read_call asked (Ok count) ∷ []))
    ⊎ ((length new ≡ length old) × (calls ≡ read_call asked (Err fault.Interrupted) ∷ []))
OneRead asked calls old new (Ok false) =
    (length new ≡ length old) × (calls ≡ read_call asked (Ok 0) ∷ [])
OneRead asked calls old new (Err file.Failed) = calls ≡ read_call asked (Err fault.Failed) ∷ []
OneRead asked calls old new (Err file.NoMemory) = (calls ≡ [])
    ⊎ (calls ≡ read_call asked (Err fault.NoMemory) ∷ [])
    ⊎ ((count : ℕ) × (0 < count) × (count ≤ asked) × (calls ≡ read_call asked (Ok count) ∷ []))

-- What one write of these bytes comes to: it took so many, or was interrupted; or it failed or took
-- nothing; or it wanted memory.
abbrev pub OneWrite : List ℕ → List WriteCall → Result ℕ WriteRefusal → Type 0
OneWrite bytes calls (Ok count) =
    ((0 < count) × (calls ≡ write_call bytes (Ok count) ∷ []))
    ⊎ ((count ≡ 0) × (calls ≡ write_call bytes (Err fault.Interrupted) ∷ []))
OneWrite bytes calls (Err sink.Failed) = (calls ≡ write_call bytes (Err fault.Failed) ∷ [])
    ⊎ (calls ≡ write_call bytes (Ok 0) ∷ [])
OneWrite bytes calls (Err sink.NoMemory) = calls ≡ write_call bytes (Err fault.NoMemory) ∷ []
