-- The causes of a refused read, and what was asked for.
use Rattle.std.specs.Prelude.{◌≡◌, ◌⊎◌, ◌+◌, ℕ, List, Option, None, Some, Result, Ok, Err}
use Rattle.tp_io.specs.Held.{FileRequest, file_request}
use Rattle.tp_io.specs.Devices.{and_one_more}
use Rattle.tp_io.specs.declared.refusal.FileRefusal.{FileRefusal}
use Rattle.tp_io.specs.declared.refusal.FileRefusal.TheVariants as file
use Rattle.tp_call.specs.declared.source.ReadRefusal.{ReadRefusal}
use Rattle.tp_call.specs.declared.source.ReadRefusal.TheVariants.{TooLong, Failed, NoMemory}
use Rattle.tp_call.specs.declared.status.Status.{Status}
use Rattle.tp_call.specs.declared.status.Status.TheVariants as status
use Rattle.tp_call.specs.declared.status.Which.{Which}
use Rattle.tp_call.specs.declared.status.Which.TheVariants.{Inputs}
use Rattle.tp_call.specs.Asked.{request_of}

abbrev pub read_refusal_of : FileRefusal → ReadRefusal
read_refusal_of file.Failed = Failed
read_refusal_of file.NoMemory = NoMemory

-- a read asks for one byte more than the file may have, unless memory is refused
abbrev pub asked_by : {T : Type 0} → Option (List FileRequest) → List ℕ → (limit : ℕ)
    → Result T ReadRefusal → Option (List FileRequest)
asked_by told name limit (Ok x) = and_one_more told (file_request name (limit + 1))
asked_by told name limit (Err TooLong) = and_one_more told (file_request name (limit + 1))
asked_by told name limit (Err Failed) = and_one_more told (file_request name (limit + 1))
asked_by told name limit (Err NoMemory) = told

-- the status of a call that could not read this file
abbrev pub read_end : ReadRefusal → Which → Status
read_end TooLong which = status.TooLong which
read_end Failed which = status.ReadFault which
read_end NoMemory which = status.NoMemory

-- that was asked of this file, or memory was wanted before that
abbrev pub AsksFile : {T : Type 0} → Option (List FileRequest) → Which → List ℕ → Result T Status
    → Option (List FileRequest) → Type 0
AsksFile told which name result now =
    (now ≡ and_one_more told (request_of which name))
    ⊎ ((result ≡ Err status.NoMemory) × (now ≡ told))

-- the same of the inputs, where they have a name; without one nothing was asked for
abbrev pub AsksTable : {T : Type 0} → Option (List FileRequest) → Option (List ℕ)
    → Result T Status → Option (List FileRequest) → Type 0
AsksTable told None result now = now ≡ told
AsksTable told (Some name) result now = AsksFile told Inputs name result now
