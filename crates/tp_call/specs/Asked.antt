-- What a call asked of its files.
use Rattle.std.specs.Prelude.{◌≡◌, ◌+◌, ◌-◌, ℕ, List, ◌++◌, All, take, map, Option, None, Some}
use Rattle.std.specs.Option.{option_map}
use Rattle.std.specs.List.{last_or}
use Rattle.tp_io.specs.Held.{Held, bytes_of, FileRequest, file_request}
use Rattle.tp_words.specs.Words.{Wanted, wanted_of}
use Rattle.tp_call.specs.declared.status.Which.{Which}
use Rattle.tp_call.specs.Files.{NamedFile, files_of}
use Rattle.tp_call.specs.Answer.{byte_limit, WhereTold, Serves}

-- what is asked of a file: one byte more than it may have
abbrev pub request_of : Which → List ℕ → FileRequest
request_of which name = file_request name (byte_limit which + 1)

-- what is asked of these files, in their order
abbrev pub requests_of : List NamedFile → List FileRequest
requests_of files = map (λ (file : NamedFile). request_of file.which file.name) files

-- The files that were asked for are the first of those that the mode reads, in their order, each by
-- one read, of one byte more than it may have. Each of them but the last one serves the mode; where
-- the answer names a failed read, the last one is the file that it names.
pub record AsksOnly (words : List (List ℕ)) (held : Option Held)
    (old new : Option (List FileRequest)) (failed : Which → Type 0) : Type 0 where
  pub count : ℕ
  pub asked : new
      ≡ option_map (λ before. before ++ requests_of (take count (files_of words))) old
  pub served : (wanted : Wanted) → wanted_of words ≡ Some wanted
      → All (λ (file : NamedFile).
      WhereTold held (λ files. Serves wanted.mode file.which (bytes_of files file.name)))
      (take (count - 1) (files_of words))
  pub last : (which : Which) → failed which
      → last_or None (map (λ (file : NamedFile). file.which) (take count (files_of words)))
      ≡ Some which
