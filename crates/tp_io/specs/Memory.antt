-- What files and sinks in memory hold.
use Rattle.std.specs.Prelude.{ℕ, List, map, count_by}
use Rattle.std.specs.List.{flat_map}
use Rattle.std.specs.FinMap.{from_entries}
use Rattle.tp_io.specs.Held.{Held, FileRequest, file_request}
use Rattle.tp_io.specs.declared.memory.Content.{Content}
use Rattle.tp_io.specs.declared.memory.Failure.{Failure}
use Rattle.tp_io.specs.declared.memory.Request.{Request}
use Rattle.tp_io.specs.declared.memory.WrittenPiece.{WrittenPiece}

-- of two contents of one name the first counts
abbrev pub held_of : List Content → Held
held_of contents = from_entries (map (λ (c : Content). (c.name, c.bytes)) contents)

-- what was asked for, in order
abbrev pub asked_of : List Request → List FileRequest
asked_of requests = map (λ (r : Request). file_request r.name r.most) requests

abbrev pub failed_reads : List Request → ℕ
failed_reads requests = count_by (λ (r : Request). r.failed) requests

abbrev pub text_of : List WrittenPiece → List ℕ
text_of pieces = flat_map (λ (p : WrittenPiece). p.bytes) pieces

abbrev pub failed_writes : List WrittenPiece → ℕ
failed_writes pieces = count_by (λ (p : WrittenPiece). p.failed) pieces

-- what contracts see of a shelf: its contents, the numbers of the calls that are to fail, what was
-- asked for, and how often a read failed
pub record ShelfView : Type 0 where
  pub contents : List Content
  pub failing : List ℕ
  pub asked : List FileRequest
  pub faults : ℕ

-- what contracts see of a shelf that never fails
pub record SureShelfView : Type 0 where
  pub contents : List Content
  pub asked : List FileRequest

-- what contracts see of a page: the writes that are to fail, how many writes there were, what was
-- written, and how often a write failed
pub record PageView : Type 0 where
  pub failing : List Failure
  pub calls : ℕ
  pub text : List ℕ
  pub faults : ℕ
