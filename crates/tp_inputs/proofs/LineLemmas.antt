-- One more part of a line.
use Rattle.std.proofs.Common.{sym, subst, ◌≡◌, ◌≢◌, ℕ, ◌<◌, ◌≤◌, List, [], length, drop, true, false, arith}
use Rattle.tp_value.specs.Tree.{Tree}
use Rattle.tp_meaning.specs.Inputs.{InputTable}
use Rattle.tp_inputs.specs.declared.refusal.LineRefusal.{LineRefusal}
use Rattle.tp_inputs.specs.declared.refusal.LineRefusal.TheVariants as l
use Rattle.tp_inputs.specs.declared.span.Span.{Span}
use Rattle.tp_inputs.specs.Spans.{are_ports, is_given}
use Rattle.tp_inputs.specs.Table.{pair, PassesPart, blank, given, ReadsPairs, here, passes}
use Rattle.tp_inputs.specs.FirstPart.{InputPart, Blank, Given, BeginsPart, first_part}
use Rattle.tp_inputs.specs.Read.{IsPartRefusal, IsPairsRefusal}
use Rattle.tp_inputs.proofs.PartLemmas.{part_is, takes}

-- where the rest is read on to behind this table, the whole is
abbrev pub Continues : Span → List ℕ → InputTable → List ℕ → InputTable → Type 0
Continues span text first rest table = (more : List ℕ) (all : InputTable) → ReadsPairs span rest table more all → ReadsPairs span text first more all

-- the part that stands first
pub part_found : (span : Span) (table : InputTable) (z : List ℕ) (p : InputPart) → z ≢ [] → p ≡ first_part span table z → BeginsPart span table z p
part_found span table z p some e = subst (BeginsPart span table z) (sym e) (part_is span table z some)

-- the port of a pair has no value before
pub new_port : (span : Span) (table : InputTable) (z port : List ℕ) (t : Tree) (n : ℕ) → BeginsPart span table z (Given port t n) → is_given table span port ≡ false
new_port span table z _ t n (pair is new read e) = new

-- a part that is passed has some bytes of the line
pub passed_bytes : (span : Span) (z : List ℕ) (old new : InputTable) (n : ℕ) → PassesPart span z old new n → (0 < n) × (n ≤ length z)
passed_bytes span z old _ _ (blank is) = (omega arith, takes span old z Blank is)
passed_bytes span z old _ _ (given {port = port} {value = t} {n = n} is gives) = takes span old z (Given port t n) is

pub passes_on : (span : Span) (text z : List ℕ) (first old new : InputTable) (n : ℕ) → Continues span text first z old → PassesPart span z old new n → Continues span text first (drop n z) new
passes_on span text z first old new n so_far is more all reads = so_far more all (passes is reads)

pub refused_on : (span : Span) (text z : List ℕ) (first table : InputTable) (e : LineRefusal) → Continues span text first z table → IsPartRefusal span table z e → IsPairsRefusal span first text e
refused_on span text z first table (l.Fault fault) so_far is = record { rest = z; more = table; reads = so_far z table here; faulty = is }
refused_on span text z first table l.NoMemory so_far is = tt

pub at_end : (span : Span) (text z : List ℕ) (first table : InputTable) → Continues span text first z table → z ≡ [] → ReadsPairs span text first [] table
at_end span text z first table so_far e = so_far [] table (subst (λ (rest : List ℕ). ReadsPairs span z table rest table) e here)

-- the table stays in its one form
pub ports_after : (span : Span) (z : List ℕ) (old new : InputTable) (n : ℕ) → are_ports old ≡ true → PassesPart span z old new n → are_ports new ≡ true
ports_after span z old _ _ e (blank is) = e
ports_after span z old new _ e (given is gives) = gives.canonical.ports
