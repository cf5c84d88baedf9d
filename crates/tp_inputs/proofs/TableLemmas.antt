-- One more line of a table.
use Rattle.std.proofs.Common.{refl, ap, sym, subst, ◌∙◌, ◌≡◌, ℕ, ◌+◌, Bool, List, [], ◌∷◌, ◌++◌, length, arith}
use Rattle.std.proofs.lemmas.List.{append_assoc, length-append, append-nil}
use Rattle.std.specs.Str.Lines.{lines}
use Rattle.tp_meaning.specs.Inputs.{InputTable}
use Rattle.tp_inputs.specs.declared.fault.LineFault.{LineFault}
use Rattle.tp_inputs.specs.declared.fault.LineFault.TheVariants.{Bad, Twice, TooLong}
use Rattle.tp_inputs.specs.declared.refusal.LineRefusal.{LineRefusal}
use Rattle.tp_inputs.specs.declared.refusal.LineRefusal.TheVariants as l
use Rattle.tp_inputs.specs.Spans.{has_ranges, head_of}
use Rattle.tp_inputs.specs.Table.{IsLine, HasFault, AreLines, IsFirstFault, IsInputsText}
use Rattle.tp_inputs.specs.InputsRefusals.{IsInputsRefusal}
use Rattle.tp_inputs.specs.Read.{refusal_in, IsLineRefusal}

-- of the texts, so many are read to this table, and these are left
pub record ReadsSoFar (second : Bool) (texts : List (List ℕ)) (number : ℕ) (table : InputTable) (left : List (List ℕ)) : Type 0 where
  pub before : List (List ℕ)
  pub split : texts ≡ before ++ left
  pub numbered : number ≡ length before
  pub good : AreLines second 0 before [] table

pub none_so_far : (second : Bool) (texts : List (List ℕ)) → ReadsSoFar second texts 0 [] texts
none_so_far second texts = record { before = []; split = refl; numbered = refl; good = refl }

lines_more : (second : Bool) (k : ℕ) (before : List (List ℕ)) (line : List ℕ) (table mid all : InputTable) → AreLines second k before table mid → IsLine (head_of second (k + length before) line) line mid all
    → AreLines second k (before ++ line ∷ []) table all
lines_more second k [] line table mid all same is =
    let at : k + 0 ≡ k = omega arith in
    (all, subst (λ (t : InputTable). IsLine (head_of second k line) line t all) same (subst (λ (n : ℕ). IsLine (head_of second n line) line mid all) at is), refl)
lines_more second k (text ∷ before) line table mid all are is =
    let at : k + length (text ∷ before) ≡ (k + 1) + length before = omega arith in
    (are.0, are.1, lines_more second (k + 1) before line are.0 mid all are.2 (subst (λ (n : ℕ). IsLine (head_of second n line) line mid all) at is))

-- one line more
pub line_more : (second : Bool) (texts : List (List ℕ)) (number : ℕ) (table more : InputTable) (line : List ℕ) (left : List (List ℕ)) → ReadsSoFar second texts number table (line ∷ left)
    → IsLine (head_of second number line) line table more → ReadsSoFar second texts (number + 1) more left
line_more second texts number table more line left r is = record {
  before = r.before ++ line ∷ [];
  split = r.split ∙ sym (append_assoc r.before (line ∷ []) left);
  numbered = let a = r.numbered in let b = length-append r.before (line ∷ []) in omega arith;
  good = lines_more second 0 r.before line [] table more r.good (subst (λ (n : ℕ). IsLine (head_of second n line) line table more) (let a = r.numbered in omega arith) is);
}

fault_in : (texts : List (List ℕ)) (number : ℕ) (table : InputTable) (line : List ℕ) (left : List (List ℕ)) (fault : LineFault) → ReadsSoFar (has_ranges texts) texts number table (line ∷ left)
    → HasFault (head_of (has_ranges texts) number line) line table fault → IsFirstFault texts (number + 1) fault
fault_in texts number table line left fault r has = record {
  before = r.before;
  line = line;
  after = left;
  split = r.split;
  numbered = ap (λ n. n + 1) r.numbered;
  table = table;
  good = r.good;
  faulty = subst (λ (n : ℕ). HasFault (head_of (has_ranges texts) n line) line table fault) r.numbered has;
}

pub refused_in : (bytes : List ℕ) (number : ℕ) (table : InputTable) (line : List ℕ) (left : List (List ℕ)) (e : LineRefusal) → ReadsSoFar (has_ranges (lines bytes)) (lines bytes) number table (line ∷ left)
    → IsLineRefusal (head_of (has_ranges (lines bytes)) number line) line table e → IsInputsRefusal bytes (refusal_in e (number + 1))
refused_in bytes number table line left (l.Fault Bad) r has = fault_in (lines bytes) number table line left Bad r has
refused_in bytes number table line left (l.Fault Twice) r has = fault_in (lines bytes) number table line left Twice r has
refused_in bytes number table line left (l.Fault TooLong) r has = fault_in (lines bytes) number table line left TooLong r has
refused_in bytes number table line left l.NoMemory r has = tt

pub table_whole : (bytes rest : List ℕ) (number : ℕ) (table : InputTable) → ReadsSoFar (has_ranges (lines bytes)) (lines bytes) number table (lines rest) → rest ≡ [] → IsInputsText bytes table
table_whole bytes rest number table r e =
    let texts : lines bytes ≡ r.before = r.split ∙ (ap (λ z. r.before ++ lines z) e ∙ append-nil r.before) in
    subst (λ (z : List (List ℕ)). AreLines (has_ranges (lines bytes)) 0 z [] table) (sym texts) r.good
