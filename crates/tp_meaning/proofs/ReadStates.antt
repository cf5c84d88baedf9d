-- Satisfying a program depends on the states' numbers and globals alone.
use Rattle.std.proofs.Common.{◌≡◌, ℕ, ◌+◌, ◌-◌, ◌≤◌, true, [], length, ap, sym, ◌∙◌, subst, arith}
use Rattle.std.proofs.lemmas.List.{length-map}
use Rattle.std.proofs.lemmas.Option.{slice_get_within}
use Rattle.tp_value.specs.Globals.{is_lower}
use Rattle.tp_meaning.specs.Course.{Course}
use Rattle.tp_meaning.specs.Interval.{ProgramTree, kinds_of, IsInterval}
use Rattle.tp_meaning.specs.Holds.{Context}
use Rattle.tp_meaning.specs.Moving.{InStep}
use Rattle.tp_meaning.specs.Reading.{ReadTheSame, SatisfyingReadsStates}
use Rattle.tp_meaning.proofs.MovePart.{at_sum, meanings_move}
use Rattle.tp_meaning.proofs.ReadVariables.{meanings_read_variables}

module _ (at : ℕ → ℕ) (a b : ℕ) (step : InStep at a b) where
  -- the position that goes to k
  abbrev back : ℕ → ℕ
  back k = (k - at a) + a

  at_all : (j : ℕ) → a ≤ j → j ≤ b → at j ≡ (j - a) + at a
  at_all j u v = (let e : j ≡ (j - a) + a = omega arith in ap at e) ∙ at_sum at a b step (j - a) (omega arith)

  back_at : (j : ℕ) → a ≤ j → j ≤ b → back (at j) ≡ j
  back_at j u v = let q = at_all j u v in omega arith

  back_above : (k : ℕ) → a ≤ back k
  back_above k = omega arith

  back_below : (k : ℕ) → a ≤ b → at a ≤ k → k ≤ at b → back k ≤ b
  back_below k le u v = let q = at_all b le (omega arith) in omega arith

  at_back : (k : ℕ) → a ≤ b → at a ≤ k → k ≤ at b → at (back k) ≡ k
  at_back k le u v = let m = back_below k le u v in let q = at_all (back k) (back_above k) m in omega arith

module _ (n : ℕ) (at : ℕ → ℕ) (a b : ℕ) (step : InStep at a b) (s s' : Course)
    (same : (j : ℕ) → a ≤ j → j ≤ b → ReadTheSame n (s j) (s' (at j))) (le : a ≤ b) where
  same_back : (k : ℕ) → at a ≤ k → k ≤ at b → ReadTheSame n (s (back at a b step k)) (s' k)
  same_back k u v =
      let m = back_below at a b step k le u v in
      subst (λ (i : ℕ). ReadTheSame n (s (back at a b step k)) (s' i)) (at_back at a b step k le u v) (same (back at a b step k) (back_above at a b step k) m)

module _ (p : ProgramTree) (at : ℕ → ℕ) (a b : ℕ) (step : InStep at a b) (s s' : Course)
    (same : (j : ℕ) → a ≤ j → j ≤ b → ReadTheSame (length (kinds_of p.globals)) (s j) (s' (at j))) where
  interval_moved : IsInterval p s a b → IsInterval p s' (at a) (at b)
  interval_moved i =
      let le = i.nonempty in
      let all = at_all at a b step b le (omega arith) in
      let back_to = back at a b step in
      record {
        nonempty = omega arith;
        numbered = λ j l.
            let q = at_sum at a b step j (omega arith) in
            ap (λ k. (s' k).own) (sym q) ∙ sym (same (j + a) (omega arith) (omega arith)).own ∙ i.numbered j (omega arith);
        lasting = λ x kind j k u v y z.
            let l = slice_get_within (kinds_of p.globals) x true kind in
            let from = same_back (length (kinds_of p.globals)) at a b step s s' same le in
            sym ((from j u v).values x l)
            ∙ i.lasting x kind (back_to j) (back_to k) (back_above at a b step j) (back_below at a b step j le u v) (back_above at a b step k) (back_below at a b step k le y z)
            ∙ (from k y z).values x l;
      }

pub satisfying_reads_states : SatisfyingReadsStates
satisfying_reads_states p fits inputs at s s' a b S S' step same shows sat =
    let i = sat.0 in
    let le = i.nonempty in
    let n = length (kinds_of p.globals) in
    let as_many : length p.globals ≡ n = sym (length-map p.globals is_lower) in
    let same' : (j : ℕ) → a ≤ j → j ≤ b → ReadTheSame n (s j) (s' (at j)) = subst (λ (m : ℕ). (j : ℕ) → a ≤ j → j ≤ b → ReadTheSame m (s j) (s' (at j))) as_many same in
    let w : Context = record { defs = p.defs; inputs = inputs } in
    let between : Course = λ k. s (back at a b step k) in (
      interval_moved p at a b step s s' same' i,
      (
        sat.1.0,
        meanings_read_variables w (kinds_of p.globals) fits.defs sat.1.0 p.main 0 fits.main [] between s' (at a) (at b) S'
            (let q = at_all at a b step b le (omega arith) in omega arith) (same_back n at a b step s s' same' le)
            (meanings_move w sat.1.0 p.main at [] [] s between a b S S' le step tt (λ j u v. ap s (back_at at a b step j u v)) shows sat.1.1),
      ),
    )
