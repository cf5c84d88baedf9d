-- Texts that are traces, and one that isn't.
use Rattle.std.specs.Prelude.{ℕ, pos, true, List, [], ◌∷◌, codes}
use Rattle.tp_value.specs.declared.value.Shape.{Shape}
use Rattle.tp_value.specs.declared.value.Shape.TheVariants.{Num, Truth, Items}
use Rattle.tp_show.specs.declared.named_fact.NamedFact.{NamedFact}
use Rattle.tp_show.specs.declared.trace.TraceRefusal.TheVariants.{BadLine}
use Rattle.tp_show.specs.Trace.{IsTraceText}
use Rattle.tp_show.specs.TraceRefused.{IsTraceRefusal}

-- a fact of this variable, or of what stands at indices in it
abbrev pub told_at : (name at : List ℕ) → Shape → NamedFact
told_at name at shape = record { name = name; at = at; shape = shape }

-- a state in which `A` is this number
abbrev pub counter_at : ℕ → List NamedFact
counter_at n = told_at (codes "A") [] (Num (pos n)) ∷ []

pub record TraceExamples : Type 0 where
  pub counter : IsTraceText
      (codes "state 0: A=0\nstate 1: A=1\nstate 2: A=2\nstate 3: A=3\nfinished: length 3\n")
      (counter_at 0 ∷ counter_at 1 ∷ counter_at 2 ∷ counter_at 3 ∷ [])
  pub lists : IsTraceText (codes "state 0: L=<1,true> |M|=3 M[1]=5\nshow 7\n")
      ((told_at (codes "L") [] (Items 2) ∷ told_at (codes "L") (0 ∷ []) (Num (pos 1))
      ∷ told_at (codes "L") (1 ∷ []) (Truth true) ∷ told_at (codes "M") [] (Items 3)
      ∷ told_at (codes "M") (1 ∷ []) (Num (pos 5)) ∷ []) ∷ [])
  pub begins_at_one : IsTraceRefusal (codes "state 1: A=0") (BadLine 1)
