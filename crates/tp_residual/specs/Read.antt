-- The names that the code spells by, as plain lists.
use Rattle.std.specs.Prelude.{ℕ, zero, suc, List, [], ◌∷◌, ◌++◌, map, Option, Some, None}
use Rattle.tp_kernel.specs.Read.{definitions_of, bindings_of}
use Rattle.tp_residual.specs.Phrases.{BoundName, stands_for, named, Vocabulary}
use Rattle.tp_residual.specs.declared.words.Bound.{Bound}
use Rattle.tp_residual.specs.declared.words.Bound.TheOpen.{Bound-F}
use Rattle.tp_residual.specs.declared.words.Bound.TheFolds.{fold-Bound}
use Rattle.tp_residual.specs.declared.words.Words.{Words}

-- names that a phrase itself binds
abbrev pub own_bound_names : List (List ℕ) → List BoundName
own_bound_names names = map named names

-- one binder, with the names outside of it already seen
abbrev pub bound_step : Bound-F (List BoundName) → List BoundName
bound_step (Bound-F.Around env) = map stands_for (bindings_of env.now)
bound_step (Bound-F.Inside name outer) = outer.now ++ named name.now ∷ []
bound_step (Bound-F.Chain names outer) = outer.now ++ own_bound_names names.now

abbrev pub bound_names : Bound → List BoundName
bound_names = fold-Bound (List BoundName) bound_step

abbrev pub vocabulary_of : Words → Vocabulary
vocabulary_of w =
    record {
      variables = w.store.now.variables;
      definitions = definitions_of w.defs.now;
      bound = bound_names w.bound.now;
    }

-- how many names further out the i-th one stands, where there are no more than these
abbrev pub left_after : List BoundName → ℕ → Option ℕ
left_after [] i = Some i
left_after (x ∷ xs) zero = None
left_after (x ∷ xs) (suc i) = left_after xs i
