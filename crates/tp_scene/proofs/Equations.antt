-- What equations become, on examples.
use Rattle.std.proofs.Common.{◌≡◌, refl, pos, ℕ, true, false, List, [], ◌∷◌}
use Rattle.std.specs.Prelude.{Some, None}
use Rattle.tp_value.specs.Tree.{num}
use Rattle.tp_value.specs.declared.path.Path.{Path}
use Rattle.tp_value.specs.declared.value.Shape.TheVariants.{Num, Items}
use Rattle.tp_kernel.specs.declared.fault.FaultKind.TheVariants.{NoElement}
use Rattle.tp_kernel.specs.declared.fault.LimitKind.TheVariants as limit
use Rattle.tp_meaning.specs.Syntax.{bound, index, numeral, equation, place_binding}
use Rattle.tp_store.specs.Facts.{fact}
use Rattle.tp_eval.specs.Outcome as found
use Rattle.tp_scene.specs.declared.answer.Cell.TheVariants.{Part}
use Rattle.tp_scene.specs.declared.answer.Clash.TheVariants.{Facts, NoValue}
use Rattle.tp_scene.specs.Scene.{Do, none, leaf}
use Rattle.tp_scene.specs.Step.{reduces, waits, clashes, Numbers, value_at, length_at, SideOf, equate, knows}

abbrev at : ℕ → List ℕ → Path
at x is = record { var = record { number = x; lasting = false }; at = is }

abbrev numbers : Numbers
numbers = record { item = λ k. k; region = 0; local = 0 }

-- a place without a value yet
abbrev waiting : Path → SideOf
waiting p = record { placed = true; target = Some (value_at p); found = found.wait p }

-- neither has a shape
neither : equate [] (waiting (at 0 [])) (waiting (at 1 [])) numbers ≡ waits (Part (at 1 [])) (Some (Part (at 0 [])))
neither = refl

-- the left one has a length
left_length : equate (fact (at 0 []) (Items 2) ∷ []) (waiting (at 0 [])) (waiting (at 1 [])) numbers
    ≡ reduces (record {
      news = leaf 0 (Do (equation (index (bound 0) (numeral (pos 0))) (index (bound 1) (numeral (pos 0)))) (place_binding (at 0 []) ∷ place_binding (at 1 []) ∷ []))
          (leaf 1 (Do (equation (index (bound 0) (numeral (pos 1))) (index (bound 1) (numeral (pos 1)))) (place_binding (at 0 []) ∷ place_binding (at 1 []) ∷ [])) none);
      items = 2;
      regions = 0;
      local = None;
      mark = None;
      facts = fact (at 1 []) (Items 2) ∷ [];
    })
left_length = refl

-- the right one is a number: nothing is left
right_number : equate (fact (at 1 []) (Num (pos 3)) ∷ []) (waiting (at 0 [])) (waiting (at 1 [])) numbers ≡ knows (fact (at 0 []) (Num (pos 3)) ∷ [])
right_number = refl

-- lengths that differ
lengths_differ : equate (fact (at 0 []) (Items 2) ∷ fact (at 1 []) (Items 1) ∷ []) (waiting (at 0 [])) (waiting (at 1 [])) numbers
    ≡ clashes (Facts (fact (at 0 []) (Items 2)) (fact (at 0 []) (Items 1)))
lengths_differ = refl

-- a list and its first item
a_list_in_itself : equate (fact (at 0 []) (Items 1) ∷ []) (waiting (at 0 [])) (waiting (at 0 (0 ∷ []))) numbers
    ≡ reduces (record {
      news = leaf 0 (Do (equation (index (bound 0) (numeral (pos 0))) (index (bound 1) (numeral (pos 0)))) (place_binding (at 0 []) ∷ place_binding (at 0 (0 ∷ [])) ∷ [])) none;
      items = 1;
      regions = 0;
      local = None;
      mark = None;
      facts = fact (at 0 (0 ∷ [])) (Items 1) ∷ [];
    })
a_list_in_itself = refl

-- an excluded path
excluded : equate (fact (at 1 []) (Num (pos 3)) ∷ []) (waiting (at 0 [])) (waiting (at 1 (0 ∷ []))) numbers ≡ clashes (NoValue NoElement)
excluded = refl

-- a length and a place are compared by values
by_values : equate [] (record { placed = true; target = Some (length_at (at 0 [])); found = found.wait (at 0 []) }) (record { placed = true; target = Some (value_at (at 1 [])); found = found.value (num (pos 2)) }) numbers
    ≡ knows (fact (at 0 []) (Items 2) ∷ [])
by_values = refl

-- a place that isn't a path yet, and a path whose value is too long
abbrev indices_open : SideOf
indices_open = record { placed = true; target = None; found = found.wait (at 2 []) }

abbrev too_long : Path → SideOf
too_long p = record { placed = true; target = Some (value_at p); found = found.over limit.List }

-- it waits, since two paths don't need the value
long_waits : equate [] indices_open (too_long (at 1 [])) numbers ≡ waits (Part (at 2 [])) None
long_waits = refl
