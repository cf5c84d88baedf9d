-- A cell of the same name has the same text.
use Rattle.std.proofs.Common.{◌≡◌, inl, inr, ℕ, Bool, true, false, List, [], ◌++◌, length, refl, ap, sym, ◌∙◌, nat_lt, slice_get, if◌then◌else◌}
use Rattle.std.proofs.lemmas.Bool.{cases_Bool, ltb-true}
use Rattle.std.specs.List.{flat_map}
use Rattle.std.specs.Prelude.{unwrap_or, codes}
use Rattle.tp_value.specs.declared.path.VarId.{VarId}
use Rattle.tp_store.specs.Known.{Variable, name_where}
use Rattle.tp_scene.specs.declared.answer.Cell.{Cell}
use Rattle.tp_scene.specs.declared.answer.Cell.TheVariants.{Part, End}
use Rattle.tp_show.specs.Texts.{global_name, index_text, variable_text, cell_text}
use Rattle.tp_step_laws.specs.Maps.{Renaming, FixesBelow, renamed_variable, renamed_cell}
use Rattle.tp_run.specs.Same.{SameCell}

-- The name of a variable, renamed.
module _ (globals : List (List ℕ)) (xs ys : List Variable) (ρ : Renaming) (fixed : FixesBelow (length globals) ρ.local)
    (names : (i : ℕ) → slice_get ys (ρ.local.to i) ≡ slice_get xs i) where
  -- a global stays one, and a local too
  global_test : (i : ℕ) → nat_lt (ρ.local.to i) (length globals) ≡ nat_lt i (length globals)
  global_test i = elim (cases_Bool (nat_lt i (length globals))) [
    | inl e ↦ ap (λ k. nat_lt k (length globals)) (fixed i (ltb-true i (length globals) e))
    | inr e ↦ elim (cases_Bool (nat_lt (ρ.local.to i) (length globals))) [
      | inl d ↦ (let back : ρ.local.to i ≡ i = sym (ρ.local.undone (ρ.local.to i))
          ∙ ap ρ.local.back (fixed (ρ.local.to i) (ltb-true (ρ.local.to i) (length globals) d)) ∙ ρ.local.undone i in
          ap (λ k. nat_lt k (length globals)) back)
      | inr d ↦ d ∙ sym e
    ]
  ]

  name_by : (x : VarId) (b : Bool) → nat_lt x.number (length globals) ≡ b
      → (if b then global_name globals (ρ.local.to x.number) else codes "local "
      ++ unwrap_or (name_where x.lasting (slice_get ys (ρ.local.to x.number))) [])
      ≡ (if b then global_name globals x.number else codes "local " ++ unwrap_or (name_where x.lasting (slice_get xs x.number)) [])
  name_by x true e = ap (global_name globals) (fixed x.number (ltb-true x.number (length globals) e))
  name_by x false e = ap (λ o. codes "local " ++ unwrap_or (name_where x.lasting o) []) (names x.number)

  variable_same : (x : VarId) → variable_text globals ys (renamed_variable ρ x) ≡ variable_text globals xs x
  variable_same x =
      ap (λ b. if b then global_name globals (ρ.local.to x.number) else codes "local "
      ++ unwrap_or (name_where x.lasting (slice_get ys (ρ.local.to x.number))) []) (global_test x.number)
      ∙ name_by x (nat_lt x.number (length globals)) refl

  cell_same : (c : Cell) → cell_text globals ys (renamed_cell ρ c) ≡ cell_text globals xs c
  cell_same (Part p) = ap (λ text. text ++ flat_map index_text p.at) (variable_same p.var)
  cell_same (End region depth) = refl

pub named_cell_text : (globals : List (List ℕ)) (xs ys : List Variable) (c d : Cell) → SameCell (length globals) xs ys c d
    → cell_text globals ys d ≡ cell_text globals xs c
named_cell_text globals xs ys c d h = ap (cell_text globals ys) h.3 ∙ cell_same globals xs ys h.0 h.1 h.2 c
