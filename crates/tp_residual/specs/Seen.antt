-- Items of a scene as the code has them, and how they are spelled.
use Rattle.std.specs.Prelude.{ℕ, List, [], ◌∷◌, ◌++◌, codes}
use Rattle.tp_tree.specs.Tree.{KindTree, name}
use Rattle.tp_tree.specs.Levels.{not_level, kind_level}
use Rattle.tp_tree.specs.Spelling.{kind_spelling}
use Rattle.tp_meaning.specs.Syntax.{Definition, FormulaTree}
use Rattle.tp_kernel.specs.Read.{definitions_of}
use Rattle.tp_store.specs.Known.{Variable}
use Rattle.tp_scene.specs.Scene.{Bindings, Entries}
use Rattle.tp_slots.specs.Plain.{What, bare, holds, gone, Slots, second_of, entries_at}
use Rattle.tp_slots.specs.Read.{slots_of, item_what}
use Rattle.tp_slots.specs.declared.scene.Scene.{Scene}
use Rattle.tp_residual.specs.Phrases.{all_kind, formula_kind}
use Rattle.tp_residual.specs.Parts.{enclosed}
use Rattle.tp_residual.specs.Residual.{words_with, due_kind, split_kind, entries_phrases}
use Rattle.tp_residual.specs.declared.scene.Residue.{Residue}

-- what stands in a slot, as a phrase; nothing of an item that is gone is spelled
abbrev pub what_kind : List Variable → List Definition → Slots → What → KindTree
what_kind xs ds s (bare l) = due_kind xs ds l
what_kind xs ds s (holds k r q) =
    split_kind xs ds k (all_kind (entries_phrases xs ds (entries_at s r)))
    (all_kind (entries_phrases xs ds (second_of (entries_at s) q)))
what_kind xs ds s (gone by) = name []

-- of the code's scene
abbrev pub item_kind : Residue → (item : ℕ) → KindTree
item_kind x t =
    what_kind x.store.now.variables (definitions_of x.defs.now) (slots_of x.scene.now)
    (item_what x.scene.now t)

abbrev pub item_level_in : Residue → (item : ℕ) → ℕ
item_level_in x t = kind_level (item_kind x t)

abbrev pub item_spelling : Residue → (item : ℕ) → List ℕ
item_spelling x t = kind_spelling (item_kind x t)

abbrev pub phrase_kind : Residue → Bindings → FormulaTree → KindTree
phrase_kind x env w =
    formula_kind (words_with x.store.now.variables (definitions_of x.defs.now) env) w

abbrev pub region_entries_of : Scene → (region : ℕ) → Entries
region_entries_of s r = entries_at (slots_of s) r

abbrev pub region_kind : Residue → (region : ℕ) → KindTree
region_kind x r =
    all_kind (entries_phrases x.store.now.variables (definitions_of x.defs.now)
    (region_entries_of x.scene.now r))

abbrev pub region_spelling : Residue → (region : ℕ) → List ℕ
region_spelling x r = kind_spelling (region_kind x r)

-- several items as the operands of `and`, each behind one but the first, which comes behind
-- `opening`
abbrev pub items_spelling : Residue → (opening : List ℕ) → List ℕ → List ℕ
items_spelling x opening [] = []
items_spelling x opening (t ∷ ts) =
    opening ++ enclosed not_level (item_level_in x t) (item_spelling x t)
    ++ items_spelling x (codes " and ") ts
