use Rattle.std.proofs.Common.{rules, ◌≡◌, ap, ap₂, sym, ◌∙◌, Some, None, ◌++◌, ◌∷◌, [], length, List, ℕ, bytes_eq}
use Rattle.indexmap.specs.IndexSet.{insert_key}
use Rattle.tp_value.specs.Globals.{variable_of, variable}
use Rattle.tp_value.proofs.GlobalsLemmas.{insert_key-absent, variable_of-at_end}
use Rattle.tp_value.proofs.globals.Globals.add.Goals as goal

-- a name that isn't among the names has no variable
absent : (names view : List (List ℕ)) (name : List ℕ) → None ≡ variable_of view name → view ≡ names → None ≡ variable_of names name
absent names view name none same = none ∙ ap (λ ns. variable_of ns name) same

-- where its copy is inserted, it stands behind them
behind : (names keys : List (List ℕ)) (name copy : List ℕ) → None ≡ variable_of names name → keys ≡ insert_key bytes_eq names copy → copy ≡ name → keys ≡ names ++ name ∷ []
behind names keys name copy none inserted copied = inserted ∙ ap (λ (text : List ℕ). insert_key bytes_eq names text) copied ∙ insert_key-absent names name none

pub returns-clause-variable : goal.returns-clause-variable
returns-clause-variable c =
    let names = c.self.inside.names.keys in
    let name = c.args.name.now in
    let none = absent names _ name c.in_default.ensures (sym c.self.view_is) in
    let made : c.make_variable.result ≡ variable name (length names) = c.make_variable.ensures ∙ ap₂ variable c.as_slice.ensures c.len-place.ensures.len in
    ap (λ ns. variable_of ns name) (behind names _ name _ none c.in_ok-insert.ensures.keys c.in_ok-copy.ensures) ∙ variable_of-at_end names name none ∙ ap Some (sym made)

pub returns-clause-names : goal.returns-clause-names
returns-clause-names c =
    let names = c.self.inside.names.keys in
    let none : None ≡ variable_of names c.args.name.now = absent names _ _ c.in_default.ensures (sym c.self.view_is) in
    let now : c.insert.new.self.keys ≡ names ++ c.args.name.now ∷ [] = behind names _ _ _ none c.in_ok-insert.ensures.keys c.in_ok-copy.ensures in
    search (rules, now, none)
