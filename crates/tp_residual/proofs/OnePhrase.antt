-- Phrases whose names are spelled the same are spelled the same; so are those of moments that are alike.
use Rattle.std.proofs.Common.{◌≡◌, ℕ, zero, suc, ◌+◌, ◌<◌, Bool, false, List, [], ◌∷◌, ◌++◌, map, length, slice_get, Some, refl, ap, ap₂, sym, ◌∙◌}
use Rattle.std.specs.List.{flat_map}
use Rattle.std.specs.Prelude.{unwrap_or, codes}
use Rattle.tp_value.specs.declared.path.VarId.{VarId}
use Rattle.tp_tree.specs.declared.operator.Op.TheVariants as op
use Rattle.tp_tree.specs.declared.operator.Form.TheVariants as f
use Rattle.tp_tree.specs.Tree.{KindTree, phrase_then}
use Rattle.tp_tree.specs.Tree as tree
use Rattle.tp_tree.specs.Levels.{prefix_level}
use Rattle.tp_tree.specs.Spelling.{kind_spelling, operand_spelling}
use Rattle.tp_meaning.specs.Syntax.{ExprTree, ExprTrees, no_expr, expr_then, numeral, boolean, known, bound, global, listing, size, index, minus, negation, both, either, binary, choice, invoke, FormulaTree, FormulaTrees, no_formula, formula_then, trivial, test, equation, next_equation, empty, more, next, weak_next, if_more, if_empty, always, conjunction, branch, len, assign, chop, while, for_from, forall_from, project, exists, call, input, display, Definition, BindingTree, place_binding, known_binding}
use Rattle.tp_meaning.specs.Fits.{ExprFits, ExprsFit, FormulaFits, FormulasFit}
use Rattle.tp_store.specs.Known.{Variable, name_where}
use Rattle.tp_scene.specs.Scene.{Bindings, Head, Leaf, Do, Later, Shown, Holder, Split, SplitProject, Closed, Opened, Running, Entries, none, leaf, node, Region, Place, root_place, held_place}
use Rattle.tp_scene.specs.Fits.{LeafFits, HolderFits, EntriesFit, PhraseFits}
use Rattle.tp_scene.proofs.Below.{variable_below}
use Rattle.tp_show.specs.Texts.{index_text}
use Rattle.tp_step_laws.specs.Renaming.{renamed_binding, renamed_bindings, renamed_leaf, renamed_holder, renamed_entries}
use Rattle.tp_step_laws.specs.Maps.{Renaming, FixesBelow}
use Rattle.tp_residual.specs.Phrases.{BoundName, stands_for, named, Vocabulary, naming, variable_spelling, bound_spelling, binding_spelling, definition_name, phrase_operator, placeless, sole, infix_kind, all_kind, nexts_kind, from_spelling, expr_kind, exprs_phrases, formula_kind, formulas_phrases}
use Rattle.tp_residual.specs.Residual.{words_with, due_kind, split_kind, entries_phrases}
use Rattle.tp_residual.specs.OnePhrase.{AlikeMomentsHaveOnePhrase}

-- the place of the entries of a dormant second region
abbrev dormant_place : Head → Place → Place
dormant_place g p = record { region = g.number; depth = p.depth + 1; is = λ z. false }

-- as many bound names, of which each is spelled the same over these variables and over those
abbrev SpelledSame : (xs ys : List Variable) → List BoundName → List BoundName → Type 0
SpelledSame xs ys [] [] = Unit {0}
SpelledSame xs ys [] (c ∷ cs) = ⊥
SpelledSame xs ys (b ∷ bs) [] = ⊥
SpelledSame xs ys (b ∷ bs) (c ∷ cs) = (bound_spelling ys (Some c) ≡ bound_spelling xs (Some b)) × SpelledSame xs ys bs cs

at_number : (xs ys : List Variable) (bs cs : List BoundName) → SpelledSame xs ys bs cs → (i : ℕ)
    → bound_spelling ys (slice_get cs i) ≡ bound_spelling xs (slice_get bs i)
at_number xs ys [] [] h i = refl
at_number xs ys [] (c ∷ cs) h i = absurd h
at_number xs ys (b ∷ bs) [] h i = absurd h
at_number xs ys (b ∷ bs) (c ∷ cs) h zero = h.0
at_number xs ys (b ∷ bs) (c ∷ cs) h (suc i) = at_number xs ys bs cs h.1 i

one_name_more : (xs ys : List Variable) (bs cs : List BoundName) (name : List ℕ) → SpelledSame xs ys bs cs
    → SpelledSame xs ys (bs ++ named name ∷ []) (cs ++ named name ∷ [])
one_name_more xs ys [] [] name h = (refl, tt)
one_name_more xs ys [] (c ∷ cs) name h = absurd h
one_name_more xs ys (b ∷ bs) [] name h = absurd h
one_name_more xs ys (b ∷ bs) (c ∷ cs) name h = (h.0, one_name_more xs ys bs cs name h.1)

module _ (defs : List Definition) (kinds : List Bool) where
  -- two vocabularies of the same definitions that spell the globals and the bound names the same
  record SpellSame (v v' : Vocabulary) : Type 0 where
    definitions : v'.definitions ≡ v.definitions
    globals : (x : VarId) → x.number < length kinds → variable_spelling v'.variables x ≡ variable_spelling v.variables x
    bound : SpelledSame v.variables v'.variables v.bound v'.bound

  naming_same : (v v' : Vocabulary) (name : List ℕ) → SpellSame v v' → SpellSame (naming v name) (naming v' name)
  naming_same v v' name s = record {
    definitions = s.definitions;
    globals = s.globals;
    bound = one_name_more v.variables v'.variables v.bound v'.bound name s.bound;
  }

  module _ (v v' : Vocabulary) (s : SpellSame v v') where
    mutual
      expr_same : (e : ExprTree) (n : ℕ) → ExprFits defs kinds e n → expr_kind v' e ≡ expr_kind v e
      expr_same (numeral k) n fit = refl
      expr_same (boolean c) n fit = refl
      expr_same (known t) n fit = refl
      expr_same (bound i) n fit = ap tree.name (at_number v.variables v'.variables v.bound v'.bound s.bound i)
      expr_same (global x) n fit = ap tree.name (s.globals x (variable_below kinds x.number x.lasting fit))
      expr_same (listing es) n fit = ap tree.list (exprs_same es n fit)
      expr_same (size e) n fit = λ j. tree.size (placeless (expr_same e n fit j))
      expr_same (index e i) n fit = λ j. tree.index (placeless (expr_same e n fit.0 j)) (placeless (expr_same i n fit.1 j))
      expr_same (minus e) n fit = λ j. tree.minus (placeless (expr_same e n fit j))
      expr_same (negation e) n fit = λ j. tree.negation (placeless (expr_same e n fit j))
      expr_same (both es) n fit = ap all_kind (exprs_same es n fit)
      expr_same (either x y) n fit = ap₂ (infix_kind op.Or) (expr_same x n fit.0) (expr_same y n fit.1)
      expr_same (binary o x y) n fit = ap₂ (infix_kind (phrase_operator o)) (expr_same x n fit.0) (expr_same y n fit.1)
      expr_same (choice c x y) n fit =
          λ j. tree.choice_else (placeless (expr_same c n fit.0 j)) (placeless (expr_same x n fit.1 j)) (placeless (expr_same y n fit.2 j))
      expr_same (invoke p es) n fit = λ j. tree.call (definition_name (s.definitions j) p) (exprs_same es n fit.5 j)

      exprs_same : (es : ExprTrees) (n : ℕ) → ExprsFit defs kinds es n → exprs_phrases v' es ≡ exprs_phrases v es
      exprs_same no_expr n fit = refl
      exprs_same (expr_then e es) n fit = λ j. phrase_then (placeless (expr_same e n fit.0 j)) (exprs_same es n fit.1 j)

  mutual
    formula_same : (v v' : Vocabulary) (s : SpellSame v v') (w : FormulaTree) (n : ℕ) → FormulaFits defs kinds w n
        → formula_kind v' w ≡ formula_kind v w
    formula_same v v' s trivial n fit = refl
    formula_same v v' s (test e) n fit = expr_same v v' s e n fit
    formula_same v v' s (equation l r) n fit = ap₂ (infix_kind op.Equal) (expr_same v v' s l n fit.0) (expr_same v v' s r n fit.1)
    formula_same v v' s (next_equation k t e) n fit = λ j. infix_kind op.Equal (nexts_kind k (expr_same v v' s t n fit.0 j)) (expr_same v v' s e n fit.1 j)
    formula_same v v' s empty n fit = refl
    formula_same v v' s more n fit = refl
    formula_same v v' s (next w) n fit = λ j. tree.next (placeless (formula_same v v' s w n fit j))
    formula_same v v' s (weak_next w) n fit = λ j. tree.name (codes "weak next " ++ operand_spelling prefix_level (placeless (formula_same v v' s w n fit j)))
    formula_same v v' s (if_more w) n fit = λ j. tree.call (codes "ifmore") (sole (formula_same v v' s w n fit j))
    formula_same v v' s (if_empty w) n fit = λ j. tree.call (codes "ifempty") (sole (formula_same v v' s w n fit j))
    formula_same v v' s (always (if_more w)) n fit = λ j. tree.form f.Keep (sole (formula_same v v' s w n fit j))
    formula_same v v' s (always (if_empty w)) n fit = λ j. tree.form f.Fin (sole (formula_same v v' s w n fit j))
    formula_same v v' s (always w) n fit = λ j. tree.form f.Always (sole (formula_same v v' s w n fit j))
    formula_same v v' s (conjunction ws) n fit = ap all_kind (formulas_same v v' s ws n fit)
    formula_same v v' s (branch c w w') n fit =
        λ j. tree.choice_else (placeless (expr_same v v' s c n fit.0 j)) (placeless (formula_same v v' s w n fit.1 j)) (placeless (formula_same v v' s w' n fit.2 j))
    formula_same v v' s (len e) n fit = λ j. tree.form f.Len (sole (expr_same v v' s e n fit j))
    formula_same v v' s (assign t e) n fit = ap₂ (infix_kind op.Arrow) (expr_same v v' s t n fit.0) (expr_same v v' s e n fit.1)
    formula_same v v' s (chop w w') n fit = ap₂ (infix_kind op.Chop) (formula_same v v' s w n fit.0) (formula_same v v' s w' n fit.1)
    formula_same v v' s (while c w) n fit = λ j. tree.while (placeless (expr_same v v' s c n fit.0 j)) (placeless (formula_same v v' s w n fit.1 j))
    formula_same v v' s (for_from x k e w) n fit =
        λ j. tree.for (x ++ from_spelling k) (placeless (expr_same v v' s e n fit.0 j))
        (placeless (formula_same (naming v x) (naming v' x) (naming_same v v' x s) w (suc n) fit.1 j))
    formula_same v v' s (forall_from x k e w) n fit =
        λ j. tree.forall (x ++ from_spelling k) (placeless (expr_same v v' s e n fit.0 j))
        (placeless (formula_same (naming v x) (naming v' x) (naming_same v v' x s) w (suc n) fit.1 j))
    formula_same v v' s (project w w') n fit = ap₂ (infix_kind op.Proj) (formula_same v v' s w n fit.0) (formula_same v v' s w' n fit.1)
    formula_same v v' s (exists x lasting w) n fit =
        λ j. tree.exists (x ∷ []) (placeless (formula_same (naming v x) (naming v' x) (naming_same v v' x s) w (suc n) fit j))
    formula_same v v' s (call p es) n fit = λ j. tree.call (definition_name (s.definitions j) p) (exprs_same v v' s es n fit.3 j)
    formula_same v v' s (input x port) n fit = λ j. tree.form f.Input (phrase_then (placeless (expr_same v v' s x n fit j)) (sole (tree.name port)))
    formula_same v v' s (display es) n fit = ap (tree.form f.Display) (exprs_same v v' s es n fit)

    formulas_same : (v v' : Vocabulary) (s : SpellSame v v') (ws : FormulaTrees) (n : ℕ) → FormulasFit defs kinds ws n
        → formulas_phrases v' ws ≡ formulas_phrases v ws
    formulas_same v v' s no_formula n fit = refl
    formulas_same v v' s (formula_then w ws) n fit = λ j. phrase_then (placeless (formula_same v v' s w n fit.0 j)) (formulas_same v v' s ws n fit.1 j)

  -- The variables `ys` are the variables `xs`, renamed.
  module _ (xs ys : List Variable) (ρ : Renaming) (renames : (i : ℕ) → slice_get ys (ρ.local.to i) ≡ slice_get xs i)
      (fixed : FixesBelow (length kinds) ρ.local) where
    binding_same : (b : BindingTree) → binding_spelling ys (renamed_binding ρ b) ≡ binding_spelling xs b
    binding_same (place_binding p) = λ j. unwrap_or (name_where p.var.lasting (renames p.var.number j)) [] ++ flat_map index_text p.at
    binding_same (known_binding t) = refl

    bindings_same : (env : Bindings) → SpelledSame xs ys (map stands_for env) (map stands_for (renamed_bindings ρ env))
    bindings_same [] = tt
    bindings_same (b ∷ env) = (binding_same b, bindings_same env)

    words_same : (env : Bindings) → SpellSame (words_with xs defs env) (words_with ys defs (renamed_bindings ρ env))
    words_same env = record {
      definitions = refl;
      globals = λ x l. λ j. unwrap_or
          ((ap (λ i. name_where x.lasting (slice_get ys i)) (sym (fixed x.number l)) ∙ ap (name_where x.lasting) (renames x.number)) j) [];
      bound = bindings_same env;
    }

    phrase_same : (w : FormulaTree) (env : Bindings) → PhraseFits defs kinds xs w env
        → formula_kind (words_with ys defs (renamed_bindings ρ env)) w ≡ formula_kind (words_with xs defs env) w
    phrase_same w env fit = formula_same (words_with xs defs env) (words_with ys defs (renamed_bindings ρ env)) (words_same env) w (length env) fit.0

    due_same : (l : Leaf) (p : Place) → LeafFits defs kinds xs l p → due_kind ys defs (renamed_leaf ρ l) ≡ due_kind xs defs l
    due_same (Do w env) p fit = phrase_same w env fit
    due_same (Later w env) p fit = refl
    due_same (Shown vs) p fit = refl

    -- of a holder, where the second region's entries fit if it is dormant
    split_same : (k : Holder) (held : Entries) (q : Place) (dormant live : Type 0) → HolderFits defs kinds xs k held q dormant live
        → (left left' outer outer' : KindTree) → left' ≡ left → (dormant → outer' ≡ outer)
        → split_kind ys defs (renamed_holder ρ k) left' outer' ≡ split_kind xs defs k left outer
    split_same (Split w env) held q dormant live fit left left' outer outer' a b = λ j. infix_kind op.Chop (a j) (phrase_same w env fit j)
    split_same (SplitProject w env) held q dormant live fit left left' outer outer' a b =
        λ j. infix_kind op.Chop (a j) (infix_kind op.Proj (phrase_same w env fit.0 j) (b fit.1 j))
    split_same Closed held q dormant live fit left left' outer outer' a b = refl
    split_same (Opened w env) held q dormant live fit left left' outer outer' a b = refl
    split_same (Running w env) held q dormant live fit left left' outer outer' a b = refl

    entries_same : (es : Entries) (p : Place) → EntriesFit defs kinds xs es p
        → entries_phrases ys defs (renamed_entries ρ es) ≡ entries_phrases xs defs es
    entries_same none p fit = refl
    entries_same (leaf id l rest) p fit = λ j. phrase_then (placeless (due_same l p fit.0 j)) (entries_same rest p fit.1 j)
    entries_same (node id k h held g second rest) p fit =
        λ j. phrase_then (placeless
        (split_same k held (held_place k h held p) _ _ fit.0 _ _ _ _ (ap all_kind (entries_same held (held_place k h held p) fit.1))
        (λ d. ap all_kind (entries_same second (dormant_place g p) d.1)) j))
        (entries_same rest p fit.2 j)

pub alike_moments_have_one_phrase : AlikeMomentsHaveOnePhrase
alike_moments_have_one_phrase defs kinds m n fit a =
    ap (λ (r : Region). kind_spelling (all_kind (entries_phrases n.store.variables defs r.entries))) a.1.root
    ∙ ap (λ ps. kind_spelling (all_kind ps))
    (entries_same defs kinds m.store.variables n.store.variables a.0 a.1.variables a.1.globals_fixed m.scene.root.entries
    (root_place m.scene.root) fit.entries)
