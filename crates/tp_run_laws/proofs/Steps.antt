-- What a step gives is printable where the scene, the definitions, the inputs and what is kept are.
use Rattle.std.proofs.Common.{◌≡◌, ℤ, pos, negsuc, ◌+ℤ◌, int_le, inl, inr, ℕ, nat_le, zero, suc, nat_lt, ltb, ◌-◌, true, false, ◌&&◌, cond, eqb, List, [], ◌++◌, refl, ap, sym, ◌∙◌, subst, All, Option, Some, None, IfSome, arith, append-nil}
use Rattle.std.proofs.lemmas.Bool.{cond_both, ltb-false}
use Rattle.std.proofs.lemmas.Bool.Decides.{nat_tests}
use Rattle.std.proofs.lemmas.List.Elements.{All-nil}
use Rattle.tp_value.specs.Number.{IsNumber, number_limit}
use Rattle.tp_value.specs.Limits.{length_limit, IsWithinLimits}
use Rattle.tp_value.specs.declared.path.Fact.{Fact}
use Rattle.tp_value.specs.declared.value.Shape.TheVariants.{Items}
use Rattle.tp_meaning.specs.Syntax.{known, FormulaTree, equation, next_equation, always, len, assign, while, for_from, forall_from, Definition}
use Rattle.tp_meaning.specs.Nexts.{nexts}
use Rattle.tp_meaning.specs.Inputs.{InputTable}
use Rattle.tp_inputs.proofs.WithinLemmas.{input_has}
use Rattle.tp_store.specs.Known.{adds, addition, Variable}
use Rattle.tp_scene.specs.Scene.{Bindings, Side, Ending, Going, Head, Leaf, Do, Later, Shown, Holder, Split, SplitProject, Opened, Entries, none, leaf, node, new_head, no_region, second_lives, has, append, Place, held_place}
use Rattle.tp_scene.specs.Step.{PickOutcome, reduces, waits, rests, clashes, misses, passes, Numbers, by_status, leaf_step, holder_step}
use Rattle.tp_scene.specs.Pick.{Setting, pick, put}
use Rattle.tp_scene.proofs.Frame.{region}
use Rattle.tp_scene.proofs.Parts.{picked_has}
use Rattle.tp_show.specs.TraceOfRun.{IsWithinIndexLimit, HasNameOnOneLine}
use Rattle.tp_show.specs.Line.{IsOneLine}
use Rattle.tp_run_laws.specs.Printable.{FormulaIsPrintable, DefinitionIsPrintable, PhraseIsPrintable, LeafIsPrintable, HolderIsPrintable, EntriesArePrintable, InputsArePrintable}
use Rattle.tp_run_laws.proofs.Kept.{FactsArePrintable, value_added, shape_added}
use Rattle.tp_run_laws.proofs.Found.{number_value, definition_at, good, lists_good, evaluates_good}
use Rattle.tp_scene.proofs.Evaluated.{Evaluates, outcome_told, place_outcome_told}
use Rattle.tp_scene.proofs.Told.{Bundle, PartsOf, LeavesTold, HolderTold, RowsKeep, Told, formula_told}

append_printable : (es fs : Entries) → EntriesArePrintable es → EntriesArePrintable fs → EntriesArePrintable (append es fs)
append_printable none fs h k = k
append_printable (leaf id l rest) fs h k = (h.0, append_printable rest fs h.1 k)
append_printable (node id x i held g second rest) fs h k = (h.0, h.1, h.2, append_printable rest fs h.3 k)

under_nexts : (k : ℕ) (f : FormulaTree) → FormulaIsPrintable f → FormulaIsPrintable (nexts k f)
under_nexts zero f h = h
under_nexts (suc k) f h = under_nexts k f h

-- a number that is less than one within the limit, and at least another one, has a next one within the limit
next_number : (k m : ℤ) → int_le m k ≡ false → IsNumber k → IsNumber m → IsNumber (k +ℤ pos 1)
next_number (pos a) (pos b) less h n = let l : nat_le b a ≡ false = less in let small : nat_le b number_limit ≡ true = n in grind (arith, nat_tests, l, small)
next_number (pos a) (negsuc b) less h n = absurd (let l : true ≡ false = less in cc l)
next_number (negsuc zero) m less h n = refl
next_number (negsuc (suc a)) m less h n =
    let negative : ltb 1 (suc (suc a)) ≡ true = grind (arith, nat_tests) in
    let less_one : suc (suc a) - 2 ≡ a = omega arith in
    let next : negsuc (suc a) +ℤ pos 1 ≡ negsuc a = ap (λ b. cond b (negsuc (suc (suc a) - 2)) (pos (1 - suc (suc a)))) negative ∙ ap negsuc less_one in
    let small : nat_lt (suc a) number_limit ≡ true = h in
    subst IsNumber (sym next) (grind (arith, nat_tests, small))

module _ (facts : List Fact) where
  -- a step's facts leave what is kept printable, and its entries, its local's name, and a port that it misses are so
  abbrev pub OutcomeIsPrintable : PickOutcome → Type 0
  OutcomeIsPrintable (reduces r) = FactsArePrintable (facts ++ r.facts) × EntriesArePrintable r.news × IfSome r.local HasNameOnOneLine
  OutcomeIsPrintable (waits first other) = Unit {0}
  OutcomeIsPrintable rests = Unit {0}
  OutcomeIsPrintable (clashes c) = Unit {0}
  OutcomeIsPrintable (misses port) = IsOneLine port
  OutcomeIsPrintable (passes k) = Unit {0}

  status_either : (p : Place) (o o' : PickOutcome) → OutcomeIsPrintable o → OutcomeIsPrintable o' → OutcomeIsPrintable (by_status p o o')
  status_either p o o' h h' = cond_both (p.is Going) _ _ OutcomeIsPrintable (λ _. h) (λ _. cond_both (p.is Ending) _ _ OutcomeIsPrintable (λ _. h') (λ _. tt))

  abbrev pub printable : Bundle
  printable = good (λ xs. (news : List Fact) → addition facts xs ≡ adds news → FactsArePrintable (facts ++ news))

  printable_parts : (f : FormulaTree) (m : ℕ) → FormulaIsPrintable f → PartsOf printable f m
  printable_parts (next_equation k t e) m h = (h.1, λ v u. under_nexts (k - 1) (equation t (known v)) (h.0, u.numbers))
  printable_parts (always f) m h = (h, h)
  printable_parts (len e) m h = (h, tt, λ k. tt)
  printable_parts (assign t e) m h = (h.1, λ v u. (h.0, u.numbers))
  printable_parts (while e f) m h = (h.0, ((h.1, (tt, tt)), h), tt)
  printable_parts (for_from x k e f) m h =
      (tt, record { last = h.2; number = number_value k h.1; turn = h.3; left = λ j u l. (h.0, next_number k j l h.1 u.numbers, tt, h.3) })
  printable_parts (forall_from x k e f) m h =
      record { last = h.2; number = number_value k h.1; turn = h.3; left = λ j u l. (h.0, next_number k j l h.1 u.numbers, tt, h.3) }
  printable_parts f m h = h

  module _ (kept : FactsArePrintable facts) where
    no_facts : FactsArePrintable (facts ++ [])
    no_facts = subst FactsArePrintable (sym (append-nil facts)) kept

    module _ (defs : List Definition) (inputs : InputTable) (state : ℕ) (definitions : All DefinitionIsPrintable defs) (table : InputsArePrintable inputs) (p : Place) (n : Numbers) where
      evaluates : Evaluates printable defs facts
      evaluates = evaluates_good printable.new_facts facts kept defs definitions

      known_parts : RowsKeep printable defs inputs state facts n
      known_parts = record {
        lists = lists_good printable.new_facts;
        parts = printable_parts;
        body = λ i d e. let k : IfSome (Some d) DefinitionIsPrintable = subst (λ (o : Option Definition). IfSome o DefinitionIsPrintable) e (definition_at defs i definitions) in k.formula;
        value = λ e xs h k. outcome_told printable facts defs evaluates e 0 xs h k;
        place = λ e xs h k. place_outcome_told printable facts defs evaluates e 0 xs h k;
        read = λ port v e. input_has IsWithinLimits inputs state port v table e;
        value_bound = λ v u. u;
        local_bound = λ x l. record { few = omega arith; indices = All-nil IsWithinIndexLimit };
        sets = λ q v path u news e. value_added facts news q v kept path u e;
        lengthens = λ q k path l news e. shape_added facts news q (Items k) kept path (ltb-false length_limit k l) e;
        shared = λ q k i path e l. ((tt, tt), (tt, tt));
        shapes = λ p q sh path other e news a. shape_added facts news p sh kept path (kept q sh e).shape a;
        open_path = λ q path e a. tt;
      }

      leaves_printable : (mark : Option Side) (from : ℕ) (es : Entries) (to : ℕ) → LeavesTold printable facts p n mark from es to → EntriesArePrintable es
      leaves_printable mark from none to h = tt
      leaves_printable mark from (leaf id (Do f env) es) to h = (h.1, leaves_printable mark (suc from) es to h.2)
      leaves_printable mark from (leaf id (Later f env) es) to h = (h.1.0, leaves_printable mark (suc from) es to h.2)
      leaves_printable mark from (leaf id (Shown vs) es) to h = (tt, leaves_printable mark (suc from) es to h.2)
      leaves_printable mark from (node id k i held g second es) to h = absurd h

      region_printable : (k : Holder) → HolderTold printable facts p n k → (f : FormulaTree) (env : Bindings) → PhraseIsPrintable f env → EntriesArePrintable (node (n.item 1) k (new_head n.region) (leaf (n.item 0) (Do f env) none) no_region none none)
      region_printable (Split f env) h g xs k = (h, (k, tt), tt, tt)
      region_printable (Opened f env) h g xs k = (h, (k, tt), tt, tt)
      region_printable x h g xs k = absurd h

      name_printable : (o : Option Variable) → ((x : Variable) → o ≡ Some x → IsOneLine x.name) → IfSome o HasNameOnOneLine
      name_printable None h = tt
      name_printable (Some x) h = h x refl

      outcome_printable : (o : PickOutcome) → Told printable facts p n o → OutcomeIsPrintable o
      outcome_printable (reduces r) h = (
        elim h.facts_of [
          | inl e ↦ subst (λ (fs : List Fact). FactsArePrintable (facts ++ fs)) (sym e) no_facts
          | inr x ↦ x.1 r.facts x.2
        ],
        elim (h.news tt) [
          | inl x ↦ leaves_printable r.mark 0 r.news r.items x.0
          | inr x ↦ subst (λ (es : Entries). EntriesArePrintable es) (sym x.0.is) (region_printable x.0.holder x.0.told x.0.item x.0.env x.0.phrase)
        ],
        name_printable r.local h.name,
      )
      outcome_printable (misses port) h = h
      outcome_printable o h = tt

-- what a run is read with is printable
pub record SettingIsPrintable (w : Setting) : Type 0 where
  pub definitions : All DefinitionIsPrintable w.defs
  pub inputs : InputsArePrintable w.inputs

module _ (w : Setting) (facts : List Fact) (setting : SettingIsPrintable w) (kept : FactsArePrintable facts) (n : Numbers) where
  leaf_good : (l : Leaf) (p : Place) → LeafIsPrintable l → OutcomeIsPrintable facts (leaf_step w.defs w.inputs w.state facts l p n)
  leaf_good (Do f env) p h = outcome_printable facts kept w.defs w.inputs w.state setting.definitions setting.inputs p n _
      (formula_told (printable facts) w.defs w.inputs w.state facts n (known_parts facts kept w.defs w.inputs w.state setting.definitions setting.inputs p n) p f env h)
  leaf_good l p h = tt

  holder_good : (k : Holder) (h : Head) (held : Entries) (g : Head) (second : Entries) (q : Place) → HolderIsPrintable k → EntriesArePrintable held → EntriesArePrintable second → OutcomeIsPrintable facts (holder_step w.defs w.inputs w.state facts k (region h held) (region g second) q n)
  holder_good (Split f env) h held g second q a b c = status_either facts q _ _ tt (no_facts facts kept, (tt, b, tt, (a, tt)), tt)
  holder_good (SplitProject f env) h held g second q a b c = status_either facts q _ _ tt (no_facts facts kept, (tt, b, tt, (a, c, tt, tt)), tt)
  holder_good (Opened f env) h held g second q a b c = status_either facts q _ _ (no_facts facts kept, (a, (a, ((tt, a.1), tt)), b, tt), tt) tt
  holder_good k h held g second q a b c = tt

  pub pick_printable : (t : ℕ) (es : Entries) (p : Place) → EntriesArePrintable es → OutcomeIsPrintable facts (pick w facts t es p n)
  pick_printable t = picked_has (OutcomeIsPrintable facts) w facts t n (λ es p. EntriesArePrintable es) tt (λ id l rest p h. (leaf_good l p h.0, h.1))
      (λ id k i held g second rest p h. (holder_good k i held g second (held_place k i held p) h.0 h.1 h.2, λ e. h.2, h.1, h.3))

pub put_printable : (t : ℕ) (m : Option Side) (news es : Entries) → EntriesArePrintable news → EntriesArePrintable es → EntriesArePrintable (put t m news es)
put_printable t m news none k h = tt
put_printable t m news (leaf id l rest) k h = cond_both (eqb id t) _ _ EntriesArePrintable (λ _. append_printable news rest k h.1) (λ _. (h.0, put_printable t m news rest k h.1))
put_printable t m news (node id x i held g second rest) k h =
    cond_both (eqb id t) _ _ EntriesArePrintable (λ _. append_printable news rest k h.3)
    (λ _. cond_both (second_lives x && has t second) _ _ EntriesArePrintable (λ _. (h.0, h.1, put_printable t m news second k h.2, h.3))
    (λ _. cond_both (has t held) _ _ EntriesArePrintable (λ _. (h.0, put_printable t m news held k h.1, h.2, h.3)) (λ _. (h.0, h.1, h.2, put_printable t m news rest k h.3))))
