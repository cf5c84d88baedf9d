use Rattle.std.proofs.Common.{◌≡◌, ℕ, List, ◌+◌, ◌-◌, ◌<◌, ◌≤◌, slice_index, subst, ap, ◌∙◌, inl, inr, arith, rules}
use Rattle.std.proofs.lemmas.Bool.{cases_eq, cases_lt}
use Rattle.tp_lanes.specs.Planes.{AreEmpty}
use Rattle.tp_lanes.proofs.members.last_word.Goals as goal

more_empty : (words : List ℕ) (word to : ℕ) → AreEmpty words (word + 1) to → slice_index words word ≡ 0 → AreEmpty words word to
more_empty words word to none here = λ k from less. elim (cases_eq k word) [
  | inl e ↦ ap (slice_index words) e ∙ here
  | inr ne ↦ none k (omega (arith, from, ne)) less
]

some_left : (words : List ℕ) (at word : ℕ) → (AreEmpty words at (at + 8) → ⊥) → at ≤ word → AreEmpty words (word + 1) (at + 8) → slice_index words word ≡ 0 → at < word
some_left words at word some le none here = elim (cases_lt at word) [
  | inl less ↦ less
  | inr more ↦ let e : word ≡ at = omega (arith, le, more) in absurd (some (subst (λ (x : ℕ). AreEmpty words x (at + 8)) e (more_empty words word (at + 8) none here)))
]

pub overflow_sub-word : goal.overflow_sub-word
overflow_sub-word c =
    let i = c.loop-word.invariant in
    let less = some_left c.args.words.now c.args.at c.loop-word.word c.requires.some i.from i.behind c.loop-word-test.true in
    search (rules, less)

pub loop-word-preserved : goal.loop-word-preserved
loop-word-preserved c =
    let i = c.loop-word.invariant in
    let words = c.args.words.now in
    let word = c.loop-word.word in
    let less = some_left words c.args.at word c.requires.some i.from i.behind c.loop-word-test.true in
    let e : word ≡ (word - 1) + 1 = omega (arith, less) in
    record {
      from = omega (arith, less);
      within = omega (arith, i.within);
      behind = subst (λ (x : ℕ). AreEmpty words x (c.args.at + 8)) e (more_empty words word (c.args.at + 8) i.behind c.loop-word-test.true);
    }
