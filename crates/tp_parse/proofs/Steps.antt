-- Reading at a level by the level below it, and turns of a reader beside a loop that counts up.
use Rattle.std.proofs.Common.{◌≡◌, ℕ, zero, suc, ◌+◌, ◌-◌, ◌<◌, ◌≤◌, refl, ap, subst, ◌∙◌, arith}
use Rattle.std.proofs.Common.{Ok, Err, Some, None, [], ◌∷◌}
use Rattle.tp_parse.specs.Marks.{before, prefix_at, role_at, Tokens, mark, from}
use Rattle.tp_parse.specs.declared.mark.TokenRole.TheVariants.{Ends}
use Rattle.tp_parse.specs.declared.stop.Refusal.{Refusal}
use Rattle.tp_parse.specs.Readers.{TokenReader}
use Rattle.tp_parse.specs.Grammar.{Found}
use Rattle.tp_parse.specs.Reading.{read, levels, level, level_by, first, first_by, operations, go, turn}
use Rattle.tp_parse.proofs.Marks.{no_prefix_at, no_prefix_at_zero, some_prefix_at}

-- no operator before the phrase is of a level from one to another
abbrev pub NoneBetween : ℕ → ℕ → Tokens → Type 0
NoneBetween low high ts = (j : ℕ) → low ≤ j → j < high → before (mark ts) ≡ suc j → ⊥

pub read_levels : (room k : ℕ) (ts : Tokens) → 0 < room → read room k ts ≡ levels (read (room - 1)) (room - 1) k ts
unfolding read
read_levels zero k ts some = absurd (omega arith)
read_levels (suc room) k ts some = let one : suc room - 1 ≡ room = omega arith in rw one refl

module _ (inner : ℕ → TokenReader Found) (room : ℕ) where
  pub levels_first : (k : ℕ) (ts : Tokens) → (0 < k → before (mark ts) ≡ k) → levels inner room k ts ≡ first inner room k ts
  unfolding levels level first
  levels_first zero ts own = rw (no_prefix_at_zero (mark ts)) refl
  levels_first (suc k) ts own = let e : before (mark ts) ≡ suc k = own (omega arith) in
      elim (prefix_at (suc k) (mark ts)) as (λ p. prefix_at (suc k) (mark ts) ≡ p → level_by inner room (suc k) (levels inner room k) p ts ≡ first_by inner room (suc k) p ts) [
        | None ↦ λ none. absurd (some_prefix_at k (mark ts) e none)
        | Some o ↦ λ is. refl
      ] refl

  pub level_next : (low high : ℕ) (ts rest : Tokens) (x : Found) → NoneBetween low high ts → low < high → levels inner room low ts ≡ Ok (x, rest)
      → levels inner room (low + 1) ts ≡ operations inner room (low + 1) (from ts) x rest
  unfolding levels level
  level_next low high ts rest x others lt e =
      let one : low + 1 ≡ suc low = omega arith in
      rw (one, no_prefix_at (suc low) (mark ts) (others low (omega arith) lt), e) refl

  -- where no operator of the level is there, the operand is all
  pub operations_end : (k at : ℕ) (x : Found) (ts : Tokens) → role_at k (mark ts) ≡ Ends → operations inner room k at x ts ≡ Ok (x, ts)
  unfolding operations go turn
  operations_end k at x [] ends = refl
  operations_end k at x (t ∷ ts) ends = rw ends refl

  err_up : (n low high : ℕ) (ts : Tokens) (e : Refusal) → NoneBetween low high ts → n + low ≤ high → levels inner room low ts ≡ Err e → levels inner room (n + low) ts ≡ Err e
  unfolding levels level
  err_up zero low high ts e others le is = let same : 0 + low ≡ low = omega arith in rw same is
  err_up (suc n) low high ts e others le is =
      let same : suc n + low ≡ suc (n + low) = omega arith in
      let before_it = err_up n low high ts e others (omega arith) is in
      rw (same, no_prefix_at (suc (n + low)) (mark ts) (others (n + low) (omega arith) (omega arith)), before_it) refl

  pub err_last : (low high : ℕ) (ts : Tokens) (e : Refusal) → NoneBetween low high ts → low ≤ high → levels inner room low ts ≡ Err e → levels inner room high ts ≡ Err e
  err_last low high ts e others le is =
      let same : (high - low) + low ≡ high = omega arith in
      subst (λ (k : ℕ). levels inner room k ts ≡ Err e) same (err_up (high - low) low high ts e others (omega arith) is)

pub one_more : {X : Type 0} {x : X} (f : ℕ → X) (n at : ℕ) → at < n → x ≡ f (n - at) → x ≡ f (suc (n - (at + 1)))
one_more f n at below e = let turn : n - at ≡ suc (n - (at + 1)) = omega arith in e ∙ ap f turn

pub no_more : {X : Type 0} {x : X} (f : ℕ → X) (n at : ℕ) → n ≤ at → x ≡ f (n - at) → x ≡ f 0
no_more f n at done e = let none : n - at ≡ 0 = omega arith in e ∙ ap f none
