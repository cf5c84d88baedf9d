-- Whole states: what every list of picks comes to where some picks close the state.
use Rattle.std.specs.Prelude.{◌≡◌, ℕ, Bool, List, length}
use Rattle.tp_kernel.specs.declared.fault.LimitKind.{LimitKind}
use Rattle.tp_scene.specs.declared.answer.Clash.{Clash}
use Rattle.tp_scene.specs.Pick.{Setting, Moment}
use Rattle.tp_scene.specs.Replay.{Closes, MeetsClash, MissesInput, PassesLimit, UsesUp}
use Rattle.tp_step_laws.specs.Alike.{Alike}
use Rattle.tp_step_laws.specs.Orders.{IsOrderly}

-- The state that begins with this moment can be closed, and each list of picks that closes it takes
-- as many picks and leads to what is alike. No list of picks meets a clash, misses an input, passes
-- a limit, or uses up the picks.
pub record ClosesOneWay (w : Setting) (globals most : ℕ) (m : Moment) (picks : ℕ) (end : Moment) :
    Type 0 where
  pub can : (qs : List ℕ) × (last : Moment) × Closes w most m qs last
  pub count : (qs : List ℕ) (last : Moment) → Closes w most m qs last → length qs ≡ picks
  pub alike : (qs : List ℕ) (last : Moment) → Closes w most m qs last → Alike globals end last
  pub no_clash : (clash : Clash) → MeetsClash w most m clash → ⊥
  pub no_missing : (port : List ℕ) → MissesInput w most m port → ⊥
  pub no_limit : (limit : LimitKind) → PassesLimit w most m limit → ⊥
  pub no_use_up : UsesUp w most m → ⊥

-- Where some picks close a state, this holds of each state that begins alike.
abbrev pub StatesCloseOneWay : Type 0
StatesCloseOneWay = (w : Setting) (kinds : List Bool) (most : ℕ) (m n : Moment) (picks : List ℕ)
    (end : Moment)
    → IsOrderly w kinds m → IsOrderly w kinds n → Alike (length kinds) m n
    → Closes w most m picks end
    → ClosesOneWay w (length kinds) most n (length picks) end
