-- What becomes of an item that holds a region.
use Rattle.std.specs.Prelude.{None, []}
use Rattle.tp_scene.specs.Scene as S
use Rattle.tp_scene.specs.Step as row
use Rattle.tp_scene.specs.Step.{PickOutcome, Numbers}
use Rattle.tp_meaning.specs.Syntax.{more}
use Rattle.tp_decide.specs.declared.holder.HolderKind.{HolderKind}
use Rattle.tp_decide.specs.declared.holder.HolderKind.TheVariants as kind
use Rattle.tp_decide.specs.declared.holder.HolderDecision.{HolderDecision}
use Rattle.tp_decide.specs.declared.holder.HolderDecision.TheVariants as decision

abbrev pub kind_of : S.Holder → HolderKind
kind_of (S.Split f env) = kind.Split
kind_of (S.SplitProject f env) = kind.SplitProject
kind_of S.Closed = kind.Closed
kind_of (S.Opened f env) = kind.Opened
kind_of (S.Running f env) = kind.Running

-- The left region has ended, and what follows it begins. This is of no other holder.
abbrev pub closes : S.Holder → (left second : S.Region) → Numbers → PickOutcome
closes (S.Split f env) left second n =
    row.becomes (S.closed_then (n.item 0) left (S.leaf (n.item 1) (S.Do f env) S.none)) 2
closes (S.SplitProject f env) left second n =
    row.becomes (S.closed_then (n.item 0) left (S.opened_then (n.item 1) second f env S.none)) 2
closes S.Closed left second n = row.rests
closes (S.Opened f env) left second n = row.rests
closes (S.Running f env) left second n = row.rests

-- The outer region goes on, and its next piece begins in a new region. This is of no other holder.
abbrev pub begins_piece : S.Holder → (outer : S.Region) → Numbers → PickOutcome
begins_piece (S.Opened f env) outer n =
    row.reduces (record {
      news = S.running_then (n.item 2)
          (record {
            head = S.new_head n.region;
            entries = S.leaf (n.item 0) (S.Do f env) (S.leaf (n.item 1) (S.Do more env) S.none);
          })
          outer f env S.none;
      items = 3;
      regions = 1;
      local = None;
      mark = None;
      facts = [];
    })
begins_piece (S.Split f env) outer n = row.rests
begins_piece (S.SplitProject f env) outer n = row.rests
begins_piece S.Closed outer n = row.rests
begins_piece (S.Running f env) outer n = row.rests

-- what a decision on this holder stands for, with the regions that it holds and the numbers that
-- new items and regions take
abbrev pub holder_decided : S.Holder → (held second : S.Region) → Numbers → HolderDecision
    → PickOutcome
holder_decided k held second n decision.Rests = row.rests
holder_decided k held second n (decision.Waits cell) = row.waits cell None
holder_decided k held second n decision.Closes = closes k held second n
holder_decided k held second n decision.Begins = begins_piece k held n

-- It is a decision on items of this kind: only a left region closes, and only an outer one begins a
-- piece.
abbrev pub IsOfKind : HolderKind → HolderDecision → Type 0
IsOfKind k decision.Rests = Unit {0}
IsOfKind k (decision.Waits cell) = Unit {0}
IsOfKind kind.Split decision.Closes = Unit {0}
IsOfKind kind.SplitProject decision.Closes = Unit {0}
IsOfKind kind.Closed decision.Closes = ⊥
IsOfKind kind.Opened decision.Closes = ⊥
IsOfKind kind.Running decision.Closes = ⊥
IsOfKind kind.Split decision.Begins = ⊥
IsOfKind kind.SplitProject decision.Begins = ⊥
IsOfKind kind.Closed decision.Begins = ⊥
IsOfKind kind.Opened decision.Begins = Unit {0}
IsOfKind kind.Running decision.Begins = ⊥
