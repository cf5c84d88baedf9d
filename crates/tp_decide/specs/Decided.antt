-- What decisions stand for.
use Rattle.std.specs.Prelude.{◌≡◌, ℕ, suc, List, [], ◌∷◌, ◌++◌, length, Some, None, Result, IfOk}
use Rattle.std.specs.Option.{option_map}
use Rattle.tp_meaning.specs.Syntax.{FormulaTree, place_binding}
use Rattle.tp_store.specs.Operand.{operand_tree}
use Rattle.tp_value.specs.declared.path.Fact.{Fact}
use Rattle.tp_value.specs.declared.refusal.NoMemory.{NoMemory}
use Rattle.tp_value.specs.declared.value.Shape.TheVariants.{Items}
use Rattle.tp_kernel.specs.Read.{definitions_of}
use Rattle.tp_store.specs.Facts.{fact, facts_at}
use Rattle.tp_store.specs.Known.{Addition, adds, refuses, addition}
use Rattle.tp_inputs.specs.Read.{inputs_of}
use Rattle.tp_scene.specs.declared.answer.Clash.TheVariants.{Facts}
use Rattle.tp_scene.specs.Scene as S
use Rattle.tp_scene.specs.Step as row
use Rattle.tp_scene.specs.Step.{PickOutcome, Numbers}
use Rattle.tp_scene.specs.Pick as pick
use Rattle.tp_decide.specs.declared.decision.Side.{Side}
use Rattle.tp_decide.specs.declared.decision.Side.TheVariants as mark
use Rattle.tp_decide.specs.declared.decision.Place.{Place}
use Rattle.tp_decide.specs.declared.decision.Leaf.{Leaf}
use Rattle.tp_decide.specs.declared.decision.Leaf.TheVariants as leaf
use Rattle.tp_decide.specs.declared.decision.Decision.{Decision}
use Rattle.tp_decide.specs.declared.decision.Decision.TheVariants as decision
use Rattle.tp_decide.specs.declared.regions.RegionKind.{RegionKind}
use Rattle.tp_decide.specs.declared.regions.RegionKind.TheVariants as region
use Rattle.tp_decide.specs.declared.setting.Setting.{Setting}
use Rattle.tp_decide.specs.NewLeaves.{leaf_list}
use Rattle.tp_decide.specs.Read.{values_of}
use Rattle.tp_decide.specs.ReadBound.{formula_of, env_of}

abbrev pub mark_of : Side → S.Side
mark_of mark.Ending = S.Ending
mark_of mark.Going = S.Going

abbrev pub plain_place : Place → S.Place
plain_place p =
    record {
      region = p.region;
      depth = p.depth;
      is = λ z. S.marked z (record { number = p.region; ends = p.ends; goes = p.goes });
    }

abbrev pub setting_of : Setting → pick.Setting
setting_of w =
    record { defs = definitions_of w.defs.now; inputs = inputs_of w.inputs.now; state = w.state }

abbrev pub plain_leaf : Leaf → S.Leaf
plain_leaf (leaf.Do a) = S.Do (formula_of a) (env_of a)
plain_leaf (leaf.Later a) = S.Later (formula_of a) (env_of a)
plain_leaf (leaf.Shown vs) = S.Shown (values_of vs)

-- these items in order, numbered from this place on
abbrev pub news_entries : List Leaf → (number : ℕ → ℕ) → (from : ℕ) → S.Entries
news_entries [] number k = S.none
news_entries (l ∷ ls) number k = S.leaf (number k) (plain_leaf l) (news_entries ls number (suc k))

-- the item becomes one formula from this state on
abbrev pub becomes_due : FormulaTree → S.Bindings → Numbers → PickOutcome
becomes_due f env n = row.becomes (S.leaf (n.item 0) (S.Do f env) S.none) 1

-- the item becomes one that holds a new region with one item
abbrev pub with_new_region : S.Entries → PickOutcome
with_new_region news =
    row.reduces (record {
      news = news;
      items = 2;
      regions = 1;
      local = None;
      mark = None;
      facts = [];
    })

-- the item that holds a new region of this kind
abbrev pub holding : RegionKind → (id : ℕ) → S.Region → FormulaTree → S.Bindings → S.Entries
    → S.Entries
holding region.Left = S.split_then
holding region.Outer = S.opened_then

-- Facts are added, and these items stand in the item's place; or it is refused.
abbrev pub adding_items : (news : S.Entries) → (items : ℕ) → Addition → PickOutcome
adding_items news items (adds facts) =
    row.reduces (record {
      news = news;
      items = items;
      regions = 0;
      local = None;
      mark = None;
      facts = facts;
    })
adding_items news items (refuses kept new) = row.clashes (Facts kept new)

-- What a decision does where these facts are known, and new items, regions and locals take these
-- numbers. A region is made only where it isn't too deep, so the place plays no part.
abbrev pub decided_outcome : List Fact → Numbers → Decision → PickOutcome
decided_outcome facts n (decision.Becomes news m) =
    row.reduces (record {
      news = news_entries (leaf_list news) n.item 0;
      items = length (leaf_list news);
      regions = 0;
      local = None;
      mark = option_map mark_of m;
      facts = [];
    })
decided_outcome facts n (decision.Splits first after) =
    with_new_region (S.split_then (n.item 1)
    (row.region_of n.region (n.item 0) (formula_of first) (env_of first)) (formula_of after)
    (env_of after) S.none)
decided_outcome facts n (decision.Opens outer piece) =
    with_new_region (S.opened_then (n.item 1)
    (row.region_of n.region (n.item 0) (formula_of outer) (env_of outer)) (formula_of piece)
    (env_of piece) S.none)
decided_outcome facts n (decision.Binds name lasting body) =
    row.reduces (record {
      news = S.leaf (n.item 0)
          (S.Do (formula_of body)
          (env_of body ++ place_binding
          (record { var = record { number = n.local; lasting = lasting }; at = [] }) ∷ [])) S.none;
      items = 1;
      regions = 0;
      local = Some (record { name = name; lasting = lasting });
      mark = None;
      facts = [];
    })
decided_outcome facts n (decision.Sets p v) =
    row.added (addition facts (facts_at p (operand_tree v)))
decided_outcome facts n (decision.Measures p k) = row.added (addition facts (fact p (Items k) ∷ []))
decided_outcome facts n (decision.Shares to k news) =
    adding_items (news_entries news.items n.item 0) (length news.items)
    (addition facts (fact to (Items k) ∷ []))
decided_outcome facts n (decision.Waits first other) = row.waits first other
decided_outcome facts n decision.Rests = row.rests
decided_outcome facts n (decision.Clashes c) = row.clashes c
decided_outcome facts n (decision.Misses port) = row.misses port
decided_outcome facts n (decision.Passes k) = row.passes k

-- It stands for this outcome, whatever is known.
abbrev pub Decides : Decision → (Numbers → PickOutcome) → Type 0
Decides d o = (facts : List Fact) (n : Numbers) → decided_outcome facts n d ≡ o n

-- the same of a result, which has no decision where memory runs out
abbrev pub IfOkDecides : Result Decision NoMemory → (Numbers → PickOutcome) → Type 0
IfOkDecides r o = IfOk r (λ d. Decides d o)

-- what it stands for where these facts are known
abbrev pub IfOkDecidesIn : List Fact → Result Decision NoMemory → (Numbers → PickOutcome) → Type 0
IfOkDecidesIn facts r o = IfOk r (λ d. (n : Numbers) → decided_outcome facts n d ≡ o n)
