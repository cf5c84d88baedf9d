-- What a closure by an agenda keeps beside its tally.
use Rattle.std.specs.Prelude.{◌≡◌, ℕ, ◌≤◌, ◌<◌, ◌^◌, ◌||◌, ◌&&◌, Bool, true, false, List, [], ◌∷◌, ◌++◌, length, Option, None, Some}
use Rattle.std.specs.List.{filter, list_any}
use Rattle.std.specs.Option.{is_some}
use Rattle.tp_value.specs.declared.path.Fact.{Fact}
use Rattle.tp_scene.specs.Scene as S
use Rattle.tp_scene.specs.declared.answer.Cell.{Cell}
use Rattle.tp_slots.specs.declared.scene.Scene.{Scene}
use Rattle.tp_step.specs.declared.answer.News.{News}
use Rattle.tp_step.specs.declared.answer.Tried.{Tried}
use Rattle.tp_step.specs.declared.answer.Tried.TheVariants as tried
use Rattle.tp_step.specs.declared.tally.Wait.{Wait}
use Rattle.tp_step.specs.declared.ending.Ending.{Ending}
use Rattle.tp_step.specs.declared.ending.Ending.TheVariants.{Clash, Missing, Over}
use Rattle.tp_lanes.specs.Planes.{flag}
use Rattle.tp_agenda.specs.declared.board.Board.{Board}
use Rattle.tp_agenda.specs.Decides.{fact_decides, ends_decide}
use Rattle.tp_agenda.specs.Held.{AddsReady}
use Rattle.tp_agenda.specs.Index.{IsFiled}
use Rattle.tp_agenda.specs.Marks.{has_known_end}
use Rattle.tp_agenda.specs.Outward.{WaitsAreNear}
use Rattle.tp_agenda.specs.Ready.{may_move}
use Rattle.tp_agenda.specs.Taking.{TakesKnown}
use Rattle.tp_agenda.specs.Wakes.{AreOver, WakesOnly}

-- those of the items that are live and may move
abbrev pub moving_among : S.Entries → List ℕ → List ℕ
moving_among es items = filter (λ u. may_move u es) items

-- the cells that facts decide; and what a step decides by its news
abbrev pub facts_decide : List Fact → Cell → Bool
facts_decide fs c = list_any (λ f. fact_decides f c) fs

abbrev pub news_decide : News → S.Scene → Cell → Bool
news_decide news s c =
    facts_decide news.facts c || (is_some news.marked && ends_decide (has_known_end s) c)

-- It has a flag for each number below its bound, and one for each wait, and its index holds these.
pub record FitsBoard (waits : List Wait) (board : Board) : Type 0 where
  pub bound : board.bound ≡ length board.ready
  pub small : length board.ready < 2 ^ 64
  pub sizes : length board.over.items ≡ length waits
  pub filed : IsFiled board.index waits board.over.items

-- It has a flag for each item that the scene has had.
abbrev pub HasFlags : S.Scene → Board → Type 0
HasFlags s board = s.next_item ≤ length board.ready

-- each region that was taken has an end that is known
abbrev pub TakenAreKnown : S.Scene → Board → Type 0
TakenAreKnown s board = (r : ℕ) → flag board.taken.items r ≡ true → has_known_end s r ≡ true

-- The new items are ready that may move; and each wait is over that was for what is new, and its
-- item is ready. Regions were taken only where their ends are known.
pub record TakesNews (s : S.Scene) (news : News) (waits : List Wait) (old new : Board)
    : Type 0 where
  pub fits : FitsBoard waits new
  pub flags : HasFlags s new
  pub between : List Bool
  pub adds : AddsReady (moving_among s.root.entries news.items) old.ready between
  pub only : WakesOnly waits (news_decide news s) between old.over.items new.ready new.over.items
  pub all : AreOver waits (news_decide news s) new.over.items
  pub taken : TakesKnown (has_known_end s) old.taken.items new.taken.items

-- each end that is known by what a step marked, and for which a wait isn't over, is near the mark
abbrev pub NewsAreNear : Scene → Tried → Board → List Wait → Type 0
NewsAreNear s (tried.Reduced news) board waits =
    (region : ℕ) → news.marked ≡ Some region
    → WaitsAreNear s board.taken.items region waits board.over.items
NewsAreNear s (tried.Waits first other) board waits = Unit {0}
NewsAreNear s tried.Rests board waits = Unit {0}
NewsAreNear s (tried.Clash clash) board waits = Unit {0}
NewsAreNear s (tried.Missing port) board waits = Unit {0}
NewsAreNear s (tried.Over limit) board waits = Unit {0}

-- A wait was recorded, which isn't over.
pub record TakesWait (x : Wait) (old new : Board) (before after : List Wait) : Type 0 where
  pub fits : FitsBoard after new
  pub recorded : after ≡ before ++ x ∷ []
  pub over : new.over.items ≡ old.over.items ++ false ∷ []
  pub ready : new.ready ≡ old.ready
  pub taken : new.taken ≡ old.taken

-- What came of the item t was taken in, with the waits and the rests that are recorded then: what a
-- step brought, a wait, or a rest; or the closure ends with it.
abbrev pub TakesIn : S.Scene → (t : ℕ) → Tried → (old new : Board) → (ws ws' : List Wait)
    → (rs rs' : List ℕ) → Option Ending → Type 0
TakesIn s t (tried.Reduced news) old new ws ws' rs rs' ending =
    (ending ≡ None) × TakesNews s news ws old new × (ws' ≡ ws) × (rs' ≡ rs)
TakesIn s t (tried.Waits first other) old new ws ws' rs rs' ending =
    (ending ≡ None)
    × TakesWait (record { item = t; first = first; other = other }) old new ws ws' × (rs' ≡ rs)
TakesIn s t tried.Rests old new ws ws' rs rs' ending =
    (ending ≡ None) × (new ≡ old) × (ws' ≡ ws) × (rs' ≡ rs ++ t ∷ [])
TakesIn s t (tried.Clash clash) old new ws ws' rs rs' ending =
    (ending ≡ Some (Clash clash)) × (ws' ≡ ws) × (rs' ≡ rs)
TakesIn s t (tried.Missing port) old new ws ws' rs rs' ending =
    (ending ≡ Some (Missing port)) × (ws' ≡ ws) × (rs' ≡ rs)
TakesIn s t (tried.Over limit) old new ws ws' rs rs' ending =
    (ending ≡ Some (Over limit)) × (ws' ≡ ws) × (rs' ≡ rs)
