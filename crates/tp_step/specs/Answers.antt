-- What the calls' answers stand for.
use Rattle.std.specs.Prelude.{◌≡◌, ℕ, ◌<◌, ◌⊎◌}
use Rattle.std.specs.Option.{option_map}
use Rattle.tp_kernel.specs.declared.fault.LimitKind.TheVariants.{Reductions}
use Rattle.tp_store.specs.Known.{Contents}
use Rattle.tp_store.specs.declared.add.AddRefusal.{AddRefusal}
use Rattle.tp_store.specs.declared.add.AddRefusal.TheVariants as refusal
use Rattle.tp_scene.specs.declared.answer.Clash.TheVariants.{Facts}
use Rattle.tp_scene.specs.Scene as S
use Rattle.tp_scene.specs.Step.{Reduction, reduces, waits, rests, clashes, misses, passes}
use Rattle.tp_scene.specs.Pick.{Setting, Moment, Reduces, outcome_of}
use Rattle.tp_scene.specs.Rest as rest
use Rattle.tp_slots.specs.declared.scene.Scene.{Scene}
use Rattle.tp_slots.specs.Edit.{stands_in}
use Rattle.tp_slots.specs.News.{new_items}
use Rattle.tp_slots.specs.Read.{scene_of}
use Rattle.tp_step.specs.declared.answer.Settled.{Settled}
use Rattle.tp_step.specs.declared.answer.Settled.TheVariants as settled
use Rattle.tp_step.specs.declared.answer.News.{News}
use Rattle.tp_step.specs.declared.answer.Tried.{Tried}
use Rattle.tp_step.specs.declared.answer.Tried.TheVariants as tried

abbrev pub settled_of : Settled → rest.Settled
settled_of (settled.Waiting t) = rest.waiting t
settled_of settled.EndOpen = rest.end_open
settled_of settled.Ends = rest.ends
settled_of settled.Goes = rest.goes

-- The news of a reduction of the item t: the items that are live after it and weren't before, its
-- facts, and the region that it marked.
pub record AreNews (s : S.Scene) (t : ℕ) (r : Reduction) (next : S.Scene)
    (news : News) : Type 0 where
  pub items : news.items ≡ new_items s next
  pub facts : news.facts ≡ r.facts
  pub marked : news.marked ≡ option_map (λ z. stands_in t s.root.head.number s.root.entries) r.mark

-- what a try of the live item t answers at a moment, where so many reductions are left, and the
-- moment that it leaves
abbrev pub Tries : Setting → (room : ℕ) → Moment → (t : ℕ) → Moment → Tried → Type 0
Tries w room m t next (tried.Reduced news) =
    (r : Reduction) × (0 < room) × Reduces w m t r next × AreNews m.scene t r next.scene news
Tries w room m t next (tried.Waits first other) =
    (next ≡ m) × (outcome_of w m.store m.scene t ≡ waits first other)
Tries w room m t next tried.Rests = (next ≡ m) × (outcome_of w m.store m.scene t ≡ rests)
Tries w room m t next (tried.Clash c) = (next ≡ m) × (outcome_of w m.store m.scene t ≡ clashes c)
Tries w room m t next (tried.Missing port) =
    (next ≡ m) × (outcome_of w m.store m.scene t ≡ misses port)
Tries w room m t next (tried.Over k) =
    (next ≡ m) × ((outcome_of w m.store m.scene t ≡ passes k) ⊎ IsFull)
  where
    IsFull : Type 0
    IsFull =
        (r : Reduction) × (k ≡ Reductions) × (room ≡ 0)
        × (outcome_of w m.store m.scene t ≡ reduces r)

abbrev pub moment_of : Scene → Contents → Moment
moment_of s k = record { scene = scene_of s; store = k }

-- the clash that a store's refusal names; want of memory is none
abbrev pub IsClash : AddRefusal → Tried → Type 0
IsClash (refusal.Clash kept new) t = t ≡ tried.Clash (Facts kept new)
IsClash refusal.NoMemory t = ⊥
