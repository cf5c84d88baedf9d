-- What carrying a decision out answers.
use Rattle.std.proofs.Common.{◌≡◌, ℕ, suc, ◌+◌, ◌<◌, List, [], ◌∷◌, arith, refl, ap, ap₂, sym, ◌∙◌, subst, inr, Option, Some, None}
use Rattle.std.proofs.lemmas.List.{append-nil}
use Rattle.std.specs.Prelude.{Result, Ok, Err, IfOk, IfErr, OnOk}
use Rattle.std.specs.Option.{option_map}
use Rattle.tp_value.specs.declared.path.Fact.{Fact}
use Rattle.tp_value.specs.declared.refusal.NoMemory.{NoMemory}
use Rattle.tp_kernel.specs.declared.fault.LimitKind.TheVariants.{Reductions}
use Rattle.tp_store.specs.Facts.{kept_shape}
use Rattle.tp_store.specs.Known.{Contents, NoClash, Addition, adds, refuses}
use Rattle.tp_store.specs.Answers.{IsRefusal, Adds}
use Rattle.tp_store.specs.declared.add.AddRefusal.{AddRefusal}
use Rattle.tp_store.specs.declared.add.AddRefusal.TheVariants as refusal
use Rattle.tp_scene.specs.Scene as S
use Rattle.tp_scene.specs.Pick.{Moment, scene_after, HasAdded}
use Rattle.tp_scene.specs.Step.{Reduction, PickOutcome, added, reduces}
use Rattle.tp_decide.specs.declared.decision.Leaf.{Leaf}
use Rattle.tp_decide.specs.declared.decision.Decision.{Decision}
use Rattle.tp_decide.specs.Decided.{adding_items, decided_outcome, plain_leaf, news_entries}
use Rattle.tp_slots.specs.declared.scene.Scene.{Scene}
use Rattle.tp_slots.specs.Edit.{stands_in}
use Rattle.tp_slots.specs.Kept.{IsWellKept, Lives, numbers_in}
use Rattle.tp_slots.specs.News.{bare_leaves}
use Rattle.tp_slots.specs.Plain.{entries_at}
use Rattle.tp_slots.specs.Read.{item_home, scene_of, slots_of}
use Rattle.tp_slots.specs.Reductions.{leaves_from}
use Rattle.tp_slots.proofs.Showing.{all_shown, has_shown}
use Rattle.tp_step.specs.declared.answer.News.{News}
use Rattle.tp_step.specs.declared.answer.Tried.{Tried}
use Rattle.tp_step.specs.declared.answer.Tried.TheVariants as tried
use Rattle.tp_step.specs.Answers.{AreNews, IsClash, moment_of}
use Rattle.tp_step.specs.Chosen.{AllowsAddition, Carries, CarriesDecision, CarriesFacts}

-- Nothing new is known.
pub nothing_added : (k : Contents) → NoClash k.facts → HasAdded k [] None k
nothing_added k apart = record { kept = λ p. ap (λ fs. kept_shape fs p) (sym (append-nil k.facts)); no_clash = apart; variables = refl }

-- where an item stands
pub home_is : (s : Scene) (t : ℕ) → IsWellKept s → Lives s t → item_home s t ≡ stands_in t 0 (scene_of s).root.entries
home_is s t kept lives =
    let o = kept.shape.ordered in
    sym (has_shown (slots_of s) o t 0 (entries_at (slots_of s) 0) (all_shown (slots_of s) o 0 o.root) lives).1

-- leaves with the next numbers
pub leaves_same : (ls : List Leaf) (base n m : ℕ) → m ≡ n + base → leaves_from m (bare_leaves ls) ≡ news_entries ls (λ i. i + base) n
leaves_same [] base n m e = refl
leaves_same (l ∷ ls) base n m e = ap₂ (λ i rest. S.leaf i (plain_leaf l) rest) e (leaves_same ls base (suc n) (m + 1) (omega (arith, e)))

-- A reduction that was made.
pub carried : (o : PickOutcome) (room : ℕ) (old new : Scene) (k j : Contents) (t : ℕ) (r : Reduction) (news : News) → 0 < room → Lives old t → o ≡ reduces r
    → scene_of new ≡ scene_after t r (scene_of old) → HasAdded k r.facts r.local j → AreNews (scene_of old) t r (scene_of new) news
    → Carries o room (moment_of old k) t (moment_of new j) (tried.Reduced news)
carried o room old new k j t r news more lives is scene store are = λ w e. (r, more, record { lives = lives; outcome = e ∙ is; scene = scene; store = store }, are)

-- It isn't made where none is left.
pub full : (o : PickOutcome) (room : ℕ) (m : Moment) (t : ℕ) (r : Reduction) → room ≡ 0 → o ≡ reduces r → Carries o room m t m (tried.Over Reductions)
full o room m t r none is = λ w e. (refl, inr (r, refl, none, e ∙ is))

-- Both of a decision whose reduction doesn't depend on what is known.
pub full_decision : (d : Decision) (room : ℕ) (s : Scene) (t : ℕ) (r : Reduction) → room ≡ 0 → ((k : Contents) → decided_outcome k.facts (numbers_in k s) d ≡ reduces r) → CarriesDecision d room s s t (tried.Over Reductions)
full_decision d room s t r none is k apart = full (decided_outcome k.facts (numbers_in k s) d) room (moment_of s k) t r none (is k)

pub carried_decision : (d : Decision) (room : ℕ) (old new : Scene) (t : ℕ) (r : Reduction) (news : News) (a : Tried) → a ≡ tried.Reduced news → 0 < room → Lives old t → ((k : Contents) → decided_outcome k.facts (numbers_in k old) d ≡ reduces r)
    → scene_of new ≡ scene_after t r (scene_of old) → ((k : Contents) → NoClash k.facts → HasAdded k r.facts r.local k) → AreNews (scene_of old) t r (scene_of new) news → CarriesDecision d room old new t a
carried_decision d room old new t r news a answer more lives is scene added are =
    subst (λ (x : Tried). CarriesDecision d room old new t x) (sym answer)
    (λ k apart. carried (decided_outcome k.facts (numbers_in k old) d) room old new k k t r news more lives (is k) scene (added k apart) are)

-- the same mark, on the region where the item stands
pub mark_there : {A B : Type 0} {a b : ℕ} (f : A → B) (m : Option A) → a ≡ b → option_map (λ z. a) m ≡ option_map (λ z. b) (option_map f m)
mark_there f None e = refl
mark_there f (Some x) e = ap Some e

-- what the store says of facts, with which items come
adds_reduces : (news : S.Entries) (items : ℕ) (o : Addition) → Adds o → (r : Reduction) × (adding_items news items o ≡ reduces r)
adds_reduces news items (adds facts) h = (_, refl)
adds_reduces news items (refuses kept new) h = absurd h

pub full_addition : (news : S.Entries) (items : ℕ) (o : Addition) (room : ℕ) (m : Moment) (t : ℕ) → room ≡ 0 → Adds o → Carries (adding_items news items o) room m t m (tried.Over Reductions)
full_addition news items o room m t none h = let r = adds_reduces news items o h in full (adding_items news items o) room m t r.0 none r.1

pub refused_addition : (news : S.Entries) (items : ℕ) (o : Addition) (f : AddRefusal) (room : ℕ) (m next : Moment) (t : ℕ) (r : Result Tried NoMemory) → next ≡ m → IsRefusal o f → IfOk r (IsClash f) → IfOk r (Carries (adding_items news items o) room m t next)
refused_addition news items o (refusal.Clash kept new) room m next t (Ok a) e h g = subst (Carries (adding_items news items o) room m t next) (sym g) (λ w i. (e, i ∙ ap (adding_items news items) h))
refused_addition news items o refusal.NoMemory room m next t (Ok a) e h g = absurd g
refused_addition news items o f room m next t (Err x) e h g = tt

-- facts with no item
pub added_alone : (o : Addition) → adding_items S.none 0 o ≡ added o
added_alone (adds facts) = refl
added_alone (refuses kept new) = refl

pub allowed : (o : Addition) (r : Result (Unit {0}) AddRefusal) → OnOk r (Adds o) → IfErr r (IsRefusal o) → AllowsAddition o r
allowed o (Ok u) h g = h
allowed o (Err f) h g = g

pub added_facts : (o : Addition) (facts : List Fact) (room : ℕ) (old new : Scene) (k j : Contents) (t : ℕ) (a : Tried) → 0 < room → o ≡ adds facts → HasAdded k facts None j → CarriesFacts facts old new t a
    → Carries (added o) room (moment_of old k) t (moment_of new j) a
added_facts o facts room old new k j t a more is store carries = subst (λ x. Carries (added x) room (moment_of old k) t (moment_of new j) a) (sym is) (carries room k j more store)
