-- The item becomes one with one binding more, or its formula is put back.
use Rattle.std.proofs.Common.{◌≡◌, [], ◌∷◌, length, None, ap, sym, ◌∙◌, subst, rules}
use Rattle.std.specs.Prelude.{slice_set}
use Rattle.std.proofs.lemmas.List.{length-map}
use Rattle.tp_scene.specs.Scene as S
use Rattle.tp_scene.specs.Pick.{scene_after}
use Rattle.tp_decide.specs.declared.decision.Leaf.TheVariants.{Do}
use Rattle.tp_decide.specs.declared.bound_formula.BoundFormula.{BoundFormula}
use Rattle.tp_decide.specs.ReadBound.{env_of, formula_of}
use Rattle.tp_slots.specs.Bound.{IsDueUnder, bound_last, slot_in, slot_with}
use Rattle.tp_slots.specs.Plain.{bare}
use Rattle.tp_slots.specs.Read.{item_what, scene_of, slot_of}
use Rattle.tp_slots.specs.declared.scene.What.TheVariants.{Leaf}
use Rattle.tp_slots.specs.Reductions.{becomes_leaves}
use Rattle.tp_slots.proofs.Bounding.{back_unchanged, due_is_bare, env_there, more_kept, more_news, more_scene, out_before, same_what}
use Rattle.tp_slots.proofs.Changing.{unchanged_kept}
use Rattle.tp_slots.proofs.bound.become_bound.Goals as goal

pub returns-in_err-make_room-clause-kept : goal.returns-in_err-make_room-clause-kept
returns-in_err-make_room-clause-kept c = unchanged_kept c.args.scene.now c.make_room.new.scene c.requires.kept c.make_room.ensures.same c.make_room.ensures.looks

pub take_due-taken-requires-clause-due : goal.take_due-taken-requires-clause-due
take_due-taken-requires-clause-due c = (
  env_of c.args.local.2,
  subst (IsDueUnder (env_of c.args.local.2)) (sym (same_what c.args.scene.now c.make_room.new.scene c.args.item c.make_room.ensures.same)) c.requires.due,
)

pub returns-in-Ok : goal.returns-in-Ok
returns-in-Ok c =
    let s = c.args.scene.now in
    let t = c.args.item in
    let k = c.requires in
    let body = c.args.local.2 in
    let taken = c.take_due-taken.result in
    let mid = c.take_due-taken.new.scene.slots.items in
    let next = c.push_due.new.scene in
    let out = out_before s c.make_room.new.scene t c.len-next.result taken mid c.make_room.ensures.same c.take_due-taken.ensures.taken in
    let free = due_is_bare (env_of body) (item_what s t) k.due in
    let bound : BoundFormula = record { what = body.what; env = c.bind_local.new.env } in
    let number : c.len-next.result ≡ length s.slots.items = search rules in
    let regions : next.regions.items ≡ s.regions.items = ap (λ v. v.items) (c.push_due.ensures.regions ∙ c.take_due-taken.ensures.regions) ∙ c.make_room.ensures.same.regions in
    let there : env_of body ≡ env_of taken = env_there s t c.len-next.result taken mid k.kept k.lives out (env_of body) k.due in
    let last : S.Bindings → S.Bindings = λ e. bound_last e (length c.args.store.now.variables) c.args.local.1 in
    let env : env_of bound ≡ last (env_of body) = c.in-Ok.ensures.env ∙ ap last (sym there) in
    record {
      kept = more_kept s t c.len-next.result taken mid k.kept k.lives out free number bound next c.push_due.ensures.slots regions (c.push_due.ensures.looks ∙ c.take_due-taken.ensures.looks ∙ c.make_room.ensures.looks);
      scene = more_scene s t c.len-next.result taken mid k.kept k.lives out free number bound next c.push_due.ensures.slots regions
          ∙ ap (λ (e : S.Bindings). scene_after t (becomes_leaves (scene_of s) (bare (S.Do (formula_of body) e) ∷ []) None) (scene_of s)) env;
      news = c.in_ok-fresh.ensures ∙ ap (λ n. n ∷ []) (number ∙ sym (length-map s.slots.items slot_of))
          ∙ sym (more_news s t c.len-next.result taken mid k.kept k.lives out free number bound next c.push_due.ensures.slots regions);
      local = c.in-Ok.ensures.local;
      scene_err = tt;
      store_err = tt;
    }

pub returns-clause-scene_err : goal.returns-clause-scene_err
returns-clause-scene_err c =
    let s = c.args.scene.now in
    let t = c.args.item in
    let taken = c.take_due-taken.result in
    let mid = c.take_due-taken.new.scene.slots.items in
    let out = out_before s c.make_room.new.scene t c.len-next.result taken mid c.make_room.ensures.same c.take_due-taken.ensures.taken in
    back_unchanged s c.put_back.new.scene t c.len-next.result taken mid c.requires.kept c.requires.lives out
    (c.put_back.ensures.slots ∙ ap (λ e. slice_set mid t (slot_with (slot_in mid t) (Leaf (Do (record { what = taken.what; env = e }))))) c.in-Err.ensures.env_err)
    (ap (λ v. v.items) (c.put_back.ensures.regions ∙ c.take_due-taken.ensures.regions) ∙ c.make_room.ensures.same.regions)

pub returns-clause-kept : goal.returns-clause-kept
returns-clause-kept c =
    unchanged_kept c.args.scene.now c.put_back.new.scene c.requires.kept (returns-clause-scene_err c) (c.put_back.ensures.looks ∙ c.take_due-taken.ensures.looks ∙ c.make_room.ensures.looks)
