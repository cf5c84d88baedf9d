-- The leaves that were put are a step, and the mark is raised.
use Rattle.std.proofs.Common.{◌≡◌, ◌<◌, length, ap, sym, ◌∙◌, subst}
use Rattle.std.specs.List.{range_with_len}
use Rattle.std.specs.Option.{option_map}
use Rattle.std.proofs.lemmas.List.{length-map}
use Rattle.tp_scene.specs.Pick.{scene_after}
use Rattle.tp_decide.specs.Decided.{mark_of, plain_leaf}
use Rattle.tp_decide.specs.NewLeaves.{leaf_list}
use Rattle.tp_decide.specs.declared.decision.Leaf.{Leaf}
use Rattle.tp_slots.specs.Flags.{FlagsFollow, flags_in}
use Rattle.tp_slots.specs.Lives.{lives_in}
use Rattle.tp_slots.specs.News.{bare_leaves, new_items}
use Rattle.tp_slots.specs.Plain as plain
use Rattle.tp_slots.specs.Plain.{scene_in}
use Rattle.tp_slots.specs.Read.{afters_of, flags_of, holders_of, scene_of, slot_of, slots_of}
use Rattle.tp_slots.specs.Reductions.{becomes_leaves}
use Rattle.tp_slots.specs.Threads.{afters_then}
use Rattle.tp_slots.proofs.Changing.{leaves_flags, leaves_home, leaves_live, leaves_looks, leaves_quiet, leaves_scene, leaves_shape, leaves_threads}
use Rattle.tp_slots.proofs.Newly.{leaves_bare, leaves_news}
use Rattle.tp_slots.proofs.leaves.place_leaves.Goals.{After-commit_leaves-home}
use Rattle.tp_slots.proofs.leaves.place_leaves.Goals as goal

pub raise_mark-requires : goal.raise_mark-requires
raise_mark-requires c =
    let s = c.args.scene.now in
    let t = c.args.item in
    let k = c.requires in
    let mark = option_map mark_of c.args.mark in
    let leaves = bare_leaves (leaf_list c.args.leaves) in
    let bare = leaves_bare (leaf_list c.args.leaves) in
    let next = c.commit_leaves-home.new.scene in
    let put = c.commit_leaves-home.ensures in
    let afters = put.afters ∙ ap (λ n. afters_then (afters_of s) 0 n t) (sym (length-map (leaf_list c.args.leaves) (λ (l : Leaf). plain.bare (plain_leaf l)))) in
    record {
      shape = leaves_shape s t mark leaves k.kept k.lives k.free bare next put.slots put.holders put.ends put.goes;
      region = subst (λ h. h < length next.regions.items) (sym put.home) (leaves_home s t mark leaves k.kept k.lives k.free bare next put.slots put.holders put.ends put.goes);
      lives = ap (lives_in (slots_of next) (holders_of next)) put.home ∙ leaves_live s t mark leaves k.kept k.lives k.free bare next put.slots put.holders put.ends put.goes;
      flags = λ z. subst (λ h. FlagsFollow (slots_of next) mark h z (flags_in (flags_of z next))) (sym put.home) (leaves_flags s t mark leaves k.kept k.lives k.free bare next put.slots put.holders put.ends put.goes z);
      quiet = leaves_quiet s t mark leaves k.kept k.lives k.free bare next put.slots put.holders put.ends put.goes;
      threads = leaves_threads s t mark leaves k.kept k.lives k.free bare next put.slots put.holders put.ends put.goes afters;
      looks = leaves_looks s t mark leaves k.kept k.lives k.free bare next put.slots put.holders put.ends put.goes put.looks;
    }

scene_put : (c : After-commit_leaves-home) → scene_of c.commit_leaves-home.new.scene ≡ scene_after c.args.item (becomes_leaves (scene_of c.args.scene.now) (bare_leaves (leaf_list c.args.leaves)) (option_map mark_of c.args.mark)) (scene_of c.args.scene.now)
scene_put c =
    let put = c.commit_leaves-home.ensures in
    leaves_scene c.args.scene.now c.args.item (option_map mark_of c.args.mark) (bare_leaves (leaf_list c.args.leaves)) c.requires.kept c.requires.lives c.requires.free (leaves_bare (leaf_list c.args.leaves)) c.commit_leaves-home.new.scene put.slots put.holders put.ends put.goes

pub returns : goal.returns
returns c =
    let s = c.args.scene.now in
    let mark = option_map mark_of c.args.mark in
    let leaves = bare_leaves (leaf_list c.args.leaves) in
    let scene : scene_of c.raise_mark.new.scene ≡ scene_after c.args.item (becomes_leaves (scene_of s) leaves mark) (scene_of s) = ap scene_in c.raise_mark.ensures.slots ∙ scene_put (goal.at.returns c).After-commit_leaves-home in
    let first = length-map s.slots.items slot_of in
    let count = length-map (leaf_list c.args.leaves) (λ (l : Leaf). plain.bare (plain_leaf l)) in
    record {
      kept = c.raise_mark.ensures.kept;
      scene = scene;
      news = ap (new_items (scene_of s)) scene ∙ leaves_news s c.args.item c.requires.kept c.requires.lives leaves mark ∙ (λ i. range_with_len (first i) (count i));
    }
