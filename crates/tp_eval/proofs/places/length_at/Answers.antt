use Rattle.std.proofs.Common.{ℤ, Some, ap, sym, ◌∙◌}
use Rattle.std.proofs.lemmas.Int.{to_z-of_z}
use Rattle.tp_value.specs.Number.{number_width}
use Rattle.tp_value.specs.Read.{tree}
use Rattle.tp_value.specs.Equations.{tree_num}
use Rattle.tp_value.specs.declared.value.Value.TheVariants.{Num}
use Rattle.tp_eval.specs.Reached.{gives}
use Rattle.tp_eval.proofs.Kept.{size_kept}
use Rattle.tp_eval.proofs.places.length_at.Goals as goal

pub returns-in-Some-Items : goal.returns-in-Some-Items
returns-in-Some-Items c =
    let kept = sym c.in-Some-Items.ensures.value ∙ ap Some c.in-Some-Items.field-0-is in
    let count = to_z-of_z number_width c.from.result (record { sfits = c.from.type_inv }) ∙ c.from.ensures in
    size_kept c.args.store.now.facts c.args.path.now _ c.in-Some-Items.ensures.sound.no_clash kept ∙ ap gives (sym (ap (λ (n : ℤ). tree (Num n)) count ∙ tree_num _))

pub returns-in-Some-Num : goal.returns-in-Some-Num
returns-in-Some-Num c = size_kept c.args.store.now.facts c.args.path.now _ c.in-Some-Num.ensures.sound.no_clash (sym c.in-Some-Num.ensures.value ∙ ap Some c.in-Some-Num.field-0-is)

pub returns-in-Some-Truth : goal.returns-in-Some-Truth
returns-in-Some-Truth c = size_kept c.args.store.now.facts c.args.path.now _ c.in-Some-Truth.ensures.sound.no_clash (sym c.in-Some-Truth.ensures.value ∙ ap Some c.in-Some-Truth.field-0-is)
