use Rattle.std.proofs.Common.{◌≡◌, ◌++◌, ◌∷◌, [], ap, ap₂, sym, ◌∙◌, arith, List, Some, slice_get}
use Rattle.std.specs.Option.{option_copied}
use Rattle.tp_value.specs.Globals.{is_lower}
use Rattle.tp_store.specs.declared.entry.Entry.{Entry}
use Rattle.tp_store.specs.Known.{Variable}
use Rattle.tp_store.specs.Entries.{variables_in}
use Rattle.tp_store.proofs.Parts.{variables_more}
use Rattle.tp_store.proofs.EntryLemmas.{global_entry, global_more, no_global}
use Rattle.tp_store.proofs.entry.global_entries.Goals as goal
use Rattle.tp_store.proofs.entry.global_entries.Goals.{in-Some+in_ok-name+in_ok-push, in_default}

pub loop-number-preserved : goal.loop-number-preserved
loop-number-preserved c =
    elim c.match-name.branch [
      | in-Some+in_ok-name+in_ok-push w ↦ (
          let name = w.in-Some.name.now in
          let e : Entry = record { name = w.in_ok-name.name; lasting = w.is_lower-lasting.result } in
          let found : slice_get c.args.globals.now c.loop-number.number ≡ Some name = sym c.name.ensures ∙ ap option_copied w.in-Some.is in
          ap variables_in (ap (λ v. v.items) w.entries-is) ∙ variables_more c.loop-number.entries.items _ e w.in_ok-push.ensures.items
          ∙ ap₂ (λ (a : List Variable) (b : Variable). a ++ b ∷ []) c.loop-number.invariant (global_entry name e w.in_ok-name.ensures (w.is_lower-lasting.ensures ∙ ap is_lower w.as_slice.ensures))
          ∙ global_more c.args.globals.now c.loop-number.number name found)
      | in_default w ↦ absurd (no_global c.args.globals.now c.loop-number.number (sym c.name.ensures ∙ ap option_copied w.in_default.is) (omega arith))
    ]
