use Rattle.std.proofs.Common.{◌≡◌, ◌++◌, ◌<◌, ◌≤◌, ◌-◌, ◌∙◌, Some, length, ap, sym, rules}
use Rattle.std.proofs.lemmas.List.{append-nil}
use Rattle.tp_residual.specs.Phrases.{bound_spelling}
use Rattle.tp_residual.proofs.BoundNames.{own_within, own_beyond}
use Rattle.tp_residual.proofs.words.append_own.Goals as goal

pub returns-in_ok-append-clause-left : goal.returns-in_ok-append-clause-left
returns-in_ok-append-clause-left c =
    let l : c.args.number < length c.args.names.now = search rules in
    sym (own_within c.args.names.now c.args.number c.index.result.now l (search rules)).1

pub returns-else-number-count-clause-text : goal.returns-else-number-count-clause-text
returns-else-number-count-clause-text c = λ xs.
    let l : length c.args.names.now ≤ c.args.number = search rules in
    let x = own_beyond c.args.names.now c.args.number l in
    sym (append-nil c.args.out.now) ∙ ap (λ o. c.args.out.now ++ bound_spelling xs o) (sym x.0)

pub returns-else-number-count-clause-left : goal.returns-else-number-count-clause-left
returns-else-number-count-clause-left c =
    let n : c.len-count.result ≡ length c.args.names.now = search rules in
    let l : length c.args.names.now ≤ c.args.number = search rules in
    ap (λ m. Some (c.args.number - m)) n ∙ sym (own_beyond c.args.names.now c.args.number l).1
