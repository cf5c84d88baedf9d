use Rattle.std.proofs.Common.{◌≡◌, ℕ, ◌+◌, List, ◌++◌, ap, ◌∙◌, codes, arith}
use Rattle.std.proofs.lemmas.Grind.{common_steps}
use Rattle.std.proofs.lemmas.Result.{on_ok_weaker}
use Rattle.tp_gen.specs.Source.{numbered_name}
use Rattle.tp_gen.proofs.source.append_link.Goals as goal

behind_one_another : (out here words next closing : List ℕ) → ((out ++ here) ++ (words ++ next)) ++ closing ≡ out ++ (((here ++ words) ++ next) ++ closing)
behind_one_another out here words next closing = grind (arith, common_steps)

pub returns : goal.returns
returns c =
    let here = codes " and always(" ++ numbered_name c.args.number in
    let next = numbered_name (c.args.number + 1) in
    on_ok_weaker c.append.result
    (λ e. e ∙ (ap (λ t. t ++ codes "+1)") (c.in_ok-append_name-2.ensures ∙ ap (λ t. t ++ (codes "=" ++ next)) c.in_ok-append_name.ensures) ∙ behind_one_another c.args.out.now here (codes "=") next (codes "+1)")))
    c.append.ensures.ok
