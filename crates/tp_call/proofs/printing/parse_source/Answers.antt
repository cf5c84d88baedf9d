use Rattle.std.proofs.Common.{sym, ◌∙◌}
use Rattle.tp_words.specs.declared.mode.Mode.TheVariants.{Print}
use Rattle.tp_call.proofs.SourceLemmas.{read_refused, no_tokens, no_tree}
use Rattle.tp_call.proofs.printing.parse_source.Goals as goal

pub returns-in-Err-clause-refused : goal.returns-in-Err-clause-refused
returns-in-Err-clause-refused c =
    read_refused Print c.args.source.now _ c.by_lexer.result c.refusal_status.ensures
    (λ r is. no_tokens c.args.source.now c.in-Err.refusal c.in-Err.ensures.refused r (sym c.by_lexer.ensures ∙ is))

pub returns-clause-refused : goal.returns-clause-refused
returns-clause-refused c =
    read_refused Print c.args.source.now _ c.by_parser.result c.refusal_status-in-Err-parse.ensures
    (λ r is. no_tree c.args.source.now _ c.in-Err-parse.refusal c.in-Ok.ensures.tokens c.in-Err-parse.ensures.place (c.in-Err-parse.ensures.text c.args.source.now c.in-Ok.ensures.tokens) r (sym c.by_parser.ensures ∙ is))

pub returns-in-Ok-parse-clause-text : goal.returns-in-Ok-parse-clause-text
returns-in-Ok-parse-clause-text c = record { tokens = _; are_tokens = c.in-Ok.ensures.tokens; accepted = c.in-Ok-parse.ensures.accepted }
