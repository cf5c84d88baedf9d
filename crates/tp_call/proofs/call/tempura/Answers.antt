use Rattle.tp_call.proofs.ClauseLemmas.{finished, contradictory, undetermined, state_limit, reduction_limit, number_limit, list_limit, call_limit, nest_limit, input_missing, finished_text, open_text, done, words_refused_only, too_long_only, source_refused_only, inputs_refused_only, other_refused_only, trace_too_long_only}
use Rattle.tp_call.proofs.AnsweredLemmas.{program_ends, source_prints, inputs_convert, words_refused, too_long, source_refused, inputs_refused, trace_is_checked, other_refused, trace_too_long}
use Rattle.tp_call.proofs.EveryOrderLemmas.{comes_to_each_end}
use Rattle.tp_call.proofs.TraceLemmas.{trace_says}
use Rattle.tp_call.proofs.TracedTextLemmas.{finished_traced, open_traced}
use Rattle.tp_call.proofs.LastLineLemmas.{last_line_says}
use Rattle.tp_call.proofs.EachRunLemmas.{prints_each_run, beginnings_come_to_end}
use Rattle.tp_call.proofs.DrillClauses.{either_way, not_run, not_checked, accepted_words, no_file, no_finish, no_words_refused, no_too_long, no_inputs_refused, no_other_refused, no_trace_too_long, drill_comes}
use Rattle.tp_call.proofs.call.tempura.Goals as goal

pub returns-clause-finished : goal.returns-clause-finished
returns-clause-finished g c =
    either_way c.args.words.now _ (λ none. finished _ _ _ _ _ (c.call.ensures.answer none))
    (λ size asks n is. absurd (no_finish _ _ _ _ _ _ c.call.ensures.drill size asks n is))

pub returns-clause-contradictory : goal.returns-clause-contradictory
returns-clause-contradictory g c = λ none. contradictory _ _ _ _ _ (c.call.ensures.answer none)

pub returns-clause-undetermined : goal.returns-clause-undetermined
returns-clause-undetermined g c = λ none. undetermined _ _ _ _ _ (c.call.ensures.answer none)

pub returns-clause-state_limit : goal.returns-clause-state_limit
returns-clause-state_limit g c = λ none. state_limit _ _ _ _ _ (c.call.ensures.answer none)

pub returns-clause-reduction_limit : goal.returns-clause-reduction_limit
returns-clause-reduction_limit g c = λ none. reduction_limit _ _ _ _ _ (c.call.ensures.answer none)

pub returns-clause-number_limit : goal.returns-clause-number_limit
returns-clause-number_limit g c = λ none. number_limit _ _ _ _ _ (c.call.ensures.answer none)

pub returns-clause-list_limit : goal.returns-clause-list_limit
returns-clause-list_limit g c = λ none. list_limit _ _ _ _ _ (c.call.ensures.answer none)

pub returns-clause-call_limit : goal.returns-clause-call_limit
returns-clause-call_limit g c = λ none. call_limit _ _ _ _ _ (c.call.ensures.answer none)

pub returns-clause-nest_limit : goal.returns-clause-nest_limit
returns-clause-nest_limit g c = λ none. nest_limit _ _ _ _ _ (c.call.ensures.answer none)

pub returns-clause-input_missing : goal.returns-clause-input_missing
returns-clause-input_missing g c = λ none. input_missing _ _ _ _ _ (c.call.ensures.answer none)

pub returns-clause-program_runs : goal.returns-clause-program_runs
returns-clause-program_runs g c =
    either_way c.args.words.now _ (λ none. program_ends _ _ _ _ _ (c.call.ensures.answer none))
    (λ size asks files told plan asked. absurd (not_run _ size asks asked.wanted asked.accepted asked.mode))

pub returns-clause-every_order : goal.returns-clause-every_order
returns-clause-every_order g c =
    either_way c.args.words.now _ (λ none. comes_to_each_end _ _ _ _ _ (c.call.ensures.answer none))
    (λ size asks files told plan asked. absurd (not_run _ size asks asked.wanted asked.accepted asked.mode))

pub returns-clause-every_text : goal.returns-clause-every_text
returns-clause-every_text g c =
    either_way c.args.words.now _ (λ none. prints_each_run _ _ _ _ _ (c.call.ensures.answer none))
    (λ size asks files told plan asked. absurd (not_run _ size asks asked.wanted asked.accepted asked.mode))

pub returns-clause-no_dead_end : goal.returns-clause-no_dead_end
returns-clause-no_dead_end g c =
    either_way c.args.words.now _ (λ none. beginnings_come_to_end _ _ _ _ _ (c.call.ensures.answer none))
    (λ size asks files told plan asked. absurd (not_run _ size asks asked.wanted asked.accepted asked.mode))

pub returns-clause-named_in_order : goal.returns-clause-named_in_order
returns-clause-named_in_order g c = c.call.ensures.named_in_order

pub returns-clause-finished_text : goal.returns-clause-finished_text
returns-clause-finished_text g c =
    either_way c.args.words.now _ (λ none. finished_text _ _ _ _ _ (c.call.ensures.answer none))
    (λ size asks n is. absurd (no_finish _ _ _ _ _ _ c.call.ensures.drill size asks n is))

pub returns-clause-open_text : goal.returns-clause-open_text
returns-clause-open_text g c = λ none. open_text _ _ _ _ _ (c.call.ensures.answer none)

pub returns-clause-trace : goal.returns-clause-trace
returns-clause-trace g c = λ none. trace_says _ _ _ _ _ (c.call.ensures.answer none)

pub returns-clause-finished_traced : goal.returns-clause-finished_traced
returns-clause-finished_traced g c =
    either_way c.args.words.now _ (λ none. finished_traced _ _ _ _ _ (c.call.ensures.answer none))
    (λ size asks files told n is. absurd (no_finish _ _ _ _ _ _ c.call.ensures.drill size asks n is))

pub returns-clause-open_traced : goal.returns-clause-open_traced
returns-clause-open_traced g c = λ none. open_traced _ _ _ _ _ (c.call.ensures.answer none)

pub returns-clause-last_line : goal.returns-clause-last_line
returns-clause-last_line g c =
    either_way c.args.words.now _ (λ none. last_line_says _ _ _ _ _ (c.call.ensures.answer none))
    (λ size asks files told run. absurd (not_run _ size asks asks.wanted asks.accepted (run asks.wanted asks.accepted)))

pub returns-clause-words_refused : goal.returns-clause-words_refused
returns-clause-words_refused g c =
    either_way c.args.words.now _ (λ none. record { only = words_refused_only _ _ _ _ _ (c.call.ensures.answer none); there = words_refused _ _ _ _ _ (c.call.ensures.answer none) })
    (λ size asks. record { only = λ is. absurd (no_words_refused _ _ _ _ _ _ c.call.ensures.drill size asks is); there = λ none. absurd (accepted_words _ size asks none) })

pub returns-clause-too_long : goal.returns-clause-too_long
returns-clause-too_long g c =
    either_way c.args.words.now _ (λ none. record { only = too_long_only _ _ _ _ _ (c.call.ensures.answer none); there = too_long _ _ _ _ _ (c.call.ensures.answer none) })
    (λ size asks. record { only = λ which is. absurd (no_too_long _ _ _ _ _ _ c.call.ensures.drill size asks which is); there = λ which r. absurd (no_file _ size asks _ _ _ r) })

pub returns-clause-source_refused : goal.returns-clause-source_refused
returns-clause-source_refused g c = λ none. record {
  only = λ refused. source_refused_only _ _ _ _ _ (c.call.ensures.answer none) refused.line refused.column refused.kind;
  there = source_refused _ _ _ _ _ (c.call.ensures.answer none);
}

pub returns-clause-inputs_refused : goal.returns-clause-inputs_refused
returns-clause-inputs_refused g c =
    either_way c.args.words.now _ (λ none. record { only = inputs_refused_only _ _ _ _ _ (c.call.ensures.answer none); there = inputs_refused _ _ _ _ _ (c.call.ensures.answer none) })
    (λ size asks. record { only = λ line is. absurd (no_inputs_refused _ _ _ _ _ _ c.call.ensures.drill size asks line is); there = λ line r. absurd (no_file _ size asks _ _ _ r) })

pub returns-clause-done : goal.returns-clause-done
returns-clause-done g c = λ none. done _ _ _ _ _ (c.call.ensures.answer none)

pub returns-clause-prints : goal.returns-clause-prints
returns-clause-prints g c =
    either_way c.args.words.now _ (λ none. source_prints _ _ _ _ _ (c.call.ensures.answer none))
    (λ size asks tree r. absurd (no_file _ size asks _ _ _ r))

pub returns-clause-converts : goal.returns-clause-converts
returns-clause-converts g c =
    either_way c.args.words.now _ (λ none. inputs_convert _ _ _ _ _ (c.call.ensures.answer none))
    (λ size asks table r. absurd (no_file _ size asks _ _ _ r))

pub returns-clause-checks : goal.returns-clause-checks
returns-clause-checks g c =
    either_way c.args.words.now _ (λ none. trace_is_checked _ _ _ _ _ (c.call.ensures.answer none))
    (λ size asks files told wide trace asked. absurd (not_checked _ size asks asked.wanted asked.accepted asked.mode))

pub returns-clause-other_refused : goal.returns-clause-other_refused
returns-clause-other_refused g c =
    either_way c.args.words.now _ (λ none. record { only = other_refused_only _ _ _ _ _ (c.call.ensures.answer none); there = other_refused _ _ _ _ _ (c.call.ensures.answer none) })
    (λ size asks. record { only = λ line is. absurd (no_other_refused _ _ _ _ _ _ c.call.ensures.drill size asks line is); there = λ line r. absurd (no_file _ size asks _ _ _ r) })

pub returns-clause-trace_too_long : goal.returns-clause-trace_too_long
returns-clause-trace_too_long g c =
    either_way c.args.words.now _ (λ none. record { only = trace_too_long_only _ _ _ _ _ (c.call.ensures.answer none); there = trace_too_long _ _ _ _ _ (c.call.ensures.answer none) })
    (λ size asks. record { only = λ states is. absurd (no_trace_too_long _ _ _ _ _ _ c.call.ensures.drill size asks states is); there = λ states r. absurd (no_file _ size asks _ _ _ r) })

pub returns-clause-drill_comes_to_end : goal.returns-clause-drill_comes_to_end
returns-clause-drill_comes_to_end g c = drill_comes _ _ _ _ _ _ c.call.ensures.drill

pub returns-clause-work : goal.returns-clause-work
returns-clause-work g c = c.call.ensures.work
