use Rattle.std.proofs.Common.{refl, sym, ap, ◌∙◌}
use Rattle.std.specs.Prelude.{string_bytes}
use Rattle.std.specs.Option.{option_map}
use Rattle.std.proofs.lemmas.Result.{err_from_is_err_and, MatchResult-weaker}
use Rattle.tp_verdict.specs.Code.{verdict_of}
use Rattle.tp_words.specs.Command.{wanted_by}
use Rattle.tp_words.specs.declared.mode.Mode.TheVariants.{Check}
use Rattle.tp_monitor.specs.Seen.{wide_seen}
use Rattle.tp_call.specs.declared.status.Which.TheVariants.{Source}
use Rattle.tp_call.specs.declared.status.Status.TheVariants.{ReadFault}
use Rattle.tp_call.proofs.AskedLemmas.{wide_serves, first_asked, other_asked, same_error}
use Rattle.tp_call.proofs.SourceLemmas.{no_source, lent_name}
use Rattle.tp_call.proofs.CheckingLemmas.{no_verdict, is_judged, no_name_missing}
use Rattle.tp_call.proofs.checking.verdict_for.Goals as goal

pub returns-in_default-clause-refused : goal.returns-in_default-clause-refused
returns-in_default-clause-refused g c =
    let lent = lent_name (λ t. t.now) string_bytes c.as_deref.result c.args.command.now.other c.as_deref.ensures.cases in
    λ words is. absurd (no_name_missing words (wanted_by c.args.command.now) is c.requires (sym lent ∙ ap (option_map (λ t. t.now)) c.in_default.is))

pub returns-in_default-clause-asked : goal.returns-in_default-clause-asked
returns-in_default-clause-asked g c =
    let lent = lent_name (λ t. t.now) string_bytes c.as_deref.result c.args.command.now.other c.as_deref.ensures.cases in
    λ words is. absurd (no_name_missing words (wanted_by c.args.command.now) is c.requires (sym lent ∙ ap (option_map (λ t. t.now)) c.in_default.is))

pub returns-in_err-wide-clause-refused : goal.returns-in_err-wide-clause-refused
returns-in_err-wide-clause-refused g c =
    let p = err_from_is_err_and c.from_residual.result c.from_residual.ensures.1 in
    rw (p.1, p.2) (λ words is. no_source _ _ (wanted_by c.args.command.now) is Check _ _ c.requires refl (rw c.as_str.ensures.value at c.in_err-wide.ensures.refused))

pub returns-in_err-wide-clause-asked : goal.returns-in_err-wide-clause-asked
returns-in_err-wide-clause-asked g c =
    let p = err_from_is_err_and c.from_residual.result c.from_residual.ensures.1 in
    rw (p.1, p.2) (λ words is. first_asked _ _ (wanted_by c.args.command.now) is Check Source _ _ c.requires refl _ _ _ _ (rw c.as_str.ensures.value at c.in_err-wide.ensures.asked)
    (λ which e. same_error _ _ _ (ReadFault which) refl refl e) (λ which e. (c.in_err-wide.ensures.read_fault which e).0))

pub returns-clause-judged : goal.returns-clause-judged
returns-clause-judged g c =
    let lent = lent_name (λ t. t.now) string_bytes c.as_deref.result c.args.command.now.other c.as_deref.ensures.cases in
    let named = sym lent ∙ ap (option_map (λ t. t.now)) c.in-Some.is in
    MatchResult-weaker c.judge.result c.judge.ensures.verdict
    (λ v by. λ words is. is_judged _ _ (wanted_by c.args.command.now) is c.requires _ named _ (rw c.as_str.ensures.value at c.in_ok-wide.ensures.wide) _ c.in_ok-wide.ensures.held (verdict_of v) c.in_ok-wide.ensures.fits by) (λ status any. any)

pub returns-clause-refused : goal.returns-clause-refused
returns-clause-refused g c =
    let lent = lent_name (λ t. t.now) string_bytes c.as_deref.result c.args.command.now.other c.as_deref.ensures.cases in
    let named = sym lent ∙ ap (option_map (λ t. t.now)) c.in-Some.is in
    MatchResult-weaker c.judge.result c.judge.ensures.refused (λ v any. any)
    (λ status end. λ words is. no_verdict _ _ (wanted_by c.args.command.now) is c.requires _ named (wide_seen c.in_ok-wide.wide) (rw c.as_str.ensures.value at c.in_ok-wide.ensures.wide) _ c.in_ok-wide.ensures.held status end)

pub returns-clause-asked : goal.returns-clause-asked
returns-clause-asked g c = λ words is.
    let lent = lent_name (λ t. t.now) string_bytes c.as_deref.result c.args.command.now.other c.as_deref.ensures.cases in
    let named = sym lent ∙ ap (option_map (λ t. t.now)) c.in-Some.is in
    other_asked _ _ (wanted_by c.args.command.now) is c.requires (wide_serves _ _ c.requires (wide_seen c.in_ok-wide.wide) _ (rw c.as_str.ensures.value at c.in_ok-wide.ensures.wide)) _ _ _ _ named _ _ refl (rw c.as_str.ensures.value at c.in_ok-wide.ensures.asked) c.judge.result c.judge.ensures.asked _
    (λ which e. e) (λ which e. (c.judge.ensures.read_fault which e).0)
