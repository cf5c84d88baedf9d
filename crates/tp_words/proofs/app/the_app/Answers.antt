use Rattle.std.proofs.Common.{ap, ap₂, ◌∙◌, true}
use Rattle.clap.specs.Words.{with_rule}
use Rattle.clap.specs.Simple.{on_top, app_of_fields}
use Rattle.tp_words.proofs.app.the_app.Goals as goal

pub returns : goal.returns
returns c =
    let bare = ap app_of_fields c.disable_version_flag.ensures
    ∙ ap (on_top (λ s. record s { disable_version_flag = true })) (ap app_of_fields c.disable_help_flag.ensures
    ∙ ap (on_top (λ s. record s { disable_help_flag = true })) (ap app_of_fields c.no_binary_name.ensures
    ∙ ap (on_top (λ s. record s { no_binary_name = true })) c.new.ensures.app)) in
    c.in_ok-app.ensures.shape c.plain_flag.ensures.own
    ∙ ap₂ with_rule (c.in_ok-arg-7.ensures.shape c.valued_option-5.ensures.own
    ∙ ap₂ with_rule (c.in_ok-arg-6.ensures.shape c.valued_option-4.ensures.own
    ∙ ap₂ with_rule (c.in_ok-arg-5.ensures.shape c.valued_option-3.ensures.own
    ∙ ap₂ with_rule (c.in_ok-arg-4.ensures.shape c.valued_option-2.ensures.own
    ∙ ap₂ with_rule (c.in_ok-arg-3.ensures.shape c.valued_option.ensures.own
    ∙ ap₂ with_rule (c.in_ok-arg-2.ensures.shape c.required_word-2.ensures.own
    ∙ ap₂ with_rule (c.in_ok-arg.ensures.shape c.required_word.ensures.own
    ∙ ap₂ with_rule bare c.required_word.ensures.rule) c.required_word-2.ensures.rule)
    c.valued_option.ensures.rule) c.valued_option-2.ensures.rule) c.valued_option-3.ensures.rule)
    c.valued_option-4.ensures.rule) c.valued_option-5.ensures.rule) c.plain_flag.ensures.rule
