use Rattle.std.proofs.Common.{◌≡◌, ◌<◌, ap, ap₂, sym, ◌∙◌, length, true, refl, arith, get_or, map, ◌++◌, ◌∷◌, [], ◌&&◌}
use Rattle.std.specs.Str.{is_utf8}
use Rattle.std.proofs.lemmas.Str.{is_utf8-from_IsUtf8}
use Rattle.std.proofs.lemmas.List.Folds.{list_all_at, list_all_more}
use Rattle.std.proofs.lemmas.List.{take_more, map-append}
use Rattle.tp_words.proofs.WordsLemmas.{not_text}
use Rattle.tp_words.proofs.read.texts_of.Goals as goal

pub returns-in-Err-clause-refused : goal.returns-in-Err-clause-refused
returns-in-Err-clause-refused c = λ _.
    let other = not_text c.as_slice.result.now _ refl c.in-Err.ensures.cases.0 in
    let word = c.as_slice.ensures ∙ c.word-item.is in
    list_all_at is_utf8 c.args.words.now c.loop-word.word-index c.word-item.result (omega arith) (ap is_utf8 (sym word) ∙ other)

pub loop-word-preserved : goal.loop-word-preserved
loop-word-preserved c =
    let low : c.loop-word.word-index < length c.args.words.now = omega arith in
    let word = c.as_slice.ensures ∙ c.word-item.is in
    let text = is_utf8-from_IsUtf8 c.as_slice.result.now c.in-Ok.ensures.cases.1 in
    let here : is_utf8 (get_or c.args.words.now c.loop-word.word-index c.word-item.result) ≡ true = ap is_utf8 (sym word) ∙ text in (
      ap (map (λ t. t.now)) c.in_ok-push-in-Ok.ensures.items
          ∙ map-append (λ t. t.now) c.loop-word.texts.items (c.in-Ok.text ∷ [])
          ∙ ap₂ (λ xs x. xs ++ x ∷ []) c.loop-word.invariant.0 (c.in-Ok.ensures.cases.0 ∙ word)
          ∙ sym (take_more c.args.words.now c.loop-word.word-index c.word-item.result low),
      list_all_more is_utf8 c.args.words.now c.loop-word.word-index c.word-item.result low
          ∙ ap₂ (λ a b. a && b) c.loop-word.invariant.1 here,
    )
