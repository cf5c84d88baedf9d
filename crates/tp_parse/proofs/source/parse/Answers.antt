use Rattle.std.proofs.Common.{◌≡◌, ◌≢◌, ◌≤◌, Result, Ok, Err, length, IfOk, IfErr}
use Rattle.tp_tree.specs.declared.phrase.Source.{Source}
use Rattle.tp_tree.specs.Tree.{SourceTree}
use Rattle.tp_tree.specs.Read.{source_tree}
use Rattle.tp_parse.specs.declared.refusal.ParseRefusal.{ParseRefusal}
use Rattle.tp_parse.specs.declared.refusal.ParseRefusal.TheVariants.{Unexpected, Unfinished, TooDeep, NoMemory}
use Rattle.tp_parse.specs.Marks.{Tokens}
use Rattle.tp_parse.specs.Source.{parse_outcome, IsOutcome, NamesToken}
use Rattle.tp_parse.specs.Grammar.{Accepts}
use Rattle.tp_parse.specs.Place.{BlamesFirst}
use Rattle.tp_parse.specs.PlaceLaws.{BlamesFirstInEachText}
use Rattle.tp_parse.proofs.Exact.{read_accepted, accepted_read, refusal_named}
use Rattle.tp_tree.specs.Height.{source_height}
use Rattle.tp_parse.proofs.FirstToken.{refusal_is_place}
use Rattle.tp_parse.proofs.Heights.{accepted_low}
use Rattle.tp_parse.proofs.TextBack.{printed_parsed}
use Rattle.tp_parse.proofs.TextPlace.{place_in_text}
use Rattle.tp_parse.proofs.source.parse.Goals as goal

accepted : (ts : Tokens) (r : Result Source ParseRefusal) → IsOutcome (parse_outcome ts) r → IfOk r (λ s. Accepts ts (source_tree s))
accepted ts (Ok x) is = read_accepted ts (source_tree x) is
accepted ts (Err e) is = tt

only : (ts : Tokens) (r : Result Source ParseRefusal) → IsOutcome (parse_outcome ts) r → IfOk r (λ s. (t : SourceTree) → Accepts ts t → t ≡ source_tree s)
only ts (Ok x) is = λ t a. let read = accepted_read ts t a in cc
only ts (Err e) is = tt

refused : (ts : Tokens) (r : Result Source ParseRefusal) → IsOutcome (parse_outcome ts) r → IfErr r (λ e. e ≢ NoMemory → (t : SourceTree) → ¬ Accepts ts t)
refused ts (Ok x) is = tt
refused ts (Err e) is = λ some t a. let refused_by = is some in let read = accepted_read ts t a in cc

token : (ts : Tokens) (r : Result Source ParseRefusal) → IsOutcome (parse_outcome ts) r → IfErr r (NamesToken (length ts))
token ts (Ok x) is = tt
token ts (Err NoMemory) is = tt
token ts (Err Unfinished) is = tt
token ts (Err (Unexpected i)) is = refusal_named ts (Unexpected i) (is (λ q. cc))
token ts (Err (TooDeep i)) is = refusal_named ts (TooDeep i) (is (λ q. cc))

place : (ts : Tokens) (r : Result Source ParseRefusal) → IsOutcome (parse_outcome ts) r → IfErr r (BlamesFirst ts)
place ts (Ok x) is = tt
place ts (Err NoMemory) is = tt
place ts (Err Unfinished) is = refusal_is_place ts Unfinished (is (λ q. cc))
place ts (Err (Unexpected i)) is = refusal_is_place ts (Unexpected i) (is (λ q. cc))
place ts (Err (TooDeep i)) is = refusal_is_place ts (TooDeep i) (is (λ q. cc))

text : (ts : Tokens) (r : Result Source ParseRefusal) → IsOutcome (parse_outcome ts) r → IfErr r (BlamesFirstInEachText ts)
text ts (Ok x) is = tt
text ts (Err e) is = λ bytes are. place_in_text bytes ts e are (place ts (Err e) is)

low : (ts : Tokens) (r : Result Source ParseRefusal) → IsOutcome (parse_outcome ts) r → IfOk r (λ s. source_height (source_tree s) ≤ 200)
low ts (Ok x) is = accepted_low ts (source_tree x) (read_accepted ts (source_tree x) is)
low ts (Err e) is = tt

pub returns : goal.returns
returns c =
    let ts = c.args.tokens.now in
    let r = c.outcome.result in
    let is = c.outcome.ensures in
    record { accepted = accepted ts r is; only = only ts r is; refused = refused ts r is; outcome = is; token = token ts r is; place = place ts r is; text = text ts r is; low = low ts r is; printed = printed_parsed ts r is }
