-- The token that a refusal names is the first after which no accepted source goes on.
use Rattle.std.proofs.Common.{◌≡◌, ◌≢◌, ℕ, zero, suc, ◌+◌, ◌-◌, ◌<◌, ◌≤◌, [], ◌∷◌, ◌++◌, length, take, drop, Ok, Err, refl, sym, ap, subst, ◌∙◌, arith, append_assoc}
use Rattle.std.proofs.Common.{leb, true, false}
use Rattle.std.proofs.lemmas.Bool.{leb-true, leb-false}
use Rattle.std.proofs.lemmas.List.{append-nil, take-append-drop, length-take-le, take-take, take_at}
use Rattle.tp_tree.specs.Tree.{SourceTree}
use Rattle.tp_parse.specs.declared.stop.Refusal.{Refusal}
use Rattle.tp_parse.specs.declared.stop.Refusal.TheVariants.{Unexpected, Unfinished, TooDeep, NoMemory}
use Rattle.tp_parse.specs.declared.refusal.ParseRefusal.{ParseRefusal}
use Rattle.tp_parse.specs.declared.refusal.ParseRefusal.TheVariants as named_at
use Rattle.tp_parse.specs.Marks.{Tokens, past}
use Rattle.tp_parse.specs.Readers.{ReadOutcome}
use Rattle.tp_parse.specs.Source as s
use Rattle.tp_parse.specs.Grammar as g
use Rattle.tp_parse.specs.Grammar.{Sentence, IsSource, Accepts}
use Rattle.tp_parse.specs.Place.{GoesOn, GoesOnHigher, BlamesFirst}
use Rattle.tp_parse.specs.PlaceLaws.{OnePlace, PrefixesAreUnfinished}
use Rattle.tp_parse.proofs.Within.{Within, refusal_within, source_within}
use Rattle.tp_parse.proofs.OneTree.{definitions_one, sentence_one}
use Rattle.tp_parse.proofs.Extended.{some_due, past_on, definitions_on, sentence_on}
use Rattle.tp_parse.proofs.Exact.{source_sound, source_complete}
use Rattle.tp_parse.proofs.Alike.{Agrees, Alike, beyond, goes, unexpected, deep}
use Rattle.tp_parse.proofs.Rests.{agrees, source_alike, none_goes_on, unexpected_at, too_deep_at, Names}
use Rattle.tp_parse.proofs.Finishes.{Ended}
use Rattle.tp_parse.proofs.FinishesSources.{source_finish}
use Rattle.tp_parse.proofs.Roomier.{Roomier, source_roomier}

-- ---- what goes on

pub accepted_goes_on : (ts : Tokens) (x : SourceTree) → Accepts ts x → GoesOn ts
accepted_goes_on ts x is = ([], x, subst (λ us. Accepts us x) (sym (append-nil ts)) is)

-- tokens that were read to their end begin an accepted source
goes_on_read : (ts : Tokens) (q : SourceTree × Tokens) → s.source ts ≡ Ok q → GoesOn ts
goes_on_read ts q e = accepted_goes_on ts q.0 (source_sound ts q e)

goes_on_unfinished : (ts : Tokens) → s.source ts ≡ Err Unfinished → GoesOn ts
goes_on_unfinished ts e =
    let f = source_finish ts Unfinished e tt in
    (f.0, f.1, record { height = f.2; source = f.3; low = f.4 refl })

goes_on_higher : (ts : Tokens) (e : Refusal) → s.source ts ≡ Err e → Ended e → GoesOnHigher ts
goes_on_higher ts e is end = let f = source_finish ts e is end in (f.0, f.1, f.2, f.3)

higher : (ts : Tokens) → GoesOn ts → GoesOnHigher ts
higher ts more = (more.0, more.1, more.2.height, more.2.source)

-- and so do the tokens before those
prefix_goes_on : (n : ℕ) (ts : Tokens) → GoesOn ts → GoesOn (take n ts)
prefix_goes_on n ts more =
    let same : take n ts ++ (drop n ts ++ more.0) ≡ ts ++ more.0 = sym (append_assoc (take n ts) (drop n ts) more.0) ∙ ap (λ us. us ++ more.0) (take-append-drop n ts) in
    (drop n ts ++ more.0, more.1, subst (λ us. Accepts us more.1) (sym same) more.2)

-- ---- the tokens up to the one that is named

take_agrees : (i : ℕ) (ts : Tokens) → Agrees i (take i ts) ts
take_agrees i ts = agrees i (take i ts) ts (take-take i i ts (omega arith))

take_length : (i : ℕ) (ts : Tokens) → i ≤ length ts → length (take i ts) ≡ i
take_length i ts le = length-take-le i ts le

-- tokens before the one that a refusal names are read to their end, or are unfinished
goes_on_before : {i : ℕ} {ts us : Tokens} {o p : ReadOutcome SourceTree} → length us ≡ i → Alike i us ts o p → Names i ts p → Within us o → s.source us ≡ o → GoesOn us
goes_on_before {us = us} long (beyond {o = Ok q} is) named within e = goes_on_read us q e
goes_on_before long (beyond {o = Err (Unexpected k)} is) named within e = let bounds = refusal_within within in absurd (omega (arith, bounds.0, is, long))
goes_on_before long (beyond {o = Err (TooDeep k)} is) named within e = let bounds = refusal_within within in absurd (omega (arith, bounds.0, is, long))
goes_on_before {us = us} long (beyond {o = Err Unfinished} is) named within e = goes_on_unfinished us e
goes_on_before long (beyond {o = Err NoMemory} is) named within e = absurd (refusal_within within)
goes_on_before long (goes k some a f g) named within e = elim named [ ]
goes_on_before long (unexpected f) (unexpected_at g) within e = let bounds = refusal_within within in absurd (omega (arith, bounds.0, f, g, long))
goes_on_before long (deep f) (too_deep_at g) within e = let bounds = refusal_within within in absurd (omega (arith, bounds.0, f, g, long))

nothing_goes_on : (o : ReadOutcome SourceTree) → s.source [] ≡ o → Within [] o → GoesOn []
nothing_goes_on (Ok q) e within = goes_on_read [] q e
nothing_goes_on (Err (Unexpected k)) e within = let bounds = refusal_within within in absurd (omega (arith, bounds.0, bounds.1))
nothing_goes_on (Err (TooDeep k)) e within = let bounds = refusal_within within in absurd (omega (arith, bounds.0, bounds.1))
nothing_goes_on (Err Unfinished) e within = goes_on_unfinished [] e
nothing_goes_on (Err NoMemory) e within = absurd (refusal_within within)

before_it : (i : ℕ) (ts : Tokens) → i ≤ length ts → Names i ts (s.source ts) → GoesOn (take i ts)
before_it zero ts le named = nothing_goes_on (s.source []) refl (source_within [])
before_it (suc i) ts le named =
    let us = take (suc i) ts in
    goes_on_before (take_length (suc i) ts le) (source_alike (omega arith) (take_agrees (suc i) ts)) named (source_within us) refl

-- ---- with the token that is named

-- a token that is unexpected is so at any height
unexpected_clash : {i k : ℕ} {ts us : Tokens} {p : ReadOutcome SourceTree} {x : SourceTree} → Alike (suc i) ts us (Err (Unexpected k)) p → k + i ≡ length ts → Roomier p (Ok (x, [])) → ⊥
unexpected_clash (beyond is) at room = absurd (omega (arith, is, at))
unexpected_clash (unexpected f) at room = elim room [ ]

none_higher : (i k : ℕ) (ts : Tokens) → s.source ts ≡ Err (Unexpected k) → k + i ≡ length ts → 0 < k → ¬ GoesOnHigher (take (i + 1) ts)
none_higher i k ts e at some more =
    let one : i + 1 ≡ suc i = omega arith in
    let us = take (i + 1) ts ++ more.0 in
    let long = take_length (i + 1) ts (omega (arith, at, some)) in
    let front : take (i + 1) ts ≡ take (i + 1) us = sym (take_at (take (i + 1) ts) more.0 (i + 1) long) in
    let alike : Alike (suc i) ts us (s.source ts) (s.source us) = source_alike (omega arith) (agrees (suc i) ts us (subst (λ n. take n ts ≡ take n us) one front)) in
    unexpected_clash (subst (λ o. Alike (suc i) ts us o (s.source us)) e alike) at (source_roomier more.3)

none_accepted : (i : ℕ) (ts : Tokens) → i < length ts → Names i ts (s.source ts) → ¬ GoesOn (take (i + 1) ts)
none_accepted i ts less named more =
    let long = take_length (i + 1) ts (omega arith) in
    none_goes_on i ts (take (i + 1) ts ++ more.0) more.1 named (take_at (take (i + 1) ts) more.0 (i + 1) long) more.2

too_deep_is : {k l : ℕ} → (the : ReadOutcome SourceTree) → the ≡ Err (TooDeep l) → the ≡ Err (TooDeep k) → l ≡ k
too_deep_is the e f = let same = sym e ∙ f in cc

-- where it is too deep, some higher source goes on with it
deep_higher : {i k : ℕ} {ts us : Tokens} {o p : ReadOutcome SourceTree} → length us ≡ suc i → Alike (suc i) us ts o p → p ≡ Err (TooDeep k) → k + i ≡ length ts → Within us o → s.source us ≡ o → GoesOnHigher us
deep_higher {us = us} long (beyond {o = Ok q} is) named at within e = higher us (goes_on_read us q e)
deep_higher long (beyond {o = Err (Unexpected j)} is) named at within e = let bounds = refusal_within within in absurd (omega (arith, bounds.0, is, long))
deep_higher long (beyond {o = Err (TooDeep j)} is) named at within e = let bounds = refusal_within within in absurd (omega (arith, bounds.0, is, long))
deep_higher {us = us} long (beyond {o = Err Unfinished} is) named at within e = higher us (goes_on_unfinished us e)
deep_higher long (beyond {o = Err NoMemory} is) named at within e = absurd (refusal_within within)
deep_higher long (goes n some a f g) named at within e = absurd cc
deep_higher long (unexpected f) named at within e = absurd cc
deep_higher {us = us} long (deep {k = j} {j = l} f) named at within e =
    let same = too_deep_is (Err (TooDeep l)) refl named in
    goes_on_higher us (TooDeep j) e (omega (arith, f, at, long, same))

some_higher : (i k : ℕ) (ts : Tokens) → i < length ts → s.source ts ≡ Err (TooDeep k) → k + i ≡ length ts → GoesOnHigher (take (i + 1) ts)
some_higher i k ts less e at =
    let one : suc i ≡ i + 1 = omega arith in
    let us = take (suc i) ts in
    subst (λ n. GoesOnHigher (take n ts)) one
    (deep_higher (take_length (suc i) ts (omega arith)) (source_alike (omega arith) (take_agrees (suc i) ts)) e at (source_within us) refl)

-- ---- the place

pub refusal_is_place : (ts : Tokens) (e : ParseRefusal) → s.parse_outcome ts ≡ Err e → BlamesFirst ts e
refusal_is_place ts e is = by (s.source ts) refl (source_within ts) is
  where
    by : (o : ReadOutcome SourceTree) → s.source ts ≡ o → Within ts o → s.outcome_by (length ts) o ≡ Err e → BlamesFirst ts e
    by (Ok q) at within made = absurd cc
    by (Err (Unexpected k)) at within made =
        let bounds = refusal_within within in
        let i = length ts - k in
        let sum : k + i ≡ length ts = omega (arith, bounds.0, bounds.1) in
        let named : Names i ts (s.source ts) = subst (Names i ts) (sym at) (unexpected_at sum) in
        let same : named_at.Unexpected i ≡ e = cc in
        subst (BlamesFirst ts) same (omega (arith, bounds.0, bounds.1), before_it i ts (omega arith) named, none_higher i k ts at sum bounds.0)
    by (Err (TooDeep k)) at within made =
        let bounds = refusal_within within in
        let i = length ts - k in
        let sum : k + i ≡ length ts = omega (arith, bounds.0, bounds.1) in
        let less : i < length ts = omega (arith, bounds.0, bounds.1) in
        let named : Names i ts (s.source ts) = subst (Names i ts) (sym at) (too_deep_at sum) in
        let same : named_at.TooDeep i ≡ e = cc in
        subst (BlamesFirst ts) same (less, before_it i ts (omega arith) named, none_accepted i ts less named, some_higher i k ts less at sum)
    by (Err Unfinished) at within made =
        let same : named_at.Unfinished ≡ e = cc in
        subst (BlamesFirst ts) same (goes_on_unfinished ts at, λ x is. let read = source_complete ts x is in absurd cc)
    by (Err NoMemory) at within made = absurd (refusal_within within)

-- ---- there is one place

same_number : (i j : ℕ) → ¬ (i < j) → ¬ (j < i) → i ≡ j
same_number i j one other =
    elim (leb (suc i) j) as (λ b. leb (suc i) j ≡ b → i ≡ j) [
      | true ↦ λ e. absurd (one (omega (arith, leb-true (suc i) j e)))
      | false ↦ λ e. elim (leb (suc j) i) as (λ b. leb (suc j) i ≡ b → i ≡ j) [
        | true ↦ λ f. absurd (other (omega (arith, leb-true (suc j) i f)))
        | false ↦ λ f. omega (arith, leb-false (suc i) j e, leb-false (suc j) i f)
      ] refl
    ] refl

-- the tokens up to a place begin an accepted source, and no more than those do
abbrev Stuck : Tokens → ℕ → Type 0
Stuck ts i = GoesOn (take i ts) × ¬ GoesOn (take (i + 1) ts)

not_before : (ts : Tokens) (i j : ℕ) → Stuck ts i → Stuck ts j → ¬ (i < j)
not_before ts i j one other less = one.1 (subst GoesOn (take-take (i + 1) j ts (omega arith)) (prefix_goes_on (i + 1) (take j ts) other.0))

one_token : (ts : Tokens) (i j : ℕ) → Stuck ts i → Stuck ts j → i ≡ j
one_token ts i j one other = same_number i j (not_before ts i j one other) (not_before ts j i other one)

stuck_unexpected : (ts : Tokens) (i : ℕ) → BlamesFirst ts (named_at.Unexpected i) → Stuck ts i
stuck_unexpected ts i is = (is.1, λ more. is.2 (higher (take (i + 1) ts) more))

stuck_deep : (ts : Tokens) (i : ℕ) → BlamesFirst ts (named_at.TooDeep i) → Stuck ts i
stuck_deep ts i is = (is.1, is.2)

not_whole : (ts : Tokens) (i : ℕ) → Stuck ts i → GoesOn ts → ⊥
not_whole ts i stuck more = stuck.1 (prefix_goes_on (i + 1) ts more)

kinds_apart : (ts : Tokens) (i j : ℕ) → BlamesFirst ts (named_at.Unexpected i) → BlamesFirst ts (named_at.TooDeep j) → ⊥
kinds_apart ts i j one other =
    let same = one_token ts i j (stuck_unexpected ts i one) (stuck_deep ts j other) in
    one.2 (subst (λ n. GoesOnHigher (take (n + 1) ts)) (sym same) other.3)

pub one_place : OnePlace
one_place ts named_at.NoMemory f some others p q = absurd (some refl)
one_place ts (named_at.Unexpected i) named_at.NoMemory some others p q = absurd (others refl)
one_place ts (named_at.TooDeep i) named_at.NoMemory some others p q = absurd (others refl)
one_place ts named_at.Unfinished named_at.NoMemory some others p q = absurd (others refl)
one_place ts (named_at.Unexpected i) (named_at.Unexpected j) some others p q = ap named_at.Unexpected (one_token ts i j (stuck_unexpected ts i p) (stuck_unexpected ts j q))
one_place ts (named_at.TooDeep i) (named_at.TooDeep j) some others p q = ap named_at.TooDeep (one_token ts i j (stuck_deep ts i p) (stuck_deep ts j q))
one_place ts named_at.Unfinished named_at.Unfinished some others p q = refl
one_place ts (named_at.Unexpected i) (named_at.TooDeep j) some others p q = absurd (kinds_apart ts i j p q)
one_place ts (named_at.TooDeep i) (named_at.Unexpected j) some others p q = absurd (kinds_apart ts j i q p)
one_place ts (named_at.Unexpected i) named_at.Unfinished some others p q = absurd (not_whole ts i (stuck_unexpected ts i p) q.0)
one_place ts named_at.Unfinished (named_at.Unexpected j) some others p q = absurd (not_whole ts j (stuck_unexpected ts j q) p.0)
one_place ts (named_at.TooDeep i) named_at.Unfinished some others p q = absurd (not_whole ts i (stuck_deep ts i p) q.0)
one_place ts named_at.Unfinished (named_at.TooDeep j) some others p q = absurd (not_whole ts j (stuck_deep ts j q) p.0)

-- tokens that have a place are no source
pub no_source : (ts : Tokens) (e : ParseRefusal) → e ≢ named_at.NoMemory → BlamesFirst ts e → (x : SourceTree) → ¬ Accepts ts x
no_source ts (named_at.Unexpected i) some place x is = not_whole ts i (stuck_unexpected ts i place) (accepted_goes_on ts x is)
no_source ts (named_at.TooDeep i) some place x is = not_whole ts i (stuck_deep ts i place) (accepted_goes_on ts x is)
no_source ts named_at.Unfinished some place x is = place.1 x is
no_source ts named_at.NoMemory some place x is = absurd (some refl)

-- ---- what is cut short

-- no source goes on after its last `.`
cut_whole : {us ws : Tokens} {x y : SourceTree} {i j : ℕ} → IsSource us x i → IsSource (us ++ ws) y j → ws ≡ []
cut_whole {us} {ws} (g.source {mid = mid} {rest = rest} {x = x} d e b none) (g.source {rest = last} {x = z} c q a end) =
    let some = some_due mid _ e (λ w. cc) in
    let one = definitions_one (definitions_on ws d (λ w. absurd (omega (arith, some, w)))) c in
    let main = subst (λ vs. Sentence vs x (rest ++ ws)) (sym (past_on mid ws some)) (sentence_on ws b) in
    let two = sentence_one main (subst (λ vs. Sentence (past vs) z last) (sym one.1) a) in
    ap (λ vs. vs ++ ws) (sym none) ∙ two.1 ∙ end

drop_some : (n : ℕ) (ts : Tokens) → n < length ts → drop n ts ≢ []
drop_some n [] less e = absurd (omega arith)
drop_some zero (t ∷ ts) less e = absurd cc
drop_some (suc n) (t ∷ ts) less e = drop_some n ts (omega arith) e

pub prefixes_are_unfinished : PrefixesAreUnfinished
prefixes_are_unfinished ts x n is less = (
  prefix_goes_on n ts (accepted_goes_on ts x is),
  λ y whole. drop_some n ts less (cut_whole whole.source (subst (λ us. IsSource us x is.height) (sym (take-append-drop n ts)) is.source)),
)
