-- A source is one program, or is refused at one place for one cause.
use Rattle.std.proofs.Common.{◌≡◌, ◌≢◌, inl, inr, List, ℕ, Option, Some, None, Ok, Err, ap, sym, ◌∙◌, subst}
use Rattle.tp_lex.specs.declared.token.Token.{Token}
use Rattle.tp_lex.proofs.LawLemmas.{one_list, one_refusal, never_both}
use Rattle.tp_tree.specs.Tree.{SourceTree}
use Rattle.tp_parse.specs.declared.refusal.ParseRefusal.{ParseRefusal}
use Rattle.tp_parse.specs.declared.refusal.ParseRefusal.TheVariants.{NoMemory}
use Rattle.tp_parse.specs.Place.{BlamesFirst}
use Rattle.tp_parse.specs.Grammar.{Accepts}
use Rattle.tp_parse.specs.Source.{parse_outcome}
use Rattle.tp_parse.proofs.Exact.{accepted_read}
use Rattle.tp_parse.proofs.FirstToken.{no_source, one_place}
use Rattle.tp_parse.proofs.TextBack.{printed_is_read_back}
use Rattle.tp_meaning.specs.Interval.{ProgramTree}
use Rattle.tp_check.specs.Outcome.{CheckOutcome}
use Rattle.tp_check.specs.Program.{ChecksTo}
use Rattle.tp_check.proofs.Determined.{checks_once}
use Rattle.tp_monitor.specs.WideOf.{NamedWide, wide_of_source}
use Rattle.tp_call.specs.declared.status.Refused.{Refused}
use Rattle.tp_words.specs.declared.mode.Mode.{Mode}
use Rattle.tp_words.specs.declared.mode.Mode.TheVariants.{Run, Print, Convert, Check, Drill}
use Rattle.tp_call.specs.Source.{IsReadFromSpelling, IsSourceText, IsProgram, IsWideText, IsOutsideGrammar, IsNotRun, IsNotWide, IsRefusedAt, lexer_refusal, parser_refusal, checker_refusal}

-- a refusal that the parser answers is no want of memory
some_place : (source : List ℕ) (ts : List Token) (e : ParseRefusal) (r : Refused) → parser_refusal source ts e ≡ Some r → e ≢ NoMemory
some_place source ts e r answer none = let both : None ≡ Some r = ap (parser_refusal source ts) (sym none) ∙ answer in cc

one_tree : (ts us : List Token) (t u : SourceTree) → ts ≡ us → Accepts ts t → Accepts us u → t ≡ u
one_tree ts us t u same a b = let first : parse_outcome ts ≡ Ok t = accepted_read ts t a in let second : parse_outcome us ≡ Ok u = accepted_read us u b in let equal : parse_outcome ts ≡ parse_outcome us = ap parse_outcome same in cc

-- a program is a source of the grammar, and so is a source that isn't run
pub source_of_program : (source : List ℕ) (p : ProgramTree) → (g : IsProgram source p) → IsSourceText source g.tree
source_of_program source p g = record { tokens = g.tokens; are_tokens = g.are_tokens; accepted = g.accepted }

source_not_run : (source : List ℕ) (r : Refused) → (x : IsNotRun source r) → IsSourceText source x.tree
source_not_run source r x = record { tokens = x.tokens; are_tokens = x.are_tokens; accepted = x.accepted }

-- it is read from its spelling
pub read_from_spelling : (source : List ℕ) (t : SourceTree) → IsSourceText source t → IsReadFromSpelling t
read_from_spelling source t g =
    let back = printed_is_read_back source g.tokens t g.are_tokens g.accepted in
    record { tokens = back.0; are_tokens = back.1; again = back.2.tree; height = back.2.height; is_source = back.2.source; same = back.2.same; only = back.2.only }

pub source_or_outside : (source : List ℕ) (t : SourceTree) (r : Refused) → IsSourceText source t → IsOutsideGrammar source r → ⊥
source_or_outside source t r g (inl x) = never_both source g.tokens x.refusal g.are_tokens x.is_refused
source_or_outside source t r g (inr x) = let same = one_list source g.tokens x.tokens g.are_tokens x.are_tokens in no_source x.tokens x.refusal (some_place source x.tokens x.refusal r x.answer) x.place t (subst (λ ts. Accepts ts t) same g.accepted)

pub one_source : (source : List ℕ) (t u : SourceTree) → IsSourceText source t → IsSourceText source u → t ≡ u
one_source source t u g h = one_tree g.tokens h.tokens t u (one_list source g.tokens h.tokens g.are_tokens h.are_tokens) g.accepted h.accepted

-- what the checker answers for a source is one answer
checked_once : (source : List ℕ) (t u : SourceTree) (a b : CheckOutcome ProgramTree) → IsSourceText source t → IsSourceText source u → ChecksTo t a → ChecksTo u b → a ≡ b
checked_once source t u a b g h p q = checks_once u a b (subst (λ (s : SourceTree). ChecksTo s a) (one_source source t u g h) p) q

pub program_or_refused : (source : List ℕ) (p : ProgramTree) (r : Refused) → IsProgram source p → IsRefusedAt Run source r → ⊥
program_or_refused source p r g (inl x) = source_or_outside source g.tree r (source_of_program source p g) x
program_or_refused source p r g (inr x) =
    let good : CheckOutcome ProgramTree = Ok p in
    let bad : CheckOutcome ProgramTree = Err x.refusal in
    let both : good ≡ bad = checked_once source g.tree x.tree (Ok p) (Err x.refusal) (source_of_program source p g) (source_not_run source r x) g.checked x.outcome in
    cc

-- one answer from one refusal
one_answer : {A : Type 0} (f : A → Option Refused) (x y : A) (r s : Refused) → x ≡ y → f x ≡ Some r → f y ≡ Some s → r ≡ s
one_answer f x y r s same a b = let both : Some r ≡ Some s = sym a ∙ ap f same ∙ b in cc

outside_once : (source : List ℕ) (r s : Refused) → IsOutsideGrammar source r → IsOutsideGrammar source s → r ≡ s
outside_once source r s (inl x) (inl y) = one_answer (lexer_refusal source) x.refusal y.refusal r s (one_refusal source x.refusal y.refusal x.is_refused y.is_refused) x.answer y.answer
outside_once source r s (inl x) (inr y) = absurd (never_both source y.tokens x.refusal y.are_tokens x.is_refused)
outside_once source r s (inr x) (inl y) = absurd (never_both source x.tokens y.refusal x.are_tokens y.is_refused)
outside_once source r s (inr x) (inr y) =
    let same : x.tokens ≡ y.tokens = one_list source x.tokens y.tokens x.are_tokens y.are_tokens in
    let first : BlamesFirst y.tokens x.refusal = subst (λ ts. BlamesFirst ts x.refusal) same x.place in
    let equal : x.refusal ≡ y.refusal = one_place y.tokens x.refusal y.refusal (some_place source x.tokens x.refusal r x.answer) (some_place source y.tokens y.refusal s y.answer) first y.place in
    one_answer (parser_refusal source y.tokens) x.refusal y.refusal r s equal (ap (λ ts. parser_refusal source ts x.refusal) (sym same) ∙ x.answer) y.answer

-- as a wider formula a text has one outcome
wide_once : (source : List ℕ) (t u : SourceTree) (a b : CheckOutcome NamedWide) → IsSourceText source t → IsSourceText source u → wide_of_source t ≡ a → wide_of_source u ≡ b → a ≡ b
wide_once source t u a b g h p q = sym p ∙ ap wide_of_source (one_source source t u g h) ∙ q

pub one_wide : (source : List ℕ) (v w : NamedWide) → IsWideText source v → IsWideText source w → v ≡ w
one_wide source v w g h =
    let first : CheckOutcome NamedWide = Ok v in
    let second : CheckOutcome NamedWide = Ok w in
    let both : first ≡ second = wide_once source g.tree h.tree (Ok v) (Ok w) g.is_source h.is_source g.wide_is h.wide_is in
    cc

pub wide_or_refused : (source : List ℕ) (w : NamedWide) (r : Refused) → IsWideText source w → IsRefusedAt Check source r → ⊥
wide_or_refused source w r g (inl x) = source_or_outside source g.tree r g.is_source x
wide_or_refused source w r g (inr x) =
    let good : CheckOutcome NamedWide = Ok w in
    let bad : CheckOutcome NamedWide = Err x.refusal in
    let both : good ≡ bad = wide_once source g.tree x.tree (Ok w) (Err x.refusal) g.is_source x.is_source g.wide_is x.outcome in
    cc

not_wide_once : (source : List ℕ) (r s : Refused) → IsNotWide source r → IsNotWide source s → r ≡ s
not_wide_once source r s x y =
    let first : CheckOutcome NamedWide = Err x.refusal in
    let second : CheckOutcome NamedWide = Err y.refusal in
    let both : first ≡ second = wide_once source x.tree y.tree (Err x.refusal) (Err y.refusal) x.is_source y.is_source x.outcome y.outcome in
    let equal : x.refusal ≡ y.refusal = cc in
    one_answer (checker_refusal source) x.refusal y.refusal r s equal x.answer y.answer

-- a source that isn't run is refused for one cause
not_run_once : (source : List ℕ) (r s : Refused) → IsRefusedAt Run source r → IsRefusedAt Run source s → r ≡ s
not_run_once source r s (inl x) (inl y) = outside_once source r s x y
not_run_once source r s (inl x) (inr y) = absurd (source_or_outside source y.tree r (source_not_run source s y) x)
not_run_once source r s (inr x) (inl y) = absurd (source_or_outside source x.tree s (source_not_run source r x) y)
not_run_once source r s (inr x) (inr y) =
    let first : CheckOutcome ProgramTree = Err x.refusal in
    let second : CheckOutcome ProgramTree = Err y.refusal in
    let both : first ≡ second = checked_once source x.tree y.tree (Err x.refusal) (Err y.refusal) (source_not_run source r x) (source_not_run source s y) x.outcome y.outcome in
    let equal : x.refusal ≡ y.refusal = cc in
    one_answer (checker_refusal source) x.refusal y.refusal r s equal x.answer y.answer

pub refused_once : (mode : Mode) (source : List ℕ) (r s : Refused) → IsRefusedAt mode source r → IsRefusedAt mode source s → r ≡ s
refused_once Print source r s x y = outside_once source r s x y
refused_once Convert source r s x y = absurd x
refused_once Check source r s (inl x) (inl y) = outside_once source r s x y
refused_once Check source r s (inl x) (inr y) = absurd (source_or_outside source y.tree r y.is_source x)
refused_once Check source r s (inr x) (inl y) = absurd (source_or_outside source x.tree s x.is_source y)
refused_once Check source r s (inr x) (inr y) = not_wide_once source r s x y
refused_once Run source r s x y = not_run_once source r s x y
refused_once (Drill size) source r s x y = not_run_once source r s x y

pub one_program : (source : List ℕ) (p q : ProgramTree) → IsProgram source p → IsProgram source q → p ≡ q
one_program source p q g h =
    let first : CheckOutcome ProgramTree = Ok p in
    let second : CheckOutcome ProgramTree = Ok q in
    let both : first ≡ second = checked_once source g.tree h.tree (Ok p) (Ok q) (source_of_program source p g) (source_of_program source q h) g.checked h.checked in
    cc
