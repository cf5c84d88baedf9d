-- The grammar over more tokens: what stands before goes on to be what it was, if nothing that follows goes on with it.
use Rattle.std.proofs.Common.{◌≡◌, ◌≢◌, ℕ, suc, ◌<◌, ◌≤◌, true, false, cond, eqb, inl, inr, List, [], ◌∷◌, ◌++◌, length, drop, refl, sym, ap, subst, ◌∙◌, arith}
use Rattle.tp_lex.specs.declared.token.Word.TheVariants as word
use Rattle.tp_tree.specs.Tree.{DefinitionTree}
use Rattle.tp_parse.specs.declared.mark.TokenMark.{TokenMark}
use Rattle.tp_parse.specs.declared.mark.TokenMark.TheVariants as m
use Rattle.tp_parse.specs.declared.mark.TokenRole.{TokenRole}
use Rattle.tp_parse.specs.declared.mark.TokenRole.TheVariants.{Ends}
use Rattle.tp_parse.specs.declared.head.Atom.{Atom}
use Rattle.tp_parse.specs.declared.head.PrimaryHead.{PrimaryHead}
use Rattle.tp_parse.specs.declared.head.Listed.{Listed}
use Rattle.tp_parse.specs.declared.head.Listed.TheVariants as listed
use Rattle.tp_parse.specs.declared.head.Pair.{Pair}
use Rattle.tp_parse.specs.declared.head.Pair.TheVariants as pair
use Rattle.tp_parse.specs.declared.mark.Enclosure.{Enclosure}
use Rattle.tp_parse.specs.declared.mark.Enclosure.TheVariants.{Round, Curly, Size}
use Rattle.tp_parse.specs.declared.head.PrimaryHead.TheVariants as h
use Rattle.tp_parse.specs.Marks.{same, prefix_at, role_of, role_at, level_of, comma, listed_close, enclosed_close, middle, Tokens, mark, from, first_number, first_name, mark_due, half_mark, past, left_of}
use Rattle.tp_parse.specs.Marks as input
use Rattle.tp_parse.specs.Grammar.{Found, Operands, start, open_round, close_round, ReadsNames, last_name, name_then, BeginsPrimary, number, truth, upper_name, lower_name, call, bare, form, empty_list, list, enclosure, if, while, repeat, for, forall, exists, Parses, atom, enclosed, if_then, if_else, paired, quantified, level, Goes, ends, left, single, right, joins, Others, no_more, one_more, Listing, no_operands, operands, Parameters, no_parameters, parameters, Sentence, sentence, Defines, defines, Definitions, no_definition, definition_then}
use Rattle.tp_parse.specs.Grammar as g
use Rattle.tp_parse.proofs.Shapes.{begins_some, goes_shorter, others_shorter, begins_start}
use Rattle.tp_parse.proofs.Within.{some_by_prefix, some_by_role}

-- no phrase goes on with what is next
abbrev pub Stops : Tokens → Type 0
Stops ys = (role_of (mark ys) ≡ Ends) × (mark ys ≢ m.Word word.Else) × (mark ys ≢ open_round)

-- where nothing is left, what follows stops a phrase
pub record Follows (rest ys : Tokens) : Type 0 where
  pub stops : length rest ≤ 0 → Stops ys

pub followed : {rest mid ys : Tokens} → length rest ≤ length mid → Follows rest ys → Follows mid ys
followed le is = record { stops = λ none. is.stops (omega arith) }

pub something : {rest ys : Tokens} → 0 < length rest → Follows rest ys
something some = record { stops = λ none. absurd (omega arith) }

pub role_stopped : (k : ℕ) (x : TokenMark) → role_of x ≡ Ends → role_at k x ≡ Ends
unfolding role_at
role_stopped k x e = elim (eqb (level_of (role_of x)) k) as (λ b. cond b (role_of x) Ends ≡ Ends) [ true ↦ e | false ↦ refl ]

-- what stops a phrase joins nothing to it
pub joined_not : (x : TokenMark) → role_of x ≡ Ends → x ≢ m.Word word.And
joined_not x e q = let is : role_of (m.Word word.And) ≡ Ends = ap role_of (sym q) ∙ e in cc

-- ---- tokens

pub mark_on : (ts ws : Tokens) → 0 < length ts → mark (ts ++ ws) ≡ mark ts
unfolding mark
mark_on [] ws some = absurd (omega arith)
mark_on (t ∷ ts) ws some = refl

pub from_on : (ts ws : Tokens) → 0 < length ts → from (ts ++ ws) ≡ from ts
unfolding from
from_on [] ws some = absurd (omega arith)
from_on (t ∷ ts) ws some = refl

pub drop_on : (ts ws : Tokens) → 0 < length ts → drop 1 (ts ++ ws) ≡ drop 1 ts ++ ws
drop_on [] ws some = absurd (omega arith)
drop_on (t ∷ ts) ws some = refl

pub past_on : (ts ws : Tokens) → 0 < length ts → past (ts ++ ws) ≡ past ts ++ ws
unfolding past mark
past_on [] ws some = absurd (omega arith)
past_on (t ∷ ts) ws some =
    let x = input.mark (t ∷ ts) in
    elim (same (half_mark x) x) as (λ b. cond b (ts ++ ws) (left_of true (t ∷ ts ++ ws)) ≡ cond b ts (left_of true (t ∷ ts)) ++ ws) [ true ↦ refl | false ↦ refl ]

pub some_mark : (ts : Tokens) (x : TokenMark) → mark ts ≡ x → x ≢ m.End → 0 < length ts
unfolding mark
some_mark [] x e real = absurd (real (sym e))
some_mark (t ∷ ts) x e real = omega arith

pub some_due : (ts : Tokens) (x : TokenMark) → mark_due ts ≡ x → x ≢ m.End → 0 < length ts
unfolding mark
some_due [] x e real = absurd (real (sym e))
some_due (t ∷ ts) x e real = omega arith

pub due_on : (ts ws : Tokens) (x : TokenMark) → mark_due ts ≡ x → x ≢ m.End → mark_due (ts ++ ws) ≡ x
due_on ts ws x e real = ap half_mark (mark_on ts ws (some_due ts x e real)) ∙ e

pub some_phrase : {k : ℕ} {ts rest : Tokens} {x : Found} → Parses k ts x rest → 0 < length ts
unfolding mark
some_phrase {ts = []} d = absurd (begins_some d (refl, refl))
some_phrase {ts = t ∷ ts} d = omega arith

pub some_head : {ts rest : Tokens} {x : PrimaryHead} → BeginsPrimary ts x rest → 0 < length ts
unfolding mark
some_head {ts = []} b = absurd (begins_start b refl)
some_head {ts = t ∷ ts} b = omega arith

-- ---- names and heads

pub names_on : {ts rest : Tokens} {xs : List (List ℕ)} (ws : Tokens) → ReadsNames ts xs rest → (length rest ≤ 0 → mark ws ≢ comma) → ReadsNames (ts ++ ws) xs (rest ++ ws)
unfolding mark first_name
names_on {ts = []} ws (last_name (inl n) e) stops = absurd cc
names_on {ts = []} ws (last_name (inr n) e) stops = absurd cc
names_on {ts = t ∷ []} ws (last_name n e) stops = last_name {ts = t ∷ ws} n (stops (omega arith))
names_on {ts = t ∷ u ∷ ts} ws (last_name n e) stops = last_name {ts = t ∷ u ∷ ts ++ ws} n e
names_on {ts = []} ws (name_then (inl n) e d) stops = absurd cc
names_on {ts = []} ws (name_then (inr n) e d) stops = absurd cc
names_on {ts = t ∷ []} ws (name_then n e d) stops = absurd cc
names_on {ts = t ∷ u ∷ ts} ws (name_then n e d) stops = name_then {ts = t ∷ u ∷ ts ++ ws} n e (names_on ws d stops)

abbrev pub HeadFollows : PrimaryHead → Tokens → Tokens → Type 0
HeadFollows x rest ws = (a : Atom) → x ≡ h.Atom a → length rest ≤ 0 → mark ws ≢ open_round

pub head_on : {ts rest : Tokens} {x : PrimaryHead} (ws : Tokens) → BeginsPrimary ts x rest → HeadFollows x rest ws → BeginsPrimary (ts ++ ws) x (rest ++ ws)
unfolding mark first_name first_number
head_on {ts = []} ws b stops = absurd (begins_start b refl)
head_on {ts = t ∷ ts} ws (number e) stops = number {ts = t ∷ ts ++ ws} e
head_on {ts = t ∷ ts} ws (truth e) stops = truth {ts = t ∷ ts ++ ws} e
head_on {ts = t ∷ ts} ws (upper_name e) stops = upper_name {ts = t ∷ ts ++ ws} e
head_on {ts = t ∷ []} ws (lower_name e f) stops = lower_name {ts = t ∷ ws} e (stops _ refl (omega arith))
head_on {ts = t ∷ u ∷ ts} ws (lower_name e f) stops = lower_name {ts = t ∷ u ∷ ts ++ ws} e f
head_on {ts = t ∷ []} ws (call e f) stops = absurd cc
head_on {ts = t ∷ u ∷ ts} ws (call e f) stops = call {ts = t ∷ u ∷ ts ++ ws} e f
head_on {ts = t ∷ ts} ws (bare e) stops = bare {ts = t ∷ ts ++ ws} e
head_on {ts = t ∷ []} ws (form e f) stops = absurd cc
head_on {ts = t ∷ u ∷ ts} ws (form {f = x} e f) stops = rw (sym (past_on (u ∷ ts) ws (omega arith))) (form {ts = t ∷ u ∷ ts ++ ws} e f)
head_on {ts = t ∷ ts} ws (empty_list e) stops = empty_list {ts = t ∷ ts ++ ws} e
head_on {ts = t ∷ ts} ws (list e) stops = rw (sym (past_on (t ∷ ts) ws (omega arith))) (list {ts = t ∷ ts ++ ws} e)
head_on {ts = t ∷ ts} ws (enclosure e) stops = enclosure {ts = t ∷ ts ++ ws} e
head_on {ts = t ∷ ts} ws (if e) stops = if {ts = t ∷ ts ++ ws} e
head_on {ts = t ∷ ts} ws (while e) stops = while {ts = t ∷ ts ++ ws} e
head_on {ts = t ∷ ts} ws (repeat e) stops = repeat {ts = t ∷ ts ++ ws} e
head_on {ts = t ∷ []} ws (for e f g) stops = absurd cc
head_on {ts = t ∷ u ∷ []} ws (for e f g) stops = absurd cc
head_on {ts = t ∷ u ∷ v ∷ ts} ws (for e f g) stops = rw (sym (past_on (v ∷ ts) ws (omega arith))) (for {ts = t ∷ u ∷ v ∷ ts ++ ws} e f g)
head_on {ts = t ∷ []} ws (forall e f g) stops = absurd cc
head_on {ts = t ∷ u ∷ []} ws (forall e f g) stops = absurd cc
head_on {ts = t ∷ u ∷ v ∷ ts} ws (forall e f g) stops = rw (sym (past_on (v ∷ ts) ws (omega arith))) (forall {ts = t ∷ u ∷ v ∷ ts ++ ws} e f g)
head_on {ts = t ∷ ts} ws (exists {mid = mid} e d f) stops =
    let some = some_due mid _ f (λ q. cc) in
    rw (sym (past_on mid ws some)) (exists {ts = t ∷ ts ++ ws} e (names_on ws d (λ none. absurd (omega arith))) (due_on mid ws _ f (λ q. cc)))

-- ---- phrases

mark_other : (rest ws : Tokens) (x : TokenMark) → mark rest ≢ x → (length rest ≤ 0 → mark ws ≢ x) → mark (rest ++ ws) ≢ x
unfolding mark
mark_other [] ws x other next = next (omega arith)
mark_other (t ∷ rest) ws x other next = other

role_on : (ts ws : Tokens) (k : ℕ) → role_at k (mark ts) ≡ Ends → Follows ts ws → role_at k (mark (ts ++ ws)) ≡ Ends
unfolding mark
role_on [] ws k e stops = role_stopped k (mark ws) (stops.stops (omega arith)).0
role_on (t ∷ ts) ws k e stops = e

pub role_more : (ts ws : Tokens) (k : ℕ) (x : TokenRole) → role_at k (mark ts) ≡ x → 0 < length ts → role_at k (mark (ts ++ ws)) ≡ x
role_more ts ws k x e some = ap (role_at k) (mark_on ts ws some) ∙ e

pub some_role : (k : ℕ) (ts : Tokens) {x : TokenRole} → role_at k (mark ts) ≡ x → x ≢ Ends → 0 < length ts
some_role k ts e real = some_by_role k ts (λ q. real (sym e ∙ q))

pub enclosed_real : (e : Enclosure) → enclosed_close e ≢ m.End
enclosed_real Round q = absurd cc
enclosed_real Curly q = absurd cc
enclosed_real Size q = absurd cc

pub middle_real : (p : Pair) → middle p ≢ m.End
middle_real pair.While q = absurd cc
middle_real pair.Repeat q = absurd cc
middle_real (pair.For x) q = absurd cc
middle_real (pair.Forall x) q = absurd cc

pub listed_real : (x : Listed) → listed_close x ≢ m.End
listed_real listed.List q = absurd cc
listed_real (listed.Form f) q = absurd cc
listed_real (listed.Call x) q = absurd cc

pub past_phrase : {k : ℕ} {rest : Tokens} {x : Found} (us ws : Tokens) → 0 < length us → Parses k (past us ++ ws) x rest → Parses k (past (us ++ ws)) x rest
past_phrase {k} {rest} {x} us ws some d = subst (λ q. Parses k q x rest) (sym (past_on us ws some)) d

pub drop_phrase : {k : ℕ} {rest : Tokens} {x : Found} (us ws : Tokens) → 0 < length us → Parses k (drop 1 us ++ ws) x rest → Parses k (drop 1 (us ++ ws)) x rest
drop_phrase {k} {rest} {x} us ws some d = subst (λ q. Parses k q x rest) (sym (drop_on us ws some)) d

mutual
  pub phrase_on : {k : ℕ} {ts rest : Tokens} {x : Found} (ws : Tokens) → Parses k ts x rest → Follows rest ws → Parses k (ts ++ ws) x (rest ++ ws)
  phrase_on {ts = ts} ws (atom b) stops = rw (sym (from_on ts ws (some_head b))) (atom (head_on ws b (λ a q none. (stops.stops none).2)))
  phrase_on {ts = ts} ws (g.listed {x = l} b o) stops = rw (sym (from_on ts ws (some_head b))) (g.listed (head_on ws b (λ a q. absurd cc)) (listing_on ws o (listed_real l)))
  phrase_on {ts = ts} ws (enclosed {end = end} {e = e} b d f) stops =
      let some = some_due end _ f (enclosed_real e) in
      rw (sym (from_on ts ws (some_head b)), sym (past_on end ws some))
      (enclosed (head_on ws b (λ a q. absurd cc)) (phrase_on ws d (something some)) (due_on end ws _ f (enclosed_real e)))
  phrase_on {ts = ts} {rest = rest} ws (if_then {then = then} b d f c i) stops =
      let some = some_due then _ f (λ q. cc) in
      rw (sym (from_on ts ws (some_head b)))
      (if_then (head_on ws b (λ a q. absurd cc)) (phrase_on ws d (something some)) (due_on then ws _ f (λ q. cc)) (past_phrase then ws some (phrase_on ws c stops)) (mark_other rest ws _ i (λ none. (stops.stops none).1)))
  phrase_on {ts = ts} ws (if_else {then = then} {else = else} b d f c i j) stops =
      let some = some_due then _ f (λ q. cc) in
      let some2 = some_mark else _ i (λ q. cc) in
      rw (sym (from_on ts ws (some_head b)))
      (if_else (head_on ws b (λ a q. absurd cc)) (phrase_on ws d (something some)) (due_on then ws _ f (λ q. cc)) (past_phrase then ws some (phrase_on ws c (something some2)))
      (mark_on else ws some2 ∙ i) (drop_phrase else ws some2 (phrase_on ws j stops)))
  phrase_on {ts = ts} ws (paired {next = next} {q = p} b d f c) stops =
      let some = some_due next _ f (middle_real p) in
      rw (sym (from_on ts ws (some_head b)))
      (paired (head_on ws b (λ a q. absurd cc)) (phrase_on ws d (something some)) (due_on next ws _ f (middle_real p)) (past_phrase next ws some (phrase_on ws c stops)))
  phrase_on {ts = ts} ws (quantified b d) stops = rw (sym (from_on ts ws (some_head b))) (quantified (head_on ws b (λ a q. absurd cc)) (phrase_on ws d stops))
  phrase_on {ts = ts} ws (g.prefixed {k = k} e d) stops =
      let some = some_by_prefix (suc k) ts (λ q. absurd cc) in
      rw (sym (from_on ts ws some)) (g.prefixed (ap (prefix_at (suc k)) (mark_on ts ws some) ∙ e) (drop_phrase ts ws some (phrase_on ws d stops)))
  phrase_on {ts = ts} ws (level {k = k} {mid = mid} {x = x} {t = t} d c) stops =
      let whole = goes_with ws c stops in
      level (phrase_on ws d (followed (goes_shorter c) stops)) (rw (from_on ts ws (some_phrase d)) whole)

  pub goes_with : {k at : ℕ} {a t : Found} {ts rest : Tokens} (ws : Tokens) → Goes k at a ts t rest → Follows rest ws → Goes k at a (ts ++ ws) t (rest ++ ws)
  goes_with {k = k} {ts = ts} ws (ends e) stops = ends (role_on ts ws k e stops)
  goes_with {k = k} {ts = ts} ws (left e w d c) stops =
      let some = some_role k ts e (λ q. cc) in
      left (role_more ts ws k _ e some) w (drop_phrase ts ws some (phrase_on ws d (followed (goes_shorter c) stops))) (goes_with ws c stops)
  goes_with {k = k} {ts = ts} ws (single e w d) stops =
      let some = some_role k ts e (λ q. cc) in
      single (role_more ts ws k _ e some) w (drop_phrase ts ws some (phrase_on ws d stops))
  goes_with {k = k} {ts = ts} ws (right e w d) stops =
      let some = some_role k ts e (λ q. cc) in
      right (role_more ts ws k _ e some) w (drop_phrase ts ws some (phrase_on ws d stops))
  goes_with {k = k} {ts = ts} ws (g.indexed {end = end} e d f c) stops =
      let some = some_role k ts e (λ q. cc) in
      let some2 = some_due end _ f (λ q. cc) in
      g.indexed (role_more ts ws k _ e some) (drop_phrase ts ws some (phrase_on ws d (something some2))) (due_on end ws _ f (λ q. cc))
      (rw (past_on end ws some2) (goes_with ws c stops))
  goes_with {k = k} {ts = ts} ws (joins e o) stops =
      joins (role_more ts ws k _ e (some_role k ts e (λ q. cc))) (others_on ws o (λ q. cc) stops (λ none. joined_not (mark ws) (stops.stops none).0))

  pub others_on : {k : ℕ} {separator : TokenMark} {all : Operands} {ts rest : Tokens} (ws : Tokens) → Others k separator ts all rest → separator ≢ m.End → Follows rest ws
      → (length rest ≤ 0 → mark ws ≢ separator) → Others k separator (ts ++ ws) all (rest ++ ws)
  others_on {separator = separator} {ts = ts} ws (no_more e) real stops other = no_more (mark_other ts ws separator e other)
  others_on {separator = separator} {ts = ts} ws (one_more e d o) real stops other =
      let some = some_mark ts separator e real in
      one_more (mark_on ts ws some ∙ e) (drop_phrase ts ws some (phrase_on ws d (followed (others_shorter o) stops))) (others_on ws o real stops other)

  pub listing_on : {k : ℕ} {close : TokenMark} {all : Operands} {ts rest : Tokens} (ws : Tokens) → Listing k close ts all rest → close ≢ m.End → Listing k close (ts ++ ws) all (rest ++ ws)
  listing_on {ts = ts} ws (no_operands e) real = rw (sym (past_on ts ws (some_due ts _ e real))) (no_operands (due_on ts ws _ e real))
  listing_on {ts = ts} ws (operands {end = end} d o e) real =
      let some = some_due end _ e real in
      rw (sym (past_on end ws some))
      (operands (phrase_on ws d (followed (others_shorter o) (something some))) (others_on ws o (λ q. cc) (something some) (λ none. absurd (omega arith))) (due_on end ws _ e real))

-- ---- sources

pub sentence_on : {ts rest : Tokens} {x : Found} (ws : Tokens) → Sentence ts x rest → Sentence (ts ++ ws) x (rest ++ ws)
sentence_on ws (sentence {end = end} d e) =
    let some = some_due end _ e (λ q. cc) in
    rw (sym (past_on end ws some)) (sentence (phrase_on ws d (something some)) (due_on end ws _ e (λ q. cc)))

pub parameters_on : {ts rest : Tokens} {xs : List (List ℕ)} (ws : Tokens) → Parameters ts xs rest → Parameters (ts ++ ws) xs (rest ++ ws)
parameters_on {ts = ts} ws (no_parameters e) = let some = some_mark ts _ e (λ q. cc) in rw (sym (drop_on ts ws some)) (no_parameters (mark_on ts ws some ∙ e))
parameters_on {ts = ts} ws (parameters {mid = mid} d e) =
    let some = some_due mid _ e (λ q. cc) in
    rw (sym (past_on mid ws some)) (parameters (names_on ws d (λ none. absurd (omega arith))) (due_on mid ws _ e (λ q. cc)))

pub defines_on : {ts rest : Tokens} {d : DefinitionTree} {h : ℕ} (ws : Tokens) → Defines ts d h rest → Defines (ts ++ ws) d h (rest ++ ws)
unfolding mark from first_name
defines_on {ts = []} ws (defines begins n o xs q b) = absurd cc
defines_on {ts = t ∷ []} ws (defines begins n o xs q b) = absurd cc
defines_on {ts = t ∷ u ∷ []} ws (defines begins n o xs q b) = absurd cc
defines_on {ts = t ∷ u ∷ v ∷ ts} ws (defines {mid = mid} begins n o xs q b) =
    let some = some_due mid _ q (λ z. cc) in
    defines {ts = t ∷ u ∷ v ∷ ts ++ ws} begins n o (rw (past_on (v ∷ ts) ws (omega arith)) (parameters_on ws xs)) (due_on mid ws _ q (λ z. cc)) (rw (past_on mid ws some) (sentence_on ws b))

pub definitions_on : {ts rest : Tokens} {ds : List DefinitionTree} {h : ℕ} (ws : Tokens) → Definitions ts ds h rest → (length rest ≤ 0 → mark ws ≢ m.Word word.Define) → Definitions (ts ++ ws) ds h (rest ++ ws)
definitions_on {ts = ts} ws (no_definition e) other = no_definition (mark_other ts ws _ e other)
definitions_on ws (definition_then d e) other = definition_then (defines_on ws d) (definitions_on ws e other)
