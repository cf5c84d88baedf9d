-- What finishes a phrase and its parts, and the last steps of a phrase.
use Rattle.std.proofs.Common.{◌≡◌, ◌≢◌, ℕ, suc, ◌-◌, ◌<◌, ◌≤◌, max, Bool, true, false, cond, eqb, [], ◌∷◌, ◌++◌, length, drop, Ok, Err, refl, sym, ap, subst, ◌∙◌, arith}
use Rattle.tp_lex.specs.declared.token.Token.{Token}
use Rattle.tp_lex.specs.declared.token.Word.{Word}
use Rattle.tp_lex.specs.declared.token.Word.TheVariants as word
use Rattle.tp_lex.specs.declared.token.Symbol.{Symbol}
use Rattle.tp_lex.specs.declared.token.Symbol.TheVariants as symbol
use Rattle.tp_tree.specs.declared.operator.Op.{Op}
use Rattle.tp_tree.specs.declared.operator.Grouping.{Grouping}
use Rattle.tp_tree.specs.declared.operator.Grouping.TheVariants.{Left, Single, Right}
use Rattle.tp_tree.specs.Levels.{chop_level, grouping, level_right_of, right_level}
use Rattle.tp_parse.specs.declared.stop.Refusal.{Refusal}
use Rattle.tp_parse.specs.declared.stop.Refusal.TheVariants.{Unfinished, TooDeep}
use Rattle.tp_parse.specs.declared.mark.TokenMark.{TokenMark}
use Rattle.tp_parse.specs.declared.mark.TokenMark.TheVariants as m
use Rattle.tp_parse.specs.declared.mark.TokenRole.{TokenRole}
use Rattle.tp_parse.specs.declared.mark.TokenRole.TheVariants.{Ends, Infix, Opens, Joins}
use Rattle.tp_parse.specs.declared.head.PrimaryHead.{PrimaryHead}
use Rattle.tp_parse.specs.declared.head.Listed.{Listed}
use Rattle.tp_parse.specs.Marks.{kind_mark, role_of, role_at, level_of, start_of, listed_level, listed_close, Tokens, mark, mark_due, past}
use Rattle.tp_parse.specs.Readers as readers
use Rattle.tp_parse.specs.Readers.{ReadOutcome, TokenReader, and_then, ◌>>=◌, pure, sees, expect, deepen}
use Rattle.tp_parse.specs.Head.{is_high, begins, unfit}
use Rattle.tp_parse.specs.Grammar.{Found, Operands, operand_then, of_infix, of_index, BeginsPrimary, Parses, Goes, Others, Listing}
use Rattle.tp_parse.specs.Reading as r
use Rattle.tp_parse.specs.Reading.{goes_on, fits}
use Rattle.tp_parse.specs.Grammar as g
use Rattle.tp_parse.proofs.Marks.{right_is}
use Rattle.tp_parse.proofs.Heads.{bind_ok, ok_is, expect_then, fits_then}
use Rattle.tp_parse.proofs.Sound.{Is}
use Rattle.tp_parse.proofs.Extended.{Stops, something, role_stopped, mark_on, some_mark, some_due, some_role, role_more, due_on, phrase_on, drop_phrase, past_on}
use Rattle.tp_parse.proofs.Fresh.{name_token, name_found, a_name, mark_is, past_whole, list_token, list_whole, HeadRoom, begun_alone}
use Rattle.tp_parse.proofs.Finishes.{Ended, failed, refused_end, deep_last}

-- What finishes a phrase of a level: with any tokens that stop it, it is no higher than the room, where the tokens alone ended.
pub record FoundEnding (room k : ℕ) (ts : Tokens) (e : Refusal) : Type 0 where
  pub next : Tokens → Tokens
  pub finished : (ys : Tokens) → Stops ys → (x : Found) × Parses k (ts ++ next ys) x ys × (e ≡ Unfinished → 0 < room → x.height ≤ room)
  pub roomy : e ≡ Unfinished → 0 < length ts → 0 < room

-- and with a mark that is due after it
abbrev pub PartEnding : ℕ → ℕ → TokenMark → Tokens → Refusal → Type 0
PartEnding room k close ts e =
    (next : Tokens → Tokens)
    × ((ys : Tokens) → (x : Found) × (end : Tokens) × Parses k (ts ++ next ys) x end × (mark_due end ≡ close) × (past end ≡ ys) × (e ≡ Unfinished → x.height ≤ room))

-- operands that go on with those that the next tokens are
abbrev pub OthersEnding : ℕ → ℕ → TokenMark → Tokens → Refusal → Type 0
OthersEnding room k separator ts e =
    (next : Tokens → Tokens)
    × ((ys rest : Tokens) (more : Operands) → Stops ys → Others k separator ys more rest
    → (all : Operands) × Others k separator (ts ++ next ys) all rest × (e ≡ Unfinished → more.height ≤ room → all.height ≤ room))
    × (0 < length ts)

abbrev pub ListEnding : ℕ → Listed → Tokens → Refusal → Type 0
ListEnding room x ts e =
    (next : Tokens → Tokens) × ((ys : Tokens) → (all : Operands) × Listing (listed_level x) (listed_close x) (ts ++ next ys) all ys × (e ≡ Unfinished → all.height ≤ room))

-- a phrase, and one that goes on from an operand, of which the operands have this room
abbrev pub PhraseEnding : ℕ → ℕ → Tokens → Refusal → Type 0
PhraseEnding room k ts e = (next : Tokens → Tokens) × ((ys : Tokens) → Stops ys → (x : Found) × Parses k (ts ++ next ys) x ys × (e ≡ Unfinished → x.height ≤ suc room))

abbrev pub GoesEnding : ℕ → ℕ → ℕ → Found → Tokens → Refusal → Type 0
GoesEnding room k at left ts e =
    (next : Tokens → Tokens) × ((ys : Tokens) → Stops ys → (x : Found) × Goes k at left (ts ++ next ys) x ys × (e ≡ Unfinished → left.height ≤ suc room → x.height ≤ suc room)) × (0 < length ts)

pub others_join : {k : ℕ} {separator : TokenMark} {all more : Operands} {ts rest ws end : Tokens} → Others k separator ts all rest → rest ≡ [] → separator ≢ m.End → Stops ws → Others k separator ws more end
    → (both : Operands) × Others k separator (ts ++ ws) both end × (both.height ≡ max all.height more.height)
others_join {k} {separator} {more = more} {ws = ws} {end = end} (g.no_more e) none real stops o = (more, subst (λ us. Others k separator (us ++ ws) more end) (sym none) o, omega arith)
others_join {separator = separator} {ts = ts} {ws = ws} (g.one_more {x = x} {mid = mid} e d o) none real stops last =
    let some = some_mark ts separator e real in
    let made = others_join o none real stops last in
    (operand_then x made.0, g.one_more (mark_on ts ws some ∙ e) (drop_phrase ts ws some (phrase_on ws d (record { stops = λ q. stops }))) made.1, omega (arith, made.2))

pub closed : {ts : Tokens} {all : Operands} (x : Listed) (ys : Tokens) → Listing (listed_level x) (listed_close x) ts all (past (list_token x ∷ ys)) → Listing (listed_level x) (listed_close x) ts all ys
closed {ts} {all} x ys o = subst (λ q. Listing (listed_level x) (listed_close x) ts all q) (past_whole (list_token x) ys (list_whole x)) o

-- only `and` joins
joins_word : (w : Word) → role_of (m.Word w) ≡ Joins → w ≡ word.And
joins_word word.And e = refl
joins_word _ e = absurd cc

joins_symbol : (x : Symbol) → role_of (m.Symbol x) ≡ Joins → ⊥
joins_symbol symbol.Stop e = absurd cc
joins_symbol _ e = absurd cc

joins_of : (x : TokenMark) → role_of x ≡ Joins → x ≡ m.Word word.And
joins_of (m.Word w) e = ap m.Word (joins_word w e)
joins_of (m.Symbol x) e = absurd (joins_symbol x e)
joins_of m.End e = absurd cc
joins_of m.Upper e = absurd cc
joins_of m.Lower e = absurd cc
joins_of m.Number e = absurd cc

pub joins_mark : (k : ℕ) (x : TokenMark) → role_at k x ≡ Joins → x ≡ m.Word word.And
unfolding role_at
joins_mark k x e = elim (eqb (level_of (role_of x)) k) as (λ b. cond b (role_of x) Ends ≡ Joins → x ≡ m.Word word.And) [ true ↦ λ q. joins_of x q | false ↦ λ q. absurd cc ] e

pub goes_left : (way : Grouping) → goes_on way ≡ true → way ≡ Left
goes_left Left e = refl
goes_left Single e = absurd cc
goes_left Right e = absurd cc

-- an operand after the one token that there is
pub after_last : {k : ℕ} {ts ws ys : Tokens} {t : Token} {x : Found} → ts ≡ t ∷ [] → Parses k ws x ys → Parses k (drop 1 ts ++ ws) x ys
after_last {k} {ts} {ws} {ys} {t} {x} e d = subst (λ us. Parses k (drop 1 us ++ ws) x ys) (sym e) d

-- an operator and its right operand, after which the phrase ends
pub infix_last : (k : ℕ) (o : Op) (at : ℕ) (left : Found) (ts ws ys : Tokens) (x : Found) → role_at k (mark ts) ≡ Infix o → Parses (right_level o) (drop 1 ts ++ ws) x ys → Stops ys
    → Goes k at left (ts ++ ws) (of_infix at o left x) ys
infix_last k o at left ts ws ys x role d stops =
    let some = some_role k ts role (λ q. cc) in
    let here = role_more ts ws k (Infix o) role some in
    let operand = drop_phrase ts ws some d in
    let ended : Goes k at (of_infix at o left x) ys (of_infix at o left x) ys = g.ends (role_stopped k (mark ys) stops.0) in
    elim (grouping o) as (λ w. grouping o ≡ w → Goes k at left (ts ++ ws) (of_infix at o left x) ys) [
      | Left ↦ λ w. g.left here w (at_level Left w operand) ended
      | Single ↦ λ w. g.single here w (at_level Single w operand)
      | Right ↦ λ w. g.right here w (at_level Right w operand)
    ] refl
  where
    at_level : (w : Grouping) → grouping o ≡ w → Parses (right_level o) (drop 1 (ts ++ ws)) x ys → Parses (level_right_of w k) (drop 1 (ts ++ ws)) x ys
    at_level w e p = subst (λ n. Parses n (drop 1 (ts ++ ws)) x ys) (sym (right_is k (mark ts) o w role e)) p

pub index_last : (k at : ℕ) (left : Found) (ts ws end ys : Tokens) (x : Found) → role_at k (mark ts) ≡ Opens → Parses chop_level (drop 1 ts ++ ws) x end → mark_due end ≡ m.Symbol symbol.CloseSquare → past end ≡ ys → Stops ys
    → Goes k at left (ts ++ ws) (of_index at left x) ys
index_last k at left ts ws end ys x role d due rest stops =
    let some = some_role k ts role (λ q. cc) in
    g.indexed (role_more ts ws k Opens role some) (drop_phrase ts ws some d) due
    (subst (λ us. Goes k at (of_index at left x) us (of_index at left x) ys) (sym rest) (g.ends (role_stopped k (mark ys) stops.0)))

-- a head with operands has room for them, where its first token was let in
pub roomed : {ts mid : Tokens} {x : PrimaryHead} (room : ℕ) → BeginsPrimary ts x mid → (is_high (start_of (mark ts)) ≡ true → 0 < room) → HeadRoom room x
roomed room (g.number e) some = tt
roomed room (g.truth e) some = tt
roomed room (g.upper_name e) some = tt
roomed room (g.lower_name e f) some = tt
roomed room (g.call e f) some = tt
roomed room (g.bare e) some = tt
roomed room (g.form e f) some = tt
roomed room (g.empty_list e) some = tt
roomed room (g.list e) some = tt
roomed room (g.enclosure e) some = some (ap is_high e)
roomed room (g.if e) some = some (ap is_high e)
roomed room (g.while e) some = some (ap is_high e)
roomed room (g.repeat e) some = some (ap is_high e)
roomed room (g.for e f d) some = some (ap is_high e)
roomed room (g.forall e f d) some = some (ap is_high e)
roomed room (g.exists e d f) some = some (ap is_high e)

some_begun : (k : ℕ) (ts : Tokens) → begins k (mark ts) ≡ true → 0 < length ts
unfolding begins mark
some_begun k [] e = absurd cc
some_begun k (t ∷ ts) e = omega arith

-- where none may be 1 high
pub unfit_finish : (k : ℕ) (ts : Tokens) (e : Refusal) → failed {A = Found} (unfit k ts) ≡ Err e → Ended e → FoundEnding 0 k ts e
unfolding unfit
unfit_finish k ts e is end =
    elim (begins k (mark ts)) as (λ b. begins k (mark ts) ≡ b → failed {A = Found} (cond b (TooDeep (length ts)) (readers.refusal ts)) ≡ Err e → FoundEnding 0 k ts e) [
      | true ↦ λ yes w.
          let last = deep_last ts e w end (some_begun k ts yes) in
          let same : mark ts ≡ kind_mark last.0.kind = ap mark last.1 ∙ mark_is last.0 [] in
          let one = begun_alone k last.0 (ap (begins k) (sym same) ∙ yes) in
          record {
            next = one.0;
            finished = λ ys stops. let made = one.1 ys stops in (made.0, subst (λ us. Parses k (us ++ one.0 ys) made.0 ys) (sym last.1) made.1, λ u. absurd (last.2 u));
            roomy = λ u. absurd (last.2 u);
          }
      | false ↦ λ no w.
          let none = refused_end ts e w end in
          record {
            next = λ ys. name_token ∷ ys;
            finished = λ ys stops. (name_found, subst (λ us. Parses k (us ++ name_token ∷ ys) name_found ys) (sym none) (a_name k ys stops), λ u some. absurd (omega (arith, some)));
            roomy = λ u some. let empty : length ts ≡ 0 = ap length none in absurd (omega (arith, some, empty));
          }
    ] refl is

-- ---- what was read, over more tokens

module _ (inner : ℕ → TokenReader Found) (room : ℕ) (sound : (k : ℕ) (ts : Tokens) (p : Found × Tokens) → inner k ts ≡ Ok p → Is room k ts p) where
  -- a part that was read
  pub part_ok : (k : ℕ) (close : TokenMark) (ts : Tokens) (q : Found × Tokens) → r.part inner room k close ts ≡ Ok q → (p : Found × Tokens) × Is room k ts p × (mark_due p.1 ≡ close) × (q ≡ (p.0, past p.1))
  unfolding r.part
  part_ok k close ts q e =
      let b = bind_ok (inner k ts) _ q e in
      let c = expect_then close b.0.1 _ q b.2 in
      (b.0, sound k ts b.0 b.1, c.0, sym (ok_is (b.0.0, past b.0.1) q c.1))

  -- what a turn did, over more tokens
  abbrev pub Steps : ℕ → ℕ → Found → Tokens → (Found × Bool) × Tokens → Type 0
  Steps k at left ts q = q.0.1 ≡ true → (ws : Tokens) → 0 < length q.1 → (x : Found) (last : Tokens) → Goes k at q.0.0 (q.1 ++ ws) x last → Goes k at left (ts ++ ws) x last

  turn_by_steps : (k at : ℕ) (left : Found) (role : TokenRole) (ts : Tokens) (q : (Found × Bool) × Tokens) → role_at k (mark ts) ≡ role → r.turn_by inner room k at left role ts ≡ Ok q → Steps k at left ts q
  unfolding r.operated r.indexed r.part
  turn_by_steps k at left Ends ts q role e = subst (Steps k at left ts) (ok_is ((left, false), ts) q e) (λ yes. absurd cc)
  turn_by_steps k at left (Infix o) ts q role e =
      let some = some_role k ts role (λ z. cc) in
      let x = bind_ok (r.operated inner room o at left ts) _ q e in
      let f = fits_then room left.height ts _ x.0 x.1 in
      let b = bind_ok (inner (right_level o) (drop 1 ts)) _ x.0 f.1 in
      let is = sound (right_level o) (drop 1 ts) b.0 b.1 in
      let made = ok_is (of_infix at o left b.0.0, b.0.1) x.0 b.2 in
      let whole = ap (λ (z : Found × Tokens). ((z.0, goes_on (grouping o)), z.1)) made ∙ ok_is _ q x.2 in
      subst (Steps k at left ts) whole (λ yes ws more y last c.
      let way = goes_left (grouping o) yes in
      let operand : Parses (k - 1) (drop 1 ts) b.0.0 b.0.1 = subst (λ n. Parses n (drop 1 ts) b.0.0 b.0.1) (sym (right_is k (mark ts) o Left role way)) is.0 in
      g.left (role_more ts ws k (Infix o) role some) way (drop_phrase ts ws some (phrase_on ws operand (something more))) c)
  turn_by_steps k at left Opens ts q role e =
      let some = some_role k ts role (λ z. cc) in
      let x = bind_ok (r.indexed inner room at left ts) _ q e in
      let f = fits_then room left.height ts _ x.0 x.1 in
      let part = bind_ok (r.part inner room chop_level (m.Symbol symbol.CloseSquare) (drop 1 ts)) _ x.0 f.1 in
      let i = part_ok chop_level (m.Symbol symbol.CloseSquare) (drop 1 ts) part.0 part.1 in
      let due = some_due i.0.1 _ i.2 (λ z. cc) in
      let made = ap (λ (z : Found × Tokens). (of_index at left z.0, z.1)) (sym i.3) ∙ ok_is (of_index at left part.0.0, part.0.1) x.0 part.2 in
      let whole = ap (λ (z : Found × Tokens). ((z.0, true), z.1)) made ∙ ok_is _ q x.2 in
      subst (Steps k at left ts) whole (λ yes ws more y last c.
      g.indexed (role_more ts ws k Opens role some) (drop_phrase ts ws some (phrase_on ws i.1.0 (something due))) (due_on i.0.1 ws _ i.2 (λ z. cc))
      (subst (λ us. Goes k at (of_index at left i.0.0) us y last) (sym (past_on i.0.1 ws due)) c))
  turn_by_steps k at left Joins ts q role e =
      let x = bind_ok (r.chained inner room k at left ts) _ q e in
      subst (Steps k at left ts) (ok_is ((x.0.0, false), x.0.1) q x.2) (λ yes. absurd cc)

  pub turn_steps : (k at : ℕ) (left : Found) (ts : Tokens) (q : (Found × Bool) × Tokens) → r.turn inner room k at left ts ≡ Ok q → Steps k at left ts q
  unfolding r.turn
  turn_steps k at left ts q e = turn_by_steps k at left (role_at k (mark ts)) ts q refl e
