-- Tokens that make a phrase of what stands before them: names for the operands that are due, and the marks after them.
use Rattle.std.proofs.Common.{◌≡◌, ◌≢◌, ℕ, zero, suc, ◌+◌, ◌-◌, ◌<◌, ◌≤◌, true, false, cond, not, eqb, leb, Option, Some, None, inl, [], ◌∷◌, refl, sym, ap, subst, ◌∙◌, arith}
use Rattle.std.proofs.lemmas.Bool.{eq-eqb, leb-true}
use Rattle.tp_lex.specs.declared.token.Token.{Token}
use Rattle.tp_lex.specs.declared.token.Kind.{Kind}
use Rattle.tp_lex.specs.declared.token.Kind.TheVariants as kind
use Rattle.tp_lex.specs.declared.token.Word.{Word}
use Rattle.tp_lex.specs.declared.token.Word.TheVariants as word
use Rattle.tp_lex.specs.declared.token.Symbol.{Symbol}
use Rattle.tp_lex.specs.declared.token.Symbol.TheVariants as symbol
use Rattle.tp_tree.specs.Levels.{chop_level}
use Rattle.tp_parse.specs.declared.mark.TokenMark.{TokenMark}
use Rattle.tp_parse.specs.declared.mark.TokenMark.TheVariants as m
use Rattle.tp_parse.specs.declared.mark.Prefix.{Prefix}
use Rattle.tp_parse.specs.declared.mark.Prefix.TheVariants.{Not, Minus, Next}
use Rattle.tp_parse.specs.declared.mark.TokenRole.TheVariants.{Ends}
use Rattle.tp_parse.specs.declared.mark.Start.{Start}
use Rattle.tp_parse.specs.declared.mark.Start.TheVariants as s
use Rattle.tp_parse.specs.declared.mark.Enclosure.{Enclosure}
use Rattle.tp_parse.specs.declared.mark.Enclosure.TheVariants as enclosure
use Rattle.tp_parse.specs.declared.head.Atom.TheVariants as a
use Rattle.tp_parse.specs.declared.head.PrimaryHead.{PrimaryHead}
use Rattle.tp_parse.specs.declared.head.PrimaryHead.TheVariants as h
use Rattle.tp_parse.specs.declared.head.Listed.{Listed}
use Rattle.tp_parse.specs.declared.head.Listed.TheVariants as l
use Rattle.tp_parse.specs.declared.head.Pair.{Pair}
use Rattle.tp_parse.specs.declared.head.Pair.TheVariants as p
use Rattle.tp_parse.specs.Marks.{kind_mark, same, prefix_at, prefix_of, level_before, level_of_prefix, before, role_of, role_at, start_of, comma, listed_level, listed_close, enclosed_level, enclosed_close, middle, Tokens, mark, from, first_number, first_name, mark_due, half_mark, past, halved, without_half}
use Rattle.tp_parse.specs.Marks as input
use Rattle.tp_parse.specs.Head.{begins, is_nothing}
use Rattle.tp_parse.specs.Grammar.{Found, no_operand, operand_then, of_atom, of_operands, of_enclosed, of_choice, of_pair, of_exists, of_prefix, open_round, BeginsPrimary, Parses, Goes, Others, Listing}
use Rattle.tp_parse.specs.Grammar as g
use Rattle.tp_parse.proofs.Marks.{same_yes, same_no}
use Rattle.tp_parse.proofs.Extended.{Stops, role_stopped}

-- ---- tokens

abbrev pub token : Kind → Token
token k = record { kind = k; from = 0; to = 0; line = 0; column = 0 }

abbrev pub word_token : Word → Token
word_token w = token (kind.Word w)

abbrev pub symbol_token : Symbol → Token
symbol_token x = token (kind.Symbol x)

-- the names `A` and `a`
abbrev pub name_token : Token
name_token = token (kind.Upper (65 ∷ []))

abbrev pub lower_token : Token
lower_token = token (kind.Lower (97 ∷ []))

pub stops_at : (t : Token) (ys : Tokens) → role_of (kind_mark t.kind) ≡ Ends → kind_mark t.kind ≢ m.Word word.Else → kind_mark t.kind ≢ open_round → Stops (t ∷ ys)
unfolding mark
stops_at t ys e f i = (e, f, i)

-- a token that is read whole where it is due
abbrev pub Whole : Token → Type 0
Whole t = half_mark (kind_mark t.kind) ≡ kind_mark t.kind

pub past_whole : (t : Token) (ys : Tokens) → Whole t → past (t ∷ ys) ≡ ys
unfolding past mark
past_whole t ys e = rw (same_yes _ _ e) refl

pub due_whole : (t : Token) (ys : Tokens) → Whole t → mark_due (t ∷ ys) ≡ kind_mark t.kind
unfolding mark
due_whole t ys e = e

pub mark_is : (t : Token) (ys : Tokens) → mark (t ∷ ys) ≡ kind_mark t.kind
unfolding mark
mark_is t ys = refl

-- a token by which an operand ends
pub record Closing (x : TokenMark) : Type 0 where
  pub close : Token
  pub is : kind_mark close.kind ≡ x
  pub whole : Whole close
  pub ends : role_of (kind_mark close.kind) ≡ Ends
  pub other : kind_mark close.kind ≢ m.Word word.Else
  pub plain : kind_mark close.kind ≢ open_round

pub due_close : {x : TokenMark} (c : Closing x) (ys : Tokens) → mark_due (c.close ∷ ys) ≡ x
due_close c ys = due_whole c.close ys c.whole ∙ c.is

pub past_close : {x : TokenMark} (c : Closing x) (ys : Tokens) → past (c.close ∷ ys) ≡ ys
past_close c ys = past_whole c.close ys c.whole

pub stops_close : {x : TokenMark} (c : Closing x) (ys : Tokens) → Stops (c.close ∷ ys)
stops_close c ys = stops_at c.close ys c.ends c.other c.plain

pub word_plain : (w : Word) → m.Word w ≢ open_round
word_plain w q = absurd cc

pub symbol_other : (x : Symbol) → m.Symbol x ≢ m.Word word.Else
symbol_other x q = absurd cc

abbrev pub by_word : (w : Word) → role_of (m.Word w) ≡ Ends → m.Word w ≢ m.Word word.Else → Closing (m.Word w)
by_word w e f = record { close = word_token w; is = refl; whole = refl; ends = e; other = f; plain = word_plain w }

abbrev pub by_symbol : (x : Symbol) → half_mark (m.Symbol x) ≡ m.Symbol x → role_of (m.Symbol x) ≡ Ends → m.Symbol x ≢ open_round → Closing (m.Symbol x)
by_symbol x e f i = record { close = symbol_token x; is = refl; whole = e; ends = f; other = symbol_other x; plain = i }

pub enclosure_close : (e : Enclosure) → Closing (enclosed_close e)
enclosure_close enclosure.Round = by_symbol symbol.CloseRound refl refl (λ q. cc)
enclosure_close enclosure.Curly = by_symbol symbol.CloseCurly refl refl (λ q. cc)
enclosure_close enclosure.Size = by_symbol symbol.Bar refl refl (λ q. cc)

pub middle_close : (x : Pair) → Closing (middle x)
middle_close p.While = by_word word.Do refl (λ q. cc)
middle_close p.Repeat = by_word word.Until refl (λ q. cc)
middle_close (p.For x) = by_word word.Do refl (λ q. cc)
middle_close (p.Forall x) = by_symbol symbol.Colon refl refl (λ q. cc)

-- ---- phrases of one name

abbrev pub name_found : Found
name_found = of_atom 0 (a.Name (65 ∷ []))

pub a_name : (k : ℕ) (ys : Tokens) → Stops ys → Parses k (name_token ∷ ys) name_found ys
unfolding mark from first_name
a_name zero ys stops = g.atom (g.upper_name {ts = name_token ∷ ys} refl)
a_name (suc k) ys stops = g.level (a_name k ys stops) (g.ends (role_stopped (suc k) (mark ys) stops.0))

pub raised_by : {j : ℕ} {ts ys : Tokens} {x : Found} (n : ℕ) → Parses j ts x ys → Stops ys → Parses (n + j) ts x ys
raised_by {j} {ts} {ys} {x} zero d stops = let same : 0 + j ≡ j = omega arith in rw same d
raised_by {j} {ts} {ys} {x} (suc n) d stops =
    let same : suc n + j ≡ suc (n + j) = omega arith in
    rw same (g.level (raised_by n d stops) (g.ends (role_stopped (suc (n + j)) (mark ys) stops.0)))

-- a phrase that is stopped is one of each higher level
pub raised : {j k : ℕ} {ts ys : Tokens} {x : Found} → Parses j ts x ys → Stops ys → j ≤ k → Parses k ts x ys
raised {j} {k} {ts} {ys} {x} d stops le = let same : (k - j) + j ≡ k = omega arith in subst (λ i. Parses i ts x ys) same (raised_by (k - j) d stops)

pub past_then : {k : ℕ} {ys rest : Tokens} {x : Found} {y : TokenMark} (c : Closing y) → Parses k ys x rest → Parses k (past (c.close ∷ ys)) x rest
past_then {k} {ys} {rest} {x} c d = subst (λ q. Parses k q x rest) (sym (past_close c ys)) d

-- ---- lists

abbrev pub list_token : Listed → Token
list_token l.List = symbol_token symbol.Greater
list_token (l.Form f) = symbol_token symbol.CloseRound
list_token (l.Call x) = symbol_token symbol.CloseRound

pub list_whole : (x : Listed) → Whole (list_token x)
list_whole l.List = refl
list_whole (l.Form f) = refl
list_whole (l.Call x) = refl

pub list_due : (x : Listed) (ys : Tokens) → mark_due (list_token x ∷ ys) ≡ listed_close x
unfolding mark
list_due l.List ys = refl
list_due (l.Form f) ys = refl
list_due (l.Call x) ys = refl

pub list_other : (x : Listed) (ys : Tokens) → mark (list_token x ∷ ys) ≢ comma
unfolding mark
list_other l.List ys q = absurd cc
list_other (l.Form f) ys q = absurd cc
list_other (l.Call x) ys q = absurd cc

-- an item that the mark after a list ends
pub last_item : (x : Listed) (ys : Tokens) → Parses (listed_level x) (name_token ∷ list_token x ∷ ys) name_found (list_token x ∷ ys)
unfolding mark from first_name role_at
last_item l.List ys =
    let here : Parses 0 (name_token ∷ list_token l.List ∷ ys) name_found (list_token l.List ∷ ys) = g.atom (g.upper_name {ts = name_token ∷ list_token l.List ∷ ys} refl) in
    g.level {k = 3} (g.level {k = 2} (g.level {k = 1} (g.level {k = 0} here (g.ends refl)) (g.ends refl)) (g.ends refl)) (g.ends refl)
last_item (l.Form f) ys = a_name chop_level (symbol_token symbol.CloseRound ∷ ys) (stops_at (symbol_token symbol.CloseRound) ys refl (λ q. cc) (λ q. cc))
last_item (l.Call x) ys = a_name chop_level (symbol_token symbol.CloseRound ∷ ys) (stops_at (symbol_token symbol.CloseRound) ys refl (λ q. cc) (λ q. cc))

pub no_items : (x : Listed) (ys : Tokens) → Listing (listed_level x) (listed_close x) (list_token x ∷ ys) no_operand ys
no_items x ys = subst (λ q. Listing (listed_level x) (listed_close x) (list_token x ∷ ys) no_operand q) (past_whole (list_token x) ys (list_whole x)) (g.no_operands (list_due x ys))

-- a comma, an item and the end, after the items before
abbrev pub list_end : Listed → Tokens → Tokens
list_end x ys = symbol_token symbol.Comma ∷ name_token ∷ list_token x ∷ ys

pub list_end_stops : (x : Listed) (ys : Tokens) → Stops (list_end x ys)
list_end_stops x ys = stops_at (symbol_token symbol.Comma) _ refl (λ q. cc) (λ q. cc)

pub last_items : (x : Listed) (ys : Tokens) → Others (listed_level x) comma (list_end x ys) (operand_then name_found no_operand) (list_token x ∷ ys)
unfolding mark
last_items x ys = g.one_more {ts = list_end x ys} refl (last_item x ys) (g.no_more (list_other x ys))

-- ---- after a head

-- whether operands have room
abbrev pub HeadRoom : ℕ → PrimaryHead → Type 0
HeadRoom room (h.Atom x) = Unit {0}
HeadRoom room (h.Listed x) = Unit {0}
HeadRoom room (h.Enclosed e) = 0 < room
HeadRoom room h.If = 0 < room
HeadRoom room (h.Paired x) = 0 < room
HeadRoom room (h.Exists xs) = 0 < room

-- a primary that begins so, and is as low as can be
abbrev pub Finished : ℕ → PrimaryHead → Tokens → Tokens → Type 0
Finished room x ts ys = (y : Found) × Parses 0 ts y ys × (HeadRoom room x → y.height ≤ suc room)

pub after_head : (room : ℕ) (x : PrimaryHead) → (next : Tokens → Tokens) × ((ts ys : Tokens) → Stops ys → BeginsPrimary ts x (next ys) → Finished room x ts ys)
after_head room (h.Atom x) = (λ ys. ys, λ ts ys stops b. (of_atom (from ts) x, g.atom b, λ some. omega arith))
after_head room (h.Listed x) = (λ ys. list_token x ∷ ys, λ ts ys stops b. (of_operands (from ts) x no_operand, g.listed b (no_items x ys), λ some. omega arith))
after_head room (h.Enclosed e) =
    let c = enclosure_close e in (
      λ ys. name_token ∷ c.close ∷ ys,
      λ ts ys stops b. (
        of_enclosed (from ts) e name_found,
        subst (λ q. Parses 0 ts (of_enclosed (from ts) e name_found) q) (past_close c ys) (g.enclosed b (a_name (enclosed_level e) (c.close ∷ ys) (stops_close c ys)) (due_close c ys)),
        λ some. omega arith,
      ),
    )
after_head room h.If =
    let c = by_word word.Then refl (λ q. cc) in (
      λ ys. name_token ∷ c.close ∷ name_token ∷ ys,
      λ ts ys stops b. (
        of_choice (from ts) name_found name_found,
        g.if_then b (a_name chop_level (c.close ∷ name_token ∷ ys) (stops_close c (name_token ∷ ys))) (due_close c (name_token ∷ ys)) (past_then c (a_name chop_level ys stops)) stops.1,
        λ some. omega arith,
      ),
    )
after_head room (h.Paired x) =
    let c = middle_close x in (
      λ ys. name_token ∷ c.close ∷ name_token ∷ ys,
      λ ts ys stops b. (
        of_pair (from ts) x name_found name_found,
        g.paired b (a_name chop_level (c.close ∷ name_token ∷ ys) (stops_close c (name_token ∷ ys))) (due_close c (name_token ∷ ys)) (past_then c (a_name chop_level ys stops)),
        λ some. omega arith,
      ),
    )
after_head room (h.Exists xs) = (λ ys. name_token ∷ ys, λ ts ys stops b. (of_exists (from ts) xs name_found, g.quantified b (a_name chop_level ys stops), λ some. omega arith))

-- ---- after a token that begins a phrase

-- what makes a phrase of the level of a token
abbrev pub Alone : ℕ → Token → Type 0
Alone k t = (next : Tokens → Tokens) × ((ys : Tokens) → Stops ys → (y : Found) × Parses k (t ∷ next ys) y ys)

-- by a head, the rest of which stands in the first tokens
by_head : {t : Token} (x : PrimaryHead) (rest : Tokens → Tokens) → ((zs ys : Tokens) → zs ≡ (after_head 0 x).0 ys → Stops ys → BeginsPrimary (t ∷ rest zs) x zs) → Alone 0 t
by_head {t} x rest begun =
    let after = after_head 0 x in
    (λ ys. rest (after.0 ys), λ ys stops. let made = after.1 (t ∷ rest (after.0 ys)) ys stops (begun (after.0 ys) ys refl stops) in (made.0, made.1))

no_list_word : (w : Word) → start_of (m.Word w) ≢ s.List
no_list_word word.True e = absurd cc
no_list_word _ e = absurd cc

past_half : (t : Token) (zs : Tokens) → t.kind ≡ kind.Symbol symbol.Arrow → past (t ∷ zs) ≡ halved t ∷ zs
unfolding past mark
past_half t zs at =
    let arrow : same (half_mark (kind_mark t.kind)) (kind_mark t.kind) ≡ false = rw at (same_no (m.Symbol symbol.Less) (m.Symbol symbol.Arrow) (λ q. cc)) in
    rw arrow refl

minus_at : prefix_at 2 (m.Symbol symbol.Minus) ≡ Some Minus
unfolding prefix_at
minus_at = refl

-- a list whose `<` is half of a token: what is left of it is a minus
half_list : (t : Token) → t.kind ≡ kind.Symbol symbol.Arrow → Alone 0 t
unfolding mark from first_name role_at
half_list t at = (
  λ ys. name_token ∷ list_token l.List ∷ ys,
  λ ys stops.
      let end = list_token l.List ∷ ys in
      let us = halved t ∷ name_token ∷ end in
      let begun : BeginsPrimary (t ∷ name_token ∷ end) (h.Listed l.List) us =
      subst (λ q. BeginsPrimary (t ∷ name_token ∷ end) (h.Listed l.List) q) (past_half t (name_token ∷ end) at) (g.list {ts = t ∷ name_token ∷ end} (ap (λ k. start_of (kind_mark k)) at)) in
      let here : Parses 0 (name_token ∷ end) name_found end = g.atom (g.upper_name {ts = name_token ∷ end} refl) in
      let name : Parses 2 (name_token ∷ end) name_found end = g.level {k = 1} (g.level {k = 0} here (g.ends refl)) (g.ends refl) in
      let minus : prefix_at 2 (mark us) ≡ Some Minus = ap (λ k. prefix_at 2 (kind_mark (without_half k))) at ∙ minus_at in
      let item : Parses 2 us (of_prefix (from us) Minus name_found) end = g.prefixed {k = 1} minus name in
      let sum : Parses 4 us (of_prefix (from us) Minus name_found) end = g.level {k = 3} (g.level {k = 2} item (g.ends refl)) (g.ends refl) in
      let all = operand_then (of_prefix (from us) Minus name_found) no_operand in
      let listing : Listing (listed_level l.List) (listed_close l.List) us all ys =
      subst (λ q. Listing 4 (listed_close l.List) us all q) (past_whole (list_token l.List) ys refl) (g.operands sum (g.no_more (list_other l.List ys)) (list_due l.List ys)) in
      (of_operands t.from l.List all, g.listed begun listing),
)

list_alone : (t : Token) (k : Kind) → t.kind ≡ k → start_of (kind_mark k) ≡ s.List → Alone 0 t
unfolding mark past
list_alone t (kind.Symbol symbol.Less) at e =
    by_head (h.Listed l.List) (λ zs. zs) (λ zs ys q stops.
    let whole : Whole t = ap (λ k. half_mark (kind_mark k)) at ∙ ap kind_mark (sym at) in
    subst (λ us. BeginsPrimary (t ∷ zs) (h.Listed l.List) us) (past_whole t zs whole) (g.list {ts = t ∷ zs} (ap (λ k. start_of (kind_mark k)) at)))
list_alone t (kind.Symbol symbol.Arrow) at e = half_list t at
list_alone t (kind.Symbol _) at e = absurd cc
list_alone t (kind.Word w) at e = absurd (no_list_word w e)
list_alone t (kind.Upper x) at e = absurd cc
list_alone t (kind.Lower x) at e = absurd cc
list_alone t (kind.Number n) at e = absurd cc

pub alone : (t : Token) (x : Start) → start_of (kind_mark t.kind) ≡ x → x ≢ s.Nothing → Alone 0 t
unfolding mark first_number first_name after_head
alone t s.Nothing e some = absurd (some refl)
alone t s.Number e some = by_head (h.Atom (a.Number (input.kind_number t.kind))) (λ zs. zs) (λ zs ys q stops. g.number {ts = t ∷ zs} e)
alone t s.Name e some = by_head (h.Atom (a.Name (input.kind_name t.kind))) (λ zs. zs) (λ zs ys q stops. g.upper_name {ts = t ∷ zs} e)
alone t s.NameOrCall e some = by_head (h.Atom (a.Name (input.kind_name t.kind))) (λ zs. zs) (λ zs ys q stops. g.lower_name {ts = t ∷ zs} e (subst (λ us. mark us ≢ open_round) (sym q) stops.2))
alone t (s.Truth b) e some = by_head (h.Atom (a.Truth b)) (λ zs. zs) (λ zs ys q stops. g.truth {ts = t ∷ zs} e)
alone t (s.Bare w) e some = by_head (h.Atom (a.Bare w)) (λ zs. zs) (λ zs ys q stops. g.bare {ts = t ∷ zs} e)
alone t s.EmptyList e some = by_head (h.Atom a.EmptyList) (λ zs. zs) (λ zs ys q stops. g.empty_list {ts = t ∷ zs} e)
alone t s.List e some = list_alone t t.kind refl e
alone t (s.Form f) e some = by_head (h.Listed (l.Form f)) (λ zs. symbol_token symbol.OpenRound ∷ zs) (λ zs ys q stops.
    let round = symbol_token symbol.OpenRound in
    subst (λ us. BeginsPrimary (t ∷ round ∷ zs) (h.Listed (l.Form f)) us) (past_whole round zs refl) (g.form {ts = t ∷ round ∷ zs} e refl))
alone t (s.Enclosed x) e some = by_head (h.Enclosed x) (λ zs. zs) (λ zs ys q stops. g.enclosure {ts = t ∷ zs} e)
alone t s.If e some = by_head h.If (λ zs. zs) (λ zs ys q stops. g.if {ts = t ∷ zs} e)
alone t s.While e some = by_head (h.Paired p.While) (λ zs. zs) (λ zs ys q stops. g.while {ts = t ∷ zs} e)
alone t s.Repeat e some = by_head (h.Paired p.Repeat) (λ zs. zs) (λ zs ys q stops. g.repeat {ts = t ∷ zs} e)
alone t s.For e some = by_head (h.Paired (p.For (97 ∷ []))) (λ zs. lower_token ∷ symbol_token symbol.Less ∷ zs) (λ zs ys q stops.
    let less = symbol_token symbol.Less in
    subst (λ us. BeginsPrimary (t ∷ lower_token ∷ less ∷ zs) (h.Paired (p.For (97 ∷ []))) us) (past_whole less zs refl) (g.for {ts = t ∷ lower_token ∷ less ∷ zs} e refl refl))
alone t s.Forall e some = by_head (h.Paired (p.Forall (97 ∷ []))) (λ zs. lower_token ∷ symbol_token symbol.Less ∷ zs) (λ zs ys q stops.
    let less = symbol_token symbol.Less in
    subst (λ us. BeginsPrimary (t ∷ lower_token ∷ less ∷ zs) (h.Paired (p.Forall (97 ∷ []))) us) (past_whole less zs refl) (g.forall {ts = t ∷ lower_token ∷ less ∷ zs} e refl refl))
alone t s.Exists e some = by_head (h.Exists ((65 ∷ []) ∷ [])) (λ zs. name_token ∷ symbol_token symbol.Colon ∷ zs) (λ zs ys q stops.
    let end = symbol_token symbol.Colon in
    subst (λ us. BeginsPrimary (t ∷ name_token ∷ end ∷ zs) (h.Exists ((65 ∷ []) ∷ [])) us) (past_whole end zs refl)
    (g.exists {ts = t ∷ name_token ∷ end ∷ zs} {mid = end ∷ zs} e (g.last_name {ts = name_token ∷ end ∷ zs} (inl refl) (λ z. cc)) refl))

prefix_high : (o : Prefix) → 0 < level_of_prefix o
prefix_high Not = omega arith
prefix_high Minus = omega arith
prefix_high Next = omega arith

-- an operator before an operand, and a name
operator_alone : (t : Token) (o : Option Prefix) → prefix_of (kind_mark t.kind) ≡ o → eqb (before (kind_mark t.kind)) 0 ≡ false → (ys : Tokens) → Stops ys
    → (y : Found) × Parses (before (kind_mark t.kind)) (t ∷ name_token ∷ ys) y ys
unfolding mark prefix_at
operator_alone t None at own ys stops =
    let none : before (kind_mark t.kind) ≡ 0 = ap level_before at in
    let equal = eq-eqb (before (kind_mark t.kind)) 0 none in
    absurd cc
operator_alone t (Some o) at own ys stops =
    let x = kind_mark t.kind in
    let is : before x ≡ level_of_prefix o = ap level_before at in
    let made : prefix_at (before x) x ≡ Some o = rw (eq-eqb (before x) (before x) refl) at in
    let n = before x - 1 in
    let same : suc n ≡ before x = omega (arith, prefix_high o) in
    let operand = a_name (suc n) ys stops in (
      of_prefix (from (t ∷ name_token ∷ ys)) o name_found,
      subst (λ i. Parses i (t ∷ name_token ∷ ys) (of_prefix (from (t ∷ name_token ∷ ys)) o name_found) ys) same
          (g.prefixed {k = n} {ts = t ∷ name_token ∷ ys} (subst (λ i. prefix_at i x ≡ Some o) (sym same) made) operand),
    )

-- a token that begins a phrase of the level makes one with what is fresh
pub begun_alone : (k : ℕ) (t : Token) → begins k (kind_mark t.kind) ≡ true → Alone k t
unfolding begins
begun_alone k t e =
    let x = kind_mark t.kind in
    elim (eqb (before x) 0) as (λ b. eqb (before x) 0 ≡ b → cond b (not (is_nothing (start_of x))) (leb (before x) k) ≡ true → Alone k t) [
      | true ↦ λ plain some.
          let one = alone t (start_of x) refl (λ q. let no : is_nothing (start_of x) ≡ true = ap is_nothing q in absurd cc) in
          (one.0, λ ys stops. let made = one.1 ys stops in (made.0, raised made.1 stops (omega arith)))
      | false ↦ λ own low. (
        λ ys. name_token ∷ ys,
        λ ys stops.
            let made = operator_alone t (prefix_of x) refl own ys stops in
            (made.0, raised made.1 stops (leb-true (before x) k low)),
      )
    ] refl e
