-- A phrase whose reading came to the end of the tokens, or found no room at the last one, can be finished.
use Rattle.std.proofs.Common.{◌≡◌, ◌≤◌, ◌≢◌, ℕ, zero, suc, ◌-◌, ◌<◌, true, inl, inr, Some, None, [], ◌∷◌, ◌++◌, length, drop, Ok, Err, refl, sym, ap, subst, ◌∙◌, arith}
use Rattle.tp_lex.specs.declared.token.Word.TheVariants as word
use Rattle.tp_lex.specs.declared.token.Symbol.TheVariants as symbol
use Rattle.tp_tree.specs.declared.operator.Op.{Op}
use Rattle.tp_tree.specs.Levels.{chop_level, right_level}
use Rattle.tp_parse.specs.declared.stop.Refusal.{Refusal}
use Rattle.tp_parse.specs.declared.stop.Refusal.TheVariants.{Unfinished}
use Rattle.tp_parse.specs.declared.mark.TokenMark.{TokenMark}
use Rattle.tp_parse.specs.declared.mark.TokenMark.TheVariants as m
use Rattle.tp_parse.specs.declared.mark.TokenRole.{TokenRole}
use Rattle.tp_parse.specs.declared.mark.TokenRole.TheVariants.{Ends, Infix, Opens, Joins}
use Rattle.tp_parse.specs.declared.mark.Start.TheVariants as s
use Rattle.tp_parse.specs.declared.head.PrimaryHead.{PrimaryHead}
use Rattle.tp_parse.specs.declared.head.PrimaryHead.TheVariants as h
use Rattle.tp_parse.specs.declared.head.Listed.{Listed}
use Rattle.tp_parse.specs.declared.head.Pair.{Pair}
use Rattle.tp_parse.specs.Marks.{same, kind_mark, prefix_at, role_at, start_of, comma, listed_level, listed_close, enclosed_level, enclosed_close, middle, Tokens, mark, from, mark_due, past}
use Rattle.tp_parse.specs.Readers.{TokenReader, and_then, pure, sees, expect, deepen}
use Rattle.tp_parse.specs.Head.{head_by, is_high, admit}
use Rattle.tp_parse.specs.Grammar.{Found, Operands, no_operand, operand_then, operands_of, of_operands, of_enclosed, of_choice, of_choice_else, of_pair, of_exists, of_prefix, of_infix, of_index, of_chain, BeginsPrimary, Parses, Goes, Others, Listing}
use Rattle.tp_parse.specs.Seen.{then_operand}
use Rattle.tp_parse.specs.Reading as r
use Rattle.tp_parse.specs.Reading.{goes_on, fits}
use Rattle.tp_parse.specs.Grammar as g
use Rattle.tp_parse.proofs.Marks.{same_is}
use Rattle.tp_parse.proofs.Shapes.{tall}
use Rattle.tp_parse.proofs.Heads.{chosen, head_sound, chosen_at}
use Rattle.tp_parse.proofs.Sound.{Is, others_sound, levels_sound, turn_sound, turn_fewer, read_sound}
use Rattle.tp_parse.proofs.Within.{some_by_prefix}
use Rattle.tp_parse.proofs.Extended.{Stops, something, role_stopped, joined_not, mark_on, some_mark, some_due, some_role, role_more, due_on, phrase_on, past_phrase, drop_phrase, from_on, some_phrase, head_on, middle_real}
use Rattle.tp_parse.proofs.Fresh.{name_token, name_found, a_name, mark_is, Closing, due_close, past_close, stops_close, by_symbol, by_word, enclosure_close, middle_close, list_token, list_due, no_items, list_end, list_end_stops, last_items, HeadRoom, after_head, alone}
use Rattle.tp_parse.proofs.Finishes.{Ended, bind_err, expect_err, deep_last, deepen_err, deepen_room, fits_err, fits_room, admit_err, admit_room, head_finish, some_start}
use Rattle.tp_parse.proofs.Endings.{FoundEnding, PartEnding, OthersEnding, ListEnding, PhraseEnding, GoesEnding, others_join, closed, joins_mark, after_last, infix_last, index_last, roomed, unfit_finish, part_ok, turn_steps}

module _ (inner : ℕ → TokenReader Found) (room : ℕ) (sound : (k : ℕ) (ts : Tokens) (p : Found × Tokens) → inner k ts ≡ Ok p → Is room k ts p)
    (finish : (k : ℕ) (ts : Tokens) (e : Refusal) → inner k ts ≡ Err e → Ended e → FoundEnding room k ts e) where
  part_finish : (k : ℕ) (close : TokenMark) (c : Closing close) (ts : Tokens) (e : Refusal) → r.part inner room k close ts ≡ Err e → Ended e → (e ≡ Unfinished → 0 < room) → PartEnding room k close ts e
  unfolding r.part
  part_finish k close c ts e is end some =
      elim (bind_err (inner k ts) _ e is) [
        | inl w ↦
            let f = finish k ts e w end in
            (λ ys. f.next (c.close ∷ ys), λ ys. let made = f.finished (c.close ∷ ys) (stops_close c ys) in (made.0, c.close ∷ ys, made.1, due_close c ys, past_close c ys, λ u. made.2 u (some u)))
        | inr w ↦
            let got = sound k ts w.0 w.1 in
            elim (bind_err (expect close w.0.1) _ e w.2) [
              | inl v ↦
                  let none = expect_err close w.0.1 e v end in (
                    λ ys. c.close ∷ ys,
                    λ ys. (
                      w.0.0,
                      c.close ∷ ys,
                      subst (λ q. Parses k (ts ++ c.close ∷ ys) w.0.0 (q ++ c.close ∷ ys)) none (phrase_on (c.close ∷ ys) got.0 (record { stops = λ q. stops_close c ys })),
                      due_close c ys,
                      past_close c ys,
                      λ u. got.1,
                    ),
                  )
              | inr v ↦ absurd cc
            ]
      ]

  others_finish : (k : ℕ) (separator : TokenMark) (n : ℕ) (all : Operands) (ts : Tokens) (e : Refusal) → separator ≢ m.End → 0 < room
      → r.others_from inner room k separator n all ts ≡ Err e → Ended e → OthersEnding room k separator ts e
  unfolding r.others_from
  others_finish k separator zero all ts e real low is end = absurd cc
  others_finish k separator (suc n) all ts e real low is end =
      elim (chosen (sees separator ts) _ _ _ is) [
        | inl w ↦
            let here = same_is _ _ w.0 in
            let some = some_mark ts separator here real in
            elim (bind_err (inner k (drop 1 ts)) _ e w.1) [
              | inl v ↦
                  let f = finish k (drop 1 ts) e v end in (
                    f.next,
                    (λ ys rest more stops o.
                        let made = f.finished ys stops in
                        (operand_then made.0 more, g.one_more (mark_on ts (f.next ys) some ∙ here) (drop_phrase ts (f.next ys) some made.1) o, λ u fewer. omega (arith, made.2 u low, fewer))),
                    some,
                  )
              | inr v ↦
                  let got = sound k (drop 1 ts) v.0 v.1 in
                  let f = others_finish k separator n (then_operand all v.0.0) v.0.1 e real low v.2 end in (
                    f.0,
                    (λ ys rest more stops o.
                        let made = f.1 ys rest more stops o in
                        (operand_then v.0.0 made.0, g.one_more (mark_on ts (f.0 ys) some ∙ here) (drop_phrase ts (f.0 ys) some (phrase_on (f.0 ys) got.0 (something f.2))) made.1, λ u fewer. omega (arith, got.1, made.2 u fewer))),
                    some,
                  )
            ]
        | inr w ↦ absurd cc
      ]

  first_item : (x : Listed) (ts : Tokens) (e : Refusal) → FoundEnding room (listed_level x) ts e → ListEnding room x ts e
  first_item x [] e f = (λ ys. list_token x ∷ ys, λ ys. (no_operand, no_items x ys, λ u. omega arith))
  first_item x (t ∷ ts) e f = (
    λ ys. f.next (list_end x ys),
    λ ys.
        let made = f.finished (list_end x ys) (list_end_stops x ys) in
        (operand_then made.0 (operand_then name_found no_operand), closed x ys (g.operands made.1 (last_items x ys) (list_due x ys)), λ u. let some = f.roomy u (omega arith) in omega (arith, some, made.2 u some)),
  )

  operands_finish : (x : Listed) (ts : Tokens) (e : Refusal) → r.operands inner room (listed_level x) (listed_close x) ts ≡ Err e → Ended e → ListEnding room x ts e
  unfolding r.operands r.others
  operands_finish x ts e is end =
      elim (chosen (same (mark_due ts) (listed_close x)) _ _ _ is) [
        | inl w ↦ absurd cc
        | inr w ↦ elim (bind_err (inner (listed_level x) ts) _ e w.1) [
          | inl v ↦ first_item x ts e (finish (listed_level x) ts e v end)
          | inr v ↦
              let got = sound (listed_level x) ts v.0 v.1 in
              let low : 0 < room = omega (arith, tall got.0, got.1) in
              let first = operands_of (v.0.0.tree ∷ []) v.0.0.height in
              elim (bind_err (r.others_from inner room (listed_level x) comma (length v.0.1) first v.0.1) _ e v.2) [
                | inl z ↦
                    let f = others_finish (listed_level x) comma (length v.0.1) first v.0.1 e (λ q. cc) low z end in (
                      λ ys. f.0 (list_end x ys),
                      λ ys.
                          let made = f.1 (list_end x ys) (list_token x ∷ ys) (operand_then name_found no_operand) (list_end_stops x ys) (last_items x ys) in
                          (operand_then v.0.0 made.0, closed x ys (g.operands (phrase_on (f.0 (list_end x ys)) got.0 (something f.2)) made.1 (list_due x ys)), λ u. omega (arith, got.1, made.2 u (omega arith))),
                    )
                | inr z ↦ elim (bind_err (expect (listed_close x) z.0.1) _ e z.2) [
                  | inl y ↦
                      let none = expect_err (listed_close x) z.0.1 e y end in
                      let more = others_sound inner room sound (listed_level x) comma (length v.0.1) first v.0.1 z.0 (λ q. cc) (omega arith) got.1 z.1 in (
                        list_end x,
                        λ ys.
                            let made = others_join more.1 none (λ q. cc) (list_end_stops x ys) (last_items x ys) in
                            (operand_then v.0.0 made.0, closed x ys (g.operands (phrase_on (list_end x ys) got.0 (record { stops = λ q. list_end_stops x ys })) made.1 (list_due x ys)), λ u. omega (arith, got.1, more.3, made.2)),
                      )
                  | inr y ↦ absurd cc
                ]
              ]
        ]
      ]

  -- an operand which ends so, behind the mark that is due before it
  second_finish : (us ts : Tokens) (e : Refusal) → ts ≡ past us → 0 < length us → inner chop_level ts ≡ Err e → Ended e
      → (next : Tokens → Tokens) × ((ys : Tokens) → Stops ys → (x : Found) × Parses chop_level (past (us ++ next ys)) x ys × (e ≡ Unfinished → 0 < room → x.height ≤ room))
  second_finish us ts e left some is end =
      let f = finish chop_level ts e is end in
      (f.next, λ ys stops. let made = f.finished ys stops in (made.0, past_phrase us (f.next ys) some (subst (λ q. Parses chop_level (q ++ f.next ys) made.0 ys) left made.1), made.2))

  choice_finish : (ts mid : Tokens) (e : Refusal) → BeginsPrimary ts h.If mid → 0 < room → r.choice inner room (from ts) mid ≡ Err e → Ended e → PhraseEnding room 0 ts e
  unfolding r.choice r.else_part
  choice_finish ts mid e b low is end =
      let then = by_word word.Then refl (λ q. cc) in
      elim (bind_err (r.part inner room chop_level (m.Word word.Then) mid) _ e is) [
        | inl w ↦
            let f = part_finish chop_level (m.Word word.Then) then mid e w end (λ u. low) in (
              λ ys. f.0 (name_token ∷ ys),
              λ ys stops.
                  let made = f.1 (name_token ∷ ys) in
                  let ws = f.0 (name_token ∷ ys) in
                  let second : Parses chop_level (past made.1) name_found ys = subst (λ q. Parses chop_level q name_found ys) (sym made.4) (a_name chop_level ys stops) in
                  (of_choice (from (ts ++ ws)) made.0 name_found, g.if_then (head_on ws b (λ z q. absurd cc)) made.2 made.3 second stops.1, λ u. omega (arith, low, made.5 u)),
            )
        | inr w ↦
            let one = part_ok inner room sound chop_level (m.Word word.Then) mid w.0 w.1 in
            let some = some_due one.0.1 _ one.2 (λ q. cc) in
            let left : w.0.1 ≡ past one.0.1 = ap (λ (q : Found × Tokens). q.1) one.3 in
            elim (bind_err (inner chop_level w.0.1) _ e w.2) [
              | inl v ↦
                  let f = second_finish one.0.1 w.0.1 e left some v end in
                  (f.0, λ ys stops. let made = f.1 ys stops in (of_choice (from (ts ++ f.0 ys)) one.0.0 made.0, g.if_then (head_on (f.0 ys) b (λ z q. absurd cc)) (phrase_on (f.0 ys) one.1.0 (something some)) (due_on one.0.1 (f.0 ys) _ one.2 (λ q. cc)) made.1 stops.1, λ u. omega (arith, one.1.1, made.2 u low)))
              | inr v ↦
                  let got = sound chop_level w.0.1 v.0 v.1 in
                  elim (chosen (sees (m.Word word.Else) v.0.1) _ _ _ v.2) [
                    | inl z ↦
                        let here = same_is _ _ z.0 in
                        let some2 = some_mark v.0.1 _ here (λ q. cc) in
                        elim (bind_err (inner chop_level (drop 1 v.0.1)) _ e z.1) [
                          | inl y ↦
                              let f = finish chop_level (drop 1 v.0.1) e y end in (
                                f.next,
                                λ ys stops.
                                    let made = f.finished ys stops in
                                    let ws = f.next ys in
                                    let yes : Parses chop_level (past one.0.1) v.0.0 v.0.1 = subst (λ q. Parses chop_level q v.0.0 v.0.1) left got.0 in
                                    let second = past_phrase one.0.1 ws some (phrase_on ws yes (something some2)) in
                                    let third = drop_phrase v.0.1 ws some2 made.1 in (
                                      of_choice_else (from (ts ++ ws)) one.0.0 v.0.0 made.0,
                                      g.if_else (head_on ws b (λ z q. absurd cc)) (phrase_on ws one.1.0 (something some)) (due_on one.0.1 ws _ one.2 (λ q. cc)) second (mark_on v.0.1 ws some2 ∙ here) third,
                                      λ u. omega (arith, one.1.1, got.1, made.2 u low),
                                    ),
                              )
                          | inr y ↦ absurd cc
                        ]
                    | inr z ↦ absurd cc
                  ]
            ]
      ]

  paired_finish : (q : Pair) (ts mid : Tokens) (e : Refusal) → BeginsPrimary ts (h.Paired q) mid → 0 < room → r.primary_by inner room (from ts) (h.Paired q) mid ≡ Err e → Ended e → PhraseEnding room 0 ts e
  paired_finish q ts mid e b low is end =
      elim (bind_err (r.part inner room chop_level (middle q) mid) _ e is) [
        | inl w ↦
            let f = part_finish chop_level (middle q) (middle_close q) mid e w end (λ u. low) in (
              λ ys. f.0 (name_token ∷ ys),
              λ ys stops.
                  let made = f.1 (name_token ∷ ys) in
                  let ws = f.0 (name_token ∷ ys) in
                  let second : Parses chop_level (past made.1) name_found ys = subst (λ us. Parses chop_level us name_found ys) (sym made.4) (a_name chop_level ys stops) in
                  (of_pair (from (ts ++ ws)) q made.0 name_found, g.paired (head_on ws b (λ z y. absurd cc)) made.2 made.3 second, λ u. omega (arith, low, made.5 u)),
            )
        | inr w ↦
            let one = part_ok inner room sound chop_level (middle q) mid w.0 w.1 in
            let some = some_due one.0.1 _ one.2 (middle_real q) in
            let left : w.0.1 ≡ past one.0.1 = ap (λ (z : Found × Tokens). z.1) one.3 in
            elim (bind_err (inner chop_level w.0.1) _ e w.2) [
              | inl v ↦
                  let f = second_finish one.0.1 w.0.1 e left some v end in
                  (f.0, λ ys stops. let made = f.1 ys stops in (of_pair (from (ts ++ f.0 ys)) q one.0.0 made.0, g.paired (head_on (f.0 ys) b (λ z y. absurd cc)) (phrase_on (f.0 ys) one.1.0 (something some)) (due_on one.0.1 (f.0 ys) _ one.2 (middle_real q)) made.1, λ u. omega (arith, one.1.1, made.2 u low)))
              | inr v ↦ absurd cc
            ]
      ]

  primary_by_finish : (x : PrimaryHead) (ts mid : Tokens) (e : Refusal) → BeginsPrimary ts x mid → HeadRoom room x → r.primary_by inner room (from ts) x mid ≡ Err e → Ended e → PhraseEnding room 0 ts e
  primary_by_finish (h.Atom x) ts mid e b low is end = absurd cc
  primary_by_finish (h.Listed x) ts mid e b low is end =
      elim (bind_err (r.operands inner room (listed_level x) (listed_close x) mid) _ e is) [
        | inl w ↦
            let f = operands_finish x mid e w end in
            (f.0, λ ys stops. let made = f.1 ys in (of_operands (from (ts ++ f.0 ys)) x made.0, g.listed (head_on (f.0 ys) b (λ z q. absurd cc)) made.1, λ u. omega (arith, made.2 u)))
        | inr w ↦ absurd cc
      ]
  primary_by_finish (h.Enclosed x) ts mid e b low is end =
      elim (bind_err (r.part inner room (enclosed_level x) (enclosed_close x) mid) _ e is) [
        | inl w ↦
            let f = part_finish (enclosed_level x) (enclosed_close x) (enclosure_close x) mid e w end (λ u. low) in (
              f.0,
              λ ys stops.
                  let made = f.1 ys in
                  let ws = f.0 ys in (
                    of_enclosed (from (ts ++ ws)) x made.0,
                    subst (λ q. Parses 0 (ts ++ ws) (of_enclosed (from (ts ++ ws)) x made.0) q) made.4 (g.enclosed (head_on ws b (λ z q. absurd cc)) made.2 made.3),
                    λ u. omega (arith, made.5 u),
                  ),
            )
        | inr w ↦ absurd cc
      ]
  primary_by_finish h.If ts mid e b low is end = choice_finish ts mid e b low is end
  primary_by_finish (h.Paired q) ts mid e b low is end = paired_finish q ts mid e b low is end
  primary_by_finish (h.Exists xs) ts mid e b low is end =
      elim (bind_err (inner chop_level mid) _ e is) [
        | inl w ↦
            let f = finish chop_level mid e w end in
            (f.next, λ ys stops. let made = f.finished ys stops in (of_exists (from (ts ++ f.next ys)) xs made.0, g.quantified (head_on (f.next ys) b (λ z q. absurd cc)) made.1, λ u. omega (arith, made.2 u low)))
        | inr w ↦ absurd cc
      ]

  primary_finish : (ts : Tokens) (e : Refusal) → r.primary inner room ts ≡ Err e → Ended e → PhraseEnding room 0 ts e
  unfolding r.primary
  primary_finish ts e is end =
      elim (bind_err (admit room (start_of (mark ts)) ts) _ e is) [
        | inl w ↦
            let refused = admit_err room (start_of (mark ts)) ts e w in
            let real : start_of (mark ts) ≢ s.Nothing = λ q. let no : is_high s.Nothing ≡ true = ap is_high (sym q) ∙ refused.0 in absurd cc in
            let last = deep_last ts e refused.1 end (some_start ts real) in
            let same : mark ts ≡ kind_mark last.0.kind = ap mark last.1 ∙ mark_is last.0 [] in
            let one = alone last.0 (start_of (kind_mark last.0.kind)) refl (λ q. real (ap start_of same ∙ q)) in
            (one.0, λ ys stops. let made = one.1 ys stops in (made.0, subst (λ us. Parses 0 (us ++ one.0 ys) made.0 ys) (sym last.1) made.1, λ u. absurd (last.2 u)))
        | inr w ↦
            let got = admit_room room (start_of (mark ts)) ts w.0 w.1 in
            let later : and_then (head_by (start_of (mark ts)) ts) (λ head vs. r.primary_by inner room (from ts) head vs) ≡ Err e =
            subst (λ us. and_then (head_by (start_of (mark ts)) us) (λ head vs. r.primary_by inner room (from ts) head vs) ≡ Err e) got.1 w.2 in
            elim (bind_err (head_by (start_of (mark ts)) ts) _ e later) [
              | inl v ↦
                  let f = head_finish (start_of (mark ts)) ts e refl v end in
                  let after = after_head room f.head in (
                    λ ys. f.next (after.0 ys),
                    λ ys stops.
                        let made = after.1 (ts ++ f.next (after.0 ys)) ys stops (f.begun (after.0 ys)) in
                        (made.0, made.1, λ u. made.2 (f.room room got.0)),
                  )
              | inr v ↦
                  let b = head_sound (start_of (mark ts)) ts v.0 refl v.1 in
                  primary_by_finish v.0.0 ts v.0.1 e b (roomed room b got.0) v.2 end
            ]
      ]

  -- ---- what goes on with an operand

  operated_finish : (k : ℕ) (o : Op) (at : ℕ) (left : Found) (ts : Tokens) (e : Refusal) → role_at k (mark ts) ≡ Infix o → r.operated inner room o at left ts ≡ Err e → Ended e → GoesEnding room k at left ts e
  unfolding r.operated
  operated_finish k o at left ts e role is end =
      let some = some_role k ts role (λ q. cc) in
      elim (bind_err (fits room left.height ts) _ e is) [
        | inl w ↦
            let last = deep_last ts e (fits_err room left.height ts e w) end some in
            (λ ys. name_token ∷ ys, (λ ys stops. (of_infix at o left name_found, infix_last k o at left ts (name_token ∷ ys) ys name_found role (after_last last.1 (a_name (right_level o) ys stops)) stops, λ u. absurd (last.2 u))), some)
        | inr w ↦
            let got = fits_room room left.height ts w.0 w.1 in
            elim (bind_err (inner (right_level o) (drop 1 w.0.1)) _ e w.2) [
              | inl v ↦
                  let f = finish (right_level o) (drop 1 w.0.1) e v end in (
                    f.next,
                    (λ ys stops.
                        let made = f.finished ys stops in
                        let operand = subst (λ us. Parses (right_level o) (drop 1 us ++ f.next ys) made.0 ys) got.2 made.1 in
                        (of_infix at o left made.0, infix_last k o at left ts (f.next ys) ys made.0 role operand stops, λ u low. omega (arith, got.1, made.2 u got.0))),
                    some,
                  )
              | inr v ↦ absurd cc
            ]
      ]

  indexed_finish : (k at : ℕ) (left : Found) (ts : Tokens) (e : Refusal) → role_at k (mark ts) ≡ Opens → r.indexed inner room at left ts ≡ Err e → Ended e → GoesEnding room k at left ts e
  unfolding r.indexed
  indexed_finish k at left ts e role is end =
      let some = some_role k ts role (λ q. cc) in
      let close = by_symbol symbol.CloseSquare refl refl (λ q. cc) in
      elim (bind_err (fits room left.height ts) _ e is) [
        | inl w ↦
            let last = deep_last ts e (fits_err room left.height ts e w) end some in (
              λ ys. name_token ∷ close.close ∷ ys,
              (λ ys stops.
                  let i = after_last last.1 (a_name chop_level (close.close ∷ ys) (stops_close close ys)) in
                  (of_index at left name_found, index_last k at left ts (name_token ∷ close.close ∷ ys) (close.close ∷ ys) ys name_found role i (due_close close ys) (past_close close ys) stops, λ u. absurd (last.2 u))),
              some,
            )
        | inr w ↦
            let got = fits_room room left.height ts w.0 w.1 in
            elim (bind_err (r.part inner room chop_level (m.Symbol symbol.CloseSquare) (drop 1 w.0.1)) _ e w.2) [
              | inl v ↦
                  let f = part_finish chop_level (m.Symbol symbol.CloseSquare) close (drop 1 w.0.1) e v end (λ u. got.0) in (
                    f.0,
                    (λ ys stops.
                        let made = f.1 ys in
                        let i = subst (λ us. Parses chop_level (drop 1 us ++ f.0 ys) made.0 made.1) got.2 made.2 in
                        (of_index at left made.0, index_last k at left ts (f.0 ys) made.1 ys made.0 role i made.3 made.4 stops, λ u low. omega (arith, got.1, made.5 u))),
                    some,
                  )
              | inr v ↦ absurd cc
            ]
      ]

  chained_finish : (k at : ℕ) (left : Found) (ts : Tokens) (e : Refusal) → role_at k (mark ts) ≡ Joins → r.chained inner room k at left ts ≡ Err e → Ended e → GoesEnding room k at left ts e
  unfolding r.chained r.others
  chained_finish k at left ts e role is end =
      let some = some_role k ts role (λ q. cc) in
      elim (bind_err (fits room left.height ts) _ e is) [
        | inl w ↦
            let last = deep_last ts e (fits_err room left.height ts e w) end some in (
              λ ys. name_token ∷ ys,
              (λ ys stops.
                  let ws = name_token ∷ ys in
                  let item = drop_phrase ts ws some (after_last last.1 (a_name (k - 1) ys stops)) in
                  let chain = g.one_more (mark_on ts ws some ∙ joins_mark k (mark ts) role) item (g.no_more (joined_not (mark ys) stops.0)) in
                  (of_chain at (operand_then left (operand_then name_found no_operand)), g.joins (role_more ts ws k Joins role some) chain, λ u. absurd (last.2 u))),
              some,
            )
        | inr w ↦
            let got = fits_room room left.height ts w.0 w.1 in
            let first = operands_of (left.tree ∷ []) left.height in
            elim (bind_err (r.others_from inner room (k - 1) (m.Word word.And) (length w.0.1) first w.0.1) _ e w.2) [
              | inl v ↦
                  let f = others_finish (k - 1) (m.Word word.And) (length w.0.1) first w.0.1 e (λ q. cc) got.0 v end in (
                    f.0,
                    (λ ys stops.
                        let made = f.1 ys ys no_operand stops (g.no_more (joined_not (mark ys) stops.0)) in
                        let chain = subst (λ us. Others (k - 1) (m.Word word.And) (us ++ f.0 ys) made.0 ys) got.2 made.1 in
                        (of_chain at (operand_then left made.0), g.joins (role_more ts (f.0 ys) k Joins role some) chain, λ u low. omega (arith, got.1, made.2 u (omega arith)))),
                    some,
                  )
              | inr v ↦ absurd cc
            ]
      ]

  turn_finish : (k at : ℕ) (left : Found) (role : TokenRole) (ts : Tokens) (e : Refusal) → role_at k (mark ts) ≡ role → r.turn_by inner room k at left role ts ≡ Err e → Ended e → GoesEnding room k at left ts e
  turn_finish k at left Ends ts e role is end = absurd cc
  turn_finish k at left (Infix o) ts e role is end = elim (bind_err (r.operated inner room o at left ts) _ e is) [ inl w ↦ operated_finish k o at left ts e role w end | inr w ↦ absurd cc ]
  turn_finish k at left Opens ts e role is end = elim (bind_err (r.indexed inner room at left ts) _ e is) [ inl w ↦ indexed_finish k at left ts e role w end | inr w ↦ absurd cc ]
  turn_finish k at left Joins ts e role is end = elim (bind_err (r.chained inner room k at left ts) _ e is) [ inl w ↦ chained_finish k at left ts e role w end | inr w ↦ absurd cc ]

  turn_finished : (k at : ℕ) (left : Found) (ts : Tokens) (e : Refusal) → r.turn inner room k at left ts ≡ Err e → Ended e → GoesEnding room k at left ts e
  unfolding r.turn
  turn_finished k at left ts e is end = turn_finish k at left (role_at k (mark ts)) ts e refl is end

  go_finish : (k at n : ℕ) (left : Found) (ts : Tokens) (e : Refusal) → r.go inner room k at n left ts ≡ Err e → Ended e → GoesEnding room k at left ts e
  unfolding r.go
  go_finish k at zero left ts e is end = absurd cc
  go_finish k at (suc n) left ts e is end =
      elim (bind_err (r.turn inner room k at left ts) _ e is) [
        | inl w ↦ turn_finished k at left ts e w end
        | inr w ↦
            elim (chosen_at w.0.0.1 (r.go inner room k at n w.0.0.0) (pure w.0.0.0) w.0.1 (Err e) w.2) [
              | inl v ↦
                  let f = go_finish k at n w.0.0.0 w.0.1 e v.1 end in
                  let step = turn_steps inner room sound k at left ts w.0 w.1 v.0 in
                  let turned = turn_sound inner room sound k at left ts w.0 w.1 in
                  let fewer = turn_fewer inner room sound k at left ts w.0 w.1 v.0 in
                  (f.0, (λ ys stops. let made = f.1 ys stops in (made.0, step (f.0 ys) f.2 made.0 ys made.1, λ u low. made.2 u (turned.low low))), omega (arith, fewer))
              | inr v ↦ absurd cc
            ]
      ]

  levels_finish : (k : ℕ) (ts : Tokens) (e : Refusal) → r.levels inner room k ts ≡ Err e → Ended e → PhraseEnding room k ts e
  unfolding r.levels r.level r.prefixed r.operations
  levels_finish zero ts e is end = primary_finish ts e is end
  levels_finish (suc k) ts e is end =
      elim (prefix_at (suc k) (mark ts)) as (λ q. prefix_at (suc k) (mark ts) ≡ q → r.level_by inner room (suc k) (r.levels inner room k) q ts ≡ Err e → PhraseEnding room (suc k) ts e) [
        | Some o ↦ λ own w.
            let some = some_by_prefix (suc k) ts (λ z. absurd cc) in
            elim (bind_err (deepen room ts) _ e w) [
              | inl v ↦
                  let last = deep_last ts e (deepen_err room ts e v) end some in (
                    λ ys. name_token ∷ ys,
                    λ ys stops.
                        let ws = name_token ∷ ys in (
                          of_prefix (from (ts ++ ws)) o name_found,
                          g.prefixed (ap (prefix_at (suc k)) (mark_on ts ws some) ∙ own) (drop_phrase ts ws some (after_last last.1 (a_name (suc k) ys stops))),
                          λ u. absurd (last.2 u),
                        ),
                  )
              | inr v ↦
                  let got = deepen_room room ts v.0 v.1 in
                  elim (bind_err (inner (suc k) (drop 1 v.0.1)) _ e v.2) [
                    | inl z ↦
                        let f = finish (suc k) (drop 1 v.0.1) e z end in (
                          f.next,
                          λ ys stops.
                              let made = f.finished ys stops in
                              let ws = f.next ys in
                              let operand = subst (λ us. Parses (suc k) (drop 1 us ++ ws) made.0 ys) got.1 made.1 in
                              (of_prefix (from (ts ++ ws)) o made.0, g.prefixed (ap (prefix_at (suc k)) (mark_on ts ws some) ∙ own) (drop_phrase ts ws some operand), λ u. omega (arith, made.2 u got.0)),
                        )
                    | inr z ↦ absurd cc
                  ]
            ]
        | None ↦ λ own w.
            elim (bind_err (r.levels inner room k ts) _ e w) [
              | inl v ↦
                  let f = levels_finish k ts e v end in
                  (f.0, λ ys stops. let made = f.1 ys stops in (made.0, g.level made.1 (g.ends (role_stopped (suc k) (mark ys) stops.0)), made.2))
              | inr v ↦
                  let got = levels_sound inner room sound k ts v.0 v.1 in
                  let f = go_finish (suc k) (from ts) (length v.0.1) v.0.0 v.0.1 e v.2 end in (
                    f.0,
                    λ ys stops.
                        let made = f.1 ys stops in
                        let ws = f.0 ys in
                        let more = subst (λ n. Goes (suc k) n v.0.0 (v.0.1 ++ ws) made.0 ys) (sym (from_on ts ws (some_phrase got.0))) made.1 in
                        (made.0, g.level (phrase_on ws got.0 (something f.2)) more, λ u. made.2 u got.1),
                  )
            ]
      ] refl is

pub read_finish : (room k : ℕ) (ts : Tokens) (e : Refusal) → r.read room k ts ≡ Err e → Ended e → FoundEnding room k ts e
unfolding r.read
read_finish zero k ts e is end = unfit_finish k ts e is end
read_finish (suc room) k ts e is end =
    let f = levels_finish (r.read room) room (read_sound room) (read_finish room) k ts e is end in
    record { next = f.0; finished = λ ys stops. let made = f.1 ys stops in (made.0, made.1, λ u some. made.2 u); roomy = λ u some. omega arith }
