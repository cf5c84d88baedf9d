-- The printed text of states is a trace, with the facts of their pictures.
use Rattle.std.proofs.Common.{◌≡◌, ◌<◌, ℕ, ℤ, suc, leb, Bool, true, false, cond, List, [], ◌∷◌, ◌++◌, map, length, slice_get, All, None, Some, codes, refl, sym, ap, ap₂, ◌∙◌, subst, arith, tests, append_assoc, append-nil}
use Rattle.std.specs.List.{flat_map}
use Rattle.std.specs.Fmt.{decimal}
use Rattle.std.specs.Str.Lines.{lines}
use Rattle.std.proofs.lemmas.Bool.{and_parts}
use Rattle.std.specs.List.Sorted.{IsPermutation}
use Rattle.std.proofs.lemmas.List.Sorted.{IsPermutation-refl, IsPermutation-map, All-permutation}
use Rattle.std.proofs.lemmas.List.{length-map}
use Rattle.std.proofs.lemmas.List.Elements.{All-nil, All-cons, All-head, All-tail}
use Rattle.tp_value.specs.Number.{IsNumber}
use Rattle.tp_value.specs.Written.{text_of}
use Rattle.tp_value.specs.Tree.{Tree, Trees, num, truth, list, nil, cons, items_of}
use Rattle.tp_value.specs.Limits.{HasNumbers, HaveNumbers, item_limit, value_depth_limit, items_in, depth_of, is_within_list_limit}
use Rattle.tp_value.specs.Shape.{at_item, shape_at_path}
use Rattle.tp_value.specs.declared.path.Path.{Path}
use Rattle.tp_value.specs.declared.path.Fact.{Fact}
use Rattle.tp_value.specs.declared.value.Shape.{Shape}
use Rattle.tp_value.specs.declared.value.Shape.TheVariants.{Num, Truth, Items}
use Rattle.tp_store.specs.Facts.{is_excluded, fact}
use Rattle.tp_store.specs.Known.{IsVariableOf, global_variable, Whole, known, open_at, whole, deepest, Full, absent, undecided, too_long, value, limited, full}
use Rattle.tp_store.proofs.Members.{In, kept_in}
use Rattle.tp_decide.specs.Read.{shows_of}
use Rattle.tp_show.specs.declared.turn.Picture.{Picture}
use Rattle.tp_show.specs.declared.named_fact.NamedFact.{NamedFact}
use Rattle.tp_show.specs.Texts.{global_name, index_text, path_text}
use Rattle.tp_show.specs.Line.{LinePartTree, valued, measured, shape_part, known_part, line_parts, part_text, spaced_text, show_line, picture_lines, fed_line}
use Rattle.tp_show.specs.FactsOf.{pictures_text}
use Rattle.tp_show.specs.Told.{IsPartOf}
use Rattle.tp_show.specs.Trace.{IsStateLine, state_opening, GoesOnWith, state, IsTraceText, part_facts, parts_facts, named_fact, named_facts}
use Rattle.tp_show.specs.TraceOfRun.{AreVariableNames, IsPathWithinLimits, IsPartWithinLimits, IsShapeWithinLimits, IsFactWithinLimits, FactsAreWrittenWithinLimits, IsReadable, PrintedState, printed_state_lines, printed_states_text, IsFurtherLine, IsPrinted, CountFrom, IsEnding, PrintedStatesAreTrace, PicturesAreTrace, TracesTellFacts}
use Rattle.tp_show.specs.TraceArranged.{ArrangedState, IsArranged, arranged_lines, arranged_text, HaveFactsOf}
use Rattle.tp_show.proofs.Reordered.{IsPermutation-flat_map, clash_reordered}
use Rattle.tp_show.proofs.PartLemmas.{named}
use Rattle.tp_show.proofs.ToldLemmas.{beyond, IsKept, value_kept, all_in, parts_all, parts_of_variables}
use Rattle.tp_show.proofs.FactsTold.{parts_give_facts}
use Rattle.tp_show.proofs.NamedParts.{part_named, name_at, parts_spelled, parts_give, named_apart}
use Rattle.tp_show.proofs.PrintedBytes.{ArePlain, plain_append, decimal_plain, text_plain, name_plain, indices_plain, plain_whole}
use Rattle.tp_show.proofs.EndLineBytes.{end_lines}
use Rattle.tp_show.proofs.PrintedLines.{line_at, plain_one, passed_lines, ending_ends}

-- ---- the line of a state

module _ (names : List (List ℕ)) (are : AreVariableNames names) where
  path_plain : (p : Path) → IsVariableOf (map global_variable names) p.var → ArePlain (path_text names p)
  path_plain p of = plain_append (global_name names p.var.number) (flat_map index_text p.at) (name_plain (global_name names p.var.number) (name_at names are.each p.var.number (named names p.var.number p.var.lasting of)).bytes) (indices_plain p.at)

  part_plain : (a : LinePartTree) → IsPartOf names a → ArePlain (part_text names a)
  part_plain (valued p t) of = plain_append (path_text names p) (codes "=" ++ text_of t) (path_plain p of) (refl, text_plain t)
  part_plain (measured p n) of = subst ArePlain (pieces (path_text names p) (decimal n)) (refl, plain_append (path_text names p) (codes "|=" ++ decimal n) (path_plain p of) (refl, (refl, decimal_plain n)))
    where
      pieces : (path ds : List ℕ) → codes "|" ++ (path ++ (codes "|=" ++ ds)) ≡ codes "|" ++ path ++ codes "|=" ++ ds
      pieces path ds = simp append_assoc

  parts_plain : (parts : List LinePartTree) → All (IsPartOf names) parts → ArePlain (flat_map (spaced_text names) parts)
  parts_plain [] of = tt
  parts_plain (a ∷ parts) of = (refl, plain_append (part_text names a) (flat_map (spaced_text names) parts) (part_plain a (All-head (IsPartOf names) a parts of)) (parts_plain parts (All-tail (IsPartOf names) a parts of)))

  opening_plain : (n : ℕ) → ArePlain (state_opening n)
  opening_plain n = (refl, (refl, (refl, (refl, (refl, (refl, plain_append (decimal n) (codes ":") (decimal_plain n) (refl, tt)))))))

  -- ---- states whose parts stand in some order

  -- the line of such a state, without its line feed
  abbrev arranged_words : ArrangedState → List ℕ
  arranged_words a = state_opening a.printed.picture.state ++ flat_map (spaced_text names) a.parts

  -- what its parts give
  abbrev pub arranged_facts : ArrangedState → List NamedFact
  arranged_facts a = parts_facts (map (part_named names) a.parts)

  parts_of : (a : ArrangedState) → IsArranged names a → All (IsPartOf names) a.parts
  parts_of a h =
      let facts = a.printed.picture.facts in
      All-permutation (IsPartOf names) (line_parts facts) a.parts h.parts (parts_of_variables names facts h.printed.picture.facts.of_variables)

  arranged_plain : (a : ArrangedState) → IsArranged names a → ArePlain (arranged_words a)
  arranged_plain a h = plain_append (state_opening a.printed.picture.state) (flat_map (spaced_text names) a.parts) (opening_plain a.printed.picture.state) (parts_plain a.parts (parts_of a h))

  -- the facts of the picture, in some order
  same_facts : (a : ArrangedState) → IsArranged names a → IsPermutation (named_facts names a.printed.picture) (arranged_facts a)
  same_facts a h =
      let parts = line_parts a.printed.picture.facts in
      let given : parts_facts (map (part_named names) parts) ≡ named_facts names a.printed.picture = parts_give names parts ∙ ap (map (named_fact names)) (parts_give_facts names a.printed.picture.facts h.printed.picture.facts) in
      subst (λ fs. IsPermutation fs (arranged_facts a)) given
      (IsPermutation-flat_map part_facts (map (part_named names) parts) (map (part_named names) a.parts) (IsPermutation-map (part_named names) parts a.parts h.parts))

  arranged_line : (a : ArrangedState) → IsArranged names a → IsStateLine a.printed.picture.state (arranged_words a) (arranged_facts a)
  arranged_line a h =
      let facts = a.printed.picture.facts in
      record {
        rest = flat_map (spaced_text names) a.parts;
        opening = refl;
        parts = map (part_named names) a.parts;
        spelled = parts_spelled names are a.parts (parts_of a h) (All-permutation IsPartWithinLimits (line_parts facts) a.parts h.parts h.printed.picture.limits);
        given = refl;
        no_clash = clash_reordered (named_facts names a.printed.picture) (arranged_facts a) (same_facts a h) (named_apart names are facts h.printed.picture.facts);
      }

  -- a state, and what follows it
  one_state : (n : ℕ) (a : ArrangedState) (rest : List ℕ) (states : List (List NamedFact)) → IsArranged names a → a.printed.picture.state ≡ n → GoesOnWith (suc n) (lines rest) states
      → GoesOnWith n (lines (arranged_lines names a ++ rest)) (arranged_facts a ∷ states)
  one_state n a rest states h e g =
      let words = arranged_words a in
      let picture = a.printed.picture in
      let further = a.printed.further in
      let shows = shows_of picture.shows in
      let later = flat_map show_line shows ++ (flat_map fed_line further ++ rest) in
      let plain = arranged_plain a h in
      let split : lines (arranged_lines names a ++ rest) ≡ words ∷ lines later =
      ap lines (pieces (decimal picture.state) (flat_map (spaced_text names) a.parts) (flat_map show_line shows) (flat_map fed_line further)) ∙ (line_at words later (plain_one words plain) ∙ ap (λ z. z ∷ lines later) (plain_whole words plain)) in
      let first : IsStateLine n words (arranged_facts a) = subst (λ (k : ℕ). IsStateLine k words (arranged_facts a)) e (arranged_line a h) in
      subst (λ (ts : List (List ℕ)). GoesOnWith n ts (arranged_facts a ∷ states)) (sym split) (state first (passed_lines n shows further rest states h.printed.further g))
    where
      pieces : (number parts shows further : List ℕ) → (((codes "state " ++ number ++ codes ":" ++ parts ++ codes "\n") ++ shows) ++ further) ++ rest ≡ ((codes "state " ++ (number ++ codes ":")) ++ parts) ++ 10 ∷ (shows ++ (further ++ rest))
      pieces number parts shows further = simp append_assoc

  later_states : (n : ℕ) (states : List ArrangedState) (text : List ℕ) → All (IsArranged names) states → CountFrom (suc n) (map (λ a. a.printed.picture) states) → IsEnding names text
      → GoesOnWith (suc n) (lines (arranged_text names states ++ text)) (map arranged_facts states)
  later_states n [] text h count ending = ending_ends n names text ending
  later_states n (a ∷ states) text h count ending =
      let Of = IsArranged names in
      let more = later_states (suc n) states text (All-tail Of a states h) count.1 ending in
      let one = one_state (suc n) a (arranged_text names states ++ text) (map arranged_facts states) (All-head Of a states h) count.0 more in
      let whole = append_assoc (arranged_lines names a) (arranged_text names states) text in
      subst (λ (z : List ℕ). GoesOnWith (suc n) (lines z) (map arranged_facts (a ∷ states))) (sym whole) one

  pub arranged_states : (states : List ArrangedState) → All (IsArranged names) states → CountFrom 0 (map (λ a. a.printed.picture) states) → 0 < length states
      → (end : List ℕ) → IsEnding names end → IsTraceText (arranged_text names states ++ end) (map arranged_facts states)
  arranged_states [] h count some text ending = absurd (omega (arith, some))
  arranged_states (a ∷ states) h count some text ending =
      let Of = IsArranged names in
      let more = later_states 0 states text (All-tail Of a states h) count.1 ending in
      let one = one_state 0 a (arranged_text names states ++ text) (map arranged_facts states) (All-head Of a states h) count.0 more in
      let whole = append_assoc (arranged_lines names a) (arranged_text names states) text in
      record {
        lines_told = subst (λ (z : List ℕ). GoesOnWith 0 (lines z) (map arranged_facts (a ∷ states))) (sym whole) one;
        some_state = omega arith;
      }

  -- each with the facts of its picture
  pub have_facts : (states : List ArrangedState) → All (IsArranged names) states → HaveFactsOf names states (map arranged_facts states)
  have_facts [] h = tt
  have_facts (a ∷ states) h = (same_facts a (All-head (IsArranged names) a states h), have_facts states (All-tail (IsArranged names) a states h))

-- ---- parts as they are printed

abbrev unmoved : PrintedState → ArrangedState
unmoved s = record { printed = s; parts = line_parts s.picture.facts }

unmoved_text : (names : List (List ℕ)) (states : List PrintedState) → arranged_text names (map unmoved states) ≡ printed_states_text names states
unmoved_text names [] = refl
unmoved_text names (s ∷ states) = ap (λ l. printed_state_lines names s ++ l) (unmoved_text names states)

unmoved_count : (n : ℕ) (states : List PrintedState) → CountFrom n (map (λ s. s.picture) states) → CountFrom n (map (λ a. a.printed.picture) (map unmoved states))
unmoved_count n [] c = tt
unmoved_count n (s ∷ states) c = (c.0, unmoved_count (suc n) states c.1)

some_mapped : {A B : Type 0} (f : A → B) (xs : List A) → 0 < length xs → 0 < length (map f xs)
some_mapped f xs h = omega (arith, length-map xs f)

unmoved_arranged : (names : List (List ℕ)) (states : List PrintedState) → All (IsPrinted names) states → All (IsArranged names) (map unmoved states)
unmoved_arranged names [] h = All-nil (IsArranged names)
unmoved_arranged names (s ∷ states) h =
    All-cons (IsArranged names) (unmoved s) (map unmoved states) (record { printed = All-head (IsPrinted names) s states h; parts = IsPermutation-refl (line_parts s.picture.facts) }) (unmoved_arranged names states (All-tail (IsPrinted names) s states h))

unmoved_facts : (names : List (List ℕ)) (states : List PrintedState) → All (IsPrinted names) states → map (λ a. parts_facts (map (part_named names) a.parts)) (map unmoved states) ≡ map (λ s. named_facts names s.picture) states
unmoved_facts names [] h = refl
unmoved_facts names (s ∷ states) h =
    let parts = line_parts s.picture.facts in
    let first = parts_give names parts ∙ ap (map (named_fact names)) (parts_give_facts names s.picture.facts (All-head (IsPrinted names) s states h).picture.facts) in
    ap₂ (λ f fs. f ∷ fs) first (unmoved_facts names states (All-tail (IsPrinted names) s states h))

printed_states : PrintedStatesAreTrace
printed_states names are states h count some text ending =
    let trace = arranged_states names are (map unmoved states) (unmoved_arranged names states h) (unmoved_count 0 states count) (some_mapped unmoved states some) text ending in
    let facts = subst (λ (fs : List (List NamedFact)). IsTraceText (arranged_text names (map unmoved states) ++ text) fs) (unmoved_facts names states h) trace in
    subst (λ (z : List ℕ). IsTraceText (z ++ text) (map (λ s. named_facts names s.picture) states)) (unmoved_text names states) facts

-- ---- pictures alone

abbrev alone : Picture → PrintedState
alone picture = record { picture = picture; further = [] }

alone_text : (names : List (List ℕ)) (pictures : List Picture) → printed_states_text names (map alone pictures) ≡ pictures_text names pictures
alone_text names [] = refl
alone_text names (p ∷ pictures) = ap₂ (λ a b. a ++ b) (append-nil (picture_lines names p)) (alone_text names pictures)

alone_facts : (names : List (List ℕ)) (pictures : List Picture) → map (λ s. named_facts names s.picture) (map alone pictures) ≡ map (named_facts names) pictures
alone_facts names [] = refl
alone_facts names (p ∷ pictures) = ap (λ l. named_facts names p ∷ l) (alone_facts names pictures)

alone_count : (n : ℕ) (pictures : List Picture) → CountFrom n pictures → CountFrom n (map (λ s. s.picture) (map alone pictures))
alone_count n [] c = tt
alone_count n (p ∷ pictures) c = (c.0, alone_count (suc n) pictures c.1)

alone_printed : (names : List (List ℕ)) (pictures : List Picture) → All (IsReadable names) pictures → All (IsPrinted names) (map alone pictures)
alone_printed names [] h = All-nil (IsPrinted names)
alone_printed names (p ∷ pictures) h =
    All-cons (IsPrinted names) (alone p) (map alone pictures) (record { picture = All-head (IsReadable names) p pictures h; further = All-nil IsFurtherLine }) (alone_printed names pictures (All-tail (IsReadable names) p pictures h))

pictures_alone : PicturesAreTrace
pictures_alone names are pictures h count some text ending =
    let trace = printed_states names are (map alone pictures) (alone_printed names pictures h) (alone_count 0 pictures count) (some_mapped alone pictures some) text ending in
    let facts = subst (λ (fs : List (List NamedFact)). IsTraceText (printed_states_text names (map alone pictures) ++ text) fs) (alone_facts names pictures) trace in
    subst (λ (z : List ℕ). IsTraceText (z ++ text) (map (named_facts names) pictures)) (alone_text names pictures) facts

-- ---- limits

mutual
  numbers_from : (t : Tree) → ((rest : List ℕ) (n : ℤ) → shape_at_path rest t ≡ Some (Num n) → IsNumber n) → HasNumbers t
  numbers_from (num n) each = each [] n refl
  numbers_from (truth b) each = tt
  numbers_from (list ts) each = items_from ts (λ j rest n e. each (j ∷ rest) n e)

  items_from : (ts : Trees) → ((j : ℕ) (rest : List ℕ) (n : ℤ) → at_item (slice_get (items_of ts) j) (shape_at_path rest) ≡ Some (Num n) → IsNumber n) → HaveNumbers ts
  items_from nil each = tt
  items_from (cons t ts) each = (numbers_from t (λ rest n e. each 0 rest n e), items_from ts (λ j rest n e. each (suc j) rest n e))

-- a value that is told is within the limits on lists
value_limited : (out : Bool) (w : Whole) (t : Tree) → cond out absent (limited w) ≡ value t → is_within_list_limit t ≡ true
value_limited true w t h = absurd (cc h)
value_limited false (open_at q) t h = absurd (cc h)
value_limited false (known u) t h = within (is_within_list_limit u) refl h
  where
    within : (b : Bool) → is_within_list_limit u ≡ b → cond b (value u) too_long ≡ value t → is_within_list_limit t ≡ true
    within true e f = let same : u ≡ t = cc f in ap is_within_list_limit (sym same) ∙ e
    within false e f = absurd (cc f)

shape_within : (p : Path) (sh : Shape) → IsPathWithinLimits p → IsShapeWithinLimits sh → IsPartWithinLimits (shape_part p sh)
shape_within p (Num n) path small = (path, record { items = omega arith; depth = omega arith; numbers = small })
shape_within p (Truth b) path small = (path, record { items = omega arith; depth = omega arith; numbers = tt })
shape_within p (Items n) path small = (path, small)

part_within : (all : List Fact) → ((f : Fact) → In f all → IsFactWithinLimits f) → (f : Fact) → IsFactWithinLimits f → (k : Full) → full all f.path ≡ k → IsPartWithinLimits (known_part f k)
part_within all each f small absent e = shape_within f.path f.shape small.path small.shape
part_within all each f small (undecided p) e = shape_within f.path f.shape small.path small.shape
part_within all each f small too_long e = shape_within f.path f.shape small.path small.shape
part_within all each f small (value t) e =
    let kept : IsKept all f.path t = value_kept all f.path t e in
    let lists = and_parts (leb (depth_of t) value_depth_limit) (leb (items_in t) item_limit) (value_limited (is_excluded all f.path) (whole (suc (deepest all)) all f.path) t e) in
    let numbers : HasNumbers t = numbers_from t (λ rest n h. (each (fact (beyond f.path rest) (Num n)) (kept_in all (beyond f.path rest) (Num n) (kept rest (Num n) h))).shape) in
    (small.path, record { items = grind (arith, tests, lists.1); depth = grind (arith, tests, lists.0); numbers = numbers })

facts_within : FactsAreWrittenWithinLimits
facts_within names facts are small =
    let each : (f : Fact) → In f facts → IsFactWithinLimits f = all_in IsFactWithinLimits facts small in
    parts_all IsPartWithinLimits (full facts) None facts (λ f i. part_within facts each f (each f i) (full facts f.path) refl)

pub traces_tell_facts : TracesTellFacts
traces_tell_facts = record { printed = printed_states; pictures = pictures_alone; limits = facts_within; end_lines = end_lines }
