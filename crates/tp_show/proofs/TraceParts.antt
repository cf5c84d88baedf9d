-- Parts: what stands in front of the `=`, and behind it.
use Rattle.std.proofs.Common.{◌≡◌, ℕ, suc, ◌+◌, ◌<◌, ◌≤◌, Bool, true, false, not, inl, inr, List, [], ◌∷◌, ◌++◌, length, take, drop, Option, Some, None, refl, sym, ap, ◌∙◌, subst, arith, tests, append_assoc, codes, length-append, length-drop, drop-drop, ◌==◌, ◌≢◌, Result, Ok, Err, IfOk}
use Rattle.std.specs.Char.{is_ascii_digit}
use Rattle.std.proofs.lemmas.Option.{same_Some}
use Rattle.std.proofs.lemmas.List.{take_at, drop_at, take-append-drop, append_cancel_left, append_cancel_right}
use Rattle.tp_value.specs.Tree.{Tree, num, truth, list}
use Rattle.tp_value.specs.declared.reading.ReadValue.{ReadValue}
use Rattle.tp_value.specs.Limits.{length_limit}
use Rattle.tp_value.specs.Spelling.{decimal_value}
use Rattle.tp_value.specs.Reading.{found, refused, start_state, reading, value_answer}
use Rattle.tp_value.specs.Answers.{EndsNumber, CannotContinue}
use Rattle.tp_value.proofs.Completes.{Goes, value_goes}
use Rattle.tp_show.specs.Trace.{TracePart, has_value, has_length, SpellsPath, SpellsPart, value, list_length}
use Rattle.tp_show.specs.TraceReading.{len_before, digits_within, is_apart, BeginsWithValue, IsValueAt, IsLengthAt, IsAround, BeginsWithPart, IsValuePart, IsLengthPart, IsPartAround}
use Rattle.tp_show.specs.declared.trace_part.ReadPart.{ReadPart}
use Rattle.tp_show.proofs.TraceDigits.{AllPass, Stops, front_len, front_stops, no_digit, within_from, within_is, IsWithin}
use Rattle.tp_show.proofs.TracePaths.{cut_at}
use Rattle.tp_show.proofs.TraceNames.{path_unique, path_passes, no_bar_first}

-- ---- values

apart_ends : (rest : List ℕ) → is_apart rest ≡ true → EndsNumber rest
apart_ends [] h = tt
apart_ends (b ∷ z) h = let same : b ≡ 32 = grind (arith, tests) in ap is_ascii_digit same

cannot : (t : Tree) (rest : List ℕ) → EndsNumber rest → CannotContinue t rest
cannot (num n) rest h = h
cannot (truth b) rest h = tt
cannot (list ts) rest h = tt

pub record ValueThere (z : List ℕ) (t : Tree) (rest : List ℕ) : Type 0 where
  pub len : ℕ
  pub answer : value_answer z 0 ≡ found t len
  pub behind : rest ≡ drop len z

pub value_there : (z : List ℕ) (t : Tree) (rest : List ℕ) → BeginsWithValue z t rest → ValueThere z t rest
value_there z t rest b = record {
  len = length b.text;
  answer = ap (reading 0 start_state) b.split ∙ (by (value_goes b.spelled 0 [] 0 rest (cannot t rest (apart_ends rest b.apart)) (omega arith) (omega arith)) ∙ ap (found t) (omega arith));
  behind = sym (ap (drop (length b.text)) b.split ∙ drop_at b.text rest (length b.text) refl);
}
  where
    by : Goes 0 [] 0 b.text t rest → reading 0 start_state (b.text ++ rest) ≡ found t (0 + length b.text)
    by (inl g) = g.0
    by (inr g) = absurd (g.1 (record { items = omega (arith, b.limits.items); depth = omega (arith, b.limits.depth); numbers = b.limits.numbers }))

same_found : (t u : Tree) (m n : ℕ) → found t m ≡ found u n → (t ≡ u) × (m ≡ n)
same_found t u m n e = (cc, cc)

pub value_unique : (z : List ℕ) (t u : Tree) (rest other : List ℕ) → BeginsWithValue z t rest → BeginsWithValue z u other → (t ≡ u) × (rest ≡ other)
value_unique z t u rest other b d =
    let x = value_there z t rest b in
    let y = value_there z u other d in
    let same = same_found t u x.len y.len (sym x.answer ∙ y.answer) in
    (same.0, x.behind ∙ (ap (λ k. drop k z) same.1 ∙ sym y.behind))

-- no value is there where it is refused, or where it isn't set apart
pub no_value_there : (z : List ℕ) (e : ReadValue) → value_answer z 0 ≡ refused e → (t : Tree) (rest : List ℕ) → ¬ BeginsWithValue z t rest
no_value_there z e answer t rest b = let x = value_there z t rest b in let both : refused e ≡ found t x.len = sym answer ∙ x.answer in absurd cc

pub not_apart_there : (z : List ℕ) (u : Tree) (n : ℕ) → value_answer z 0 ≡ found u n → is_apart (drop n z) ≡ false → (t : Tree) (rest : List ℕ) → ¬ BeginsWithValue z t rest
not_apart_there z u n answer e t rest b =
    let x = value_there z t rest b in
    let same = same_found u t n x.len (sym answer ∙ x.answer) in
    let behind : drop n z ≡ rest = ap (λ k. drop k z) same.1 ∙ sym x.behind in
    let yes : is_apart (drop n z) ≡ true = ap is_apart behind ∙ b.apart in
    absurd cc

-- ---- lengths

pub apart_stops : (z : List ℕ) → is_apart z ≡ true → Stops (λ b. not (b == 32)) z
apart_stops [] h = tt
apart_stops (b ∷ z) h = ap not h

stops_apart : (z : List ℕ) → Stops (λ b. not (b == 32)) z → is_apart z ≡ true
stops_apart [] h = refl
stops_apart (b ∷ z) h = by (b == 32) refl h
  where
    by : (c : Bool) → (b == 32) ≡ c → not (b == 32) ≡ false → (b == 32) ≡ true
    by true e k = e
    by false e k = let bad : true ≡ false = sym (ap not e) ∙ k in absurd cc

pub record LengthThere (path z : List ℕ) (p : TracePart) (rest : List ℕ) : Type 0 where
  pub name : List ℕ
  pub at : List ℕ
  pub number : ℕ
  pub is : p ≡ has_length name at number
  pub spelled_path : SpellsPath path name at
  pub within : digits_within length_limit (take (len_before 32 z) z) ≡ Some number
  pub behind : rest ≡ drop (len_before 32 z) z

pub length_there : (path z : List ℕ) (p : TracePart) (rest : List ℕ) → IsLengthAt path z p rest → LengthThere path z p rest
length_there path z p rest l =
    let n : len_before 32 z ≡ length l.digits = ap (len_before 32) l.split ∙ front_len (λ b. not (b == 32)) l.digits rest (no_digit 32 l.digits refl l.are_digits) (apart_stops rest l.apart) in
    let front : take (len_before 32 z) z ≡ l.digits = ap (λ k. take k z) n ∙ (ap (take (length l.digits)) l.split ∙ take_at l.digits rest (length l.digits) refl) in
    let back : drop (len_before 32 z) z ≡ rest = ap (λ k. drop k z) n ∙ (ap (drop (length l.digits)) l.split ∙ drop_at l.digits rest (length l.digits) refl) in
    record {
      name = l.name;
      at = l.at;
      number = decimal_value l.digits;
      is = l.is;
      spelled_path = l.spelled_path;
      within = ap (digits_within length_limit) front ∙ within_from length_limit l.digits l.are_digits l.limit;
      behind = sym back;
    }

pub length_at : (path z name at : List ℕ) (n : ℕ) → SpellsPath path name at → digits_within length_limit (take (len_before 32 z) z) ≡ Some n → IsLengthAt path z (has_length name at n) (drop (len_before 32 z) z)
length_at path z name at n s e =
    let w : IsWithin length_limit (take (len_before 32 z) z) n = within_is length_limit (take (len_before 32 z) z) n e in
    record {
      name = name;
      at = at;
      digits = take (len_before 32 z) z;
      is = ap (has_length name at) w.value;
      spelled_path = s;
      split = sym (take-append-drop (len_before 32 z) z);
      are_digits = w.digits;
      limit = w.small;
      apart = stops_apart (drop (len_before 32 z) z) (front_stops (λ b. not (b == 32)) z);
    }

pub length_unique : (path z : List ℕ) (p q : TracePart) (rest other : List ℕ) → IsLengthAt path z p rest → IsLengthAt path z q other → (p ≡ q) × (rest ≡ other)
length_unique path z p q rest other l m =
    let x = length_there path z p rest l in
    let y = length_there path z q other m in
    let paths = path_unique path x.name x.at y.name y.at x.spelled_path y.spelled_path in
    let number : x.number ≡ y.number = same_Some _ _ (sym x.within ∙ y.within) in
    (x.is ∙ (ap (λ a. has_length a x.at x.number) paths.0 ∙ (ap (λ a. has_length y.name a x.number) paths.1 ∙ ap (has_length y.name y.at) number)) ∙ sym y.is, x.behind ∙ sym y.behind)

pub valued_unique : (path z : List ℕ) (p q : TracePart) (rest other : List ℕ) → IsValueAt path z p rest → IsValueAt path z q other → (p ≡ q) × (rest ≡ other)
valued_unique path z p q rest other v w =
    let paths = path_unique path v.name v.at w.name w.at v.spelled_path w.spelled_path in
    let values = value_unique z v.value w.value rest other v.spelled w.spelled in
    (v.is ∙ (ap (λ a. has_value a v.at v.value) paths.0 ∙ (ap (λ a. has_value w.name a v.value) paths.1 ∙ ap (has_value w.name w.at) values.0)) ∙ sym w.is, values.1)

-- ---- either

bars_same : (a b : List ℕ) → codes "|" ++ (a ++ codes "|") ≡ codes "|" ++ (b ++ codes "|") → a ≡ b
bars_same a b e = append_cancel_right a b (codes "|") (append_cancel_left (codes "|") (a ++ codes "|") (b ++ codes "|") e)

pub around_unique : (left z : List ℕ) (p q : TracePart) (rest other : List ℕ) → IsAround left z p rest → IsAround left z q other → (p ≡ q) × (rest ≡ other)
around_unique left z p q rest other (inl v) (inl w) = valued_unique left z p q rest other v w
around_unique left z p q rest other (inl v) (inr w) = absurd (no_bar_first _ _ _ (subst (λ (x : List ℕ). SpellsPath x v.name v.at) w.1 v.spelled_path))
around_unique left z p q rest other (inr v) (inl w) = absurd (no_bar_first _ _ _ (subst (λ (x : List ℕ). SpellsPath x w.name w.at) v.1 w.spelled_path))
around_unique left z p q rest other (inr v) (inr w) =
    let same : w.0 ≡ v.0 = bars_same w.0 v.0 (sym w.1 ∙ v.1) in
    length_unique v.0 z p q rest other v.2 (subst (λ (x : List ℕ). IsLengthAt x z q other) same w.2)

-- ---- the first part of a text

pub record IsCut (z : List ℕ) (p : TracePart) (rest : List ℕ) : Type 0 where
  pub inside : len_before 61 z < length z
  pub around : IsAround (take (len_before 61 z) z) (drop (suc (len_before 61 z)) z) p rest

cut_so : (z left right : List ℕ) (p : TracePart) (rest : List ℕ) → z ≡ left ++ 61 ∷ right → AllPass (λ b. not (b == 61)) left → IsAround left right p rest → IsCut z p rest
cut_so z left right p rest split passes around =
    let n : len_before 61 z ≡ length left = ap (len_before 61) split ∙ front_len (λ b. not (b == 61)) left (61 ∷ right) passes refl in
    let front : take (len_before 61 z) z ≡ left = ap (λ k. take k z) n ∙ (ap (take (length left)) split ∙ take_at left (61 ∷ right) (length left) refl) in
    let more : left ++ 61 ∷ right ≡ (left ++ 61 ∷ []) ++ right = sym (append_assoc left (61 ∷ []) right) in
    let long : length (left ++ 61 ∷ []) ≡ suc (length left) = length-append left (61 ∷ []) ∙ omega arith in
    let back : drop (suc (len_before 61 z)) z ≡ right = ap (λ k. drop (suc k) z) n ∙ (ap (drop (suc (length left))) (split ∙ more) ∙ drop_at (left ++ 61 ∷ []) right (suc (length left)) long) in
    let all : length z ≡ length left + length (61 ∷ right) = ap length split ∙ length-append left (61 ∷ right) in
    record {
      inside = omega (arith, n, all);
      around = subst (λ (x : List ℕ). IsAround x (drop (suc (len_before 61 z)) z) p rest) (sym front) (subst (λ (y : List ℕ). IsAround left y p rest) (sym back) around);
    }

bar_passes : (path name at : List ℕ) → SpellsPath path name at → AllPass (λ b. not (b == 61)) (codes "|" ++ (path ++ codes "|"))
bar_passes path name at s = (refl, behind path (path_passes path name at s))
  where
    behind : (z : List ℕ) → AllPass (λ b. not (b == 61)) z → AllPass (λ b. not (b == 61)) (z ++ codes "|")
    behind [] h = (refl, tt)
    behind (b ∷ z) h = (h.0, behind z h.1)

part_cut_at : {s : List ℕ} {p : TracePart} → SpellsPart s p → (z rest : List ℕ) → z ≡ s ++ rest → is_apart rest ≡ true → IsCut z p rest
part_cut_at (value path name at v t sp sv l) z rest split apart =
    cut_so z path (v ++ rest) (has_value name at t) rest (split ∙ append_assoc path (codes "=" ++ v) rest) (path_passes path name at sp)
    (inl (record { name = name; at = at; value = t; is = refl; spelled_path = sp; spelled = record { text = v; split = refl; spelled = sv; limits = l; apart = apart } }))
part_cut_at (list_length path name at ds sp d l) z rest split apart =
    cut_so z (codes "|" ++ (path ++ codes "|")) (ds ++ rest) (has_length name at (decimal_value ds)) rest (split ∙ append_assoc (codes "|" ++ (path ++ codes "|")) (codes "=" ++ ds) rest) (bar_passes path name at sp)
    (inr (path, refl, record { name = name; at = at; digits = ds; is = refl; spelled_path = sp; split = refl; are_digits = d; limit = l; apart = apart }))

pub part_cut : (z : List ℕ) (p : TracePart) (rest : List ℕ) → BeginsWithPart z p rest → IsCut z p rest
part_cut z p rest b = part_cut_at b.spelled z rest b.split b.apart

pub part_joined : (z left right : List ℕ) (p : TracePart) (rest : List ℕ) → z ≡ left ++ 61 ∷ right → IsAround left right p rest → BeginsWithPart z p rest
part_joined z left right p rest split (inl v) = record {
  text = left ++ (codes "=" ++ v.spelled.text);
  split = split ∙ (ap (λ y. left ++ 61 ∷ y) v.spelled.split ∙ sym (append_assoc left (codes "=" ++ v.spelled.text) rest));
  spelled = subst (SpellsPart (left ++ (codes "=" ++ v.spelled.text))) (sym v.is) (value left v.name v.at v.spelled.text v.value v.spelled_path v.spelled.spelled v.spelled.limits);
  apart = v.spelled.apart;
}
part_joined z left right p rest split (inr (path, bars, l)) = record {
  text = (codes "|" ++ (path ++ codes "|")) ++ (codes "=" ++ l.digits);
  split = split ∙ (ap (λ y. left ++ 61 ∷ y) l.split ∙ (ap (λ x. x ++ 61 ∷ (l.digits ++ rest)) bars ∙ sym (append_assoc (codes "|" ++ (path ++ codes "|")) (codes "=" ++ l.digits) rest)));
  spelled = subst (SpellsPart ((codes "|" ++ (path ++ codes "|")) ++ (codes "=" ++ l.digits))) (sym l.is) (list_length path l.name l.at l.digits l.spelled_path l.are_digits l.limit);
  apart = l.apart;
}

pub part_unique : (z : List ℕ) (p q : TracePart) (rest other : List ℕ) → BeginsWithPart z p rest → BeginsWithPart z q other → (p ≡ q) × (rest ≡ other)
part_unique z p q rest other b d = around_unique _ _ p q rest other (part_cut z p rest b).around (part_cut z q other d).around

-- what is found behind the `=` of a length, and behind that of a value
pub around_of_length : {E : Type 0} (left path z : List ℕ) → left ≡ codes "|" ++ (path ++ codes "|") → (r : Result (Option (ReadPart × ℕ)) E) → IfOk r (IsLengthPart path z) → IfOk r (IsPartAround left z)
around_of_length left path z bars (Err e) f = tt
around_of_length left path z bars (Ok (Some x)) f = (f.0, inr (path, bars, f.1))
around_of_length left path z bars (Ok None) f = λ p rest around. elim around [
  | inl v ↦ no_bar_first _ _ _ (subst (λ (x : List ℕ). SpellsPath x v.name v.at) bars v.spelled_path)
  | inr l ↦ f p rest (subst (λ (x : List ℕ). IsLengthAt x z p rest) (bars_same l.0 path (sym l.1 ∙ bars)) l.2)
]

pub around_of_value : {E : Type 0} (left z : List ℕ) → ((path : List ℕ) → left ≢ codes "|" ++ (path ++ codes "|")) → (r : Result (Option (ReadPart × ℕ)) E) → IfOk r (IsValuePart left z) → IfOk r (IsPartAround left z)
around_of_value left z no_bars (Err e) f = tt
around_of_value left z no_bars (Ok (Some x)) f = (f.0, inl f.1)
around_of_value left z no_bars (Ok None) f = λ p rest around. elim around [
  | inl v ↦ f p rest v
  | inr l ↦ no_bars l.0 l.1
]

-- no `=` stands in the text
pub no_equals : (z : List ℕ) → length z ≤ len_before 61 z → (p : TracePart) (rest : List ℕ) → ¬ BeginsWithPart z p rest
no_equals z h p rest b = let inside = (part_cut z p rest b).inside in absurd (omega (arith, h, inside))

-- the part whose `=` comes behind so many bytes
module _ (z left right : List ℕ) (cut : ℕ) (n : cut ≡ len_before 61 z) (inside : cut < length z) (front : left ≡ take cut z) (back : right ≡ drop (suc cut) z) where
  pub first_there : (p : TracePart) (len : ℕ) → len ≤ length right → IsAround left right p (drop len right) → (cut + 1 + len ≤ length z) × BeginsWithPart z p (drop (cut + 1 + len) z)
  first_there p len short around =
      let stands : z ≡ left ++ 61 ∷ right = subst (λ (k : ℕ). z ≡ take k z ++ 61 ∷ drop (suc k) z) (sym n) (cut_at 61 z (omega (arith, n, inside))) ∙ (ap (λ x. x ++ 61 ∷ drop (suc cut) z) (sym front) ∙ ap (λ y. left ++ 61 ∷ y) (sym back)) in
      let rest : drop len right ≡ drop (cut + 1 + len) z = ap (drop len) back ∙ (drop-drop len (suc cut) z ∙ ap (λ k. drop k z) (omega arith)) in
      let long = length-drop (suc cut) z in
      let same = ap length back in
      (omega (arith, short, long, same, inside), subst (BeginsWithPart z p) rest (part_joined z left right p (drop len right) stands around))

  pub none_there : ((p : TracePart) (rest : List ℕ) → ¬ IsAround left right p rest) → (p : TracePart) (rest : List ℕ) → ¬ BeginsWithPart z p rest
  none_there never p rest b =
      let a = (part_cut z p rest b).around in
      never p rest (subst (λ (x : List ℕ). IsAround x right p rest) (sym front)
      (subst (λ (y : List ℕ). IsAround (take cut z) y p rest) (sym back) (subst (λ (k : ℕ). IsAround (take k z) (drop (suc k) z) p rest) (sym n) a)))
