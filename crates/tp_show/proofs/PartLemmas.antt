-- Reading the parts of a line back, and the values of a line that is shown.
use Rattle.std.proofs.Common.{◌≡◌, ◌<◌, ℕ, zero, suc, Bool, eqb, false, List, [], ◌∷◌, ◌++◌, map, length, All, Some, slice_get, codes, refl, sym, ap, ap₂, ◌∙◌, arith, append_assoc}
use Rattle.std.specs.List.{flat_map}
use Rattle.std.specs.Fmt.{decimal}
use Rattle.std.proofs.lemmas.List.Elements.{All-head, All-tail}
use Rattle.std.proofs.lemmas.Fmt.{decimal_injective}
use Rattle.tp_value.specs.Tree.{Tree}
use Rattle.tp_value.specs.Range.{HasMachineNumbers}
use Rattle.tp_value.specs.Written.{text_of}
use Rattle.tp_value.specs.declared.path.VarId.{VarId}
use Rattle.tp_value.specs.declared.path.Path.{Path}
use Rattle.tp_store.specs.Known.{Variable, IsVariableOf, global_variable}
use Rattle.tp_show.specs.Texts.{global_name, index_text, path_text}
use Rattle.tp_show.specs.Line.{LinePartTree, valued, measured, part_text, spaced_text, shown_value}
use Rattle.tp_show.specs.Told.{is_word_byte, AreNames, FitsIn64Bits, IsPartOf, IsPartInRange, ArePartsInRange}
use Rattle.tp_show.proofs.ReadWordLemmas.{EndsWord, word_read, is_low, decimal_is_word, rest_is, heads_apart}
use Rattle.tp_show.proofs.ReadValueLemmas.{value_read}

-- a place of one of the variables
record IsPlace (names : List (List ℕ)) (p : Path) : Type 0 where
  variable : IsVariableOf (map global_variable names) p.var
  indices : All FitsIn64Bits p.at

pub named : (names : List (List ℕ)) (n : ℕ) (b : Bool) → slice_get (map (λ (v : Variable). v.lasting) (map global_variable names)) n ≡ Some b → n < length names
named [] n b h = absurd (cc h)
named (name ∷ names) zero b h = omega arith
named (name ∷ names) (suc n) b h = omega (arith, named names n b h)

-- variables of one number have one kind
pub one_variable : (xs : List Variable) (x y : VarId) → IsVariableOf xs x → IsVariableOf xs y → x.number ≡ y.number → x ≡ y
one_variable xs x y h k e =
    let kinds = map (λ (v : Variable). v.lasting) xs in
    let some : Some x.lasting ≡ Some y.lasting = sym h ∙ (ap (slice_get kinds) e ∙ k) in
    let make : ℕ → Bool → VarId = λ n b. record { number = n; lasting = b } in
    ap₂ make e (cc some)

-- an index in pieces: `[`, its number and `]`
index_is : (i : ℕ) (later r : List ℕ) → (index_text i ++ later) ++ r ≡ 91 ∷ (decimal i ++ (93 ∷ (later ++ r)))
index_is i later r = simp append_assoc

indices_end : (at : List ℕ) (c : ℕ) (r : List ℕ) → is_word_byte c ≡ false → EndsWord (flat_map index_text at ++ (c ∷ r))
indices_end [] c r h = h
indices_end (i ∷ at) c r h = refl

-- indices, up to a byte that is no `[`
pub indices_read : (c : ℕ) → eqb c 91 ≡ false → (a b r s : List ℕ) → All FitsIn64Bits a → All FitsIn64Bits b → flat_map index_text a ++ (c ∷ r) ≡ flat_map index_text b ++ (c ∷ s) → (a ≡ b) × (r ≡ s)
indices_read c apart [] [] r s p q e = (refl, rest_is _ _ _ _ e)
indices_read c apart [] (j ∷ b) r s p q e = absurd (heads_apart c 91 _ _ apart (e ∙ index_is j (flat_map index_text b) (c ∷ s)))
indices_read c apart (i ∷ a) [] r s p q e = absurd (heads_apart c 91 _ _ apart (sym e ∙ index_is i (flat_map index_text a) (c ∷ r)))
indices_read c apart (i ∷ a) (j ∷ b) r s p q e =
    let pieces = sym (index_is i (flat_map index_text a) (c ∷ r)) ∙ (e ∙ index_is j (flat_map index_text b) (c ∷ s)) in
    let low = All-head FitsIn64Bits i a p in
    let high = All-head FitsIn64Bits j b q in
    let one = word_read (decimal i) (decimal j) _ _ (decimal_is_word i (is_low i low)) (decimal_is_word j (is_low j high)) refl refl (rest_is _ _ _ _ pieces) in
    let more = indices_read c apart a b r s (All-tail FitsIn64Bits i a p) (All-tail FitsIn64Bits j b q) (rest_is _ _ _ _ one.1) in
    (ap₂ (λ x xs. x ∷ xs) (decimal_injective i j low high one.0) more.0, more.1)

-- a place, up to a byte that goes on neither a word nor a place
path_read : (c : ℕ) → eqb c 91 ≡ false → is_word_byte c ≡ false → (names : List (List ℕ)) (p q : Path) (r s : List ℕ) → AreNames names → IsPlace names p → IsPlace names q → path_text names p ++ (c ∷ r) ≡ path_text names q ++ (c ∷ s)
    → (p ≡ q) × (r ≡ s)
path_read c apart end names p q r s are h k e =
    let m = p.var.number in
    let n = q.var.number in
    let low = named names m p.var.lasting h.variable in
    let high = named names n q.var.lasting k.variable in
    let pieces = sym (append_assoc (global_name names m) (flat_map index_text p.at) (c ∷ r)) ∙ (e ∙ append_assoc (global_name names n) (flat_map index_text q.at) (c ∷ s)) in
    let name = word_read (global_name names m) (global_name names n) _ _ (are.words m low) (are.words n high) (indices_end p.at c r end) (indices_end q.at c s end) pieces in
    let at = indices_read c apart p.at q.at r s h.indices k.indices name.1 in
    let make : VarId → List ℕ → Path = λ x is. record { var = x; at = is } in
    (ap₂ make (one_variable (map global_variable names) p.var q.var h.variable k.variable (are.apart m n low high name.0)) at.0, at.1)

-- parts in pieces; 61 is `=` and 124 is `|`
valued_is : (names : List (List ℕ)) (p : Path) (t : Tree) (r : List ℕ) → part_text names (valued p t) ++ r ≡ path_text names p ++ (61 ∷ (text_of t ++ r))
valued_is names p t r = append_assoc (path_text names p) (codes "=" ++ text_of t) r

measured_is : (names : List (List ℕ)) (p : Path) (n : ℕ) (r : List ℕ) → part_text names (measured p n) ++ r ≡ 124 ∷ (path_text names p ++ (124 ∷ (61 ∷ (decimal n ++ r))))
measured_is names p n r = bars (path_text names p) (decimal n) r where
  bars : (path number r : List ℕ) → (codes "|" ++ path ++ codes "|=" ++ number) ++ r ≡ 124 ∷ (path ++ (124 ∷ (61 ∷ (number ++ r))))
  bars path number r = simp append_assoc

-- a place begins with no `|`
place_apart : (names : List (List ℕ)) (p : Path) (r xs : List ℕ) → AreNames names → IsPlace names p → path_text names p ++ (61 ∷ r) ≡ 124 ∷ xs → ⊥
place_apart names p r xs are h e =
    let name = global_name names p.var.number in
    let low = named names p.var.number p.var.lasting h.variable in
    let read = word_read name [] _ (124 ∷ xs) (are.words p.var.number low) tt (indices_end p.at 61 r refl) refl (sym (append_assoc name (flat_map index_text p.at) (61 ∷ r)) ∙ e) in
    indices_apart p.at read.1
  where
    indices_apart : (at : List ℕ) → flat_map index_text at ++ (61 ∷ r) ≡ 124 ∷ xs → ⊥
    indices_apart [] e = heads_apart 61 124 _ _ refl e
    indices_apart (i ∷ at) e = heads_apart 91 124 _ _ refl e

-- a part is read as far as it goes
part_read : (names : List (List ℕ)) (a b : LinePartTree) (r s : List ℕ) → AreNames names → IsPartOf names a → IsPartOf names b → IsPartInRange a → IsPartInRange b → EndsWord r → EndsWord s → part_text names a ++ r ≡ part_text names b ++ s
    → (a ≡ b) × (r ≡ s)
part_read names (valued p t) (valued q u) r s are x y h k v w e =
    let path = path_read 61 refl refl names p q _ _ are (record { variable = x; indices = h.0 }) (record { variable = y; indices = k.0 }) (sym (valued_is names p t r) ∙ (e ∙ valued_is names q u s)) in
    let tree = value_read t u r s h.1 k.1 v w path.1 in
    (ap₂ valued path.0 tree.0, tree.1)
part_read names (valued p t) (measured q n) r s are x y h k v w e = absurd (place_apart names p _ _ are (record { variable = x; indices = h.0 }) (sym (valued_is names p t r) ∙ (e ∙ measured_is names q n s)))
part_read names (measured p m) (valued q u) r s are x y h k v w e = absurd (place_apart names q _ _ are (record { variable = y; indices = k.0 }) (sym (valued_is names q u s) ∙ (sym e ∙ measured_is names p m r)))
part_read names (measured p m) (measured q n) r s are x y h k v w e =
    let pieces = sym (measured_is names p m r) ∙ (e ∙ measured_is names q n s) in
    let path = path_read 124 refl refl names p q _ _ are (record { variable = x; indices = h.0 }) (record { variable = y; indices = k.0 }) (rest_is _ _ _ _ pieces) in
    let number = word_read (decimal m) (decimal n) r s (decimal_is_word m (is_low m h.1)) (decimal_is_word n (is_low n k.1)) v w (rest_is _ _ _ _ path.1) in
    (ap₂ measured path.0 (decimal_injective m n h.1 k.1 number.0), number.1)

-- after a part comes a space or a line feed
parts_end : (names : List (List ℕ)) (ps : List LinePartTree) (r : List ℕ) → EndsWord (flat_map (spaced_text names) ps ++ (10 ∷ r))
parts_end names [] r = refl
parts_end names (a ∷ ps) r = refl

spaced_is : (names : List (List ℕ)) (a : LinePartTree) (later r : List ℕ) → (spaced_text names a ++ later) ++ r ≡ 32 ∷ (part_text names a ++ (later ++ r))
spaced_is names a later r = ap (λ l. 32 ∷ l) (append_assoc (part_text names a) later r)

-- the parts of a line, and what follows the line
pub parts_read : (names : List (List ℕ)) (ps qs : List LinePartTree) (r s : List ℕ) → AreNames names → All (IsPartOf names) ps → All (IsPartOf names) qs → ArePartsInRange ps → ArePartsInRange qs
    → flat_map (spaced_text names) ps ++ (10 ∷ r) ≡ flat_map (spaced_text names) qs ++ (10 ∷ s) → (ps ≡ qs) × (r ≡ s)
parts_read names [] [] r s are x y h k e = (refl, rest_is _ _ _ _ e)
parts_read names [] (b ∷ qs) r s are x y h k e = absurd (heads_apart 10 32 _ _ refl (e ∙ spaced_is names b (flat_map (spaced_text names) qs) (10 ∷ s)))
parts_read names (a ∷ ps) [] r s are x y h k e = absurd (heads_apart 10 32 _ _ refl (sym e ∙ spaced_is names a (flat_map (spaced_text names) ps) (10 ∷ r)))
parts_read names (a ∷ ps) (b ∷ qs) r s are x y h k e =
    let Of = IsPartOf names in
    let pieces = sym (spaced_is names a (flat_map (spaced_text names) ps) (10 ∷ r)) ∙ (e ∙ spaced_is names b (flat_map (spaced_text names) qs) (10 ∷ s)) in
    let one = part_read names a b _ _ are (All-head Of a ps x) (All-head Of b qs y) (All-head IsPartInRange a ps h) (All-head IsPartInRange b qs k) (parts_end names ps r) (parts_end names qs s) (rest_is _ _ _ _ pieces) in
    let more = parts_read names ps qs r s are (All-tail Of a ps x) (All-tail Of b qs y) (All-tail IsPartInRange a ps h) (All-tail IsPartInRange b qs k) one.1 in
    (ap₂ (λ x xs. x ∷ xs) one.0 more.0, more.1)

-- a value after a space
value_is : (t : Tree) (later r : List ℕ) → (shown_value t ++ later) ++ r ≡ 32 ∷ (text_of t ++ (later ++ r))
value_is t later r = ap (λ l. 32 ∷ l) (append_assoc (text_of t) later r)

values_end : (ts : List Tree) (r : List ℕ) → EndsWord (flat_map shown_value ts ++ (10 ∷ r))
values_end [] r = refl
values_end (t ∷ ts) r = refl

-- the values of a line that is shown, and what follows the line
pub values_read : (ts us : List Tree) (r s : List ℕ) → All HasMachineNumbers ts → All HasMachineNumbers us → flat_map shown_value ts ++ (10 ∷ r) ≡ flat_map shown_value us ++ (10 ∷ s) → (ts ≡ us) × (r ≡ s)
values_read [] [] r s h k e = (refl, rest_is _ _ _ _ e)
values_read [] (u ∷ us) r s h k e = absurd (heads_apart 10 32 _ _ refl (e ∙ value_is u (flat_map shown_value us) (10 ∷ s)))
values_read (t ∷ ts) [] r s h k e = absurd (heads_apart 10 32 _ _ refl (sym e ∙ value_is t (flat_map shown_value ts) (10 ∷ r)))
values_read (t ∷ ts) (u ∷ us) r s h k e =
    let pieces = sym (value_is t (flat_map shown_value ts) (10 ∷ r)) ∙ (e ∙ value_is u (flat_map shown_value us) (10 ∷ s)) in
    let one = value_read t u _ _ (All-head HasMachineNumbers t ts h) (All-head HasMachineNumbers u us k) (values_end ts r) (values_end us s) (rest_is _ _ _ _ pieces) in
    let more = values_read ts us r s (All-tail HasMachineNumbers t ts h) (All-tail HasMachineNumbers u us k) one.1 in
    (ap₂ (λ x xs. x ∷ xs) one.0 more.0, more.1)
