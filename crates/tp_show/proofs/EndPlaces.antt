-- Reading variables, places and facts of an end line back.
use Rattle.std.proofs.Common.{◌≡◌, ◌⊎◌, inl, inr, ◌<◌, ◌≤◌, ℕ, zero, suc, ltb, Bool, eqb, true, false, cond, List, [], ◌∷◌, ◌++◌, drop, map, length, slice_get, unwrap_or, All, Some, None, codes, refl, sym, ap, ap₂, ◌∙◌, subst, arith, tests, append_assoc}
use Rattle.std.specs.List.{flat_map}
use Rattle.std.specs.Fmt.{decimal, signed_decimal}
use Rattle.std.proofs.lemmas.List.Elements.{All-head, All-tail}
use Rattle.std.proofs.lemmas.Fmt.{decimal_injective}
use Rattle.tp_value.specs.Tree.{Tree, num, truth, same_truth}
use Rattle.tp_value.specs.Range.{HasMachineNumbers}
use Rattle.tp_value.specs.Written.{text_of}
use Rattle.tp_value.specs.Globals.{is_lower}
use Rattle.tp_value.specs.declared.path.VarId.{VarId}
use Rattle.tp_value.specs.declared.path.Path.{Path}
use Rattle.tp_value.specs.declared.path.Fact.{Fact}
use Rattle.tp_value.specs.declared.value.Shape.{Shape}
use Rattle.tp_value.specs.declared.value.Shape.TheVariants.{Num, Truth, Items}
use Rattle.tp_store.specs.Known.{Variable, IsVariableOf, global_variable, name_where, name_of}
use Rattle.tp_show.specs.Texts.{global_name, index_text, truth_text, shaped_text, variable_text, variable_path_text, variable_fact_text}
use Rattle.tp_show.specs.Line.{shape_part}
use Rattle.tp_show.specs.Told.{is_word_byte, IsWord, AreNames, FitsIn64Bits, IsPartInRange}
use Rattle.tp_show.specs.EndsTold.{AreStoreVariables, IsPlaceOf, IsFactOf, VariablesToldAlike, global, local, PlacesToldAlike, FactsToldAlike}
use Rattle.tp_show.proofs.ReadWordLemmas.{EndsWord, word_read, is_low, decimal_is_word, rest_is, heads_apart}
use Rattle.tp_show.proofs.ReadValueLemmas.{value_read}
use Rattle.tp_show.proofs.PartLemmas.{indices_read}
use Rattle.tp_show.proofs.NamedParts.{lasting_is}

-- ---- names of a store's variables

name_found : (names : List (List ℕ)) (n : ℕ) (b : Bool) → slice_get (map (λ (v : Variable). v.lasting) (map global_variable names)) n ≡ Some b → name_where b (slice_get (map global_variable names) n) ≡ Some (global_name names n)
name_found [] n b h = absurd (cc h)
name_found (name ∷ names) zero b h = let e : is_lower name ≡ b = cc h in subst (λ c. cond (same_truth (is_lower name) c) (Some name) None ≡ Some name) e (same (is_lower name))
  where
    same : (c : Bool) → cond (same_truth c c) (Some name) None ≡ Some name
    same true = refl
    same false = refl
name_found (name ∷ names) (suc n) b h = name_found names n b h

global_first : (globals locals : List (List ℕ)) (n : ℕ) → n < length globals → global_name (globals ++ locals) n ≡ global_name globals n
global_first [] locals n h = absurd (omega (arith, h))
global_first (name ∷ globals) locals zero h = refl
global_first (name ∷ globals) locals (suc n) h = global_first globals locals n (omega (arith, h))

word_at : (names : List (List ℕ)) → All IsWord names → (n : ℕ) → IsWord (global_name names n)
word_at [] h n = tt
word_at (name ∷ names) h zero = All-head IsWord name names h
word_at (name ∷ names) h (suc n) = word_at names (All-tail IsWord name names h) n

local_word : (globals locals : List (List ℕ)) → All IsWord locals → (n : ℕ) → length globals ≤ n → IsWord (global_name (globals ++ locals) n)
local_word [] locals h n high = word_at locals h n
local_word (name ∷ globals) locals h zero high = absurd (omega (arith, high))
local_word (name ∷ globals) locals h (suc n) high = local_word globals locals h n (omega (arith, high))

-- what is written of a global, and of a local
record IsGlobalText (globals : List (List ℕ)) (known : List Variable) (x : VarId) : Type 0 where
  low : x.number < length globals
  text : variable_text globals known x ≡ global_name globals x.number
  lasting : x.lasting ≡ is_lower (global_name globals x.number)

record IsLocalText (globals : List (List ℕ)) (known : List Variable) (x : VarId) : Type 0 where
  high : length globals ≤ x.number
  name : List ℕ
  text : variable_text globals known x ≡ codes "local " ++ name
  word : IsWord name
  found : name_of known x ≡ Some name
  lasting : x.lasting ≡ is_lower name

abbrev IsTextOf : (globals : List (List ℕ)) (known : List Variable) (x : VarId) → Type 0
IsTextOf globals known x = IsGlobalText globals known x ⊎ IsLocalText globals known x

text_by : (globals locals : List (List ℕ)) → All IsWord locals → (x : VarId) → IsVariableOf (map global_variable (globals ++ locals)) x → IsTextOf globals (map global_variable (globals ++ locals)) x
text_by globals locals words x of = by (ltb x.number (length globals)) refl
  where
    names : List (List ℕ)
    names = globals ++ locals

    found : name_of (map global_variable names) x ≡ Some (global_name names x.number)
    found = name_found names x.number x.lasting of

    by : (c : Bool) → ltb x.number (length globals) ≡ c → IsTextOf globals (map global_variable names) x
    by true e =
        let low : x.number < length globals = grind (arith, tests) in
        inl (record {
          low = low;
          text = ap (λ c. cond c (global_name globals x.number) (codes "local " ++ unwrap_or (name_of (map global_variable names) x) [])) e;
          lasting = sym (lasting_is names x.number x.lasting of) ∙ ap is_lower (global_first globals locals x.number low);
        })
    by false e =
        let high : length globals ≤ x.number = grind (arith, tests) in
        inr (record {
          high = high;
          name = global_name names x.number;
          text = ap (λ c. cond c (global_name globals x.number) (codes "local " ++ unwrap_or (name_of (map global_variable names) x) [])) e ∙ ap (λ o. codes "local " ++ unwrap_or o []) found;
          word = local_word globals locals words x.number high;
          found = found;
          lasting = sym (lasting_is names x.number x.lasting of);
        })

text_is : (globals : List (List ℕ)) (known : List Variable) → AreStoreVariables globals known → (x : VarId) → IsVariableOf known x → IsTextOf globals known x
text_is globals known are x of =
    subst (λ (vs : List Variable). IsTextOf globals vs x) (sym are.all) (text_by globals are.locals are.words x (subst (λ (vs : List Variable). IsVariableOf vs x) are.all of))

-- ---- reading them back

-- numbers of 64 bits
pub number_read : (m n : ℕ) (r s : List ℕ) → FitsIn64Bits m → FitsIn64Bits n → EndsWord r → EndsWord s → decimal m ++ r ≡ decimal n ++ s → (m ≡ n) × (r ≡ s)
number_read m n r s h k u v e =
    let read = word_read (decimal m) (decimal n) r s (decimal_is_word m (is_low m h)) (decimal_is_word n (is_low n k)) u v e in
    (decimal_injective m n h k read.0, read.1)

-- the text goes on with neither a word nor a space
abbrev EndsVariable : List ℕ → Type 0
EndsVariable [] = Unit {0}
EndsVariable (c ∷ cs) = (is_word_byte c ≡ false) × (eqb c 32 ≡ false)

ends_word : (r : List ℕ) → EndsVariable r → EndsWord r
ends_word [] h = tt
ends_word (c ∷ r) h = h.0

no_space : (r xs : List ℕ) → EndsVariable r → r ≡ 32 ∷ xs → ⊥
no_space [] xs h e = absurd (cc e)
no_space (c ∷ r) xs h e = heads_apart c 32 r xs h.1 e

local_is_word : IsWord (codes "local")
local_is_word = (refl, (refl, (refl, (refl, (refl, tt)))))

-- indices, and what follows them
indices_end : (at : List ℕ) (c : ℕ) (r : List ℕ) → is_word_byte c ≡ false → eqb c 32 ≡ false → EndsVariable (flat_map index_text at ++ (c ∷ r))
indices_end [] c r h k = (h, k)
indices_end (i ∷ at) c r h k = (refl, refl)

module _ (globals : List (List ℕ)) (are : AreNames globals) (known other : List Variable) (of : AreStoreVariables globals known) (also : AreStoreVariables globals other) where
  global_apart : (x y : VarId) (r s : List ℕ) → IsGlobalText globals known x → IsLocalText globals other y → EndsVariable r → variable_text globals known x ++ r ≡ variable_text globals other y ++ s → ⊥
  global_apart x y r s a b u e =
      let name = global_name globals x.number in
      let pieces : name ++ r ≡ codes "local" ++ (32 ∷ (b.name ++ s)) = ap (λ z. z ++ r) (sym a.text) ∙ (e ∙ ap (λ z. z ++ s) b.text) in
      no_space r (b.name ++ s) u (word_read name (codes "local") r (32 ∷ (b.name ++ s)) (are.words x.number a.low) local_is_word (ends_word r u) refl pieces).1

  variable_read : (x y : VarId) (r s : List ℕ) → IsTextOf globals known x → IsTextOf globals other y → EndsVariable r → EndsVariable s → variable_text globals known x ++ r ≡ variable_text globals other y ++ s → VariablesToldAlike globals known other x y × (r ≡ s)
  variable_read x y r s (inl a) (inl b) u v e =
      let m = global_name globals x.number in
      let n = global_name globals y.number in
      let read = word_read m n r s (are.words x.number a.low) (are.words y.number b.low) (ends_word r u) (ends_word s v) (ap (λ z. z ++ r) (sym a.text) ∙ (e ∙ ap (λ z. z ++ s) b.text)) in
      let number : x.number ≡ y.number = are.apart x.number y.number a.low b.low read.0 in
      let lasting : x.lasting ≡ y.lasting = a.lasting ∙ (ap is_lower read.0 ∙ sym b.lasting) in
      let make : ℕ → Bool → VarId = λ n b. record { number = n; lasting = b } in
      let same : x ≡ y = ap₂ make number lasting in
      (subst (λ (z : VarId). VariablesToldAlike globals known other x z) same (global x a.low), read.1)
  variable_read x y r s (inl a) (inr b) u v e = absurd (global_apart x y r s a b u e)
  variable_read x y r s (inr a) (inl b) u v e = absurd (local_apart x y r s a b v e)
    where
      local_apart : (x y : VarId) (r s : List ℕ) → IsLocalText globals known x → IsGlobalText globals other y → EndsVariable s → variable_text globals known x ++ r ≡ variable_text globals other y ++ s → ⊥
      local_apart x y r s a b v e =
          let name = global_name globals y.number in
          let pieces : name ++ s ≡ codes "local" ++ (32 ∷ (a.name ++ r)) = ap (λ z. z ++ s) (sym b.text) ∙ (sym e ∙ ap (λ z. z ++ r) a.text) in
          no_space s (a.name ++ r) v (word_read name (codes "local") s (32 ∷ (a.name ++ r)) (are.words y.number b.low) local_is_word (ends_word s v) refl pieces).1
  variable_read x y r s (inr a) (inr b) u v e =
      let pieces : a.name ++ r ≡ b.name ++ s = ap (drop 6) (ap (λ z. z ++ r) (sym a.text) ∙ (e ∙ ap (λ z. z ++ s) b.text)) in
      let read = word_read a.name b.name r s a.word b.word (ends_word r u) (ends_word s v) pieces in
      (local x y a.high b.high (a.lasting ∙ (ap is_lower read.0 ∙ sym b.lasting)) (a.found ∙ (ap Some read.0 ∙ sym b.found)), read.1)

  -- up to a byte that goes on neither a word nor a place
  pub place_read : (c : ℕ) → eqb c 91 ≡ false → is_word_byte c ≡ false → eqb c 32 ≡ false → (p q : Path) (r s : List ℕ) → IsPlaceOf known p → IsPlaceOf other q
      → variable_path_text globals known p ++ (c ∷ r) ≡ variable_path_text globals other q ++ (c ∷ s) → PlacesToldAlike globals known other p q × (r ≡ s)
  place_read c apart ends space p q r s h k e =
      let x = variable_text globals known p.var in
      let y = variable_text globals other q.var in
      let i = flat_map index_text p.at in
      let j = flat_map index_text q.at in
      let pieces = sym (append_assoc x i (c ∷ r)) ∙ (e ∙ append_assoc y j (c ∷ s)) in
      let variables = variable_read p.var q.var (i ++ (c ∷ r)) (j ++ (c ∷ s)) (text_is globals known of p.var h.0) (text_is globals other also q.var k.0) (indices_end p.at c r ends space) (indices_end q.at c s ends space) pieces in
      let indices = indices_read c apart p.at q.at r s h.1 k.1 variables.1 in
      (record { variables = variables.0; indices = indices.0 }, indices.1)

-- a place begins with no other word than that of locals
module _ (globals : List (List ℕ)) (are : AreNames globals) (known : List Variable) (of : AreStoreVariables globals known) where
  pub place_apart : (p : Path) → IsPlaceOf known p → (c d : ℕ) (w r s : List ℕ) → is_word_byte c ≡ false → eqb c 32 ≡ false → eqb c d ≡ false → eqb 91 d ≡ false → is_word_byte d ≡ false
      → IsWord w → (codes "local" ≡ w → ⊥) → variable_path_text globals known p ++ (c ∷ r) ≡ w ++ (d ∷ s) → ⊥
  place_apart p h c d w r s ends space no_end no_index word_ends word no_local e = by (text_is globals known of p.var h.0)
    where
      x : List ℕ
      x = variable_text globals known p.var

      i : List ℕ
      i = flat_map index_text p.at

      pieces : x ++ (i ++ (c ∷ r)) ≡ w ++ (d ∷ s)
      pieces = sym (append_assoc x i (c ∷ r)) ∙ e

      behind : (at : List ℕ) → flat_map index_text at ++ (c ∷ r) ≡ d ∷ s → ⊥
      behind [] k = heads_apart c d r s no_end k
      behind (j ∷ at) k = heads_apart 91 d _ s no_index k

      by : IsTextOf globals known p.var → ⊥
      by (inl a) =
          let name = global_name globals p.var.number in
          let ended : EndsWord (i ++ (c ∷ r)) = ends_word (i ++ (c ∷ r)) (indices_end p.at c r ends space) in
          behind p.at (word_read name w (i ++ (c ∷ r)) (d ∷ s) (are.words p.var.number a.low) word ended word_ends (ap (λ z. z ++ (i ++ (c ∷ r))) (sym a.text) ∙ pieces)).1
      by (inr a) =
          let later = a.name ++ (i ++ (c ∷ r)) in
          no_local (word_read (codes "local") w (32 ∷ later) (d ∷ s) local_is_word word refl word_ends (ap (λ z. z ++ (i ++ (c ∷ r))) (sym a.text) ∙ pieces)).0

  -- and with no bar; 124 is `|`
  bar_apart : (p : Path) → IsPlaceOf known p → (r s : List ℕ) → variable_path_text globals known p ++ (61 ∷ r) ≡ 124 ∷ s → ⊥
  bar_apart p h r s e = place_apart p h 61 124 [] r s refl refl refl refl refl tt (λ l. absurd (cc l)) e

-- ---- facts

-- in pieces; 61 is `=`
number_is : (path more r : List ℕ) → (path ++ codes "=" ++ more) ++ r ≡ path ++ (61 ∷ (more ++ r))
number_is path more r = simp append_assoc

length_is : (path more r : List ℕ) → (codes "|" ++ path ++ codes "|=" ++ more) ++ r ≡ 124 ∷ (path ++ (124 ∷ (61 ∷ (more ++ r))))
length_is path more r = simp append_assoc

truth_is : (b : Bool) → truth_text b ≡ text_of (truth b)
truth_is true = refl
truth_is false = refl

truth_spelled : (path : List ℕ) (b : Bool) (r : List ℕ) → shaped_text path (Truth b) ++ r ≡ path ++ (61 ∷ (text_of (truth b) ++ r))
truth_spelled path b r = number_is path (truth_text b) r ∙ ap (λ z. path ++ (61 ∷ (z ++ r))) (truth_is b)

module _ (globals : List (List ℕ)) (are : AreNames globals) (known other : List Variable) (of : AreStoreVariables globals known) (also : AreStoreVariables globals other) where
  -- a place with its value
  valued_read : (p q : Path) (t u : Tree) (r s : List ℕ) → IsPlaceOf known p → IsPlaceOf other q → HasMachineNumbers t → HasMachineNumbers u → EndsWord r → EndsWord s
      → variable_path_text globals known p ++ (61 ∷ (text_of t ++ r)) ≡ variable_path_text globals other q ++ (61 ∷ (text_of u ++ s)) → PlacesToldAlike globals known other p q × (t ≡ u) × (r ≡ s)
  valued_read p q t u r s h k fits fit ends end e =
      let place = place_read globals are known other of also 61 refl refl refl p q _ _ h k e in
      let value = value_read t u r s fits fit ends end place.1 in
      (place.0, value.0, value.1)

  -- with what stands there
  shaped_read : (p q : Path) (a b : Shape) (r s : List ℕ) → IsVariableOf known p.var → IsVariableOf other q.var → IsPartInRange (shape_part p a) → IsPartInRange (shape_part q b) → EndsWord r → EndsWord s
      → shaped_text (variable_path_text globals known p) a ++ r ≡ shaped_text (variable_path_text globals other q) b ++ s → PlacesToldAlike globals known other p q × (a ≡ b) × (r ≡ s)
  shaped_read p q (Num m) (Num n) r s x y h k u v e =
      let P = variable_path_text globals known p in
      let Q = variable_path_text globals other q in
      let read = valued_read p q (num m) (num n) r s (x, h.0) (y, k.0) h.1 k.1 u v (sym (number_is P (signed_decimal m) r) ∙ (e ∙ number_is Q (signed_decimal n) s)) in
      let same : m ≡ n = cc read.1 in
      (read.0, ap Num same, read.2)
  shaped_read p q (Num m) (Truth b) r s x y h k u v e =
      let P = variable_path_text globals known p in
      let Q = variable_path_text globals other q in
      let read = valued_read p q (num m) (truth b) r s (x, h.0) (y, k.0) h.1 k.1 u v (sym (number_is P (signed_decimal m) r) ∙ (e ∙ truth_spelled Q b s)) in
      absurd (cc read.1)
  shaped_read p q (Truth b) (Num n) r s x y h k u v e =
      let P = variable_path_text globals known p in
      let Q = variable_path_text globals other q in
      let read = valued_read p q (truth b) (num n) r s (x, h.0) (y, k.0) h.1 k.1 u v (sym (truth_spelled P b r) ∙ (e ∙ number_is Q (signed_decimal n) s)) in
      absurd (cc read.1)
  shaped_read p q (Truth b) (Truth c) r s x y h k u v e =
      let P = variable_path_text globals known p in
      let Q = variable_path_text globals other q in
      let read = valued_read p q (truth b) (truth c) r s (x, h.0) (y, k.0) h.1 k.1 u v (sym (truth_spelled P b r) ∙ (e ∙ truth_spelled Q c s)) in
      let same : b ≡ c = cc read.1 in
      (read.0, ap Truth same, read.2)
  shaped_read p q (Num m) (Items n) r s x y h k u v e =
      absurd (bar_apart globals are known of p (x, h.0) _ _ (sym (number_is (variable_path_text globals known p) (signed_decimal m) r) ∙ (e ∙ length_is (variable_path_text globals other q) (decimal n) s)))
  shaped_read p q (Truth b) (Items n) r s x y h k u v e =
      absurd (bar_apart globals are known of p (x, h.0) _ _ (sym (truth_spelled (variable_path_text globals known p) b r) ∙ (e ∙ length_is (variable_path_text globals other q) (decimal n) s)))
  shaped_read p q (Items m) (Num n) r s x y h k u v e =
      absurd (bar_apart globals are other also q (y, k.0) _ _ (sym (number_is (variable_path_text globals other q) (signed_decimal n) s) ∙ (sym e ∙ length_is (variable_path_text globals known p) (decimal m) r)))
  shaped_read p q (Items m) (Truth c) r s x y h k u v e =
      absurd (bar_apart globals are other also q (y, k.0) _ _ (sym (truth_spelled (variable_path_text globals other q) c s) ∙ (sym e ∙ length_is (variable_path_text globals known p) (decimal m) r)))
  shaped_read p q (Items m) (Items n) r s x y h k u v e =
      let pieces = rest_is _ _ _ _ (sym (length_is (variable_path_text globals known p) (decimal m) r) ∙ (e ∙ length_is (variable_path_text globals other q) (decimal n) s)) in
      let place = place_read globals are known other of also 124 refl refl refl p q _ _ (x, h.0) (y, k.0) pieces in
      let number = number_read m n r s h.1 k.1 u v (rest_is _ _ _ _ place.1) in
      (place.0, ap Items number.0, number.1)

  -- a fact
  pub fact_read : (f g : Fact) (r s : List ℕ) → IsFactOf known f → IsFactOf other g → EndsWord r → EndsWord s → variable_fact_text globals known f ++ r ≡ variable_fact_text globals other g ++ s
      → FactsToldAlike globals known other f g × (r ≡ s)
  fact_read f g r s h k u v e =
      let read = shaped_read f.path g.path f.shape g.shape r s h.0 k.0 h.1 k.1 u v e in
      (record { places = read.0; shapes = read.1 }, read.2)

-- a fact begins with no other word than that of locals
module _ (globals : List (List ℕ)) (are : AreNames globals) (known : List Variable) (of : AreStoreVariables globals known) where
  shape_apart : (p : Path) (a : Shape) → IsVariableOf known p.var → IsPartInRange (shape_part p a) → (d : ℕ) (w r s : List ℕ) → eqb 61 d ≡ false → eqb 91 d ≡ false → eqb 124 d ≡ false → is_word_byte d ≡ false
      → IsWord w → (codes "local" ≡ w → ⊥) → shaped_text (variable_path_text globals known p) a ++ r ≡ w ++ (d ∷ s) → ⊥
  shape_apart p (Num n) x h d w r s no_end no_index no_bar ends word no_local e =
      place_apart globals are known of p (x, h.0) 61 d w _ s refl refl no_end no_index ends word no_local (sym (number_is (variable_path_text globals known p) (signed_decimal n) r) ∙ e)
  shape_apart p (Truth b) x h d w r s no_end no_index no_bar ends word no_local e =
      place_apart globals are known of p (x, h.0) 61 d w _ s refl refl no_end no_index ends word no_local (sym (truth_spelled (variable_path_text globals known p) b r) ∙ e)
  shape_apart p (Items n) x h d w r s no_end no_index no_bar ends word no_local e =
      heads_apart 124 d _ s no_bar (word_read [] w (124 ∷ _) (d ∷ s) tt word refl ends (sym (length_is (variable_path_text globals known p) (decimal n) r) ∙ e)).1

  pub fact_apart : (f : Fact) → IsFactOf known f → (d : ℕ) (w r s : List ℕ) → eqb 61 d ≡ false → eqb 91 d ≡ false → eqb 124 d ≡ false → is_word_byte d ≡ false
      → IsWord w → (codes "local" ≡ w → ⊥) → variable_fact_text globals known f ++ r ≡ w ++ (d ∷ s) → ⊥
  fact_apart f h d w r s no_end no_index no_bar ends word no_local e = shape_apart f.path f.shape h.0 h.1 d w r s no_end no_index no_bar ends word no_local e
