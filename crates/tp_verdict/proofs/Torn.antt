-- Where no state's own facts clash, a run is torn exactly where the facts of static variables clash.
use Rattle.std.proofs.Common.{◌≡◌, inl, inr, Bool, true, false, not, ◌&&◌, eqb, List, [], ◌∷◌, ◌++◌, refl, sym, ap, ◌∙◌, arith}
use Rattle.std.specs.List.{flat_map, list_any}
use Rattle.std.proofs.lemmas.Bool.{or_parts, or_from, or_left, or_right, and_left, and_right, cases_Bool}
use Rattle.tp_value.specs.Tree.{same_truth}
use Rattle.tp_value.specs.declared.path.Fact.{Fact}
use Rattle.tp_store.specs.Facts.{same_variable, same_shape, same_path, leaves_out, excludes, clash}
use Rattle.tp_store.specs.Known.{clashes_with_some, lasting_facts}
use Rattle.tp_store.proofs.Members.{In, in_append, in_left, in_right, filter_in, meets_none, none_meets, excludes-own}
use Rattle.tp_store.proofs.Paths.{same_shape-decides, clash-sym}
use Rattle.tp_verdict.specs.Trace.{FactsOfStates, known_with, clash_somewhere, is_torn}
use Rattle.tp_verdict.specs.VerdictLaws.{NoneClash, TornByLasting}
use Rattle.tp_verdict.proofs.Right.{lasting_of}

-- a fact doesn't clash with itself
self : (f : Fact) → clash f f ≡ false
self f =
    let same : not (same_shape f.shape f.shape) ≡ false = ap not ((same_shape-decides f.shape f.shape).1 refl) in
    let out = excludes-own f f.path (omega arith) in
    or_from (same_path f.path f.path && not (same_shape f.shape f.shape)) _ (and_right (same_path f.path f.path) _ same) (or_from (excludes f f.path) (excludes f f.path) out out)

pub apart : (fs : List Fact) → clash_somewhere fs ≡ false → (f g : Fact) → In f fs → In g fs → clash g f ≡ false
apart [] h f g i j = absurd i
apart (x ∷ xs) h f g (inl e) (inl d) = let q : g ≡ f = sym d ∙ e in ap (λ y. clash y f) q ∙ self f
apart (x ∷ xs) h f g (inl e) (inr j) = ap (clash g) (sym e) ∙ none_meets xs x (or_parts (clashes_with_some xs x) (clash_somewhere xs) h).0 g j
apart (x ∷ xs) h f g (inr i) (inl d) = clash-sym g f ∙ ap (clash f) (sym d) ∙ none_meets xs x (or_parts (clashes_with_some xs x) (clash_somewhere xs) h).0 f i
apart (x ∷ xs) h f g (inr i) (inr j) = apart xs (or_parts (clashes_with_some xs x) (clash_somewhere xs) h).1 f g i j

-- facts of variables of both kinds
truths_differ : (a b : Bool) → a ≡ true → b ≡ false → same_truth a b ≡ false
truths_differ true false h k = refl
truths_differ true true h k = absurd (cc)
truths_differ false b h k = absurd (cc)

other_kind : (f g : Fact) → f.path.var.lasting ≡ true → g.path.var.lasting ≡ false → clash f g ≡ false
other_kind f g h k =
    let v : same_variable f.path.var g.path.var ≡ false = and_right (eqb f.path.var.number g.path.var.number) _ (truths_differ f.path.var.lasting g.path.var.lasting h k) in
    let w : same_variable g.path.var f.path.var ≡ false = and_right (eqb g.path.var.number f.path.var.number) _ (back g.path.var.lasting f.path.var.lasting k h) in
    or_from (same_path f.path g.path && not (same_shape f.shape g.shape)) _
    (and_left (same_path f.path g.path) _ (and_left (same_variable f.path.var g.path.var) _ v))
    (or_from (excludes f g.path) (excludes g f.path)
    (and_left (same_variable f.path.var g.path.var) (leaves_out f.path.at f.shape g.path.at) v)
    (and_left (same_variable g.path.var f.path.var) (leaves_out g.path.at g.shape f.path.at) w))
  where
    back : (a b : Bool) → a ≡ false → b ≡ true → same_truth a b ≡ false
    back false true h k = refl
    back false false h k = absurd (cc)
    back true b h k = absurd (cc)

nowhere_together : (xs ys : List Fact) → clash_somewhere xs ≡ false → clash_somewhere ys ≡ false → ((f g : Fact) → In f xs → In g ys → clash g f ≡ false) → clash_somewhere (xs ++ ys) ≡ false
nowhere_together [] ys h k c = k
nowhere_together (x ∷ xs) ys h k c =
    let p = or_parts (clashes_with_some xs x) (clash_somewhere xs) h in
    or_from (clashes_with_some (xs ++ ys) x) (clash_somewhere (xs ++ ys))
    (meets_none (xs ++ ys) x (λ g i. elim (in_append g xs ys i) [ inl j ↦ none_meets xs x p.0 g j | inr j ↦ c x g (inl refl) j ]))
    (nowhere_together xs ys p.1 k (λ f g i j. c f g (inr i) j))

somewhere_right : (xs ys : List Fact) → clash_somewhere ys ≡ true → clash_somewhere (xs ++ ys) ≡ true
somewhere_right [] ys h = h
somewhere_right (x ∷ xs) ys h = or_right (clashes_with_some (xs ++ ys) x) (clash_somewhere (xs ++ ys)) (somewhere_right xs ys h)

module _ (rest : List Fact) (none : clash_somewhere rest ≡ false) where
  -- own facts of a state whose lasting ones are among the rest
  own_whole : (own : List Fact) → clash_somewhere own ≡ false → ((f : Fact) → In f own → f.path.var.lasting ≡ true → In f rest)
      → ((g : Fact) → In g rest → g.path.var.lasting ≡ true) → clash_somewhere (own ++ rest) ≡ false
  own_whole own h inside lasting = nowhere_together own rest h none (λ f g i j. elim (cases_Bool f.path.var.lasting) [
    | inl e ↦ apart rest none f g (inside f i e) j
    | inr e ↦ other_kind g f (lasting g j) e
  ])

  whole_run : (xs : FactsOfStates) → NoneClash xs → ((f : Fact) → In f (flat_map lasting_facts xs) → In f rest) → ((g : Fact) → In g rest → g.path.var.lasting ≡ true)
      → list_any (λ own. clash_somewhere (own ++ rest)) xs ≡ false
  whole_run [] h inside lasting = refl
  whole_run (own ∷ xs) h inside lasting = or_from (clash_somewhere (own ++ rest)) (list_any (λ x. clash_somewhere (x ++ rest)) xs)
      (own_whole own h.0 (λ f i e. inside f (in_left f (lasting_facts own) (flat_map lasting_facts xs) (filter_in (λ (g : Fact). g.path.var.lasting) f own i e))) lasting)
      (whole_run xs h.1 (λ f i. inside f (in_right f (lasting_facts own) (flat_map lasting_facts xs) i)) lasting)

torn_by : (trace : FactsOfStates) → clash_somewhere (flat_map lasting_facts trace) ≡ true → is_torn trace ≡ true
torn_by [] h = absurd (cc)
torn_by (own ∷ xs) h = or_left (clash_somewhere (known_with (own ∷ xs) own)) _ (somewhere_right own (flat_map lasting_facts (own ∷ xs)) h)

pub torn_by_lasting : TornByLasting
torn_by_lasting trace h = by (clash_somewhere (flat_map lasting_facts trace)) refl
  where
    by : (b : Bool) → clash_somewhere (flat_map lasting_facts trace) ≡ b → is_torn trace ≡ clash_somewhere (flat_map lasting_facts trace)
    by true e = torn_by trace e ∙ sym e
    by false e = whole_run (flat_map lasting_facts trace) e trace h (λ f i. i) (λ g i. (lasting_of trace g i).4) ∙ sym e
