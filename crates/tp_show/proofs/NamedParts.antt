-- The parts of a state's line, with the names of their variables, as a trace has them.
use Rattle.std.proofs.Common.{◌≡◌, inl, inr, ◌+◌, ◌<◌, ◌≤◌, ℕ, zero, suc, Bool, true, false, cond, List, [], ◌∷◌, ◌++◌, map, length, slice_get, All, Some, codes, refl, sym, ap, ap₂, ◌∙◌, subst, arith, append_assoc}
use Rattle.std.specs.List.{flat_map, position_from}
use Rattle.std.specs.Option.{option_map}
use Rattle.std.specs.Str.{bytes_eq}
use Rattle.std.specs.Fmt.{decimal}
use Rattle.std.proofs.lemmas.List.{map-append}
use Rattle.std.proofs.lemmas.List.Elements.{All-head, All-tail}
use Rattle.std.proofs.lemmas.Slice.Eq.{bytes_eq-Decides}
use Rattle.tp_value.specs.Globals.{is_lower, variable, variable_of}
use Rattle.tp_value.specs.Tree.{Tree, Trees, num, truth, list, nil, cons, items_of}
use Rattle.tp_value.specs.Limits.{index_limit, length_limit}
use Rattle.tp_value.specs.Written.{text_of}
use Rattle.tp_value.specs.Spelling.{decimal_value}
use Rattle.tp_value.specs.declared.path.VarId.{VarId}
use Rattle.tp_value.specs.declared.path.Path.{Path}
use Rattle.tp_value.specs.declared.path.Fact.{Fact}
use Rattle.tp_value.specs.declared.value.Shape.TheVariants.{Items}
use Rattle.tp_value.proofs.TextSpelled.{decimal_written, text_spelled}
use Rattle.tp_store.specs.Facts.{fact, facts_at, facts_of_items}
use Rattle.tp_store.specs.Known.{Variable, IsVariableOf, global_variable}
use Rattle.tp_store.proofs.Members.{In}
use Rattle.tp_scene.proofs.Globals.{of_variables_in}
use Rattle.tp_show.specs.declared.named_fact.NamedFact.{NamedFact}
use Rattle.tp_show.specs.Texts.{global_name, index_text, path_text}
use Rattle.tp_show.specs.Line.{LinePartTree, valued, measured, part_text, spaced_text}
use Rattle.tp_show.specs.FactsOf.{AreFactsOf}
use Rattle.tp_show.specs.Told.{IsPartOf}
use Rattle.tp_show.specs.Trace.{TracePart, has_value, has_length, some_variable, path_in, fact_named, part_facts, parts_facts, fact_in, have_clash, named_fact, IsVariableName, SpellsIndices, none, index, SpellsPath, SpellsPart, value, list_length, SpellsParts, part}
use Rattle.tp_show.specs.TraceOfRun.{AreVariableNames, IsWithinIndexLimit, IsPathWithinLimits, IsPartWithinLimits}
use Rattle.tp_show.proofs.PartLemmas.{named}
use Rattle.tp_show.proofs.TraceFiled.{ToldIn, IsFiled, filed_free}
use Rattle.tp_show.proofs.FactsTold.{facts_told}

-- ---- spelled

indices_spelled : (at : List ℕ) → All IsWithinIndexLimit at → SpellsIndices (flat_map index_text at) at
indices_spelled [] h = none
indices_spelled (i ∷ at) h =
    let small : i ≤ index_limit = All-head IsWithinIndexLimit i at h in
    let w = decimal_written i (omega (arith, small)) in
    let one : SpellsIndices (codes "[" ++ (decimal i ++ (codes "]" ++ flat_map index_text at))) (decimal_value (decimal i) ∷ at) =
    index (decimal i) (flat_map index_text at) at w.0 (omega (arith, small, w.1)) (indices_spelled at (All-tail IsWithinIndexLimit i at h)) in
    let text : codes "[" ++ (decimal i ++ (codes "]" ++ flat_map index_text at)) ≡ index_text i ++ flat_map index_text at = simp append_assoc in
    subst (λ (z : List ℕ). SpellsIndices z (i ∷ at)) text (subst (λ (k : ℕ). SpellsIndices (codes "[" ++ (decimal i ++ (codes "]" ++ flat_map index_text at))) (k ∷ at)) w.1 one)

pub name_at : (names : List (List ℕ)) → All IsVariableName names → (i : ℕ) → i < length names → IsVariableName (global_name names i)
name_at [] h i low = absurd (omega (arith, low))
name_at (name ∷ names) h zero low = All-head IsVariableName name names h
name_at (name ∷ names) h (suc i) low = name_at names (All-tail IsVariableName name names h) i (omega (arith, low))

-- the part, as a trace has it
abbrev pub part_named : (names : List (List ℕ)) → LinePartTree → TracePart
part_named names (valued p t) = has_value (global_name names p.var.number) p.at t
part_named names (measured p n) = has_length (global_name names p.var.number) p.at n

module _ (names : List (List ℕ)) (are : AreVariableNames names) where
  path_spelled : (p : Path) → IsVariableOf (map global_variable names) p.var → IsPathWithinLimits p → SpellsPath (path_text names p) (global_name names p.var.number) p.at
  path_spelled p of within = record {
    variable_name = name_at names are.each p.var.number (named names p.var.number p.var.lasting of);
    indices = flat_map index_text p.at;
    split = refl;
    spelled = indices_spelled p.at within.indices;
    few = within.few;
  }

  part_spelled : (a : LinePartTree) → IsPartOf names a → IsPartWithinLimits a → SpellsPart (part_text names a) (part_named names a)
  part_spelled (valued p t) of within = value (path_text names p) (global_name names p.var.number) p.at (text_of t) t (path_spelled p of within.0) (text_spelled t within.1.numbers) within.1
  part_spelled (measured p n) of within =
      let small : n ≤ length_limit = within.1 in
      let w = decimal_written n (omega (arith, small)) in
      let path = path_text names p in
      let one : SpellsPart ((codes "|" ++ (path ++ codes "|")) ++ (codes "=" ++ decimal n)) (has_length (global_name names p.var.number) p.at (decimal_value (decimal n))) =
      list_length path (global_name names p.var.number) p.at (decimal n) (path_spelled p of within.0) w.0 (omega (arith, small, w.1)) in
      let text : (codes "|" ++ (path ++ codes "|")) ++ (codes "=" ++ decimal n) ≡ part_text names (measured p n) = pieces path (decimal n) in
      subst (λ (z : List ℕ). SpellsPart z (part_named names (measured p n))) text (subst (λ (k : ℕ). SpellsPart ((codes "|" ++ (path ++ codes "|")) ++ (codes "=" ++ decimal n)) (has_length (global_name names p.var.number) p.at k)) w.1 one)
    where
      pieces : (path ds : List ℕ) → (codes "|" ++ (path ++ codes "|")) ++ (codes "=" ++ ds) ≡ codes "|" ++ path ++ codes "|=" ++ ds
      pieces path ds = simp append_assoc

  pub parts_spelled : (parts : List LinePartTree) → All (IsPartOf names) parts → All IsPartWithinLimits parts → SpellsParts (flat_map (spaced_text names) parts) (map (part_named names) parts)
  parts_spelled [] of within = none
  parts_spelled (a ∷ parts) of within =
      let first = part_spelled a (All-head (IsPartOf names) a parts of) (All-head IsPartWithinLimits a parts within) in
      let later = parts_spelled parts (All-tail (IsPartOf names) a parts of) (All-tail IsPartWithinLimits a parts within) in
      part (part_text names a) (flat_map (spaced_text names) parts) (part_named names a) (map (part_named names) parts) first later

-- ---- the facts that they give

mutual
  value_named : (names : List (List ℕ)) (x : VarId) (at : List ℕ) (t : Tree) → map (fact_named (global_name names x.number)) (facts_at (path_in some_variable at) t) ≡ map (named_fact names) (facts_at (path_in x at) t)
  value_named names x at (num n) = refl
  value_named names x at (truth b) = refl
  value_named names x at (list ts) = ap (λ fs. fact_named (global_name names x.number) (fact (path_in x at) (Items (length (items_of ts)))) ∷ fs) (items_named names x at 0 ts)

  items_named : (names : List (List ℕ)) (x : VarId) (at : List ℕ) (k : ℕ) (ts : Trees) → map (fact_named (global_name names x.number)) (facts_of_items (path_in some_variable at) k ts) ≡ map (named_fact names) (facts_of_items (path_in x at) k ts)
  items_named names x at k nil = refl
  items_named names x at k (cons t ts) =
      let name = global_name names x.number in
      map-append (fact_named name) (facts_at (path_in some_variable (at ++ k ∷ [])) t) (facts_of_items (path_in some_variable at) (suc k) ts)
      ∙ (ap₂ (λ a b. a ++ b) (value_named names x (at ++ k ∷ []) t) (items_named names x at (suc k) ts)
      ∙ sym (map-append (named_fact names) (facts_at (path_in x (at ++ k ∷ [])) t) (facts_of_items (path_in x at) (suc k) ts)))

part_gives : (names : List (List ℕ)) (a : LinePartTree) → part_facts (part_named names a) ≡ map (named_fact names) (facts_told a)
part_gives names (valued p t) = value_named names p.var p.at t
part_gives names (measured p n) = refl

pub parts_give : (names : List (List ℕ)) (parts : List LinePartTree) → parts_facts (map (part_named names) parts) ≡ map (named_fact names) (flat_map facts_told parts)
parts_give names [] = refl
parts_give names (a ∷ parts) = ap₂ (λ x y. x ++ y) (part_gives names a) (parts_give names parts) ∙ sym (map-append (named_fact names) (facts_told a) (flat_map facts_told parts))

-- ---- they don't clash

-- the place of a name among names that are apart
place_of_name : (names : List (List ℕ)) (i j : ℕ) → j < length names → ((k : ℕ) → k < j → bytes_eq (global_name names j) (global_name names k) ≡ false) → position_from (bytes_eq (global_name names j)) i names ≡ Some (j + i)
place_of_name [] i j low apart = absurd (omega (arith, low))
place_of_name (name ∷ names) i zero low apart =
    let here : bytes_eq name name ≡ true = (bytes_eq-Decides name name).1 refl in
    let n : i ≡ zero + i = omega arith in
    ap (λ c. cond c (Some i) (position_from (bytes_eq name) (i + 1) names)) here ∙ ap Some n
place_of_name (name ∷ names) i (suc j) low apart =
    let other : bytes_eq (global_name names j) name ≡ false = apart 0 (omega arith) in
    let later = place_of_name names (i + 1) j (omega (arith, low)) (λ k h. apart (suc k) (omega (arith, h))) in
    let n : j + (i + 1) ≡ suc j + i = omega arith in
    ap (λ c. cond c (Some i) (position_from (bytes_eq (global_name names j)) (i + 1) names)) other ∙ (later ∙ ap Some n)

pub lasting_is : (names : List (List ℕ)) (i : ℕ) (b : Bool) → slice_get (map (λ (v : Variable). v.lasting) (map global_variable names)) i ≡ Some b → is_lower (global_name names i) ≡ b
lasting_is [] i b e = absurd (cc e)
lasting_is (name ∷ names) zero b e = cc e
lasting_is (name ∷ names) (suc i) b e = lasting_is names i b e

pub variable_by_name : (names : List (List ℕ)) → AreVariableNames names → (x : VarId) → IsVariableOf (map global_variable names) x → variable_of names (global_name names x.number) ≡ Some x
variable_by_name names are x of =
    let low = named names x.number x.lasting of in
    let other : (k : ℕ) → k < x.number → bytes_eq (global_name names x.number) (global_name names k) ≡ false = λ k h. apart k h (bytes_eq (global_name names x.number) (global_name names k)) refl in
    let place = place_of_name names 0 x.number low other in
    let n : x.number + 0 ≡ x.number = omega arith in
    let make : ℕ → Bool → VarId = λ i b. record { number = i; lasting = b } in
    ap (option_map (variable (global_name names x.number))) (place ∙ ap Some n) ∙ ap (λ b. Some (make x.number b)) (lasting_is names x.number x.lasting of)
  where
    apart : (k : ℕ) → k < x.number → (c : Bool) → bytes_eq (global_name names x.number) (global_name names k) ≡ c → c ≡ false
    apart k h false e = refl
    apart k h true e =
        let low = named names x.number x.lasting of in
        let same : x.number ≡ k = are.apart x.number k low (omega (arith, h, low)) ((bytes_eq-Decides (global_name names x.number) (global_name names k)).0 e) in
        absurd (omega (arith, same, h))

named_there : (names : List (List ℕ)) (fs : List Fact) (f : NamedFact) → ToldIn f (map (named_fact names) fs) → (g : Fact) × In g fs × (named_fact names g ≡ f)
named_there names [] f i = absurd i
named_there names (g ∷ fs) f (inl e) = (g, inl refl, e)
named_there names (g ∷ fs) f (inr i) = (let r = named_there names fs f i in (r.0, inr r.1, r.2))

there_named : (names : List (List ℕ)) (fs : List Fact) (g : Fact) → In g fs → ToldIn (named_fact names g) (map (named_fact names) fs)
there_named names [] g i = absurd i
there_named names (f ∷ fs) g (inl e) = inl (ap (named_fact names) e)
there_named names (f ∷ fs) g (inr i) = inr (there_named names fs g i)

pub named_apart : (names : List (List ℕ)) → AreVariableNames names → (facts : List Fact) → AreFactsOf names facts → have_clash (map (named_fact names) facts) ≡ false
named_apart names are facts h = filed_free names (map (named_fact names) facts) facts filed h.no_clash
  where
    by_name : (g : Fact) → In g facts → variable_of names (global_name names g.path.var.number) ≡ Some g.path.var
    by_name g i = variable_by_name names are g.path.var (of_variables_in (map global_variable names) facts h.of_variables g i)

    filed : IsFiled names (map (named_fact names) facts) facts
    filed = record {
      there = λ f i.
          let r = named_there names facts f i in
          let P : NamedFact → Type 0 = λ y. (x : VarId) × (variable_of names y.name ≡ Some x) × In (fact_in x y) facts in
          subst P r.2 (r.0.path.var, by_name r.0 r.1, r.1);
      back = λ g i. (named_fact names g, there_named names facts g i, g.path.var, by_name g i, refl);
    }
