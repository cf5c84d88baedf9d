-- The facts of a line and those of a store in which they are kept.
use Rattle.std.proofs.Common.{◌≡◌, ℕ, suc, Bool, true, false, not, ◌&&◌, ◌||◌, inl, inr, ◌⊎◌, List, [], ◌∷◌, ◌++◌, map, length, Some, refl, sym, ap, ap₂, ◌∙◌, subst, append_assoc, append-nil, take, drop, get_or, ◌+◌, ◌<◌}
use Rattle.std.specs.List.{list_any}
use Rattle.std.specs.Str.{bytes_eq}
use Rattle.std.proofs.lemmas.List.{map-append, map_push, take_more, take-append-drop}
use Rattle.std.proofs.lemmas.List.Concat.{flat_map-append}
use Rattle.std.proofs.lemmas.Option.{same_Some}
use Rattle.std.proofs.lemmas.Bool.{or_left, or_right, or_from}
use Rattle.std.proofs.lemmas.Slice.Eq.{bytes_eq-Decides}
use Rattle.tp_value.specs.Globals.{variable_of, with_name}
use Rattle.tp_value.specs.Tree.{Tree, Trees, num, truth, list, nil, cons, items_of}
use Rattle.tp_value.specs.declared.value.Shape.TheVariants.{Items}
use Rattle.tp_value.specs.declared.path.VarId.{VarId}
use Rattle.tp_value.specs.declared.path.Fact.{Fact}
use Rattle.tp_store.specs.Facts.{same_variable, same_indices, same_shape, leaves_out, fact, facts_at, facts_of_items, clash}
use Rattle.tp_store.specs.Known.{NoClash, addition, adds, refuses, new_facts}
use Rattle.tp_store.specs.Changes.{HaveSameShapes}
use Rattle.tp_store.proofs.Paths.{same_variable-decides}
use Rattle.tp_store.proofs.Members.{In, in_left, in_right, in_append, kept_in, in_kept, apart_in}
use Rattle.tp_store.proofs.Same.{clash-variable}
use Rattle.tp_store.proofs.Separate.{value_apart}
use Rattle.tp_store.proofs.Adding.{AddsAll, adds_all, Refused, refused_by, NoClash-adds, given_in, news_given}
use Rattle.tp_show.specs.declared.named_fact.NamedFact.{NamedFact}
use Rattle.tp_show.specs.Trace.{TracePart, has_value, has_length, some_variable, path_in, fact_named, part_facts, fact_in, names_clash, have_clash, parts_facts}
use Rattle.tp_show.specs.declared.trace_part.ReadPart.{ReadPart}
use Rattle.tp_show.specs.TraceReading.{trace_part_of, trace_parts_of}
use Rattle.tp_show.specs.TraceFiling.{part_name, variable_facts}
use Rattle.tp_show.proofs.TraceNumbers.{one_variable, variable_stays}

-- the fact is one of those that are told
abbrev pub ToldIn : NamedFact → List NamedFact → Type 0
ToldIn f [] = ⊥
ToldIn f (g ∷ gs) = (g ≡ f) ⊎ ToldIn f gs

told_left : (f : NamedFact) (xs ys : List NamedFact) → ToldIn f xs → ToldIn f (xs ++ ys)
told_left f [] ys h = absurd h
told_left f (x ∷ xs) ys (inl e) = inl e
told_left f (x ∷ xs) ys (inr h) = inr (told_left f xs ys h)

told_right : (f : NamedFact) (xs ys : List NamedFact) → ToldIn f ys → ToldIn f (xs ++ ys)
told_right f [] ys h = h
told_right f (x ∷ xs) ys h = inr (told_right f xs ys h)

told_append : (f : NamedFact) (xs ys : List NamedFact) → ToldIn f (xs ++ ys) → ToldIn f xs ⊎ ToldIn f ys
told_append f [] ys h = inr h
told_append f (x ∷ xs) ys (inl e) = inl (inl e)
told_append f (x ∷ xs) ys (inr h) = elim (told_append f xs ys h) [ inl i ↦ inl (inr i) | inr i ↦ inr i ]

-- ---- a part's facts as facts of a variable

mutual
  moved : (name : List ℕ) (x v : VarId) (at : List ℕ) (t : Tree) → facts_at (path_in x at) t ≡ map (fact_in x) (map (fact_named name) (facts_at (path_in v at) t))
  moved name x v at (num n) = refl
  moved name x v at (truth b) = refl
  moved name x v at (list ts) = ap (λ fs. fact (path_in x at) (Items (length (items_of ts))) ∷ fs) (moved_items name x v at 0 ts)

  moved_items : (name : List ℕ) (x v : VarId) (at : List ℕ) (k : ℕ) (ts : Trees) → facts_of_items (path_in x at) k ts ≡ map (fact_in x) (map (fact_named name) (facts_of_items (path_in v at) k ts))
  moved_items name x v at k nil = refl
  moved_items name x v at k (cons t ts) =
      ap₂ (λ a b. a ++ b) (moved name x v (at ++ k ∷ []) t) (moved_items name x v at (suc k) ts)
      ∙ (sym (map-append (fact_in x) (map (fact_named name) (facts_at (path_in v (at ++ k ∷ [])) t)) (map (fact_named name) (facts_of_items (path_in v at) (suc k) ts)))
      ∙ ap (map (fact_in x)) (sym (map-append (fact_named name) (facts_at (path_in v (at ++ k ∷ [])) t) (facts_of_items (path_in v at) (suc k) ts))))

facts_moved : (x : VarId) (p : TracePart) → variable_facts x p ≡ map (fact_in x) (part_facts p)
facts_moved x (has_value name at t) = moved name x some_variable at t
facts_moved x (has_length name at n) = refl

named_all : (name : List ℕ) (fs : List Fact) (f : NamedFact) → ToldIn f (map (fact_named name) fs) → f.name ≡ name
named_all name [] f h = absurd h
named_all name (g ∷ fs) f (inl e) = ap (λ (y : NamedFact). y.name) (sym e)
named_all name (g ∷ fs) f (inr h) = named_all name fs f h

part_named : (p : TracePart) (f : NamedFact) → ToldIn f (part_facts p) → f.name ≡ part_name p
part_named (has_value name at t) f h = named_all name (facts_at (path_in some_variable at) t) f h
part_named (has_length name at n) f (inl e) = ap (λ (y : NamedFact). y.name) (sym e)
part_named (has_length name at n) f (inr h) = absurd h

in_moved : (x : VarId) (fs : List NamedFact) (g : Fact) → In g (map (fact_in x) fs) → (f : NamedFact) × ToldIn f fs × (fact_in x f ≡ g)
in_moved x [] g h = absurd h
in_moved x (f ∷ fs) g (inl e) = (f, inl refl, e)
in_moved x (f ∷ fs) g (inr h) = (let r = in_moved x fs g h in (r.0, inr r.1, r.2))

moved_in : (x : VarId) (fs : List NamedFact) (f : NamedFact) → ToldIn f fs → In (fact_in x f) (map (fact_in x) fs)
moved_in x [] f h = absurd h
moved_in x (g ∷ fs) f (inl e) = inl (ap (fact_in x) e)
moved_in x (g ∷ fs) f (inr h) = inr (moved_in x fs f h)

-- ---- clashes of named facts, and of facts

one_clash : (v : VarId) (f h : NamedFact) → clash (fact_in v f) (fact_in v h) ≡ clash (fact_in some_variable f) (fact_in some_variable h)
one_clash v f h =
    ap (λ c. ((c && same_indices f.at h.at) && not (same_shape f.shape h.shape)) || ((c && leaves_out f.at f.shape h.at) || (same_variable v v && leaves_out h.at h.shape f.at))) ((same_variable-decides v v).1 refl)
    ∙ ap (λ c. ((true && same_indices f.at h.at) && not (same_shape f.shape h.shape)) || ((true && leaves_out f.at f.shape h.at) || (c && leaves_out h.at h.shape f.at))) ((same_variable-decides v v).1 refl)

pub clash_named : (names : List (List ℕ)) (f h : NamedFact) (x y : VarId) → variable_of names f.name ≡ Some x → variable_of names h.name ≡ Some y → names_clash f h ≡ clash (fact_in x f) (fact_in y h)
clash_named names f h x y e d = by (bytes_eq f.name h.name) refl (clash (fact_in x f) (fact_in y h)) refl
  where
    by : (b : Bool) → bytes_eq f.name h.name ≡ b → (c : Bool) → clash (fact_in x f) (fact_in y h) ≡ c → (bytes_eq f.name h.name && clash (fact_in some_variable f) (fact_in some_variable h)) ≡ clash (fact_in x f) (fact_in y h)
    by true s c t =
        let name : f.name ≡ h.name = (bytes_eq-Decides f.name h.name).0 s in
        let same : x ≡ y = same_Some _ _ (sym e ∙ ap (variable_of names) name ∙ d) in
        ap (λ b. b && clash (fact_in some_variable f) (fact_in some_variable h)) s ∙ (sym (one_clash x f h) ∙ ap (λ v. clash (fact_in x f) (fact_in v h)) same)
    by false s true t =
        let same : x ≡ y = clash-variable (fact_in x f) (fact_in y h) t in
        let name : f.name ≡ h.name = one_variable names f.name h.name x e (d ∙ ap Some (sym same)) in
        let bad : bytes_eq f.name h.name ≡ true = (bytes_eq-Decides f.name h.name).1 name in
        absurd (cc (sym bad ∙ s))
    by false s false t = ap (λ b. b && clash (fact_in some_variable f) (fact_in some_variable h)) s ∙ sym t

none_clash : (f : NamedFact) (fs : List NamedFact) → ((h : NamedFact) → ToldIn h fs → names_clash f h ≡ false) → list_any (names_clash f) fs ≡ false
none_clash f [] apart = refl
none_clash f (h ∷ fs) apart = or_from (names_clash f h) (list_any (names_clash f) fs) (apart h (inl refl)) (none_clash f fs (λ g i. apart g (inr i)))

pub all_apart : (fs : List NamedFact) → ((f h : NamedFact) → ToldIn f fs → ToldIn h fs → names_clash f h ≡ false) → have_clash fs ≡ false
all_apart [] apart = refl
all_apart (f ∷ fs) apart = or_from (list_any (names_clash f) fs) (have_clash fs) (none_clash f fs (λ h i. apart f h (inl refl) (inr i))) (all_apart fs (λ g h i j. apart g h (inr i) (inr j)))

some_clash : (f : NamedFact) (fs : List NamedFact) (h : NamedFact) → ToldIn h fs → names_clash f h ≡ true → list_any (names_clash f) fs ≡ true
some_clash f [] h i t = absurd i
some_clash f (g ∷ fs) h (inl e) t = or_left (names_clash f g) (list_any (names_clash f) fs) (ap (names_clash f) e ∙ t)
some_clash f (g ∷ fs) h (inr i) t = or_right (names_clash f g) (list_any (names_clash f) fs) (some_clash f fs h i t)

two_clash : (xs ys : List NamedFact) (f h : NamedFact) → ToldIn f xs → ToldIn h ys → names_clash f h ≡ true → have_clash (xs ++ ys) ≡ true
two_clash [] ys f h i j t = absurd i
two_clash (x ∷ xs) ys f h (inl e) j t =
    or_left (list_any (names_clash x) (xs ++ ys)) (have_clash (xs ++ ys)) (some_clash x (xs ++ ys) h (told_right h xs ys j) (ap (λ y. names_clash y h) e ∙ t))
two_clash (x ∷ xs) ys f h (inr i) j t = or_right (list_any (names_clash x) (xs ++ ys)) (have_clash (xs ++ ys)) (two_clash xs ys f h i j t)

-- ---- what is kept

-- the facts that were told are those that are kept, as facts of the variables of their names
pub record IsFiled (names : List (List ℕ)) (seen : List NamedFact) (kept : List Fact) : Type 0 where
  pub there : (f : NamedFact) → ToldIn f seen → (x : VarId) × (variable_of names f.name ≡ Some x) × In (fact_in x f) kept
  pub back : (g : Fact) → In g kept → (f : NamedFact) × ToldIn f seen × (x : VarId) × (variable_of names f.name ≡ Some x) × (fact_in x f ≡ g)

pub filed_start : (names : List (List ℕ)) → IsFiled names [] []
filed_start names = record { there = λ f i. absurd i; back = λ g i. absurd i }

filed_names : (names : List (List ℕ)) (added : List ℕ) (seen : List NamedFact) (kept : List Fact) → IsFiled names seen kept → IsFiled (with_name names added) seen kept
filed_names names added seen kept z = record {
  there = λ f i. (let r = z.there f i in (r.0, variable_stays names added f.name r.0 r.1, r.2));
  back = λ g i. (let r = z.back g i in (r.0, r.1, r.2, variable_stays names added r.0.name r.2 r.3, r.4));
}

same_members : (fs gs : List Fact) → NoClash fs → HaveSameShapes fs gs → (g : Fact) → In g fs → In g gs
same_members fs gs n same g i =
    let shape = sym (same g.path) ∙ in_kept fs g n i in
    kept_in gs g.path g.shape shape

filed_same : (names : List (List ℕ)) (seen : List NamedFact) (old new : List Fact) → NoClash old → NoClash new → HaveSameShapes new old → IsFiled names seen old → IsFiled names seen new
filed_same names seen old new n m same z = record {
  there = λ f i. (let r = z.there f i in (r.0, r.1, same_members old new n (λ p. sym (same p)) (fact_in r.0 f) r.2));
  back = λ g i. z.back g (same_members new old m same g i);
}

-- so too where a name has been added, and the facts stand otherwise
pub filed_after : (names after : List (List ℕ)) (added : List ℕ) (seen : List NamedFact) (old new : List Fact) → after ≡ with_name names added → NoClash old → NoClash new → HaveSameShapes new old → IsFiled names seen old → IsFiled after seen new
filed_after names after added seen old new grown n m same z =
    filed_same after seen old new n m same (subst (λ (ns : List (List ℕ)). IsFiled ns seen old) (sym grown) (filed_names names added seen old z))

pub filed_free : (names : List (List ℕ)) (seen : List NamedFact) (kept : List Fact) → IsFiled names seen kept → NoClash kept → have_clash seen ≡ false
filed_free names seen kept z n = all_apart seen (λ f h i j.
    let a = z.there f i in
    let b = z.there h j in
    clash_named names f h a.0 b.0 a.1 b.1 ∙ apart_in kept (fact_in a.0 f) (fact_in b.0 h) n a.2 b.2)

part_apart : (x : VarId) (p : TracePart) → NoClash (variable_facts x p)
part_apart x (has_value name at t) = value_apart (path_in x at) t
part_apart x (has_length name at n) = (refl, refl, tt)

module _ (names : List (List ℕ)) (seen : List NamedFact) (kept : List Fact) (p : TracePart) (x : VarId) (z : IsFiled names seen kept) (v : variable_of names (part_name p) ≡ Some x) where
  given : (g : Fact) → In g (variable_facts x p) → (f : NamedFact) × ToldIn f (part_facts p) × (fact_in x f ≡ g)
  given g i = in_moved x (part_facts p) g (subst (In g) (facts_moved x p) i)

  named_so : (f : NamedFact) → ToldIn f (part_facts p) → variable_of names f.name ≡ Some x
  named_so f i = ap (variable_of names) (part_named p f i) ∙ v

  pub filed_clash : (old new : Fact) → addition kept (variable_facts x p) ≡ refuses old new → (rest : List NamedFact) → have_clash ((seen ++ part_facts p) ++ rest) ≡ true
  filed_clash old new e rest =
      let r : Refused kept (variable_facts x p) old new = refused_by kept (variable_facts x p) (new_facts kept (variable_facts x p)) old new e in
      let a = z.back old r.old_kept in
      let b = given new r.new_given in
      let both : names_clash a.0 b.0 ≡ true = clash_named names a.0 b.0 a.2 x a.3 (named_so b.0 b.1) ∙ (ap₂ clash a.4 b.2 ∙ r.clashes) in
      ap have_clash (append_assoc seen (part_facts p) rest) ∙ two_clash seen (part_facts p ++ rest) a.0 b.0 a.1 (told_left b.0 (part_facts p) rest b.1) both

  pub filed_more : (news new : List Fact) → addition kept (variable_facts x p) ≡ adds news → NoClash kept → NoClash new → HaveSameShapes new (kept ++ news) → IsFiled names (seen ++ part_facts p) new
  filed_more news new e n m same =
      let a : AddsAll kept (variable_facts x p) news = adds_all kept (variable_facts x p) news e in
      let all : NoClash (kept ++ news) = NoClash-adds kept (variable_facts x p) news e n (part_apart x p) in
      let joined : (g : Fact) → In g kept ⊎ In g news → In g new = λ g i. same_members (kept ++ news) new all (λ q. sym (same q)) g (elim i [ inl j ↦ in_left g kept news j | inr j ↦ in_right g kept news j ]) in
      record {
        there = λ f i. elim (told_append f seen (part_facts p) i) [
          | inl j ↦ (let r = z.there f j in (r.0, r.1, joined (fact_in r.0 f) (inl r.2)))
          | inr j ↦ (x, named_so f j, joined (fact_in x f) (given_in kept (variable_facts x p) news a (fact_in x f) (subst (In (fact_in x f)) (sym (facts_moved x p)) (moved_in x (part_facts p) f j))))
        ];
        back = λ g i. elim (in_append g kept news (same_members new (kept ++ news) m same g i)) [
          | inl j ↦ (let r = z.back g j in (r.0, told_left r.0 seen (part_facts p) r.1, r.2, r.3, r.4))
          | inr j ↦ (let r = given g (news_given kept (variable_facts x p) news a g j) in (r.0, told_right r.0 seen (part_facts p) r.1, x, named_so r.0 r.1, r.2))
        ];
      }

-- ---- the parts so far

pub facts_more : (parts : List ReadPart) (i : ℕ) (p : ReadPart) → i < length parts → p ≡ get_or parts i p → parts_facts (trace_parts_of (take (i + 1) parts)) ≡ parts_facts (trace_parts_of (take i parts)) ++ part_facts (trace_part_of p)
facts_more parts i p h e =
    let one : take (i + 1) parts ≡ take i parts ++ p ∷ [] = take_more parts i p h ∙ ap (λ q. take i parts ++ q ∷ []) (sym e) in
    ap (λ ps. parts_facts (trace_parts_of ps)) one ∙ (ap parts_facts (map_push trace_part_of (take i parts) p) ∙ (flat_map-append part_facts (trace_parts_of (take i parts)) (trace_part_of p ∷ []) ∙ ap (λ fs. parts_facts (trace_parts_of (take i parts)) ++ fs) (append-nil (part_facts (trace_part_of p)))))

pub facts_split : (parts : List ReadPart) (i : ℕ) (p : ReadPart) → i < length parts → p ≡ get_or parts i p → parts_facts (trace_parts_of parts) ≡ (parts_facts (trace_parts_of (take i parts)) ++ part_facts (trace_part_of p)) ++ parts_facts (trace_parts_of (drop (i + 1) parts))
facts_split parts i p h e =
    ap (λ ps. parts_facts (trace_parts_of ps)) (sym (take-append-drop (i + 1) parts)) ∙ (ap parts_facts (map-append trace_part_of (take (i + 1) parts) (drop (i + 1) parts)) ∙ (flat_map-append part_facts (trace_parts_of (take (i + 1) parts)) (trace_parts_of (drop (i + 1) parts))
    ∙ ap (λ fs. fs ++ parts_facts (trace_parts_of (drop (i + 1) parts))) (facts_more parts i p h e)))
