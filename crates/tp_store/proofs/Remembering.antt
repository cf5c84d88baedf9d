-- What is remembered of variables, while facts come.
use Rattle.std.proofs.Common.{◌≡◌, ◌≢◌, inl, inr, ℕ, Bool, List, [], ◌∷◌, ◌++◌, Option, Some, None, ap, sym, ◌∙◌, subst, arith}
use Rattle.std.specs.declared.rc.Rc.{Rc}
use Rattle.std.specs.declared.alloc.Global.{Global}
use Rattle.tp_value.specs.declared.value.Value.{Value}
use Rattle.tp_value.specs.Read.{tree}
use Rattle.tp_value.specs.declared.path.VarId.{VarId}
use Rattle.tp_value.specs.declared.path.Fact.{Fact}
use Rattle.tp_store.specs.declared.fact_map.Remembered.{Remembered}
use Rattle.tp_store.specs.Known.{NoClash, addition, adds}
use Rattle.tp_store.specs.Changes.{HaveSameShapes}
use Rattle.tp_store.specs.FactMap.{AreOf, FactsOfKind, IsNumberOrTruth}
use Rattle.tp_store.specs.declared.nodes.Nodes.{Nodes}
use Rattle.tp_store.specs.Nodes.{path_along, facts_in_tree, ArePlainBelow, KeepsAll}
use Rattle.tp_store.specs.KeptValue.{IsSaid, IsSaidWith, AreOfValue, IsRemembered, AreRemembered, CountsPlain, Replaces}
use Rattle.tp_store.proofs.Members.{in_left, in_append}
use Rattle.tp_store.proofs.Same.{AgreeAt, same_kept, same_whole, known_more_facts}
use Rattle.tp_store.proofs.Plain.{kept_first, plain_stays}
use Rattle.tp_store.proofs.States.{agree_all}
use Rattle.tp_store.proofs.Parts.{of_in, kind_of}
use Rattle.tp_store.proofs.Values.{value_said}

-- the facts of a variable that gets none stay
same_elsewhere : (x y : VarId) (old news new : List Fact) → y ≢ x → AreOf x news → NoClash (old ++ news) → NoClash new → HaveSameShapes new (old ++ news) → AgreeAt y new old
same_elsewhere x y old news new n a apart new_apart s =
    let all = agree_all new (old ++ news) new_apart apart s y in
    record {
      there = λ f e i.
          elim (in_append f old news (all.there f e i)) [
            | inl j ↦ j
            | inr j ↦ absurd (n (sym e ∙ of_in x news a f j))
          ];
      back = λ f e i. all.back f e (in_left f old news i);
    }

-- so does what is remembered of it
pub remembered_stays : (r : Remembered) (y : VarId) (old new : List Fact) → NoClash old → AgreeAt y new old → IsRemembered r y old → IsRemembered r y new
remembered_stays r y old new apart same is = record {
  plain = λ k less. subst (λ o. IsNumberOrTruth o) (sym (same_kept new old (path_along y (k ∷ [])) apart same)) (is.plain k less);
  said = said_stays r.value is.said;
}
  where
    said_stays : (o : Option (Rc Value Global)) → IsSaid o y old → IsSaid o y new
    said_stays None h = tt
    said_stays (Some v) h = (same_whole new old (path_along y []) apart same ∙ h.0, h.1)

-- so it does where the variable gets facts
pub remembered_grows : (r : Remembered) (y : VarId) (old news new : List Fact) → HaveSameShapes new (old ++ news) → IsRemembered r y old → IsRemembered r y new
remembered_grows r y old news new same is = record { plain = plain_stays y old news new r.plain same is.plain; said = said_grows r.value is.said }
  where
    said_grows : (o : Option (Rc Value Global)) → IsSaid o y old → IsSaid o y new
    said_grows None h = tt
    said_grows (Some v) h = (known_more_facts old new (λ q sh e. same q ∙ kept_first old news q sh e) (path_along y []) (tree v.value) h.0, h.1)

-- and what is found of all of them, where that of the variable is right
pub all_remembered : (old_found new_found : ℕ → Option Remembered) (n : ℕ) (now : Remembered) (b : Bool) (old news new : List Fact)
    → Replaces old_found n now new_found → AreOf (record { number = n; lasting = b }) news → NoClash old → NoClash (old ++ news) → NoClash new → HaveSameShapes new (old ++ news)
    → IsRemembered now (record { number = n; lasting = b }) new → AreRemembered old_found b old → AreRemembered new_found b new
all_remembered old_found new_found n now b old news new replaces a old_apart apart new_apart same here were v r e =
    let V : ℕ → Type 0 = λ k. IsRemembered now (record { number = k; lasting = b }) new in
    let R : Remembered → Type 0 = λ s. IsRemembered s (record { number = v; lasting = b }) new in
    elim (replaces v r e) [
      | inl h ↦ subst R (sym h.1) (subst V (sym h.0) here)
      | inr h ↦ remembered_stays r (record { number = v; lasting = b }) old new old_apart
          (same_elsewhere (record { number = n; lasting = b }) (record { number = v; lasting = b }) old news new (λ q. h.0 (ap (λ (x : VarId). x.number) q)) a apart new_apart same)
          (were v r h.1)
    ]

pub counts_plain : (found : ℕ → Option Remembered) (n count : ℕ) (b : Bool) (fs : List Fact) → CountsPlain found n count → AreRemembered found b fs
    → ArePlainBelow count (record { number = n; lasting = b }) fs
counts_plain found n count b fs (inl none) h = λ k less. absurd (omega (arith, none, less))
counts_plain found n count b fs (inr is) h =
    let P : ℕ → Type 0 = λ c. ArePlainBelow c (record { number = n; lasting = b }) fs in
    subst P is.2 (h n is.0 is.1).plain

-- a value whose facts are added is said then
pub said_with : (value : Option (Rc Value Global)) (x : VarId) (old facts news : List Fact) → AreOfValue x facts value → addition old facts ≡ adds news → NoClash old → NoClash facts → IsSaidWith value x old news
said_with None x old facts news h a n m fs s = tt
said_with (Some v) x old facts news h a n m fs s = (value_said (tree v.value) x old facts news fs h.0 a n m s, h.1)

-- what keeping a variable's facts in a tree gives
pub record IsGrown (b : Bool) (old new : Nodes) (news : List Fact) : Type 0 where
  pub was : NoClash (facts_in_tree b old ++ news)
  pub is : NoClash (facts_in_tree b new)
  pub same : HaveSameShapes (facts_in_tree b new) (facts_in_tree b old ++ news)

pub grown : (m : FactsOfKind) (b : Bool) (old new : Nodes) (room count : ℕ) (x : VarId) (news : List Fact) → record { lasting = b; facts = facts_in_tree b old; spare = room; placed = count } ≡ m → x.lasting ≡ m.lasting → AreOf x news → NoClash (m.facts ++ news)
    → KeepsAll old news new → IsGrown b old new news
grown m b old new room count x news seen kind a apart keeps =
    let N : FactsOfKind → Type 0 = λ k. NoClash (k.facts ++ news) in
    let was = subst N (sym seen) apart in
    let k = keeps b (kind_of x b news (kind ∙ ap (λ (o : FactsOfKind). o.lasting) (sym seen)) a) was in
    record { was = was; is = k.0; same = k.1 }

-- a variable by its number and its kind
pub of_kind : (m : FactsOfKind) (b : Bool) (fs : List Fact) (room count : ℕ) (x : VarId) → record { lasting = b; facts = fs; spare = room; placed = count } ≡ m → x.lasting ≡ m.lasting → x ≡ record { number = x.number; lasting = b }
of_kind m b fs room count x seen kind = ap (λ k. record { number = x.number; lasting = k }) (kind ∙ ap (λ (o : FactsOfKind). o.lasting) (sym seen))
