-- The parts of a line, fact by fact.
use Rattle.std.proofs.Common.{◌≡◌, inl, inr, ℕ, zero, suc, ◌+◌, ◌<◌, cond, List, [], ◌∷◌, ◌++◌, length, get_or, take, Option, Some, refl, ap, ap₂, sym, ◌∙◌, arith, append_assoc, append-nil}
use Rattle.std.specs.List.{flat_map}
use Rattle.tp_value.specs.declared.path.Path.{Path}
use Rattle.tp_value.specs.declared.path.Fact.{Fact}
use Rattle.tp_store.specs.Known.{Full}
use Rattle.tp_store.proofs.Members.{In}
use Rattle.tp_show.specs.Line.{is_written, is_value, known_part, parts_by}

-- where the same is known of each fact's path, the parts are the same
pub parts_same : (k l : Path → Full) (last : Option Path) (fs : List Fact) → ((f : Fact) → In f fs → k f.path ≡ l f.path) → parts_by k last fs ≡ parts_by l last fs
parts_same k l last [] same = refl
parts_same k l last (f ∷ fs) same =
    let more : (g : Fact) → In g fs → k g.path ≡ l g.path = λ g i. same g (inr i) in
    let after : Full → Option Path = λ known. cond (is_value known) (Some f.path) last in
    let skipped = parts_same k l last fs more in
    let first : k f.path ≡ l f.path = same f (inl refl) in
    let rest : parts_by k (after (k f.path)) fs ≡ parts_by l (after (l f.path)) fs = parts_same k l (after (k f.path)) fs more ∙ ap (λ known. parts_by l (after known) fs) first in
    let made : known_part f (k f.path) ∷ parts_by k (after (k f.path)) fs ≡ known_part f (l f.path) ∷ parts_by l (after (l f.path)) fs = ap₂ (λ x xs. x ∷ xs) (ap (known_part f) first) rest in
    ap₂ (λ a b. cond (is_written last f.path) a b) skipped made

-- three pieces are appended one after the other
pub three_joined : (out a b c first second third : List ℕ) → first ≡ out ++ a → second ≡ first ++ b → third ≡ second ++ c → third ≡ out ++ ((a ++ b) ++ c)
three_joined out a b c first second third p q r =
    let second_is : second ≡ out ++ (a ++ b) = q ∙ (ap (λ l. l ++ b) p ∙ append_assoc out a b) in
    r ∙ (ap (λ l. l ++ c) second_is ∙ append_assoc out (a ++ b) c)

-- the text of one more
flat_one : {X : Type 0} (f : X → List ℕ) (xs : List X) (i : ℕ) (d : X) → i < length xs → flat_map f (take (i + 1) xs) ≡ flat_map f (take i xs) ++ f (get_or xs i d)
flat_one f [] i d h = absurd (omega arith)
flat_one f (x ∷ xs) zero d h = append-nil (f x)
flat_one f (x ∷ xs) (suc i) d h =
    let next : suc i + 1 ≡ suc (i + 1) = omega arith in
    ap (λ n. flat_map f (take n (x ∷ xs))) next ∙ (ap (λ l. f x ++ l) (flat_one f xs i d (omega arith)) ∙ sym (append_assoc (f x) (flat_map f (take i xs)) (f (get_or xs i d))))

pub flat_more : {X : Type 0} (f : X → List ℕ) (xs : List X) (i : ℕ) (d : X) (start old new : List ℕ) → i < length xs → old ≡ start ++ flat_map f (take i xs) → new ≡ old ++ f (get_or xs i d)
    → new ≡ start ++ flat_map f (take (i + 1) xs)
flat_more f xs i d start old new h e q =
    q ∙ (ap (λ l. l ++ f (get_or xs i d)) e ∙ (append_assoc start (flat_map f (take i xs)) (f (get_or xs i d)) ∙ ap (λ l. start ++ l) (sym (flat_one f xs i d h))))
