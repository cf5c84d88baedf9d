-- Parts, one after another.
use Rattle.std.proofs.Common.{◌≡◌, ℕ, ◌+◌, ◌<◌, true, inl, inr, ◌⊎◌, List, [], ◌∷◌, ◌++◌, length, refl, sym, ap, ◌∙◌, subst, arith, append_assoc, append-nil, codes, length-append}
use Rattle.tp_show.specs.Trace.{TracePart, SpellsParts, none, part}
use Rattle.tp_show.specs.TraceReading.{is_apart, BeginsWithPart, ComesNext}
use Rattle.tp_show.proofs.TraceParts.{part_unique}

parts_apart : {z : List ℕ} {ps : List TracePart} → SpellsParts z ps → is_apart z ≡ true
parts_apart none = refl
parts_apart (part s z p ps sp rest) = refl

-- parts that aren't over go on with the first
pub record GoOn (z : List ℕ) (ps : List TracePart) : Type 0 where
  pub head : TracePart
  pub rest : List ℕ
  pub comes : ComesNext z head rest
  pub more : List TracePart
  pub all : ps ≡ head ∷ more
  pub spelled : SpellsParts rest more

pub first_of_parts : {z : List ℕ} {ps : List TracePart} → SpellsParts z ps → ((z ≡ []) × (ps ≡ [])) ⊎ GoOn z ps
first_of_parts none = inl (refl, refl)
first_of_parts (part s z p ps sp rest) = inr (record { head = p; rest = z; comes = (s ++ z, refl, record { text = s; split = refl; spelled = sp; apart = parts_apart rest }); more = ps; all = refl; spelled = rest })

same_rest : (x y : ℕ) (xs ys : List ℕ) → x ∷ xs ≡ y ∷ ys → xs ≡ ys
same_rest x y xs ys e = cc

pub next_unique : (z : List ℕ) (p q : TracePart) (rest other : List ℕ) → ComesNext z p rest → ComesNext z q other → (p ≡ q) × (rest ≡ other)
next_unique z p q rest other a b =
    part_unique a.0 p q rest other a.2 (subst (λ (x : List ℕ). BeginsWithPart x q other) (same_rest 32 32 b.0 a.0 (sym b.1 ∙ a.1)) b.2)

pub no_next_in_none : (p : TracePart) (rest : List ℕ) → ¬ ComesNext [] p rest
no_next_in_none p rest c = cc c.1

-- the parts that were read, and those that the rest spells, are those that the text spells
pub record PartsGoOn (text rest : List ℕ) (seen : List TracePart) : Type 0 where
  pub back : (ps : List TracePart) → SpellsParts rest ps → SpellsParts text (seen ++ ps)
  pub ahead : (all : List TracePart) → SpellsParts text all → (ps : List TracePart) × SpellsParts rest ps × (all ≡ seen ++ ps)

pub parts_start : (text : List ℕ) → PartsGoOn text text []
parts_start text = record { back = λ ps s. s; ahead = λ all s. (all, s, refl) }

with_next : (z : List ℕ) (p : TracePart) (rest : List ℕ) (ps : List TracePart) → ComesNext z p rest → SpellsParts rest ps → SpellsParts z (p ∷ ps)
with_next z p rest ps c s = subst (λ (x : List ℕ). SpellsParts x (p ∷ ps)) (sym (c.1 ∙ ap (λ x. codes " " ++ x) c.2.split)) (part c.2.text rest p ps c.2.spelled s)

pub parts_next : (text z : List ℕ) (seen : List TracePart) (p : TracePart) (rest : List ℕ) → PartsGoOn text z seen → ComesNext z p rest → PartsGoOn text rest (seen ++ p ∷ [])
parts_next text z seen p rest g c = record {
  back = λ ps s. subst (SpellsParts text) (sym (append_assoc seen (p ∷ []) ps)) (g.back (p ∷ ps) (with_next z p rest ps c s));
  ahead = λ all s. (let a = g.ahead all s in onward a.0 a.2 (first_of_parts a.1));
}
  where
    onward : {all : List TracePart} (ps : List TracePart) → all ≡ seen ++ ps → ((z ≡ []) × (ps ≡ [])) ⊎ GoOn z ps → (qs : List TracePart) × SpellsParts rest qs × (all ≡ (seen ++ p ∷ []) ++ qs)
    onward ps same (inl over) = absurd (no_next_in_none p rest (subst (λ (x : List ℕ). ComesNext x p rest) over.0 c))
    onward ps same (inr f) =
        let one = next_unique z f.head p f.rest rest f.comes c in
        (f.more, subst (λ (x : List ℕ). SpellsParts x f.more) one.1 f.spelled, same ∙ (ap (λ x. seen ++ x) (f.all ∙ ap (λ q. q ∷ f.more) one.0) ∙ sym (append_assoc seen (p ∷ []) f.more)))

pub parts_end : (text : List ℕ) (seen : List TracePart) → PartsGoOn text [] seen → SpellsParts text seen
parts_end text seen g = subst (SpellsParts text) (append-nil seen) (g.back [] none)

pub parts_fail : (text rest : List ℕ) (seen : List TracePart) → PartsGoOn text rest seen → (rest ≡ [] → ⊥) → ((p : TracePart) (after : List ℕ) → ¬ ComesNext rest p after) → (all : List TracePart) → ¬ SpellsParts text all
parts_fail text rest seen g some never all s = (let a = g.ahead all s in onward (first_of_parts a.1))
  where
    onward : {ps : List TracePart} → ((rest ≡ []) × (ps ≡ [])) ⊎ GoOn rest ps → ⊥
    onward (inl over) = some over.0
    onward (inr f) = never f.head f.rest f.comes

-- a text spells one list of parts
pub parts_unique : {z : List ℕ} {ps qs : List TracePart} → SpellsParts z ps → SpellsParts z qs → ps ≡ qs
parts_unique none t = by (first_of_parts t)
  where
    by : {qs : List TracePart} → ((◌≡◌ {A = List ℕ} [] []) × (qs ≡ [])) ⊎ GoOn [] qs → [] ≡ qs
    by (inl over) = sym over.1
    by (inr f) = absurd (no_next_in_none f.head f.rest f.comes)
parts_unique {qs = qs} (part s z p ps sp rest) t = by (λ more r. parts_unique rest r) (first_of_parts t)
  where
    by : ((more : List TracePart) → SpellsParts z more → ps ≡ more) → ((codes " " ++ (s ++ z) ≡ []) × (qs ≡ [])) ⊎ GoOn (codes " " ++ (s ++ z)) qs → p ∷ ps ≡ qs
    by later (inl over) = absurd (cc over.0)
    by later (inr f) =
        let one = next_unique (codes " " ++ (s ++ z)) p f.head z f.rest (s ++ z, refl, record { text = s; split = refl; spelled = sp; apart = parts_apart rest }) f.comes in
        ap (λ q. q ∷ ps) one.0 ∙ (ap (λ x. f.head ∷ x) (later f.more (subst (λ (x : List ℕ). SpellsParts x f.more) (sym one.1) f.spelled)) ∙ sym f.all)

pub next_longer : (z : List ℕ) (p : TracePart) (rest : List ℕ) → ComesNext z p rest → length rest < length z
next_longer z p rest c =
    let whole : length z ≡ length (32 ∷ c.0) = ap length c.1 in
    let parts : length c.0 ≡ length c.2.text + length rest = ap length c.2.split ∙ length-append c.2.text rest in
    omega (arith, whole, parts)
