-- A run of blanks is as many gaps.
use Rattle.std.proofs.Common.{refl, ap, ap₂, sym, subst, ◌∙◌, ◌≡◌, ℕ, ◌+◌, Bool, true, false, cond, List, [], ◌∷◌, drop, arith}
use Rattle.std.specs.List.{prefix_len}
use Rattle.std.proofs.lemmas.Bool.Decides.{nat_tests}
use Rattle.std.proofs.lemmas.List.{drop-drop}
use Rattle.tp_lanes.specs.Classes.{in_class}
use Rattle.tp_lex.specs.declared.first.TheConstants.{BLANKS}
use Rattle.tp_lex.specs.declared.piece.Piece.TheVariants.{Gap}
use Rattle.tp_lex.specs.declared.token.Token.{Token}
use Rattle.tp_lex.specs.Bytes.{is_blank}
use Rattle.tp_lex.specs.Pieces.{BeginsPiece, blank}
use Rattle.tp_lex.proofs.ReadingLemmas.{Continues, past_gap}

blank_class : (b : ℕ) → in_class BLANKS b ≡ is_blank b
blank_class b = grind (arith, nat_tests)

-- the class has the blanks
pub blank_run : (z : List ℕ) → prefix_len (in_class BLANKS) z ≡ prefix_len is_blank z
blank_run [] = refl
blank_run (b ∷ z) = ap₂ (λ (t : Bool) (n : ℕ). cond t (1 + n) 0) (blank_class b) (blank_run z)

-- behind the blanks of a text, each of them a gap
blanks_from : (bytes z : List ℕ) (at : ℕ) (found : List Token) → z ≡ drop at bytes → Continues bytes at found → Continues bytes (at + prefix_len is_blank z) found
blanks_from bytes [] at found e so_far = let same : at ≡ at + 0 = omega arith in subst (λ (k : ℕ). Continues bytes k found) same so_far
blanks_from bytes (b ∷ z) at found e so_far = by (is_blank b) refl (blanks_from bytes z (at + 1) found (ap (drop 1) e ∙ drop-drop 1 at bytes))
  where
    by : (t : Bool) → is_blank b ≡ t → (Continues bytes (at + 1) found → Continues bytes ((at + 1) + prefix_len is_blank z) found) → Continues bytes (at + cond t (1 + prefix_len is_blank z) 0) found
    by true is later =
        let here : BeginsPiece (drop at bytes) (Gap 1) = subst (λ (y : List ℕ). BeginsPiece y (Gap 1)) e (blank is) in
        let one : Continues bytes (at + 1) found = past_gap bytes at 1 1 (Gap 1) found found so_far here refl refl refl in
        let same : (at + 1) + prefix_len is_blank z ≡ at + (1 + prefix_len is_blank z) = omega arith in
        subst (λ (k : ℕ). Continues bytes k found) same (later one)
    by false is later = let same : at ≡ at + 0 = omega arith in subst (λ (k : ℕ). Continues bytes k found) same so_far

pub past_blanks : (bytes rest : List ℕ) (at n : ℕ) (found : List Token) → rest ≡ drop at bytes → Continues bytes at found → n ≡ prefix_len is_blank rest → Continues bytes (at + n) found
past_blanks bytes rest at n found e so_far is = subst (λ (k : ℕ). Continues bytes (at + k) found) (sym is) (blanks_from bytes rest at found e so_far)
