-- The command line is a simple one, and a fault of it leaves nothing that is wanted.
use Rattle.std.proofs.Common.{◌≡◌, List, [], ◌∷◌, true, None, refl, ap, sym, ◌∙◌, subst, inl, inr}
use Rattle.clap.specs.Words.{App, Row, Text, Kinds, IsAmong, HasKind, is_simple, is_simple_and_free, kind_of, fault_of, matches_of, rows_of}
use Rattle.clap.specs.declared.parser.matches.Found.{Found}
use Rattle.clap.specs.declared.error.Error.{Error}
use Rattle.clap.specs.declared.error.kind.ErrorKind.{ErrorKind}
use Rattle.clap.specs.declared.error.kind.ErrorKind.TheVariants.{OutOfMemory}
use Rattle.clap.proofs.OnLiterals.{clap_on_literals}
use Rattle.tp_words.specs.Options.{the_app}
use Rattle.tp_words.specs.Words.{wanted_in, wanted_without, wanted_of_texts}

pub the_app_is_simple : is_simple the_app ≡ true
unfolding clap_on_literals
the_app_is_simple = refl

pub the_app_is_free : is_simple_and_free the_app ≡ true
unfolding clap_on_literals
the_app_is_free = refl

pub wanted_without_fault : (kinds : Kinds) (rows : List Row) (kind : ErrorKind) → IsAmong kind kinds → wanted_without kinds rows ≡ None
wanted_without_fault [] rows kind h = absurd h
wanted_without_fault (k ∷ kinds) rows kind h = refl

module _ (app : App) (texts : List Text) (is : app ≡ the_app) where
  -- the texts are taken
  pub taken : {Y : Type 0} (f : Found) → (is_simple app ≡ true → (rows_of f ≡ matches_of app texts) × Y) → (is_simple_and_free app ≡ true → fault_of app texts ≡ []) → wanted_of_texts texts ≡ wanted_in (rows_of f)
  unfolding wanted_of_texts
  taken f matches kinds =
      let rows : matches_of the_app texts ≡ rows_of f = sym ((matches (ap is_simple is ∙ the_app_is_simple)).0 ∙ ap (λ (a : App). matches_of a texts) is) in
      let none : fault_of the_app texts ≡ [] = ap (λ (a : App). fault_of a texts) (sym is) ∙ kinds (ap is_simple_and_free is ∙ the_app_is_free) in
      ap (λ (k : Kinds). wanted_without k (matches_of the_app texts)) none ∙ ap wanted_in rows

  -- they are not, and memory sufficed
  pub refused : (error : Error) → (kind_of error ≡ OutOfMemory → ⊥) → (is_simple_and_free app ≡ true → HasKind (fault_of app texts) error) → wanted_of_texts texts ≡ None
  unfolding wanted_of_texts
  refused error memory kinds =
      let found = kinds (ap is_simple_and_free is ∙ the_app_is_free) in
      elim found as (λ _. wanted_of_texts texts ≡ None) [
        | inl out ↦ absurd (memory out)
        | inr among ↦ wanted_without_fault (fault_of the_app texts) (matches_of the_app texts) (kind_of error) (subst (λ (a : App). IsAmong (kind_of error) (fault_of a texts)) is among)
      ]
