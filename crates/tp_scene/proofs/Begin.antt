-- What a run begins with.
use Rattle.std.proofs.Common.{◌≡◌, ℕ, Bool, true, List, [], ◌∷◌, length, map, slice_get, refl, ap, sym, ◌∙◌, subst, arith}
use Rattle.std.proofs.lemmas.Bool.{false≢true}
use Rattle.tp_value.specs.Tree.{truth}
use Rattle.tp_value.specs.Globals.{is_lower}
use Rattle.tp_meaning.specs.Course.{Shows, blank, ◌⊕◌}
use Rattle.tp_meaning.specs.Holds.{Holds}
use Rattle.tp_meaning.specs.Interval.{kinds_of}
use Rattle.tp_meaning.proofs.Shows.{join-blank}
use Rattle.tp_store.specs.Known.{global_variable}
use Rattle.tp_scene.specs.Scene.{new_head}
use Rattle.tp_scene.specs.StandsFor.{context_of}
use Rattle.tp_scene.specs.Fits.{kinds_in}
use Rattle.tp_scene.specs.Laws.{RunsBegin}
use Rattle.tp_scene.proofs.Globals.{locals_last}
use Rattle.tp_scene.proofs.Advance.{no_marks}
use Rattle.tp_scene.proofs.Stands.{lasts_alone}

kinds_begin : (names : List (List ℕ)) → kinds_in (map global_variable names) ≡ kinds_of names
kinds_begin [] = refl
kinds_begin (x ∷ xs) = ap (λ (bs : List Bool). is_lower x ∷ bs) (kinds_begin xs)

pub runs_begin : RunsBegin
runs_begin w names main defs fits = record {
  stands = λ s a b S. (
    (λ x. let h = x.says.1 in (
      x.in_order,
      (x.depth, subst (λ (X : Shows). Holds (context_of w) x.depth main [] s a b X) (sym (h.4 ∙ ap (λ X. h.0 ⊕ X) h.3 ∙ join-blank h.0)) h.2),
    )),
    (λ x. record {
      in_order = x.0;
      locals = λ y j. truth true;
      last = locals_last (length (kinds_of names)) (map global_variable names) (λ y j. truth true) (λ y c l e. lasts_alone c (truth true));
      agrees = tt;
      depth = x.1.0;
      says = (no_marks (new_head 0) a b, (S, blank, x.1.1, refl, sym (join-blank S)));
    }),
  );
  sound = record {
    definitions = defs;
    moment = record { entries = ((fits, tt), ((λ e g. absurd (false≢true e)), omega arith)); items = (omega arith, tt, tt); regions = (omega arith, tt, tt); inners = tt };
    store = record { no_clash = tt; facts = tt; globals = λ i b e. ap (λ (bs : List Bool). slice_get bs i) (kinds_begin names) ∙ e };
  };
}
