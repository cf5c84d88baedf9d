-- Two runs walk through states that are alike.
use Rattle.std.proofs.Common.{◌≡◌, ℕ, suc, ◌+◌, List, [], ◌∷◌, ◌++◌, length, refl, ap, sym, subst, arith}
use Rattle.tp_scene.specs.Pick.{Moment}
use Rattle.tp_show.specs.declared.turn.Picture.{Picture}
use Rattle.tp_show.specs.declared.turn.Turn.{Turn}
use Rattle.tp_run.specs.Same.{SamePictures}
use Rattle.tp_run.specs.SettledStates.{led_states}
use Rattle.tp_run.specs.History.{Plan, setting, StatesLead}
use Rattle.tp_run.proofs.OneState.{SameKind, kinds, Orderly, EndsAt, end_alike, end_same, same_picture, cant_go, next_orderly}
use Rattle.tp_step_laws.specs.Alike.{Alike}
use Rattle.tp_step_laws.proofs.AdvanceAlike.{alike_moments_advance}
use Rattle.tp_step_laws.proofs.Equivalence.{alike_is_equivalence}
use Rattle.tp_run_laws.specs.AlikeRuns.{SameStates}

module _ (plan : Plan) where
  -- where an end stands, by the numbers and the moment that it is said of
  pub end_at : (n k : ℕ) → k ≡ 0 + n → (m last : Moment) → last ≡ m → (tail : List Picture) (turn : Turn) → EndsAt plan k last tail turn
      → EndsAt plan n m tail turn
  end_at n k e m last q tail turn x =
      let f : k ≡ n = omega (arith, e) in
      subst (λ (z : Moment). EndsAt plan n z tail turn) q (subst (λ (i : ℕ). EndsAt plan i last tail turn) f x)

  -- The states of two runs, one after the other, and what comes after them.
  pub record Walked (n : ℕ) (m m' : Moment) (ps qs : List Picture) (last last' : Moment) (leads : StatesLead plan n m ps last)
      (leads' : StatesLead plan n m' qs last') (k : ℕ) : Type 0 where
    pub pictures : SamePictures ps qs
    pub count : length ps ≡ length qs
    pub states : SameStates plan (led_states plan n m ps last leads) (led_states plan n m' qs last' leads')
    pub orderly : Orderly plan k last
    pub orderly' : Orderly plan k last'
    pub alike : Alike (length (kinds plan)) last last'

  pub walked : (ps qs : List Picture) (n : ℕ) (m m' last last' : Moment) → Orderly plan n m → Orderly plan n m' → Alike (length (kinds plan)) m m'
      → (leads : StatesLead plan n m ps last) (leads' : StatesLead plan n m' qs last') (k k' : ℕ) → k ≡ length ps + n → k' ≡ length qs + n
      → (tail : List Picture) (turn : Turn) → EndsAt plan k last tail turn → (tail' : List Picture) (turn' : Turn) → EndsAt plan k' last' tail' turn'
      → Walked n m m' ps qs last last' leads leads' k
  walked [] [] n m m' last last' om om' a h h' k k' e e' tail turn x tail' turn' y =
      let f : k ≡ n = omega (arith, e) in
      record {
        pictures = tt;
        count = refl;
        states = tt;
        orderly = subst (λ (i : ℕ). Orderly plan i last) (sym f) (subst (λ (z : Moment). Orderly plan n z) (sym h) om);
        orderly' = subst (λ (i : ℕ). Orderly plan i last') (sym f) (subst (λ (z : Moment). Orderly plan n z) (sym h') om');
        alike = subst (λ (z : Moment). Alike (length (kinds plan)) z last') (sym h)
            (subst (λ (z : Moment). Alike (length (kinds plan)) m z) (sym h') a);
      }
  walked [] (q ∷ qs) n m m' last last' om om' a h h' k k' e e' tail turn x tail' turn' y =
      absurd (cant_go plan n m m' om om' a tail turn (end_at n k e m last h tail turn x) q h'.0 h'.1)
  walked (p ∷ ps) [] n m m' last last' om om' a h h' k k' e e' tail turn x tail' turn' y =
      absurd (cant_go plan n m' m om' om ((alike_is_equivalence (setting plan n) (kinds plan)).back m m' om.sound om'.sound a) tail' turn'
      (end_at n k' e' m' last' h' tail' turn' y) p h.0 h.1)
  walked (p ∷ ps) (q ∷ qs) n m m' last last' om om' a h h' k k' e e' tail turn x tail' turn' y =
      let g = h.1 in
      let g' = h'.1 in
      let on = next_orderly plan n m h.0 p om g in
      let b = end_alike plan n m m' om om' a g.picks g.last g'.picks g'.last g.goes.closes g'.goes.closes in
      let next = alike_moments_advance (length (kinds plan)) g.last g'.last h.0 h'.0 b g.goes.scene g.goes.store g'.goes.scene g'.goes.store in
      let r = walked ps qs (suc n) h.0 h'.0 last last' on (next_orderly plan n m' h'.0 q om' g') next h.2 h'.2 k k' (omega (arith, e))
      (omega (arith, e')) tail turn x tail' turn' y in
      let same = same_picture plan n m m' om om' a g.picks g.last g'.picks g'.last g.goes.closes g'.goes.closes p q g.picture_is g'.picture_is in
      record {
        pictures = (same, r.pictures);
        count = ap suc r.count;
        states = ((same, (on.sound.moment, next)), r.states);
        orderly = r.orderly;
        orderly' = r.orderly';
        alike = r.alike;
      }

  -- they end in ways of one kind
  pub same_ends : (n : ℕ) (m m' : Moment) (ps qs : List Picture) (last last' : Moment) (leads : StatesLead plan n m ps last) (leads' : StatesLead plan n m' qs last') (k k' : ℕ)
      → k' ≡ k → Walked n m m' ps qs last last' leads leads' k
      → (tail : List Picture) (turn : Turn) → EndsAt plan k last tail turn → (tail' : List Picture) (turn' : Turn) → EndsAt plan k' last' tail' turn'
      → SamePictures tail tail' × SameKind turn turn'
  same_ends n m m' ps qs last last' leads leads' k k' e w tail turn x tail' turn' y =
      end_same plan k last last' w.orderly w.orderly' w.alike tail turn x tail' turn' (subst (λ (i : ℕ). EndsAt plan i last' tail' turn') e y)

pub pictures_join : (ps qs tail tail' : List Picture) → SamePictures ps qs → SamePictures tail tail' → SamePictures (ps ++ tail) (qs ++ tail')
pictures_join [] [] tail tail' h k = k
pictures_join [] (q ∷ qs) tail tail' h k = absurd h
pictures_join (p ∷ ps) [] tail tail' h k = absurd h
pictures_join (p ∷ ps) (q ∷ qs) tail tail' h k = (h.0, pictures_join ps qs tail tail' h.1 k)
