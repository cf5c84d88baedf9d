-- One state, which begins alike in two runs: what its picks come to in both.
use Rattle.std.proofs.Common.{◌≡◌, ◌⊎◌, inl, inr, ℕ, suc, ◌<◌, Bool, List, [], ◌∷◌, length, refl, ap, sym, ◌∙◌, subst, arith}
use Rattle.tp_meaning.specs.Interval.{kinds_of}
use Rattle.tp_meaning.specs.Fits.{ProgramFits}
use Rattle.tp_inputs.specs.Within.{InputsWithin}
use Rattle.tp_kernel.specs.declared.fault.LimitKind.{LimitKind}
use Rattle.tp_kernel.specs.declared.fault.LimitKind.TheVariants as limit
use Rattle.tp_scene.specs.declared.answer.Cell.{Cell}
use Rattle.tp_scene.specs.Step.{waits}
use Rattle.tp_scene.specs.Pick.{Setting, Moment}
use Rattle.tp_scene.specs.Rest.{Settled, waiting, end_open, ends, goes, settled, IsOpenCell}
use Rattle.tp_scene.specs.Beginning.{first_moment}
use Rattle.tp_scene.specs.Replay as replay
use Rattle.tp_scene.specs.Replay.{Closes}
use Rattle.tp_show.specs.declared.turn.Picture.{Picture}
use Rattle.tp_show.specs.declared.turn.Turn.{Turn}
use Rattle.tp_show.specs.declared.turn.Turn.TheVariants.{Went, Finished, Contradictory, Undetermined, StateLimit, InputMissing, Over}
use Rattle.tp_store.specs.Known.{Contents}
use Rattle.tp_run.specs.History.{Plan, setting, IsPictureOf, StateGoesOn, StateEnds, ReachesLimit}
use Rattle.tp_run.specs.Standing.{Standing, StateBecomes}
use Rattle.tp_step_laws.specs.Maps.{renamed_cell}
use Rattle.tp_step_laws.specs.Alike.{Alike, SettlesAlike}
use Rattle.tp_step_laws.proofs.SettleAlike.{alike_moments_settle}
use Rattle.tp_step_laws.specs.Orders.{IsOrderly}
use Rattle.tp_step_laws.specs.States.{ClosesOneWay}
use Rattle.tp_step_laws.proofs.Orderly.{begins_orderly, advances_stay_orderly}
use Rattle.tp_step_laws.proofs.Equivalence.{alike_is_equivalence}
use Rattle.tp_step_laws.proofs.CloseOneWay.{leads_orderly, states_close_one_way}
use Rattle.tp_step_laws.proofs.Rest.{one_rest_of}
use Rattle.tp_run.specs.Same.{SamePicture, SamePictures, SameCell, FailsIn}
use Rattle.tp_run.specs.EachOrder.{StateAgrees, ClosesFromEach, HasNoDeadEnd}
use Rattle.tp_run.proofs.SameFacts.{same_facts}

-- a scene at rest has one open cell, and none where it is settled
module _ (w : Setting) (m : Moment) where
  pub cell_by : (s : Settled) → settled m.scene ≡ s → (c d : Cell) → IsOpenCell w m c → IsOpenCell w m d → c ≡ d
  cell_by (waiting t) e c d h k = let x = rw e at h in let y = rw e at k in let q : waits c x.0 ≡ waits d y.0 = sym x.1 ∙ y.1 in cc
  cell_by end_open e c d h k = let x = rw e at h in let y = rw e at k in x ∙ sym y
  cell_by ends e c d h k = elim (rw e at h) [ ]
  cell_by goes e c d h k = elim (rw e at h) [ ]

  not_open_ends : (c : Cell) → settled m.scene ≡ ends → IsOpenCell w m c → ⊥
  not_open_ends c e h = rw e at h

  not_open_goes : (c : Cell) → settled m.scene ≡ goes → IsOpenCell w m c → ⊥
  not_open_goes c e h = rw e at h

one_picture : (ps qs : List Picture) (p q : Picture) → ps ≡ p ∷ [] → qs ≡ q ∷ [] → SamePicture p q → SamePictures ps qs
one_picture ps qs p q e f h = subst (λ (xs : List Picture). SamePictures xs qs) (sym e) (subst (λ (ys : List Picture). SamePictures (p ∷ []) ys) (sym f) (h, tt))

no_picture : (ps qs : List Picture) → ps ≡ [] → qs ≡ [] → SamePictures ps qs
no_picture ps qs e f = subst (λ (xs : List Picture). SamePictures xs qs) (sym e) (subst (λ (ys : List Picture). SamePictures [] ys) (sym f) tt)

-- The end of a state that begins alike, where the cell is left open.
abbrev pub SameKind : Turn → Turn → Type 0
SameKind Went turn = turn ≡ Went
SameKind (Finished n) turn = turn ≡ Finished n
SameKind (Contradictory state clash) turn = FailsIn state turn
SameKind (Undetermined state cell) turn = (d : Cell) × (turn ≡ Undetermined state d)
SameKind (StateLimit states) turn = turn ≡ StateLimit states
SameKind (InputMissing state port) turn = FailsIn state turn
SameKind (Over state l) turn = FailsIn state turn

module _ (plan : Plan) where
  abbrev pub kinds : List Bool
  kinds = kinds_of plan.program.globals

  abbrev pub Orderly : ℕ → Moment → Type 0
  Orderly n m = IsOrderly (setting plan n) kinds m

  abbrev pub ClosesBy : ℕ → Moment → List ℕ → Moment → Type 0
  ClosesBy n m picks end = Closes (setting plan n) plan.reductions m picks end

  -- How a run ends in state n, which begins with m, and the picture of that state where it is settled.
  abbrev pub EndsAt : ℕ → Moment → List Picture → Turn → Type 0
  EndsAt n m tail Went = ⊥
  EndsAt n m tail (Finished k) = (final : Picture) × (tail ≡ final ∷ []) × StateEnds plan n m final × (k ≡ n)
  EndsAt n m tail (Contradictory state clash) = (tail ≡ []) × replay.MeetsClash (setting plan n) plan.reductions m clash × (state ≡ n) × (n < plan.states)
  EndsAt n m tail (Undetermined state cell) = (tail ≡ []) × replay.IsOpen (setting plan n) plan.reductions m cell × (state ≡ n) × (n < plan.states)
  EndsAt n m tail (StateLimit states) = (tail ≡ []) × (states ≡ n) × (n ≡ plan.states)
  EndsAt n m tail (InputMissing state port) = (tail ≡ []) × replay.MissesInput (setting plan n) plan.reductions m port × (state ≡ n) × (n < plan.states)
  EndsAt n m tail (Over state l) = (tail ≡ []) × ReachesLimit (setting plan n) plan.reductions m l × (state ≡ n) × (n < plan.states)

  pub within_limit : (n : ℕ) (m : Moment) (globals picks : ℕ) (end : Moment) (l : LimitKind) → ClosesOneWay (setting plan n) globals plan.reductions m picks end → ReachesLimit (setting plan n) plan.reductions m l → ⊥
  within_limit n m globals picks end limit.Reductions c h = c.no_use_up h
  within_limit n m globals picks end limit.Number c h = c.no_limit limit.Number h
  within_limit n m globals picks end limit.List c h = c.no_limit limit.List h
  within_limit n m globals picks end limit.Calls c h = c.no_limit limit.Calls h
  within_limit n m globals picks end limit.Nest c h = c.no_limit limit.Nest h

  -- One state of two runs, which begins alike in both.
  module _ (n : ℕ) (m m' : Moment) (om : Orderly n m) (om' : Orderly n m') (a : Alike (length kinds) m m') where
    pub one_way : (picks : List ℕ) (end : Moment) → ClosesBy n m picks end → ClosesOneWay (setting plan n) (length kinds) plan.reductions m' (length picks) end
    one_way picks end c = states_close_one_way (setting plan n) kinds plan.reductions m m' picks end om om' a c

    back_way : (picks : List ℕ) (end : Moment) → ClosesBy n m' picks end → ClosesOneWay (setting plan n) (length kinds) plan.reductions m (length picks) end
    back_way picks end c = states_close_one_way (setting plan n) kinds plan.reductions m' m picks end om' om ((alike_is_equivalence (setting plan n) kinds).back m m' om.sound om'.sound a) c

    module _ (picks : List ℕ) (end : Moment) (picks' : List ℕ) (end' : Moment) (c : ClosesBy n m picks end) (c' : ClosesBy n m' picks' end') where
      abbrev pub end_alike : Alike (length kinds) end end'
      end_alike = (one_way picks end c).alike picks' end' c'

      pub settle : SettlesAlike (setting plan n) (length kinds) end end' end_alike.0
      settle = alike_moments_settle (setting plan n) kinds end end' end_alike.0
          (leads_orderly (setting plan n) kinds picks m end om c.leads).sound (leads_orderly (setting plan n) kinds picks' m' end' om' c'.leads).sound end_alike.1

      pub same_picture : (p q : Picture) → IsPictureOf plan n picks end p → IsPictureOf plan n picks' end' q → SamePicture p q
      same_picture p q x y = record {
        state = y.state ∙ sym x.state;
        facts = same_facts q.facts p.facts y.facts.order x.facts.order (λ path. y.facts.same path ∙ settle.facts path ∙ sym (x.facts.same path));
        shows = y.shows ∙ settle.shows ∙ sym x.shows;
        reductions = y.reductions ∙ (one_way picks end c).count picks' end' c' ∙ sym x.reductions;
      }

      pub same_cell : (cell cell' : Cell) → IsOpenCell (setting plan n) end cell → IsOpenCell (setting plan n) end' cell' → SameCell (length kinds) end.store.variables end'.store.variables cell cell'
      same_cell cell cell' h k = (end_alike.0, end_alike.1.globals_fixed, end_alike.1.variables, cell_by (setting plan n) end' (settled end'.scene) refl cell' (renamed_cell end_alike.0 cell) k (settle.open_too cell h))

    -- where one goes on, the other doesn't end
    pub cant_go : (tail : List Picture) (turn : Turn) → EndsAt n m tail turn → (q : Picture) (next : Moment) → StateGoesOn plan n m' q next → ⊥
    cant_go tail Went x q next g = x
    cant_go tail (Finished k) x q next g =
        let s = settle x.2.picks x.2.last g.picks g.last x.2.ends.closes g.goes.closes in
        let e : ends ≡ goes = sym (s.ends_too x.2.ends.settles) ∙ g.goes.settles in absurd (cc)
    cant_go tail (Contradictory state clash) x q next g = (back_way g.picks g.last g.goes.closes).no_clash clash x.1
    cant_go tail (Undetermined state cell) x q next g =
        let s = settle x.1.picks x.1.last g.picks g.last x.1.closes g.goes.closes in
        not_open_goes (setting plan n) g.last (renamed_cell (end_alike x.1.picks x.1.last g.picks g.last x.1.closes g.goes.closes).0 cell) g.goes.settles (s.open_too cell x.1.cell_is)
    cant_go tail (StateLimit states) x q next g = let l = g.within in let e = x.2 in omega (arith, l, e)
    cant_go tail (InputMissing state port) x q next g = (back_way g.picks g.last g.goes.closes).no_missing port x.1
    cant_go tail (Over state l) x q next g = within_limit n m (length kinds) (length g.picks) g.last l (back_way g.picks g.last g.goes.closes) x.1

    -- where no picks close the second one, it fails
    fails : ((picks : List ℕ) (end : Moment) → ClosesBy n m' picks end → ⊥) → n < plan.states → (tail' : List Picture) (turn' : Turn) → EndsAt n m' tail' turn' → (tail' ≡ []) × FailsIn n turn'
    fails never l tail' Went y = absurd y
    fails never l tail' (Finished k) y = absurd (never y.2.picks y.2.last y.2.ends.closes)
    fails never l tail' (Contradictory state clash) y = (y.0, y.2)
    fails never l tail' (Undetermined state cell) y = absurd (never y.1.picks y.1.last y.1.closes)
    fails never l tail' (StateLimit states) y = let e = y.2 in absurd (omega (arith, l, e))
    fails never l tail' (InputMissing state port) y = (y.0, y.2)
    fails never l tail' (Over state k) y = (y.0, y.2)

    abbrev Same : List Picture → Turn → List Picture → Turn → Type 0
    Same tail turn tail' turn' = SamePictures tail tail' × SameKind turn turn'

    finishes : (tail : List Picture) (k : ℕ) → EndsAt n m tail (Finished k) → (tail' : List Picture) (turn' : Turn) → EndsAt n m' tail' turn' → Same tail (Finished k) tail' turn'
    finishes tail k x tail' Went y = absurd y
    finishes tail k x tail' (Finished k') y = (
      one_picture tail tail' x.0 y.0 x.1 y.1 (same_picture x.2.picks x.2.last y.2.picks y.2.last x.2.ends.closes y.2.ends.closes x.0 y.0 x.2.picture_is y.2.picture_is),
      ap Finished (y.3 ∙ sym x.3),
    )
    finishes tail k x tail' (Contradictory state clash) y = absurd ((one_way x.2.picks x.2.last x.2.ends.closes).no_clash clash y.1)
    finishes tail k x tail' (Undetermined state cell) y =
        let s = settle x.2.picks x.2.last y.1.picks y.1.last x.2.ends.closes y.1.closes in
        absurd (not_open_ends (setting plan n) y.1.last cell (s.ends_too x.2.ends.settles) y.1.cell_is)
    finishes tail k x tail' (StateLimit states) y = let l = x.2.within in let e = y.2 in absurd (omega (arith, l, e))
    finishes tail k x tail' (InputMissing state port) y = absurd ((one_way x.2.picks x.2.last x.2.ends.closes).no_missing port y.1)
    finishes tail k x tail' (Over state l) y = absurd (within_limit n m' (length kinds) (length x.2.picks) x.2.last l (one_way x.2.picks x.2.last x.2.ends.closes) y.1)

    opens : (tail : List Picture) (state : ℕ) (cell : Cell) → EndsAt n m tail (Undetermined state cell) → (tail' : List Picture) (turn' : Turn) → EndsAt n m' tail' turn' → Same tail (Undetermined state cell) tail' turn'
    opens tail state cell x tail' Went y = absurd y
    opens tail state cell x tail' (Finished k') y =
        let s = settle x.1.picks x.1.last y.2.picks y.2.last x.1.closes y.2.ends.closes in
        absurd (not_open_ends (setting plan n) y.2.last (renamed_cell (end_alike x.1.picks x.1.last y.2.picks y.2.last x.1.closes y.2.ends.closes).0 cell) y.2.ends.settles (s.open_too cell x.1.cell_is))
    opens tail state cell x tail' (Contradictory state' clash) y = absurd ((one_way x.1.picks x.1.last x.1.closes).no_clash clash y.1)
    opens tail state cell x tail' (Undetermined state' cell') y = (
      no_picture tail tail' x.0 y.0,
      (cell', ap (λ k. Undetermined k cell') (y.2 ∙ sym x.2)),
    )
    opens tail state cell x tail' (StateLimit states) y = let l = x.3 in let e = y.2 in absurd (omega (arith, l, e))
    opens tail state cell x tail' (InputMissing state' port) y = absurd ((one_way x.1.picks x.1.last x.1.closes).no_missing port y.1)
    opens tail state cell x tail' (Over state' l) y = absurd (within_limit n m' (length kinds) (length x.1.picks) x.1.last l (one_way x.1.picks x.1.last x.1.closes) y.1)

    stops : (tail : List Picture) (states : ℕ) → EndsAt n m tail (StateLimit states) → (tail' : List Picture) (turn' : Turn) → EndsAt n m' tail' turn' → Same tail (StateLimit states) tail' turn'
    stops tail states x tail' Went y = absurd y
    stops tail states x tail' (Finished k') y = let l = y.2.within in let e = x.2 in absurd (omega (arith, l, e))
    stops tail states x tail' (Contradictory state clash) y = let l = y.3 in let e = x.2 in absurd (omega (arith, l, e))
    stops tail states x tail' (Undetermined state cell) y = let l = y.3 in let e = x.2 in absurd (omega (arith, l, e))
    stops tail states x tail' (StateLimit states') y = (no_picture tail tail' x.0 y.0, ap StateLimit (y.1 ∙ sym x.1))
    stops tail states x tail' (InputMissing state port) y = let l = y.3 in let e = x.2 in absurd (omega (arith, l, e))
    stops tail states x tail' (Over state k) y = let l = y.3 in let e = x.2 in absurd (omega (arith, l, e))

    -- both fail
    failing : (tail tail' : List Picture) (state : ℕ) (turn' : Turn) → tail ≡ [] → state ≡ n → (tail' ≡ []) × FailsIn n turn' → SamePictures tail tail' × FailsIn state turn'
    failing tail tail' state turn' e q f = (no_picture tail tail' e f.0, subst (λ (k : ℕ). FailsIn k turn') (sym q) f.1)

    pub end_same : (tail : List Picture) (turn : Turn) → EndsAt n m tail turn → (tail' : List Picture) (turn' : Turn) → EndsAt n m' tail' turn' → Same tail turn tail' turn'
    end_same tail Went x tail' turn' y = absurd x
    end_same tail (Finished k) x tail' turn' y = finishes tail k x tail' turn' y
    end_same tail (Contradictory state clash) x tail' turn' y = failing tail tail' state turn' x.0 x.2 (fails (λ picks end c. (back_way picks end c).no_clash clash x.1) x.3 tail' turn' y)
    end_same tail (Undetermined state cell) x tail' turn' y = opens tail state cell x tail' turn' y
    end_same tail (StateLimit states) x tail' turn' y = stops tail states x tail' turn' y
    end_same tail (InputMissing state port) x tail' turn' y = failing tail tail' state turn' x.0 x.2 (fails (λ picks end c. (back_way picks end c).no_missing port x.1) x.3 tail' turn' y)
    end_same tail (Over state l) x tail' turn' y = failing tail tail' state turn' x.0 x.2 (fails (λ picks end c. within_limit n m (length kinds) (length picks) end l (back_way picks end c) x.1) x.3 tail' turn' y)

  pub next_orderly : (n : ℕ) (m next : Moment) (p : Picture) → Orderly n m → StateGoesOn plan n m p next → Orderly (suc n) next
  next_orderly n m next p om g = advances_stay_orderly (setting plan n) kinds g.last next (leads_orderly (setting plan n) kinds g.picks m g.last om g.goes.closes.leads) g.goes.settles g.goes.scene g.goes.store (suc n)

  pub first_orderly : ProgramFits plan.program → InputsWithin plan.inputs → Orderly 0 (first_moment plan.program.globals plan.program.main)
  first_orderly fits inputs = begins_orderly (setting plan 0) plan.program.globals plan.program.main fits.defs fits.main inputs

  pub itself : (n : ℕ) (m : Moment) → Orderly n m → Alike (length kinds) m m
  itself n m om = (alike_is_equivalence (setting plan n) kinds).itself m om.sound

  -- A state that a run makes.
  module _ (n : ℕ) (m : Moment) (om : Orderly n m) (old new : Picture) (standing : Standing) (store : Contents) where
    abbrev tail_of : Picture → Turn → List Picture
    tail_of p Went = []
    tail_of p (Finished k) = p ∷ []
    tail_of p (Contradictory state clash) = []
    tail_of p (Undetermined state cell) = []
    tail_of p (StateLimit states) = []
    tail_of p (InputMissing state port) = []
    tail_of p (Over state l) = []

    abbrev Becomes : Turn → Type 0
    Becomes turn = StateBecomes plan n m old new standing store turn

    becomes : (turn : Turn) → Becomes turn → ((turn ≡ Went) × ((next : Moment) × StateGoesOn plan n m new next)) ⊎ EndsAt n m (tail_of new turn) turn
    becomes Went h = inl (refl, (h.0, h.1))
    becomes (Finished k) h = inr (new, refl, h.0, h.1)
    becomes (Contradictory state clash) h = inr (refl, h.0, h.1, h.2)
    becomes (Undetermined state cell) h = inr (refl, h.0, h.1, h.2)
    becomes (StateLimit states) h = inr (refl, h.1, h.0)
    becomes (InputMissing state port) h = inr (refl, h.0, h.1, h.2)
    becomes (Over state l) h = inr (refl, h.0, h.1, h.2)

    same : Alike (length kinds) m m
    same = itself n m om

    first_of : (p q : Picture) (turn : Turn) → turn ≡ Finished n → SamePictures (p ∷ []) (tail_of q turn) → SamePicture p q
    first_of p q Went e h = absurd (cc)
    first_of p q (Finished k) e h = h.0
    first_of p q (Contradictory state clash) e h = absurd (cc)
    first_of p q (Undetermined state cell) e h = absurd (cc)
    first_of p q (StateLimit states) e h = absurd (cc)
    first_of p q (InputMissing state port) e h = absurd (cc)
    first_of p q (Over state l) e h = absurd (cc)

    none_close : (turn : Turn) → Becomes turn → FailsIn n turn → (picks : List ℕ) (end : Moment) → ClosesBy n m picks end → ⊥
    none_close Went h f picks end c = absurd f
    none_close (Finished k) h f picks end c = absurd f
    none_close (Contradictory state clash) h f picks end c = (one_way n m m om om same picks end c).no_clash clash h.0
    none_close (Undetermined state cell) h f picks end c = absurd f
    none_close (StateLimit states) h f picks end c = absurd f
    none_close (InputMissing state port) h f picks end c = (one_way n m m om om same picks end c).no_missing port h.0
    none_close (Over state l) h f picks end c = within_limit n m (length kinds) (length picks) end l (one_way n m m om om same picks end c) h.0

    open_there : (cell : Cell) → n < plan.states → (x : replay.IsOpen (setting plan n) plan.reductions m cell) → (tail : List Picture) (turn : Turn) → EndsAt n m tail turn
        → (d : Cell) × (turn ≡ Undetermined n d) × ((own : replay.IsOpen (setting plan n) plan.reductions m d) × SameCell (length kinds) x.last.store.variables own.last.store.variables cell d)
    open_there cell l x tail Went y = absurd y
    open_there cell l x tail (Finished k) y = let e = (opens n m m om om same [] n cell (refl, x, refl, l) tail (Finished k) y).1.1 in absurd (cc)
    open_there cell l x tail (Contradictory state clash) y = let e = (opens n m m om om same [] n cell (refl, x, refl, l) tail (Contradictory state clash) y).1.1 in absurd (cc)
    open_there cell l x tail (Undetermined state d) y =
        (d, ap (λ k. Undetermined k d) y.2, (y.1, same_cell n m m om om same x.picks x.last y.1.picks y.1.last x.closes y.1.closes cell d x.cell_is y.1.cell_is))
    open_there cell l x tail (StateLimit states) y = let e = (opens n m m om om same [] n cell (refl, x, refl, l) tail (StateLimit states) y).1.1 in absurd (cc)
    open_there cell l x tail (InputMissing state port) y = let e = (opens n m m om om same [] n cell (refl, x, refl, l) tail (InputMissing state port) y).1.1 in absurd (cc)
    open_there cell l x tail (Over state limit) y = let e = (opens n m m om om same [] n cell (refl, x, refl, l) tail (Over state limit) y).1.1 in absurd (cc)

    -- each order comes to the state's answer
    pub state_agrees : (turn : Turn) → Becomes turn → StateAgrees plan n m new turn
    state_agrees turn b = record {
      goes = λ p after g. elim (becomes turn b) [
        | inl x ↦ (x.0, same_picture n m m om om same g.picks g.last x.1.1.picks x.1.1.last g.goes.closes x.1.1.goes.closes p new g.picture_is x.1.1.picture_is)
        | inr x ↦ absurd (cant_go n m m om om same (tail_of new turn) turn x p after g)
      ];
      ends = λ p x. elim (becomes turn b) [
        | inl y ↦ absurd (cant_go n m m om om same (p ∷ []) (Finished n) (p, refl, x, refl) new y.1.0 y.1.1)
        | inr y ↦ (let r = finishes n m m om om same (p ∷ []) n (p, refl, x, refl) (tail_of new turn) turn y in (r.1, first_of p new turn r.1 r.0))
      ];
      is_open = λ cell l x. elim (becomes turn b) [
        | inl y ↦ absurd (cant_go n m m om om same [] (Undetermined n cell) (refl, x, refl, l) new y.1.0 y.1.1)
        | inr y ↦ open_there cell l x (tail_of new turn) turn y
      ];
      fails = none_close turn b;
    }

    abbrev from_each : (picks : List ℕ) (end : Moment) → ClosesBy n m picks end → ClosesFromEach plan n m
    from_each picks end c = record {
      picks = picks;
      end = end;
      closes = c;
      goes_on = λ begun there led. one_rest_of (setting plan n) kinds m end there picks begun om c.leads c.rest led;
    }

    -- and none is a dead end
    pub no_dead_end : (turn : Turn) → Becomes turn → HasNoDeadEnd plan n m new turn
    no_dead_end Went h = (from_each h.1.picks h.1.last h.1.goes.closes, h.1.picture_is.reductions)
    no_dead_end (Finished k) h = (from_each h.0.picks h.0.last h.0.ends.closes, h.0.picture_is.reductions)
    no_dead_end (Contradictory state clash) h = tt
    no_dead_end (Undetermined state cell) h = from_each h.0.picks h.0.last h.0.closes
    no_dead_end (StateLimit states) h = tt
    no_dead_end (InputMissing state port) h = tt
    no_dead_end (Over state l) h = tt
