-- Each change of a scene, as the code makes it.
use Rattle.std.proofs.Common.{◌≡◌, ℕ, zero, suc, ◌+◌, ◌≤◌, ◌<◌, Bool, true, false, List, [], ◌∷◌, ◌++◌, map, length, get_or, Option, Some, None, refl, ap, sym, ◌∙◌, subst, arith}
use Rattle.std.proofs.lemmas.List.{get_or_past, length-map, append-nil}
use Rattle.tp_meaning.specs.Syntax.{FormulaTree}
use Rattle.tp_scene.specs.Scene as S
use Rattle.tp_scene.specs.Scene.{Bindings, Side, other_side, Ending, Going, Holder, Entries, none, leaf, node, new_head, no_region, second_lives, has}
use Rattle.tp_scene.specs.Step.{Reduction}
use Rattle.tp_scene.specs.Pick.{scene_after}
use Rattle.tp_slots.specs.Plain as plain
use Rattle.tp_slots.specs.Plain.{What, Slots, slot_at, entries_at, scene_in, has_second, IsOrdered}
use Rattle.tp_slots.specs.Flags.{Flags, FlagsAreRight, FlagsFollow, rises_what, flags_in, Pending}
use Rattle.tp_slots.specs.Kept.{IsShaped, IsQuiet, IsWellKept, IsUnchanged}
use Rattle.tp_slots.specs.Lives.{lives_in}
use Rattle.tp_slots.specs.Looks.{LooksAreRight, LooksFollow}
use Rattle.tp_slots.specs.Replace.{home_in}
use Rattle.tp_slots.specs.Row.{begun, stepped, held_after}
use Rattle.tp_slots.specs.Reductions.{IsBare, AreBare, becomes_leaves}
use Rattle.tp_slots.specs.Threads.{AreThreaded, afters_then}
use Rattle.tp_slots.specs.Read.{slot_of, region_slot_of, slots_of, scene_of, afters_of, holders_of, ends_of, goes_of, flags_of}
use Rattle.tp_slots.proofs.Placing.{leaves_held}
use Rattle.tp_slots.proofs.Showing.{all_shown, has_shown}
use Rattle.tp_slots.proofs.Told.{told, rises_all}
use Rattle.tp_slots.proofs.Stepping.{IsStep, stepped_regions}
use Rattle.tp_slots.proofs.Instances.{told_leaves, leaves_rise, leaves_step, begins_step, begins_rise, begins_told}
use Rattle.tp_slots.proofs.Keeping.{scene_then, shape_then, threads_then, flags_then, quiet_then, home_lives_then}
use Rattle.tp_slots.proofs.Looking.{LeavesOpen, looks_then, unmarked_looks, bare_leave, begun_leaves}
use Rattle.tp_slots.specs.declared.scene.Scene.{Scene}
use Rattle.tp_slots.specs.declared.scene.Region.{Region}
use Rattle.tp_slots.specs.declared.scene.Slot.{Slot}

pub lives_within : (s : Scene) (t : ℕ) → IsOrdered (slots_of s) → has t (scene_of s).root.entries ≡ true → t < length s.slots.items
lives_within s t sound lives =
    let there = has_shown (slots_of s) sound t 0 (entries_at (slots_of s) 0) (all_shown (slots_of s) sound 0 sound.root) lives in
    let l = there.0 in
    let e = length-map s.slots.items slot_of in
    omega (arith, e, l)

pub home_within : (s : Scene) (t : ℕ) → IsOrdered (slots_of s) → t < length s.slots.items → home_in (map slot_of s.slots.items) t < length s.regions.items
home_within s t sound l = let e = length-map s.slots.items slot_of in let f = length-map s.regions.items region_slot_of in let a = (sound.items t (omega (arith, e, l))).0 in omega (arith, f, a)

looks_moved : (s s' : Scene) → slots_of s' ≡ slots_of s → holders_of s' ≡ holders_of s → s'.looks ≡ s.looks → LooksAreRight (slots_of s) (holders_of s) s.looks → LooksAreRight (slots_of s') (holders_of s') s'.looks
looks_moved s s' es eh el x = subst (λ y. LooksAreRight y (holders_of s') s'.looks) (sym es) (subst (λ h. LooksAreRight (slots_of s) h s'.looks) (sym eh) (subst (LooksAreRight (slots_of s) (holders_of s)) (sym el) x))

pub threads_moved : (s s' : Scene) → slots_of s' ≡ slots_of s → afters_of s' ≡ afters_of s → AreThreaded (slots_of s) (afters_of s) → AreThreaded (slots_of s') (afters_of s')
threads_moved s s' es ea x = subst (λ y. AreThreaded y (afters_of s')) (sym es) (subst (AreThreaded (slots_of s)) (sym ea) x)

-- nothing was changed
pub same_slots : (s s' : Scene) → IsUnchanged s s' → slots_of s' ≡ slots_of s
same_slots s s' same = λ i. record { slots = map slot_of (same.slots i); regions = map region_slot_of (same.regions i) }

pub unchanged_kept : (s s' : Scene) → IsWellKept s → IsUnchanged s s' → s'.looks ≡ s.looks → IsWellKept s'
unchanged_kept s s' kept same el =
    let es = same_slots s s' same in
    let eh : holders_of s' ≡ holders_of s = ap (map (λ (x : Region). x.holder)) same.regions in
    let ee : ends_of s' ≡ ends_of s = ap (map (λ (x : Region). x.ends_now)) same.regions in
    let eg : goes_of s' ≡ goes_of s = ap (map (λ (x : Region). x.goes_now)) same.regions in
    record {
      shape = subst (λ x. IsShaped x (holders_of s')) (sym es) (subst (IsShaped (slots_of s)) (sym eh) kept.shape);
      threads = threads_moved s s' es (ap (map (λ (x : Slot). x.after)) same.slots) kept.threads;
      ending = subst (λ x. FlagsAreRight x Ending (flags_in (ends_of s'))) (sym es) (subst (λ (l : List Bool). FlagsAreRight (slots_of s) Ending (flags_in l)) (sym ee) kept.ending);
      going = subst (λ x. FlagsAreRight x Going (flags_in (goes_of s'))) (sym es) (subst (λ (l : List Bool). FlagsAreRight (slots_of s) Going (flags_in l)) (sym eg) kept.going);
      quiet_ends = subst (λ x. IsQuiet x (holders_of s') (flags_in (ends_of s'))) (sym es) (subst (λ h. IsQuiet (slots_of s) h (flags_in (ends_of s'))) (sym eh) (subst (λ (l : List Bool). IsQuiet (slots_of s) (holders_of s) (flags_in l)) (sym ee) kept.quiet_ends));
      quiet_goes = subst (λ x. IsQuiet x (holders_of s') (flags_in (goes_of s'))) (sym es) (subst (λ h. IsQuiet (slots_of s) h (flags_in (goes_of s'))) (sym eh) (subst (λ (l : List Bool). IsQuiet (slots_of s) (holders_of s) (flags_in l)) (sym eg) kept.quiet_goes));
      looks = looks_moved s s' es eh el kept.looks;
    }

-- more flags that aren't set say the same
more_flags : (xs : List Bool) (n c : ℕ) → flags_in (xs ++ map (λ x. false) (begun n c)) ≡ flags_in xs
more_flags xs n zero = ap flags_in (append-nil xs)
more_flags xs n (suc c) = λ i q. at q i
  where
    at : (q : ℕ) → get_or (xs ++ false ∷ []) q false ≡ get_or xs q false
    at q = by xs q
      where
        by : (xs : List Bool) (q : ℕ) → get_or (xs ++ false ∷ []) q false ≡ get_or xs q false
        by [] zero = refl
        by [] (suc q) = refl
        by (x ∷ xs) zero = refl
        by (x ∷ xs) (suc q) = by xs q

module _ (s : Scene) (t : ℕ) (m : Option Side) (ins outs : List What) (kept : IsWellKept s) (lives : has t (scene_of s).root.entries ≡ true) (step : IsStep (slots_of s) t m ins outs) (next : Scene) (n : ℕ)
    (es : slots_of next ≡ stepped (slots_of s) t m ins outs) (eh : holders_of next ≡ held_after (slots_of s) ins outs (holders_of s))
    (ee : ends_of next ≡ ends_of s ++ map (λ x. false) (begun n (length ins))) (eg : goes_of next ≡ goes_of s ++ map (λ x. false) (begun n (length ins))) where
  pub scene_put : (r : Reduction) → r.news ≡ told (stepped (slots_of s) t m ins outs) (length (slots_of s).slots + length ins) outs → r.items ≡ length ins + length outs → r.regions ≡ length (begun (length (slots_of s).slots) (length ins)) → r.mark ≡ m
      → scene_of next ≡ scene_after t r (scene_of s)
  scene_put r a b c d = ap scene_in es ∙ scene_then (slots_of s) (holders_of s) t m ins outs kept.shape lives step r a b c d

  pub shape_put : IsShaped (slots_of next) (holders_of next)
  shape_put = subst (λ x. IsShaped x (holders_of next)) (sym es) (subst (IsShaped (stepped (slots_of s) t m ins outs)) (sym eh) (shape_then (slots_of s) (holders_of s) t m ins outs kept.shape lives step))

  pub threads_put : afters_of next ≡ afters_then (afters_of s) (length ins) (length outs) t → AreThreaded (slots_of next) (afters_of next)
  threads_put ea =
      let count = length-map s.slots.items (λ (x : Slot). x.after) ∙ sym (length-map s.slots.items slot_of) in
      subst (λ x. AreThreaded x (afters_of next)) (sym es)
      (subst (AreThreaded (stepped (slots_of s) t m ins outs)) (sym ea) (threads_then (slots_of s) (holders_of s) t m ins outs kept.shape lives step (afters_of s) count kept.threads))

  low : (f : List Bool) → length f ≡ length (slots_of s).regions → (r : ℕ) → length (slots_of s).regions ≤ r → flags_in f r ≡ false
  low f e r l = get_or_past f r false (omega (arith, e, l))

  flags_put : (y : Side) (f f' : List Bool) → length f ≡ length (slots_of s).regions → f' ≡ f ++ map (λ x. false) (begun n (length ins)) → FlagsAreRight (slots_of s) y (flags_in f) → rises_all y (flags_in f) outs ≡ rises_what y (flags_in f) (slot_at (slots_of s) t).what
      → FlagsFollow (slots_of next) m (slot_at (slots_of s) t).home y (flags_in f')
  flags_put y f f' e g right same =
      subst (λ x. FlagsFollow x m (slot_at (slots_of s) t).home y (flags_in f')) (sym es)
      (subst (FlagsFollow (stepped (slots_of s) t m ins outs) m (slot_at (slots_of s) t).home y) (sym (ap flags_in g ∙ more_flags f n (length ins)))
      (flags_then (slots_of s) (holders_of s) t m ins outs kept.shape lives step y (flags_in f) right (low f e) same))

  quiet_put : (f f' : List Bool) → length f ≡ length (slots_of s).regions → f' ≡ f ++ map (λ x. false) (begun n (length ins)) → IsQuiet (slots_of s) (holders_of s) (flags_in f) → IsQuiet (slots_of next) (holders_of next) (flags_in f')
  quiet_put f f' e g q =
      subst (λ x. IsQuiet x (holders_of next) (flags_in f')) (sym es)
      (subst (λ h. IsQuiet (stepped (slots_of s) t m ins outs) h (flags_in f')) (sym eh)
      (subst (IsQuiet (stepped (slots_of s) t m ins outs) (held_after (slots_of s) ins outs (holders_of s))) (sym (ap flags_in g ∙ more_flags f n (length ins)))
      (quiet_then (slots_of s) (holders_of s) t m ins outs kept.shape lives step (flags_in f) q (low f e))))

  ends_count : length (ends_of s) ≡ length (slots_of s).regions
  ends_count = length-map s.regions.items (λ (x : Region). x.ends_now) ∙ sym (length-map s.regions.items region_slot_of)

  goes_count : length (goes_of s) ≡ length (slots_of s).regions
  goes_count = length-map s.regions.items (λ (x : Region). x.goes_now) ∙ sym (length-map s.regions.items region_slot_of)

  pub ends_put : rises_all Ending (flags_in (ends_of s)) outs ≡ rises_what Ending (flags_in (ends_of s)) (slot_at (slots_of s) t).what → FlagsFollow (slots_of next) m (slot_at (slots_of s) t).home Ending (flags_in (ends_of next))
  ends_put same = flags_put Ending (ends_of s) (ends_of next) ends_count ee kept.ending same

  pub goes_put : rises_all Going (flags_in (goes_of s)) outs ≡ rises_what Going (flags_in (goes_of s)) (slot_at (slots_of s) t).what → FlagsFollow (slots_of next) m (slot_at (slots_of s) t).home Going (flags_in (goes_of next))
  goes_put same = flags_put Going (goes_of s) (goes_of next) goes_count eg kept.going same

  pub quiet_ends_put : IsQuiet (slots_of next) (holders_of next) (flags_in (ends_of next))
  quiet_ends_put = quiet_put (ends_of s) (ends_of next) ends_count ee kept.quiet_ends

  pub quiet_goes_put : IsQuiet (slots_of next) (holders_of next) (flags_in (goes_of next))
  quiet_goes_put = quiet_put (goes_of s) (goes_of next) goes_count eg kept.quiet_goes

  pub home_lives_put : lives_in (slots_of next) (holders_of next) (slot_at (slots_of s) t).home ≡ true
  home_lives_put = (λ i. lives_in (es i) (eh i) (slot_at (slots_of s) t).home) ∙ home_lives_then (slots_of s) (holders_of s) t m ins outs kept.shape lives step

  abbrev flags_next : Side → Flags
  flags_next y = flags_in (flags_of y next)

  flags_still : (y : Side) → FlagsAreRight (slots_of s) y (flags_next y)
  flags_still Ending = subst (FlagsAreRight (slots_of s) Ending) (sym (ap flags_in ee ∙ more_flags (ends_of s) n (length ins))) kept.ending
  flags_still Going = subst (FlagsAreRight (slots_of s) Going) (sym (ap flags_in eg ∙ more_flags (goes_of s) n (length ins))) kept.going

  pub looks_put : LeavesOpen (slots_of s) (holders_of s) t outs → next.looks ≡ s.looks → LooksFollow (slots_of next) (holders_of next) flags_next next.looks
  looks_put leaves el =
      subst (λ x. LooksFollow x (holders_of next) flags_next next.looks) (sym es)
      (subst (λ h. LooksFollow (stepped (slots_of s) t m ins outs) h flags_next next.looks) (sym eh)
      (subst (LooksFollow (stepped (slots_of s) t m ins outs) (held_after (slots_of s) ins outs (holders_of s)) flags_next) (sym el)
      (looks_then (slots_of s) (holders_of s) t m ins outs kept.shape lives step flags_next s.looks flags_still leaves kept.looks)))

  pub ends_low : (r : ℕ) → length (slots_of s).regions ≤ r → flags_in (ends_of s) r ≡ false
  ends_low r l = low (ends_of s) ends_count r l

  pub goes_low : (r : ℕ) → length (slots_of s).regions ≤ r → flags_in (goes_of s) r ≡ false
  goes_low r l = low (goes_of s) goes_count r l

-- Where no mark was set, the flags are right already.
pub unmarked_kept : (s : Scene) (home : ℕ) → IsShaped (slots_of s) (holders_of s) → ((z : Side) → FlagsFollow (slots_of s) None home z (flags_in (flags_of z s))) → ((z : Side) → IsQuiet (slots_of s) (holders_of s) (flags_in (flags_of z s)))
    → LooksFollow (slots_of s) (holders_of s) (λ y. flags_in (flags_of y s)) s.looks → AreThreaded (slots_of s) (afters_of s) → IsWellKept s
unmarked_kept s home shape flags quiet looks threads = record {
  shape = shape;
  threads = threads;
  ending = flags Ending;
  going = flags Going;
  quiet_ends = quiet Ending;
  quiet_goes = quiet Going;
  looks = unmarked_looks (slots_of s) (holders_of s) shape.ordered shape.held (λ y. flags_in (flags_of y s)) s.looks looks flags;
}

-- Without a mark the scene stays well kept.
pub put_kept : (s : Scene) (t : ℕ) (ins outs : List What) (kept : IsWellKept s) (lives : has t (scene_of s).root.entries ≡ true) (step : IsStep (slots_of s) t None ins outs) (next : Scene) (n : ℕ)
    → slots_of next ≡ stepped (slots_of s) t None ins outs → holders_of next ≡ held_after (slots_of s) ins outs (holders_of s)
    → ends_of next ≡ ends_of s ++ map (λ x. false) (begun n (length ins)) → goes_of next ≡ goes_of s ++ map (λ x. false) (begun n (length ins))
    → rises_all Ending (flags_in (ends_of s)) outs ≡ rises_what Ending (flags_in (ends_of s)) (slot_at (slots_of s) t).what → rises_all Going (flags_in (goes_of s)) outs ≡ rises_what Going (flags_in (goes_of s)) (slot_at (slots_of s) t).what
    → LeavesOpen (slots_of s) (holders_of s) t outs → next.looks ≡ s.looks → afters_of next ≡ afters_then (afters_of s) (length ins) (length outs) t → IsWellKept next
put_kept s t ins outs kept lives step next n es eh ee eg a b leaves el ea =
    unmarked_kept next (slot_at (slots_of s) t).home (shape_put s t None ins outs kept lives step next n es eh ee eg) right quiet (looks_put s t None ins outs kept lives step next n es eh ee eg leaves el) (threads_put s t None ins outs kept lives step next n es eh ee eg ea)
  where
    right : (z : Side) → FlagsAreRight (slots_of next) z (flags_in (flags_of z next))
    right Ending = ends_put s t None ins outs kept lives step next n es eh ee eg a
    right Going = goes_put s t None ins outs kept lives step next n es eh ee eg b

    quiet : (z : Side) → IsQuiet (slots_of next) (holders_of next) (flags_in (flags_of z next))
    quiet Ending = quiet_ends_put s t None ins outs kept lives step next n es eh ee eg
    quiet Going = quiet_goes_put s t None ins outs kept lives step next n es eh ee eg

-- on either side
pub follow_pending : (s : Slots) (z : Side) (home : ℕ) (f : Flags) → FlagsFollow s (Some z) home z f → Pending s z f home
follow_pending s Ending home f h = h
follow_pending s Going home f h = h

pub follow_other : (s : Slots) (z : Side) (home : ℕ) (f : Flags) → FlagsFollow s (Some z) home (other_side z) f → FlagsAreRight s (other_side z) f
follow_other s Ending home f h = h
follow_other s Going home f h = h

pub raised_kept : (s s' : Scene) (z : Side) → IsShaped (slots_of s) (holders_of s) → slots_of s' ≡ slots_of s → holders_of s' ≡ holders_of s → flags_of (other_side z) s' ≡ flags_of (other_side z) s
    → FlagsAreRight (slots_of s) z (flags_in (flags_of z s')) → IsQuiet (slots_of s) (holders_of s) (flags_in (flags_of z s'))
    → FlagsAreRight (slots_of s) (other_side z) (flags_in (flags_of (other_side z) s)) → IsQuiet (slots_of s) (holders_of s) (flags_in (flags_of (other_side z) s)) → LooksAreRight (slots_of s) (holders_of s) s'.looks → AreThreaded (slots_of s') (afters_of s') → IsWellKept s'
raised_kept s s' z shape es eh eo right quiet right_other quiet_other looks threads = by_side z right quiet o_right o_quiet
  where
    o_right : FlagsAreRight (slots_of s) (other_side z) (flags_in (flags_of (other_side z) s'))
    o_right = subst (λ (l : List Bool). FlagsAreRight (slots_of s) (other_side z) (flags_in l)) (sym eo) right_other

    o_quiet : IsQuiet (slots_of s) (holders_of s) (flags_in (flags_of (other_side z) s'))
    o_quiet = subst (λ (l : List Bool). IsQuiet (slots_of s) (holders_of s) (flags_in l)) (sym eo) quiet_other

    shape' : IsShaped (slots_of s') (holders_of s')
    shape' = subst (λ x. IsShaped x (holders_of s')) (sym es) (subst (IsShaped (slots_of s)) (sym eh) shape)

    looks' : LooksAreRight (slots_of s') (holders_of s') s'.looks
    looks' = subst (λ x. LooksAreRight x (holders_of s') s'.looks) (sym es) (subst (λ h. LooksAreRight (slots_of s) h s'.looks) (sym eh) looks)

    moved : (f : Flags) → IsQuiet (slots_of s) (holders_of s) f → IsQuiet (slots_of s') (holders_of s') f
    moved f q = subst (λ x. IsQuiet x (holders_of s') f) (sym es) (subst (λ h. IsQuiet (slots_of s) h f) (sym eh) q)

    both : FlagsAreRight (slots_of s) Ending (flags_in (ends_of s')) → IsQuiet (slots_of s) (holders_of s) (flags_in (ends_of s')) → FlagsAreRight (slots_of s) Going (flags_in (goes_of s')) → IsQuiet (slots_of s) (holders_of s) (flags_in (goes_of s')) → IsWellKept s'
    both a b c d = record {
      shape = shape';
      threads = threads;
      ending = subst (λ x. FlagsAreRight x Ending (flags_in (ends_of s'))) (sym es) a;
      going = subst (λ x. FlagsAreRight x Going (flags_in (goes_of s'))) (sym es) c;
      quiet_ends = moved (flags_in (ends_of s')) b;
      quiet_goes = moved (flags_in (goes_of s')) d;
      looks = looks';
    }

    by_side : (z : Side) → FlagsAreRight (slots_of s) z (flags_in (flags_of z s')) → IsQuiet (slots_of s) (holders_of s) (flags_in (flags_of z s')) → FlagsAreRight (slots_of s) (other_side z) (flags_in (flags_of (other_side z) s'))
        → IsQuiet (slots_of s) (holders_of s) (flags_in (flags_of (other_side z) s')) → IsWellKept s'
    by_side Ending a b c d = both a b c d
    by_side Going a b c d = both c d a b

-- Leaves in an item's place.
module _ (s : Scene) (t : ℕ) (m : Option Side) (outs : List What) (kept : IsWellKept s) (lives : has t (scene_of s).root.entries ≡ true) (free : IsBare (slot_at (slots_of s) t).what) (bare : AreBare outs) (next : Scene)
    (es : slots_of next ≡ stepped (slots_of s) t m [] outs) (eh : holders_of next ≡ holders_of s) (ee : ends_of next ≡ ends_of s) (eg : goes_of next ≡ goes_of s) where
  held : holders_of next ≡ held_after (slots_of s) [] outs (holders_of s)
  held = eh ∙ leaves_held (slots_of s) outs (holders_of s) bare

  ends : ends_of next ≡ ends_of s ++ []
  ends = ee ∙ sym (append-nil (ends_of s))

  goes : goes_of next ≡ goes_of s ++ []
  goes = eg ∙ sym (append-nil (goes_of s))

  inside : t < length (slots_of s).slots
  inside = let a = lives_within s t kept.shape.ordered lives in let e = length-map s.slots.items slot_of in omega (arith, a, e)

  step : IsStep (slots_of s) t m [] outs
  step = leaves_step (slots_of s) t m outs kept.shape.ordered inside free bare

  pub leaves_scene : scene_of next ≡ scene_after t (becomes_leaves (scene_of s) outs m) (scene_of s)
  leaves_scene = scene_put s t m [] outs kept lives step next 0 es held ends goes (becomes_leaves (scene_of s) outs m)
      (sym (ap (λ i. told (stepped (slots_of s) t m [] outs) i outs) (let e : length (slots_of s).slots + 0 ≡ length (slots_of s).slots = omega arith in e) ∙ told_leaves (stepped (slots_of s) t m [] outs) (length (slots_of s).slots) outs bare))
      (let e : length outs ≡ 0 + length outs = omega arith in e) refl refl

  pub leaves_shape : IsShaped (slots_of next) (holders_of next)
  leaves_shape = shape_put s t m [] outs kept lives step next 0 es held ends goes

  pub leaves_threads : afters_of next ≡ afters_then (afters_of s) 0 (length outs) t → AreThreaded (slots_of next) (afters_of next)
  leaves_threads = threads_put s t m [] outs kept lives step next 0 es held ends goes

  pub leaves_flags : (z : Side) → FlagsFollow (slots_of next) m (slot_at (slots_of s) t).home z (flags_in (flags_of z next))
  leaves_flags Ending = ends_put s t m [] outs kept lives step next 0 es held ends goes (leaves_rise Ending (flags_in (ends_of s)) (slot_at (slots_of s) t).what outs free bare)
  leaves_flags Going = goes_put s t m [] outs kept lives step next 0 es held ends goes (leaves_rise Going (flags_in (goes_of s)) (slot_at (slots_of s) t).what outs free bare)

  pub leaves_quiet : (z : Side) → IsQuiet (slots_of next) (holders_of next) (flags_in (flags_of z next))
  leaves_quiet Ending = quiet_ends_put s t m [] outs kept lives step next 0 es held ends goes
  leaves_quiet Going = quiet_goes_put s t m [] outs kept lives step next 0 es held ends goes

  pub leaves_looks : next.looks ≡ s.looks → LooksFollow (slots_of next) (holders_of next) (λ y. flags_in (flags_of y next)) next.looks
  leaves_looks = looks_put s t m [] outs kept lives step next 0 es held ends goes (bare_leave (slots_of s) (holders_of s) t outs bare)

  pub leaves_live : lives_in (slots_of next) (holders_of next) (slot_at (slots_of s) t).home ≡ true
  leaves_live = home_lives_put s t m [] outs kept lives step next 0 es held ends goes

  pub leaves_home : (slot_at (slots_of s) t).home < length next.regions.items
  leaves_home =
      let a = (kept.shape.ordered.items t inside).0 in
      let e = length-map next.regions.items region_slot_of in
      let b = ap (λ (x : Slots). length x.regions) es ∙ stepped_regions (slots_of s) t m [] outs kept.shape.ordered inside in
      omega (arith, a, b, e)

-- A holder with a new region.
module _ (s : Scene) (t : ℕ) (f : FormulaTree) (env : Bindings) (k : Holder) (one : has_second k ≡ false) (asleep : second_lives k ≡ false) (kept : IsWellKept s) (lives : has t (scene_of s).root.entries ≡ true) (free : IsBare (slot_at (slots_of s) t).what) (next : Scene) (n : ℕ)
    (es : slots_of next ≡ stepped (slots_of s) t None (plain.bare (S.Do f env) ∷ []) (plain.holds k (length (slots_of s).regions) None ∷ []))
    (eh : holders_of next ≡ held_after (slots_of s) (plain.bare (S.Do f env) ∷ []) (plain.holds k (length (slots_of s).regions) None ∷ []) (holders_of s))
    (ee : ends_of next ≡ ends_of s ++ map (λ x. false) (begun n 1)) (eg : goes_of next ≡ goes_of s ++ map (λ x. false) (begun n 1)) where
  there : t < length (slots_of s).slots
  there = let a = lives_within s t kept.shape.ordered lives in let e = length-map s.slots.items slot_of in omega (arith, a, e)

  one_step : IsStep (slots_of s) t None (plain.bare (S.Do f env) ∷ []) (plain.holds k (length (slots_of s).regions) None ∷ [])
  one_step = begins_step (slots_of s) t f env k kept.shape.ordered there free one asleep

  pub begins_scene : (r : Reduction) → r.news ≡ node (1 + length (slots_of s).slots) k (new_head (length (slots_of s).regions)) (leaf (0 + length (slots_of s).slots) (S.Do f env) none) no_region none none → r.items ≡ 2 → r.regions ≡ 1 → r.mark ≡ None
      → scene_of next ≡ scene_after t r (scene_of s)
  begins_scene r a b c d =
      scene_put s t None (plain.bare (S.Do f env) ∷ []) (plain.holds k (length (slots_of s).regions) None ∷ []) kept lives one_step next n es eh ee eg r
      (a ∙ sym (begins_told (slots_of s) t f env k kept.shape.ordered there free one asleep)) b c d

  pub begins_kept : next.looks ≡ s.looks → afters_of next ≡ afters_then (afters_of s) 1 1 t → IsWellKept next
  begins_kept el ea =
      put_kept s t (plain.bare (S.Do f env) ∷ []) (plain.holds k (length (slots_of s).regions) None ∷ []) kept lives one_step next n es eh ee eg
      (begins_rise (slots_of s) t f env k kept.shape.ordered there free one asleep Ending (flags_in (ends_of s)) (ends_low s t None (plain.bare (S.Do f env) ∷ []) (plain.holds k (length (slots_of s).regions) None ∷ []) kept lives one_step next n es eh ee eg (length (slots_of s).regions) (omega arith)))
      (begins_rise (slots_of s) t f env k kept.shape.ordered there free one asleep Going (flags_in (goes_of s)) (goes_low s t None (plain.bare (S.Do f env) ∷ []) (plain.holds k (length (slots_of s).regions) None ∷ []) kept lives one_step next n es eh ee eg (length (slots_of s).regions) (omega arith)))
      (begun_leaves (slots_of s) (holders_of s) t k) el ea
