-- Likeness of moments is an equivalence, and a step leads to one moment.
use Rattle.std.proofs.Common.{◌≡◌, ℕ, Bool, List, [], ◌∷◌, ◌++◌, length, slice_get, refl, ap, ap₂, sym, ◌∙◌, arith}
use Rattle.tp_meaning.specs.Syntax.{BindingTree, place_binding, known_binding}
use Rattle.tp_store.specs.Facts.{kept_shape}
use Rattle.tp_store.specs.Known.{Variable}
use Rattle.tp_scene.specs.Scene.{Bindings, Leaf, Do, Later, Shown, Split, SplitProject, Closed, Opened, Running, Entries, none, leaf, node, Scene}
use Rattle.tp_scene.specs.Step.{Reduction, reduces}
use Rattle.tp_scene.specs.Pick.{Setting, Moment, scene_after, with_local}
use Rattle.tp_step_laws.specs.Renaming.{FixesFrom, renamed_binding, renamed_bindings, renamed_leaf, renamed_head, renamed_entries, renamed_region}
use Rattle.tp_step_laws.specs.Maps.{Permutation, Renaming, FixesBelow, renamed_path}
use Rattle.tp_step_laws.specs.Alike.{Alike}
use Rattle.tp_step_laws.specs.Orders.{StepsTo, AlikeIsEquivalence}
use Rattle.tp_step_laws.proofs.Again.{no_renaming, same_entries}
use Rattle.tp_step_laws.proofs.Swap.{inverse, inverted, back_entries}

-- one renaming after another
abbrev pub composed : Permutation → Permutation → Permutation
composed π κ = record { to = λ n. κ.to (π.to n); back = λ n. π.back (κ.back n); undone = λ n. ap π.back (κ.undone (π.to n)) ∙ π.undone n; redone = λ n. ap κ.to (π.redone (κ.back n)) ∙ κ.redone n }

abbrev pub then_renamed : Renaming → Renaming → Renaming
then_renamed ρ τ = record { item = composed ρ.item τ.item; region = composed ρ.region τ.region; local = composed ρ.local τ.local }

module _ (ρ τ : Renaming) where
  abbrev κ : Renaming
  κ = then_renamed ρ τ

  two_binding : (b : BindingTree) → renamed_binding κ b ≡ renamed_binding τ (renamed_binding ρ b)
  two_binding (place_binding p) = refl
  two_binding (known_binding t) = refl

  two_bindings : (env : Bindings) → renamed_bindings κ env ≡ renamed_bindings τ (renamed_bindings ρ env)
  two_bindings [] = refl
  two_bindings (b ∷ env) = ap₂ (λ x xs. x ∷ xs) (two_binding b) (two_bindings env)

  two_leaf : (l : Leaf) → renamed_leaf κ l ≡ renamed_leaf τ (renamed_leaf ρ l)
  two_leaf (Do f env) = ap (Do f) (two_bindings env)
  two_leaf (Later f env) = ap (Later f) (two_bindings env)
  two_leaf (Shown vs) = refl

  two_entries : (es : Entries) → renamed_entries κ es ≡ renamed_entries τ (renamed_entries ρ es)
  two_entries none = refl
  two_entries (leaf id l rest) = λ j. leaf (κ.item.to id) (two_leaf l j) (two_entries rest j)
  two_entries (node id (Split f env) h i g s rest) = λ j. node (κ.item.to id) (Split f (two_bindings env j)) (renamed_head κ h) (two_entries i j) g (two_entries s j) (two_entries rest j)
  two_entries (node id (SplitProject f env) h i g s rest) = λ j. node (κ.item.to id) (SplitProject f (two_bindings env j)) (renamed_head κ h) (two_entries i j) (renamed_head κ g) (two_entries s j) (two_entries rest j)
  two_entries (node id Closed h i g s rest) = λ j. node (κ.item.to id) Closed (renamed_head κ h) (two_entries i j) g (two_entries s j) (two_entries rest j)
  two_entries (node id (Opened f env) h i g s rest) = λ j. node (κ.item.to id) (Opened f (two_bindings env j)) (renamed_head κ h) (two_entries i j) g (two_entries s j) (two_entries rest j)
  two_entries (node id (Running f env) h i g s rest) = λ j. node (κ.item.to id) (Running f (two_bindings env j)) (renamed_head κ h) (two_entries i j) (renamed_head κ g) (two_entries s j) (two_entries rest j)

back_fixes : (n m : ℕ) (π : Permutation) → m ≡ n → FixesFrom n π → FixesFrom m (inverse π)
back_fixes n m π e f i h = ap π.back (sym (f i (omega (arith, h, e)))) ∙ π.undone i

back_below : (n : ℕ) (π : Permutation) → FixesBelow n π → FixesBelow n (inverse π)
back_below n π f i h = ap π.back (sym (f i h)) ∙ π.undone i

both_fix : (n m : ℕ) (π κ : Permutation) → m ≡ n → FixesFrom n π → FixesFrom m κ → FixesFrom n (composed π κ)
both_fix n m π κ e f g i h = ap κ.to (f i h) ∙ g i (omega (arith, h, e))

module _ (w : Setting) (kinds : List Bool) where
  itself : (m : Moment) → Alike (length kinds) m m
  itself m = (
    no_renaming,
    record {
      root = λ j. record { head = m.scene.root.head; entries = sym (same_entries m.scene.root.entries) j };
      next_item = refl;
      next_region = refl;
      count = refl;
      variables = λ i. refl;
      facts = λ p. refl;
      items_fixed = λ i h. refl;
      regions_fixed = λ i h. refl;
      locals_fixed = λ i h. refl;
      globals_fixed = λ i h. refl;
    },
  )

  back : (m n : Moment) → Alike (length kinds) m n → Alike (length kinds) n m
  back m n x =
      let ρ = x.0 in
      let a = x.1 in (
        inverted ρ,
        record {
          root = sym (ap (renamed_region (inverted ρ)) a.root ∙ (λ j. record {
            head = record { number = ρ.region.undone m.scene.root.head.number j; ends = m.scene.root.head.ends; goes = m.scene.root.head.goes };
            entries = back_entries (inverted ρ) m.scene.root.entries j;
          }));
          next_item = sym a.next_item;
          next_region = sym a.next_region;
          count = sym a.count;
          variables = λ i. sym (a.variables (ρ.local.back i)) ∙ ap (slice_get n.store.variables) (ρ.local.redone i);
          facts = λ p. sym (a.facts (renamed_path (inverted ρ) p)) ∙ (λ j. kept_shape n.store.facts (record { var = record { number = ρ.local.redone p.var.number j; lasting = p.var.lasting }; at = p.at }));
          items_fixed = back_fixes m.scene.next_item n.scene.next_item ρ.item a.next_item a.items_fixed;
          regions_fixed = back_fixes m.scene.next_region n.scene.next_region ρ.region a.next_region a.regions_fixed;
          locals_fixed = back_fixes (length m.store.variables) (length n.store.variables) ρ.local a.count a.locals_fixed;
          globals_fixed = back_below (length kinds) ρ.local a.globals_fixed;
        },
      )

  on : (m n k : Moment) → Alike (length kinds) m n → Alike (length kinds) n k → Alike (length kinds) m k
  on m n k x y =
      let ρ = x.0 in
      let τ = y.0 in
      let a = x.1 in
      let b = y.1 in (
        then_renamed ρ τ,
        record {
          root = b.root ∙ ap (renamed_region τ) a.root ∙ (λ j. record { head = renamed_head (then_renamed ρ τ) m.scene.root.head; entries = sym (two_entries ρ τ m.scene.root.entries) j });
          next_item = b.next_item ∙ a.next_item;
          next_region = b.next_region ∙ a.next_region;
          count = b.count ∙ a.count;
          variables = λ i. b.variables (ρ.local.to i) ∙ a.variables i;
          facts = λ p. b.facts (renamed_path ρ p) ∙ a.facts p;
          items_fixed = both_fix m.scene.next_item n.scene.next_item ρ.item τ.item a.next_item a.items_fixed b.items_fixed;
          regions_fixed = both_fix m.scene.next_region n.scene.next_region ρ.region τ.region a.next_region a.regions_fixed b.regions_fixed;
          locals_fixed = both_fix (length m.store.variables) (length n.store.variables) ρ.local τ.local a.count a.locals_fixed b.locals_fixed;
          globals_fixed = λ i h. ap τ.local.to (a.globals_fixed i h) ∙ b.globals_fixed i h;
        },
      )

  one : (m a b : Moment) (t : ℕ) → StepsTo w m t a → StepsTo w m t b → Alike (length kinds) a b
  one m a b t x y =
      let e : reduces x.0 ≡ reduces y.0 = sym x.1.outcome ∙ y.1.outcome in
      let r : x.0 ≡ y.0 = cc in
      let scene : b.scene ≡ a.scene = y.1.scene ∙ ap (λ (q : Reduction). scene_after t q m.scene) (sym r) ∙ sym x.1.scene in
      let variables : b.store.variables ≡ a.store.variables = y.1.store.variables ∙ ap (λ (q : Reduction). with_local q.local m.store.variables) (sym r) ∙ sym x.1.store.variables in (
        no_renaming,
        record {
          root = ap (λ (s : Scene). s.root) scene ∙ (λ j. record { head = a.scene.root.head; entries = sym (same_entries a.scene.root.entries) j });
          next_item = ap (λ (s : Scene). s.next_item) scene;
          next_region = ap (λ (s : Scene). s.next_region) scene;
          count = ap length variables;
          variables = λ i. ap (λ (l : List Variable). slice_get l i) variables;
          facts = λ p. y.1.store.kept p ∙ ap (λ (q : Reduction). kept_shape (m.store.facts ++ q.facts) p) (sym r) ∙ sym (x.1.store.kept p);
          items_fixed = λ i h. refl;
          regions_fixed = λ i h. refl;
          locals_fixed = λ i h. refl;
          globals_fixed = λ i h. refl;
        },
      )

  pub alike_is_equivalence : AlikeIsEquivalence w kinds
  alike_is_equivalence = record { itself = λ m s. itself m; back = λ m n s t x. back m n x; on = λ m n k s t r x y. on m n k x y; one = λ m a b t s x y. one m a b t x y }
