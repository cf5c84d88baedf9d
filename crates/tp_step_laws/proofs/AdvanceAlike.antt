-- Moments that are alike advance to moments that are alike.
use Rattle.std.proofs.Common.{◌≡◌, ℕ, suc, ◌+◌, cond, List, length, slice_get, None, refl, ap, sym, ◌∙◌, arith}
use Rattle.tp_value.specs.declared.path.Path.{Path}
use Rattle.tp_store.specs.Facts.{kept_shape}
use Rattle.tp_store.specs.Known.{Variable, lasting_facts}
use Rattle.tp_scene.specs.Scene.{Head, new_head, Leaf, Do, Later, Shown, Holder, Split, SplitProject, Closed, Opened, Running, Entries, none, leaf, node, Scene}
use Rattle.tp_scene.specs.Pick.{Moment}
use Rattle.tp_scene.specs.Advance.{due, items_in, regions_held, regions_in, second_head, numbered, numbered_head, advanced, StoreGoesOn}
use Rattle.tp_step_laws.specs.Renaming.{renamed_bindings, renamed_leaf, renamed_holder, renamed_head, renamed_second, renamed_entries, renamed_region}
use Rattle.tp_step_laws.specs.Maps.{Permutation, Renaming, renamed_path}
use Rattle.tp_step_laws.specs.Alike.{AlikeBy, AlikeMomentsAdvance}
use Rattle.tp_step_laws.proofs.SettleAlike.{kept_through}

-- Each number is its own.
abbrev pub same_numbers : Permutation
same_numbers = record { to = λ n. n; back = λ n. n; undone = λ n. refl; redone = λ n. refl }

module _ (ρ : Renaming) where
  -- items and regions of the next state take numbers in walk order, so locals alone are renamed
  abbrev locals_only : Renaming
  locals_only = record { item = same_numbers; region = same_numbers; local = ρ.local }

  due_to : (es : Entries) → due (renamed_entries ρ es) ≡ renamed_entries ρ (due es)
  due_to none = refl
  due_to (leaf id (Do f env) rest) = due_to rest
  due_to (leaf id (Later f env) rest) = ap (leaf (ρ.item.to id) (Do f (renamed_bindings ρ env))) (due_to rest)
  due_to (leaf id (Shown vs) rest) = due_to rest
  due_to (node id (Split f env) h i g s rest) = λ j. node (ρ.item.to id) (Split f (renamed_bindings ρ env)) (new_head (ρ.region.to h.number)) (due_to i j) g (renamed_entries ρ s) (due_to rest j)
  due_to (node id (SplitProject f env) h i g s rest) = λ j. node (ρ.item.to id) (SplitProject f (renamed_bindings ρ env)) (new_head (ρ.region.to h.number)) (due_to i j) (renamed_head ρ g) (renamed_entries ρ s) (due_to rest j)
  due_to (node id Closed h i g s rest) = due_to rest
  due_to (node id (Opened f env) h i g s rest) = due_to rest
  due_to (node id (Running f env) h i g s rest) = λ j. node (ρ.item.to id) (SplitProject f (renamed_bindings ρ env)) (new_head (ρ.region.to h.number)) (due_to i j) (new_head (ρ.region.to g.number)) (due_to s j) (due_to rest j)

  items_to : (es : Entries) → items_in (renamed_entries ρ es) ≡ items_in es
  items_to none = refl
  items_to (leaf id l rest) = ap suc (items_to rest)
  items_to (node id k h i g s rest) = λ j. suc (items_to i j + items_to s j + items_to rest j)

  held_regions : (k : Holder) → regions_held (renamed_holder ρ k) ≡ regions_held k
  held_regions (Split f env) = refl
  held_regions k = refl

  regions_to : (es : Entries) → regions_in (renamed_entries ρ es) ≡ regions_in es
  regions_to none = refl
  regions_to (leaf id l rest) = regions_to rest
  regions_to (node id k h i g s rest) = λ j. held_regions k j + regions_to i j + regions_to s j + regions_to rest j

  leaf_same : (l : Leaf) → renamed_leaf ρ l ≡ renamed_leaf locals_only l
  leaf_same (Do f env) = refl
  leaf_same l = refl

  holder_same : (k : Holder) → renamed_holder ρ k ≡ renamed_holder locals_only k
  holder_same (Split f env) = refl
  holder_same k = refl

  second_same : (k : Holder) (g : Head) (n : ℕ) → second_head (renamed_holder ρ k) n (renamed_second ρ k g) ≡ renamed_second locals_only k (second_head k n g)
  second_same (Split f env) g n = refl
  second_same k g n = refl

  numbered_to : (i r : ℕ) (es : Entries) → numbered i r (renamed_entries ρ es) ≡ renamed_entries locals_only (numbered i r es)
  numbered_to i r none = refl
  numbered_to i r (leaf id l rest) = λ j. leaf i (leaf_same l j) (numbered_to (i + 1) r rest j)
  numbered_to i r (node id k h held g s rest) =
      (λ j. node (i + items_to held j) (holder_same k j) (numbered_head r h) (numbered i (r + 1) (renamed_entries ρ held))
      (second_head (renamed_holder ρ k) (r + 1 + regions_to held j) (renamed_second ρ k g)) (numbered (i + items_to held j + 1) (r + held_regions k j + regions_to held j) (renamed_entries ρ s))
      (numbered (i + items_to held j + 1 + items_to s j) (r + held_regions k j + regions_to held j + regions_to s j) (renamed_entries ρ rest)))
      ∙ (λ j. node (i + items_in held) (renamed_holder locals_only k) (numbered_head r h) (numbered_to i (r + 1) held j)
      (second_same k g (r + 1 + regions_in held) j) (numbered_to (i + items_in held + 1) (r + regions_held k + regions_in held) s j)
      (numbered_to (i + items_in held + 1 + items_in s) (r + regions_held k + regions_in held + regions_in s) rest j))

  entries_to : (es : Entries) → numbered 0 1 (due (renamed_entries ρ es)) ≡ renamed_entries locals_only (numbered 0 1 (due es))
  entries_to es = ap (numbered 0 1) (due_to es) ∙ numbered_to 0 1 (due es)

  module _ (globals : ℕ) (m n m' n' : Moment) (a : AlikeBy globals ρ m n) (ms : m'.scene ≡ advanced m.scene) (mo : StoreGoesOn m.store m'.store) (ns : n'.scene ≡ advanced n.scene) (go_n : StoreGoesOn n.store n'.store) where
    -- what the advanced scene of the second one is, by the first one
    scenes : advanced n.scene ≡ record { root = renamed_region locals_only (advanced m.scene).root; next_item = (advanced m.scene).next_item; next_region = (advanced m.scene).next_region }
    scenes =
        (λ j. record {
          root = record { head = new_head 0; entries = numbered 0 1 (due (a.root j).entries) };
          next_item = items_in (due (a.root j).entries);
          next_region = 1 + regions_in (due (a.root j).entries);
        })
        ∙ (λ j. record {
          root = record { head = new_head 0; entries = entries_to m.scene.root.entries j };
          next_item = (ap items_in (due_to m.scene.root.entries) ∙ items_to (due m.scene.root.entries)) j;
          next_region = 1 + (ap regions_in (due_to m.scene.root.entries) ∙ regions_to (due m.scene.root.entries)) j;
        })

    both : n'.scene ≡ record { root = renamed_region locals_only m'.scene.root; next_item = m'.scene.next_item; next_region = m'.scene.next_region }
    both = ns ∙ scenes ∙ ap (λ (s : Scene). record { root = renamed_region locals_only s.root; next_item = s.next_item; next_region = s.next_region }) (sym ms)

    lasting : (p : Path) → kept_shape (lasting_facts n.store.facts) (renamed_path ρ p) ≡ kept_shape (lasting_facts m.store.facts) p
    lasting p =
        kept_through (λ q. q.var.lasting) n.store.facts (renamed_path ρ p) ∙ ap (λ o. cond p.var.lasting o None) (a.facts p)
        ∙ sym (kept_through (λ q. q.var.lasting) m.store.facts p)

    alike_after : AlikeBy globals locals_only m' n'
    alike_after = record {
      root = ap (λ (s : Scene). s.root) both;
      next_item = ap (λ (s : Scene). s.next_item) both;
      next_region = ap (λ (s : Scene). s.next_region) both;
      count = ap length go_n.variables ∙ a.count ∙ sym (ap length mo.variables);
      variables = λ i. ap (λ (xs : List Variable). slice_get xs (ρ.local.to i)) go_n.variables ∙ a.variables i ∙ sym (ap (λ (xs : List Variable). slice_get xs i) mo.variables);
      facts = λ p. go_n.kept (renamed_path ρ p) ∙ lasting p ∙ sym (mo.kept p);
      items_fixed = λ i h. refl;
      regions_fixed = λ i h. refl;
      locals_fixed = λ i h. a.locals_fixed i (let e = ap length mo.variables in let l : length m'.store.variables ≡ length m.store.variables = e in omega (arith, l, h));
      globals_fixed = a.globals_fixed;
    }

pub alike_moments_advance : AlikeMomentsAdvance
alike_moments_advance globals m n m' n' x ms mo ns go_n = (locals_only x.0, alike_after x.0 globals m n m' n' x.1 ms mo ns go_n)
