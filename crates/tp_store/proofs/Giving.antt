-- A value comes to a variable of which a store knows nothing.
use Rattle.std.proofs.Common.{◌≡◌, ◌++◌, false, List, [], ap, sym, subst}
use Rattle.tp_value.specs.Tree.{Tree}
use Rattle.tp_value.specs.declared.path.VarId.{VarId}
use Rattle.tp_value.specs.declared.path.Fact.{Fact}
use Rattle.tp_store.specs.Facts.{kept_shape}
use Rattle.tp_store.specs.Known.{Contents, NoClash, IsVariableOf, addition, adds}
use Rattle.tp_store.specs.Changes.{AddsFacts}
use Rattle.tp_store.specs.Entries.{AreParts, contents_of}
use Rattle.tp_store.specs.FactMap.{AreOf, AreOfKind, FactsOfKind}
use Rattle.tp_store.specs.Nodes.{path_along}
use Rattle.tp_store.specs.Wholes.{facts_of_value, AreOfOthers}
use Rattle.tp_store.specs.declared.entry.Entry.{Entry}
use Rattle.tp_store.proofs.Separate.{value_of_variable}
use Rattle.tp_store.proofs.Parts.{sound, state_grown, state_adds, static_grown, static_adds}
use Rattle.tp_store.proofs.WholeValues.{left_others, right_others, adds_to_others}

module _ (es : List Entry) (m n : FactsOfKind) (v : Contents) (e : contents_of es m n ≡ v) (h : AreParts es m n) (x : VarId) (t : Tree) (free : AreOfOthers x.number v.facts) where
  abbrev facts : List Fact
  facts = facts_of_value x t

  filed : AreOf x facts
  filed = value_of_variable (path_along x []) t

  free_parts : AreOfOthers x.number (m.facts ++ n.facts)
  free_parts = let P : Contents → Type 0 = λ s. AreOfOthers x.number s.facts in subst P (sym e) free

  pub free_of_state : AreOfOthers x.number m.facts
  free_of_state = left_others x.number m.facts n.facts free_parts

  pub free_of_static : AreOfOthers x.number n.facts
  free_of_static = right_others x.number m.facts n.facts free_parts

  -- all of its facts are new
  pub given_news : addition v.facts facts ≡ adds facts
  given_news =
      let P : Contents → Type 0 = λ s. addition s.facts facts ≡ adds facts in
      subst P e (adds_to_others (m.facts ++ n.facts) facts x (sound es m n h).no_clash filed free_parts)

  module _ (k : IsVariableOf v.variables x) (o : FactsOfKind) (of_kind : AreOfKind o.lasting o.facts) (apart : NoClash o.facts) where
    module _ (kind : o.lasting ≡ m.lasting) (placed : o.placed ≡ m.placed) (ok : o.facts ≡ m.facts ++ facts) (lasting : x.lasting ≡ false) where
      added_to_state : addition m.facts facts ≡ adds facts
      added_to_state = adds_to_others m.facts facts x h.state_facts.apart filed free_of_state

      pub given_state : AreParts es o n
      given_state = state_grown es m n v e h x facts facts k filed o added_to_state kind of_kind apart (λ p. ap (λ fs. kept_shape fs p) ok) placed lasting

      pub given_to_state : AddsFacts v facts (contents_of es o n)
      given_to_state = state_adds es m n v e h x facts facts k filed o added_to_state kind of_kind apart (λ p. ap (λ fs. kept_shape fs p) ok) placed lasting

    module _ (kind : o.lasting ≡ n.lasting) (placed : o.placed ≡ n.placed) (ok : o.facts ≡ n.facts ++ facts) where
      added_to_static : addition n.facts facts ≡ adds facts
      added_to_static = adds_to_others n.facts facts x h.static_facts.apart filed free_of_static

      pub given_static : AreParts es m o
      given_static = static_grown es m n v e h x facts facts k filed o added_to_static kind of_kind apart (λ p. ap (λ fs. kept_shape fs p) ok) placed

      pub given_to_static : AddsFacts v facts (contents_of es m o)
      given_to_static = static_adds es m n v e h x facts facts k filed o added_to_static kind of_kind apart (λ p. ap (λ fs. kept_shape fs p) ok) placed
