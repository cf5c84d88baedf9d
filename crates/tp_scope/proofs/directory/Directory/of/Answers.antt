use Rattle.std.proofs.Common.{◌≡◌, ◌∷◌, ◌++◌, ◌∙◌, refl, ap, ap₂, sym, map, Bool, List, bytes_eq, false}
use Rattle.std.specs.List.{list_any}
use Rattle.std.specs.Map.{keys_of}
use Rattle.std.proofs.lemmas.List.{append-nil}
use Rattle.std.proofs.lemmas.Slice.Zip.{Zip-more, either_empty_from_Zip}
use Rattle.tp_tree.specs.declared.phrase.Definition.{Definition}
use Rattle.tp_tree.specs.Read.{definition_tree}
use Rattle.tp_scope.specs.Scope as plain
use Rattle.tp_scope.specs.Names.{has_repeat, signatures_of}
use Rattle.tp_scope.specs.Seen.{names_of_definitions}
use Rattle.tp_scope.proofs.Apart.{none_before}
use Rattle.tp_scope.proofs.Called.{Entries, entry_seen, names_more, known_more, none_known}
use Rattle.tp_scope.proofs.directory.Directory.of.Goals as goal

pub loop-definition-preserved : goal.loop-definition-preserved
loop-definition-preserved c =
    let step = Zip-more c.loop-definition.definition-iterator c.next.new.self c.next.result (c.in-Some.definition, c.in-Some.is_state) c.in-Some.is c.next.ensures.steps in
    let d : Definition = c.in-Some.definition.now in
    let b : Bool = c.in-Some.is_state.now in
    let ds : List Definition = c.next.new.self.a.rest.now in
    let bs : List Bool = c.next.new.self.b.rest.now in
    let es : Entries = c.loop-definition.signatures.entries in
    let names : keys_of es ++ d.name ∷ map (λ e. e.name) ds ≡ names_of_definitions c.args.definitions.now =
    ap (λ (es : List Definition). keys_of c.loop-definition.signatures.entries ++ map (λ e. e.name) es) (sym step.0) ∙ c.loop-definition.invariant.names in
    let known : map entry_seen es ++ signatures_of (map definition_tree (d ∷ ds)) (b ∷ bs) ≡ signatures_of (map definition_tree c.args.definitions.now.items.items) c.args.states.now =
    ap₂ (λ (es : List Definition) (cs : List Bool). map entry_seen c.loop-definition.signatures.entries ++ signatures_of (map definition_tree es) cs) (sym step.0) (sym step.1) ∙ c.loop-definition.invariant.known in
    let other : list_any (bytes_eq d.name) (keys_of es) ≡ false = none_before (keys_of es) d.name (map (λ e. e.name) ds) (ap has_repeat names ∙ c.requires.apart) in
    record {
      names = names_more es c.insert.new.self.entries _ _ d b ds bs c.in_ok-insert.ensures.entries c.in_ok-copy.ensures other ∙ names;
      known = known_more es c.insert.new.self.entries _ _ d b ds bs c.in_ok-insert.ensures.entries c.in_ok-copy.ensures other refl refl ∙ known;
    }

pub returns : goal.returns
returns c =
    let t = c.loop-definition.definition-iterator in
    let left = none_known t.a.rest.now t.b.rest.now (either_empty_from_Zip t c.next.new.self c.next.result c.in-None.is c.next.ensures.steps) in
    let known : List plain.Signature = map entry_seen c.loop-definition.signatures.entries in
    sym (append-nil known) ∙ (ap (λ (xs : List plain.Signature). known ++ xs) (sym left) ∙ c.loop-definition.invariant.known)
