-- What a store has learned, as facts.
use Rattle.std.specs.Prelude.{List}
use Rattle.tp_value.specs.Read.{tree}
use Rattle.tp_value.specs.declared.path.Fact.{Fact}
use Rattle.tp_store.specs.declared.learned.LearnedKind.{LearnedKind}
use Rattle.tp_store.specs.declared.learned.LearnedKind.TheVariants.{Listed, Whole}
use Rattle.tp_store.specs.Wholes.{facts_of_value}

-- the facts that are listed, or those of the value that the whole variable has
abbrev pub facts_learned : LearnedKind → List Fact
facts_learned (Listed fs) = fs
facts_learned (Whole x v) = facts_of_value x (tree v.value)
