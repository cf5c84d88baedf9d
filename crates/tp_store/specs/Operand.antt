-- Values that are handed on.
use Rattle.tp_value.specs.Tree.{Tree}
use Rattle.tp_value.specs.Read.{tree}
use Rattle.tp_store.specs.declared.operand.Operand.{Operand}
use Rattle.tp_store.specs.declared.operand.Operand.TheVariants.{Shared, Own}

abbrev pub operand_tree : Operand → Tree
operand_tree (Shared v) = tree v.value
operand_tree (Own v) = tree v
