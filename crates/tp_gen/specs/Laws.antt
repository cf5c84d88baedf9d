-- How a small one of the sources reads.
use Rattle.std.specs.Prelude.{◌≡◌, codes}
use Rattle.tp_gen.specs.Source.{source_text}

abbrev pub SourceOfThree : Type 0
SourceOfThree = source_text 3
    ≡ codes "run len(7) and X2=0 and X2 gets X0 and always(X0=X1+1) and always(X1=X2+1).\n"
