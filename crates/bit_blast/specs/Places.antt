-- What contracts see of a term that is done.
use Rattle.bit_blast.specs.declared.done.Done.{Done}
use Rattle.bit_blast.specs.Done.{Known}

abbrev pub known : Done → Known
known d = record { term = d.term; lits = d.lits.items }
