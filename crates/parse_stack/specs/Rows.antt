-- One constant more in an enumeration, and one declared name more.
use Rattle.std.specs.Prelude.{ℕ, max}
use Rattle.c_tree.specs.declared.tree.Enumerator.{Enumerator}
use Rattle.c_tree.specs.declared.tree.Declarator.{Declarator}
use Rattle.c_tree.specs.Tree.{Ens, Decs}
use Rattle.c_tree.specs.View.{enumerator_behind, declarator_behind}
use Rattle.parse_machine.specs.Contexts.{Tall}

abbrev pub constant_more : Tall Ens → Enumerator → ℕ → Tall Ens
constant_more es e h = record { value = enumerator_behind es.value e; height = max es.height h }

abbrev pub declarator_more : Tall Decs → Declarator → ℕ → Tall Decs
declarator_more ds d h = record { value = declarator_behind ds.value d; height = max ds.height h }
