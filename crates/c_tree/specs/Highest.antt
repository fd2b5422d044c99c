-- The height of the program's trees, list by list.
use Rattle.std.specs.Prelude.{ℕ, max, List, [], ◌∷◌}
use Rattle.c_tree.specs.declared.tree.Listed.{Listed}
use Rattle.c_tree.specs.declared.tree.Spec.{Spec}
use Rattle.c_tree.specs.declared.tree.Enumerator.{Enumerator}
use Rattle.c_tree.specs.declared.tree.Parameter.{Parameter}
use Rattle.c_tree.specs.declared.tree.Declarator.{Declarator}
use Rattle.c_tree.specs.declared.tree.Statement.{Statement}
use Rattle.c_tree.specs.declared.tree.Function.{Function}
use Rattle.c_tree.specs.declared.tree.Item.{Item}
use Rattle.c_tree.specs.declared.tree.Item.TheVariants as it
use Rattle.c_tree.specs.View.{expr, word, enumerator_behind, words_of, declarator_behind, statement, item_of}
use Rattle.c_tree.specs.Tree.{no_enumerators, no_declarators}
use Rattle.c_tree.specs.Height.{height, height_word, height_enumerators, height_specs, height_declarators, height_statement, height_item}

-- the greatest height in a list
abbrev pub highest : {A : Type 0} → (A → ℕ) → List A → ℕ
highest h [] = 0
highest h (x ∷ xs) = max (h x) (highest h xs)

abbrev pub part_height : Listed → ℕ
part_height p = height (expr p.value.value)

abbrev pub spec_height : Spec → ℕ
spec_height w = height_word (word w)

abbrev pub enumerator_height : Enumerator → ℕ
enumerator_height e = height_enumerators (enumerator_behind no_enumerators e)

abbrev pub parameter_height : Parameter → ℕ
parameter_height p = height_specs (words_of p.specs)

abbrev pub declarator_height : Declarator → ℕ
declarator_height d = height_declarators (declarator_behind no_declarators d)

abbrev pub statement_height : Statement → ℕ
statement_height s = height_statement (statement s)

abbrev pub item_height : Item → ℕ
item_height i = height_item (item_of i)

abbrev pub function_height : Function → ℕ
function_height f = item_height (it.Function f)
