-- How many nodes the graphs of a program's functions have.
use Rattle.std.specs.Prelude.{ℕ, ◌+◌, ◌==◌, ◌≤◌, ◌⊎◌, Bool, if◌then◌else◌, List, [], ◌∷◌, length}
use Rattle.lv_base.specs.Integers.{is_signed, is_promoted}
use Rattle.lv_base.specs.declared.fail.SourceFail.{SourceFail}
use Rattle.slot_code.specs.declared.flat.Instruction.{Instruction}
use Rattle.slot_code.specs.declared.flat.Instruction.TheVariants as i
use Rattle.c_typed.specs.Parts.{Parts, tree_of}
use Rattle.c_terms.specs.Operations.{failure_count}
use Rattle.code_moves.specs.Values.{operation_of}
use Rattle.code_layout.specs.Limits.{IsOver}
use Rattle.cfg_build.specs.Graphs.{program_code, program_setting}

abbrev pub one_if : Bool → ℕ
one_if b = if b then 1 else 0

-- how many checks an instruction has
abbrev pub checks_in : Instruction → ℕ
checks_in (i.Element slot at object count) = 1
checks_in (i.Locate slot at object count) = 1
checks_in (i.Negate slot k at) = one_if (is_signed k)
checks_in (i.Binary slot o k at) = failure_count o (is_signed k)
checks_in (i.Update slot o k l at object) = failure_count o (is_signed k)
checks_in (i.Change slot before by k at object) = if is_promoted k then failure_count (operation_of by) (is_signed k) else 0
checks_in (i.Take slot at from needed) = one_if needed
checks_in _ = 0

-- with none, with one, and with two
abbrev pub nodes_with : ℕ → ℕ
nodes_with checks = if checks == 0 then 1 else if checks == 1 then 2 else 4

-- the place of an instruction has its own node, of two checks one between them, and one for the error of each
abbrev pub nodes_at : Instruction → ℕ
nodes_at x = nodes_with (checks_in x)

abbrev pub nodes_of : List Instruction → ℕ
nodes_of [] = 0
nodes_of (x ∷ xs) = nodes_at x + nodes_of xs

-- the nodes of all places, an exit for each function, and the node at which `main` begins
abbrev pub graph_nodes : List Instruction → ℕ → ℕ
graph_nodes code functions = functions + 1 + nodes_of code

-- why no graphs are made of a program: it has too many cells, or they have too many nodes, or memory runs out
abbrev pub TooMuch : Parts → List ℕ → SourceFail → Type 0
TooMuch t order e =
    IsOver 4 65536 (length (program_setting t order).lay.cells) e
    ⊎ (length (program_setting t order).lay.cells ≤ 65536) × IsOver 5 65536 (graph_nodes (program_code t order) (length (tree_of t).functions)) e

-- none of these passes its bound
pub record IsWithin (t : Parts) (order : List ℕ) : Type 0 where
  pub cells : length (program_setting t order).lay.cells ≤ 65536
  pub nodes : graph_nodes (program_code t order) (length (tree_of t).functions) ≤ 65536
