-- Numbers of nodes that leave each copy the room that it needs.
use Rattle.std.specs.Prelude.{ℕ, ◌*◌, ◌≤◌, ◌≡◌, length, Some, slice_get}
use Rattle.c_graph.specs.Functions.{FnFlow, Flows}
use Rattle.call_inline.specs.Copying.{Offsets, all_offsets}
use Rattle.call_inline.specs.Sizes.{AreExact}

-- Each node has the distance from the first one that the nodes and copies between them ask for, and the copy of main with all that it
-- calls has so many nodes, no more than 65,536.
pub record IsLaidOut (p : Flows) (offsets : Offsets) (total : ℕ) : Type 0 where
  pub size : ℕ → ℕ
  pub exact : AreExact p.graphs size
  pub main : size p.main ≡ total
  pub few : total ≤ 65536
  pub lists : offsets ≡ all_offsets size p.graphs

-- no function's graph has more than 30,000 edges for each of its nodes; those of programs have at most two
abbrev pub AreSparse : Flows → Type 0
AreSparse p = (k : ℕ) (g : FnFlow) → slice_get p.graphs k ≡ Some g → length g.edges ≤ 30000 * length g.nodes
