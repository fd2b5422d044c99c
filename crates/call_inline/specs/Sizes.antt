-- How many nodes a copy of a function has, with the copies of all that it calls.
use Rattle.std.specs.Prelude.{ℕ, zero, suc, ◌+◌, ◌-◌, ◌<◌, ◌≤◌, ◌≡◌, min, length, List, [], ◌∷◌, slice_get}
use Rattle.lv_base.specs.declared.fail.SourceFail.{SourceFail}
use Rattle.lv_base.specs.declared.fail.SourceFail.TheVariants.{Fault, Over, Memory}
use Rattle.c_graph.specs.declared.graph.Node.{Node}
use Rattle.c_graph.specs.declared.graph.Node.TheVariants.{Plain, Error, End, Call}
use Rattle.c_graph.specs.Functions.{FnFlow, Flows}
use Rattle.call_inline.specs.Inlining.{nodes_of, or_zero}

-- a node, and the copy behind it if it is a call, where copies of functions have so many
abbrev pub nodes_at : (ℕ → ℕ) → Node → ℕ
nodes_at size Plain = 1
nodes_at size (Error kind at) = 1
nodes_at size End = 1
nodes_at size (Call callee next) = size callee + 1

abbrev pub nodes_among : (ℕ → ℕ) → List Node → ℕ
nodes_among size [] = 0
nodes_among size (v ∷ vs) = nodes_at size v + nodes_among size vs

-- those of the function of a number
abbrev pub nodes_with : List FnFlow → (ℕ → ℕ) → ℕ → ℕ
nodes_with graphs size f = nodes_among size (nodes_of (slice_get graphs f))

-- of the function of a number, down to this depth of calls
abbrev pub copy_nodes : List FnFlow → ℕ → ℕ → ℕ
copy_nodes graphs zero f = 0
copy_nodes graphs (suc depth) f = nodes_among (copy_nodes graphs depth) (nodes_of (slice_get graphs f))

-- the size that a list has for a function, 0 where it has none
abbrev pub size_in : List ℕ → ℕ → ℕ
size_in sizes f = or_zero (slice_get sizes f)

-- no function has more by the one than by the other
abbrev pub IsBelow : (ℕ → ℕ) → (ℕ → ℕ) → Type 0
IsBelow small large = (f : ℕ) → small f ≤ large f

-- Each function has a size: no more nodes than it has down to some depth of calls, and no more than itself and its calls have by these sizes.
pub record AreSizes (graphs : List FnFlow) (sizes : List ℕ) : Type 0 where
  pub count : length sizes ≡ length graphs
  pub depth : ℕ
  pub below : IsBelow (size_in sizes) (copy_nodes graphs depth)
  pub summed : IsBelow (size_in sizes) (nodes_with graphs (size_in sizes))

-- the function and its calls have by these sizes no more nodes than its size says, which counts to 65,537
abbrev pub IsSettled : List FnFlow → List ℕ → ℕ → Type 0
IsSettled graphs sizes f = min (nodes_with graphs (size_in sizes) f) 65537 ≤ size_in sizes f

-- so it is with each function
abbrev pub AreSettled : List FnFlow → List ℕ → Type 0
AreSettled graphs sizes = (f : ℕ) → IsSettled graphs sizes f

-- how far sizes can still be raised, all together
abbrev pub room : List ℕ → ℕ
room [] = 0
room (n ∷ ns) = (65537 - n) + room ns

-- A function of no more than 65,536 nodes has as many as itself and its calls have.
abbrev pub AreExact : List FnFlow → (ℕ → ℕ) → Type 0
AreExact graphs size = (f : ℕ) → size f ≤ 65536 → size f ≡ nodes_with graphs size f

-- why calls are not inlined: main has more nodes than 65,536, with the copies of all that it calls, or memory runs out
abbrev pub TooMany : Flows → SourceFail → Type 0
TooMany p (Fault fault at) = ⊥
TooMany p (Over number count) = (number ≡ 5) × (65536 < count) × ((depth : ℕ) × (count ≤ copy_nodes p.graphs depth p.main))
TooMany p Memory = Unit {0}

-- main has no more nodes than the limit, with the copies of all that it calls, down to whatever depth of calls
abbrev pub HasFew : Flows → Type 0
HasFew p = (depth : ℕ) → copy_nodes p.graphs depth p.main ≤ 65536
