-- The graph of a program lists the `while` and `for` loops of `main`.
use Rattle.std.specs.Prelude.{ℕ, ◌≡◌, ◌<◌, ◌≤◌, true, List, map, Some, slice_get}
use Rattle.c_typed.specs.Tree.{Function}
use Rattle.c_typed.specs.Parts.{Parts, tree_of}
use Rattle.c_typed.specs.Rules.{has}
use Rattle.c_typed.specs.Run.{main_number}
use Rattle.c_graph.specs.declared.graph.LoopAt.{LoopAt}
use Rattle.call_order.specs.Order.{times}
use Rattle.cfg_build.specs.Looped.{loops_in}
use Rattle.cfg_build.specs.Built.{built}
use Rattle.call_inline.specs.Inlined.{inlined}
use Rattle.loop_listing_laws.specs.Asking.{all_asks}

abbrev pub offsets : List LoopAt → List ℕ
offsets ls = map (λ (l : LoopAt). l.at) ls

-- at the offset of each of these loops nothing but the loop asks for turns in the functions of these numbers
abbrev pub AskAlone : List Function → (order loops : List ℕ) → Type 0
AskAlone functions order loops = (at : ℕ) → 1 ≤ times at loops → times at (all_asks functions order) ≡ 1

-- The graph of functions in an order with `main` among them, with each call a copy, lists all `while` and `for` loops of `main`'s body, in
-- their order, where each has its offset for itself.
abbrev pub LoopsListed : Type 0
LoopsListed =
    (t : Parts) (order : List ℕ) (main : ℕ) (f : Function) → main_number (tree_of t).functions ≡ Some main → slice_get (tree_of t).functions main ≡ Some f → main < 4294967296
    → has order main ≡ true → AskAlone (tree_of t).functions order (loops_in f.body) → offsets (inlined (built t order)).loops ≡ loops_in f.body
