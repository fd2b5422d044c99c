-- Which typed tree a machine runs.
use Rattle.std.specs.Prelude.{◌≡◌, ℕ, List, []}
use Rattle.c_typed.specs.Tree.{Program}
use Rattle.c_typed.specs.Facts.{IsTyped}
use Rattle.c_typed.specs.Run.{main_number}
use Rattle.call_order.specs.Order as calls
use Rattle.slot_code.specs.Programs.{code_of}
use Rattle.slot_code.specs.Machine.{main_link}
use Rattle.slot_laws.specs.Laws.{IsOrder}
use Rattle.slot_machine.specs.Loaded.{Loaded, loaded}

-- the order of a tree that breaks no rule is one in which its code runs as the tree
abbrev pub OrdersAgree : Type 0
OrdersAgree = (program : Program) (order : List ℕ) → calls.IsOrder (calls.callees program) order → IsOrder program order

-- without what the slots hold
abbrev pub forgetful : Loaded → Loaded
forgetful m = record { model = m.model; code = m.code; store = m.store; entry = m.entry; slots = [] }

-- The machine has the code of this typed program, of its functions in an order in which each stands behind those that it calls,
-- the first values of its objects, and the place where `main` begins.
pub record Replays (program : Program) (m : Loaded) : Type 0 where
  pub order : List ℕ
  pub typed : IsTyped program
  pub ordered : IsOrder program order
  pub holds : m ≡ loaded program (code_of program order) (main_link (main_number program.functions) (code_of program order)) []
