-- The parser's states, without where they lie in memory.
use Rattle.std.specs.Prelude.{◌≡◌, ℕ, List, [], ◌∷◌, ◌++◌, Option, None, Some, Result, Ok, Err, Box, Vec, ◌⊎◌}
use Rattle.std.proofs.Common.{Global}
use Rattle.c_tree.specs.View.{expr, raw_of, attributes_of, statement, head_of, item_of, items_of}
use Rattle.c_tree.specs.declared.tree.Item.{Item}
use Rattle.c_tree.specs.Tree as t
use Rattle.parse_stack.specs.declared.fail.StepFail.{StepFail}
use Rattle.parse_stack.specs.declared.fail.StepFail.TheVariants as fail
use Rattle.parse_machine.specs.Contexts as m
use Rattle.parse_machine.specs.Declarations as d
use Rattle.parse_stack.specs.View as v
use Rattle.parse_values.specs.declared.modes.Fork.{Fork}
use Rattle.parse_values.specs.declared.modes.Fork.TheVariants as fo
use Rattle.parse_values.specs.declared.modes.Waiting.{Waiting}
use Rattle.parse_values.specs.declared.modes.Waiting.TheVariants as wa
use Rattle.parse_values.specs.declared.modes.Mode.{Mode}
use Rattle.parse_values.specs.declared.modes.Mode.TheVariants as mo

abbrev pub fork : Fork → m.Fork
fork (fo.Cast a k) = m.forkCast a (v.inner k)
fork (fo.Sizeof at a k) = m.forkSizeof at a (v.inner k)
fork (fo.Block o) = m.forkBlock (v.outer o)
fork (fo.For k at a o) = m.forkFor k at a (v.outer o)

abbrev pub waiting : Waiting → m.Waiting
waiting (wa.Test t at o) = m.waitTest (v.test t) at (v.outer o)
waiting (wa.While at s o) = m.waitWhile at (statement s.value) (v.outer o)
waiting (wa.Do at s x o) = m.waitDo at (statement s.value) x (v.outer o)
waiting (wa.Done at s h o) = m.waitDone at (statement s.value) (head_of h) (v.outer o)
waiting (wa.For at o) = m.waitFor at (v.outer o)
waiting (wa.Default at o) = m.waitDefault at (v.outer o)
waiting (wa.Goto at n x o) = m.waitGoto at n x (v.outer o)
waiting (wa.Break at o) = m.waitBreak at (v.outer o)
waiting (wa.Continue at o) = m.waitContinue at (v.outer o)
waiting (wa.Void d a at) = m.waitVoid (v.declared d.value) a at
waiting (wa.List d at) = m.waitList (v.declared d.value) at
waiting (wa.Attribute w at x) = m.waitAttribute w at (v.attributed x.value)

abbrev pub mode : Mode → m.Mode
mode mo.File = m.File
mode (mo.Ended i h) = m.Ended (item_of i.value) h
mode (mo.Specifiers s w) = m.Specifiers (v.spoken s) (v.around w.value)
mode (mo.Enumeration at s w) = m.Enumeration at (v.spoken s) (v.around w.value)
mode (mo.Tagged at n x s w) = m.Tagged at n x (v.spoken s) (v.around w.value)
mode (mo.Constant l) = m.Constant (v.listing l)
mode (mo.Named l n at) = m.Named (v.listing l) n at
mode (mo.Attribute w at a s x) = m.Attribute w at a (raw_of s.tokens.items) s.depth (v.attributed x.value)
mode (mo.Next d at) = m.Next (v.declaring d) at
mode (mo.Behind d) = m.Behind (v.declared d.value)
mode (mo.Listed d) = m.Listed (v.declaring d)
mode (mo.Parameters d a) = m.Parameters' (v.declared d.value) a
mode (mo.Parameter d a ps c s n at) = m.Parameter (v.declared d.value) a (v.param_row ps) c (v.spoken s) n at
mode (mo.Skipped h a s) = m.Skipped (v.function_head h.value) a (raw_of s.tokens.items) s.depth
mode (mo.Begin o) = m.Begin (v.outer o)
mode (mo.Wait x) = m.Wait (waiting x.value)
mode (mo.Either f ats) = m.Either (fork f.value) ats.items
mode (mo.Goto at o) = m.Goto at (v.outer o)
mode (mo.Operand k) = m.Operand (v.inner k)
mode (mo.Maybe k) = m.Maybe (v.inner k)
mode (mo.Sizeof at k) = m.Sizeof at (v.inner k)
mode (mo.Value e k) = m.Value (v.part e) (v.inner k)
mode (mo.Label n at b ats o) = m.Label n at b (attributes_of ats.items) (v.outer o)
mode (mo.Whole s o) = m.Whole (statement s.value) (v.outer o)
mode mo.Finished = m.Finished

-- what a step returned is what the machine does, unless memory ran out
abbrev pub Fails : {A : Type 0} → StepFail → Option A → Type 0
Fails fail.Memory o = Unit {0}
Fails fail.Refused o = o ≡ None

abbrev pub Gives : Result Mode StepFail → Option m.Mode → Type 0
Gives (Ok s) o = o ≡ Some (mode s)
Gives (Err e) o = Fails e o

-- the same with the typedef names behind the step
abbrev pub GivesTurn : Result Mode StepFail → List (List ℕ) → Option d.Turn → Type 0
GivesTurn (Ok s) names o = o ≡ Some (d.turn (mode s) names)
GivesTurn (Err e) names o = Fails e o

-- only want of memory stops it
abbrev pub Declares : Result (Unit {0}) StepFail → Type 0 → Type 0
Declares (Ok u) P = P
Declares (Err fail.Memory) P = Unit {0}
Declares (Err fail.Refused) P = ⊥

-- where it was refused in another mode than behind a statement, the typedef names are as they were
abbrev pub IsBehind : Mode → Type 0
IsBehind (mo.Whole s o) = Unit {0}
IsBehind _ = ⊥

abbrev pub Keeps : Result Mode StepFail → Mode → List (List ℕ) → List (List ℕ) → Type 0
Keeps (Err fail.Refused) x before after = IsBehind x ⊎ (after ≡ before)
Keeps _ x before after = Unit {0}
