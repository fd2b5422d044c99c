-- The code of a program: that of its functions in an order in which each stands behind those that it calls. So a call goes
-- back and takes a turn, and a return goes forward; and the slots of a function stand behind those of all that it calls.
use Rattle.std.specs.Prelude.{ℕ, suc, ◌+◌, List, [], ◌∷◌, ◌++◌, length, Option, Some, None, slice_get, pos}
use Rattle.c_typed.specs.Tree.{Function, Program}
use Rattle.slot_code.specs.declared.flat.Instruction.{Instruction}
use Rattle.slot_code.specs.declared.flat.Instruction.TheVariants as i
use Rattle.slot_code.specs.Slots.{slots_in}
use Rattle.slot_code.specs.Values.{Link}
use Rattle.slot_code.specs.Statements.{or_place, label_in, marks_in, size_in, steps_code}

pub record Code : Type 0 where
  pub instructions : List Instruction
  pub links : List Link

module _ (program : Program) where
  -- behind a function's body
  abbrev pub body_end : List Link → ℕ → ℕ → Function → ℕ
  body_end links slot place f = place + size_in program.model program.objects program.functions links f.result (suc slot) f.body

  -- a label that isn't there leaves the body
  abbrev pub label_place : List Link → ℕ → ℕ → Function → List ℕ → ℕ
  label_place links slot place f name =
      or_place (body_end links slot place f) (elim (label_in name (marks_in program.model program.objects program.functions links f.result (suc slot) f.body)) [ None ↦ None | Some n ↦ Some (place + n) ])

  abbrev pub function_code : List Link → ℕ → ℕ → Function → List Instruction
  function_code links slot place f =
      steps_code program.model program.objects program.functions links f.result (suc slot) (body_end links slot place f) (label_place links slot place f)
      (body_end links slot place f) (body_end links slot place f) place f.body
      ++ i.Constant (suc (suc slot)) (pos 0) ∷ i.Return slot ∷ []

  -- one function more; its slots stand behind all that were used
  abbrev pub with_function : Code → ℕ → Option Function → Code
  with_function code number None = code
  with_function code number (Some f) = record {
    instructions = code.instructions ++ function_code code.links (slots_in code.instructions) (length code.instructions) f;
    links = (record { function = number; entry = length code.instructions; slot = slots_in code.instructions }) ∷ code.links;
  }

  abbrev pub code_behind : Code → List ℕ → Code
  code_behind code [] = code
  code_behind code (number ∷ numbers) = code_behind (with_function code number (slice_get program.functions number)) numbers

  abbrev pub code_of : List ℕ → Code
  code_of order = code_behind (record { instructions = []; links = [] }) order
