-- What one instruction does to the machine and to the cells.
use Rattle.std.specs.Prelude.{suc, ◌≡◌, List, [], ◌++◌, take, ℕ, None, Some, ℤ}
use Rattle.slot_code.specs.declared.flat.Instruction.{Instruction}
use Rattle.slot_code.specs.declared.flat.Instruction.TheVariants as i
use Rattle.slot_code.specs.declared.reply.Ending.TheVariants as ending
use Rattle.slot_code.specs.Machine.{Machine, Next, Goes, Over, act_with}
use Rattle.slot_laws.specs.Laws.{IsShaped}
use Rattle.c_graph.specs.Shape.{widths_of}
use Rattle.word_laws.specs.Laws.{first_met}
use Rattle.code_moves.specs.Setting.{Setting}
use Rattle.code_moves.specs.Values.{failures_of}
use Rattle.code_moves.specs.Moves.{moves_of}
use Rattle.cfg_build.specs.Steps.{offset_of}
use Rattle.cfg_build.specs.Fitting.{IsFit}
use Rattle.layout_laws.specs.Serve.{Serves}
use Rattle.code_move_laws.specs.Mirrors.{IsLaid, Mirrors}
use Rattle.code_move_laws.specs.Doing.{Reaches}
use Rattle.code_move_laws.specs.Ways.{objects_of, converting, graph_way}

-- an instruction behind which the next one stands
abbrev pub IsPlain : Instruction → Type 0
IsPlain (i.Jump skip) = ⊥
IsPlain (i.Turn at goal) = ⊥
IsPlain (i.SkipZero slot skip) = ⊥
IsPlain (i.SkipEqual slot v skip) = ⊥
IsPlain (i.Call at goal slot) = ⊥
IsPlain (i.Return slot) = ⊥
IsPlain (i.Fail kind at) = ⊥
IsPlain i.Stop = ⊥
IsPlain _ = Unit {0}

-- ---- The step

-- The machine goes on to the next place, no check fails, and the deeds lead to a store that mirrors where it went, drawing the inputs that
-- it drew; or it meets an error, and the first check that fails is the one of this error. Of other endings nothing is said.
abbrev pub Agrees : Setting → List ℤ → Instruction → Machine → List ℕ → Next → Type 0
Agrees g inputs x m store (Goes n) =
    (draws : List ℤ) × (after : List ℕ) × (n.place ≡ suc m.place) × (first_met (failures_of g store x) ≡ None)
    × (take (n.st).taken inputs ≡ take (m.st).taken inputs ++ draws)
    × Reaches (widths_of g.lay.cells) (moves_of g x) store draws after [] × Mirrors g n.slots (n.st).store after
Agrees g inputs x m store (Over (ending.Error kind at taken)) =
    (first_met (failures_of g store x) ≡ Some kind) × (at ≡ offset_of x) × (taken ≡ (m.st).taken)
Agrees g inputs x m store (Over _) = Unit {0}

-- as the graph computes, in its way
abbrev pub acted : Setting → List ℤ → Instruction → Machine → Next
acted g inputs x m = act_with g.model (λ op kind a b. converting g.model op kind a b) inputs (graph_way g) x m.place m.slots m.st

abbrev pub StepsAgree : Type 0
StepsAgree =
    (g : Setting) (inputs : List ℤ) (x : Instruction) (m : Machine) (store : List ℕ) → IsLaid g → Serves g.model g.objects g.lay x → IsShaped (objects_of g) x
    → IsFit g.model (objects_of g) x → IsPlain x → Mirrors g m.slots (m.st).store store → Agrees g inputs x m store (acted g inputs x m)
