-- A step of the machine, along the edges of its instruction.
use Rattle.std.proofs.Common.{◌≡◌, ℕ, sym, ap, ◌∙◌, subst, List, [], Some, ℤ}
use Rattle.bv_term.specs.WellFormed.{Table, IsTable}
use Rattle.c_graph.specs.declared.graph.NodeId.{NodeId}
use Rattle.c_graph.specs.declared.graph.Node.{Node}
use Rattle.c_graph.specs.declared.graph.Node.TheVariants.{Error}
use Rattle.c_graph.specs.declared.graph.Edge.{Edge}
use Rattle.c_graph.specs.Shape.{widths_of}
use Rattle.c_graph.specs.Steps.{IsWhole}
use Rattle.slot_code.specs.declared.flat.Instruction.{Instruction}
use Rattle.slot_code.specs.declared.reply.Ending.TheVariants as ending
use Rattle.slot_code.specs.Machine.{Machine, Next, Goes, Over}
use Rattle.code_moves.specs.Setting.{Setting}
use Rattle.code_moves.specs.Moves.{moves_of}
use Rattle.cfg_build.specs.Steps.{Checked}
use Rattle.code_move_laws.specs.Doing.{Reaches}
use Rattle.code_move_laws.specs.Steps.{Agrees, acted}
use Rattle.code_move_laws.specs.Stepping.{Steps, StepsRun}
use Rattle.code_move_laws.proofs.Checking.{checks-pass, checks-fail}
use Rattle.code_move_laws.proofs.Whole.{steps}

follows : (g : Setting) (table : Table) (inputs : List ℤ) (x : Instruction) (m : Machine) (store : List ℕ) (next : NodeId) (n : ℕ) (nodes : List Node) (edges : List Edge) (o : Next) → Checked g table x next n nodes edges → IsTable table
    → table.cells ≡ widths_of g.lay.cells → IsWhole (widths_of g.lay.cells) store → Agrees g inputs x m store o → Steps g table inputs m store next n nodes edges o
follows g table inputs x m store next n nodes edges (Goes o) c sound cells whole h =
    let reaches : Reaches table.cells (moves_of g x) store h.0 h.1 [] = subst (λ (W : List ℕ). Reaches W (moves_of g x) store h.0 h.1 []) (sym cells) h.5 in
    let r = checks-pass g table x next n nodes edges store h.0 h.1 c sound (subst (λ (W : List ℕ). IsWhole W store) (sym cells) whole) h.3 reaches in
    (r.0, h.0, h.1, h.2, h.4, r.1, h.6)
follows g table inputs x m store next n nodes edges (Over (ending.Error kind at taken)) c sound cells whole h =
    let r = checks-fail g table x next n nodes edges store kind c sound (subst (λ (W : List ℕ). IsWhole W store) (sym cells) whole) h.0 in
    (r.0, r.1, h.2, r.2 ∙ ap (λ (k : ℕ). Some (Error kind k)) (sym h.1), r.3)
follows g table inputs x m store next n nodes edges (Over ending.Ended) c sound cells whole h = tt
follows g table inputs x m store next n nodes edges (Over ending.NoInput) c sound cells whole h = tt
follows g table inputs x m store next n nodes edges (Over (ending.BadInput number)) c sound cells whole h = tt
follows g table inputs x m store next n nodes edges (Over ending.Spent) c sound cells whole h = tt

pub steps-run : StepsRun
steps-run g inputs x m store laid serves shaped fit plain h table next n nodes edges c sound cells =
    follows g table inputs x m store next n nodes edges (acted g inputs x m) c sound cells h.whole (steps g inputs x m store laid serves shaped fit plain h)
