-- A run of a typed program that ends in an error.
use Rattle.std.proofs.Common.{◌<◌, subst, List, length}
use Rattle.c_graph.specs.declared.graph.Cell.{Cell}
use Rattle.cfg_build.specs.Graphs.{program_setting}
use Rattle.code_flow_laws.proofs.Typed.{typed-errors-follow}
use Rattle.code_start_laws.specs.Errors.{ProgramErrorsFollow}
use Rattle.code_start_laws.proofs.Whole.{program-opens}

pub program-errors-follow : ProgramErrorsFollow
program-errors-follow t order p inputs turns kind at taken typed stands flows follow run =
    let cells : length (program_setting t order).lay.cells < 4294967296 = subst (λ (cs : List Cell). length cs < 4294967296) follow.cells flows.few_cells in
    typed-errors-follow t order p inputs turns kind at taken typed stands flows follow follow.short (λ l e. program-opens t order l turns typed cells follow.short) run
