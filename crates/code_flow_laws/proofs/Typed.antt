-- The run of a typed tree that ends in an error.
use Rattle.std.proofs.Common.{◌≡◌, ℕ, ◌<◌, refl, ap, ◌∙◌, subst, arith, List, [], length, take, Option, None, Some}
use Rattle.c_typed.specs.Parts.{tree_of}
use Rattle.c_graph.specs.declared.graph.Cell.{Cell}
use Rattle.slot_code.specs.declared.reply.Ending.TheVariants as ending
use Rattle.slot_code.specs.Slots.{slots_in}
use Rattle.slot_code.specs.Values.{Link, link_of}
use Rattle.slot_code.specs.Programs.{code_of}
use Rattle.slot_code.specs.Machine.{ending_of, run_code_with, main_link}
use Rattle.slot_laws.proofs.Whole.{runs_each_way}
use Rattle.code_move_laws.specs.Mirrors.{IsLaid}
use Rattle.code_move_laws.specs.Ways.{converting, graph_way}
use Rattle.code_move_laws.proofs.Laying.{laid}
use Rattle.code_move_laws.proofs.Trimming.{converting-agrees}
use Rattle.code_move_laws.proofs.Suiting.{graph-way-suits}
use Rattle.cfg_build.specs.Graphs.{program_code, program_setting}
use Rattle.function_runs.specs.Runs.{FunctionsFail}
use Rattle.code_flow_laws.specs.Followed.{links_in, TypedErrorsFollow}
use Rattle.code_flow_laws.proofs.Whole.{errors-follow}

pub typed-errors-follow : TypedErrorsFollow
typed-errors-follow t order p inputs turns kind at taken typed stands flows follow few opened run = by_link (link_of p.main (links_in t order)) refl runs
  where
    is-laid : IsLaid (program_setting t order)
    is-laid = laid t.objects t.model (program_code t order) (slots_in (program_code t order)) (omega arith) (subst (λ (cs : List Cell). length cs < 4294967296) follow.cells flows.few_cells)

    Ends : Option Link → Type 0
    Ends o =
        run_code_with (λ op k a b. converting t.model op k a b) (graph_way (program_setting t order)) (tree_of t) (code_of (tree_of t) order) [] o inputs turns ≡ ending.Error kind at taken

    -- the code runs as the tree
    runs : Ends (link_of p.main (links_in t order))
    runs =
        subst (λ (main : Option ℕ). Ends (main_link main (code_of (tree_of t) order))) follow.main
        (runs_each_way (tree_of t) order typed stands (λ op k a b. converting t.model op k a b) (converting-agrees t.model) (graph_way (program_setting t order)) (graph-way-suits (program_setting t order) is-laid) [] inputs turns ∙ ap ending_of run)

    by_link : (o : Option Link) → link_of p.main (links_in t order) ≡ o → Ends o → FunctionsFail p (take taken inputs) kind at
    by_link None e ends = absurd cc
    by_link (Some l) e ends = errors-follow t order p [] inputs turns l kind at taken typed flows follow few e (opened l e) ends
