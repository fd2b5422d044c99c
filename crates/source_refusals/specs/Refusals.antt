-- For what a source is refused: the first, by offset, of the rules of names, types, calls, constants and cases that it breaks,
-- and of the limit on cells.
use Rattle.std.specs.Prelude.{nat_le, if◌then◌else◌, List, map, Option, None, Some}
use Rattle.lv_base.specs.declared.kind.Model.{Model}
use Rattle.lv_base.specs.declared.fail.SourceFail.{SourceFail}
use Rattle.lv_base.specs.declared.fail.SourceFail.TheVariants as fail
use Rattle.c_tree.specs.Tree.{Items}
use Rattle.c_run.specs.Breaking.{Broken, first_broken}
use Rattle.c_meaning.specs.Bindings.{Env}
use Rattle.c_meaning.specs.Program.{functions_of, env_of}
use Rattle.c_meaning.specs.Rules.{typing_faults}
use Rattle.source_refusals.specs.declared.cells.Passed.{Passed}
use Rattle.source_refusals.specs.Cells.{passed}

-- A rule that is broken at the name of the object that passes the limit, or before it, goes before the limit.
abbrev pub refused : Option Broken → Option Passed → Option SourceFail
refused None None = None
refused None (Some p) = Some (fail.Over 4 p.count)
refused (Some b) None = Some (fail.Fault b.fault b.at)
refused (Some b) (Some p) = if nat_le b.at p.at then Some (fail.Fault b.fault b.at) else Some (fail.Over 4 p.count)

-- the rules that are broken where the names stand for this
abbrev pub faults_in : Env → Model → Items → List Broken
faults_in env model items = typing_faults env model (map (λ f. f.name) (functions_of env items)) items

abbrev pub refusal_in : Env → Model → Items → Option SourceFail
refusal_in env model items = refused (first_broken (faults_in env model items)) (passed 0 env.objects)

-- for what the source is refused; none where it is typed
abbrev pub refusal : Items → Model → Option SourceFail
refusal items model = refusal_in (env_of items model) model items
