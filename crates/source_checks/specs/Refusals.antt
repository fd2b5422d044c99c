-- For what a source is refused.
use Rattle.std.specs.Prelude.{Option, None, Some}
use Rattle.lv_base.specs.declared.kind.Model.{Model}
use Rattle.lv_base.specs.declared.fail.SourceFail.{SourceFail}
use Rattle.lv_base.specs.declared.fail.SourceFail.TheVariants as fail
use Rattle.c_tree.specs.Tree.{Items}
use Rattle.c_run.specs.Breaking.{Broken, first_broken}
use Rattle.c_meaning.specs.Jumps.{control_faults}
use Rattle.c_meaning.specs.Program.{functions_of, env_of}
use Rattle.source_refusals.specs.Refusals.{refusal}

abbrev pub fault_of : Option Broken → Option SourceFail
fault_of None = None
fault_of (Some b) = Some (fail.Fault b.fault b.at)

-- the first rule of labels, jumps, effects, calls on cycles and misplaced jumps
abbrev pub control_refusal : Items → Model → Option SourceFail
control_refusal items model = fault_of (first_broken (control_faults (env_of items model) (functions_of (env_of items model) items)))

abbrev pub or_else : Option SourceFail → Option SourceFail → Option SourceFail
or_else None other = other
or_else (Some f) other = Some f

-- these rules are tried where nothing else refuses the source
abbrev pub source_refusal : Items → Model → Option SourceFail
source_refusal items model = or_else (refusal items model) (control_refusal items model)
