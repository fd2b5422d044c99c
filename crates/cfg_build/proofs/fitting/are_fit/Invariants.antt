use Rattle.std.specs.Prelude.{map}
use Rattle.lv_base.specs.declared.kind.Model.{Model}
use Rattle.c_typed.specs.View.{object_of}
use Rattle.cfg_build.specs.Fitting.{IsFit}
use Rattle.cfg_build.proofs.Entering.{AllBelow}
use Rattle.cfg_build.proofs.fitting.are_fit.Given as goal

-- the instructions so far
abbrev pub invariant-loop-place : goal.invariant-loop-place
invariant-loop-place l = (model : Model) → AllBelow (λ x. IsFit model (map object_of l.objects) x) l.code l.place
