-- Why a typed tree is refused.
use Rattle.std.specs.Prelude.{◌≡◌, Some}
use Rattle.lv_base.specs.declared.fail.SourceFail.{SourceFail}
use Rattle.lv_base.specs.declared.fail.SourceFail.TheVariants.{Fault, Over, Memory}
use Rattle.c_run.specs.Breaking.{first_broken}
use Rattle.c_typed.specs.Tree.{Program}
use Rattle.c_typed.specs.Rules.{broken}

-- a fault is the first rule that is broken, by offset and then by number; no limit is passed; want of memory is free
abbrev pub IsRefused : Program → SourceFail → Type 0
IsRefused program (Fault f at) = first_broken (broken program) ≡ Some (record { fault = f; at = at })
IsRefused program (Over limit count) = ⊥
IsRefused program Memory = Unit {0}
