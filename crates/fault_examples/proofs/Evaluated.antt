-- Each source is evaluated by the definitions.
use Rattle.std.proofs.Common.{◌≡◌, Some, refl}
use Rattle.lv_base.specs.declared.kind.Model.TheVariants.{Ilp32}
use Rattle.lv_base.specs.declared.fault.SourceFault.TheVariants as fault
use Rattle.c_run.specs.Breaking.{first_broken}
use Rattle.c_meaning.specs.Good.{broken}
use Rattle.fault_examples.specs.Rows.{no_main_source, unknown_name_source, declared_twice_source, no_body_source, length_zero_source, no_label_source, into_scope_source, const_written_source, break_alone_source, unsequenced_source, recursion_source}

pub no_main : first_broken (broken no_main_source Ilp32) ≡ Some (record { fault = fault.NoMain; at = 0 })
no_main = refl

pub unknown_name : first_broken (broken unknown_name_source Ilp32) ≡ Some (record { fault = fault.UnknownName; at = 20 })
unknown_name = refl

pub declared_twice : first_broken (broken declared_twice_source Ilp32) ≡ Some (record { fault = fault.Redeclared; at = 25 })
declared_twice = refl

pub no_body : first_broken (broken no_body_source Ilp32) ≡ Some (record { fault = fault.WrongCall; at = 27 })
no_body = refl

pub length_zero : first_broken (broken length_zero_source Ilp32) ≡ Some (record { fault = fault.NotConstant; at = 19 })
length_zero = refl

pub no_label : first_broken (broken no_label_source Ilp32) ≡ Some (record { fault = fault.Label; at = 18 })
no_label = refl

pub into_scope : first_broken (broken into_scope_source Ilp32) ≡ Some (record { fault = fault.JumpIntoScope; at = 13 })
into_scope = refl

pub const_written : first_broken (broken const_written_source Ilp32) ≡ Some (record { fault = fault.ConstWritten; at = 32 })
const_written = refl

pub break_alone : first_broken (broken break_alone_source Ilp32) ≡ Some (record { fault = fault.BadJump; at = 13 })
break_alone = refl

pub unsequenced : first_broken (broken unsequenced_source Ilp32) ≡ Some (record { fault = fault.Unsequenced; at = 117 })
unsequenced = refl

pub recursion : first_broken (broken recursion_source Ilp32) ≡ Some (record { fault = fault.Recursion; at = 24 })
recursion = refl
