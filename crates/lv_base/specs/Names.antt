-- The names and numbers by which the program's lines and files speak of errors, faults and models.
use Rattle.std.specs.Prelude.{ℕ, List, codes}
use Rattle.lv_base.specs.declared.kind.Model.{Model}
use Rattle.lv_base.specs.declared.kind.Model.TheVariants.{Ilp32, Lp64}
use Rattle.lv_base.specs.declared.fault.ErrorKind.{ErrorKind}
use Rattle.lv_base.specs.declared.fault.ErrorKind.TheVariants.{Reach, Overflow, Zero, Shift, Index, Missing}
use Rattle.lv_base.specs.declared.fault.SourceFault.{SourceFault}
use Rattle.lv_base.specs.declared.fault.SourceFault.TheVariants.{BadByte, Unclosed, Directive, BadNumber, Syntax, UnknownName, Redeclared, NotScalar, WrongCall, NotConstant, Label, JumpIntoScope, Unsequenced, Recursion, NoMain, Unsupported, ConstWritten, DuplicateCase, BadJump}

abbrev pub model_name : Model → List ℕ
model_name Ilp32 = codes "ilp32"
model_name Lp64 = codes "lp64"

abbrev pub error_name : ErrorKind → List ℕ
error_name Reach = codes "reach"
error_name Overflow = codes "overflow"
error_name Zero = codes "zero"
error_name Shift = codes "shift"
error_name Index = codes "index"
error_name Missing = codes "missing"

abbrev pub fault_number : SourceFault → ℕ
fault_number BadByte = 1
fault_number Unclosed = 2
fault_number Directive = 3
fault_number BadNumber = 4
fault_number Syntax = 5
fault_number UnknownName = 6
fault_number Redeclared = 7
fault_number NotScalar = 8
fault_number WrongCall = 9
fault_number NotConstant = 10
fault_number Label = 11
fault_number JumpIntoScope = 12
fault_number Unsequenced = 13
fault_number Recursion = 14
fault_number NoMain = 15
fault_number Unsupported = 16
fault_number ConstWritten = 17
fault_number DuplicateCase = 18
fault_number BadJump = 19

abbrev pub fault_name : SourceFault → List ℕ
fault_name BadByte = codes "BadByte"
fault_name Unclosed = codes "Unclosed"
fault_name Directive = codes "Directive"
fault_name BadNumber = codes "BadNumber"
fault_name Syntax = codes "Syntax"
fault_name UnknownName = codes "UnknownName"
fault_name Redeclared = codes "Redeclared"
fault_name NotScalar = codes "NotScalar"
fault_name WrongCall = codes "WrongCall"
fault_name NotConstant = codes "NotConstant"
fault_name Label = codes "Label"
fault_name JumpIntoScope = codes "JumpIntoScope"
fault_name Unsequenced = codes "Unsequenced"
fault_name Recursion = codes "Recursion"
fault_name NoMain = codes "NoMain"
fault_name Unsupported = codes "Unsupported"
fault_name ConstWritten = codes "ConstWritten"
fault_name DuplicateCase = codes "DuplicateCase"
fault_name BadJump = codes "BadJump"
