-- Sources with the rule that each breaks first. Each tree was read from the text above it.
use Rattle.std.specs.Prelude.{◌≡◌, ℕ, Bool, true, false, Some, None, codes}
use Rattle.std.proofs.Common.{refl}
use Rattle.lv_base.specs.declared.kind.Model.TheVariants.{Ilp32}
use Rattle.lv_base.specs.declared.fault.SourceFault.TheVariants as fault
use Rattle.c_lexer.specs.declared.token.NumberForm.{NumberForm}
use Rattle.c_tree.specs.declared.symbol.TypeWord.TheVariants as type
use Rattle.c_tree.specs.declared.symbol.StorageWord.TheVariants as storage
use Rattle.c_tree.specs.declared.symbol.ConstWord.TheVariants as cw
use Rattle.c_tree.specs.declared.symbol.BinaryOp.TheVariants as op
use Rattle.c_tree.specs.declared.symbol.AssignOp.TheVariants as to
use Rattle.c_tree.specs.declared.symbol.Crement.TheVariants as by
use Rattle.c_tree.specs.declared.tree.PrefixOp.TheVariants as pre
use Rattle.c_run.specs.Breaking.{first_broken}
use Rattle.c_meaning.specs.Good.{broken, Good}
use Rattle.c_tree.specs.Tree.{no_raw, no_attributes, eName, eNumber, eParen, eCall, eIndex, ePostfix, ePrefix, eSizeof, eCast, eBinary, eCond, eAssign, no_parts, parts_and, no_words, words_and, wType, wStorage, wConst, wTag, wEnum, wTagEnum, no_enumerators, plain_and, valued_and, named, no_params, params_and, pUnknown, pVoid, pSome, fPlain, fArray, fFunction, iNothing, iValue, iList, no_declarators, declarators_and, declares, head, sDeclaration, sBlock, sEmpty, sExpr, sIf, sSwitch, sCase, sDefault, sLabel, sGoto, sBreak, sReturn, no_statements, statements_and, bBlock, bSkipped, tFunction, tDeclaration, Items, no_items, items_and}

abbrev form : Bool → Bool → ℕ → NumberForm
form decimal unsigned longs = record { decimal = decimal; unsigned_suffix = unsigned; longs = longs }

--
abbrev pub no_main_source : Items
no_main_source = no_items

pub no_main : first_broken (broken no_main_source Ilp32) ≡ Some (record { fault = fault.NoMain; at = 0 })
no_main = refl

--   int main() { return y; }
abbrev pub unknown_name_source : Items
unknown_name_source = (items_and no_items (tFunction (words_and no_words (wType type.Int 0)) (named (codes "main") 4) (pUnknown 8 9) no_attributes (bBlock 11 (statements_and no_statements (sReturn 13 (Some (eName (codes "y") 20)) 21)) 23)))

pub unknown_name : first_broken (broken unknown_name_source Ilp32) ≡ Some (record { fault = fault.UnknownName; at = 20 })
unknown_name = refl

--   int main() { int x; char x; }
abbrev pub declared_twice_source : Items
declared_twice_source = (items_and no_items (tFunction (words_and no_words (wType type.Int 0)) (named (codes "main") 4) (pUnknown 8 9) no_attributes (bBlock 11 (statements_and (statements_and no_statements (sDeclaration (declares (words_and no_words (wType type.Int 13)) (declarators_and no_declarators None (named (codes "x") 17) fPlain no_attributes iNothing) 18))) (sDeclaration (declares (words_and no_words (wType type.Char 20)) (declarators_and no_declarators None (named (codes "x") 25) fPlain no_attributes iNothing) 26))) 28)))

pub declared_twice : first_broken (broken declared_twice_source Ilp32) ≡ Some (record { fault = fault.Redeclared; at = 25 })
declared_twice = refl

--   void f(void); int main() { f(); }
abbrev pub no_body_source : Items
no_body_source = (items_and (items_and no_items (tDeclaration (declares (words_and no_words (wType type.Void 0)) (declarators_and no_declarators None (named (codes "f") 5) (fFunction (pVoid 6 7 11)) no_attributes iNothing) 12))) (tFunction (words_and no_words (wType type.Int 14)) (named (codes "main") 18) (pUnknown 22 23) no_attributes (bBlock 25 (statements_and no_statements (sExpr (eCall (eName (codes "f") 27) 28 no_parts 29) 30)) 32)))

pub no_body : first_broken (broken no_body_source Ilp32) ≡ Some (record { fault = fault.WrongCall; at = 27 })
no_body = refl

--   int main() { int a[0]; }
abbrev pub length_zero_source : Items
length_zero_source = (items_and no_items (tFunction (words_and no_words (wType type.Int 0)) (named (codes "main") 4) (pUnknown 8 9) no_attributes (bBlock 11 (statements_and no_statements (sDeclaration (declares (words_and no_words (wType type.Int 13)) (declarators_and no_declarators None (named (codes "a") 17) (fArray 18 (Some (eNumber 0 (form false false 0) 19)) 20) no_attributes iNothing) 21))) 23)))

pub length_zero : first_broken (broken length_zero_source Ilp32) ≡ Some (record { fault = fault.NotConstant; at = 19 })
length_zero = refl

--   int main() { goto L; }
abbrev pub no_label_source : Items
no_label_source = (items_and no_items (tFunction (words_and no_words (wType type.Int 0)) (named (codes "main") 4) (pUnknown 8 9) no_attributes (bBlock 11 (statements_and no_statements (sGoto 13 (codes "L") 18 19)) 21)))

pub no_label : first_broken (broken no_label_source Ilp32) ≡ Some (record { fault = fault.Label; at = 18 })
no_label = refl

--   int main() { goto L; int x; L: ; }
abbrev pub into_scope_source : Items
into_scope_source = (items_and no_items (tFunction (words_and no_words (wType type.Int 0)) (named (codes "main") 4) (pUnknown 8 9) no_attributes (bBlock 11 (statements_and (statements_and (statements_and no_statements (sGoto 13 (codes "L") 18 19)) (sDeclaration (declares (words_and no_words (wType type.Int 21)) (declarators_and no_declarators None (named (codes "x") 25) fPlain no_attributes iNothing) 26))) (sLabel (codes "L") 28 29 no_attributes (sEmpty 31))) 33)))

pub into_scope : first_broken (broken into_scope_source Ilp32) ≡ Some (record { fault = fault.JumpIntoScope; at = 13 })
into_scope = refl

--   int main() { const int c = 1; c = 2; }
abbrev pub const_written_source : Items
const_written_source = (items_and no_items (tFunction (words_and no_words (wType type.Int 0)) (named (codes "main") 4) (pUnknown 8 9) no_attributes (bBlock 11 (statements_and (statements_and no_statements (sDeclaration (declares (words_and (words_and no_words (wConst cw.Const 13)) (wType type.Int 19)) (declarators_and no_declarators None (named (codes "c") 23) fPlain no_attributes (iValue 25 (eNumber 1 (form true false 0) 27))) 28))) (sExpr (eAssign (eName (codes "c") 30) to.Plain 32 (eNumber 2 (form true false 0) 34)) 35)) 37)))

pub const_written : first_broken (broken const_written_source Ilp32) ≡ Some (record { fault = fault.ConstWritten; at = 32 })
const_written = refl

--   int main() { break; }
abbrev pub break_alone_source : Items
break_alone_source = (items_and no_items (tFunction (words_and no_words (wType type.Int 0)) (named (codes "main") 4) (pUnknown 8 9) no_attributes (bBlock 11 (statements_and no_statements (sBreak 13 18)) 20)))

pub break_alone : first_broken (broken break_alone_source Ilp32) ≡ Some (record { fault = fault.BadJump; at = 13 })
break_alone = refl

--   extern void abort(void);
--   extern int __VERIFIER_nondet_int(void);
--   void reach_error() {}
--   int main() {
--     int x = 0;
--     x = x++;
--   }
abbrev pub unsequenced_source : Items
unsequenced_source = (items_and (items_and (items_and (items_and no_items (tDeclaration (declares (words_and (words_and no_words (wStorage storage.Extern 0)) (wType type.Void 7)) (declarators_and no_declarators None (named (codes "abort") 12) (fFunction (pVoid 17 18 22)) no_attributes iNothing) 23))) (tDeclaration (declares (words_and (words_and no_words (wStorage storage.Extern 25)) (wType type.Int 32)) (declarators_and no_declarators None (named (codes "__VERIFIER_nondet_int") 36) (fFunction (pVoid 57 58 62)) no_attributes iNothing) 63))) (tFunction (words_and no_words (wType type.Void 65)) (named (codes "reach_error") 70) (pUnknown 81 82) no_attributes (bSkipped 84 no_raw 85))) (tFunction (words_and no_words (wType type.Int 87)) (named (codes "main") 91) (pUnknown 95 96) no_attributes (bBlock 98 (statements_and (statements_and no_statements (sDeclaration (declares (words_and no_words (wType type.Int 102)) (declarators_and no_declarators None (named (codes "x") 106) fPlain no_attributes (iValue 108 (eNumber 0 (form false false 0) 110))) 111))) (sExpr (eAssign (eName (codes "x") 115) to.Plain 117 (ePostfix (eName (codes "x") 119) by.Increment 120)) 122)) 124)))

pub unsequenced : first_broken (broken unsequenced_source Ilp32) ≡ Some (record { fault = fault.Unsequenced; at = 117 })
unsequenced = refl

--   int f(int n) {
--     return f(n);
--   }
--   int main() {
--     return f(1);
--   }
abbrev pub recursion_source : Items
recursion_source = (items_and (items_and no_items (tFunction (words_and no_words (wType type.Int 0)) (named (codes "f") 4) (pSome 5 (params_and no_params None (words_and no_words (wType type.Int 6)) (Some (named (codes "n") 10))) 11) no_attributes (bBlock 13 (statements_and no_statements (sReturn 17 (Some (eCall (eName (codes "f") 24) 25 (parts_and no_parts None (eName (codes "n") 26)) 27)) 28)) 30))) (tFunction (words_and no_words (wType type.Int 32)) (named (codes "main") 36) (pUnknown 40 41) no_attributes (bBlock 43 (statements_and no_statements (sReturn 47 (Some (eCall (eName (codes "f") 54) 55 (parts_and no_parts None (eNumber 1 (form true false 0) 56)) 57)) 58)) 60)))

pub recursion : first_broken (broken recursion_source Ilp32) ≡ Some (record { fault = fault.Recursion; at = 24 })
recursion = refl

--   int main() { 1 = y; }
abbrev pub unknown_right_side_source : Items
unknown_right_side_source = (items_and no_items (tFunction (words_and no_words (wType type.Int 0)) (named (codes "main") 4) (pUnknown 8 9) no_attributes (bBlock 11 (statements_and no_statements (sExpr (eAssign (eNumber 1 (form true false 0) 13) to.Plain 15 (eName (codes "y") 17)) 18)) 20)))

pub unknown_right_side : first_broken (broken unknown_right_side_source Ilp32) ≡ Some (record { fault = fault.UnknownName; at = 17 })
unknown_right_side = refl

--   int main() { int y; 1 = y; }
abbrev pub number_assigned_source : Items
number_assigned_source = (items_and no_items (tFunction (words_and no_words (wType type.Int 0)) (named (codes "main") 4) (pUnknown 8 9) no_attributes (bBlock 11 (statements_and (statements_and no_statements (sDeclaration (declares (words_and no_words (wType type.Int 13)) (declarators_and no_declarators None (named (codes "y") 17) fPlain no_attributes iNothing) 18))) (sExpr (eAssign (eNumber 1 (form true false 0) 20) to.Plain 22 (eName (codes "y") 24)) 25)) 27)))

pub number_assigned : first_broken (broken number_assigned_source Ilp32) ≡ Some (record { fault = fault.NotScalar; at = 22 })
number_assigned = refl

--   int a[2]; int main() { return a + 1; }
abbrev pub array_as_value_source : Items
array_as_value_source = (items_and (items_and no_items (tDeclaration (declares (words_and no_words (wType type.Int 0)) (declarators_and no_declarators None (named (codes "a") 4) (fArray 5 (Some (eNumber 2 (form true false 0) 6)) 7) no_attributes iNothing) 8))) (tFunction (words_and no_words (wType type.Int 10)) (named (codes "main") 14) (pUnknown 18 19) no_attributes (bBlock 21 (statements_and no_statements (sReturn 23 (Some (eBinary (eName (codes "a") 30) op.Add 32 (eNumber 1 (form true false 0) 34))) 35)) 37)))

pub array_as_value : first_broken (broken array_as_value_source Ilp32) ≡ Some (record { fault = fault.NotScalar; at = 30 })
array_as_value = refl

--   int x; int main() { return x[0]; }
abbrev pub index_of_scalar_source : Items
index_of_scalar_source = (items_and (items_and no_items (tDeclaration (declares (words_and no_words (wType type.Int 0)) (declarators_and no_declarators None (named (codes "x") 4) fPlain no_attributes iNothing) 5))) (tFunction (words_and no_words (wType type.Int 7)) (named (codes "main") 11) (pUnknown 15 16) no_attributes (bBlock 18 (statements_and no_statements (sReturn 20 (Some (eIndex (eName (codes "x") 27) 28 (eNumber 0 (form false false 0) 29) 30)) 31)) 33)))

pub index_of_scalar : first_broken (broken index_of_scalar_source Ilp32) ≡ Some (record { fault = fault.NotScalar; at = 28 })
index_of_scalar = refl

--   int a[2] = {1, 2, 3}; int main() { }
abbrev pub too_many_values_source : Items
too_many_values_source = (items_and (items_and no_items (tDeclaration (declares (words_and no_words (wType type.Int 0)) (declarators_and no_declarators None (named (codes "a") 4) (fArray 5 (Some (eNumber 2 (form true false 0) 6)) 7) no_attributes (iList 9 11 (parts_and (parts_and (parts_and no_parts None (eNumber 1 (form true false 0) 12)) (Some 13) (eNumber 2 (form true false 0) 15)) (Some 16) (eNumber 3 (form true false 0) 18)) None 19)) 20))) (tFunction (words_and no_words (wType type.Int 22)) (named (codes "main") 26) (pUnknown 30 31) no_attributes (bBlock 33 no_statements 35)))

pub too_many_values : first_broken (broken too_many_values_source Ilp32) ≡ Some (record { fault = fault.NotScalar; at = 11 })
too_many_values = refl

--   void f(void) { } int main() { return 1 + f(); }
abbrev pub void_value_source : Items
void_value_source = (items_and (items_and no_items (tFunction (words_and no_words (wType type.Void 0)) (named (codes "f") 5) (pVoid 6 7 11) no_attributes (bBlock 13 no_statements 15))) (tFunction (words_and no_words (wType type.Int 17)) (named (codes "main") 21) (pUnknown 25 26) no_attributes (bBlock 28 (statements_and no_statements (sReturn 30 (Some (eBinary (eNumber 1 (form true false 0) 37) op.Add 39 (eCall (eName (codes "f") 41) 42 no_parts 43))) 44)) 46)))

pub void_value : first_broken (broken void_value_source Ilp32) ≡ Some (record { fault = fault.NotScalar; at = 41 })
void_value = refl

--   int f(void) { return 1; } int main() { (f)(); }
abbrev pub bracketed_call_source : Items
bracketed_call_source = (items_and (items_and no_items (tFunction (words_and no_words (wType type.Int 0)) (named (codes "f") 4) (pVoid 5 6 10) no_attributes (bBlock 12 (statements_and no_statements (sReturn 14 (Some (eNumber 1 (form true false 0) 21)) 22)) 24))) (tFunction (words_and no_words (wType type.Int 26)) (named (codes "main") 30) (pUnknown 34 35) no_attributes (bBlock 37 (statements_and no_statements (sExpr (eCall (eParen 39 (eName (codes "f") 40) 41) 42 no_parts 43) 44)) 46)))

pub bracketed_call : first_broken (broken bracketed_call_source Ilp32) ≡ Some (record { fault = fault.WrongCall; at = 42 })
bracketed_call = refl

--   int f(int a) { return a; } int main() { f(); }
abbrev pub arguments_source : Items
arguments_source = (items_and (items_and no_items (tFunction (words_and no_words (wType type.Int 0)) (named (codes "f") 4) (pSome 5 (params_and no_params None (words_and no_words (wType type.Int 6)) (Some (named (codes "a") 10))) 11) no_attributes (bBlock 13 (statements_and no_statements (sReturn 15 (Some (eName (codes "a") 22)) 23)) 25))) (tFunction (words_and no_words (wType type.Int 27)) (named (codes "main") 31) (pUnknown 35 36) no_attributes (bBlock 38 (statements_and no_statements (sExpr (eCall (eName (codes "f") 40) 41 no_parts 42) 43)) 45)))

pub arguments : first_broken (broken arguments_source Ilp32) ≡ Some (record { fault = fault.WrongCall; at = 40 })
arguments = refl

--   int x; int y = x; int main() { }
abbrev pub static_initial_not_constant_source : Items
static_initial_not_constant_source = (items_and (items_and (items_and no_items (tDeclaration (declares (words_and no_words (wType type.Int 0)) (declarators_and no_declarators None (named (codes "x") 4) fPlain no_attributes iNothing) 5))) (tDeclaration (declares (words_and no_words (wType type.Int 7)) (declarators_and no_declarators None (named (codes "y") 11) fPlain no_attributes (iValue 13 (eName (codes "x") 15))) 16))) (tFunction (words_and no_words (wType type.Int 18)) (named (codes "main") 22) (pUnknown 26 27) no_attributes (bBlock 29 no_statements 31)))

pub static_initial_not_constant : first_broken (broken static_initial_not_constant_source Ilp32) ≡ Some (record { fault = fault.NotConstant; at = 15 })
static_initial_not_constant = refl

--   int y = 1 / 0; int main() { }
abbrev pub static_initial_undefined_source : Items
static_initial_undefined_source = (items_and (items_and no_items (tDeclaration (declares (words_and no_words (wType type.Int 0)) (declarators_and no_declarators None (named (codes "y") 4) fPlain no_attributes (iValue 6 (eBinary (eNumber 1 (form true false 0) 8) op.Divide 10 (eNumber 0 (form false false 0) 12)))) 13))) (tFunction (words_and no_words (wType type.Int 15)) (named (codes "main") 19) (pUnknown 23 24) no_attributes (bBlock 26 no_statements 28)))

pub static_initial_undefined : first_broken (broken static_initial_undefined_source Ilp32) ≡ Some (record { fault = fault.NotConstant; at = 8 })
static_initial_undefined = refl

--   enum { A = 2147483647, B }; int main() { }
abbrev pub enumerator_range_source : Items
enumerator_range_source = (items_and (items_and no_items (tDeclaration (declares (words_and no_words (wEnum 0 5 (plain_and (valued_and no_enumerators None (codes "A") 7 9 (eNumber 2147483647 (form true false 0) 11)) (Some 21) (codes "B") 23) None 25)) no_declarators 26))) (tFunction (words_and no_words (wType type.Int 28)) (named (codes "main") 32) (pUnknown 36 37) no_attributes (bBlock 39 no_statements 41)))

pub enumerator_range : first_broken (broken enumerator_range_source Ilp32) ≡ Some (record { fault = fault.NotConstant; at = 23 })
enumerator_range = refl

--   int main() { L: ; L: ; }
abbrev pub label_twice_source : Items
label_twice_source = (items_and no_items (tFunction (words_and no_words (wType type.Int 0)) (named (codes "main") 4) (pUnknown 8 9) no_attributes (bBlock 11 (statements_and (statements_and no_statements (sLabel (codes "L") 13 14 no_attributes (sEmpty 16))) (sLabel (codes "L") 18 19 no_attributes (sEmpty 21))) 23)))

pub label_twice : first_broken (broken label_twice_source Ilp32) ≡ Some (record { fault = fault.Label; at = 18 })
label_twice = refl

--   int main() { switch (1) { int x; case 1: ; } }
abbrev pub case_into_scope_source : Items
case_into_scope_source = (items_and no_items (tFunction (words_and no_words (wType type.Int 0)) (named (codes "main") 4) (pUnknown 8 9) no_attributes (bBlock 11 (statements_and no_statements (sSwitch (head 13 20 (eNumber 1 (form true false 0) 21) 22) (sBlock 24 (statements_and (statements_and no_statements (sDeclaration (declares (words_and no_words (wType type.Int 26)) (declarators_and no_declarators None (named (codes "x") 30) fPlain no_attributes iNothing) 31))) (sCase 33 (eNumber 1 (form true false 0) 38) 39 (sEmpty 41))) 43))) 45)))

pub case_into_scope : first_broken (broken case_into_scope_source Ilp32) ≡ Some (record { fault = fault.JumpIntoScope; at = 33 })
case_into_scope = refl

--   int main() { switch (1) { case 1: ; case 1: ; } }
abbrev pub duplicate_case_source : Items
duplicate_case_source = (items_and no_items (tFunction (words_and no_words (wType type.Int 0)) (named (codes "main") 4) (pUnknown 8 9) no_attributes (bBlock 11 (statements_and no_statements (sSwitch (head 13 20 (eNumber 1 (form true false 0) 21) 22) (sBlock 24 (statements_and (statements_and no_statements (sCase 26 (eNumber 1 (form true false 0) 31) 32 (sEmpty 34))) (sCase 36 (eNumber 1 (form true false 0) 41) 42 (sEmpty 44))) 46))) 48)))

pub duplicate_case : first_broken (broken duplicate_case_source Ilp32) ≡ Some (record { fault = fault.DuplicateCase; at = 36 })
duplicate_case = refl

--   int main() { switch (1) { default: ; default: ; } }
abbrev pub duplicate_default_source : Items
duplicate_default_source = (items_and no_items (tFunction (words_and no_words (wType type.Int 0)) (named (codes "main") 4) (pUnknown 8 9) no_attributes (bBlock 11 (statements_and no_statements (sSwitch (head 13 20 (eNumber 1 (form true false 0) 21) 22) (sBlock 24 (statements_and (statements_and no_statements (sDefault 26 33 (sEmpty 35))) (sDefault 37 44 (sEmpty 46))) 48))) 50)))

pub duplicate_default : first_broken (broken duplicate_default_source Ilp32) ≡ Some (record { fault = fault.DuplicateCase; at = 37 })
duplicate_default = refl

--   int main() { case 1: ; }
abbrev pub case_outside_source : Items
case_outside_source = (items_and no_items (tFunction (words_and no_words (wType type.Int 0)) (named (codes "main") 4) (pUnknown 8 9) no_attributes (bBlock 11 (statements_and no_statements (sCase 13 (eNumber 1 (form true false 0) 18) 19 (sEmpty 21))) 23)))

pub case_outside : first_broken (broken case_outside_source Ilp32) ≡ Some (record { fault = fault.BadJump; at = 13 })
case_outside = refl

--   int f(void) { return; } int main() { }
abbrev pub return_without_source : Items
return_without_source = (items_and (items_and no_items (tFunction (words_and no_words (wType type.Int 0)) (named (codes "f") 4) (pVoid 5 6 10) no_attributes (bBlock 12 (statements_and no_statements (sReturn 14 None 20)) 22))) (tFunction (words_and no_words (wType type.Int 24)) (named (codes "main") 28) (pUnknown 32 33) no_attributes (bBlock 35 no_statements 37)))

pub return_without : first_broken (broken return_without_source Ilp32) ≡ Some (record { fault = fault.BadJump; at = 14 })
return_without = refl

--   void f(void) { return 1; } int main() { }
abbrev pub return_with_source : Items
return_with_source = (items_and (items_and no_items (tFunction (words_and no_words (wType type.Void 0)) (named (codes "f") 5) (pVoid 6 7 11) no_attributes (bBlock 13 (statements_and no_statements (sReturn 15 (Some (eNumber 1 (form true false 0) 22)) 23)) 25))) (tFunction (words_and no_words (wType type.Int 27)) (named (codes "main") 31) (pUnknown 35 36) no_attributes (bBlock 38 no_statements 40)))

pub return_with : first_broken (broken return_with_source Ilp32) ≡ Some (record { fault = fault.BadJump; at = 15 })
return_with = refl

--   char main() { }
abbrev pub main_result_source : Items
main_result_source = (items_and no_items (tFunction (words_and no_words (wType type.Char 0)) (named (codes "main") 5) (pUnknown 9 10) no_attributes (bBlock 12 no_statements 14)))

pub main_result : first_broken (broken main_result_source Ilp32) ≡ Some (record { fault = fault.NoMain; at = 5 })
main_result = refl

--   int main(int x) { }
abbrev pub main_parameters_source : Items
main_parameters_source = (items_and no_items (tFunction (words_and no_words (wType type.Int 0)) (named (codes "main") 4) (pSome 8 (params_and no_params None (words_and no_words (wType type.Int 9)) (Some (named (codes "x") 13))) 14) no_attributes (bBlock 16 no_statements 18)))

pub main_parameters : first_broken (broken main_parameters_source Ilp32) ≡ Some (record { fault = fault.NoMain; at = 4 })
main_parameters = refl

--   int f(int a, int b) { return a; } int main() { int i = 0; f(i, i++); }
abbrev pub arguments_clash_source : Items
arguments_clash_source = (items_and (items_and no_items (tFunction (words_and no_words (wType type.Int 0)) (named (codes "f") 4) (pSome 5 (params_and (params_and no_params None (words_and no_words (wType type.Int 6)) (Some (named (codes "a") 10))) (Some 11) (words_and no_words (wType type.Int 13)) (Some (named (codes "b") 17))) 18) no_attributes (bBlock 20 (statements_and no_statements (sReturn 22 (Some (eName (codes "a") 29)) 30)) 32))) (tFunction (words_and no_words (wType type.Int 34)) (named (codes "main") 38) (pUnknown 42 43) no_attributes (bBlock 45 (statements_and (statements_and no_statements (sDeclaration (declares (words_and no_words (wType type.Int 47)) (declarators_and no_declarators None (named (codes "i") 51) fPlain no_attributes (iValue 53 (eNumber 0 (form false false 0) 55))) 56))) (sExpr (eCall (eName (codes "f") 58) 59 (parts_and (parts_and no_parts None (eName (codes "i") 60)) (Some 61) (ePostfix (eName (codes "i") 63) by.Increment 64)) 66) 67)) 69)))

pub arguments_clash : first_broken (broken arguments_clash_source Ilp32) ≡ Some (record { fault = fault.Unsequenced; at = 59 })
arguments_clash = refl

--   int main() { int a[2] = {0}; a[a[0] = 1] = 2; }
abbrev pub own_index_source : Items
own_index_source = (items_and no_items (tFunction (words_and no_words (wType type.Int 0)) (named (codes "main") 4) (pUnknown 8 9) no_attributes (bBlock 11 (statements_and (statements_and no_statements (sDeclaration (declares (words_and no_words (wType type.Int 13)) (declarators_and no_declarators None (named (codes "a") 17) (fArray 18 (Some (eNumber 2 (form true false 0) 19)) 20) no_attributes (iList 22 24 (parts_and no_parts None (eNumber 0 (form false false 0) 25)) None 26)) 27))) (sExpr (eAssign (eIndex (eName (codes "a") 29) 30 (eAssign (eIndex (eName (codes "a") 31) 32 (eNumber 0 (form false false 0) 33) 34) to.Plain 36 (eNumber 1 (form true false 0) 38)) 39) to.Plain 41 (eNumber 2 (form true false 0) 43)) 44)) 46)))

pub own_index : first_broken (broken own_index_source Ilp32) ≡ Some (record { fault = fault.Unsequenced; at = 41 })
own_index = refl

--   int main() { int a[2] = {0}; return a[a[0] = 1]; }
abbrev pub read_index_source : Items
read_index_source = (items_and no_items (tFunction (words_and no_words (wType type.Int 0)) (named (codes "main") 4) (pUnknown 8 9) no_attributes (bBlock 11 (statements_and (statements_and no_statements (sDeclaration (declares (words_and no_words (wType type.Int 13)) (declarators_and no_declarators None (named (codes "a") 17) (fArray 18 (Some (eNumber 2 (form true false 0) 19)) 20) no_attributes (iList 22 24 (parts_and no_parts None (eNumber 0 (form false false 0) 25)) None 26)) 27))) (sReturn 29 (Some (eIndex (eName (codes "a") 36) 37 (eAssign (eIndex (eName (codes "a") 38) 39 (eNumber 0 (form false false 0) 40) 41) to.Plain 43 (eNumber 1 (form true false 0) 45)) 46)) 47)) 49)))

pub read_index : first_broken (broken read_index_source Ilp32) ≡ Some (record { fault = fault.Unsequenced; at = 37 })
read_index = refl

--   int abort(void); int main() { }
abbrev pub known_with_result_source : Items
known_with_result_source = (items_and (items_and no_items (tDeclaration (declares (words_and no_words (wType type.Int 0)) (declarators_and no_declarators None (named (codes "abort") 4) (fFunction (pVoid 9 10 14)) no_attributes iNothing) 15))) (tFunction (words_and no_words (wType type.Int 17)) (named (codes "main") 21) (pUnknown 25 26) no_attributes (bBlock 28 no_statements 30)))

pub known_with_result : first_broken (broken known_with_result_source Ilp32) ≡ Some (record { fault = fault.Redeclared; at = 4 })
known_with_result = refl

--   int x; unsigned x; int main() { }
abbrev pub disagreeing_source : Items
disagreeing_source = (items_and (items_and (items_and no_items (tDeclaration (declares (words_and no_words (wType type.Int 0)) (declarators_and no_declarators None (named (codes "x") 4) fPlain no_attributes iNothing) 5))) (tDeclaration (declares (words_and no_words (wType type.Unsigned 7)) (declarators_and no_declarators None (named (codes "x") 16) fPlain no_attributes iNothing) 17))) (tFunction (words_and no_words (wType type.Int 19)) (named (codes "main") 23) (pUnknown 27 28) no_attributes (bBlock 30 no_statements 32)))

pub disagreeing : first_broken (broken disagreeing_source Ilp32) ≡ Some (record { fault = fault.Redeclared; at = 16 })
disagreeing = refl

--   int f(int x) { int x; return x; } int main() { }
abbrev pub parameter_and_local_source : Items
parameter_and_local_source = (items_and (items_and no_items (tFunction (words_and no_words (wType type.Int 0)) (named (codes "f") 4) (pSome 5 (params_and no_params None (words_and no_words (wType type.Int 6)) (Some (named (codes "x") 10))) 11) no_attributes (bBlock 13 (statements_and (statements_and no_statements (sDeclaration (declares (words_and no_words (wType type.Int 15)) (declarators_and no_declarators None (named (codes "x") 19) fPlain no_attributes iNothing) 20))) (sReturn 22 (Some (eName (codes "x") 29)) 30)) 32))) (tFunction (words_and no_words (wType type.Int 34)) (named (codes "main") 38) (pUnknown 42 43) no_attributes (bBlock 45 no_statements 47)))

pub parameter_and_local : first_broken (broken parameter_and_local_source Ilp32) ≡ Some (record { fault = fault.Redeclared; at = 19 })
parameter_and_local = refl

--   enum { A = A }; int main() { }
abbrev pub enumerator_not_yet_source : Items
enumerator_not_yet_source = (items_and (items_and no_items (tDeclaration (declares (words_and no_words (wEnum 0 5 (valued_and no_enumerators None (codes "A") 7 9 (eName (codes "A") 11)) None 13)) no_declarators 14))) (tFunction (words_and no_words (wType type.Int 16)) (named (codes "main") 20) (pUnknown 24 25) no_attributes (bBlock 27 no_statements 29)))

pub enumerator_not_yet : first_broken (broken enumerator_not_yet_source Ilp32) ≡ Some (record { fault = fault.UnknownName; at = 11 })
enumerator_not_yet = refl

--   int g(int); int f(int n) { return g(n); } int g(int n) { return f(n); } int main() { return 0; }
abbrev pub mutual_recursion_source : Items
mutual_recursion_source = (items_and (items_and (items_and (items_and no_items (tDeclaration (declares (words_and no_words (wType type.Int 0)) (declarators_and no_declarators None (named (codes "g") 4) (fFunction (pSome 5 (params_and no_params None (words_and no_words (wType type.Int 6)) None) 9)) no_attributes iNothing) 10))) (tFunction (words_and no_words (wType type.Int 12)) (named (codes "f") 16) (pSome 17 (params_and no_params None (words_and no_words (wType type.Int 18)) (Some (named (codes "n") 22))) 23) no_attributes (bBlock 25 (statements_and no_statements (sReturn 27 (Some (eCall (eName (codes "g") 34) 35 (parts_and no_parts None (eName (codes "n") 36)) 37)) 38)) 40))) (tFunction (words_and no_words (wType type.Int 42)) (named (codes "g") 46) (pSome 47 (params_and no_params None (words_and no_words (wType type.Int 48)) (Some (named (codes "n") 52))) 53) no_attributes (bBlock 55 (statements_and no_statements (sReturn 57 (Some (eCall (eName (codes "f") 64) 65 (parts_and no_parts None (eName (codes "n") 66)) 67)) 68)) 70))) (tFunction (words_and no_words (wType type.Int 72)) (named (codes "main") 76) (pUnknown 80 81) no_attributes (bBlock 83 (statements_and no_statements (sReturn 85 (Some (eNumber 0 (form false false 0) 92)) 93)) 95)))

pub mutual_recursion : first_broken (broken mutual_recursion_source Ilp32) ≡ Some (record { fault = fault.Recursion; at = 34 })
mutual_recursion = refl

--   int x; int main() { int x = 1; { int x = x; } return x; }
abbrev pub good_hides_source : Items
good_hides_source = (items_and (items_and no_items (tDeclaration (declares (words_and no_words (wType type.Int 0)) (declarators_and no_declarators None (named (codes "x") 4) fPlain no_attributes iNothing) 5))) (tFunction (words_and no_words (wType type.Int 7)) (named (codes "main") 11) (pUnknown 15 16) no_attributes (bBlock 18 (statements_and (statements_and (statements_and no_statements (sDeclaration (declares (words_and no_words (wType type.Int 20)) (declarators_and no_declarators None (named (codes "x") 24) fPlain no_attributes (iValue 26 (eNumber 1 (form true false 0) 28))) 29))) (sBlock 31 (statements_and no_statements (sDeclaration (declares (words_and no_words (wType type.Int 33)) (declarators_and no_declarators None (named (codes "x") 37) fPlain no_attributes (iValue 39 (eName (codes "x") 41))) 42))) 44)) (sReturn 46 (Some (eName (codes "x") 53)) 54)) 56)))

pub good_hides : Good good_hides_source Ilp32
good_hides = refl

--   int f(int); int f(int n); int f(int m) { return m; } int x; int x; int x = 2; int main() { return f(x); }
abbrev pub good_prototypes_source : Items
good_prototypes_source = (items_and (items_and (items_and (items_and (items_and (items_and (items_and no_items (tDeclaration (declares (words_and no_words (wType type.Int 0)) (declarators_and no_declarators None (named (codes "f") 4) (fFunction (pSome 5 (params_and no_params None (words_and no_words (wType type.Int 6)) None) 9)) no_attributes iNothing) 10))) (tDeclaration (declares (words_and no_words (wType type.Int 12)) (declarators_and no_declarators None (named (codes "f") 16) (fFunction (pSome 17 (params_and no_params None (words_and no_words (wType type.Int 18)) (Some (named (codes "n") 22))) 23)) no_attributes iNothing) 24))) (tFunction (words_and no_words (wType type.Int 26)) (named (codes "f") 30) (pSome 31 (params_and no_params None (words_and no_words (wType type.Int 32)) (Some (named (codes "m") 36))) 37) no_attributes (bBlock 39 (statements_and no_statements (sReturn 41 (Some (eName (codes "m") 48)) 49)) 51))) (tDeclaration (declares (words_and no_words (wType type.Int 53)) (declarators_and no_declarators None (named (codes "x") 57) fPlain no_attributes iNothing) 58))) (tDeclaration (declares (words_and no_words (wType type.Int 60)) (declarators_and no_declarators None (named (codes "x") 64) fPlain no_attributes iNothing) 65))) (tDeclaration (declares (words_and no_words (wType type.Int 67)) (declarators_and no_declarators None (named (codes "x") 71) fPlain no_attributes (iValue 73 (eNumber 2 (form true false 0) 75))) 76))) (tFunction (words_and no_words (wType type.Int 78)) (named (codes "main") 82) (pUnknown 86 87) no_attributes (bBlock 89 (statements_and no_statements (sReturn 91 (Some (eCall (eName (codes "f") 98) 99 (parts_and no_parts None (eName (codes "x") 100)) 101)) 102)) 104)))

pub good_prototypes : Good good_prototypes_source Ilp32
good_prototypes = refl

--   int main() { int i = 0; return sizeof(i = i++) == 4; }
abbrev pub good_sizeof_of_unsequenced_source : Items
good_sizeof_of_unsequenced_source = (items_and no_items (tFunction (words_and no_words (wType type.Int 0)) (named (codes "main") 4) (pUnknown 8 9) no_attributes (bBlock 11 (statements_and (statements_and no_statements (sDeclaration (declares (words_and no_words (wType type.Int 13)) (declarators_and no_declarators None (named (codes "i") 17) fPlain no_attributes (iValue 19 (eNumber 0 (form false false 0) 21))) 22))) (sReturn 24 (Some (eBinary (ePrefix pre.Sizeof 31 (eParen 37 (eAssign (eName (codes "i") 38) to.Plain 40 (ePostfix (eName (codes "i") 42) by.Increment 43)) 45)) op.Equal 47 (eNumber 4 (form true false 0) 50))) 51)) 53)))

pub good_sizeof_of_unsequenced : Good good_sizeof_of_unsequenced_source Ilp32
good_sizeof_of_unsequenced = refl

--   int main() { if (sizeof(enum { A })) (void)(enum { A })A; }
abbrev pub good_scopes_of_parts_source : Items
good_scopes_of_parts_source = (items_and no_items (tFunction (words_and no_words (wType type.Int 0)) (named (codes "main") 4) (pUnknown 8 9) no_attributes (bBlock 11 (statements_and no_statements (sIf (head 13 16 (eSizeof 17 23 (words_and no_words (wEnum 24 29 (plain_and no_enumerators None (codes "A") 31) None 33)) 34) 35) (sExpr (eCast 37 (words_and no_words (wType type.Void 38)) 42 (eCast 43 (words_and no_words (wEnum 44 49 (plain_and no_enumerators None (codes "A") 51) None 53)) 54 (eName (codes "A") 55))) 56))) 58)))

pub good_scopes_of_parts : Good good_scopes_of_parts_source Ilp32
good_scopes_of_parts = refl

--   enum x { B }; int x; int main() { enum x e = B; x = e; return x; }
abbrev pub good_tag_and_name_source : Items
good_tag_and_name_source = (items_and (items_and (items_and no_items (tDeclaration (declares (words_and no_words (wTagEnum 0 (codes "x") 5 7 (plain_and no_enumerators None (codes "B") 9) None 11)) no_declarators 12))) (tDeclaration (declares (words_and no_words (wType type.Int 14)) (declarators_and no_declarators None (named (codes "x") 18) fPlain no_attributes iNothing) 19))) (tFunction (words_and no_words (wType type.Int 21)) (named (codes "main") 25) (pUnknown 29 30) no_attributes (bBlock 32 (statements_and (statements_and (statements_and no_statements (sDeclaration (declares (words_and no_words (wTag 34 (codes "x") 39)) (declarators_and no_declarators None (named (codes "e") 41) fPlain no_attributes (iValue 43 (eName (codes "B") 45))) 46))) (sExpr (eAssign (eName (codes "x") 48) to.Plain 50 (eName (codes "e") 52)) 53)) (sReturn 55 (Some (eName (codes "x") 62)) 63)) 65)))

pub good_tag_and_name : Good good_tag_and_name_source Ilp32
good_tag_and_name = refl

--   int main() { int i = 0; L: i++; int j = i; if (j < 3) goto L; return j; }
abbrev pub good_goto_back_source : Items
good_goto_back_source = (items_and no_items (tFunction (words_and no_words (wType type.Int 0)) (named (codes "main") 4) (pUnknown 8 9) no_attributes (bBlock 11 (statements_and (statements_and (statements_and (statements_and (statements_and no_statements (sDeclaration (declares (words_and no_words (wType type.Int 13)) (declarators_and no_declarators None (named (codes "i") 17) fPlain no_attributes (iValue 19 (eNumber 0 (form false false 0) 21))) 22))) (sLabel (codes "L") 24 25 no_attributes (sExpr (ePostfix (eName (codes "i") 27) by.Increment 28) 30))) (sDeclaration (declares (words_and no_words (wType type.Int 32)) (declarators_and no_declarators None (named (codes "j") 36) fPlain no_attributes (iValue 38 (eName (codes "i") 40))) 41))) (sIf (head 43 46 (eBinary (eName (codes "j") 47) op.Less 49 (eNumber 3 (form true false 0) 51)) 52) (sGoto 54 (codes "L") 59 60))) (sReturn 62 (Some (eName (codes "j") 69)) 70)) 72)))

pub good_goto_back : Good good_goto_back_source Ilp32
good_goto_back = refl

--   void f(void) { } int main() { 1 ? f() : (void)0; }
abbrev pub good_void_arms_source : Items
good_void_arms_source = (items_and (items_and no_items (tFunction (words_and no_words (wType type.Void 0)) (named (codes "f") 5) (pVoid 6 7 11) no_attributes (bBlock 13 no_statements 15))) (tFunction (words_and no_words (wType type.Int 17)) (named (codes "main") 21) (pUnknown 25 26) no_attributes (bBlock 28 (statements_and no_statements (sExpr (eCond (eNumber 1 (form true false 0) 30) 32 (eCall (eName (codes "f") 34) 35 no_parts 36) 38 (eCast 40 (words_and no_words (wType type.Void 41)) 45 (eNumber 0 (form false false 0) 46))) 47)) 49)))

pub good_void_arms : Good good_void_arms_source Ilp32
good_void_arms = refl

--   int f(void) { return sizeof f(); } int main() { return f(); }
abbrev pub good_call_in_sizeof_source : Items
good_call_in_sizeof_source = (items_and (items_and no_items (tFunction (words_and no_words (wType type.Int 0)) (named (codes "f") 4) (pVoid 5 6 10) no_attributes (bBlock 12 (statements_and no_statements (sReturn 14 (Some (ePrefix pre.Sizeof 21 (eCall (eName (codes "f") 28) 29 no_parts 30))) 31)) 33))) (tFunction (words_and no_words (wType type.Int 35)) (named (codes "main") 39) (pUnknown 43 44) no_attributes (bBlock 46 (statements_and no_statements (sReturn 48 (Some (eCall (eName (codes "f") 55) 56 no_parts 57)) 58)) 60)))

pub good_call_in_sizeof : Good good_call_in_sizeof_source Ilp32
good_call_in_sizeof = refl

--   void main() { } int main() { }
abbrev pub two_mains_source : Items
two_mains_source = (items_and (items_and no_items (tFunction (words_and no_words (wType type.Void 0)) (named (codes "main") 5) (pUnknown 9 10) no_attributes (bBlock 12 no_statements 14))) (tFunction (words_and no_words (wType type.Int 16)) (named (codes "main") 20) (pUnknown 24 25) no_attributes (bBlock 27 no_statements 29)))

pub two_mains : first_broken (broken two_mains_source Ilp32) ≡ Some (record { fault = fault.NoMain; at = 5 })
two_mains = refl

--   int main() { enum { B }; int a[sizeof(enum { B }) - 4]; }
abbrev pub declared_again_inside_source : Items
declared_again_inside_source = (items_and no_items (tFunction (words_and no_words (wType type.Int 0)) (named (codes "main") 4) (pUnknown 8 9) no_attributes (bBlock 11 (statements_and (statements_and no_statements (sDeclaration (declares (words_and no_words (wEnum 13 18 (plain_and no_enumerators None (codes "B") 20) None 22)) no_declarators 23))) (sDeclaration (declares (words_and no_words (wType type.Int 25)) (declarators_and no_declarators None (named (codes "a") 29) (fArray 30 (Some (eBinary (eSizeof 31 37 (words_and no_words (wEnum 38 43 (plain_and no_enumerators None (codes "B") 45) None 47)) 48) op.Subtract 50 (eNumber 4 (form true false 0) 52))) 53) no_attributes iNothing) 54))) 56)))

pub declared_again_inside : first_broken (broken declared_again_inside_source Ilp32) ≡ Some (record { fault = fault.Redeclared; at = 45 })
declared_again_inside = refl
