-- Small sources, and the rule that each breaks first. Each tree stands below its text, whose tokens' offsets it has.
use Rattle.std.specs.Prelude.{◌≡◌, ℕ, Bool, true, false, Some, None, codes}
use Rattle.lv_base.specs.declared.kind.Model.TheVariants.{Ilp32}
use Rattle.lv_base.specs.declared.fault.SourceFault.TheVariants as fault
use Rattle.c_lexer.specs.declared.token.NumberForm.{NumberForm}
use Rattle.c_tree.specs.declared.symbol.TypeWord.TheVariants as type
use Rattle.c_tree.specs.declared.symbol.StorageWord.TheVariants as storage
use Rattle.c_tree.specs.declared.symbol.ConstWord.TheVariants as cw
use Rattle.c_tree.specs.declared.symbol.AssignOp.TheVariants as to
use Rattle.c_tree.specs.declared.symbol.Crement.TheVariants as by
use Rattle.c_run.specs.Breaking.{first_broken}
use Rattle.c_meaning.specs.Good.{broken}
use Rattle.c_tree.specs.Tree.{no_raw, no_attributes, eName, eNumber, eCall, ePostfix, eAssign, no_parts, parts_and, no_words, words_and, wType, wStorage, wConst, named, no_params, params_and, pUnknown, pVoid, pSome, fPlain, fArray, fFunction, iNothing, iValue, no_declarators, declarators_and, declares, sDeclaration, sEmpty, sExpr, sLabel, sGoto, sBreak, sReturn, no_statements, statements_and, bBlock, bSkipped, tFunction, tDeclaration, Items, no_items, items_and}

abbrev pub form : Bool → Bool → ℕ → NumberForm
form decimal unsigned longs = record { decimal = decimal; unsigned_suffix = unsigned; longs = longs }

--   the empty source
abbrev pub no_main_source : Items
no_main_source = no_items

--   int main() { return y; }
abbrev pub unknown_name_source : Items
unknown_name_source = (items_and no_items (tFunction (words_and no_words (wType type.Int 0)) (named (codes "main") 4) (pUnknown 8 9) no_attributes (bBlock 11 (statements_and no_statements (sReturn 13 (Some (eName (codes "y") 20)) 21)) 23)))

--   int main() { int x; char x; }
abbrev pub declared_twice_source : Items
declared_twice_source = (items_and no_items (tFunction (words_and no_words (wType type.Int 0)) (named (codes "main") 4) (pUnknown 8 9) no_attributes (bBlock 11 (statements_and (statements_and no_statements (sDeclaration (declares (words_and no_words (wType type.Int 13)) (declarators_and no_declarators None (named (codes "x") 17) fPlain no_attributes iNothing) 18))) (sDeclaration (declares (words_and no_words (wType type.Char 20)) (declarators_and no_declarators None (named (codes "x") 25) fPlain no_attributes iNothing) 26))) 28)))

--   void f(void); int main() { f(); }
abbrev pub no_body_source : Items
no_body_source = (items_and (items_and no_items (tDeclaration (declares (words_and no_words (wType type.Void 0)) (declarators_and no_declarators None (named (codes "f") 5) (fFunction (pVoid 6 7 11)) no_attributes iNothing) 12))) (tFunction (words_and no_words (wType type.Int 14)) (named (codes "main") 18) (pUnknown 22 23) no_attributes (bBlock 25 (statements_and no_statements (sExpr (eCall (eName (codes "f") 27) 28 no_parts 29) 30)) 32)))

--   int main() { int a[0]; }
abbrev pub length_zero_source : Items
length_zero_source = (items_and no_items (tFunction (words_and no_words (wType type.Int 0)) (named (codes "main") 4) (pUnknown 8 9) no_attributes (bBlock 11 (statements_and no_statements (sDeclaration (declares (words_and no_words (wType type.Int 13)) (declarators_and no_declarators None (named (codes "a") 17) (fArray 18 (Some (eNumber 0 (form false false 0) 19)) 20) no_attributes iNothing) 21))) 23)))

--   int main() { goto L; }
abbrev pub no_label_source : Items
no_label_source = (items_and no_items (tFunction (words_and no_words (wType type.Int 0)) (named (codes "main") 4) (pUnknown 8 9) no_attributes (bBlock 11 (statements_and no_statements (sGoto 13 (codes "L") 18 19)) 21)))

--   int main() { goto L; int x; L: ; }
abbrev pub into_scope_source : Items
into_scope_source = (items_and no_items (tFunction (words_and no_words (wType type.Int 0)) (named (codes "main") 4) (pUnknown 8 9) no_attributes (bBlock 11 (statements_and (statements_and (statements_and no_statements (sGoto 13 (codes "L") 18 19)) (sDeclaration (declares (words_and no_words (wType type.Int 21)) (declarators_and no_declarators None (named (codes "x") 25) fPlain no_attributes iNothing) 26))) (sLabel (codes "L") 28 29 no_attributes (sEmpty 31))) 33)))

--   int main() { const int c = 1; c = 2; }
abbrev pub const_written_source : Items
const_written_source = (items_and no_items (tFunction (words_and no_words (wType type.Int 0)) (named (codes "main") 4) (pUnknown 8 9) no_attributes (bBlock 11 (statements_and (statements_and no_statements (sDeclaration (declares (words_and (words_and no_words (wConst cw.Const 13)) (wType type.Int 19)) (declarators_and no_declarators None (named (codes "c") 23) fPlain no_attributes (iValue 25 (eNumber 1 (form true false 0) 27))) 28))) (sExpr (eAssign (eName (codes "c") 30) to.Plain 32 (eNumber 2 (form true false 0) 34)) 35)) 37)))

--   int main() { break; }
abbrev pub break_alone_source : Items
break_alone_source = (items_and no_items (tFunction (words_and no_words (wType type.Int 0)) (named (codes "main") 4) (pUnknown 8 9) no_attributes (bBlock 11 (statements_and no_statements (sBreak 13 18)) 20)))

--   extern void abort(void);
--   extern int __VERIFIER_nondet_int(void);
--   void reach_error() {}
--   int main() {
--     int x = 0;
--     x = x++;
--   }
abbrev pub unsequenced_source : Items
unsequenced_source = (items_and (items_and (items_and (items_and no_items (tDeclaration (declares (words_and (words_and no_words (wStorage storage.Extern 0)) (wType type.Void 7)) (declarators_and no_declarators None (named (codes "abort") 12) (fFunction (pVoid 17 18 22)) no_attributes iNothing) 23))) (tDeclaration (declares (words_and (words_and no_words (wStorage storage.Extern 25)) (wType type.Int 32)) (declarators_and no_declarators None (named (codes "__VERIFIER_nondet_int") 36) (fFunction (pVoid 57 58 62)) no_attributes iNothing) 63))) (tFunction (words_and no_words (wType type.Void 65)) (named (codes "reach_error") 70) (pUnknown 81 82) no_attributes (bSkipped 84 no_raw 85))) (tFunction (words_and no_words (wType type.Int 87)) (named (codes "main") 91) (pUnknown 95 96) no_attributes (bBlock 98 (statements_and (statements_and no_statements (sDeclaration (declares (words_and no_words (wType type.Int 102)) (declarators_and no_declarators None (named (codes "x") 106) fPlain no_attributes (iValue 108 (eNumber 0 (form false false 0) 110))) 111))) (sExpr (eAssign (eName (codes "x") 115) to.Plain 117 (ePostfix (eName (codes "x") 119) by.Increment 120)) 122)) 124)))

--   int f(int n) {
--     return f(n);
--   }
--   int main() {
--     return f(1);
--   }
abbrev pub recursion_source : Items
recursion_source = (items_and (items_and no_items (tFunction (words_and no_words (wType type.Int 0)) (named (codes "f") 4) (pSome 5 (params_and no_params None (words_and no_words (wType type.Int 6)) (Some (named (codes "n") 10))) 11) no_attributes (bBlock 13 (statements_and no_statements (sReturn 17 (Some (eCall (eName (codes "f") 24) 25 (parts_and no_parts None (eName (codes "n") 26)) 27)) 28)) 30))) (tFunction (words_and no_words (wType type.Int 32)) (named (codes "main") 36) (pUnknown 40 41) no_attributes (bBlock 43 (statements_and no_statements (sReturn 47 (Some (eCall (eName (codes "f") 54) 55 (parts_and no_parts None (eNumber 1 (form true false 0) 56)) 57)) 58)) 60)))

-- each of them, under the model of 32 bits
pub record BrokenLines : Type 0 where
  pub no_main : first_broken (broken no_main_source Ilp32) ≡ Some (record { fault = fault.NoMain; at = 0 })
  pub unknown_name : first_broken (broken unknown_name_source Ilp32) ≡ Some (record { fault = fault.UnknownName; at = 20 })
  pub declared_twice : first_broken (broken declared_twice_source Ilp32) ≡ Some (record { fault = fault.Redeclared; at = 25 })
  pub no_body : first_broken (broken no_body_source Ilp32) ≡ Some (record { fault = fault.WrongCall; at = 27 })
  pub length_zero : first_broken (broken length_zero_source Ilp32) ≡ Some (record { fault = fault.NotConstant; at = 19 })
  pub no_label : first_broken (broken no_label_source Ilp32) ≡ Some (record { fault = fault.Label; at = 18 })
  pub into_scope : first_broken (broken into_scope_source Ilp32) ≡ Some (record { fault = fault.JumpIntoScope; at = 13 })
  pub const_written : first_broken (broken const_written_source Ilp32) ≡ Some (record { fault = fault.ConstWritten; at = 32 })
  pub break_alone : first_broken (broken break_alone_source Ilp32) ≡ Some (record { fault = fault.BadJump; at = 13 })
  pub unsequenced : first_broken (broken unsequenced_source Ilp32) ≡ Some (record { fault = fault.Unsequenced; at = 117 })
  pub recursion : first_broken (broken recursion_source Ilp32) ≡ Some (record { fault = fault.Recursion; at = 24 })
