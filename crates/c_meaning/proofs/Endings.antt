-- Sources with the endings of their runs. Each tree was read from the text above it.
use Rattle.std.specs.Prelude.{◌≡◌, ℕ, Bool, true, false, [], ◌∷◌, Some, None, codes, pos}
use Rattle.std.proofs.Common.{refl}
use Rattle.lv_base.specs.declared.kind.Model.TheVariants.{Ilp32, Lp64}
use Rattle.lv_base.specs.declared.fault.ErrorKind.TheVariants as error
use Rattle.c_lexer.specs.declared.token.NumberForm.{NumberForm}
use Rattle.c_tree.specs.declared.symbol.TypeWord.TheVariants as type
use Rattle.c_tree.specs.declared.symbol.StorageWord.TheVariants as storage
use Rattle.c_tree.specs.declared.symbol.BinaryOp.TheVariants as op
use Rattle.c_tree.specs.declared.symbol.AssignOp.TheVariants as to
use Rattle.c_tree.specs.declared.symbol.Crement.TheVariants as by
use Rattle.c_tree.specs.declared.tree.PrefixOp.TheVariants as pre
use Rattle.c_tree.specs.Tree.{no_raw, no_attributes, eName, eNumber, eParen, eCall, eIndex, ePostfix, ePrefix, eBinary, eCond, eAssign, eComma, no_parts, parts_and, no_words, words_and, wType, wStorage, wTypedef, wTag, wTagEnum, no_enumerators, plain_and, valued_and, named, no_params, params_and, pUnknown, pVoid, pSome, fPlain, fArray, fFunction, iNothing, iValue, iList, no_declarators, declarators_and, declares, head, forDeclares, for_head, sDeclaration, sBlock, sEmpty, sExpr, sIf, sWhile, sSwitch, sDo, sFor, sCase, sDefault, sLabel, sGoto, sBreak, sContinue, sReturn, no_statements, statements_and, bBlock, bSkipped, tFunction, tDeclaration, Items, no_items, items_and}
use Rattle.c_run.specs.Run.{Error, Ended, NoInput, BadInput, Spent}
use Rattle.c_meaning.specs.Program.{run}
use Rattle.c_meaning.specs.Good.{broken}

abbrev form : Bool → Bool → ℕ → NumberForm
form decimal unsigned longs = record { decimal = decimal; unsigned_suffix = unsigned; longs = longs }

--   extern void abort(void);
--   extern int __VERIFIER_nondet_int(void);
--   void reach_error() {}
--   int main() {
--     int x = __VERIFIER_nondet_int();
--     if (x == 7) reach_error();
--   }
abbrev pub call_of_reach_error_source : Items
call_of_reach_error_source = (items_and (items_and (items_and (items_and no_items (tDeclaration (declares (words_and (words_and no_words (wStorage storage.Extern 0)) (wType type.Void 7)) (declarators_and no_declarators None (named (codes "abort") 12) (fFunction (pVoid 17 18 22)) no_attributes iNothing) 23))) (tDeclaration (declares (words_and (words_and no_words (wStorage storage.Extern 25)) (wType type.Int 32)) (declarators_and no_declarators None (named (codes "__VERIFIER_nondet_int") 36) (fFunction (pVoid 57 58 62)) no_attributes iNothing) 63))) (tFunction (words_and no_words (wType type.Void 65)) (named (codes "reach_error") 70) (pUnknown 81 82) no_attributes (bSkipped 84 no_raw 85))) (tFunction (words_and no_words (wType type.Int 87)) (named (codes "main") 91) (pUnknown 95 96) no_attributes (bBlock 98 (statements_and (statements_and no_statements (sDeclaration (declares (words_and no_words (wType type.Int 102)) (declarators_and no_declarators None (named (codes "x") 106) fPlain no_attributes (iValue 108 (eCall (eName (codes "__VERIFIER_nondet_int") 110) 131 no_parts 132))) 133))) (sIf (head 137 140 (eBinary (eName (codes "x") 141) op.Equal 143 (eNumber 7 (form true false 0) 146)) 147) (sExpr (eCall (eName (codes "reach_error") 149) 160 no_parts 161) 162))) 164)))

pub call_of_reach_error : run 10 call_of_reach_error_source Ilp32 (pos 7 ∷ []) ≡ (Error error.Reach 149 1)
call_of_reach_error = refl

pub no_error : run 10 call_of_reach_error_source Ilp32 (pos 8 ∷ []) ≡ Ended
no_error = refl

pub no_input : run 10 call_of_reach_error_source Ilp32 ([]) ≡ NoInput
no_input = refl

pub bad_input : run 10 call_of_reach_error_source Ilp32 (pos 2147483648 ∷ []) ≡ (BadInput 0)
bad_input = refl

--   extern void abort(void);
--   extern int __VERIFIER_nondet_int(void);
--   void reach_error() {}
--   int main() {
--     int x = __VERIFIER_nondet_int();
--     x = x + 1;
--   }
abbrev pub sum_overflows_source : Items
sum_overflows_source = (items_and (items_and (items_and (items_and no_items (tDeclaration (declares (words_and (words_and no_words (wStorage storage.Extern 0)) (wType type.Void 7)) (declarators_and no_declarators None (named (codes "abort") 12) (fFunction (pVoid 17 18 22)) no_attributes iNothing) 23))) (tDeclaration (declares (words_and (words_and no_words (wStorage storage.Extern 25)) (wType type.Int 32)) (declarators_and no_declarators None (named (codes "__VERIFIER_nondet_int") 36) (fFunction (pVoid 57 58 62)) no_attributes iNothing) 63))) (tFunction (words_and no_words (wType type.Void 65)) (named (codes "reach_error") 70) (pUnknown 81 82) no_attributes (bSkipped 84 no_raw 85))) (tFunction (words_and no_words (wType type.Int 87)) (named (codes "main") 91) (pUnknown 95 96) no_attributes (bBlock 98 (statements_and (statements_and no_statements (sDeclaration (declares (words_and no_words (wType type.Int 102)) (declarators_and no_declarators None (named (codes "x") 106) fPlain no_attributes (iValue 108 (eCall (eName (codes "__VERIFIER_nondet_int") 110) 131 no_parts 132))) 133))) (sExpr (eAssign (eName (codes "x") 137) to.Plain 139 (eBinary (eName (codes "x") 141) op.Add 143 (eNumber 1 (form true false 0) 145))) 146)) 148)))

pub sum_overflows : run 10 sum_overflows_source Ilp32 (pos 2147483647 ∷ []) ≡ (Error error.Overflow 143 1)
sum_overflows = refl

pub sum_fits : run 10 sum_overflows_source Ilp32 (pos 5 ∷ []) ≡ Ended
sum_fits = refl

--   extern void abort(void);
--   extern int __VERIFIER_nondet_int(void);
--   void reach_error() {}
--   int main() {
--     unsigned int x = __VERIFIER_nondet_int();
--     x = x + 1;
--   }
abbrev pub unsigned_sum_wraps_source : Items
unsigned_sum_wraps_source = (items_and (items_and (items_and (items_and no_items (tDeclaration (declares (words_and (words_and no_words (wStorage storage.Extern 0)) (wType type.Void 7)) (declarators_and no_declarators None (named (codes "abort") 12) (fFunction (pVoid 17 18 22)) no_attributes iNothing) 23))) (tDeclaration (declares (words_and (words_and no_words (wStorage storage.Extern 25)) (wType type.Int 32)) (declarators_and no_declarators None (named (codes "__VERIFIER_nondet_int") 36) (fFunction (pVoid 57 58 62)) no_attributes iNothing) 63))) (tFunction (words_and no_words (wType type.Void 65)) (named (codes "reach_error") 70) (pUnknown 81 82) no_attributes (bSkipped 84 no_raw 85))) (tFunction (words_and no_words (wType type.Int 87)) (named (codes "main") 91) (pUnknown 95 96) no_attributes (bBlock 98 (statements_and (statements_and no_statements (sDeclaration (declares (words_and (words_and no_words (wType type.Unsigned 102)) (wType type.Int 111)) (declarators_and no_declarators None (named (codes "x") 115) fPlain no_attributes (iValue 117 (eCall (eName (codes "__VERIFIER_nondet_int") 119) 140 no_parts 141))) 142))) (sExpr (eAssign (eName (codes "x") 146) to.Plain 148 (eBinary (eName (codes "x") 150) op.Add 152 (eNumber 1 (form true false 0) 154))) 155)) 157)))

pub unsigned_sum_wraps : run 10 unsigned_sum_wraps_source Ilp32 (pos 2147483647 ∷ []) ≡ Ended
unsigned_sum_wraps = refl

--   extern void abort(void);
--   extern int __VERIFIER_nondet_int(void);
--   void reach_error() {}
--   int main() {
--     int s = 1 << 31;
--   }
abbrev pub left_shift_overflows_source : Items
left_shift_overflows_source = (items_and (items_and (items_and (items_and no_items (tDeclaration (declares (words_and (words_and no_words (wStorage storage.Extern 0)) (wType type.Void 7)) (declarators_and no_declarators None (named (codes "abort") 12) (fFunction (pVoid 17 18 22)) no_attributes iNothing) 23))) (tDeclaration (declares (words_and (words_and no_words (wStorage storage.Extern 25)) (wType type.Int 32)) (declarators_and no_declarators None (named (codes "__VERIFIER_nondet_int") 36) (fFunction (pVoid 57 58 62)) no_attributes iNothing) 63))) (tFunction (words_and no_words (wType type.Void 65)) (named (codes "reach_error") 70) (pUnknown 81 82) no_attributes (bSkipped 84 no_raw 85))) (tFunction (words_and no_words (wType type.Int 87)) (named (codes "main") 91) (pUnknown 95 96) no_attributes (bBlock 98 (statements_and no_statements (sDeclaration (declares (words_and no_words (wType type.Int 102)) (declarators_and no_declarators None (named (codes "s") 106) fPlain no_attributes (iValue 108 (eBinary (eNumber 1 (form true false 0) 110) op.ShiftLeft 112 (eNumber 31 (form true false 0) 115)))) 117))) 119)))

pub left_shift_overflows : run 10 left_shift_overflows_source Ilp32 ([]) ≡ (Error error.Shift 112 0)
left_shift_overflows = refl

--   extern void abort(void);
--   extern int __VERIFIER_nondet_int(void);
--   void reach_error() {}
--   int main() {
--     unsigned s = 1u << 31;
--   }
abbrev pub unsigned_left_shift_source : Items
unsigned_left_shift_source = (items_and (items_and (items_and (items_and no_items (tDeclaration (declares (words_and (words_and no_words (wStorage storage.Extern 0)) (wType type.Void 7)) (declarators_and no_declarators None (named (codes "abort") 12) (fFunction (pVoid 17 18 22)) no_attributes iNothing) 23))) (tDeclaration (declares (words_and (words_and no_words (wStorage storage.Extern 25)) (wType type.Int 32)) (declarators_and no_declarators None (named (codes "__VERIFIER_nondet_int") 36) (fFunction (pVoid 57 58 62)) no_attributes iNothing) 63))) (tFunction (words_and no_words (wType type.Void 65)) (named (codes "reach_error") 70) (pUnknown 81 82) no_attributes (bSkipped 84 no_raw 85))) (tFunction (words_and no_words (wType type.Int 87)) (named (codes "main") 91) (pUnknown 95 96) no_attributes (bBlock 98 (statements_and no_statements (sDeclaration (declares (words_and no_words (wType type.Unsigned 102)) (declarators_and no_declarators None (named (codes "s") 111) fPlain no_attributes (iValue 113 (eBinary (eNumber 1 (form true true 0) 115) op.ShiftLeft 118 (eNumber 31 (form true false 0) 121)))) 123))) 125)))

pub unsigned_left_shift : run 10 unsigned_left_shift_source Ilp32 ([]) ≡ Ended
unsigned_left_shift = refl

--   extern void abort(void);
--   extern int __VERIFIER_nondet_int(void);
--   void reach_error() {}
--   int main() {
--     int m = -2147483647 - 1;
--     int d = -1;
--     m = m % d;
--   }
abbrev pub least_by_minus_one_source : Items
least_by_minus_one_source = (items_and (items_and (items_and (items_and no_items (tDeclaration (declares (words_and (words_and no_words (wStorage storage.Extern 0)) (wType type.Void 7)) (declarators_and no_declarators None (named (codes "abort") 12) (fFunction (pVoid 17 18 22)) no_attributes iNothing) 23))) (tDeclaration (declares (words_and (words_and no_words (wStorage storage.Extern 25)) (wType type.Int 32)) (declarators_and no_declarators None (named (codes "__VERIFIER_nondet_int") 36) (fFunction (pVoid 57 58 62)) no_attributes iNothing) 63))) (tFunction (words_and no_words (wType type.Void 65)) (named (codes "reach_error") 70) (pUnknown 81 82) no_attributes (bSkipped 84 no_raw 85))) (tFunction (words_and no_words (wType type.Int 87)) (named (codes "main") 91) (pUnknown 95 96) no_attributes (bBlock 98 (statements_and (statements_and (statements_and no_statements (sDeclaration (declares (words_and no_words (wType type.Int 102)) (declarators_and no_declarators None (named (codes "m") 106) fPlain no_attributes (iValue 108 (eBinary (ePrefix pre.Minus 110 (eNumber 2147483647 (form true false 0) 111)) op.Subtract 122 (eNumber 1 (form true false 0) 124)))) 125))) (sDeclaration (declares (words_and no_words (wType type.Int 129)) (declarators_and no_declarators None (named (codes "d") 133) fPlain no_attributes (iValue 135 (ePrefix pre.Minus 137 (eNumber 1 (form true false 0) 138)))) 139))) (sExpr (eAssign (eName (codes "m") 143) to.Plain 145 (eBinary (eName (codes "m") 147) op.Remainder 149 (eName (codes "d") 151))) 152)) 154)))

pub least_by_minus_one : run 10 least_by_minus_one_source Ilp32 ([]) ≡ (Error error.Overflow 149 0)
least_by_minus_one = refl

--   extern void abort(void);
--   extern int __VERIFIER_nondet_int(void);
--   void reach_error() {}
--   int main() {
--     if (-1 < 0u) reach_error();
--   }
abbrev pub compare_unsigned_source : Items
compare_unsigned_source = (items_and (items_and (items_and (items_and no_items (tDeclaration (declares (words_and (words_and no_words (wStorage storage.Extern 0)) (wType type.Void 7)) (declarators_and no_declarators None (named (codes "abort") 12) (fFunction (pVoid 17 18 22)) no_attributes iNothing) 23))) (tDeclaration (declares (words_and (words_and no_words (wStorage storage.Extern 25)) (wType type.Int 32)) (declarators_and no_declarators None (named (codes "__VERIFIER_nondet_int") 36) (fFunction (pVoid 57 58 62)) no_attributes iNothing) 63))) (tFunction (words_and no_words (wType type.Void 65)) (named (codes "reach_error") 70) (pUnknown 81 82) no_attributes (bSkipped 84 no_raw 85))) (tFunction (words_and no_words (wType type.Int 87)) (named (codes "main") 91) (pUnknown 95 96) no_attributes (bBlock 98 (statements_and no_statements (sIf (head 102 105 (eBinary (ePrefix pre.Minus 106 (eNumber 1 (form true false 0) 107)) op.Less 109 (eNumber 0 (form false true 0) 111)) 113) (sExpr (eCall (eName (codes "reach_error") 115) 126 no_parts 127) 128))) 130)))

pub compare_unsigned : run 10 compare_unsigned_source Ilp32 ([]) ≡ Ended
compare_unsigned = refl

--   extern void abort(void);
--   extern int __VERIFIER_nondet_int(void);
--   void reach_error() {}
--   int main() {
--     long x = 2147483647;
--     x = x + 1;
--   }
abbrev pub long_of_32_bits_source : Items
long_of_32_bits_source = (items_and (items_and (items_and (items_and no_items (tDeclaration (declares (words_and (words_and no_words (wStorage storage.Extern 0)) (wType type.Void 7)) (declarators_and no_declarators None (named (codes "abort") 12) (fFunction (pVoid 17 18 22)) no_attributes iNothing) 23))) (tDeclaration (declares (words_and (words_and no_words (wStorage storage.Extern 25)) (wType type.Int 32)) (declarators_and no_declarators None (named (codes "__VERIFIER_nondet_int") 36) (fFunction (pVoid 57 58 62)) no_attributes iNothing) 63))) (tFunction (words_and no_words (wType type.Void 65)) (named (codes "reach_error") 70) (pUnknown 81 82) no_attributes (bSkipped 84 no_raw 85))) (tFunction (words_and no_words (wType type.Int 87)) (named (codes "main") 91) (pUnknown 95 96) no_attributes (bBlock 98 (statements_and (statements_and no_statements (sDeclaration (declares (words_and no_words (wType type.Long 102)) (declarators_and no_declarators None (named (codes "x") 107) fPlain no_attributes (iValue 109 (eNumber 2147483647 (form true false 0) 111))) 121))) (sExpr (eAssign (eName (codes "x") 125) to.Plain 127 (eBinary (eName (codes "x") 129) op.Add 131 (eNumber 1 (form true false 0) 133))) 134)) 136)))

pub long_of_32_bits : run 10 long_of_32_bits_source Ilp32 ([]) ≡ (Error error.Overflow 131 0)
long_of_32_bits = refl

pub long_of_64_bits : run 10 long_of_32_bits_source Lp64 ([]) ≡ Ended
long_of_64_bits = refl

--   extern void abort(void);
--   extern int __VERIFIER_nondet_int(void);
--   void reach_error() {}
--   int main() {
--     int a[4];
--     int i = __VERIFIER_nondet_int();
--     if (i >= 0 && i <= 4) a[i] = 1;
--   }
abbrev pub index_past_the_end_source : Items
index_past_the_end_source = (items_and (items_and (items_and (items_and no_items (tDeclaration (declares (words_and (words_and no_words (wStorage storage.Extern 0)) (wType type.Void 7)) (declarators_and no_declarators None (named (codes "abort") 12) (fFunction (pVoid 17 18 22)) no_attributes iNothing) 23))) (tDeclaration (declares (words_and (words_and no_words (wStorage storage.Extern 25)) (wType type.Int 32)) (declarators_and no_declarators None (named (codes "__VERIFIER_nondet_int") 36) (fFunction (pVoid 57 58 62)) no_attributes iNothing) 63))) (tFunction (words_and no_words (wType type.Void 65)) (named (codes "reach_error") 70) (pUnknown 81 82) no_attributes (bSkipped 84 no_raw 85))) (tFunction (words_and no_words (wType type.Int 87)) (named (codes "main") 91) (pUnknown 95 96) no_attributes (bBlock 98 (statements_and (statements_and (statements_and no_statements (sDeclaration (declares (words_and no_words (wType type.Int 102)) (declarators_and no_declarators None (named (codes "a") 106) (fArray 107 (Some (eNumber 4 (form true false 0) 108)) 109) no_attributes iNothing) 110))) (sDeclaration (declares (words_and no_words (wType type.Int 114)) (declarators_and no_declarators None (named (codes "i") 118) fPlain no_attributes (iValue 120 (eCall (eName (codes "__VERIFIER_nondet_int") 122) 143 no_parts 144))) 145))) (sIf (head 149 152 (eBinary (eBinary (eName (codes "i") 153) op.GreaterEqual 155 (eNumber 0 (form false false 0) 158)) op.AndAlso 160 (eBinary (eName (codes "i") 163) op.LessEqual 165 (eNumber 4 (form true false 0) 168))) 169) (sExpr (eAssign (eIndex (eName (codes "a") 171) 172 (eName (codes "i") 173) 174) to.Plain 176 (eNumber 1 (form true false 0) 178)) 179))) 181)))

pub index_past_the_end : run 10 index_past_the_end_source Ilp32 (pos 0 ∷ pos 0 ∷ pos 0 ∷ pos 0 ∷ pos 4 ∷ []) ≡ (Error error.Index 172 5)
index_past_the_end = refl

pub index_within : run 10 index_past_the_end_source Ilp32 (pos 0 ∷ pos 0 ∷ pos 0 ∷ pos 0 ∷ pos 3 ∷ []) ≡ Ended
index_within = refl

--   extern void abort(void);
--   extern int __VERIFIER_nondet_int(void);
--   void reach_error() {}
--   int main() {
--     int d = 0;
--     d = 1 / d;
--   }
abbrev pub divisor_zero_source : Items
divisor_zero_source = (items_and (items_and (items_and (items_and no_items (tDeclaration (declares (words_and (words_and no_words (wStorage storage.Extern 0)) (wType type.Void 7)) (declarators_and no_declarators None (named (codes "abort") 12) (fFunction (pVoid 17 18 22)) no_attributes iNothing) 23))) (tDeclaration (declares (words_and (words_and no_words (wStorage storage.Extern 25)) (wType type.Int 32)) (declarators_and no_declarators None (named (codes "__VERIFIER_nondet_int") 36) (fFunction (pVoid 57 58 62)) no_attributes iNothing) 63))) (tFunction (words_and no_words (wType type.Void 65)) (named (codes "reach_error") 70) (pUnknown 81 82) no_attributes (bSkipped 84 no_raw 85))) (tFunction (words_and no_words (wType type.Int 87)) (named (codes "main") 91) (pUnknown 95 96) no_attributes (bBlock 98 (statements_and (statements_and no_statements (sDeclaration (declares (words_and no_words (wType type.Int 102)) (declarators_and no_declarators None (named (codes "d") 106) fPlain no_attributes (iValue 108 (eNumber 0 (form false false 0) 110))) 111))) (sExpr (eAssign (eName (codes "d") 115) to.Plain 117 (eBinary (eNumber 1 (form true false 0) 119) op.Divide 121 (eName (codes "d") 123))) 124)) 126)))

pub divisor_zero : run 10 divisor_zero_source Ilp32 ([]) ≡ (Error error.Zero 121 0)
divisor_zero = refl

--   int f(void) { }
--   int main() {
--     int x = f();
--   }
abbrev pub missing_return_source : Items
missing_return_source = (items_and (items_and no_items (tFunction (words_and no_words (wType type.Int 0)) (named (codes "f") 4) (pVoid 5 6 10) no_attributes (bBlock 12 no_statements 14))) (tFunction (words_and no_words (wType type.Int 16)) (named (codes "main") 20) (pUnknown 24 25) no_attributes (bBlock 27 (statements_and no_statements (sDeclaration (declares (words_and no_words (wType type.Int 31)) (declarators_and no_declarators None (named (codes "x") 35) fPlain no_attributes (iValue 37 (eCall (eName (codes "f") 39) 40 no_parts 41))) 42))) 44)))

pub missing_return : run 10 missing_return_source Ilp32 ([]) ≡ (Error error.Missing 39 0)
missing_return = refl

--   int f(void) { }
--   int main() {
--     f();
--   }
abbrev pub missing_unused_source : Items
missing_unused_source = (items_and (items_and no_items (tFunction (words_and no_words (wType type.Int 0)) (named (codes "f") 4) (pVoid 5 6 10) no_attributes (bBlock 12 no_statements 14))) (tFunction (words_and no_words (wType type.Int 16)) (named (codes "main") 20) (pUnknown 24 25) no_attributes (bBlock 27 (statements_and no_statements (sExpr (eCall (eName (codes "f") 31) 32 no_parts 33) 34)) 36)))

pub missing_unused : run 10 missing_unused_source Ilp32 ([]) ≡ Ended
missing_unused = refl

--   extern void abort(void);
--   extern int __VERIFIER_nondet_int(void);
--   void reach_error() {}
--   int main() {
--     while (1) {}
--   }
abbrev pub endless_source : Items
endless_source = (items_and (items_and (items_and (items_and no_items (tDeclaration (declares (words_and (words_and no_words (wStorage storage.Extern 0)) (wType type.Void 7)) (declarators_and no_declarators None (named (codes "abort") 12) (fFunction (pVoid 17 18 22)) no_attributes iNothing) 23))) (tDeclaration (declares (words_and (words_and no_words (wStorage storage.Extern 25)) (wType type.Int 32)) (declarators_and no_declarators None (named (codes "__VERIFIER_nondet_int") 36) (fFunction (pVoid 57 58 62)) no_attributes iNothing) 63))) (tFunction (words_and no_words (wType type.Void 65)) (named (codes "reach_error") 70) (pUnknown 81 82) no_attributes (bSkipped 84 no_raw 85))) (tFunction (words_and no_words (wType type.Int 87)) (named (codes "main") 91) (pUnknown 95 96) no_attributes (bBlock 98 (statements_and no_statements (sWhile (head 102 108 (eNumber 1 (form true false 0) 109) 110) (sBlock 112 no_statements 113))) 115)))

pub endless : run 5 endless_source Ilp32 ([]) ≡ (Spent 102 [] 0)
endless = refl

--   int x; int main() { L: x = 1 - x; goto L; }
abbrev pub goto_takes_turns_source : Items
goto_takes_turns_source = (items_and (items_and no_items (tDeclaration (declares (words_and no_words (wType type.Int 0)) (declarators_and no_declarators None (named (codes "x") 4) fPlain no_attributes iNothing) 5))) (tFunction (words_and no_words (wType type.Int 7)) (named (codes "main") 11) (pUnknown 15 16) no_attributes (bBlock 18 (statements_and (statements_and no_statements (sLabel (codes "L") 20 21 no_attributes (sExpr (eAssign (eName (codes "x") 23) to.Plain 25 (eBinary (eNumber 1 (form true false 0) 27) op.Subtract 29 (eName (codes "x") 31))) 32))) (sGoto 34 (codes "L") 39 40)) 42)))

pub goto_takes_turns : run 3 goto_takes_turns_source Ilp32 ([]) ≡ (Spent 34 (((pos 0) ∷ []) ∷ []) 0)
goto_takes_turns = refl

--   extern void abort(void);
--   extern int __VERIFIER_nondet_int(void);
--   void reach_error() {}
--   int main() {
--     unsigned int i = 0;
--     while (i < 4) i++;
--     if (i == 4) reach_error();
--   }
abbrev pub loop_counts_source : Items
loop_counts_source = (items_and (items_and (items_and (items_and no_items (tDeclaration (declares (words_and (words_and no_words (wStorage storage.Extern 0)) (wType type.Void 7)) (declarators_and no_declarators None (named (codes "abort") 12) (fFunction (pVoid 17 18 22)) no_attributes iNothing) 23))) (tDeclaration (declares (words_and (words_and no_words (wStorage storage.Extern 25)) (wType type.Int 32)) (declarators_and no_declarators None (named (codes "__VERIFIER_nondet_int") 36) (fFunction (pVoid 57 58 62)) no_attributes iNothing) 63))) (tFunction (words_and no_words (wType type.Void 65)) (named (codes "reach_error") 70) (pUnknown 81 82) no_attributes (bSkipped 84 no_raw 85))) (tFunction (words_and no_words (wType type.Int 87)) (named (codes "main") 91) (pUnknown 95 96) no_attributes (bBlock 98 (statements_and (statements_and (statements_and no_statements (sDeclaration (declares (words_and (words_and no_words (wType type.Unsigned 102)) (wType type.Int 111)) (declarators_and no_declarators None (named (codes "i") 115) fPlain no_attributes (iValue 117 (eNumber 0 (form false false 0) 119))) 120))) (sWhile (head 124 130 (eBinary (eName (codes "i") 131) op.Less 133 (eNumber 4 (form true false 0) 135)) 136) (sExpr (ePostfix (eName (codes "i") 138) by.Increment 139) 141))) (sIf (head 145 148 (eBinary (eName (codes "i") 149) op.Equal 151 (eNumber 4 (form true false 0) 154)) 155) (sExpr (eCall (eName (codes "reach_error") 157) 168 no_parts 169) 170))) 172)))

pub loop_counts : run 10 loop_counts_source Ilp32 ([]) ≡ (Error error.Reach 157 0)
loop_counts = refl

--   extern void abort(void);
--   extern int __VERIFIER_nondet_int(void);
--   void reach_error() {}
--   int main() {
--     int s = 0;
--     for (int i = 0; i < 3; i++) { if (i == 1) continue; s += i; }
--     if (s == 2) reach_error();
--   }
abbrev pub for_continue_source : Items
for_continue_source = (items_and (items_and (items_and (items_and no_items (tDeclaration (declares (words_and (words_and no_words (wStorage storage.Extern 0)) (wType type.Void 7)) (declarators_and no_declarators None (named (codes "abort") 12) (fFunction (pVoid 17 18 22)) no_attributes iNothing) 23))) (tDeclaration (declares (words_and (words_and no_words (wStorage storage.Extern 25)) (wType type.Int 32)) (declarators_and no_declarators None (named (codes "__VERIFIER_nondet_int") 36) (fFunction (pVoid 57 58 62)) no_attributes iNothing) 63))) (tFunction (words_and no_words (wType type.Void 65)) (named (codes "reach_error") 70) (pUnknown 81 82) no_attributes (bSkipped 84 no_raw 85))) (tFunction (words_and no_words (wType type.Int 87)) (named (codes "main") 91) (pUnknown 95 96) no_attributes (bBlock 98 (statements_and (statements_and (statements_and no_statements (sDeclaration (declares (words_and no_words (wType type.Int 102)) (declarators_and no_declarators None (named (codes "s") 106) fPlain no_attributes (iValue 108 (eNumber 0 (form false false 0) 110))) 111))) (sFor (for_head 115 119 (forDeclares (declares (words_and no_words (wType type.Int 120)) (declarators_and no_declarators None (named (codes "i") 124) fPlain no_attributes (iValue 126 (eNumber 0 (form false false 0) 128))) 129)) (Some (eBinary (eName (codes "i") 131) op.Less 133 (eNumber 3 (form true false 0) 135))) 136 (Some (ePostfix (eName (codes "i") 138) by.Increment 139)) 141) (sBlock 143 (statements_and (statements_and no_statements (sIf (head 145 148 (eBinary (eName (codes "i") 149) op.Equal 151 (eNumber 1 (form true false 0) 154)) 155) (sContinue 157 165))) (sExpr (eAssign (eName (codes "s") 167) to.Add 169 (eName (codes "i") 172)) 173)) 175))) (sIf (head 179 182 (eBinary (eName (codes "s") 183) op.Equal 185 (eNumber 2 (form true false 0) 188)) 189) (sExpr (eCall (eName (codes "reach_error") 191) 202 no_parts 203) 204))) 206)))

pub for_continue : run 10 for_continue_source Ilp32 ([]) ≡ (Error error.Reach 191 0)
for_continue = refl

--   extern void abort(void);
--   extern int __VERIFIER_nondet_int(void);
--   void reach_error() {}
--   int main() {
--     int x = 2; int y = 0;
--     switch (x) { case 1: y = 10; case 2: y += 1; case 3: y += 1; break; default: y = 5; }
--     if (y == 2) reach_error();
--   }
abbrev pub switch_falls_through_source : Items
switch_falls_through_source = (items_and (items_and (items_and (items_and no_items (tDeclaration (declares (words_and (words_and no_words (wStorage storage.Extern 0)) (wType type.Void 7)) (declarators_and no_declarators None (named (codes "abort") 12) (fFunction (pVoid 17 18 22)) no_attributes iNothing) 23))) (tDeclaration (declares (words_and (words_and no_words (wStorage storage.Extern 25)) (wType type.Int 32)) (declarators_and no_declarators None (named (codes "__VERIFIER_nondet_int") 36) (fFunction (pVoid 57 58 62)) no_attributes iNothing) 63))) (tFunction (words_and no_words (wType type.Void 65)) (named (codes "reach_error") 70) (pUnknown 81 82) no_attributes (bSkipped 84 no_raw 85))) (tFunction (words_and no_words (wType type.Int 87)) (named (codes "main") 91) (pUnknown 95 96) no_attributes (bBlock 98 (statements_and (statements_and (statements_and (statements_and no_statements (sDeclaration (declares (words_and no_words (wType type.Int 102)) (declarators_and no_declarators None (named (codes "x") 106) fPlain no_attributes (iValue 108 (eNumber 2 (form true false 0) 110))) 111))) (sDeclaration (declares (words_and no_words (wType type.Int 113)) (declarators_and no_declarators None (named (codes "y") 117) fPlain no_attributes (iValue 119 (eNumber 0 (form false false 0) 121))) 122))) (sSwitch (head 126 133 (eName (codes "x") 134) 135) (sBlock 137 (statements_and (statements_and (statements_and (statements_and (statements_and no_statements (sCase 139 (eNumber 1 (form true false 0) 144) 145 (sExpr (eAssign (eName (codes "y") 147) to.Plain 149 (eNumber 10 (form true false 0) 151)) 153))) (sCase 155 (eNumber 2 (form true false 0) 160) 161 (sExpr (eAssign (eName (codes "y") 163) to.Add 165 (eNumber 1 (form true false 0) 168)) 169))) (sCase 171 (eNumber 3 (form true false 0) 176) 177 (sExpr (eAssign (eName (codes "y") 179) to.Add 181 (eNumber 1 (form true false 0) 184)) 185))) (sBreak 187 192)) (sDefault 194 201 (sExpr (eAssign (eName (codes "y") 203) to.Plain 205 (eNumber 5 (form true false 0) 207)) 208))) 210))) (sIf (head 214 217 (eBinary (eName (codes "y") 218) op.Equal 220 (eNumber 2 (form true false 0) 223)) 224) (sExpr (eCall (eName (codes "reach_error") 226) 237 no_parts 238) 239))) 241)))

pub switch_falls_through : run 10 switch_falls_through_source Ilp32 ([]) ≡ (Error error.Reach 226 0)
switch_falls_through = refl

--   extern void abort(void);
--   extern int __VERIFIER_nondet_int(void);
--   void reach_error() {}
--   int main() {
--     int x = 9; int y = 0;
--     switch (x) { case 1: y = 10; default: y += 5; case 3: y += 1; break; case 4: y = 0; }
--     if (y == 6) reach_error();
--   }
abbrev pub switch_default_in_the_middle_source : Items
switch_default_in_the_middle_source = (items_and (items_and (items_and (items_and no_items (tDeclaration (declares (words_and (words_and no_words (wStorage storage.Extern 0)) (wType type.Void 7)) (declarators_and no_declarators None (named (codes "abort") 12) (fFunction (pVoid 17 18 22)) no_attributes iNothing) 23))) (tDeclaration (declares (words_and (words_and no_words (wStorage storage.Extern 25)) (wType type.Int 32)) (declarators_and no_declarators None (named (codes "__VERIFIER_nondet_int") 36) (fFunction (pVoid 57 58 62)) no_attributes iNothing) 63))) (tFunction (words_and no_words (wType type.Void 65)) (named (codes "reach_error") 70) (pUnknown 81 82) no_attributes (bSkipped 84 no_raw 85))) (tFunction (words_and no_words (wType type.Int 87)) (named (codes "main") 91) (pUnknown 95 96) no_attributes (bBlock 98 (statements_and (statements_and (statements_and (statements_and no_statements (sDeclaration (declares (words_and no_words (wType type.Int 102)) (declarators_and no_declarators None (named (codes "x") 106) fPlain no_attributes (iValue 108 (eNumber 9 (form true false 0) 110))) 111))) (sDeclaration (declares (words_and no_words (wType type.Int 113)) (declarators_and no_declarators None (named (codes "y") 117) fPlain no_attributes (iValue 119 (eNumber 0 (form false false 0) 121))) 122))) (sSwitch (head 126 133 (eName (codes "x") 134) 135) (sBlock 137 (statements_and (statements_and (statements_and (statements_and (statements_and no_statements (sCase 139 (eNumber 1 (form true false 0) 144) 145 (sExpr (eAssign (eName (codes "y") 147) to.Plain 149 (eNumber 10 (form true false 0) 151)) 153))) (sDefault 155 162 (sExpr (eAssign (eName (codes "y") 164) to.Add 166 (eNumber 5 (form true false 0) 169)) 170))) (sCase 172 (eNumber 3 (form true false 0) 177) 178 (sExpr (eAssign (eName (codes "y") 180) to.Add 182 (eNumber 1 (form true false 0) 185)) 186))) (sBreak 188 193)) (sCase 195 (eNumber 4 (form true false 0) 200) 201 (sExpr (eAssign (eName (codes "y") 203) to.Plain 205 (eNumber 0 (form false false 0) 207)) 208))) 210))) (sIf (head 214 217 (eBinary (eName (codes "y") 218) op.Equal 220 (eNumber 6 (form true false 0) 223)) 224) (sExpr (eCall (eName (codes "reach_error") 226) 237 no_parts 238) 239))) 241)))

pub switch_default_in_the_middle : run 10 switch_default_in_the_middle_source Ilp32 ([]) ≡ (Error error.Reach 226 0)
switch_default_in_the_middle = refl

--   extern void abort(void);
--   extern int __VERIFIER_nondet_int(void);
--   void reach_error() {}
--   int main() {
--     int n = 3; int k = 0;
--     switch (n % 2) { do { k++; case 1: k += 10; n--; default: ; } while (n > 1); }
--     if (k == 21) reach_error();
--   }
abbrev pub duff_source : Items
duff_source = (items_and (items_and (items_and (items_and no_items (tDeclaration (declares (words_and (words_and no_words (wStorage storage.Extern 0)) (wType type.Void 7)) (declarators_and no_declarators None (named (codes "abort") 12) (fFunction (pVoid 17 18 22)) no_attributes iNothing) 23))) (tDeclaration (declares (words_and (words_and no_words (wStorage storage.Extern 25)) (wType type.Int 32)) (declarators_and no_declarators None (named (codes "__VERIFIER_nondet_int") 36) (fFunction (pVoid 57 58 62)) no_attributes iNothing) 63))) (tFunction (words_and no_words (wType type.Void 65)) (named (codes "reach_error") 70) (pUnknown 81 82) no_attributes (bSkipped 84 no_raw 85))) (tFunction (words_and no_words (wType type.Int 87)) (named (codes "main") 91) (pUnknown 95 96) no_attributes (bBlock 98 (statements_and (statements_and (statements_and (statements_and no_statements (sDeclaration (declares (words_and no_words (wType type.Int 102)) (declarators_and no_declarators None (named (codes "n") 106) fPlain no_attributes (iValue 108 (eNumber 3 (form true false 0) 110))) 111))) (sDeclaration (declares (words_and no_words (wType type.Int 113)) (declarators_and no_declarators None (named (codes "k") 117) fPlain no_attributes (iValue 119 (eNumber 0 (form false false 0) 121))) 122))) (sSwitch (head 126 133 (eBinary (eName (codes "n") 134) op.Remainder 136 (eNumber 2 (form true false 0) 138)) 139) (sBlock 141 (statements_and no_statements (sDo 143 (sBlock 146 (statements_and (statements_and (statements_and (statements_and no_statements (sExpr (ePostfix (eName (codes "k") 148) by.Increment 149) 151)) (sCase 153 (eNumber 1 (form true false 0) 158) 159 (sExpr (eAssign (eName (codes "k") 161) to.Add 163 (eNumber 10 (form true false 0) 166)) 168))) (sExpr (ePostfix (eName (codes "n") 170) by.Decrement 171) 173)) (sDefault 175 182 (sEmpty 184))) 186) (head 188 194 (eBinary (eName (codes "n") 195) op.Greater 197 (eNumber 1 (form true false 0) 199)) 200) 201)) 203))) (sIf (head 207 210 (eBinary (eName (codes "k") 211) op.Equal 213 (eNumber 21 (form true false 0) 216)) 218) (sExpr (eCall (eName (codes "reach_error") 220) 231 no_parts 232) 233))) 235)))

pub duff : run 10 duff_source Ilp32 ([]) ≡ (Error error.Reach 220 0)
duff = refl

--   extern void abort(void);
--   extern int __VERIFIER_nondet_int(void);
--   void reach_error() {}
--   int main() {
--     int k = 0;
--     goto L;
--     while (k < 2) { k += 10; L: k += 1; }
--     if (k == 12) reach_error();
--   }
abbrev pub goto_into_a_loop_source : Items
goto_into_a_loop_source = (items_and (items_and (items_and (items_and no_items (tDeclaration (declares (words_and (words_and no_words (wStorage storage.Extern 0)) (wType type.Void 7)) (declarators_and no_declarators None (named (codes "abort") 12) (fFunction (pVoid 17 18 22)) no_attributes iNothing) 23))) (tDeclaration (declares (words_and (words_and no_words (wStorage storage.Extern 25)) (wType type.Int 32)) (declarators_and no_declarators None (named (codes "__VERIFIER_nondet_int") 36) (fFunction (pVoid 57 58 62)) no_attributes iNothing) 63))) (tFunction (words_and no_words (wType type.Void 65)) (named (codes "reach_error") 70) (pUnknown 81 82) no_attributes (bSkipped 84 no_raw 85))) (tFunction (words_and no_words (wType type.Int 87)) (named (codes "main") 91) (pUnknown 95 96) no_attributes (bBlock 98 (statements_and (statements_and (statements_and (statements_and no_statements (sDeclaration (declares (words_and no_words (wType type.Int 102)) (declarators_and no_declarators None (named (codes "k") 106) fPlain no_attributes (iValue 108 (eNumber 0 (form false false 0) 110))) 111))) (sGoto 115 (codes "L") 120 121)) (sWhile (head 125 131 (eBinary (eName (codes "k") 132) op.Less 134 (eNumber 2 (form true false 0) 136)) 137) (sBlock 139 (statements_and (statements_and no_statements (sExpr (eAssign (eName (codes "k") 141) to.Add 143 (eNumber 10 (form true false 0) 146)) 148)) (sLabel (codes "L") 150 151 no_attributes (sExpr (eAssign (eName (codes "k") 153) to.Add 155 (eNumber 1 (form true false 0) 158)) 159))) 161))) (sIf (head 165 168 (eBinary (eName (codes "k") 169) op.Equal 171 (eNumber 12 (form true false 0) 174)) 176) (sExpr (eCall (eName (codes "reach_error") 178) 189 no_parts 190) 191))) 193)))

pub goto_into_a_loop : run 10 goto_into_a_loop_source Ilp32 ([]) ≡ (Error error.Reach 178 0)
goto_into_a_loop = refl

--   void reach_error() {}
--   int x = 1;
--   int s(void) { x = 2; return 2; }
--   int f(int a, int b) { return a * 10 + b; }
--   int main() {
--     if (f(x, s()) == 12) reach_error();
--   }
abbrev pub calls_and_arguments_source : Items
calls_and_arguments_source = (items_and (items_and (items_and (items_and (items_and no_items (tFunction (words_and no_words (wType type.Void 0)) (named (codes "reach_error") 5) (pUnknown 16 17) no_attributes (bSkipped 19 no_raw 20))) (tDeclaration (declares (words_and no_words (wType type.Int 22)) (declarators_and no_declarators None (named (codes "x") 26) fPlain no_attributes (iValue 28 (eNumber 1 (form true false 0) 30))) 31))) (tFunction (words_and no_words (wType type.Int 33)) (named (codes "s") 37) (pVoid 38 39 43) no_attributes (bBlock 45 (statements_and (statements_and no_statements (sExpr (eAssign (eName (codes "x") 47) to.Plain 49 (eNumber 2 (form true false 0) 51)) 52)) (sReturn 54 (Some (eNumber 2 (form true false 0) 61)) 62)) 64))) (tFunction (words_and no_words (wType type.Int 66)) (named (codes "f") 70) (pSome 71 (params_and (params_and no_params None (words_and no_words (wType type.Int 72)) (Some (named (codes "a") 76))) (Some 77) (words_and no_words (wType type.Int 79)) (Some (named (codes "b") 83))) 84) no_attributes (bBlock 86 (statements_and no_statements (sReturn 88 (Some (eBinary (eBinary (eName (codes "a") 95) op.Multiply 97 (eNumber 10 (form true false 0) 99)) op.Add 102 (eName (codes "b") 104))) 105)) 107))) (tFunction (words_and no_words (wType type.Int 109)) (named (codes "main") 113) (pUnknown 117 118) no_attributes (bBlock 120 (statements_and no_statements (sIf (head 124 127 (eBinary (eCall (eName (codes "f") 128) 129 (parts_and (parts_and no_parts None (eName (codes "x") 130)) (Some 131) (eCall (eName (codes "s") 133) 134 no_parts 135)) 136) op.Equal 138 (eNumber 12 (form true false 0) 141)) 143) (sExpr (eCall (eName (codes "reach_error") 145) 156 no_parts 157) 158))) 160)))

pub calls_and_arguments : run 10 calls_and_arguments_source Ilp32 ([]) ≡ (Error error.Reach 145 0)
calls_and_arguments = refl

pub calls_and_arguments_is_good : broken calls_and_arguments_source Ilp32 ≡ []
calls_and_arguments_is_good = refl

--   extern void abort(void);
--   extern int __VERIFIER_nondet_int(void);
--   void reach_error() {}
--   int main() {
--     int a[3] = {a[1], 5};
--     if (a[0] == 0 && a[1] == 5 && a[2] == 0) reach_error();
--   }
abbrev pub array_in_its_own_initializer_source : Items
array_in_its_own_initializer_source = (items_and (items_and (items_and (items_and no_items (tDeclaration (declares (words_and (words_and no_words (wStorage storage.Extern 0)) (wType type.Void 7)) (declarators_and no_declarators None (named (codes "abort") 12) (fFunction (pVoid 17 18 22)) no_attributes iNothing) 23))) (tDeclaration (declares (words_and (words_and no_words (wStorage storage.Extern 25)) (wType type.Int 32)) (declarators_and no_declarators None (named (codes "__VERIFIER_nondet_int") 36) (fFunction (pVoid 57 58 62)) no_attributes iNothing) 63))) (tFunction (words_and no_words (wType type.Void 65)) (named (codes "reach_error") 70) (pUnknown 81 82) no_attributes (bSkipped 84 no_raw 85))) (tFunction (words_and no_words (wType type.Int 87)) (named (codes "main") 91) (pUnknown 95 96) no_attributes (bBlock 98 (statements_and (statements_and no_statements (sDeclaration (declares (words_and no_words (wType type.Int 102)) (declarators_and no_declarators None (named (codes "a") 106) (fArray 107 (Some (eNumber 3 (form true false 0) 108)) 109) no_attributes (iList 111 113 (parts_and (parts_and no_parts None (eIndex (eName (codes "a") 114) 115 (eNumber 1 (form true false 0) 116) 117)) (Some 118) (eNumber 5 (form true false 0) 120)) None 121)) 122))) (sIf (head 126 129 (eBinary (eBinary (eBinary (eIndex (eName (codes "a") 130) 131 (eNumber 0 (form false false 0) 132) 133) op.Equal 135 (eNumber 0 (form false false 0) 138)) op.AndAlso 140 (eBinary (eIndex (eName (codes "a") 143) 144 (eNumber 1 (form true false 0) 145) 146) op.Equal 148 (eNumber 5 (form true false 0) 151))) op.AndAlso 153 (eBinary (eIndex (eName (codes "a") 156) 157 (eNumber 2 (form true false 0) 158) 159) op.Equal 161 (eNumber 0 (form false false 0) 164))) 165) (sExpr (eCall (eName (codes "reach_error") 167) 178 no_parts 179) 180))) 182)))

pub array_in_its_own_initializer : run 10 array_in_its_own_initializer_source Ilp32 ([]) ≡ (Error error.Reach 167 0)
array_in_its_own_initializer = refl

--   extern void abort(void);
--   extern int __VERIFIER_nondet_int(void);
--   void reach_error() {}
--   int main() {
--     int a[1] = {0}; int z = 0;
--     a[1] = 1 / z;
--   }
abbrev pub index_before_right_side_source : Items
index_before_right_side_source = (items_and (items_and (items_and (items_and no_items (tDeclaration (declares (words_and (words_and no_words (wStorage storage.Extern 0)) (wType type.Void 7)) (declarators_and no_declarators None (named (codes "abort") 12) (fFunction (pVoid 17 18 22)) no_attributes iNothing) 23))) (tDeclaration (declares (words_and (words_and no_words (wStorage storage.Extern 25)) (wType type.Int 32)) (declarators_and no_declarators None (named (codes "__VERIFIER_nondet_int") 36) (fFunction (pVoid 57 58 62)) no_attributes iNothing) 63))) (tFunction (words_and no_words (wType type.Void 65)) (named (codes "reach_error") 70) (pUnknown 81 82) no_attributes (bSkipped 84 no_raw 85))) (tFunction (words_and no_words (wType type.Int 87)) (named (codes "main") 91) (pUnknown 95 96) no_attributes (bBlock 98 (statements_and (statements_and (statements_and no_statements (sDeclaration (declares (words_and no_words (wType type.Int 102)) (declarators_and no_declarators None (named (codes "a") 106) (fArray 107 (Some (eNumber 1 (form true false 0) 108)) 109) no_attributes (iList 111 113 (parts_and no_parts None (eNumber 0 (form false false 0) 114)) None 115)) 116))) (sDeclaration (declares (words_and no_words (wType type.Int 118)) (declarators_and no_declarators None (named (codes "z") 122) fPlain no_attributes (iValue 124 (eNumber 0 (form false false 0) 126))) 127))) (sExpr (eAssign (eIndex (eName (codes "a") 131) 132 (eNumber 1 (form true false 0) 133) 134) to.Plain 136 (eBinary (eNumber 1 (form true false 0) 138) op.Divide 140 (eName (codes "z") 142))) 143)) 145)))

pub index_before_right_side : run 10 index_before_right_side_source Ilp32 ([]) ≡ (Error error.Index 132 0)
index_before_right_side = refl

--   extern void abort(void);
--   extern int __VERIFIER_nondet_int(void);
--   void reach_error() {}
--   int main() {
--     char c = 1; long long m = 3;
--     if (sizeof(c << m) == 4) reach_error();
--   }
abbrev pub shift_promotes_alone_source : Items
shift_promotes_alone_source = (items_and (items_and (items_and (items_and no_items (tDeclaration (declares (words_and (words_and no_words (wStorage storage.Extern 0)) (wType type.Void 7)) (declarators_and no_declarators None (named (codes "abort") 12) (fFunction (pVoid 17 18 22)) no_attributes iNothing) 23))) (tDeclaration (declares (words_and (words_and no_words (wStorage storage.Extern 25)) (wType type.Int 32)) (declarators_and no_declarators None (named (codes "__VERIFIER_nondet_int") 36) (fFunction (pVoid 57 58 62)) no_attributes iNothing) 63))) (tFunction (words_and no_words (wType type.Void 65)) (named (codes "reach_error") 70) (pUnknown 81 82) no_attributes (bSkipped 84 no_raw 85))) (tFunction (words_and no_words (wType type.Int 87)) (named (codes "main") 91) (pUnknown 95 96) no_attributes (bBlock 98 (statements_and (statements_and (statements_and no_statements (sDeclaration (declares (words_and no_words (wType type.Char 102)) (declarators_and no_declarators None (named (codes "c") 107) fPlain no_attributes (iValue 109 (eNumber 1 (form true false 0) 111))) 112))) (sDeclaration (declares (words_and (words_and no_words (wType type.Long 114)) (wType type.Long 119)) (declarators_and no_declarators None (named (codes "m") 124) fPlain no_attributes (iValue 126 (eNumber 3 (form true false 0) 128))) 129))) (sIf (head 133 136 (eBinary (ePrefix pre.Sizeof 137 (eParen 143 (eBinary (eName (codes "c") 144) op.ShiftLeft 146 (eName (codes "m") 149)) 150)) op.Equal 152 (eNumber 4 (form true false 0) 155)) 156) (sExpr (eCall (eName (codes "reach_error") 158) 169 no_parts 170) 171))) 173)))

pub shift_promotes_alone : run 10 shift_promotes_alone_source Ilp32 ([]) ≡ (Error error.Reach 158 0)
shift_promotes_alone = refl

--   extern void abort(void);
--   extern int __VERIFIER_nondet_int(void);
--   void reach_error() {}
--   int main() {
--     char c = 200;
--     if (c == -56) reach_error();
--   }
abbrev pub conversion_to_char_source : Items
conversion_to_char_source = (items_and (items_and (items_and (items_and no_items (tDeclaration (declares (words_and (words_and no_words (wStorage storage.Extern 0)) (wType type.Void 7)) (declarators_and no_declarators None (named (codes "abort") 12) (fFunction (pVoid 17 18 22)) no_attributes iNothing) 23))) (tDeclaration (declares (words_and (words_and no_words (wStorage storage.Extern 25)) (wType type.Int 32)) (declarators_and no_declarators None (named (codes "__VERIFIER_nondet_int") 36) (fFunction (pVoid 57 58 62)) no_attributes iNothing) 63))) (tFunction (words_and no_words (wType type.Void 65)) (named (codes "reach_error") 70) (pUnknown 81 82) no_attributes (bSkipped 84 no_raw 85))) (tFunction (words_and no_words (wType type.Int 87)) (named (codes "main") 91) (pUnknown 95 96) no_attributes (bBlock 98 (statements_and (statements_and no_statements (sDeclaration (declares (words_and no_words (wType type.Char 102)) (declarators_and no_declarators None (named (codes "c") 107) fPlain no_attributes (iValue 109 (eNumber 200 (form true false 0) 111))) 114))) (sIf (head 118 121 (eBinary (eName (codes "c") 122) op.Equal 124 (ePrefix pre.Minus 127 (eNumber 56 (form true false 0) 128))) 130) (sExpr (eCall (eName (codes "reach_error") 132) 143 no_parts 144) 145))) 147)))

pub conversion_to_char : run 10 conversion_to_char_source Ilp32 ([]) ≡ (Error error.Reach 132 0)
conversion_to_char = refl

--   extern void abort(void);
--   extern int __VERIFIER_nondet_int(void);
--   void reach_error() {}
--   int main() {
--     enum E { A, B = 5, C };
--     enum E e = C;
--     if (e + A == 6) reach_error();
--   }
abbrev pub enumerations_source : Items
enumerations_source = (items_and (items_and (items_and (items_and no_items (tDeclaration (declares (words_and (words_and no_words (wStorage storage.Extern 0)) (wType type.Void 7)) (declarators_and no_declarators None (named (codes "abort") 12) (fFunction (pVoid 17 18 22)) no_attributes iNothing) 23))) (tDeclaration (declares (words_and (words_and no_words (wStorage storage.Extern 25)) (wType type.Int 32)) (declarators_and no_declarators None (named (codes "__VERIFIER_nondet_int") 36) (fFunction (pVoid 57 58 62)) no_attributes iNothing) 63))) (tFunction (words_and no_words (wType type.Void 65)) (named (codes "reach_error") 70) (pUnknown 81 82) no_attributes (bSkipped 84 no_raw 85))) (tFunction (words_and no_words (wType type.Int 87)) (named (codes "main") 91) (pUnknown 95 96) no_attributes (bBlock 98 (statements_and (statements_and (statements_and no_statements (sDeclaration (declares (words_and no_words (wTagEnum 102 (codes "E") 107 109 (plain_and (valued_and (plain_and no_enumerators None (codes "A") 111) (Some 112) (codes "B") 114 116 (eNumber 5 (form true false 0) 118)) (Some 119) (codes "C") 121) None 123)) no_declarators 124))) (sDeclaration (declares (words_and no_words (wTag 128 (codes "E") 133)) (declarators_and no_declarators None (named (codes "e") 135) fPlain no_attributes (iValue 137 (eName (codes "C") 139))) 140))) (sIf (head 144 147 (eBinary (eBinary (eName (codes "e") 148) op.Add 150 (eName (codes "A") 152)) op.Equal 154 (eNumber 6 (form true false 0) 157)) 158) (sExpr (eCall (eName (codes "reach_error") 160) 171 no_parts 172) 173))) 175)))

pub enumerations : run 10 enumerations_source Ilp32 ([]) ≡ (Error error.Reach 160 0)
enumerations = refl

--   extern void abort(void);
--   extern int __VERIFIER_nondet_int(void);
--   void reach_error() {}
--   int main() {
--     typedef unsigned char T;
--     T x = 256 + 3; { int x = 1; x = 2; }
--     if (x == 3) reach_error();
--   }
abbrev pub typedef_and_inner_scope_source : Items
typedef_and_inner_scope_source = (items_and (items_and (items_and (items_and no_items (tDeclaration (declares (words_and (words_and no_words (wStorage storage.Extern 0)) (wType type.Void 7)) (declarators_and no_declarators None (named (codes "abort") 12) (fFunction (pVoid 17 18 22)) no_attributes iNothing) 23))) (tDeclaration (declares (words_and (words_and no_words (wStorage storage.Extern 25)) (wType type.Int 32)) (declarators_and no_declarators None (named (codes "__VERIFIER_nondet_int") 36) (fFunction (pVoid 57 58 62)) no_attributes iNothing) 63))) (tFunction (words_and no_words (wType type.Void 65)) (named (codes "reach_error") 70) (pUnknown 81 82) no_attributes (bSkipped 84 no_raw 85))) (tFunction (words_and no_words (wType type.Int 87)) (named (codes "main") 91) (pUnknown 95 96) no_attributes (bBlock 98 (statements_and (statements_and (statements_and (statements_and no_statements (sDeclaration (declares (words_and (words_and (words_and no_words (wStorage storage.Typedef 102)) (wType type.Unsigned 110)) (wType type.Char 119)) (declarators_and no_declarators None (named (codes "T") 124) fPlain no_attributes iNothing) 125))) (sDeclaration (declares (words_and no_words (wTypedef (codes "T") 129)) (declarators_and no_declarators None (named (codes "x") 131) fPlain no_attributes (iValue 133 (eBinary (eNumber 256 (form true false 0) 135) op.Add 139 (eNumber 3 (form true false 0) 141)))) 142))) (sBlock 144 (statements_and (statements_and no_statements (sDeclaration (declares (words_and no_words (wType type.Int 146)) (declarators_and no_declarators None (named (codes "x") 150) fPlain no_attributes (iValue 152 (eNumber 1 (form true false 0) 154))) 155))) (sExpr (eAssign (eName (codes "x") 157) to.Plain 159 (eNumber 2 (form true false 0) 161)) 162)) 164)) (sIf (head 168 171 (eBinary (eName (codes "x") 172) op.Equal 174 (eNumber 3 (form true false 0) 177)) 178) (sExpr (eCall (eName (codes "reach_error") 180) 191 no_parts 192) 193))) 195)))

pub typedef_and_inner_scope : run 10 typedef_and_inner_scope_source Ilp32 ([]) ≡ (Error error.Reach 180 0)
typedef_and_inner_scope = refl

--   int f(void) { }
--   int main() {
--     f(), f();
--   }
abbrev pub comma_uses_its_last_source : Items
comma_uses_its_last_source = (items_and (items_and no_items (tFunction (words_and no_words (wType type.Int 0)) (named (codes "f") 4) (pVoid 5 6 10) no_attributes (bBlock 12 no_statements 14))) (tFunction (words_and no_words (wType type.Int 16)) (named (codes "main") 20) (pUnknown 24 25) no_attributes (bBlock 27 (statements_and no_statements (sExpr (eComma (parts_and (parts_and no_parts None (eCall (eName (codes "f") 31) 32 no_parts 33)) (Some 34) (eCall (eName (codes "f") 36) 37 no_parts 38))) 39)) 41)))

pub comma_uses_its_last : run 10 comma_uses_its_last_source Ilp32 ([]) ≡ (Error error.Missing 36 0)
comma_uses_its_last = refl

--   extern void abort(void);
--   extern int __VERIFIER_nondet_int(void);
--   void reach_error() {}
--   int main() {
--     int b = 1;
--     int c = b ? -1 : 0u;
--     if (c == -1) reach_error();
--   }
abbrev pub own_name_in_arms_source : Items
own_name_in_arms_source = (items_and (items_and (items_and (items_and no_items (tDeclaration (declares (words_and (words_and no_words (wStorage storage.Extern 0)) (wType type.Void 7)) (declarators_and no_declarators None (named (codes "abort") 12) (fFunction (pVoid 17 18 22)) no_attributes iNothing) 23))) (tDeclaration (declares (words_and (words_and no_words (wStorage storage.Extern 25)) (wType type.Int 32)) (declarators_and no_declarators None (named (codes "__VERIFIER_nondet_int") 36) (fFunction (pVoid 57 58 62)) no_attributes iNothing) 63))) (tFunction (words_and no_words (wType type.Void 65)) (named (codes "reach_error") 70) (pUnknown 81 82) no_attributes (bSkipped 84 no_raw 85))) (tFunction (words_and no_words (wType type.Int 87)) (named (codes "main") 91) (pUnknown 95 96) no_attributes (bBlock 98 (statements_and (statements_and (statements_and no_statements (sDeclaration (declares (words_and no_words (wType type.Int 102)) (declarators_and no_declarators None (named (codes "b") 106) fPlain no_attributes (iValue 108 (eNumber 1 (form true false 0) 110))) 111))) (sDeclaration (declares (words_and no_words (wType type.Int 115)) (declarators_and no_declarators None (named (codes "c") 119) fPlain no_attributes (iValue 121 (eCond (eName (codes "b") 123) 125 (ePrefix pre.Minus 127 (eNumber 1 (form true false 0) 128)) 130 (eNumber 0 (form false true 0) 132)))) 134))) (sIf (head 138 141 (eBinary (eName (codes "c") 142) op.Equal 144 (ePrefix pre.Minus 147 (eNumber 1 (form true false 0) 148))) 149) (sExpr (eCall (eName (codes "reach_error") 151) 162 no_parts 163) 164))) 166)))

pub own_name_in_arms : run 10 own_name_in_arms_source Ilp32 ([]) ≡ (Error error.Reach 151 0)
own_name_in_arms = refl

--   extern void abort(void);
--   extern int __VERIFIER_nondet_int(void);
--   void reach_error() {}
--   int main() {
--     return 0;
--     reach_error();
--   }
abbrev pub main_returns_source : Items
main_returns_source = (items_and (items_and (items_and (items_and no_items (tDeclaration (declares (words_and (words_and no_words (wStorage storage.Extern 0)) (wType type.Void 7)) (declarators_and no_declarators None (named (codes "abort") 12) (fFunction (pVoid 17 18 22)) no_attributes iNothing) 23))) (tDeclaration (declares (words_and (words_and no_words (wStorage storage.Extern 25)) (wType type.Int 32)) (declarators_and no_declarators None (named (codes "__VERIFIER_nondet_int") 36) (fFunction (pVoid 57 58 62)) no_attributes iNothing) 63))) (tFunction (words_and no_words (wType type.Void 65)) (named (codes "reach_error") 70) (pUnknown 81 82) no_attributes (bSkipped 84 no_raw 85))) (tFunction (words_and no_words (wType type.Int 87)) (named (codes "main") 91) (pUnknown 95 96) no_attributes (bBlock 98 (statements_and (statements_and no_statements (sReturn 102 (Some (eNumber 0 (form false false 0) 109)) 110)) (sExpr (eCall (eName (codes "reach_error") 114) 125 no_parts 126) 127)) 129)))

pub main_returns : run 10 main_returns_source Ilp32 ([]) ≡ Ended
main_returns = refl

--   extern void abort(void);
--   extern int __VERIFIER_nondet_int(void);
--   void reach_error() {}
--   int main() {
--     abort();
--     reach_error();
--   }
abbrev pub aborts_source : Items
aborts_source = (items_and (items_and (items_and (items_and no_items (tDeclaration (declares (words_and (words_and no_words (wStorage storage.Extern 0)) (wType type.Void 7)) (declarators_and no_declarators None (named (codes "abort") 12) (fFunction (pVoid 17 18 22)) no_attributes iNothing) 23))) (tDeclaration (declares (words_and (words_and no_words (wStorage storage.Extern 25)) (wType type.Int 32)) (declarators_and no_declarators None (named (codes "__VERIFIER_nondet_int") 36) (fFunction (pVoid 57 58 62)) no_attributes iNothing) 63))) (tFunction (words_and no_words (wType type.Void 65)) (named (codes "reach_error") 70) (pUnknown 81 82) no_attributes (bSkipped 84 no_raw 85))) (tFunction (words_and no_words (wType type.Int 87)) (named (codes "main") 91) (pUnknown 95 96) no_attributes (bBlock 98 (statements_and (statements_and no_statements (sExpr (eCall (eName (codes "abort") 102) 107 no_parts 108) 109)) (sExpr (eCall (eName (codes "reach_error") 113) 124 no_parts 125) 126)) 128)))

pub aborts : run 10 aborts_source Ilp32 ([]) ≡ Ended
aborts = refl

--   void reach_error() {}
--   int x = 1;
--   int s(void) { x = 5; return 2; }
--   int main() {
--     x += s();
--     if (x == 3) reach_error();
--   }
abbrev pub op_reads_first_source : Items
op_reads_first_source = (items_and (items_and (items_and (items_and no_items (tFunction (words_and no_words (wType type.Void 0)) (named (codes "reach_error") 5) (pUnknown 16 17) no_attributes (bSkipped 19 no_raw 20))) (tDeclaration (declares (words_and no_words (wType type.Int 22)) (declarators_and no_declarators None (named (codes "x") 26) fPlain no_attributes (iValue 28 (eNumber 1 (form true false 0) 30))) 31))) (tFunction (words_and no_words (wType type.Int 33)) (named (codes "s") 37) (pVoid 38 39 43) no_attributes (bBlock 45 (statements_and (statements_and no_statements (sExpr (eAssign (eName (codes "x") 47) to.Plain 49 (eNumber 5 (form true false 0) 51)) 52)) (sReturn 54 (Some (eNumber 2 (form true false 0) 61)) 62)) 64))) (tFunction (words_and no_words (wType type.Int 66)) (named (codes "main") 70) (pUnknown 74 75) no_attributes (bBlock 77 (statements_and (statements_and no_statements (sExpr (eAssign (eName (codes "x") 81) to.Add 83 (eCall (eName (codes "s") 86) 87 no_parts 88)) 89)) (sIf (head 93 96 (eBinary (eName (codes "x") 97) op.Equal 99 (eNumber 3 (form true false 0) 102)) 103) (sExpr (eCall (eName (codes "reach_error") 105) 116 no_parts 117) 118))) 120)))

pub op_reads_first : run 10 op_reads_first_source Ilp32 ([]) ≡ (Error error.Reach 105 0)
op_reads_first = refl

pub op_reads_first_is_good : broken op_reads_first_source Ilp32 ≡ []
op_reads_first_is_good = refl
