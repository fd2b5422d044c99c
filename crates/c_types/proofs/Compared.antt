-- On these sources the run of the typed tree is the run of the source, and both break the same rule of jumps, effects and
-- calls first. Each tree was read from the text above it.
use Rattle.std.specs.Prelude.{◌≡◌, ℕ, Bool, true, false, [], ◌∷◌, Some, None, codes, pos}
use Rattle.std.proofs.Common.{refl}
use Rattle.lv_base.specs.declared.kind.Model.TheVariants.{Ilp32, Lp64}
use Rattle.lv_base.specs.declared.fault.SourceFault.TheVariants as fault
use Rattle.c_lexer.specs.declared.token.NumberForm.{NumberForm}
use Rattle.c_tree.specs.declared.symbol.TypeWord.TheVariants as type
use Rattle.c_tree.specs.declared.symbol.StorageWord.TheVariants as storage
use Rattle.c_tree.specs.declared.symbol.BinaryOp.TheVariants as op
use Rattle.c_tree.specs.declared.symbol.AssignOp.TheVariants as to
use Rattle.c_tree.specs.declared.symbol.Crement.TheVariants as by
use Rattle.c_tree.specs.declared.tree.PrefixOp.TheVariants as pre
use Rattle.c_tree.specs.Tree.{no_raw, no_attributes, eName, eNumber, eParen, eCall, eIndex, ePostfix, ePrefix, eSizeof, eCast, eBinary, eCond, eAssign, eComma, no_parts, parts_and, no_words, words_and, wType, wStorage, wTypedef, wTag, wEnum, wTagEnum, no_enumerators, plain_and, valued_and, named, no_params, params_and, pUnknown, pVoid, pSome, fPlain, fArray, fFunction, iNothing, iValue, iList, no_declarators, declarators_and, declares, head, forDeclares, for_head, sDeclaration, sBlock, sEmpty, sExpr, sIf, sWhile, sSwitch, sDo, sFor, sCase, sDefault, sLabel, sGoto, sBreak, sContinue, sReturn, no_statements, statements_and, bBlock, bSkipped, tFunction, tDeclaration, Items, no_items, items_and}
use Rattle.c_meaning.specs.Program.{run}
use Rattle.c_typed.specs.Run as typed
use Rattle.c_run.specs.Breaking.{first_broken}
use Rattle.c_typed.specs.Rules as rules
use Rattle.c_types.specs.Elaborated.{elaborated}

abbrev form : Bool → Bool → ℕ → NumberForm
form decimal unsigned longs = record { decimal = decimal; unsigned_suffix = unsigned; longs = longs }

--   extern void abort(void);
--   extern int __VERIFIER_nondet_int(void);
--   void reach_error() {}
--   int main() {
--     int x = __VERIFIER_nondet_int();
--     if (x == 7) reach_error();
--   }
abbrev call_of_reach_error_source : Items
call_of_reach_error_source = (items_and (items_and (items_and (items_and no_items (tDeclaration (declares (words_and (words_and no_words (wStorage storage.Extern 0)) (wType type.Void 7)) (declarators_and no_declarators None (named (codes "abort") 12) (fFunction (pVoid 17 18 22)) no_attributes iNothing) 23))) (tDeclaration (declares (words_and (words_and no_words (wStorage storage.Extern 25)) (wType type.Int 32)) (declarators_and no_declarators None (named (codes "__VERIFIER_nondet_int") 36) (fFunction (pVoid 57 58 62)) no_attributes iNothing) 63))) (tFunction (words_and no_words (wType type.Void 65)) (named (codes "reach_error") 70) (pUnknown 81 82) no_attributes (bSkipped 84 no_raw 85))) (tFunction (words_and no_words (wType type.Int 87)) (named (codes "main") 91) (pUnknown 95 96) no_attributes (bBlock 98 (statements_and (statements_and no_statements (sDeclaration (declares (words_and no_words (wType type.Int 102)) (declarators_and no_declarators None (named (codes "x") 106) fPlain no_attributes (iValue 108 (eCall (eName (codes "__VERIFIER_nondet_int") 110) 131 no_parts 132))) 133))) (sIf (head 137 140 (eBinary (eName (codes "x") 141) op.Equal 143 (eNumber 7 (form true false 0) 146)) 147) (sExpr (eCall (eName (codes "reach_error") 149) 160 no_parts 161) 162))) 164)))

pub call_of_reach_error : typed.run 10 (elaborated call_of_reach_error_source Ilp32) (pos 7 ∷ []) ≡ run 10 call_of_reach_error_source Ilp32 (pos 7 ∷ [])
call_of_reach_error = refl

pub no_error : typed.run 10 (elaborated call_of_reach_error_source Ilp32) (pos 8 ∷ []) ≡ run 10 call_of_reach_error_source Ilp32 (pos 8 ∷ [])
no_error = refl

pub no_input : typed.run 10 (elaborated call_of_reach_error_source Ilp32) ([]) ≡ run 10 call_of_reach_error_source Ilp32 ([])
no_input = refl

pub bad_input : typed.run 10 (elaborated call_of_reach_error_source Ilp32) (pos 2147483648 ∷ []) ≡ run 10 call_of_reach_error_source Ilp32 (pos 2147483648 ∷ [])
bad_input = refl

--   extern void abort(void);
--   extern int __VERIFIER_nondet_int(void);
--   void reach_error() {}
--   int main() {
--     int x = __VERIFIER_nondet_int();
--     x = x + 1;
--   }
abbrev sum_overflows_source : Items
sum_overflows_source = (items_and (items_and (items_and (items_and no_items (tDeclaration (declares (words_and (words_and no_words (wStorage storage.Extern 0)) (wType type.Void 7)) (declarators_and no_declarators None (named (codes "abort") 12) (fFunction (pVoid 17 18 22)) no_attributes iNothing) 23))) (tDeclaration (declares (words_and (words_and no_words (wStorage storage.Extern 25)) (wType type.Int 32)) (declarators_and no_declarators None (named (codes "__VERIFIER_nondet_int") 36) (fFunction (pVoid 57 58 62)) no_attributes iNothing) 63))) (tFunction (words_and no_words (wType type.Void 65)) (named (codes "reach_error") 70) (pUnknown 81 82) no_attributes (bSkipped 84 no_raw 85))) (tFunction (words_and no_words (wType type.Int 87)) (named (codes "main") 91) (pUnknown 95 96) no_attributes (bBlock 98 (statements_and (statements_and no_statements (sDeclaration (declares (words_and no_words (wType type.Int 102)) (declarators_and no_declarators None (named (codes "x") 106) fPlain no_attributes (iValue 108 (eCall (eName (codes "__VERIFIER_nondet_int") 110) 131 no_parts 132))) 133))) (sExpr (eAssign (eName (codes "x") 137) to.Plain 139 (eBinary (eName (codes "x") 141) op.Add 143 (eNumber 1 (form true false 0) 145))) 146)) 148)))

pub sum_overflows : typed.run 10 (elaborated sum_overflows_source Ilp32) (pos 2147483647 ∷ []) ≡ run 10 sum_overflows_source Ilp32 (pos 2147483647 ∷ [])
sum_overflows = refl

pub sum_fits : typed.run 10 (elaborated sum_overflows_source Ilp32) (pos 5 ∷ []) ≡ run 10 sum_overflows_source Ilp32 (pos 5 ∷ [])
sum_fits = refl

--   extern void abort(void);
--   extern int __VERIFIER_nondet_int(void);
--   void reach_error() {}
--   int main() {
--     unsigned int x = __VERIFIER_nondet_int();
--     x = x + 1;
--   }
abbrev unsigned_sum_wraps_source : Items
unsigned_sum_wraps_source = (items_and (items_and (items_and (items_and no_items (tDeclaration (declares (words_and (words_and no_words (wStorage storage.Extern 0)) (wType type.Void 7)) (declarators_and no_declarators None (named (codes "abort") 12) (fFunction (pVoid 17 18 22)) no_attributes iNothing) 23))) (tDeclaration (declares (words_and (words_and no_words (wStorage storage.Extern 25)) (wType type.Int 32)) (declarators_and no_declarators None (named (codes "__VERIFIER_nondet_int") 36) (fFunction (pVoid 57 58 62)) no_attributes iNothing) 63))) (tFunction (words_and no_words (wType type.Void 65)) (named (codes "reach_error") 70) (pUnknown 81 82) no_attributes (bSkipped 84 no_raw 85))) (tFunction (words_and no_words (wType type.Int 87)) (named (codes "main") 91) (pUnknown 95 96) no_attributes (bBlock 98 (statements_and (statements_and no_statements (sDeclaration (declares (words_and (words_and no_words (wType type.Unsigned 102)) (wType type.Int 111)) (declarators_and no_declarators None (named (codes "x") 115) fPlain no_attributes (iValue 117 (eCall (eName (codes "__VERIFIER_nondet_int") 119) 140 no_parts 141))) 142))) (sExpr (eAssign (eName (codes "x") 146) to.Plain 148 (eBinary (eName (codes "x") 150) op.Add 152 (eNumber 1 (form true false 0) 154))) 155)) 157)))

pub unsigned_sum_wraps : typed.run 10 (elaborated unsigned_sum_wraps_source Ilp32) (pos 2147483647 ∷ []) ≡ run 10 unsigned_sum_wraps_source Ilp32 (pos 2147483647 ∷ [])
unsigned_sum_wraps = refl

--   extern void abort(void);
--   extern int __VERIFIER_nondet_int(void);
--   void reach_error() {}
--   int main() {
--     int s = 1 << 31;
--   }
abbrev left_shift_overflows_source : Items
left_shift_overflows_source = (items_and (items_and (items_and (items_and no_items (tDeclaration (declares (words_and (words_and no_words (wStorage storage.Extern 0)) (wType type.Void 7)) (declarators_and no_declarators None (named (codes "abort") 12) (fFunction (pVoid 17 18 22)) no_attributes iNothing) 23))) (tDeclaration (declares (words_and (words_and no_words (wStorage storage.Extern 25)) (wType type.Int 32)) (declarators_and no_declarators None (named (codes "__VERIFIER_nondet_int") 36) (fFunction (pVoid 57 58 62)) no_attributes iNothing) 63))) (tFunction (words_and no_words (wType type.Void 65)) (named (codes "reach_error") 70) (pUnknown 81 82) no_attributes (bSkipped 84 no_raw 85))) (tFunction (words_and no_words (wType type.Int 87)) (named (codes "main") 91) (pUnknown 95 96) no_attributes (bBlock 98 (statements_and no_statements (sDeclaration (declares (words_and no_words (wType type.Int 102)) (declarators_and no_declarators None (named (codes "s") 106) fPlain no_attributes (iValue 108 (eBinary (eNumber 1 (form true false 0) 110) op.ShiftLeft 112 (eNumber 31 (form true false 0) 115)))) 117))) 119)))

pub left_shift_overflows : typed.run 10 (elaborated left_shift_overflows_source Ilp32) ([]) ≡ run 10 left_shift_overflows_source Ilp32 ([])
left_shift_overflows = refl

--   extern void abort(void);
--   extern int __VERIFIER_nondet_int(void);
--   void reach_error() {}
--   int main() {
--     unsigned s = 1u << 31;
--   }
abbrev unsigned_left_shift_source : Items
unsigned_left_shift_source = (items_and (items_and (items_and (items_and no_items (tDeclaration (declares (words_and (words_and no_words (wStorage storage.Extern 0)) (wType type.Void 7)) (declarators_and no_declarators None (named (codes "abort") 12) (fFunction (pVoid 17 18 22)) no_attributes iNothing) 23))) (tDeclaration (declares (words_and (words_and no_words (wStorage storage.Extern 25)) (wType type.Int 32)) (declarators_and no_declarators None (named (codes "__VERIFIER_nondet_int") 36) (fFunction (pVoid 57 58 62)) no_attributes iNothing) 63))) (tFunction (words_and no_words (wType type.Void 65)) (named (codes "reach_error") 70) (pUnknown 81 82) no_attributes (bSkipped 84 no_raw 85))) (tFunction (words_and no_words (wType type.Int 87)) (named (codes "main") 91) (pUnknown 95 96) no_attributes (bBlock 98 (statements_and no_statements (sDeclaration (declares (words_and no_words (wType type.Unsigned 102)) (declarators_and no_declarators None (named (codes "s") 111) fPlain no_attributes (iValue 113 (eBinary (eNumber 1 (form true true 0) 115) op.ShiftLeft 118 (eNumber 31 (form true false 0) 121)))) 123))) 125)))

pub unsigned_left_shift : typed.run 10 (elaborated unsigned_left_shift_source Ilp32) ([]) ≡ run 10 unsigned_left_shift_source Ilp32 ([])
unsigned_left_shift = refl

--   extern void abort(void);
--   extern int __VERIFIER_nondet_int(void);
--   void reach_error() {}
--   int main() {
--     int m = -2147483647 - 1;
--     int d = -1;
--     m = m % d;
--   }
abbrev least_by_minus_one_source : Items
least_by_minus_one_source = (items_and (items_and (items_and (items_and no_items (tDeclaration (declares (words_and (words_and no_words (wStorage storage.Extern 0)) (wType type.Void 7)) (declarators_and no_declarators None (named (codes "abort") 12) (fFunction (pVoid 17 18 22)) no_attributes iNothing) 23))) (tDeclaration (declares (words_and (words_and no_words (wStorage storage.Extern 25)) (wType type.Int 32)) (declarators_and no_declarators None (named (codes "__VERIFIER_nondet_int") 36) (fFunction (pVoid 57 58 62)) no_attributes iNothing) 63))) (tFunction (words_and no_words (wType type.Void 65)) (named (codes "reach_error") 70) (pUnknown 81 82) no_attributes (bSkipped 84 no_raw 85))) (tFunction (words_and no_words (wType type.Int 87)) (named (codes "main") 91) (pUnknown 95 96) no_attributes (bBlock 98 (statements_and (statements_and (statements_and no_statements (sDeclaration (declares (words_and no_words (wType type.Int 102)) (declarators_and no_declarators None (named (codes "m") 106) fPlain no_attributes (iValue 108 (eBinary (ePrefix pre.Minus 110 (eNumber 2147483647 (form true false 0) 111)) op.Subtract 122 (eNumber 1 (form true false 0) 124)))) 125))) (sDeclaration (declares (words_and no_words (wType type.Int 129)) (declarators_and no_declarators None (named (codes "d") 133) fPlain no_attributes (iValue 135 (ePrefix pre.Minus 137 (eNumber 1 (form true false 0) 138)))) 139))) (sExpr (eAssign (eName (codes "m") 143) to.Plain 145 (eBinary (eName (codes "m") 147) op.Remainder 149 (eName (codes "d") 151))) 152)) 154)))

pub least_by_minus_one : typed.run 10 (elaborated least_by_minus_one_source Ilp32) ([]) ≡ run 10 least_by_minus_one_source Ilp32 ([])
least_by_minus_one = refl

--   extern void abort(void);
--   extern int __VERIFIER_nondet_int(void);
--   void reach_error() {}
--   int main() {
--     if (-1 < 0u) reach_error();
--   }
abbrev compare_unsigned_source : Items
compare_unsigned_source = (items_and (items_and (items_and (items_and no_items (tDeclaration (declares (words_and (words_and no_words (wStorage storage.Extern 0)) (wType type.Void 7)) (declarators_and no_declarators None (named (codes "abort") 12) (fFunction (pVoid 17 18 22)) no_attributes iNothing) 23))) (tDeclaration (declares (words_and (words_and no_words (wStorage storage.Extern 25)) (wType type.Int 32)) (declarators_and no_declarators None (named (codes "__VERIFIER_nondet_int") 36) (fFunction (pVoid 57 58 62)) no_attributes iNothing) 63))) (tFunction (words_and no_words (wType type.Void 65)) (named (codes "reach_error") 70) (pUnknown 81 82) no_attributes (bSkipped 84 no_raw 85))) (tFunction (words_and no_words (wType type.Int 87)) (named (codes "main") 91) (pUnknown 95 96) no_attributes (bBlock 98 (statements_and no_statements (sIf (head 102 105 (eBinary (ePrefix pre.Minus 106 (eNumber 1 (form true false 0) 107)) op.Less 109 (eNumber 0 (form false true 0) 111)) 113) (sExpr (eCall (eName (codes "reach_error") 115) 126 no_parts 127) 128))) 130)))

pub compare_unsigned : typed.run 10 (elaborated compare_unsigned_source Ilp32) ([]) ≡ run 10 compare_unsigned_source Ilp32 ([])
compare_unsigned = refl

--   extern void abort(void);
--   extern int __VERIFIER_nondet_int(void);
--   void reach_error() {}
--   int main() {
--     long x = 2147483647;
--     x = x + 1;
--   }
abbrev long_of_32_bits_source : Items
long_of_32_bits_source = (items_and (items_and (items_and (items_and no_items (tDeclaration (declares (words_and (words_and no_words (wStorage storage.Extern 0)) (wType type.Void 7)) (declarators_and no_declarators None (named (codes "abort") 12) (fFunction (pVoid 17 18 22)) no_attributes iNothing) 23))) (tDeclaration (declares (words_and (words_and no_words (wStorage storage.Extern 25)) (wType type.Int 32)) (declarators_and no_declarators None (named (codes "__VERIFIER_nondet_int") 36) (fFunction (pVoid 57 58 62)) no_attributes iNothing) 63))) (tFunction (words_and no_words (wType type.Void 65)) (named (codes "reach_error") 70) (pUnknown 81 82) no_attributes (bSkipped 84 no_raw 85))) (tFunction (words_and no_words (wType type.Int 87)) (named (codes "main") 91) (pUnknown 95 96) no_attributes (bBlock 98 (statements_and (statements_and no_statements (sDeclaration (declares (words_and no_words (wType type.Long 102)) (declarators_and no_declarators None (named (codes "x") 107) fPlain no_attributes (iValue 109 (eNumber 2147483647 (form true false 0) 111))) 121))) (sExpr (eAssign (eName (codes "x") 125) to.Plain 127 (eBinary (eName (codes "x") 129) op.Add 131 (eNumber 1 (form true false 0) 133))) 134)) 136)))

pub long_of_32_bits : typed.run 10 (elaborated long_of_32_bits_source Ilp32) ([]) ≡ run 10 long_of_32_bits_source Ilp32 ([])
long_of_32_bits = refl

pub long_of_64_bits : typed.run 10 (elaborated long_of_32_bits_source Lp64) ([]) ≡ run 10 long_of_32_bits_source Lp64 ([])
long_of_64_bits = refl

--   extern void abort(void);
--   extern int __VERIFIER_nondet_int(void);
--   void reach_error() {}
--   int main() {
--     int a[4];
--     int i = __VERIFIER_nondet_int();
--     if (i >= 0 && i <= 4) a[i] = 1;
--   }
abbrev index_past_the_end_source : Items
index_past_the_end_source = (items_and (items_and (items_and (items_and no_items (tDeclaration (declares (words_and (words_and no_words (wStorage storage.Extern 0)) (wType type.Void 7)) (declarators_and no_declarators None (named (codes "abort") 12) (fFunction (pVoid 17 18 22)) no_attributes iNothing) 23))) (tDeclaration (declares (words_and (words_and no_words (wStorage storage.Extern 25)) (wType type.Int 32)) (declarators_and no_declarators None (named (codes "__VERIFIER_nondet_int") 36) (fFunction (pVoid 57 58 62)) no_attributes iNothing) 63))) (tFunction (words_and no_words (wType type.Void 65)) (named (codes "reach_error") 70) (pUnknown 81 82) no_attributes (bSkipped 84 no_raw 85))) (tFunction (words_and no_words (wType type.Int 87)) (named (codes "main") 91) (pUnknown 95 96) no_attributes (bBlock 98 (statements_and (statements_and (statements_and no_statements (sDeclaration (declares (words_and no_words (wType type.Int 102)) (declarators_and no_declarators None (named (codes "a") 106) (fArray 107 (Some (eNumber 4 (form true false 0) 108)) 109) no_attributes iNothing) 110))) (sDeclaration (declares (words_and no_words (wType type.Int 114)) (declarators_and no_declarators None (named (codes "i") 118) fPlain no_attributes (iValue 120 (eCall (eName (codes "__VERIFIER_nondet_int") 122) 143 no_parts 144))) 145))) (sIf (head 149 152 (eBinary (eBinary (eName (codes "i") 153) op.GreaterEqual 155 (eNumber 0 (form false false 0) 158)) op.AndAlso 160 (eBinary (eName (codes "i") 163) op.LessEqual 165 (eNumber 4 (form true false 0) 168))) 169) (sExpr (eAssign (eIndex (eName (codes "a") 171) 172 (eName (codes "i") 173) 174) to.Plain 176 (eNumber 1 (form true false 0) 178)) 179))) 181)))

pub index_past_the_end : typed.run 10 (elaborated index_past_the_end_source Ilp32) (pos 0 ∷ pos 0 ∷ pos 0 ∷ pos 0 ∷ pos 4 ∷ []) ≡ run 10 index_past_the_end_source Ilp32 (pos 0 ∷ pos 0 ∷ pos 0 ∷ pos 0 ∷ pos 4 ∷ [])
index_past_the_end = refl

pub index_within : typed.run 10 (elaborated index_past_the_end_source Ilp32) (pos 0 ∷ pos 0 ∷ pos 0 ∷ pos 0 ∷ pos 3 ∷ []) ≡ run 10 index_past_the_end_source Ilp32 (pos 0 ∷ pos 0 ∷ pos 0 ∷ pos 0 ∷ pos 3 ∷ [])
index_within = refl

--   extern void abort(void);
--   extern int __VERIFIER_nondet_int(void);
--   void reach_error() {}
--   int main() {
--     int d = 0;
--     d = 1 / d;
--   }
abbrev divisor_zero_source : Items
divisor_zero_source = (items_and (items_and (items_and (items_and no_items (tDeclaration (declares (words_and (words_and no_words (wStorage storage.Extern 0)) (wType type.Void 7)) (declarators_and no_declarators None (named (codes "abort") 12) (fFunction (pVoid 17 18 22)) no_attributes iNothing) 23))) (tDeclaration (declares (words_and (words_and no_words (wStorage storage.Extern 25)) (wType type.Int 32)) (declarators_and no_declarators None (named (codes "__VERIFIER_nondet_int") 36) (fFunction (pVoid 57 58 62)) no_attributes iNothing) 63))) (tFunction (words_and no_words (wType type.Void 65)) (named (codes "reach_error") 70) (pUnknown 81 82) no_attributes (bSkipped 84 no_raw 85))) (tFunction (words_and no_words (wType type.Int 87)) (named (codes "main") 91) (pUnknown 95 96) no_attributes (bBlock 98 (statements_and (statements_and no_statements (sDeclaration (declares (words_and no_words (wType type.Int 102)) (declarators_and no_declarators None (named (codes "d") 106) fPlain no_attributes (iValue 108 (eNumber 0 (form false false 0) 110))) 111))) (sExpr (eAssign (eName (codes "d") 115) to.Plain 117 (eBinary (eNumber 1 (form true false 0) 119) op.Divide 121 (eName (codes "d") 123))) 124)) 126)))

pub divisor_zero : typed.run 10 (elaborated divisor_zero_source Ilp32) ([]) ≡ run 10 divisor_zero_source Ilp32 ([])
divisor_zero = refl

--   int f(void) { }
--   int main() {
--     int x = f();
--   }
abbrev missing_return_source : Items
missing_return_source = (items_and (items_and no_items (tFunction (words_and no_words (wType type.Int 0)) (named (codes "f") 4) (pVoid 5 6 10) no_attributes (bBlock 12 no_statements 14))) (tFunction (words_and no_words (wType type.Int 16)) (named (codes "main") 20) (pUnknown 24 25) no_attributes (bBlock 27 (statements_and no_statements (sDeclaration (declares (words_and no_words (wType type.Int 31)) (declarators_and no_declarators None (named (codes "x") 35) fPlain no_attributes (iValue 37 (eCall (eName (codes "f") 39) 40 no_parts 41))) 42))) 44)))

pub missing_return : typed.run 10 (elaborated missing_return_source Ilp32) ([]) ≡ run 10 missing_return_source Ilp32 ([])
missing_return = refl

--   int f(void) { }
--   int main() {
--     f();
--   }
abbrev missing_unused_source : Items
missing_unused_source = (items_and (items_and no_items (tFunction (words_and no_words (wType type.Int 0)) (named (codes "f") 4) (pVoid 5 6 10) no_attributes (bBlock 12 no_statements 14))) (tFunction (words_and no_words (wType type.Int 16)) (named (codes "main") 20) (pUnknown 24 25) no_attributes (bBlock 27 (statements_and no_statements (sExpr (eCall (eName (codes "f") 31) 32 no_parts 33) 34)) 36)))

pub missing_unused : typed.run 10 (elaborated missing_unused_source Ilp32) ([]) ≡ run 10 missing_unused_source Ilp32 ([])
missing_unused = refl

--   extern void abort(void);
--   extern int __VERIFIER_nondet_int(void);
--   void reach_error() {}
--   int main() {
--     while (1) {}
--   }
abbrev endless_source : Items
endless_source = (items_and (items_and (items_and (items_and no_items (tDeclaration (declares (words_and (words_and no_words (wStorage storage.Extern 0)) (wType type.Void 7)) (declarators_and no_declarators None (named (codes "abort") 12) (fFunction (pVoid 17 18 22)) no_attributes iNothing) 23))) (tDeclaration (declares (words_and (words_and no_words (wStorage storage.Extern 25)) (wType type.Int 32)) (declarators_and no_declarators None (named (codes "__VERIFIER_nondet_int") 36) (fFunction (pVoid 57 58 62)) no_attributes iNothing) 63))) (tFunction (words_and no_words (wType type.Void 65)) (named (codes "reach_error") 70) (pUnknown 81 82) no_attributes (bSkipped 84 no_raw 85))) (tFunction (words_and no_words (wType type.Int 87)) (named (codes "main") 91) (pUnknown 95 96) no_attributes (bBlock 98 (statements_and no_statements (sWhile (head 102 108 (eNumber 1 (form true false 0) 109) 110) (sBlock 112 no_statements 113))) 115)))

pub endless : typed.run 5 (elaborated endless_source Ilp32) ([]) ≡ run 5 endless_source Ilp32 ([])
endless = refl

--   int x; int main() { L: x = 1 - x; goto L; }
abbrev goto_takes_turns_source : Items
goto_takes_turns_source = (items_and (items_and no_items (tDeclaration (declares (words_and no_words (wType type.Int 0)) (declarators_and no_declarators None (named (codes "x") 4) fPlain no_attributes iNothing) 5))) (tFunction (words_and no_words (wType type.Int 7)) (named (codes "main") 11) (pUnknown 15 16) no_attributes (bBlock 18 (statements_and (statements_and no_statements (sLabel (codes "L") 20 21 no_attributes (sExpr (eAssign (eName (codes "x") 23) to.Plain 25 (eBinary (eNumber 1 (form true false 0) 27) op.Subtract 29 (eName (codes "x") 31))) 32))) (sGoto 34 (codes "L") 39 40)) 42)))

pub goto_takes_turns : typed.run 3 (elaborated goto_takes_turns_source Ilp32) ([]) ≡ run 3 goto_takes_turns_source Ilp32 ([])
goto_takes_turns = refl

--   extern void abort(void);
--   extern int __VERIFIER_nondet_int(void);
--   void reach_error() {}
--   int main() {
--     unsigned int i = 0;
--     while (i < 4) i++;
--     if (i == 4) reach_error();
--   }
abbrev loop_counts_source : Items
loop_counts_source = (items_and (items_and (items_and (items_and no_items (tDeclaration (declares (words_and (words_and no_words (wStorage storage.Extern 0)) (wType type.Void 7)) (declarators_and no_declarators None (named (codes "abort") 12) (fFunction (pVoid 17 18 22)) no_attributes iNothing) 23))) (tDeclaration (declares (words_and (words_and no_words (wStorage storage.Extern 25)) (wType type.Int 32)) (declarators_and no_declarators None (named (codes "__VERIFIER_nondet_int") 36) (fFunction (pVoid 57 58 62)) no_attributes iNothing) 63))) (tFunction (words_and no_words (wType type.Void 65)) (named (codes "reach_error") 70) (pUnknown 81 82) no_attributes (bSkipped 84 no_raw 85))) (tFunction (words_and no_words (wType type.Int 87)) (named (codes "main") 91) (pUnknown 95 96) no_attributes (bBlock 98 (statements_and (statements_and (statements_and no_statements (sDeclaration (declares (words_and (words_and no_words (wType type.Unsigned 102)) (wType type.Int 111)) (declarators_and no_declarators None (named (codes "i") 115) fPlain no_attributes (iValue 117 (eNumber 0 (form false false 0) 119))) 120))) (sWhile (head 124 130 (eBinary (eName (codes "i") 131) op.Less 133 (eNumber 4 (form true false 0) 135)) 136) (sExpr (ePostfix (eName (codes "i") 138) by.Increment 139) 141))) (sIf (head 145 148 (eBinary (eName (codes "i") 149) op.Equal 151 (eNumber 4 (form true false 0) 154)) 155) (sExpr (eCall (eName (codes "reach_error") 157) 168 no_parts 169) 170))) 172)))

pub loop_counts : typed.run 10 (elaborated loop_counts_source Ilp32) ([]) ≡ run 10 loop_counts_source Ilp32 ([])
loop_counts = refl

--   extern void abort(void);
--   extern int __VERIFIER_nondet_int(void);
--   void reach_error() {}
--   int main() {
--     int s = 0;
--     for (int i = 0; i < 3; i++) { if (i == 1) continue; s += i; }
--     if (s == 2) reach_error();
--   }
abbrev for_continue_source : Items
for_continue_source = (items_and (items_and (items_and (items_and no_items (tDeclaration (declares (words_and (words_and no_words (wStorage storage.Extern 0)) (wType type.Void 7)) (declarators_and no_declarators None (named (codes "abort") 12) (fFunction (pVoid 17 18 22)) no_attributes iNothing) 23))) (tDeclaration (declares (words_and (words_and no_words (wStorage storage.Extern 25)) (wType type.Int 32)) (declarators_and no_declarators None (named (codes "__VERIFIER_nondet_int") 36) (fFunction (pVoid 57 58 62)) no_attributes iNothing) 63))) (tFunction (words_and no_words (wType type.Void 65)) (named (codes "reach_error") 70) (pUnknown 81 82) no_attributes (bSkipped 84 no_raw 85))) (tFunction (words_and no_words (wType type.Int 87)) (named (codes "main") 91) (pUnknown 95 96) no_attributes (bBlock 98 (statements_and (statements_and (statements_and no_statements (sDeclaration (declares (words_and no_words (wType type.Int 102)) (declarators_and no_declarators None (named (codes "s") 106) fPlain no_attributes (iValue 108 (eNumber 0 (form false false 0) 110))) 111))) (sFor (for_head 115 119 (forDeclares (declares (words_and no_words (wType type.Int 120)) (declarators_and no_declarators None (named (codes "i") 124) fPlain no_attributes (iValue 126 (eNumber 0 (form false false 0) 128))) 129)) (Some (eBinary (eName (codes "i") 131) op.Less 133 (eNumber 3 (form true false 0) 135))) 136 (Some (ePostfix (eName (codes "i") 138) by.Increment 139)) 141) (sBlock 143 (statements_and (statements_and no_statements (sIf (head 145 148 (eBinary (eName (codes "i") 149) op.Equal 151 (eNumber 1 (form true false 0) 154)) 155) (sContinue 157 165))) (sExpr (eAssign (eName (codes "s") 167) to.Add 169 (eName (codes "i") 172)) 173)) 175))) (sIf (head 179 182 (eBinary (eName (codes "s") 183) op.Equal 185 (eNumber 2 (form true false 0) 188)) 189) (sExpr (eCall (eName (codes "reach_error") 191) 202 no_parts 203) 204))) 206)))

pub for_continue : typed.run 10 (elaborated for_continue_source Ilp32) ([]) ≡ run 10 for_continue_source Ilp32 ([])
for_continue = refl

--   extern void abort(void);
--   extern int __VERIFIER_nondet_int(void);
--   void reach_error() {}
--   int main() {
--     int x = 2; int y = 0;
--     switch (x) { case 1: y = 10; case 2: y += 1; case 3: y += 1; break; default: y = 5; }
--     if (y == 2) reach_error();
--   }
abbrev switch_falls_through_source : Items
switch_falls_through_source = (items_and (items_and (items_and (items_and no_items (tDeclaration (declares (words_and (words_and no_words (wStorage storage.Extern 0)) (wType type.Void 7)) (declarators_and no_declarators None (named (codes "abort") 12) (fFunction (pVoid 17 18 22)) no_attributes iNothing) 23))) (tDeclaration (declares (words_and (words_and no_words (wStorage storage.Extern 25)) (wType type.Int 32)) (declarators_and no_declarators None (named (codes "__VERIFIER_nondet_int") 36) (fFunction (pVoid 57 58 62)) no_attributes iNothing) 63))) (tFunction (words_and no_words (wType type.Void 65)) (named (codes "reach_error") 70) (pUnknown 81 82) no_attributes (bSkipped 84 no_raw 85))) (tFunction (words_and no_words (wType type.Int 87)) (named (codes "main") 91) (pUnknown 95 96) no_attributes (bBlock 98 (statements_and (statements_and (statements_and (statements_and no_statements (sDeclaration (declares (words_and no_words (wType type.Int 102)) (declarators_and no_declarators None (named (codes "x") 106) fPlain no_attributes (iValue 108 (eNumber 2 (form true false 0) 110))) 111))) (sDeclaration (declares (words_and no_words (wType type.Int 113)) (declarators_and no_declarators None (named (codes "y") 117) fPlain no_attributes (iValue 119 (eNumber 0 (form false false 0) 121))) 122))) (sSwitch (head 126 133 (eName (codes "x") 134) 135) (sBlock 137 (statements_and (statements_and (statements_and (statements_and (statements_and no_statements (sCase 139 (eNumber 1 (form true false 0) 144) 145 (sExpr (eAssign (eName (codes "y") 147) to.Plain 149 (eNumber 10 (form true false 0) 151)) 153))) (sCase 155 (eNumber 2 (form true false 0) 160) 161 (sExpr (eAssign (eName (codes "y") 163) to.Add 165 (eNumber 1 (form true false 0) 168)) 169))) (sCase 171 (eNumber 3 (form true false 0) 176) 177 (sExpr (eAssign (eName (codes "y") 179) to.Add 181 (eNumber 1 (form true false 0) 184)) 185))) (sBreak 187 192)) (sDefault 194 201 (sExpr (eAssign (eName (codes "y") 203) to.Plain 205 (eNumber 5 (form true false 0) 207)) 208))) 210))) (sIf (head 214 217 (eBinary (eName (codes "y") 218) op.Equal 220 (eNumber 2 (form true false 0) 223)) 224) (sExpr (eCall (eName (codes "reach_error") 226) 237 no_parts 238) 239))) 241)))

pub switch_falls_through : typed.run 10 (elaborated switch_falls_through_source Ilp32) ([]) ≡ run 10 switch_falls_through_source Ilp32 ([])
switch_falls_through = refl

--   extern void abort(void);
--   extern int __VERIFIER_nondet_int(void);
--   void reach_error() {}
--   int main() {
--     int x = 9; int y = 0;
--     switch (x) { case 1: y = 10; default: y += 5; case 3: y += 1; break; case 4: y = 0; }
--     if (y == 6) reach_error();
--   }
abbrev switch_default_in_the_middle_source : Items
switch_default_in_the_middle_source = (items_and (items_and (items_and (items_and no_items (tDeclaration (declares (words_and (words_and no_words (wStorage storage.Extern 0)) (wType type.Void 7)) (declarators_and no_declarators None (named (codes "abort") 12) (fFunction (pVoid 17 18 22)) no_attributes iNothing) 23))) (tDeclaration (declares (words_and (words_and no_words (wStorage storage.Extern 25)) (wType type.Int 32)) (declarators_and no_declarators None (named (codes "__VERIFIER_nondet_int") 36) (fFunction (pVoid 57 58 62)) no_attributes iNothing) 63))) (tFunction (words_and no_words (wType type.Void 65)) (named (codes "reach_error") 70) (pUnknown 81 82) no_attributes (bSkipped 84 no_raw 85))) (tFunction (words_and no_words (wType type.Int 87)) (named (codes "main") 91) (pUnknown 95 96) no_attributes (bBlock 98 (statements_and (statements_and (statements_and (statements_and no_statements (sDeclaration (declares (words_and no_words (wType type.Int 102)) (declarators_and no_declarators None (named (codes "x") 106) fPlain no_attributes (iValue 108 (eNumber 9 (form true false 0) 110))) 111))) (sDeclaration (declares (words_and no_words (wType type.Int 113)) (declarators_and no_declarators None (named (codes "y") 117) fPlain no_attributes (iValue 119 (eNumber 0 (form false false 0) 121))) 122))) (sSwitch (head 126 133 (eName (codes "x") 134) 135) (sBlock 137 (statements_and (statements_and (statements_and (statements_and (statements_and no_statements (sCase 139 (eNumber 1 (form true false 0) 144) 145 (sExpr (eAssign (eName (codes "y") 147) to.Plain 149 (eNumber 10 (form true false 0) 151)) 153))) (sDefault 155 162 (sExpr (eAssign (eName (codes "y") 164) to.Add 166 (eNumber 5 (form true false 0) 169)) 170))) (sCase 172 (eNumber 3 (form true false 0) 177) 178 (sExpr (eAssign (eName (codes "y") 180) to.Add 182 (eNumber 1 (form true false 0) 185)) 186))) (sBreak 188 193)) (sCase 195 (eNumber 4 (form true false 0) 200) 201 (sExpr (eAssign (eName (codes "y") 203) to.Plain 205 (eNumber 0 (form false false 0) 207)) 208))) 210))) (sIf (head 214 217 (eBinary (eName (codes "y") 218) op.Equal 220 (eNumber 6 (form true false 0) 223)) 224) (sExpr (eCall (eName (codes "reach_error") 226) 237 no_parts 238) 239))) 241)))

pub switch_default_in_the_middle : typed.run 10 (elaborated switch_default_in_the_middle_source Ilp32) ([]) ≡ run 10 switch_default_in_the_middle_source Ilp32 ([])
switch_default_in_the_middle = refl

--   extern void abort(void);
--   extern int __VERIFIER_nondet_int(void);
--   void reach_error() {}
--   int main() {
--     int n = 3; int k = 0;
--     switch (n % 2) { do { k++; case 1: k += 10; n--; default: ; } while (n > 1); }
--     if (k == 21) reach_error();
--   }
abbrev duff_source : Items
duff_source = (items_and (items_and (items_and (items_and no_items (tDeclaration (declares (words_and (words_and no_words (wStorage storage.Extern 0)) (wType type.Void 7)) (declarators_and no_declarators None (named (codes "abort") 12) (fFunction (pVoid 17 18 22)) no_attributes iNothing) 23))) (tDeclaration (declares (words_and (words_and no_words (wStorage storage.Extern 25)) (wType type.Int 32)) (declarators_and no_declarators None (named (codes "__VERIFIER_nondet_int") 36) (fFunction (pVoid 57 58 62)) no_attributes iNothing) 63))) (tFunction (words_and no_words (wType type.Void 65)) (named (codes "reach_error") 70) (pUnknown 81 82) no_attributes (bSkipped 84 no_raw 85))) (tFunction (words_and no_words (wType type.Int 87)) (named (codes "main") 91) (pUnknown 95 96) no_attributes (bBlock 98 (statements_and (statements_and (statements_and (statements_and no_statements (sDeclaration (declares (words_and no_words (wType type.Int 102)) (declarators_and no_declarators None (named (codes "n") 106) fPlain no_attributes (iValue 108 (eNumber 3 (form true false 0) 110))) 111))) (sDeclaration (declares (words_and no_words (wType type.Int 113)) (declarators_and no_declarators None (named (codes "k") 117) fPlain no_attributes (iValue 119 (eNumber 0 (form false false 0) 121))) 122))) (sSwitch (head 126 133 (eBinary (eName (codes "n") 134) op.Remainder 136 (eNumber 2 (form true false 0) 138)) 139) (sBlock 141 (statements_and no_statements (sDo 143 (sBlock 146 (statements_and (statements_and (statements_and (statements_and no_statements (sExpr (ePostfix (eName (codes "k") 148) by.Increment 149) 151)) (sCase 153 (eNumber 1 (form true false 0) 158) 159 (sExpr (eAssign (eName (codes "k") 161) to.Add 163 (eNumber 10 (form true false 0) 166)) 168))) (sExpr (ePostfix (eName (codes "n") 170) by.Decrement 171) 173)) (sDefault 175 182 (sEmpty 184))) 186) (head 188 194 (eBinary (eName (codes "n") 195) op.Greater 197 (eNumber 1 (form true false 0) 199)) 200) 201)) 203))) (sIf (head 207 210 (eBinary (eName (codes "k") 211) op.Equal 213 (eNumber 21 (form true false 0) 216)) 218) (sExpr (eCall (eName (codes "reach_error") 220) 231 no_parts 232) 233))) 235)))

pub duff : typed.run 10 (elaborated duff_source Ilp32) ([]) ≡ run 10 duff_source Ilp32 ([])
duff = refl

--   extern void abort(void);
--   extern int __VERIFIER_nondet_int(void);
--   void reach_error() {}
--   int main() {
--     int k = 0;
--     goto L;
--     while (k < 2) { k += 10; L: k += 1; }
--     if (k == 12) reach_error();
--   }
abbrev goto_into_a_loop_source : Items
goto_into_a_loop_source = (items_and (items_and (items_and (items_and no_items (tDeclaration (declares (words_and (words_and no_words (wStorage storage.Extern 0)) (wType type.Void 7)) (declarators_and no_declarators None (named (codes "abort") 12) (fFunction (pVoid 17 18 22)) no_attributes iNothing) 23))) (tDeclaration (declares (words_and (words_and no_words (wStorage storage.Extern 25)) (wType type.Int 32)) (declarators_and no_declarators None (named (codes "__VERIFIER_nondet_int") 36) (fFunction (pVoid 57 58 62)) no_attributes iNothing) 63))) (tFunction (words_and no_words (wType type.Void 65)) (named (codes "reach_error") 70) (pUnknown 81 82) no_attributes (bSkipped 84 no_raw 85))) (tFunction (words_and no_words (wType type.Int 87)) (named (codes "main") 91) (pUnknown 95 96) no_attributes (bBlock 98 (statements_and (statements_and (statements_and (statements_and no_statements (sDeclaration (declares (words_and no_words (wType type.Int 102)) (declarators_and no_declarators None (named (codes "k") 106) fPlain no_attributes (iValue 108 (eNumber 0 (form false false 0) 110))) 111))) (sGoto 115 (codes "L") 120 121)) (sWhile (head 125 131 (eBinary (eName (codes "k") 132) op.Less 134 (eNumber 2 (form true false 0) 136)) 137) (sBlock 139 (statements_and (statements_and no_statements (sExpr (eAssign (eName (codes "k") 141) to.Add 143 (eNumber 10 (form true false 0) 146)) 148)) (sLabel (codes "L") 150 151 no_attributes (sExpr (eAssign (eName (codes "k") 153) to.Add 155 (eNumber 1 (form true false 0) 158)) 159))) 161))) (sIf (head 165 168 (eBinary (eName (codes "k") 169) op.Equal 171 (eNumber 12 (form true false 0) 174)) 176) (sExpr (eCall (eName (codes "reach_error") 178) 189 no_parts 190) 191))) 193)))

pub goto_into_a_loop : typed.run 10 (elaborated goto_into_a_loop_source Ilp32) ([]) ≡ run 10 goto_into_a_loop_source Ilp32 ([])
goto_into_a_loop = refl

--   void reach_error() {}
--   int f(int a, int b) { return a * 10 + b; }
--   int main() {
--     int x = 1;
--     if (f(x, x = 2) == 12) reach_error();
--   }
abbrev calls_and_arguments_source : Items
calls_and_arguments_source = (items_and (items_and (items_and no_items (tFunction (words_and no_words (wType type.Void 0)) (named (codes "reach_error") 5) (pUnknown 16 17) no_attributes (bSkipped 19 no_raw 20))) (tFunction (words_and no_words (wType type.Int 22)) (named (codes "f") 26) (pSome 27 (params_and (params_and no_params None (words_and no_words (wType type.Int 28)) (Some (named (codes "a") 32))) (Some 33) (words_and no_words (wType type.Int 35)) (Some (named (codes "b") 39))) 40) no_attributes (bBlock 42 (statements_and no_statements (sReturn 44 (Some (eBinary (eBinary (eName (codes "a") 51) op.Multiply 53 (eNumber 10 (form true false 0) 55)) op.Add 58 (eName (codes "b") 60))) 61)) 63))) (tFunction (words_and no_words (wType type.Int 65)) (named (codes "main") 69) (pUnknown 73 74) no_attributes (bBlock 76 (statements_and (statements_and no_statements (sDeclaration (declares (words_and no_words (wType type.Int 80)) (declarators_and no_declarators None (named (codes "x") 84) fPlain no_attributes (iValue 86 (eNumber 1 (form true false 0) 88))) 89))) (sIf (head 93 96 (eBinary (eCall (eName (codes "f") 97) 98 (parts_and (parts_and no_parts None (eName (codes "x") 99)) (Some 100) (eAssign (eName (codes "x") 102) to.Plain 104 (eNumber 2 (form true false 0) 106))) 107) op.Equal 109 (eNumber 12 (form true false 0) 112)) 114) (sExpr (eCall (eName (codes "reach_error") 116) 127 no_parts 128) 129))) 131)))

pub calls_and_arguments : typed.run 10 (elaborated calls_and_arguments_source Ilp32) ([]) ≡ run 10 calls_and_arguments_source Ilp32 ([])
calls_and_arguments = refl

--   extern void abort(void);
--   extern int __VERIFIER_nondet_int(void);
--   void reach_error() {}
--   int main() {
--     int a[3] = {a[1], 5};
--     if (a[0] == 0 && a[1] == 5 && a[2] == 0) reach_error();
--   }
abbrev array_in_its_own_initializer_source : Items
array_in_its_own_initializer_source = (items_and (items_and (items_and (items_and no_items (tDeclaration (declares (words_and (words_and no_words (wStorage storage.Extern 0)) (wType type.Void 7)) (declarators_and no_declarators None (named (codes "abort") 12) (fFunction (pVoid 17 18 22)) no_attributes iNothing) 23))) (tDeclaration (declares (words_and (words_and no_words (wStorage storage.Extern 25)) (wType type.Int 32)) (declarators_and no_declarators None (named (codes "__VERIFIER_nondet_int") 36) (fFunction (pVoid 57 58 62)) no_attributes iNothing) 63))) (tFunction (words_and no_words (wType type.Void 65)) (named (codes "reach_error") 70) (pUnknown 81 82) no_attributes (bSkipped 84 no_raw 85))) (tFunction (words_and no_words (wType type.Int 87)) (named (codes "main") 91) (pUnknown 95 96) no_attributes (bBlock 98 (statements_and (statements_and no_statements (sDeclaration (declares (words_and no_words (wType type.Int 102)) (declarators_and no_declarators None (named (codes "a") 106) (fArray 107 (Some (eNumber 3 (form true false 0) 108)) 109) no_attributes (iList 111 113 (parts_and (parts_and no_parts None (eIndex (eName (codes "a") 114) 115 (eNumber 1 (form true false 0) 116) 117)) (Some 118) (eNumber 5 (form true false 0) 120)) None 121)) 122))) (sIf (head 126 129 (eBinary (eBinary (eBinary (eIndex (eName (codes "a") 130) 131 (eNumber 0 (form false false 0) 132) 133) op.Equal 135 (eNumber 0 (form false false 0) 138)) op.AndAlso 140 (eBinary (eIndex (eName (codes "a") 143) 144 (eNumber 1 (form true false 0) 145) 146) op.Equal 148 (eNumber 5 (form true false 0) 151))) op.AndAlso 153 (eBinary (eIndex (eName (codes "a") 156) 157 (eNumber 2 (form true false 0) 158) 159) op.Equal 161 (eNumber 0 (form false false 0) 164))) 165) (sExpr (eCall (eName (codes "reach_error") 167) 178 no_parts 179) 180))) 182)))

pub array_in_its_own_initializer : typed.run 10 (elaborated array_in_its_own_initializer_source Ilp32) ([]) ≡ run 10 array_in_its_own_initializer_source Ilp32 ([])
array_in_its_own_initializer = refl

--   extern void abort(void);
--   extern int __VERIFIER_nondet_int(void);
--   void reach_error() {}
--   int main() {
--     int a[1] = {0}; int z = 0;
--     a[1] = 1 / z;
--   }
abbrev index_before_right_side_source : Items
index_before_right_side_source = (items_and (items_and (items_and (items_and no_items (tDeclaration (declares (words_and (words_and no_words (wStorage storage.Extern 0)) (wType type.Void 7)) (declarators_and no_declarators None (named (codes "abort") 12) (fFunction (pVoid 17 18 22)) no_attributes iNothing) 23))) (tDeclaration (declares (words_and (words_and no_words (wStorage storage.Extern 25)) (wType type.Int 32)) (declarators_and no_declarators None (named (codes "__VERIFIER_nondet_int") 36) (fFunction (pVoid 57 58 62)) no_attributes iNothing) 63))) (tFunction (words_and no_words (wType type.Void 65)) (named (codes "reach_error") 70) (pUnknown 81 82) no_attributes (bSkipped 84 no_raw 85))) (tFunction (words_and no_words (wType type.Int 87)) (named (codes "main") 91) (pUnknown 95 96) no_attributes (bBlock 98 (statements_and (statements_and (statements_and no_statements (sDeclaration (declares (words_and no_words (wType type.Int 102)) (declarators_and no_declarators None (named (codes "a") 106) (fArray 107 (Some (eNumber 1 (form true false 0) 108)) 109) no_attributes (iList 111 113 (parts_and no_parts None (eNumber 0 (form false false 0) 114)) None 115)) 116))) (sDeclaration (declares (words_and no_words (wType type.Int 118)) (declarators_and no_declarators None (named (codes "z") 122) fPlain no_attributes (iValue 124 (eNumber 0 (form false false 0) 126))) 127))) (sExpr (eAssign (eIndex (eName (codes "a") 131) 132 (eNumber 1 (form true false 0) 133) 134) to.Plain 136 (eBinary (eNumber 1 (form true false 0) 138) op.Divide 140 (eName (codes "z") 142))) 143)) 145)))

pub index_before_right_side : typed.run 10 (elaborated index_before_right_side_source Ilp32) ([]) ≡ run 10 index_before_right_side_source Ilp32 ([])
index_before_right_side = refl

--   extern void abort(void);
--   extern int __VERIFIER_nondet_int(void);
--   void reach_error() {}
--   int main() {
--     char c = 1; long long m = 3;
--     if (sizeof(c << m) == 4) reach_error();
--   }
abbrev shift_promotes_alone_source : Items
shift_promotes_alone_source = (items_and (items_and (items_and (items_and no_items (tDeclaration (declares (words_and (words_and no_words (wStorage storage.Extern 0)) (wType type.Void 7)) (declarators_and no_declarators None (named (codes "abort") 12) (fFunction (pVoid 17 18 22)) no_attributes iNothing) 23))) (tDeclaration (declares (words_and (words_and no_words (wStorage storage.Extern 25)) (wType type.Int 32)) (declarators_and no_declarators None (named (codes "__VERIFIER_nondet_int") 36) (fFunction (pVoid 57 58 62)) no_attributes iNothing) 63))) (tFunction (words_and no_words (wType type.Void 65)) (named (codes "reach_error") 70) (pUnknown 81 82) no_attributes (bSkipped 84 no_raw 85))) (tFunction (words_and no_words (wType type.Int 87)) (named (codes "main") 91) (pUnknown 95 96) no_attributes (bBlock 98 (statements_and (statements_and (statements_and no_statements (sDeclaration (declares (words_and no_words (wType type.Char 102)) (declarators_and no_declarators None (named (codes "c") 107) fPlain no_attributes (iValue 109 (eNumber 1 (form true false 0) 111))) 112))) (sDeclaration (declares (words_and (words_and no_words (wType type.Long 114)) (wType type.Long 119)) (declarators_and no_declarators None (named (codes "m") 124) fPlain no_attributes (iValue 126 (eNumber 3 (form true false 0) 128))) 129))) (sIf (head 133 136 (eBinary (ePrefix pre.Sizeof 137 (eParen 143 (eBinary (eName (codes "c") 144) op.ShiftLeft 146 (eName (codes "m") 149)) 150)) op.Equal 152 (eNumber 4 (form true false 0) 155)) 156) (sExpr (eCall (eName (codes "reach_error") 158) 169 no_parts 170) 171))) 173)))

pub shift_promotes_alone : typed.run 10 (elaborated shift_promotes_alone_source Ilp32) ([]) ≡ run 10 shift_promotes_alone_source Ilp32 ([])
shift_promotes_alone = refl

--   extern void abort(void);
--   extern int __VERIFIER_nondet_int(void);
--   void reach_error() {}
--   int main() {
--     char c = 200;
--     if (c == -56) reach_error();
--   }
abbrev conversion_to_char_source : Items
conversion_to_char_source = (items_and (items_and (items_and (items_and no_items (tDeclaration (declares (words_and (words_and no_words (wStorage storage.Extern 0)) (wType type.Void 7)) (declarators_and no_declarators None (named (codes "abort") 12) (fFunction (pVoid 17 18 22)) no_attributes iNothing) 23))) (tDeclaration (declares (words_and (words_and no_words (wStorage storage.Extern 25)) (wType type.Int 32)) (declarators_and no_declarators None (named (codes "__VERIFIER_nondet_int") 36) (fFunction (pVoid 57 58 62)) no_attributes iNothing) 63))) (tFunction (words_and no_words (wType type.Void 65)) (named (codes "reach_error") 70) (pUnknown 81 82) no_attributes (bSkipped 84 no_raw 85))) (tFunction (words_and no_words (wType type.Int 87)) (named (codes "main") 91) (pUnknown 95 96) no_attributes (bBlock 98 (statements_and (statements_and no_statements (sDeclaration (declares (words_and no_words (wType type.Char 102)) (declarators_and no_declarators None (named (codes "c") 107) fPlain no_attributes (iValue 109 (eNumber 200 (form true false 0) 111))) 114))) (sIf (head 118 121 (eBinary (eName (codes "c") 122) op.Equal 124 (ePrefix pre.Minus 127 (eNumber 56 (form true false 0) 128))) 130) (sExpr (eCall (eName (codes "reach_error") 132) 143 no_parts 144) 145))) 147)))

pub conversion_to_char : typed.run 10 (elaborated conversion_to_char_source Ilp32) ([]) ≡ run 10 conversion_to_char_source Ilp32 ([])
conversion_to_char = refl

--   extern void abort(void);
--   extern int __VERIFIER_nondet_int(void);
--   void reach_error() {}
--   int main() {
--     enum E { A, B = 5, C };
--     enum E e = C;
--     if (e + A == 6) reach_error();
--   }
abbrev enumerations_source : Items
enumerations_source = (items_and (items_and (items_and (items_and no_items (tDeclaration (declares (words_and (words_and no_words (wStorage storage.Extern 0)) (wType type.Void 7)) (declarators_and no_declarators None (named (codes "abort") 12) (fFunction (pVoid 17 18 22)) no_attributes iNothing) 23))) (tDeclaration (declares (words_and (words_and no_words (wStorage storage.Extern 25)) (wType type.Int 32)) (declarators_and no_declarators None (named (codes "__VERIFIER_nondet_int") 36) (fFunction (pVoid 57 58 62)) no_attributes iNothing) 63))) (tFunction (words_and no_words (wType type.Void 65)) (named (codes "reach_error") 70) (pUnknown 81 82) no_attributes (bSkipped 84 no_raw 85))) (tFunction (words_and no_words (wType type.Int 87)) (named (codes "main") 91) (pUnknown 95 96) no_attributes (bBlock 98 (statements_and (statements_and (statements_and no_statements (sDeclaration (declares (words_and no_words (wTagEnum 102 (codes "E") 107 109 (plain_and (valued_and (plain_and no_enumerators None (codes "A") 111) (Some 112) (codes "B") 114 116 (eNumber 5 (form true false 0) 118)) (Some 119) (codes "C") 121) None 123)) no_declarators 124))) (sDeclaration (declares (words_and no_words (wTag 128 (codes "E") 133)) (declarators_and no_declarators None (named (codes "e") 135) fPlain no_attributes (iValue 137 (eName (codes "C") 139))) 140))) (sIf (head 144 147 (eBinary (eBinary (eName (codes "e") 148) op.Add 150 (eName (codes "A") 152)) op.Equal 154 (eNumber 6 (form true false 0) 157)) 158) (sExpr (eCall (eName (codes "reach_error") 160) 171 no_parts 172) 173))) 175)))

pub enumerations : typed.run 10 (elaborated enumerations_source Ilp32) ([]) ≡ run 10 enumerations_source Ilp32 ([])
enumerations = refl

--   extern void abort(void);
--   extern int __VERIFIER_nondet_int(void);
--   void reach_error() {}
--   int main() {
--     typedef unsigned char T;
--     T x = 256 + 3; { int x = 1; x = 2; }
--     if (x == 3) reach_error();
--   }
abbrev typedef_and_inner_scope_source : Items
typedef_and_inner_scope_source = (items_and (items_and (items_and (items_and no_items (tDeclaration (declares (words_and (words_and no_words (wStorage storage.Extern 0)) (wType type.Void 7)) (declarators_and no_declarators None (named (codes "abort") 12) (fFunction (pVoid 17 18 22)) no_attributes iNothing) 23))) (tDeclaration (declares (words_and (words_and no_words (wStorage storage.Extern 25)) (wType type.Int 32)) (declarators_and no_declarators None (named (codes "__VERIFIER_nondet_int") 36) (fFunction (pVoid 57 58 62)) no_attributes iNothing) 63))) (tFunction (words_and no_words (wType type.Void 65)) (named (codes "reach_error") 70) (pUnknown 81 82) no_attributes (bSkipped 84 no_raw 85))) (tFunction (words_and no_words (wType type.Int 87)) (named (codes "main") 91) (pUnknown 95 96) no_attributes (bBlock 98 (statements_and (statements_and (statements_and (statements_and no_statements (sDeclaration (declares (words_and (words_and (words_and no_words (wStorage storage.Typedef 102)) (wType type.Unsigned 110)) (wType type.Char 119)) (declarators_and no_declarators None (named (codes "T") 124) fPlain no_attributes iNothing) 125))) (sDeclaration (declares (words_and no_words (wTypedef (codes "T") 129)) (declarators_and no_declarators None (named (codes "x") 131) fPlain no_attributes (iValue 133 (eBinary (eNumber 256 (form true false 0) 135) op.Add 139 (eNumber 3 (form true false 0) 141)))) 142))) (sBlock 144 (statements_and (statements_and no_statements (sDeclaration (declares (words_and no_words (wType type.Int 146)) (declarators_and no_declarators None (named (codes "x") 150) fPlain no_attributes (iValue 152 (eNumber 1 (form true false 0) 154))) 155))) (sExpr (eAssign (eName (codes "x") 157) to.Plain 159 (eNumber 2 (form true false 0) 161)) 162)) 164)) (sIf (head 168 171 (eBinary (eName (codes "x") 172) op.Equal 174 (eNumber 3 (form true false 0) 177)) 178) (sExpr (eCall (eName (codes "reach_error") 180) 191 no_parts 192) 193))) 195)))

pub typedef_and_inner_scope : typed.run 10 (elaborated typedef_and_inner_scope_source Ilp32) ([]) ≡ run 10 typedef_and_inner_scope_source Ilp32 ([])
typedef_and_inner_scope = refl

--   int f(void) { }
--   int main() {
--     f(), f();
--   }
abbrev comma_uses_its_last_source : Items
comma_uses_its_last_source = (items_and (items_and no_items (tFunction (words_and no_words (wType type.Int 0)) (named (codes "f") 4) (pVoid 5 6 10) no_attributes (bBlock 12 no_statements 14))) (tFunction (words_and no_words (wType type.Int 16)) (named (codes "main") 20) (pUnknown 24 25) no_attributes (bBlock 27 (statements_and no_statements (sExpr (eComma (parts_and (parts_and no_parts None (eCall (eName (codes "f") 31) 32 no_parts 33)) (Some 34) (eCall (eName (codes "f") 36) 37 no_parts 38))) 39)) 41)))

pub comma_uses_its_last : typed.run 10 (elaborated comma_uses_its_last_source Ilp32) ([]) ≡ run 10 comma_uses_its_last_source Ilp32 ([])
comma_uses_its_last = refl

--   extern void abort(void);
--   extern int __VERIFIER_nondet_int(void);
--   void reach_error() {}
--   int main() {
--     int b = 1;
--     int c = b ? -1 : 0u;
--     if (c == -1) reach_error();
--   }
abbrev own_name_in_arms_source : Items
own_name_in_arms_source = (items_and (items_and (items_and (items_and no_items (tDeclaration (declares (words_and (words_and no_words (wStorage storage.Extern 0)) (wType type.Void 7)) (declarators_and no_declarators None (named (codes "abort") 12) (fFunction (pVoid 17 18 22)) no_attributes iNothing) 23))) (tDeclaration (declares (words_and (words_and no_words (wStorage storage.Extern 25)) (wType type.Int 32)) (declarators_and no_declarators None (named (codes "__VERIFIER_nondet_int") 36) (fFunction (pVoid 57 58 62)) no_attributes iNothing) 63))) (tFunction (words_and no_words (wType type.Void 65)) (named (codes "reach_error") 70) (pUnknown 81 82) no_attributes (bSkipped 84 no_raw 85))) (tFunction (words_and no_words (wType type.Int 87)) (named (codes "main") 91) (pUnknown 95 96) no_attributes (bBlock 98 (statements_and (statements_and (statements_and no_statements (sDeclaration (declares (words_and no_words (wType type.Int 102)) (declarators_and no_declarators None (named (codes "b") 106) fPlain no_attributes (iValue 108 (eNumber 1 (form true false 0) 110))) 111))) (sDeclaration (declares (words_and no_words (wType type.Int 115)) (declarators_and no_declarators None (named (codes "c") 119) fPlain no_attributes (iValue 121 (eCond (eName (codes "b") 123) 125 (ePrefix pre.Minus 127 (eNumber 1 (form true false 0) 128)) 130 (eNumber 0 (form false true 0) 132)))) 134))) (sIf (head 138 141 (eBinary (eName (codes "c") 142) op.Equal 144 (ePrefix pre.Minus 147 (eNumber 1 (form true false 0) 148))) 149) (sExpr (eCall (eName (codes "reach_error") 151) 162 no_parts 163) 164))) 166)))

pub own_name_in_arms : typed.run 10 (elaborated own_name_in_arms_source Ilp32) ([]) ≡ run 10 own_name_in_arms_source Ilp32 ([])
own_name_in_arms = refl

--   extern void abort(void);
--   extern int __VERIFIER_nondet_int(void);
--   void reach_error() {}
--   int main() {
--     return 0;
--     reach_error();
--   }
abbrev main_returns_source : Items
main_returns_source = (items_and (items_and (items_and (items_and no_items (tDeclaration (declares (words_and (words_and no_words (wStorage storage.Extern 0)) (wType type.Void 7)) (declarators_and no_declarators None (named (codes "abort") 12) (fFunction (pVoid 17 18 22)) no_attributes iNothing) 23))) (tDeclaration (declares (words_and (words_and no_words (wStorage storage.Extern 25)) (wType type.Int 32)) (declarators_and no_declarators None (named (codes "__VERIFIER_nondet_int") 36) (fFunction (pVoid 57 58 62)) no_attributes iNothing) 63))) (tFunction (words_and no_words (wType type.Void 65)) (named (codes "reach_error") 70) (pUnknown 81 82) no_attributes (bSkipped 84 no_raw 85))) (tFunction (words_and no_words (wType type.Int 87)) (named (codes "main") 91) (pUnknown 95 96) no_attributes (bBlock 98 (statements_and (statements_and no_statements (sReturn 102 (Some (eNumber 0 (form false false 0) 109)) 110)) (sExpr (eCall (eName (codes "reach_error") 114) 125 no_parts 126) 127)) 129)))

pub main_returns : typed.run 10 (elaborated main_returns_source Ilp32) ([]) ≡ run 10 main_returns_source Ilp32 ([])
main_returns = refl

--   extern void abort(void);
--   extern int __VERIFIER_nondet_int(void);
--   void reach_error() {}
--   int main() {
--     abort();
--     reach_error();
--   }
abbrev aborts_source : Items
aborts_source = (items_and (items_and (items_and (items_and no_items (tDeclaration (declares (words_and (words_and no_words (wStorage storage.Extern 0)) (wType type.Void 7)) (declarators_and no_declarators None (named (codes "abort") 12) (fFunction (pVoid 17 18 22)) no_attributes iNothing) 23))) (tDeclaration (declares (words_and (words_and no_words (wStorage storage.Extern 25)) (wType type.Int 32)) (declarators_and no_declarators None (named (codes "__VERIFIER_nondet_int") 36) (fFunction (pVoid 57 58 62)) no_attributes iNothing) 63))) (tFunction (words_and no_words (wType type.Void 65)) (named (codes "reach_error") 70) (pUnknown 81 82) no_attributes (bSkipped 84 no_raw 85))) (tFunction (words_and no_words (wType type.Int 87)) (named (codes "main") 91) (pUnknown 95 96) no_attributes (bBlock 98 (statements_and (statements_and no_statements (sExpr (eCall (eName (codes "abort") 102) 107 no_parts 108) 109)) (sExpr (eCall (eName (codes "reach_error") 113) 124 no_parts 125) 126)) 128)))

pub aborts : typed.run 10 (elaborated aborts_source Ilp32) ([]) ≡ run 10 aborts_source Ilp32 ([])
aborts = refl

--   extern void abort(void);
--   extern int __VERIFIER_nondet_int(void);
--   void reach_error() {}
--   int main() {
--     int x = 1;
--     x += (x = 5, 1) ? 2 : 3;
--     if (x == 3) reach_error();
--   }
abbrev op_reads_first_source : Items
op_reads_first_source = (items_and (items_and (items_and (items_and no_items (tDeclaration (declares (words_and (words_and no_words (wStorage storage.Extern 0)) (wType type.Void 7)) (declarators_and no_declarators None (named (codes "abort") 12) (fFunction (pVoid 17 18 22)) no_attributes iNothing) 23))) (tDeclaration (declares (words_and (words_and no_words (wStorage storage.Extern 25)) (wType type.Int 32)) (declarators_and no_declarators None (named (codes "__VERIFIER_nondet_int") 36) (fFunction (pVoid 57 58 62)) no_attributes iNothing) 63))) (tFunction (words_and no_words (wType type.Void 65)) (named (codes "reach_error") 70) (pUnknown 81 82) no_attributes (bSkipped 84 no_raw 85))) (tFunction (words_and no_words (wType type.Int 87)) (named (codes "main") 91) (pUnknown 95 96) no_attributes (bBlock 98 (statements_and (statements_and (statements_and no_statements (sDeclaration (declares (words_and no_words (wType type.Int 102)) (declarators_and no_declarators None (named (codes "x") 106) fPlain no_attributes (iValue 108 (eNumber 1 (form true false 0) 110))) 111))) (sExpr (eAssign (eName (codes "x") 115) to.Add 117 (eCond (eParen 120 (eComma (parts_and (parts_and no_parts None (eAssign (eName (codes "x") 121) to.Plain 123 (eNumber 5 (form true false 0) 125))) (Some 126) (eNumber 1 (form true false 0) 128))) 129) 131 (eNumber 2 (form true false 0) 133) 135 (eNumber 3 (form true false 0) 137))) 138)) (sIf (head 142 145 (eBinary (eName (codes "x") 146) op.Equal 148 (eNumber 3 (form true false 0) 151)) 152) (sExpr (eCall (eName (codes "reach_error") 154) 165 no_parts 166) 167))) 169)))

pub op_reads_first : typed.run 10 (elaborated op_reads_first_source Ilp32) ([]) ≡ run 10 op_reads_first_source Ilp32 ([])
op_reads_first = refl

--   int main() { goto L; }
abbrev no_label_fault : Items
no_label_fault = (items_and no_items (tFunction (words_and no_words (wType type.Int 0)) (named (codes "main") 4) (pUnknown 8 9) no_attributes (bBlock 11 (statements_and no_statements (sGoto 13 (codes "L") 18 19)) 21)))

pub no_label_broken : first_broken (rules.broken (elaborated no_label_fault Ilp32)) ≡ Some (record { fault = fault.Label; at = 18 })
no_label_broken = refl

--   int main() { goto L; int x; L: ; }
abbrev into_scope_fault : Items
into_scope_fault = (items_and no_items (tFunction (words_and no_words (wType type.Int 0)) (named (codes "main") 4) (pUnknown 8 9) no_attributes (bBlock 11 (statements_and (statements_and (statements_and no_statements (sGoto 13 (codes "L") 18 19)) (sDeclaration (declares (words_and no_words (wType type.Int 21)) (declarators_and no_declarators None (named (codes "x") 25) fPlain no_attributes iNothing) 26))) (sLabel (codes "L") 28 29 no_attributes (sEmpty 31))) 33)))

pub into_scope_broken : first_broken (rules.broken (elaborated into_scope_fault Ilp32)) ≡ Some (record { fault = fault.JumpIntoScope; at = 13 })
into_scope_broken = refl

--   int main() { break; }
abbrev break_alone_fault : Items
break_alone_fault = (items_and no_items (tFunction (words_and no_words (wType type.Int 0)) (named (codes "main") 4) (pUnknown 8 9) no_attributes (bBlock 11 (statements_and no_statements (sBreak 13 18)) 20)))

pub break_alone_broken : first_broken (rules.broken (elaborated break_alone_fault Ilp32)) ≡ Some (record { fault = fault.BadJump; at = 13 })
break_alone_broken = refl

--   extern void abort(void);
--   extern int __VERIFIER_nondet_int(void);
--   void reach_error() {}
--   int main() {
--     int x = 0;
--     x = x++;
--   }
abbrev unsequenced_fault : Items
unsequenced_fault = (items_and (items_and (items_and (items_and no_items (tDeclaration (declares (words_and (words_and no_words (wStorage storage.Extern 0)) (wType type.Void 7)) (declarators_and no_declarators None (named (codes "abort") 12) (fFunction (pVoid 17 18 22)) no_attributes iNothing) 23))) (tDeclaration (declares (words_and (words_and no_words (wStorage storage.Extern 25)) (wType type.Int 32)) (declarators_and no_declarators None (named (codes "__VERIFIER_nondet_int") 36) (fFunction (pVoid 57 58 62)) no_attributes iNothing) 63))) (tFunction (words_and no_words (wType type.Void 65)) (named (codes "reach_error") 70) (pUnknown 81 82) no_attributes (bSkipped 84 no_raw 85))) (tFunction (words_and no_words (wType type.Int 87)) (named (codes "main") 91) (pUnknown 95 96) no_attributes (bBlock 98 (statements_and (statements_and no_statements (sDeclaration (declares (words_and no_words (wType type.Int 102)) (declarators_and no_declarators None (named (codes "x") 106) fPlain no_attributes (iValue 108 (eNumber 0 (form false false 0) 110))) 111))) (sExpr (eAssign (eName (codes "x") 115) to.Plain 117 (ePostfix (eName (codes "x") 119) by.Increment 120)) 122)) 124)))

pub unsequenced_broken : first_broken (rules.broken (elaborated unsequenced_fault Ilp32)) ≡ Some (record { fault = fault.Unsequenced; at = 117 })
unsequenced_broken = refl

--   int f(int n) {
--     return f(n);
--   }
--   int main() {
--     return f(1);
--   }
abbrev recursion_fault : Items
recursion_fault = (items_and (items_and no_items (tFunction (words_and no_words (wType type.Int 0)) (named (codes "f") 4) (pSome 5 (params_and no_params None (words_and no_words (wType type.Int 6)) (Some (named (codes "n") 10))) 11) no_attributes (bBlock 13 (statements_and no_statements (sReturn 17 (Some (eCall (eName (codes "f") 24) 25 (parts_and no_parts None (eName (codes "n") 26)) 27)) 28)) 30))) (tFunction (words_and no_words (wType type.Int 32)) (named (codes "main") 36) (pUnknown 40 41) no_attributes (bBlock 43 (statements_and no_statements (sReturn 47 (Some (eCall (eName (codes "f") 54) 55 (parts_and no_parts None (eNumber 1 (form true false 0) 56)) 57)) 58)) 60)))

pub recursion_broken : first_broken (rules.broken (elaborated recursion_fault Ilp32)) ≡ Some (record { fault = fault.Recursion; at = 24 })
recursion_broken = refl

--   int main() { L: ; L: ; }
abbrev label_twice_fault : Items
label_twice_fault = (items_and no_items (tFunction (words_and no_words (wType type.Int 0)) (named (codes "main") 4) (pUnknown 8 9) no_attributes (bBlock 11 (statements_and (statements_and no_statements (sLabel (codes "L") 13 14 no_attributes (sEmpty 16))) (sLabel (codes "L") 18 19 no_attributes (sEmpty 21))) 23)))

pub label_twice_broken : first_broken (rules.broken (elaborated label_twice_fault Ilp32)) ≡ Some (record { fault = fault.Label; at = 18 })
label_twice_broken = refl

--   int main() { switch (1) { int x; case 1: ; } }
abbrev case_into_scope_fault : Items
case_into_scope_fault = (items_and no_items (tFunction (words_and no_words (wType type.Int 0)) (named (codes "main") 4) (pUnknown 8 9) no_attributes (bBlock 11 (statements_and no_statements (sSwitch (head 13 20 (eNumber 1 (form true false 0) 21) 22) (sBlock 24 (statements_and (statements_and no_statements (sDeclaration (declares (words_and no_words (wType type.Int 26)) (declarators_and no_declarators None (named (codes "x") 30) fPlain no_attributes iNothing) 31))) (sCase 33 (eNumber 1 (form true false 0) 38) 39 (sEmpty 41))) 43))) 45)))

pub case_into_scope_broken : first_broken (rules.broken (elaborated case_into_scope_fault Ilp32)) ≡ Some (record { fault = fault.JumpIntoScope; at = 33 })
case_into_scope_broken = refl

--   int main() { case 1: ; }
abbrev case_outside_fault : Items
case_outside_fault = (items_and no_items (tFunction (words_and no_words (wType type.Int 0)) (named (codes "main") 4) (pUnknown 8 9) no_attributes (bBlock 11 (statements_and no_statements (sCase 13 (eNumber 1 (form true false 0) 18) 19 (sEmpty 21))) 23)))

pub case_outside_broken : first_broken (rules.broken (elaborated case_outside_fault Ilp32)) ≡ Some (record { fault = fault.BadJump; at = 13 })
case_outside_broken = refl

--   int f(void) { return; } int main() { }
abbrev return_without_fault : Items
return_without_fault = (items_and (items_and no_items (tFunction (words_and no_words (wType type.Int 0)) (named (codes "f") 4) (pVoid 5 6 10) no_attributes (bBlock 12 (statements_and no_statements (sReturn 14 None 20)) 22))) (tFunction (words_and no_words (wType type.Int 24)) (named (codes "main") 28) (pUnknown 32 33) no_attributes (bBlock 35 no_statements 37)))

pub return_without_broken : first_broken (rules.broken (elaborated return_without_fault Ilp32)) ≡ Some (record { fault = fault.BadJump; at = 14 })
return_without_broken = refl

--   void f(void) { return 1; } int main() { }
abbrev return_with_fault : Items
return_with_fault = (items_and (items_and no_items (tFunction (words_and no_words (wType type.Void 0)) (named (codes "f") 5) (pVoid 6 7 11) no_attributes (bBlock 13 (statements_and no_statements (sReturn 15 (Some (eNumber 1 (form true false 0) 22)) 23)) 25))) (tFunction (words_and no_words (wType type.Int 27)) (named (codes "main") 31) (pUnknown 35 36) no_attributes (bBlock 38 no_statements 40)))

pub return_with_broken : first_broken (rules.broken (elaborated return_with_fault Ilp32)) ≡ Some (record { fault = fault.BadJump; at = 15 })
return_with_broken = refl

--   int f(int a, int b) { return a; } int main() { int i = 0; f(i, i++); }
abbrev arguments_clash_fault : Items
arguments_clash_fault = (items_and (items_and no_items (tFunction (words_and no_words (wType type.Int 0)) (named (codes "f") 4) (pSome 5 (params_and (params_and no_params None (words_and no_words (wType type.Int 6)) (Some (named (codes "a") 10))) (Some 11) (words_and no_words (wType type.Int 13)) (Some (named (codes "b") 17))) 18) no_attributes (bBlock 20 (statements_and no_statements (sReturn 22 (Some (eName (codes "a") 29)) 30)) 32))) (tFunction (words_and no_words (wType type.Int 34)) (named (codes "main") 38) (pUnknown 42 43) no_attributes (bBlock 45 (statements_and (statements_and no_statements (sDeclaration (declares (words_and no_words (wType type.Int 47)) (declarators_and no_declarators None (named (codes "i") 51) fPlain no_attributes (iValue 53 (eNumber 0 (form false false 0) 55))) 56))) (sExpr (eCall (eName (codes "f") 58) 59 (parts_and (parts_and no_parts None (eName (codes "i") 60)) (Some 61) (ePostfix (eName (codes "i") 63) by.Increment 64)) 66) 67)) 69)))

pub arguments_clash_broken : first_broken (rules.broken (elaborated arguments_clash_fault Ilp32)) ≡ Some (record { fault = fault.Unsequenced; at = 59 })
arguments_clash_broken = refl

--   int main() { int a[2] = {0}; a[a[0] = 1] = 2; }
abbrev own_index_fault : Items
own_index_fault = (items_and no_items (tFunction (words_and no_words (wType type.Int 0)) (named (codes "main") 4) (pUnknown 8 9) no_attributes (bBlock 11 (statements_and (statements_and no_statements (sDeclaration (declares (words_and no_words (wType type.Int 13)) (declarators_and no_declarators None (named (codes "a") 17) (fArray 18 (Some (eNumber 2 (form true false 0) 19)) 20) no_attributes (iList 22 24 (parts_and no_parts None (eNumber 0 (form false false 0) 25)) None 26)) 27))) (sExpr (eAssign (eIndex (eName (codes "a") 29) 30 (eAssign (eIndex (eName (codes "a") 31) 32 (eNumber 0 (form false false 0) 33) 34) to.Plain 36 (eNumber 1 (form true false 0) 38)) 39) to.Plain 41 (eNumber 2 (form true false 0) 43)) 44)) 46)))

pub own_index_broken : first_broken (rules.broken (elaborated own_index_fault Ilp32)) ≡ Some (record { fault = fault.Unsequenced; at = 41 })
own_index_broken = refl

--   int main() { int a[2] = {0}; return a[a[0] = 1]; }
abbrev read_index_fault : Items
read_index_fault = (items_and no_items (tFunction (words_and no_words (wType type.Int 0)) (named (codes "main") 4) (pUnknown 8 9) no_attributes (bBlock 11 (statements_and (statements_and no_statements (sDeclaration (declares (words_and no_words (wType type.Int 13)) (declarators_and no_declarators None (named (codes "a") 17) (fArray 18 (Some (eNumber 2 (form true false 0) 19)) 20) no_attributes (iList 22 24 (parts_and no_parts None (eNumber 0 (form false false 0) 25)) None 26)) 27))) (sReturn 29 (Some (eIndex (eName (codes "a") 36) 37 (eAssign (eIndex (eName (codes "a") 38) 39 (eNumber 0 (form false false 0) 40) 41) to.Plain 43 (eNumber 1 (form true false 0) 45)) 46)) 47)) 49)))

pub read_index_broken : first_broken (rules.broken (elaborated read_index_fault Ilp32)) ≡ Some (record { fault = fault.Unsequenced; at = 37 })
read_index_broken = refl

--   int g(int); int f(int n) { return g(n); } int g(int n) { return f(n); } int main() { return 0; }
abbrev mutual_recursion_fault : Items
mutual_recursion_fault = (items_and (items_and (items_and (items_and no_items (tDeclaration (declares (words_and no_words (wType type.Int 0)) (declarators_and no_declarators None (named (codes "g") 4) (fFunction (pSome 5 (params_and no_params None (words_and no_words (wType type.Int 6)) None) 9)) no_attributes iNothing) 10))) (tFunction (words_and no_words (wType type.Int 12)) (named (codes "f") 16) (pSome 17 (params_and no_params None (words_and no_words (wType type.Int 18)) (Some (named (codes "n") 22))) 23) no_attributes (bBlock 25 (statements_and no_statements (sReturn 27 (Some (eCall (eName (codes "g") 34) 35 (parts_and no_parts None (eName (codes "n") 36)) 37)) 38)) 40))) (tFunction (words_and no_words (wType type.Int 42)) (named (codes "g") 46) (pSome 47 (params_and no_params None (words_and no_words (wType type.Int 48)) (Some (named (codes "n") 52))) 53) no_attributes (bBlock 55 (statements_and no_statements (sReturn 57 (Some (eCall (eName (codes "f") 64) 65 (parts_and no_parts None (eName (codes "n") 66)) 67)) 68)) 70))) (tFunction (words_and no_words (wType type.Int 72)) (named (codes "main") 76) (pUnknown 80 81) no_attributes (bBlock 83 (statements_and no_statements (sReturn 85 (Some (eNumber 0 (form false false 0) 92)) 93)) 95)))

pub mutual_recursion_broken : first_broken (rules.broken (elaborated mutual_recursion_fault Ilp32)) ≡ Some (record { fault = fault.Recursion; at = 34 })
mutual_recursion_broken = refl

--   int x; int main() { int x = 1; { int x = x; } return x; }
abbrev good_hides_unbroken : Items
good_hides_unbroken = (items_and (items_and no_items (tDeclaration (declares (words_and no_words (wType type.Int 0)) (declarators_and no_declarators None (named (codes "x") 4) fPlain no_attributes iNothing) 5))) (tFunction (words_and no_words (wType type.Int 7)) (named (codes "main") 11) (pUnknown 15 16) no_attributes (bBlock 18 (statements_and (statements_and (statements_and no_statements (sDeclaration (declares (words_and no_words (wType type.Int 20)) (declarators_and no_declarators None (named (codes "x") 24) fPlain no_attributes (iValue 26 (eNumber 1 (form true false 0) 28))) 29))) (sBlock 31 (statements_and no_statements (sDeclaration (declares (words_and no_words (wType type.Int 33)) (declarators_and no_declarators None (named (codes "x") 37) fPlain no_attributes (iValue 39 (eName (codes "x") 41))) 42))) 44)) (sReturn 46 (Some (eName (codes "x") 53)) 54)) 56)))

pub good_hides_none : rules.broken (elaborated good_hides_unbroken Ilp32) ≡ []
good_hides_none = refl

--   int f(int); int f(int n); int f(int m) { return m; } int x; int x; int x = 2; int main() { return f(x); }
abbrev good_prototypes_unbroken : Items
good_prototypes_unbroken = (items_and (items_and (items_and (items_and (items_and (items_and (items_and no_items (tDeclaration (declares (words_and no_words (wType type.Int 0)) (declarators_and no_declarators None (named (codes "f") 4) (fFunction (pSome 5 (params_and no_params None (words_and no_words (wType type.Int 6)) None) 9)) no_attributes iNothing) 10))) (tDeclaration (declares (words_and no_words (wType type.Int 12)) (declarators_and no_declarators None (named (codes "f") 16) (fFunction (pSome 17 (params_and no_params None (words_and no_words (wType type.Int 18)) (Some (named (codes "n") 22))) 23)) no_attributes iNothing) 24))) (tFunction (words_and no_words (wType type.Int 26)) (named (codes "f") 30) (pSome 31 (params_and no_params None (words_and no_words (wType type.Int 32)) (Some (named (codes "m") 36))) 37) no_attributes (bBlock 39 (statements_and no_statements (sReturn 41 (Some (eName (codes "m") 48)) 49)) 51))) (tDeclaration (declares (words_and no_words (wType type.Int 53)) (declarators_and no_declarators None (named (codes "x") 57) fPlain no_attributes iNothing) 58))) (tDeclaration (declares (words_and no_words (wType type.Int 60)) (declarators_and no_declarators None (named (codes "x") 64) fPlain no_attributes iNothing) 65))) (tDeclaration (declares (words_and no_words (wType type.Int 67)) (declarators_and no_declarators None (named (codes "x") 71) fPlain no_attributes (iValue 73 (eNumber 2 (form true false 0) 75))) 76))) (tFunction (words_and no_words (wType type.Int 78)) (named (codes "main") 82) (pUnknown 86 87) no_attributes (bBlock 89 (statements_and no_statements (sReturn 91 (Some (eCall (eName (codes "f") 98) 99 (parts_and no_parts None (eName (codes "x") 100)) 101)) 102)) 104)))

pub good_prototypes_none : rules.broken (elaborated good_prototypes_unbroken Ilp32) ≡ []
good_prototypes_none = refl

--   int main() { int i = 0; return sizeof(i = i++) == 4; }
abbrev good_sizeof_of_unsequenced_unbroken : Items
good_sizeof_of_unsequenced_unbroken = (items_and no_items (tFunction (words_and no_words (wType type.Int 0)) (named (codes "main") 4) (pUnknown 8 9) no_attributes (bBlock 11 (statements_and (statements_and no_statements (sDeclaration (declares (words_and no_words (wType type.Int 13)) (declarators_and no_declarators None (named (codes "i") 17) fPlain no_attributes (iValue 19 (eNumber 0 (form false false 0) 21))) 22))) (sReturn 24 (Some (eBinary (ePrefix pre.Sizeof 31 (eParen 37 (eAssign (eName (codes "i") 38) to.Plain 40 (ePostfix (eName (codes "i") 42) by.Increment 43)) 45)) op.Equal 47 (eNumber 4 (form true false 0) 50))) 51)) 53)))

pub good_sizeof_of_unsequenced_none : rules.broken (elaborated good_sizeof_of_unsequenced_unbroken Ilp32) ≡ []
good_sizeof_of_unsequenced_none = refl

--   int main() { if (sizeof(enum { A })) (void)(enum { A })A; }
abbrev good_scopes_of_parts_unbroken : Items
good_scopes_of_parts_unbroken = (items_and no_items (tFunction (words_and no_words (wType type.Int 0)) (named (codes "main") 4) (pUnknown 8 9) no_attributes (bBlock 11 (statements_and no_statements (sIf (head 13 16 (eSizeof 17 23 (words_and no_words (wEnum 24 29 (plain_and no_enumerators None (codes "A") 31) None 33)) 34) 35) (sExpr (eCast 37 (words_and no_words (wType type.Void 38)) 42 (eCast 43 (words_and no_words (wEnum 44 49 (plain_and no_enumerators None (codes "A") 51) None 53)) 54 (eName (codes "A") 55))) 56))) 58)))

pub good_scopes_of_parts_none : rules.broken (elaborated good_scopes_of_parts_unbroken Ilp32) ≡ []
good_scopes_of_parts_none = refl

--   enum x { B }; int x; int main() { enum x e = B; x = e; return x; }
abbrev good_tag_and_name_unbroken : Items
good_tag_and_name_unbroken = (items_and (items_and (items_and no_items (tDeclaration (declares (words_and no_words (wTagEnum 0 (codes "x") 5 7 (plain_and no_enumerators None (codes "B") 9) None 11)) no_declarators 12))) (tDeclaration (declares (words_and no_words (wType type.Int 14)) (declarators_and no_declarators None (named (codes "x") 18) fPlain no_attributes iNothing) 19))) (tFunction (words_and no_words (wType type.Int 21)) (named (codes "main") 25) (pUnknown 29 30) no_attributes (bBlock 32 (statements_and (statements_and (statements_and no_statements (sDeclaration (declares (words_and no_words (wTag 34 (codes "x") 39)) (declarators_and no_declarators None (named (codes "e") 41) fPlain no_attributes (iValue 43 (eName (codes "B") 45))) 46))) (sExpr (eAssign (eName (codes "x") 48) to.Plain 50 (eName (codes "e") 52)) 53)) (sReturn 55 (Some (eName (codes "x") 62)) 63)) 65)))

pub good_tag_and_name_none : rules.broken (elaborated good_tag_and_name_unbroken Ilp32) ≡ []
good_tag_and_name_none = refl

--   int main() { int i = 0; L: i++; int j = i; if (j < 3) goto L; return j; }
abbrev good_goto_back_unbroken : Items
good_goto_back_unbroken = (items_and no_items (tFunction (words_and no_words (wType type.Int 0)) (named (codes "main") 4) (pUnknown 8 9) no_attributes (bBlock 11 (statements_and (statements_and (statements_and (statements_and (statements_and no_statements (sDeclaration (declares (words_and no_words (wType type.Int 13)) (declarators_and no_declarators None (named (codes "i") 17) fPlain no_attributes (iValue 19 (eNumber 0 (form false false 0) 21))) 22))) (sLabel (codes "L") 24 25 no_attributes (sExpr (ePostfix (eName (codes "i") 27) by.Increment 28) 30))) (sDeclaration (declares (words_and no_words (wType type.Int 32)) (declarators_and no_declarators None (named (codes "j") 36) fPlain no_attributes (iValue 38 (eName (codes "i") 40))) 41))) (sIf (head 43 46 (eBinary (eName (codes "j") 47) op.Less 49 (eNumber 3 (form true false 0) 51)) 52) (sGoto 54 (codes "L") 59 60))) (sReturn 62 (Some (eName (codes "j") 69)) 70)) 72)))

pub good_goto_back_none : rules.broken (elaborated good_goto_back_unbroken Ilp32) ≡ []
good_goto_back_none = refl

--   void f(void) { } int main() { 1 ? f() : (void)0; }
abbrev good_void_arms_unbroken : Items
good_void_arms_unbroken = (items_and (items_and no_items (tFunction (words_and no_words (wType type.Void 0)) (named (codes "f") 5) (pVoid 6 7 11) no_attributes (bBlock 13 no_statements 15))) (tFunction (words_and no_words (wType type.Int 17)) (named (codes "main") 21) (pUnknown 25 26) no_attributes (bBlock 28 (statements_and no_statements (sExpr (eCond (eNumber 1 (form true false 0) 30) 32 (eCall (eName (codes "f") 34) 35 no_parts 36) 38 (eCast 40 (words_and no_words (wType type.Void 41)) 45 (eNumber 0 (form false false 0) 46))) 47)) 49)))

pub good_void_arms_none : rules.broken (elaborated good_void_arms_unbroken Ilp32) ≡ []
good_void_arms_none = refl

--   int f(void) { return sizeof f(); } int main() { return f(); }
abbrev good_call_in_sizeof_unbroken : Items
good_call_in_sizeof_unbroken = (items_and (items_and no_items (tFunction (words_and no_words (wType type.Int 0)) (named (codes "f") 4) (pVoid 5 6 10) no_attributes (bBlock 12 (statements_and no_statements (sReturn 14 (Some (ePrefix pre.Sizeof 21 (eCall (eName (codes "f") 28) 29 no_parts 30))) 31)) 33))) (tFunction (words_and no_words (wType type.Int 35)) (named (codes "main") 39) (pUnknown 43 44) no_attributes (bBlock 46 (statements_and no_statements (sReturn 48 (Some (eCall (eName (codes "f") 55) 56 no_parts 57)) 58)) 60)))

pub good_call_in_sizeof_none : rules.broken (elaborated good_call_in_sizeof_unbroken Ilp32) ≡ []
good_call_in_sizeof_none = refl
