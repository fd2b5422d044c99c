-- A table over more cells with more terms: each old term has its value.
use Rattle.std.proofs.Common.{◌≡◌, ℕ, ◌<◌, List, [], ◌∷◌, ◌++◌, refl, ap, ◌∙◌, length, arith, slice_index}
use Rattle.bv_term.specs.declared.term.TermId.{TermId}
use Rattle.bv_term.specs.declared.term.Term.{Term}
use Rattle.bv_term.specs.declared.term.Term.TheVariants.{Constant, Cell, Element, Add, Subtract, Multiply, Divide, Remainder, And, Or, Xor, Not, ShiftLeft, ShiftRight, ShiftSigned, Equal, Less, LessSigned, Select, ZeroExtend, SignExtend, Truncate, Bit}
use Rattle.bv_term.specs.WellFormed.{Table, IsTable, Fits, AllFit, width_in}
use Rattle.bv_term.specs.Values.{value, value_in, values_after}
use Rattle.bv_term.proofs.Staying.{index-append, values_stay}
use Rattle.truth_terms.specs.Truths.{Grew}

wider : (cells more ws : List ℕ) (t : Term) → Fits cells ws t → width_in (cells ++ more) ws t ≡ width_in cells ws t
wider cells more ws (Constant w v) f = refl
wider cells more ws (Cell c) f = index-append cells more c f
wider cells more ws (Element first n i) f = let a = f.0.0 in let b = f.0.1 in index-append cells more first (omega (arith, a, b))
wider cells more ws (Add i j) f = refl
wider cells more ws (Subtract i j) f = refl
wider cells more ws (Multiply i j) f = refl
wider cells more ws (Divide i j) f = refl
wider cells more ws (Remainder i j) f = refl
wider cells more ws (And i j) f = refl
wider cells more ws (Or i j) f = refl
wider cells more ws (Xor i j) f = refl
wider cells more ws (Not i) f = refl
wider cells more ws (ShiftLeft i j) f = refl
wider cells more ws (ShiftRight i j) f = refl
wider cells more ws (ShiftSigned i j) f = refl
wider cells more ws (Equal i j) f = refl
wider cells more ws (Less i j) f = refl
wider cells more ws (LessSigned i j) f = refl
wider cells more ws (Select i j k) f = refl
wider cells more ws (ZeroExtend w i) f = refl
wider cells more ws (SignExtend w i) f = refl
wider cells more ws (Truncate w i) f = refl
wider cells more ws (Bit k i) f = refl

values-wider : (cells more store ws vs : List ℕ) (ts : List Term) → AllFit cells ws ts → values_after (cells ++ more) store ws vs ts ≡ values_after cells store ws vs ts
values-wider cells more store ws vs [] f = refl
values-wider cells more store ws vs (t ∷ ts) f =
    ap (λ (w : ℕ). values_after (cells ++ more) store (ws ++ w ∷ []) (vs ++ value_in store ws vs t ∷ []) ts) (wider cells more ws t f.0)
    ∙ values-wider cells more store (ws ++ width_in cells ws t ∷ []) (vs ++ value_in store ws vs t ∷ []) ts f.1

pub stays : (g h : Table) (store : List ℕ) (t : TermId) → IsTable g → Grew g h → t.0 < length g.terms → value h store t ≡ value g store t
stays g h store t is grew lt =
    let wide : Table = record { cells = g.cells ++ grew.0.0; terms = g.terms } in
    values_stay wide h store t (grew.0.1, grew.1) lt
    ∙ ap (λ (vs : List ℕ). slice_index vs t.0) (values-wider g.cells grew.0.0 store [] [] g.terms is.terms)
