-- Each value of a table is below two to the power of its width, and values are computed going up.
use Rattle.std.proofs.Common.{◌≡◌, ℕ, ◌+◌, ◌-◌, ◌*◌, ◌/◌, ◌%◌, ◌^◌, ◌<◌, ◌≤◌, length, List, [], ◌∷◌, ◌++◌, arith, ap, sym, ◌∙◌, refl, suc, zero, subst, slice_index, slice_index_or, All, take, drop, Bool, true, false, nat_lt, ◌==◌, if◌then◌else◌, rules, length-append}
use Rattle.std.proofs.Math.Nat.{mod-lt, mod-le, div-le_self}
use Rattle.std.proofs.Math.Pow.{pow_mono}
use Rattle.std.proofs.Math.Seq.{take-length, take-append_seam, drop-cons, take-suc}
use Rattle.std.proofs.lemmas.List.{take-take, length-take-le, take-append-drop}
use Rattle.std.proofs.lemmas.Nat.{pow_pos, or_lt, xor_lt, and_le_l}
use Rattle.bv_term.specs.declared.term.Term.{Term}
use Rattle.bv_term.specs.declared.term.Term.TheVariants.{Constant, Cell, Element, Add, Subtract, Multiply, Divide, Remainder, And, Or, Xor, Not, ShiftLeft, ShiftRight, ShiftSigned, Equal, Less, LessSigned, Select, ZeroExtend, SignExtend, Truncate, Bit}
use Rattle.bv_term.specs.Numbers.{quotient_of, remainder_of, complement_in, left_in, right_in, signed_right_in, raised, truth, sign_extended, has_sign}
use Rattle.bv_term.specs.WellFormed.{Table, IsTable, IsWidth, Fits, AllFit, width_in, widths_after}
use Rattle.bv_term.specs.Values.{value_in, values_after, IsStore, AreBelow, FitsSome}
use Rattle.bv_term.proofs.Growing.{widths-append, length-widths, All-widths}

-- the second of two alike terms is below two to the power of the first's width
second : (ws vs : List ℕ) (i j : ℕ) → AreBelow ws vs → j < length ws → slice_index ws i ≡ slice_index ws j → slice_index vs j < 2 ^ slice_index ws i
second ws vs i j b lt e = let P : ℕ → Type 0 = λ w. slice_index vs j < 2 ^ w in subst P (sym e) (b j lt)

-- the operations keep below two to the power of the width
quotient-below : (w a b : ℕ) → a < 2 ^ w → quotient_of a b < 2 ^ w
quotient-below w a b h = elim (b == 0) as (λ z. (if z then 0 else a / b) < 2 ^ w) [ true ↦ pow_pos w | false ↦ (let le = div-le_self a b in omega (arith, le)) ]

remainder-below : (w a b : ℕ) → a < 2 ^ w → remainder_of a b < 2 ^ w
remainder-below w a b h = elim (b == 0) as (λ z. (if z then 0 else a % b) < 2 ^ w) [ true ↦ pow_pos w | false ↦ (let le = mod-le a b in omega (arith, le)) ]

complement-below : (w a : ℕ) → complement_in w a < 2 ^ w
complement-below w a = omega (arith, pow_pos w)

left-below : (w a b : ℕ) → left_in w a b < 2 ^ w
left-below w a b = elim (nat_lt b w) as (λ z. (if z then (a * 2 ^ b) % 2 ^ w else 0) < 2 ^ w) [ true ↦ mod-lt (a * 2 ^ b) (pow_pos w) | false ↦ pow_pos w ]

right-below : (w a b : ℕ) → a < 2 ^ w → right_in w a b < 2 ^ w
right-below w a b h = elim (nat_lt b w) as (λ z. (if z then a / 2 ^ b else 0) < 2 ^ w) [ true ↦ (let le = div-le_self a (2 ^ b) in omega (arith, le)) | false ↦ pow_pos w ]

signed_right-below : (w a b : ℕ) → a < 2 ^ w → signed_right_in w a b < 2 ^ w
signed_right-below w a b h =
    elim (has_sign w a) as (λ z. (if z then complement_in w (right_in w (complement_in w a) b) else right_in w a b) < 2 ^ w)
    [ true ↦ complement-below w (right_in w (complement_in w a) b) | false ↦ right-below w a b h ]

truth-below : (b : Bool) → truth b < 2 ^ 1
truth-below true = omega arith
truth-below false = omega arith

sign_extended-below : (k w a : ℕ) → k ≤ w → a < 2 ^ k → sign_extended k w a < 2 ^ w
sign_extended-below k w a le h =
    let m : 2 ^ k ≤ 2 ^ w = pow_mono le in
    elim (has_sign k a) as (λ z. (if z then a + (2 ^ w - 2 ^ k) else a) < 2 ^ w) [ true ↦ omega arith | false ↦ omega arith ]

choice-below : (b : Bool) (n x y : ℕ) → x < n → y < n → (if b then x else y) < n
choice-below true n x y h g = h
choice-below false n x y h g = g

element-below : (cells store : List ℕ) (first n v : ℕ) → IsStore cells store → first + n ≤ length cells
    → ((k : ℕ) → k < n → slice_index cells (first + k) ≡ slice_index cells first) → (if nat_lt v n then slice_index store (first + v) else 0) < 2 ^ slice_index cells first
element-below cells store first n v s le same =
    elim (nat_lt v n) as (λ z. nat_lt v n ≡ z → (if z then slice_index store (first + v) else 0) < 2 ^ slice_index cells first) [
      | true ↦ (λ e. let lt : v < n = search rules in
          let P : ℕ → Type 0 = λ w. slice_index store (first + v) < 2 ^ w in
          subst P (same v lt) (s (first + v) (omega arith)))
      | false ↦ (λ e. pow_pos (slice_index cells first))
    ] refl

-- the value of a term that fits is below two to the power of its width
pub value-below : (cells store ws vs : List ℕ) (t : Term) → IsStore cells store → AreBelow ws vs → Fits cells ws t
    → value_in store ws vs t < 2 ^ width_in cells ws t
value-below cells store ws vs (Constant w v) s b f = f.1
value-below cells store ws vs (Cell c) s b f = s c f
value-below cells store ws vs (Element first n i) s b f = element-below cells store first n (slice_index vs i.0) s f.0.1 f.0.2
value-below cells store ws vs (Add i j) s b f = mod-lt (slice_index vs i.0 + slice_index vs j.0) (pow_pos (slice_index ws i.0))
value-below cells store ws vs (Subtract i j) s b f = mod-lt (slice_index vs i.0 + (2 ^ slice_index ws i.0 - slice_index vs j.0)) (pow_pos (slice_index ws i.0))
value-below cells store ws vs (Multiply i j) s b f = mod-lt (slice_index vs i.0 * slice_index vs j.0) (pow_pos (slice_index ws i.0))
value-below cells store ws vs (Divide i j) s b f = quotient-below (slice_index ws i.0) (slice_index vs i.0) (slice_index vs j.0) (b i.0 f.0)
value-below cells store ws vs (Remainder i j) s b f = remainder-below (slice_index ws i.0) (slice_index vs i.0) (slice_index vs j.0) (b i.0 f.0)
value-below cells store ws vs (And i j) s b f = (let le = and_le_l (slice_index vs i.0) (slice_index vs j.0) in omega (arith, le, b i.0 f.0))
value-below cells store ws vs (Or i j) s b f = or_lt (slice_index ws i.0) (slice_index vs i.0) (slice_index vs j.0) (b i.0 f.0) (second ws vs i.0 j.0 b f.1 f.2)
value-below cells store ws vs (Xor i j) s b f = xor_lt (slice_index ws i.0) (slice_index vs i.0) (slice_index vs j.0) (b i.0 f.0) (second ws vs i.0 j.0 b f.1 f.2)
value-below cells store ws vs (Not i) s b f = complement-below (slice_index ws i.0) (slice_index vs i.0)
value-below cells store ws vs (ShiftLeft i j) s b f = left-below (slice_index ws i.0) (slice_index vs i.0) (slice_index vs j.0)
value-below cells store ws vs (ShiftRight i j) s b f = right-below (slice_index ws i.0) (slice_index vs i.0) (slice_index vs j.0) (b i.0 f.0)
value-below cells store ws vs (ShiftSigned i j) s b f = signed_right-below (slice_index ws i.0) (slice_index vs i.0) (slice_index vs j.0) (b i.0 f.0)
value-below cells store ws vs (Equal i j) s b f = truth-below (slice_index vs i.0 == slice_index vs j.0)
value-below cells store ws vs (Less i j) s b f = truth-below (nat_lt (slice_index vs i.0) (slice_index vs j.0))
value-below cells store ws vs (LessSigned i j) s b f = truth-below (nat_lt (raised (slice_index ws i.0) (slice_index vs i.0)) (raised (slice_index ws i.0) (slice_index vs j.0)))
value-below cells store ws vs (Select i j k) s b f = choice-below (slice_index vs i.0 == 1) (2 ^ slice_index ws j.0) (slice_index vs j.0) (slice_index vs k.0) (b j.0 f.2.0) (second ws vs j.0 k.0 b f.2.1 f.2.2)
value-below cells store ws vs (ZeroExtend w i) s b f = let m : 2 ^ slice_index ws i.0 ≤ 2 ^ w = pow_mono f.2 in omega (arith, b i.0 f.0)
value-below cells store ws vs (SignExtend w i) s b f = sign_extended-below (slice_index ws i.0) w (slice_index vs i.0) f.2 (b i.0 f.0)
value-below cells store ws vs (Truncate w i) s b f = mod-lt (slice_index vs i.0) (pow_pos w)
value-below cells store ws vs (Bit k i) s b f = let m : slice_index vs i.0 / 2 ^ k % 2 < 2 = mod-lt (slice_index vs i.0 / 2 ^ k) (omega arith) in omega (arith, m)

AreBelow-snoc : (ws vs : List ℕ) (w v : ℕ) → length vs ≡ length ws → AreBelow ws vs → v < 2 ^ w → AreBelow (ws ++ w ∷ []) (vs ++ v ∷ [])
AreBelow-snoc [] [] w v e b h = λ k lt. elim k as (λ k. k < 1 → slice_index (v ∷ []) k < 2 ^ slice_index (w ∷ []) k) [ zero ↦ (λ _. h) | suc j ↦ (λ l. absurd (omega (arith, l))) ] lt
AreBelow-snoc [] (y ∷ vs) w v e b h = absurd (omega arith)
AreBelow-snoc (x ∷ ws) [] w v e b h = absurd (omega arith)
AreBelow-snoc (x ∷ ws) (y ∷ vs) w v e b h = λ k lt.
    elim k as (λ k. k < suc (length (ws ++ w ∷ [])) → slice_index (y ∷ (vs ++ v ∷ [])) k < 2 ^ slice_index (x ∷ (ws ++ w ∷ [])) k)
    [ zero ↦ (λ _. b 0 (omega arith)) | suc j ↦ (λ l. AreBelow-snoc ws vs w v (omega arith) (λ i less. b (suc i) (omega (arith, less))) h j (omega (arith, l))) ] lt

-- so are all values of well-formed terms
pub values-below : (cells store ws vs : List ℕ) (ts : List Term) → IsStore cells store → length vs ≡ length ws → AreBelow ws vs → AllFit cells ws ts
    → (length (values_after cells store ws vs ts) ≡ length (widths_after cells ws ts)) × AreBelow (widths_after cells ws ts) (values_after cells store ws vs ts)
values-below cells store ws vs [] s e b f = (e, b)
values-below cells store ws vs (t ∷ ts) s e b f =
    let v = value_in store ws vs t in
    let w = width_in cells ws t in
    let l : length (vs ++ v ∷ []) ≡ length (ws ++ w ∷ []) =
    (let p : length (vs ++ v ∷ []) ≡ length vs + 1 = length-append vs (v ∷ []) in let q : length (ws ++ w ∷ []) ≡ length ws + 1 = length-append ws (w ∷ []) in omega arith) in
    values-below cells store (ws ++ w ∷ []) (vs ++ v ∷ []) ts s l (AreBelow-snoc ws vs w v e b (value-below cells store ws vs t s b f.0)) f.1

-- the values of more terms come after those of the first
pub values-append : (cells store ws vs : List ℕ) (xs ys : List Term)
    → values_after cells store ws vs (xs ++ ys) ≡ values_after cells store (widths_after cells ws xs) (values_after cells store ws vs xs) ys
values-append cells store ws vs [] ys = refl
values-append cells store ws vs (x ∷ xs) ys = values-append cells store (ws ++ width_in cells ws x ∷ []) (vs ++ value_in store ws vs x ∷ []) xs ys

pub AllFit-split : (cells ws : List ℕ) (xs ys : List Term) → AllFit cells ws (xs ++ ys) → AllFit cells ws xs × AllFit cells (widths_after cells ws xs) ys
AllFit-split cells ws [] ys f = (tt, f)
AllFit-split cells ws (x ∷ xs) ys f = let r = AllFit-split cells (ws ++ width_in cells ws x ∷ []) xs ys f.1 in ((f.0, r.0), r.1)

-- the earlier widths stand first
pub widths-first : (cells ws : List ℕ) (xs : List Term) → take (length ws) (widths_after cells ws xs) ≡ ws
widths-first cells ws [] = take-length ws
widths-first cells ws (x ∷ xs) =
    let h : take (length (ws ++ width_in cells ws x ∷ [])) (widths_after cells (ws ++ width_in cells ws x ∷ []) xs) ≡ ws ++ width_in cells ws x ∷ [] =
    widths-first cells (ws ++ width_in cells ws x ∷ []) xs in
    let l : length (ws ++ width_in cells ws x ∷ []) ≡ length ws + 1 = length-append ws (width_in cells ws x ∷ []) in
    sym (take-take (length ws) (length (ws ++ width_in cells ws x ∷ [])) (widths_after cells (ws ++ width_in cells ws x ∷ []) xs) (omega arith))
    ∙ ap (take (length ws)) h ∙ take-append_seam ws (width_in cells ws x ∷ [])

-- what holds as the value of term number i is computed
pub value-step : (cells store ws vs : List ℕ) (ts : List Term) (i : ℕ) (t : Term)
    → All IsWidth cells → IsStore cells store → AllFit cells [] ts → ws ≡ widths_after cells [] ts
    → i < length ts → t ≡ slice_index_or ts i t → vs ≡ values_after cells store [] [] (take i ts)
    → FitsSome (take i ws) t × (length vs ≡ length (take i ws)) × All IsWidth (take i ws) × AreBelow (take i ws) vs
    × (vs ++ value_in store (take i ws) vs t ∷ [] ≡ values_after cells store [] [] (take (suc i) ts))
value-step cells store ws vs ts i t c s f e lt at ev =
    let cut : take i ts ++ (t ∷ drop (suc i) ts) ≡ ts =
    ap (λ (z : List Term). take i ts ++ z) (ap (λ (z : Term). z ∷ drop (suc i) ts) at ∙ sym (drop-cons ts i t lt)) ∙ take-append-drop i ts in
    let F : List Term → Type 0 = λ ts. AllFit cells [] ts in
    let g = AllFit-split cells [] (take i ts) (t ∷ drop (suc i) ts) (subst F (sym cut) f) in
    let n : length (widths_after cells [] (take i ts)) ≡ 0 + length (take i ts) = length-widths cells [] (take i ts) in
    let m : length (take i ts) ≡ i = length-take-le i ts (omega arith) in
    let first : take i ws ≡ widths_after cells [] (take i ts) =
    ap (take i) (e ∙ sym (ap (widths_after cells []) cut) ∙ widths-append cells [] (take i ts) (t ∷ drop (suc i) ts))
    ∙ (let k : length (widths_after cells [] (take i ts)) ≡ i = omega arith in
    let Q : ℕ → Type 0 = λ i0. take i0 (widths_after cells (widths_after cells [] (take i ts)) (t ∷ drop (suc i) ts)) ≡ widths_after cells [] (take i ts) in
    subst Q k (widths-first cells (widths_after cells [] (take i ts)) (t ∷ drop (suc i) ts))) in
    let b = values-below cells store [] [] (take i ts) s refl (λ k less. absurd (omega (arith, less))) g.0 in
    let more : take (suc i) ts ≡ take i ts ++ t ∷ [] = take-suc ts i t lt ∙ ap (λ (z : Term). take i ts ++ z ∷ []) (sym at) in
    let all = All-widths cells [] (take i ts) c (λ k d less. absurd (omega (arith, less))) g.0 in
    let W : List ℕ → List ℕ → Type 0 = λ w v. FitsSome w t × (length v ≡ length w) × All IsWidth w × AreBelow w v
    × (v ++ value_in store w v t ∷ [] ≡ values_after cells store [] [] (take (suc i) ts)) in
    let whole : W (widths_after cells [] (take i ts)) (values_after cells store [] [] (take i ts)) = (
      (cells, g.1.0),
      b.0,
      all,
      b.1,
      sym (ap (values_after cells store [] []) more ∙ values-append cells store [] [] (take i ts) (t ∷ [])),
    ) in
    let P : List ℕ → Type 0 = λ w. W w (values_after cells store [] [] (take i ts)) in
    let R : List ℕ → Type 0 = λ v. W (take i ws) v in
    subst R (sym ev) (subst P (sym first) whole)

-- below the length an element is there, whatever stands past the end
any_default : {X : Type 0} (xs : List X) (i : ℕ) (d e : X) → i < length xs → slice_index_or xs i d ≡ slice_index_or xs i e
any_default [] i d e lt = absurd (omega arith)
any_default (x ∷ xs) zero d e lt = refl
any_default (x ∷ xs) (suc i) d e lt = any_default xs i d e (omega arith)

-- what `values` knows as it computes the value of term number i
pub step-at : (table : Table) (cells store ws ds vs es : List ℕ) (terms us : List Term) (i : ℕ) (d : Term)
    → IsTable (record { cells = cells; terms = terms }) → ws ≡ widths_after cells [] terms
    → record { cells = cells; terms = terms } ≡ table → IsStore table.cells store
    → ds ≡ ws → es ≡ vs → us ≡ terms → i < length us → vs ≡ values_after cells store [] [] (take i terms)
    → FitsSome (take i ds) (slice_index_or us i d) × (length es ≡ length (take i ds)) × All IsWidth (take i ds) × AreBelow (take i ds) es
    × (es ++ value_in store (take i ds) es (slice_index_or us i d) ∷ [] ≡ values_after cells store [] [] (take (suc i) terms))
step-at table cells store ws ds vs es terms us i d h e view s ed ee eu lt ev =
    let S : Table → Type 0 = λ t. IsStore t.cells store in
    let s0 : IsStore cells store = subst S (sym view) s in
    let L : List Term → Type 0 = λ ts. i < length ts in
    let lt0 : i < length terms = subst L eu lt in
    let P : List ℕ → List ℕ → List Term → Type 0 = λ w v ts.
    FitsSome (take i w) (slice_index_or ts i d) × (length v ≡ length (take i w)) × All IsWidth (take i w) × AreBelow (take i w) v
    × (v ++ value_in store (take i w) v (slice_index_or ts i d) ∷ [] ≡ values_after cells store [] [] (take (suc i) terms)) in
    let whole : P ws vs terms = value-step cells store ws vs terms i (slice_index_or terms i d) h.cells s0 h.terms e lt0 (any_default terms i d (slice_index_or terms i d) lt0) ev in
    let A : List ℕ → Type 0 = λ w. P w vs terms in
    let B : List ℕ → Type 0 = λ v. P ds v terms in
    let C : List Term → Type 0 = λ ts. P ds es ts in
    subst C (sym eu) (subst B (sym ee) (subst A (sym ed) whole))
