-- What is written of a term has the term's value, and the parts of a formula that holds are true.
use Rattle.std.proofs.Common.{◌≡◌, ◌∙◌, ap, sym, subst, refl, ℕ, zero, suc, ◌<◌, ◌^◌, ◌/◌, List, [], ◌∷◌, ◌++◌, length, slice_index, ℤ, pos, Bool, true, false, ◌⊎◌, inl, inr, arith}
use Rattle.std.specs.Prelude.{Option, Some, None, slice_get, bit_and, bit_or, ◌==◌, nat_le, if◌then◌else◌}
use Rattle.std.proofs.Math.Nat.{mod-lt}
use Rattle.std.proofs.lemmas.Bool.{eqb-true}
use Rattle.lv_base.specs.declared.kind.Kind.{Kind}
use Rattle.lv_base.specs.declared.kind.Model.{Model}
use Rattle.lv_base.specs.Integers.{InRange, residue, width_of}
use Rattle.bv_term.specs.declared.term.TermId.{TermId}
use Rattle.bv_term.specs.declared.term.Term.{Term}
use Rattle.bv_term.specs.declared.term.Term.TheVariants.{Constant, Cell, And, Or, Not, Bit}
use Rattle.bv_term.specs.Numbers.{bit_of, complement_in}
use Rattle.bv_term.specs.WellFormed.{Table, IsTable, widths}
use Rattle.bv_term.specs.Values.{value, IsStore}
use Rattle.bv_term.proofs.Staying.{values_fit}
use Rattle.term_laws.specs.Laws.{IsMade}
use Rattle.term_laws.proofs.Made.{made}
use Rattle.c_tree.specs.declared.symbol.BinaryOp.TheVariants as op
use Rattle.c_tree.specs.Tree.{Ex, eBinary}
use Rattle.c_run.specs.Run.{State, Got, Value}
use Rattle.c_run.specs.Loops.{Calls}
use Rattle.c_meaning.specs.Kinds.{tKind}
use Rattle.c_meaning.specs.Bindings.{Env}
use Rattle.c_meaning.specs.Types.{type_of}
use Rattle.c_meaning.specs.Program.{Function}
use Rattle.witness_truth_laws.specs.Written.{Place, Expression, xTruth, xBit, xBoth, xEither, xNot, text_of, read_of, one_of, two_of, part_of, written_by, written_below, parts_by, parts_below, IsCell, IsReadBy, IsReadBelow}
use Rattle.witness_truth_laws.specs.Written as written
use Rattle.witness_truth_laws.specs.Trees.{place_tree, tree_of, conjoined_tree, conjunction_tree}
use Rattle.witness_truth_laws.specs.Telling.{meant, IsTrueIn}
use Rattle.witness_truth_laws.proofs.Reading.{bits-are-read}
use Rattle.witness_truth_laws.proofs.Valuing.{both-means, either-means, not-means, and-true}

-- each cell of which what is written of a term reads a bit has a property
module _ (P : ℕ → Type 0) (terms : List Term) where
  abbrev OfCell : Option Term → Type 0
  OfCell (Some (Cell c)) = P c
  OfCell _ = Unit {0}

  abbrev ReadsBy : (TermId → Type 0) → Option Term → Type 0
  ReadsBy of (Some (And i j)) = of i × of j
  ReadsBy of (Some (Or i j)) = of i × of j
  ReadsBy of (Some (Not i)) = of i
  ReadsBy of (Some (Bit k i)) = OfCell (slice_get terms i.0)
  ReadsBy of _ = Unit {0}

  abbrev ReadsBelow : ℕ → TermId → Type 0
  ReadsBelow zero i = Unit {0}
  ReadsBelow (suc n) i = ReadsBy (ReadsBelow n) (slice_get terms i.0)

-- the tree of a cell's place has a value of its kind, whose low bits the cell holds
pub record IsRead (env : Env) (model : Model) (inputs : List ℤ) (functions : List Function) (call : Calls) (at : ℕ) (st : State) (cells store : List ℕ) (c : ℕ) (p : Place) : Type 0 where
  pub kind : Kind
  pub value : ℤ
  pub typed : type_of env model (place_tree at p) ≡ tKind kind
  pub means : meant env model inputs functions call (place_tree at p) st ≡ Value value st
  pub in_range : InRange kind model value
  pub wide : slice_index cells c ≡ width_of kind model
  pub low : slice_index store c ≡ residue (width_of kind model) value

module _ (env : Env) (model : Model) (inputs : List ℤ) (functions : List Function) (call : Calls) (at : ℕ) (st : State)
    (table : Table) (store : List ℕ) (places : ℕ → Option Place) (is : IsTable table)
    (P : ℕ → Type 0) (reads : (c : ℕ) (p : Place) → P c → places c ≡ Some p → IsRead env model inputs functions call at st table.cells store c p) where
  abbrev means : Ex → State → Got ℤ
  means = meant env model inputs functions call

  abbrev width : TermId → ℕ
  width i = slice_index (widths table) i.0

  -- the term is one bit, and the tree has its value
  abbrev Says : TermId → Option Expression → Type 0
  Says i None = Unit {0}
  Says i (Some x) = (width i ≡ 1) × (value table store i < 2) × (means (tree_of at x) st ≡ Value (pos (value table store i)) st)

  and-small : (a b : ℕ) → a < 2 → b < 2 → bit_and a b < 2
  and-small zero zero p q = omega arith
  and-small zero (suc zero) p q = omega arith
  and-small (suc zero) zero p q = omega arith
  and-small (suc zero) (suc zero) p q = omega arith
  and-small (suc (suc a)) b p q = absurd (omega (arith, p))
  and-small zero (suc (suc b)) p q = absurd (omega (arith, q))
  and-small (suc zero) (suc (suc b)) p q = absurd (omega (arith, q))

  or-small : (a b : ℕ) → a < 2 → b < 2 → bit_or a b < 2
  or-small zero zero p q = omega arith
  or-small zero (suc zero) p q = omega arith
  or-small (suc zero) zero p q = omega arith
  or-small (suc zero) (suc zero) p q = omega arith
  or-small (suc (suc a)) b p q = absurd (omega (arith, p))
  or-small zero (suc (suc b)) p q = absurd (omega (arith, q))
  or-small (suc zero) (suc (suc b)) p q = absurd (omega (arith, q))

  both-said : (t i j : TermId) (x y : Option Expression) → Says i x → Says j y → width t ≡ width i → value table store t ≡ bit_and (value table store i) (value table store j) → Says t (two_of xBoth x y)
  both-said t i j None y h k w v = tt
  both-said t i j (Some x) None h k w v = tt
  both-said t i j (Some x) (Some y) (a, b, c) (d, e, f) w v = (
    w ∙ a,
    subst (λ (n : ℕ). n < 2) (sym v) (and-small _ _ b e),
    both-means env model inputs functions call at st (tree_of at x) (tree_of at y) _ _ b e c f ∙ ap (λ (n : ℕ). Value (pos n) st) (sym v),
  )

  either-said : (t i j : TermId) (x y : Option Expression) → Says i x → Says j y → width t ≡ width i → value table store t ≡ bit_or (value table store i) (value table store j) → Says t (two_of xEither x y)
  either-said t i j None y h k w v = tt
  either-said t i j (Some x) None h k w v = tt
  either-said t i j (Some x) (Some y) (a, b, c) (d, e, f) w v = (
    w ∙ a,
    subst (λ (n : ℕ). n < 2) (sym v) (or-small _ _ b e),
    either-means env model inputs functions call at st (tree_of at x) (tree_of at y) _ _ b e c f ∙ ap (λ (n : ℕ). Value (pos n) st) (sym v),
  )

  not-small : (a : ℕ) → complement_in 1 a < 2
  not-small a = omega arith

  not-said : (t i : TermId) (x : Option Expression) → Says i x → width t ≡ width i → value table store t ≡ complement_in (width i) (value table store i) → Says t (one_of x)
  not-said t i None h w v = tt
  not-said t i (Some x) (a, b, c) w v =
      let u : value table store t ≡ complement_in 1 (value table store i) = v ∙ ap (λ (n : ℕ). complement_in n (value table store i)) a in (
        w ∙ a,
        subst (λ (n : ℕ). n < 2) (sym u) (not-small (value table store i)),
        not-means env model inputs functions call at st (tree_of at x) _ b c ∙ ap (λ (n : ℕ). Value (pos n) st) (sym u),
      )

  truth-same : (v : ℕ) → v < 2 → (if v == 1 then 1 else 0) ≡ v
  truth-same zero lt = refl
  truth-same (suc zero) lt = refl
  truth-same (suc (suc v)) lt = absurd (omega (arith, lt))

  truth-said : (t : TermId) (w v : ℕ) (b : Bool) → (w == 1) ≡ b → width t ≡ w → value table store t ≡ v → v < 2 ^ w → Says t (if b then Some (xTruth v) else None)
  truth-said t w v false e f g h = tt
  truth-said t w v true e f g h =
      let one : w ≡ 1 = eqb-true w 1 e in
      let lt : v < 2 = subst (λ (n : ℕ). v < 2 ^ n) one h in
      (f ∙ one, subst (λ (n : ℕ). n < 2) (sym g) lt, ap (λ (n : ℕ). Value (pos n) st) (truth-same v lt ∙ sym g))

  bit-said : (t : TermId) (k c : ℕ) (p : Option Place) → P c → places c ≡ p → width t ≡ 1 → k < slice_index table.cells c → value table store t ≡ bit_of k (slice_index store c) → Says t (read_of k p)
  bit-said t k c None r e w lt v = tt
  bit-said t k c (Some p) q e w lt v =
      let r = reads c p q e in
      let u : bit_of k (residue (width_of r.kind model) r.value) ≡ value table store t = ap (bit_of k) (sym r.low) ∙ sym v in (
        w,
        subst (λ (n : ℕ). n < 2) (sym v) (mod-lt (slice_index store c / 2 ^ k) (omega arith)),
        bits-are-read env model inputs functions call st at (place_tree at p) r.kind r.value k r.typed r.means r.in_range (subst (λ (n : ℕ). k < n) r.wide lt)
            ∙ ap (λ (n : ℕ). Value (pos n) st) u,
      )

  cell-said : (t i : TermId) (k : ℕ) (found : Option Term) → OfCell P table.terms found → slice_get table.terms i.0 ≡ found → width t ≡ 1 → k < width i → value table store t ≡ bit_of k (value table store i)
      → Says t (written.bit_of places table.terms k found)
  cell-said t i k (Some (Cell c)) q e w lt v =
      let m = made table store i (Cell c) is e in
      bit-said t k c (places c) q refl w (subst (λ (n : ℕ). k < n) m.width lt) (v ∙ ap (bit_of k) m.value)
  cell-said t i k _ q e w lt v = tt

  said-by : (of : TermId → Option Expression) (can : TermId → Type 0) → ((i : TermId) → can i → Says i (of i)) → (t : TermId) (found : Option Term) → ReadsBy P table.terms can found
      → slice_get table.terms t.0 ≡ found → Says t (written_by places table.terms of found)
  said-by of can h t (Some (Constant w v)) q e =
      let m = made table store t (Constant w v) is e in
      truth-said t w v (w == 1) refl m.width m.value m.fits.1
  said-by of can h t (Some (And i j)) q e = let m = made table store t (And i j) is e in both-said t i j (of i) (of j) (h i q.0) (h j q.1) m.width m.value
  said-by of can h t (Some (Or i j)) q e = let m = made table store t (Or i j) is e in either-said t i j (of i) (of j) (h i q.0) (h j q.1) m.width m.value
  said-by of can h t (Some (Not i)) q e = let m = made table store t (Not i) is e in not-said t i (of i) (h i q) m.width m.value
  said-by of can h t (Some (Bit k i)) q e =
      let m = made table store t (Bit k i) is e in
      cell-said t i k (slice_get table.terms i.0) q refl m.width m.fits.1 m.value
  said-by of can h t _ q e = tt

  pub said : (n : ℕ) (t : TermId) → ReadsBelow P table.terms n t → Says t (written_below places table.terms n t)
  said zero t q = tt
  said (suc n) t q = said-by (written_below places table.terms n) (ReadsBelow P table.terms n) (said n) t (slice_get table.terms t.0) q refl

  -- ---- The parts of a formula

  abbrev AreTrue : List Expression → Type 0
  AreTrue [] = Unit {0}
  AreTrue (x ∷ xs) = IsTrueIn st (means (tree_of at x) st) × AreTrue xs

  true-append : (xs ys : List Expression) → AreTrue xs → AreTrue ys → AreTrue (xs ++ ys)
  true-append [] ys h k = k
  true-append (x ∷ xs) ys (h, hs) k = (h, true-append xs ys hs k)

  kept-part : (x : Expression) (b : Bool) → IsTrueIn st (means (tree_of at x) st) → AreTrue (if b then x ∷ [] else [])
  kept-part x true h = (h, tt)
  kept-part x false h = tt

  part-true : (t : TermId) (x : Option Expression) → Says t x → value table store t ≡ 1 → AreTrue (part_of x)
  part-true t None h v = tt
  part-true t (Some x) (a, b, c) v = kept-part x (nat_le (length (text_of x)) 4096) (pos 1, c ∙ ap (λ (n : ℕ). Value (pos n) st) v, refl)

  and-left : (a b : ℕ) → a < 2 → b < 2 → bit_and a b ≡ 1 → (a ≡ 1) × (b ≡ 1)
  and-left zero zero p q e = absurd (omega (arith, e))
  and-left zero (suc zero) p q e = absurd (omega (arith, e))
  and-left (suc zero) zero p q e = absurd (omega (arith, e))
  and-left (suc zero) (suc zero) p q e = (refl, refl)
  and-left (suc (suc a)) b p q e = absurd (omega (arith, p))
  and-left zero (suc (suc b)) p q e = absurd (omega (arith, q))
  and-left (suc zero) (suc (suc b)) p q e = absurd (omega (arith, q))

  module _ (stored : IsStore table.cells store) where
    one-bit : (t : TermId) → t.0 < length table.terms → width t ≡ 1 → value table store t < 2
    one-bit t there w = subst (λ (n : ℕ). value table store t < 2 ^ n) w (values_fit table store t is stored there)

    -- both operands of an `&` that holds hold
    and-parts : (of : TermId → List Expression) (can : TermId → Type 0) → ((i : TermId) → can i → i.0 < length table.terms → width i ≡ 1 → value table store i ≡ 1 → AreTrue (of i))
        → (t i j : TermId) → can i → can j → IsMade table store t (And i j) → width t ≡ 1 → value table store t ≡ 1 → AreTrue (of i ++ of j)
    and-parts of can h t i j qi qj m w v =
        let there : t.0 < length table.terms = m.there in
        let ti : i.0 < length table.terms = omega (arith, m.before.0, there) in
        let tj : j.0 < length table.terms = omega (arith, m.before.1, there) in
        let wi : width i ≡ 1 = sym m.width ∙ w in
        let wj : width j ≡ 1 = sym m.fits.2 ∙ wi in
        let ones = and-left (value table store i) (value table store j) (one-bit i ti wi) (one-bit j tj wj) (sym m.value ∙ v) in
        true-append (of i) (of j) (h i qi ti wi ones.0) (h j qj tj wj ones.1)

    parts-by : (of : TermId → List Expression) (can : TermId → Type 0) → ((i : TermId) → can i → i.0 < length table.terms → width i ≡ 1 → value table store i ≡ 1 → AreTrue (of i))
        → (t : TermId) (whole : Option Expression) → Says t whole → (found : Option Term) → ReadsBy P table.terms can found → slice_get table.terms t.0 ≡ found
        → width t ≡ 1 → value table store t ≡ 1 → AreTrue (parts_by of whole found)
    parts-by of can h t whole s (Some (And i j)) q e w v = and-parts of can h t i j q.0 q.1 (made table store t (And i j) is e) w v
    parts-by of can h t whole s _ q e w v = part-true t whole s v

    pub parts-true : (n : ℕ) (t : TermId) → ReadsBelow P table.terms n t → t.0 < length table.terms → width t ≡ 1 → value table store t ≡ 1 → AreTrue (parts_below places table.terms n t)
    parts-true zero t q there w v = tt
    parts-true (suc n) t q there w v =
        parts-by (parts_below places table.terms n) (ReadsBelow P table.terms n) (parts-true n) t (written_below places table.terms (suc n) t) (said (suc n) t q) (slice_get table.terms t.0) q refl w v

  joined-true : (e : Ex) (xs : List Expression) → IsTrueIn st (means e st) → AreTrue xs → IsTrueIn st (means (conjoined_tree at e xs) st)
  joined-true e [] h k = h
  joined-true e (x ∷ xs) h (k, ks) = joined-true (eBinary e op.AndAlso at (tree_of at x)) xs (and-true env model inputs functions call at st e (tree_of at x) h k) ks

  -- expressions that are true are true together
  pub conjunction-true : (xs : List Expression) → AreTrue xs → IsTrueIn st (means (conjunction_tree at xs) st)
  conjunction-true [] h = (pos 1, refl, refl)
  conjunction-true (x ∷ xs) (h, hs) = joined-true (tree_of at x) xs h hs

  pub told-value : (t : TermId) (w : Option Expression) (x : Expression) → w ≡ Some x → Says t w → (value table store t < 2) × (means (tree_of at x) st ≡ Value (pos (value table store t)) st)
  told-value t None x e h = absurd cc
  told-value t (Some y) x e (a, b, c) =
      let same : y ≡ x = some-is y x e in
      (b, subst (λ (z : Expression). means (tree_of at z) st ≡ Value (pos (value table store t)) st) same c)
    where
      some-is : (a b : Expression) → Some a ≡ Some b → a ≡ b
      some-is a b g = cc

-- where each cell that a term reads has a property, the term reads only such
module _ (P : ℕ → Type 0) (terms : List Term) where
  of-cell : (found : Option Term) → ((c : ℕ) → IsCell terms c found → P c) → OfCell P terms found
  of-cell (Some (Cell c)) h = h c refl
  of-cell _ h = tt

  only-by : (is : ℕ → TermId → Type 0) (can : TermId → Type 0) → ((i : TermId) → ((c : ℕ) → is c i → P c) → can i) → (found : Option Term)
      → ((c : ℕ) → IsReadBy terms c (is c) found → P c) → ReadsBy P terms can found
  only-by is can h (Some (And i j)) k = (h i (λ c r. k c (inl r)), h j (λ c r. k c (inr r)))
  only-by is can h (Some (Or i j)) k = (h i (λ c r. k c (inl r)), h j (λ c r. k c (inr r)))
  only-by is can h (Some (Not i)) k = h i k
  only-by is can h (Some (Bit n i)) k = of-cell (slice_get terms i.0) k
  only-by is can h _ k = tt

  pub only : (n : ℕ) (i : TermId) → ((c : ℕ) → IsReadBelow terms c n i → P c) → ReadsBelow P terms n i
  only zero i k = tt
  only (suc n) i k = only-by (λ c. IsReadBelow terms c n) (ReadsBelow P terms n) (only n) (slice_get terms i.0) k
