-- Needed cells are cells of the table.
use Rattle.std.proofs.Common.{ℕ, ◌+◌, ◌≤◌, ◌<◌, length, List, [], ◌∷◌, All, arith, suc, zero, Bool, not, eqb, ◌&&◌, ◌||◌}
use Rattle.std.specs.Ordering.{nat_cmp}
use Rattle.std.specs.BTreeMap.{is_at}
use Rattle.std.specs.BTreeSet.{insert_key}
use Rattle.std.proofs.lemmas.Map.Views.{All-insert_key, All-remove_key}
use Rattle.std.proofs.lemmas.List.Elements.{All-head, All-tail}
use Rattle.bit_gates.proofs.Within.{chosen}
use Rattle.bv_term.specs.declared.term.Term.{Term}
use Rattle.bv_term.specs.declared.term.Term.TheVariants.{Constant, Cell, Element, Add, Subtract, Multiply, Divide, Remainder, And, Or, Xor, Not, ShiftLeft, ShiftRight, ShiftSigned, Equal, Less, LessSigned, Select, ZeroExtend, SignExtend, Truncate, Bit}
use Rattle.bv_term.specs.WellFormed.{Table, IsTable, Fits}
use Rattle.bit_blast.specs.Cone.{falling, wants}
use Rattle.bit_blast.specs.Done.{is_done}
use Rattle.bit_blast.specs.Emission.{term_at}
use Rattle.bit_blast.proofs.Ready.{fits-at}
use Rattle.c_graph.specs.declared.graph.Operation.{Operation}
use Rattle.c_graph.specs.declared.graph.Operation.TheVariants.{Assume, Set, SetAt, Draw}
use Rattle.c_graph.specs.Shape.{OperationFits}
use Rattle.path_formula.specs.Reads.{cells_from, span_of, with_cells, with_read, with_terms, is_needed, some_needed, without}
use Rattle.path_formula.specs.Needs.{needed_by, needed_by_all}
use Rattle.path_formula.specs.Paths.{AreThere}

cells_there : (cells needed : List ℕ) (first n : ℕ) → AreThere cells needed → ((k : ℕ) → k < n → first + k < length cells)
    → AreThere cells (with_cells needed (cells_from first n))
cells_there cells needed first zero a h = a
cells_there cells needed first (suc n) a h =
    let z : first < length cells = let g = h 0 (omega arith) in omega (arith, g) in
    cells_there cells (insert_key nat_cmp needed first) (first + 1) n
    (All-insert_key nat_cmp first (λ (c : ℕ). c < length cells) needed a z)
    (λ k lt. let g = h (suc k) (omega (arith, lt)) in omega (arith, g))

span_there : (cells ws : List ℕ) (t : Term) → Fits cells ws t → (k : ℕ) → k < (span_of t).count → (span_of t).first + k < length cells
span_there cells ws (Constant w v) f k lt = absurd (omega (arith, lt))
span_there cells ws (Cell c) f k lt = omega (arith, f, lt)
span_there cells ws (Element first n i) f k lt = let g = f.0.1 in omega (arith, g, lt)
span_there cells ws (Add i j) f k lt = absurd (omega (arith, lt))
span_there cells ws (Subtract i j) f k lt = absurd (omega (arith, lt))
span_there cells ws (Multiply i j) f k lt = absurd (omega (arith, lt))
span_there cells ws (Divide i j) f k lt = absurd (omega (arith, lt))
span_there cells ws (Remainder i j) f k lt = absurd (omega (arith, lt))
span_there cells ws (And i j) f k lt = absurd (omega (arith, lt))
span_there cells ws (Or i j) f k lt = absurd (omega (arith, lt))
span_there cells ws (Xor i j) f k lt = absurd (omega (arith, lt))
span_there cells ws (Not i) f k lt = absurd (omega (arith, lt))
span_there cells ws (ShiftLeft i j) f k lt = absurd (omega (arith, lt))
span_there cells ws (ShiftRight i j) f k lt = absurd (omega (arith, lt))
span_there cells ws (ShiftSigned i j) f k lt = absurd (omega (arith, lt))
span_there cells ws (Equal i j) f k lt = absurd (omega (arith, lt))
span_there cells ws (Less i j) f k lt = absurd (omega (arith, lt))
span_there cells ws (LessSigned i j) f k lt = absurd (omega (arith, lt))
span_there cells ws (Select i j l) f k lt = absurd (omega (arith, lt))
span_there cells ws (ZeroExtend w i) f k lt = absurd (omega (arith, lt))
span_there cells ws (SignExtend w i) f k lt = absurd (omega (arith, lt))
span_there cells ws (Truncate w i) f k lt = absurd (omega (arith, lt))
span_there cells ws (Bit b i) f k lt = absurd (omega (arith, lt))

falling_there : (table : Table) (done : ℕ → Bool) (n : ℕ) (need : ℕ → Bool) (needed : List ℕ) → IsTable table → n ≤ length table.terms
    → AreThere table.cells needed → AreThere table.cells (with_terms table.terms needed (falling table.terms done n need))
falling_there table done zero need needed h le a = a
falling_there table done (suc k) need needed h le a =
    let need2 : ℕ → Bool = λ j. need j || wants table.terms done k j in
    let t = term_at table.terms k in
    let f = fits-at table k h (omega arith) in
    chosen {A = List ℕ} (need k) (k ∷ falling table.terms done k need2) (falling table.terms done k need)
    (λ (xs : List ℕ). AreThere table.cells (with_terms table.terms needed xs))
    (λ e. falling_there table done k need2 (with_cells needed (cells_from (span_of t).first (span_of t).count)) h (omega arith)
    (cells_there table.cells needed (span_of t).first (span_of t).count a (span_there table.cells f.0 t f.1.fits)))
    (λ e. falling_there table done k need needed h (omega arith) a)

pub read_there : (table : Table) (t : ℕ) (needed : List ℕ) → IsTable table → t < length table.terms → AreThere table.cells needed
    → AreThere table.cells (with_read table t needed)
read_there table t needed h lt a =
    let need : ℕ → Bool = λ j. eqb t j && not (is_done [] j) in
    falling_there table (is_done []) (suc t) need needed h (omega arith) a

without_there : (cells needed : List ℕ) (c : ℕ) → AreThere cells needed → AreThere cells (without c needed)
without_there cells needed c a = All-remove_key (is_at (nat_cmp c)) (λ (k : ℕ). k < length cells) needed a

by_there : (table : Table) (later : List ℕ) (o : Operation) → IsTable table → OperationFits table o → AreThere table.cells later
    → AreThere table.cells (needed_by table later o)
by_there table later (Assume t) h f a = read_there table t.0 later h f.0 a
by_there table later (Set c t) h f a =
    chosen {A = List ℕ} (is_needed later c) (with_read table t.0 (without c later)) later (λ (xs : List ℕ). AreThere table.cells xs)
    (λ e. read_there table t.0 (without c later) h f.1 (without_there table.cells later c a))
    (λ e. a)
by_there table later (SetAt first n i t) h f a =
    let all = with_cells later (cells_from first n) in
    chosen {A = List ℕ} (some_needed later (cells_from first n)) (with_read table t.0 (with_read table i.0 all)) later
    (λ (xs : List ℕ). AreThere table.cells xs)
    (λ e. read_there table t.0 (with_read table i.0 all) h f.2
    (read_there table i.0 all h f.1 (cells_there table.cells later first n a (λ k lt. let g = f.0.1 in omega (arith, g, lt)))))
    (λ e. a)
by_there table later (Draw c signed) h f a = without_there table.cells later c a

pub all_there : (table : Table) (later : List ℕ) (ops : List Operation) → IsTable table → All (OperationFits table) ops → AreThere table.cells later
    → AreThere table.cells (needed_by_all table later ops)
all_there table later [] h f a = a
all_there table later (o ∷ os) h f a =
    by_there table (needed_by_all table later os) o h (All-head (OperationFits table) o os f)
    (all_there table later os h (All-tail (OperationFits table) o os f) a)
