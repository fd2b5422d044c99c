-- Which formulas follow along the edges of the loop, and what they name.
use Rattle.std.proofs.Common.{◌≡◌, ℕ, ◌+◌, ◌<◌, ◌==◌, Bool, true, false, List, [], ◌∷◌, ◌++◌, length, refl, sym, ap, ◌∙◌, subst, arith, zero, suc, inl, inr, ◌≤◌, ◌||◌, nat_le, nat_eq, Option, Some, None, slice_get, slice_index, slice_index_or, slice_set, IsTrue, ℤ, if◌then◌else◌}
use Rattle.std.specs.Prelude.{All, Contains}
use Rattle.std.proofs.lemmas.Bool.{and_parts, eqb-true, leb-true, or_cases}
use Rattle.bv_term.specs.declared.term.TermId.{TermId}
use Rattle.bv_term.specs.WellFormed.{Table}
use Rattle.bv_term.specs.Values.{Holds, value}
use Rattle.bv_term.specs.Numbers.{truth, complement_in}
use Rattle.c_graph.specs.declared.graph.EdgeId.{EdgeId}
use Rattle.c_graph.specs.declared.graph.Edge.{Edge}
use Rattle.c_graph.specs.declared.graph.Operation.TheVariants.{Assume}
use Rattle.c_graph.specs.Shape.{HasWidth, widths_of}
use Rattle.c_graph.specs.Steps.{IsWhole, Leads, Moment, drawn, in_range_of, modulo, moment, operated_all}
use Rattle.needed_cells.specs.Reads.{OnlyNames, needed_by_all, operations_of, without}
use Rattle.needed_cells.specs.Formulas.{EdgeImplies}
use Rattle.loop_journey.specs.declared.formula.Formula.{Formula}
use Rattle.loop_journey.specs.declared.formula.Formula.TheVariants.{Always, IsZero, Never}
use Rattle.loop_journey.specs.Loop.{edge, is_followed, label_table, loop_edges, loop_flow, term, term_of}

-- the first cell is 0
abbrev Zero : List ℕ → Type 0
Zero store = truth (slice_index store 0 == 0) ≡ 1

-- an assumption goes on only where its value is 1, and leaves the store
assumed : (table : Table) (b : Bool) (store after : List ℕ) (draws : List ℤ) → operated_all table [] (if b then Some (moment store draws) else None) ≡ Some (moment after []) → (b ≡ true) × (store ≡ after)
assumed table true store after draws e = let same : moment store draws ≡ moment after [] = cc in (refl, ap (λ (m : Moment). m.store) same)
assumed table false store after draws e = absurd (cc)

-- no operation changes nothing
none_left : (table : Table) (m : Option Moment) → operated_all table [] m ≡ m
none_left table None = refl
none_left table (Some m) = refl

-- a truth that is 1 is true
truth_is : (b : Bool) → (truth b == 1) ≡ true → truth b ≡ 1
truth_is true e = refl
truth_is false e = absurd (cc)

-- what is set to 0 is 0
set_zero : (store : List ℕ) → Zero (slice_set store 0 0)
set_zero [] = refl
set_zero (x ∷ xs) = refl

-- a draw into the second cell leaves the first
draw_keeps : (store : List ℕ) (v : ℕ) → slice_index (slice_set store 1 v) 0 ≡ slice_index store 0
draw_keeps [] v = refl
draw_keeps (x ∷ xs) v = refl

-- a cell behind another
behind : (x : ℕ) (cells : List ℕ) → Contains cells 0 → Contains (x ∷ cells) 0
behind x cells c = (suc c.0, omega (arith, c.1), c.2)

-- the first cell is there still where the second is taken out
without_one : (cells : List ℕ) → Contains cells 0 → Contains (without 1 cells) 0
without_one [] c = absurd (omega (arith, c.1))
without_one (x ∷ cells) c = by (nat_eq x 1) refl (without_one cells) c
  where
    by : (b : Bool) → nat_eq x 1 ≡ b → (Contains cells 0 → Contains (without 1 cells) 0) → Contains (x ∷ cells) 0 → Contains (if b then without 1 cells else x ∷ without 1 cells) 0
    by true e ih (zero, lt, q) = absurd (omega (arith, q, eqb-true x 1 e))
    by true e ih (suc k, lt, q) = ih (k, omega (arith, lt), q)
    by false e ih (zero, lt, q) = (0, omega arith, q)
    by false e ih (suc k, lt, q) = behind x (without 1 cells) (ih (k, omega (arith, lt), q))

-- false is not true
pub falsely : false ≡ true → ⊥
falsely e = subst Marked (sym e) tt
  where
    Marked : Bool → Type 0
    Marked true = Unit {0}
    Marked false = ⊥

module _ (last : ℕ) where
  -- the edge of a number
  abbrev edge_at : ℕ → Edge
  edge_at n = slice_index_or (loop_edges last) n (edge 0 0 (Assume (term 0)))

  abbrev Follows : ℕ → Formula → Formula → Type 0
  Follows n f h = EdgeImplies (loop_flow last) label_table (record { 0 = n }) (term_of f) (term_of h)

  -- the edge of a number is the one that is there
  known : (e edge : Edge) (store : List ℕ) (draws : List ℤ) (after : List ℕ) → Some e ≡ Some edge → Leads (loop_flow last).terms edge store draws after → Leads (loop_flow last).terms e store draws after
  known e edge store draws after is leads = let same : edge ≡ e = cc in subst (λ (x : Edge). Leads (loop_flow last).terms x store draws after) same leads

  sets : Follows 0 Always IsZero
  sets edge store draws after ge whole holds leads =
      let l : Some (moment (slice_set store 0 0) draws) ≡ Some (moment after []) = known (edge_at 0) edge store draws after ge leads in
      let same : moment (slice_set store 0 0) draws ≡ moment after [] = cc in
      subst Zero (ap (λ (m : Moment). m.store) same) (set_zero store)

  asks : Follows 2 Always IsZero
  asks edge store draws after ge whole holds leads =
      let a = assumed (loop_flow last).terms (truth (slice_index store 0 == 0) == 1) store after draws (known (edge_at 2) edge store draws after ge leads) in
      subst Zero a.1 (truth_is (slice_index store 0 == 0) a.0)

  keeps_asked : Follows 2 IsZero IsZero
  keeps_asked edge store draws after ge whole holds leads = asks edge store draws after ge whole refl leads

  keeps_drawn : Follows 3 IsZero IsZero
  keeps_drawn edge store [] after ge whole holds leads = absurd (no_draw (known (edge_at 3) edge store [] after ge leads))
    where
      no_draw : None ≡ Some (moment after []) → ⊥
      no_draw e = cc
  keeps_drawn edge store (z ∷ zs) after ge whole holds leads =
      let a = assumed (loop_flow last).terms (in_range_of 32 true z) (slice_set store 1 (modulo 32 z)) after zs (known (edge_at 3) edge store (z ∷ zs) after ge leads) in
      subst Zero a.1 (ap (λ (n : ℕ). truth (n == 0)) (draw_keeps store (modulo 32 z)) ∙ holds)

  keeps_back : Follows 4 IsZero IsZero
  keeps_back edge store draws after ge whole holds leads =
      let a = assumed (loop_flow last).terms (value (loop_flow last).terms store (term 6) == 1) store after draws (known (edge_at 4) edge store draws after ge leads) in
      subst Zero a.1 holds

  keeps_last : Follows 5 IsZero IsZero
  keeps_last edge store draws after ge whole holds leads =
      let a = assumed (loop_flow last).terms (value (loop_flow last).terms store (term 5) == 1) store after draws (known (edge_at 5) edge store draws after ge leads) in
      subst Zero a.1 holds

  never : Follows 1 IsZero Never
  never edge store draws after ge whole holds leads =
      let l : (if complement_in 1 (truth (slice_index store 0 == 0)) == 1 then Some (moment store draws) else None) ≡ Some (moment after []) =
      sym (none_left (loop_flow last).terms (if complement_in 1 (truth (slice_index store 0 == 0)) == 1 then Some (moment store draws) else None)) ∙ known (edge_at 1) edge store draws after ge leads in
      let m : (if complement_in 1 1 == 1 then Some (moment store draws) else None) ≡ Some (moment after []) = subst (λ (b : ℕ). (if complement_in 1 b == 1 then Some (moment store draws) else None) ≡ Some (moment after [])) holds l in
      absurd (none_some m)
    where
      none_some : None ≡ Some (moment after []) → ⊥
      none_some e = cc

  at_sets : (n : ℕ) → (n == 0 || n == 2) ≡ true → Follows n Always IsZero
  at_sets n e = elim (or_cases (n == 0) (n == 2) e) [
    | inl z ↦ subst (λ (k : ℕ). Follows k Always IsZero) (sym (eqb-true n 0 z)) sets
    | inr t ↦ subst (λ (k : ℕ). Follows k Always IsZero) (sym (eqb-true n 2 t)) asks
  ]

  kept_at : (n : ℕ) → 2 ≤ n → n ≤ 5 → Follows n IsZero IsZero
  kept_at zero a b = absurd (omega (arith, a))
  kept_at (suc zero) a b = absurd (omega (arith, a))
  kept_at (suc (suc zero)) a b = keeps_asked
  kept_at (suc (suc (suc zero))) a b = keeps_drawn
  kept_at (suc (suc (suc (suc zero)))) a b = keeps_back
  kept_at (suc (suc (suc (suc (suc zero))))) a b = keeps_last
  kept_at (suc (suc (suc (suc (suc (suc n)))))) a b = absurd (omega (arith, b))

  at_number : (n : ℕ) (f h : Formula) → is_followed f n h ≡ true → Follows n f h
  at_number n Always Always e = λ edge store draws after ge whole holds leads. refl
  at_number n Always IsZero e = at_sets n e
  at_number n Always Never e = absurd (falsely e)
  at_number n IsZero Always e = absurd (falsely e)
  at_number n IsZero IsZero e = let p = and_parts (nat_le 2 n) (nat_le n 5) e in kept_at n (leb-true 2 n p.0) (leb-true n 5 p.1)
  at_number n IsZero Never e = subst (λ (k : ℕ). Follows k IsZero Never) (sym (eqb-true n 1 e)) never
  at_number n Never Always e = absurd (falsely e)
  at_number n Never IsZero e = absurd (falsely e)
  at_number n Never Never e = absurd (falsely e)

  pub follows : (e : EdgeId) (f h : Formula) → is_followed f e.0 h ≡ true → EdgeImplies (loop_flow last) label_table e (term_of f) (term_of h)
  follows e f h = at_number e.0 f h

  -- x is needed above the edge
  abbrev Needs : ℕ → List ℕ → Type 0
  Needs n later = Contains (needed_by_all (loop_flow last).terms (operations_of (loop_flow last).edges n) later) 0

  needs_kept : (n : ℕ) (later : List ℕ) → 2 ≤ n → n ≤ 5 → Contains later 0 → Needs n later
  needs_kept zero later a b c = absurd (omega (arith, a))
  needs_kept (suc zero) later a b c = absurd (omega (arith, a))
  needs_kept (suc (suc zero)) later a b c = (0, omega arith, refl)
  needs_kept (suc (suc (suc zero))) later a b c = without_one later c
  needs_kept (suc (suc (suc (suc zero)))) later a b c = behind 1 later c
  needs_kept (suc (suc (suc (suc (suc zero))))) later a b c = behind 1 later c
  needs_kept (suc (suc (suc (suc (suc (suc n)))))) later a b c = absurd (omega (arith, b))

  needs_first : (later : List ℕ) → Needs 1 later
  needs_first later = (0, omega arith, refl)

  needs_at : (n : ℕ) (f h : Formula) (later : List ℕ) → is_followed f n h ≡ true → (h ≡ IsZero → Contains later 0) → f ≡ IsZero → Needs n later
  needs_at n Always h later e c z = absurd (cc)
  needs_at n Never h later e c z = absurd (cc)
  needs_at n IsZero Always later e c z = absurd (falsely e)
  needs_at n IsZero IsZero later e c z = let p = and_parts (nat_le 2 n) (nat_le n 5) e in needs_kept n later (leb-true 2 n p.0) (leb-true n 5 p.1) (c refl)
  needs_at n IsZero Never later e c z = subst (λ (k : ℕ). Needs k later) (sym (eqb-true n 1 e)) (needs_first later)

  pub needs : (e : EdgeId) (f h : Formula) (later : List ℕ) → is_followed f e.0 h ≡ true → (h ≡ IsZero → Contains later 0) → f ≡ IsZero
      → Contains (needed_by_all (loop_flow last).terms (operations_of (loop_flow last).edges e.0) later) 0
  needs e f h later = needs_at e.0 f h later

pub has_width : (f : Formula) → HasWidth label_table (term_of f) 1
has_width Always = (omega arith, refl)
has_width IsZero = (omega arith, refl)
has_width Never = (omega arith, refl)

pub only_names : (f : Formula) (cells : List ℕ) → (f ≡ IsZero → Contains cells 0) → OnlyNames label_table (term_of f) cells
only_names Always cells c = λ k d lt. absurd (omega (arith, lt))
only_names IsZero cells c = λ k d lt. at k d lt
  where
    at : (k : ℕ) (d : ℕ) → k < 1 → Contains cells (slice_index_or (0 ∷ []) k d)
    at zero d lt = c refl
    at (suc k) d lt = absurd (omega (arith, lt))
only_names Never cells c = λ k d lt. absurd (omega (arith, lt))
