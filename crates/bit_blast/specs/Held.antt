-- What blasting holds, and what each call makes of it.
use Rattle.std.specs.Prelude.{ℕ, ◌≡◌, ◌<◌, ◌+◌, true, cond, List, [], ◌∷◌, ◌++◌, length, map, take, drop, zero, suc, Option, Some, None, slice_index}
use Rattle.std.specs.Prelude.{ltb}
use Rattle.prop.specs.declared.Lit.{Lit}
use Rattle.prop.specs.Logic.{positive_of}
use Rattle.bit_gates.specs.declared.netlist.Def.{Def}
use Rattle.bit_gates.specs.declared.netlist.Def.TheVariants.{Fixed}
use Rattle.bit_words.specs.Folding.{folded_made}
use Rattle.bit_words.specs.Words.{spelled_of}
use Rattle.bit_words.specs.Elements.{decoded, stored, Stored}
use Rattle.bv_term.specs.WellFormed.{Table, widths}
use Rattle.bit_blast.specs.Done.{Known, lits_of, is_done}
use Rattle.bit_blast.specs.Cone.{cone_of}
use Rattle.bit_blast.specs.Emission.{emitted}

-- the next variable, the constant literal, the literals of the cells, and the terms that count as done
pub record Held : Type 0 where
  pub next : ℕ
  pub one : Option Lit
  pub cells : List (List Lit)
  pub done : List Known

-- what a call adds and answers, and what is held then
pub record Made : Type 0 where
  pub defs : List Def
  pub outs : List Lit
  pub held : Held

-- positive literals of the variables from n on
abbrev pub fresh_lits : ℕ → ℕ → List Lit
fresh_lits n zero = []
fresh_lits n (suc w) = positive_of n ∷ fresh_lits (suc n) w

-- literals of their own for cells of these widths
abbrev pub fresh_cells : ℕ → List ℕ → List (List Lit)
fresh_cells n [] = []
fresh_cells n (w ∷ ws) = fresh_lits n w ∷ fresh_cells (n + w) ws

-- the first variable above those of a clause and n
abbrev pub above : ℕ → List Lit → ℕ
above n [] = n
above n (l ∷ ls) = above (cond (ltb l.var n) n (l.var + 1)) ls

-- the first variable above those of all clauses and n
abbrev pub above_all : ℕ → List (List Lit) → ℕ
above_all n [] = n
above_all n (c ∷ cs) = above_all (above n c) cs

-- the constant literal, made where there is none yet
pub record Begun : Type 0 where
  pub defs : List Def
  pub lit : Lit

abbrev pub begun : ℕ → Option Lit → Begun
begun n (Some l) = record { defs = []; lit = l }
begun n None = record { defs = Fixed true ∷ []; lit = positive_of n }

abbrev pub sum_of : List ℕ → ℕ
sum_of [] = 0
sum_of (w ∷ ws) = w + sum_of ws

-- the beginning, over cells of these widths
abbrev pub new_of : List (List Lit) → List ℕ → Held
new_of cs ws =
    record { next = above_all 0 cs + sum_of ws; one = None; cells = fresh_cells (above_all 0 cs) ws; done = [] }

-- what a term of a table adds
abbrev pub blast_of : Table → ℕ → Held → Made
blast_of table t h =
    let o = begun h.next h.one in
    let r = emitted o.lit h.cells table.terms (h.next + length o.defs) h.done (cone_of table.terms h.done t) in
    let ds = o.defs ++ r.defs in
    record {
      defs = ds;
      outs = lits_of r.done t;
      held = record { next = h.next + length ds; one = Some o.lit; cells = h.cells; done = r.done };
    }

abbrev pub fresh_of : ℕ → Held → Made
fresh_of w h =
    record { defs = []; outs = fresh_lits h.next w; held = record { next = h.next + w; one = h.one; cells = h.cells; done = h.done } }

-- the list with another item at a place within it
abbrev pub placed : List (List Lit) → ℕ → List Lit → List (List Lit)
placed [] k c = []
placed (x ∷ xs) zero c = c ∷ xs
placed (x ∷ xs) (suc k) c = x ∷ placed xs k c

abbrev pub rebind_of : ℕ → List Lit → Held → Held
rebind_of cell to h = record { next = h.next; one = h.one; cells = placed h.cells cell to; done = [] }

abbrev pub renew_of : Held → Held
renew_of h = record { next = h.next; one = None; cells = h.cells; done = [] }

-- some cells in the place of those from the first on
abbrev pub replaced : List (List Lit) → ℕ → List (List Lit) → List (List Lit)
replaced cells first [] = cells
replaced cells first (c ∷ cs) = placed (replaced cells (suc first) cs) first c

-- some cells after a value was stored among them at an index that is not known
abbrev pub store_open : Lit → ℕ → List (List Lit) → List Lit → List Lit → Stored
store_open one n cs index value =
    let d = folded_made one n (decoded n one index (length cs)) in
    let s = stored one (n + length d.defs) d.outs cs value in
    record { defs = d.defs ++ s.defs; cells = s.cells }

-- an index among no cells names none
abbrev pub known_index : ℕ → Option ℕ → Option ℕ
known_index zero k = Some 0
known_index (suc m) k = k

-- the cells after a value was stored at an index among the m cells from the first on
abbrev pub store_in : Lit → ℕ → List (List Lit) → ℕ → ℕ → List Lit → List Lit → Option ℕ → Stored
store_in one n cells first m index value (Some k) =
    record { defs = []; cells = cond (ltb k m) (placed cells (first + k) value) cells }
store_in one n cells first m index value None =
    let s = store_open one n (take m (drop first cells)) index value in
    record { defs = s.defs; cells = replaced cells first s.cells }

abbrev pub store_of : ℕ → ℕ → List Lit → List Lit → Held → Made
store_of first m index value h =
    let o = begun h.next h.one in
    let s = store_in o.lit (h.next + length o.defs) h.cells first m index value (known_index m (spelled_of o.lit index)) in
    let ds = o.defs ++ s.defs in
    record {
      defs = ds;
      outs = [];
      held = record { next = h.next + length ds; one = Some o.lit; cells = s.cells; done = [] };
    }

-- the terms that are done are terms of the table and have its widths, and the cells have theirs
pub record IsOver (table : Table) (h : Held) : Type 0 where
  pub cells : map length h.cells ≡ table.cells
  pub done : (k : ℕ) → is_done h.done k ≡ true → (k < length table.terms) × (length (lits_of h.done k) ≡ slice_index (widths table) k)
