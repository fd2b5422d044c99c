-- A cell that operations need is read by one of them before one sets it.
use Rattle.std.proofs.Common.{◌≡◌, ◌∙◌, ℕ, ◌<◌, ◌==◌, ◌⊎◌, inl, inr, Bool, true, false, List, [], ◌∷◌, ◌++◌, length, zero, suc, refl, sym, ap, arith, if◌then◌else◌, slice_index_or, append_assoc}
use Rattle.std.proofs.lemmas.Bool.{eqb-false}
use Rattle.bv_term.specs.WellFormed.{Table}
use Rattle.c_graph.specs.declared.graph.Operation.{Operation}
use Rattle.c_graph.specs.declared.graph.Operation.TheVariants.{Assume, Set, SetAt, Draw}
use Rattle.c_graph.specs.declared.graph.EdgeId.{EdgeId}
use Rattle.c_graph.specs.Shape.{Flow}
use Rattle.obligation_laws.proofs.Alike.{Has}
use Rattle.needed_cells.specs.Reads.{cells_from, names, needed_along, needed_by, needed_by_all, operations_of, without}
use Rattle.chain_laws.proofs.Names.{has-either}
use Rattle.needed_cells.specs.Readings.{IsRead, Reads, Sets, Unset, operations_along}
use Rattle.needed_cell_laws.specs.Laws.{NeededIsRead}
use Rattle.needed_cell_laws.proofs.Naming.{names-are, within}

-- the cells but one
others : (k : ℕ) (xs : List ℕ) (c : ℕ) → Has (without k xs) c → (k ≡ c → ⊥) × Has xs c
others k [] c h = absurd h
others k (x ∷ xs) c h = by (x == k) refl h (others k xs c)
  where
    by : (b : Bool) → (x == k) ≡ b → Has (if b then without k xs else x ∷ without k xs) c → (Has (without k xs) c → (k ≡ c → ⊥) × Has xs c)
        → (k ≡ c → ⊥) × Has (x ∷ xs) c
    by true e h f = let (n, i) = f h in (n, inr i)
    by false e (inl i) f = (λ s. eqb-false x k e (sym (s ∙ i)), inl i)
    by false e (inr h) f = let (n, i) = f h in (n, inr i)

unset-none : (c : ℕ) → Unset c []
unset-none c k d lt = absurd (omega (arith, lt))

unset-more : (c : ℕ) (o : Operation) (os : List Operation) → (Sets o c → ⊥) → Unset c os → Unset c (o ∷ os)
unset-more c o os n all zero d lt = n
unset-more c o os n all (suc k) d lt = all k d (omega (arith, lt))

-- one operation reads the cell, or leaves it to what follows
abbrev Passes : Table → Operation → List ℕ → ℕ → Type 0
Passes table o later c = Reads table o c ⊎ ((Sets o c → ⊥) × Has later c)

one-reads : (table : Table) (o : Operation) (later : List ℕ) (c : ℕ) → Has (needed_by table o later) c → Passes table o later c
one-reads table (Assume t) later c h = elim (has-either (names table t) later c h) [
  | inl a ↦ inl (names-are table t c a)
  | inr b ↦ inr (λ s. s, b)
]
one-reads table (Set k t) later c h = elim (has-either (names table t) (without k later) c h) [
  | inl a ↦ inl (names-are table t c a)
  | inr b ↦ inr (others k later c b)
]
one-reads table (SetAt first n i t) later c h =
    elim (has-either (names table i) (names table t ++ (cells_from first n ++ later)) c h) [
      | inl a ↦ inl (inl (names-are table i c a))
      | inr r ↦ value r
    ]
  where
    array : Has (cells_from first n ++ later) c → Passes table (SetAt first n i t) later c
    array r = elim (has-either (cells_from first n) later c r) [
      | inl a ↦ inl (inr (inr (within first n c a)))
      | inr b ↦ inr (λ s. s, b)
    ]

    value : Has (names table t ++ (cells_from first n ++ later)) c → Passes table (SetAt first n i t) later c
    value r = elim (has-either (names table t) (cells_from first n ++ later) c r) [
      | inl a ↦ inl (inr (inl (names-are table t c a)))
      | inr b ↦ array b
    ]
one-reads table (Draw k signed) later c h = inr (others k later c h)

all-read : (table : Table) (os : List Operation) (later : List ℕ) (c : ℕ) → Has (needed_by_all table os later) c
    → IsRead table os c ⊎ (Unset c os × Has later c)
all-read table [] later c h = inr (unset-none c, h)
all-read table (o ∷ os) later c h = elim (one-reads table o (needed_by_all table os later) c h) [
  | inl r ↦ inl (record { front = []; reader = o; back = os; are = refl; unset = unset-none c; reads = r })
  | inr p ↦ elim (all-read table os later c p.1) [
    | inl r ↦ inl (record {
      front = o ∷ r.front;
      reader = r.reader;
      back = r.back;
      are = ap (λ (xs : List Operation). o ∷ xs) r.are;
      unset = unset-more c o r.front p.0 r.unset;
      reads = r.reads;
    })
    | inr q ↦ inr (unset-more c o os p.0 q.0, q.1)
  ]
]

-- among the first of operations, or behind operations that don't set the cell
read-first : (table : Table) (os more : List Operation) (c : ℕ) → IsRead table os c → IsRead table (os ++ more) c
read-first table os more c r = record {
  front = r.front;
  reader = r.reader;
  back = r.back ++ more;
  are = ap (λ (xs : List Operation). xs ++ more) r.are ∙ append_assoc r.front (r.reader ∷ r.back) more;
  unset = r.unset;
  reads = r.reads;
}

read-behind : (table : Table) (os more : List Operation) (c : ℕ) → Unset c os → IsRead table more c → IsRead table (os ++ more) c
read-behind table [] more c n r = r
read-behind table (o ∷ os) more c n r =
    let s = read-behind table os more c (λ k d lt. n (suc k) d (omega (arith, lt))) r in
    record {
      front = o ∷ s.front;
      reader = s.reader;
      back = s.back;
      are = ap (λ (xs : List Operation). o ∷ xs) s.are;
      unset = unset-more c o s.front (n 0 o (omega arith)) s.unset;
      reads = s.reads;
    }

pub along-read : (g : Flow) (path : List EdgeId) (c : ℕ) → Has (needed_along g path) c → IsRead g.terms (operations_along g path) c
along-read g [] c h = absurd h
along-read g (e ∷ es) c h = elim (all-read g.terms (operations_of g.edges e.0) (needed_along g es) c h) [
  | inl r ↦ read-first g.terms (operations_of g.edges e.0) (operations_along g es) c r
  | inr p ↦ read-behind g.terms (operations_of g.edges e.0) (operations_along g es) c p.0 (along-read g es c p.1)
]

has-contained : (xs : List ℕ) (k c : ℕ) → k < length xs → slice_index_or xs k c ≡ c → Has xs c
has-contained [] k c lt e = absurd (omega (arith, lt))
has-contained (x ∷ xs) zero c lt e = inl (sym e)
has-contained (x ∷ xs) (suc k) c lt e = inr (has-contained xs k c (omega (arith, lt)) e)

pub needed_is_read : NeededIsRead
needed_is_read g path c (k, lt, at) = along-read g path c (has-contained (needed_along g path) k c lt at)
