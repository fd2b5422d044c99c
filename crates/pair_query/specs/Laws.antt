-- What the clauses of a pair say.
use Rattle.std.specs.Prelude.{ℕ, ◌≡◌, ◌↔◌, Bool, true, List, [], length, All}
use Rattle.prop.specs.declared.Lit.{Lit}
use Rattle.prop.specs.Logic.{all_hold}
use Rattle.bv_term.specs.declared.term.TermId.{TermId}
use Rattle.bv_term.specs.WellFormed.{Table, IsTable}
use Rattle.bv_term.specs.Values.{Holds, IsStore}
use Rattle.c_graph.specs.Shape.{HasWidth}
use Rattle.bit_blast.specs.Held.{new_of}
use Rattle.blast_laws.specs.Calls.{spelled_store}
use Rattle.pair_query.specs.Pairs.{pair_says}

-- the terms are there, of one bit each
abbrev pub AreBits : Table → List TermId → Type 0
AreBits table ts = All (λ t. HasWidth table t 1) ts

-- each holds in the store
abbrev pub AllHold : Table → List ℕ → List TermId → Type 0
AllHold table store ts = All (Holds table store) ts

-- a store of the table's cells
pub record IsStoreOf (table : Table) (store : List ℕ) : Type 0 where
  pub fits : IsStore table.cells store
  pub whole : length store ≡ length table.cells

-- the clauses of a pair
abbrev pub pair_of : Table → List TermId → List TermId → List (List Lit)
pair_of table left right = pair_says table left right (new_of [] table.cells)

-- no assignment satisfies the clauses
abbrev pub AreRefuted : List (List Lit) → Type 0
AreRefuted cs = (v : ℕ → Bool) → all_hold v cs ≡ true → ⊥

-- they are refuted exactly where the first label implies the second
abbrev pub PairExact : Type 0
PairExact =
    (table : Table) (left right : List TermId) → IsTable table → AreBits table left → AreBits table right
    → (AreRefuted (pair_of table left right)) ↔ ((store : List ℕ) → IsStoreOf table store → AllHold table store left → AllHold table store right)

-- the store that the cells spell
abbrev pub store_read : Table → (ℕ → Bool) → List ℕ
store_read table v = spelled_store v (new_of [] table.cells).cells

-- a satisfying assignment's store meets the first label and not the second
abbrev pub PairRead : Type 0
PairRead =
    (table : Table) (left right : List TermId) (v : ℕ → Bool) → IsTable table → AreBits table left → AreBits table right
    → all_hold v (pair_of table left right) ≡ true
    → IsStoreOf table (store_read table v) × AllHold table (store_read table v) left × (AllHold table (store_read table v) right → ⊥)
