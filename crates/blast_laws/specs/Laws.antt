-- What lists of calls say, what they speak of, and how much they add.
use Rattle.std.specs.Prelude.{ℕ, ◌≡◌, ◌≤◌, ◌<◌, ◌+◌, Bool, true, List, [], ◌∷◌, ◌++◌, length, take, drop, All, ◌↔◌, ◌⊎◌, slice_index}
use Rattle.prop.specs.declared.Lit.{Lit}
use Rattle.prop.specs.Logic.{all_hold, count, lit_value}
use Rattle.bit_gates.specs.Net.{net_clauses, number}
use Rattle.bit_gates.specs.Laws.{AllIn, ClausesIn, From}
use Rattle.bit_words.specs.Elements.{AllLong}
use Rattle.bv_term.specs.WellFormed.{Table, IsTable, IsWidth}
use Rattle.bv_term.specs.declared.term.TermId.{TermId}
use Rattle.bv_term.specs.Values.{IsStore, Holds, values}
use Rattle.bit_blast.specs.Cone.{cone_of}
use Rattle.bit_blast.specs.Emission.{cell_at}
use Rattle.bit_blast.specs.Held.{Held, blast_of, store_of, new_of, renew_of, above_all, IsOver}
use Rattle.blast_laws.specs.Calls.{Call, Renew, AllMay, held_after, clauses_by, IsOpen, spelled_store, Told, IsStart, CellsIn, HandedIn, OutsIn}
use Rattle.blast_laws.specs.Reading.{IsRead, IsSet}
use Rattle.blast_laws.specs.Bounds.{bounds_of, store_bound, constant_bound}

-- the clauses of calls have exactly the solutions that they are to have
pub record IsExact (ws : List ℕ) (h : Held) (cs : List Call) : Type 0 where
  -- whatever values the open variables have, the others can be chosen so that the clauses hold
  pub extends : (v : ℕ → Bool) → (w : ℕ → Bool) × ((k : ℕ) → IsOpen ws h cs k → w k ≡ v k) × (all_hold w (clauses_by ws h cs) ≡ true)
  -- whatever values the variables have, the cells spell a store of their widths
  pub reads : (v : ℕ → Bool) → IsStore ws (spelled_store v h.cells) × (length (spelled_store v h.cells) ≡ length ws)
  -- wherever the clauses hold, cells and answers have the values that the calls gave them; the store is at first what the
  -- cells spell
  pub told : (v : ℕ → Bool) → all_hold v (clauses_by ws h cs) ≡ true → Told v ws h (spelled_store v h.cells) cs

-- the calls after the beginning of a step are exact
abbrev pub CallsExact : Type 0
CallsExact = (ws : List ℕ) (h : Held) (cs : List Call) → IsStart ws h → AllMay ws [] h cs → IsExact ws h cs

-- a new Bits begins a step
abbrev pub NewStarts : Type 0
NewStarts = (old : List (List Lit)) (ws : List ℕ) → All IsWidth ws → IsStart ws (new_of old ws)

-- each renew begins a step, whatever calls were made since another beginning; the calls after it are exact by their own
-- clauses alone, which come after those of the calls before it
abbrev pub RenewStarts : Type 0
RenewStarts =
    (ws : List ℕ) (h : Held) (before after : List Call) → IsStart ws h → AllMay ws [] h (before ++ Renew ∷ after)
    → IsStart ws (renew_of (held_after ws h before))
    × IsExact ws (renew_of (held_after ws h before)) after
    × (clauses_by ws h (before ++ Renew ∷ after) ≡ clauses_by ws h before ++ clauses_by ws (renew_of (held_after ws h before)) after)

-- each store of these widths is what the first cells spell under an assignment that is any given one at all variables
-- before and behind theirs
abbrev pub StoresSpelled : Type 0
StoresSpelled =
    (old : List (List Lit)) (ws store : List ℕ) → IsStore ws store → length store ≡ length ws → (v : ℕ → Bool)
    → (w : ℕ → Bool) × (spelled_store w (new_of old ws).cells ≡ store)
    × ((k : ℕ) → k < above_all 0 old → w k ≡ v k) × ((k : ℕ) → (new_of old ws).next ≤ k → w k ≡ v k)

-- each variable of the clauses, of the literals that the calls answer, and of the cells' literals after them, is one of the cells' literals at the beginning,
-- one of the literals that calls were handed, or was made since: every test that those pass these pass
abbrev pub CallsScope : Type 0
CallsScope =
    (ws : List ℕ) (h : Held) (cs : List Call) (p : ℕ → Bool) → IsStart ws h → AllMay ws [] h cs
    → CellsIn p h.cells → HandedIn p cs → From p h.next (held_after ws h cs).next
    → ClausesIn p (clauses_by ws h cs) × OutsIn p ws h cs × CellsIn p (held_after ws h cs).cells

-- The same where the test holds at those cells alone that a call reads before any call sets them. After the calls it holds
-- at each cell at which it held at the beginning, and at each that a call set.
abbrev pub ReadsScope : Type 0
ReadsScope =
    (ws : List ℕ) (h : Held) (cs : List Call) (p : ℕ → Bool) → IsStart ws h → AllMay ws [] h cs
    → ((c : ℕ) → IsRead ws h cs c → AllIn p (cell_at h.cells c)) → HandedIn p cs → From p h.next (held_after ws h cs).next
    → ClausesIn p (clauses_by ws h cs) × OutsIn p ws h cs
    × ((c : ℕ) → AllIn p (cell_at h.cells c) ⊎ IsSet cs c → AllIn p (cell_at (held_after ws h cs).cells c))

-- a literal that spells the value of a term of width 1 is true exactly where the term holds
abbrev pub TruthsRead : Type 0
TruthsRead =
    (v : ℕ → Bool) (table : Table) (store : List ℕ) (t : TermId) (l : Lit) → number v (l ∷ []) ≡ slice_index (values table store) t.0
    → (lit_value v l ≡ true) ↔ Holds table store t

-- a term adds at most what it and the terms below it may add that are not done, and one literal where there is no constant
abbrev pub TermsSmall : Type 0
TermsSmall =
    (table : Table) (h : Held) (t : ℕ) → IsTable table → IsOver table h → t < length table.terms
    → count (net_clauses h.next (blast_of table t h).defs) ≤ constant_bound h.one + bounds_of table (cone_of table.terms h.done t)

-- a store at an index of at most 128 bits likewise
abbrev pub StoresSmall : Type 0
StoresSmall =
    (h : Held) (f m : ℕ) (index value : List Lit) → 1 ≤ length value → length index ≤ 128 → f + m ≤ length h.cells
    → AllLong (length value) (take m (drop f h.cells))
    → count (net_clauses h.next (store_of f m index value h).defs) ≤ constant_bound h.one + store_bound m (length value)
