-- Lists of calls, what they add, and what they mean under an assignment.
use Rattle.std.specs.Prelude.{ℕ, ◌≡◌, ◌≤◌, ◌<◌, ◌+◌, Bool, List, [], ◌∷◌, ◌++◌, length, map, take, drop, None, ◌⊎◌, All, slice_index, slice_set, nat_lt, if◌then◌else◌}
use Rattle.prop.specs.declared.Lit.{Lit}
use Rattle.prop.specs.Logic.{LitsBelow}
use Rattle.bit_gates.specs.Net.{number, net_clauses}
use Rattle.bit_gates.specs.Laws.{AllIn}
use Rattle.bit_words.specs.Elements.{AllLong}
use Rattle.bv_term.specs.declared.term.Term.{Term}
use Rattle.bv_term.specs.WellFormed.{IsTable, IsWidth, Table}
use Rattle.bv_term.specs.Values.{values}
use Rattle.bit_blast.specs.Emission.{cell_at}
use Rattle.bit_blast.specs.Held.{Held, Made, blast_of, fresh_of, rebind_of, renew_of, store_of}

-- a call: a term of a table with these terms; fresh literals; a cell and its new literals; a new step; and the first of
-- some cells, how many they are, the index among them, and the value that is stored there
pub data Call : Type 0 where
  Blast : (terms : List Term) (term : ℕ) → Call
  Fresh : (width : ℕ) → Call
  Rebind : (cell : ℕ) (to : List Lit) → Call
  Renew : Call
  StoreAt : (first : ℕ) (count : ℕ) (index : List Lit) (value : List Lit) → Call

abbrev pub table_of : List ℕ → List Term → Table
table_of ws ts = record { cells = ws; terms = ts }

-- what a call adds, answers and leaves, over cells of these widths
abbrev pub made_by : List ℕ → Call → Held → Made
made_by ws (Blast ts t) h = blast_of (table_of ws ts) t h
made_by ws (Fresh w) h = fresh_of w h
made_by ws (Rebind c to) h = record { defs = []; outs = []; held = rebind_of c to h }
made_by ws Renew h = record { defs = []; outs = []; held = renew_of h }
made_by ws (StoreAt f m i x) h = store_of f m i x h

-- the terms of the table to which the done ones belong, after a call
abbrev pub terms_after : Call → List Term → List Term
terms_after (Blast ts t) us = ts
terms_after (Fresh w) us = us
terms_after (Rebind c to) us = []
terms_after Renew us = []
terms_after (StoreAt f m i x) us = []

-- when a call may be made: a table begins with the one to which the done terms belong, and literals that are handed over
-- have variables that were made
abbrev pub May : List ℕ → List Term → Held → Call → Type 0
May ws us h (Blast ts t) = IsTable (table_of ws ts) × ((more : List Term) × (ts ≡ us ++ more)) × (t < length ts)
May ws us h (Fresh w) = Unit {0}
May ws us h (Rebind c to) = (c < length h.cells) × (length to ≡ length (cell_at h.cells c)) × LitsBelow h.next to
May ws us h Renew = Unit {0}
May ws us h (StoreAt f m i x) =
    (f + m ≤ length h.cells) × AllLong (length x) (take m (drop f h.cells)) × LitsBelow h.next i × LitsBelow h.next x

-- each of these calls may be made in its turn
abbrev pub AllMay : List ℕ → List Term → Held → List Call → Type 0
AllMay ws us h [] = Unit {0}
AllMay ws us h (c ∷ cs) = May ws us h c × AllMay ws (terms_after c us) (made_by ws c h).held cs

-- what is held after calls
abbrev pub held_after : List ℕ → Held → List Call → Held
held_after ws h [] = h
held_after ws h (c ∷ cs) = held_after ws (made_by ws c h).held cs

-- the clauses that calls add
abbrev pub clauses_by : List ℕ → Held → List Call → List (List Lit)
clauses_by ws h [] = []
clauses_by ws h (c ∷ cs) = net_clauses h.next (made_by ws c h).defs ++ clauses_by ws (made_by ws c h).held cs

-- the variable is one of the literals that fresh made
abbrev pub IsFresh : List ℕ → Held → List Call → ℕ → Type 0
IsFresh ws h [] k = ⊥
IsFresh ws h (Blast ts t ∷ cs) k = IsFresh ws (blast_of (table_of ws ts) t h).held cs k
IsFresh ws h (Fresh w ∷ cs) k = ((h.next ≤ k) × (k < h.next + w)) ⊎ IsFresh ws (fresh_of w h).held cs k
IsFresh ws h (Rebind c to ∷ cs) k = IsFresh ws (rebind_of c to h) cs k
IsFresh ws h (Renew ∷ cs) k = IsFresh ws (renew_of h) cs k
IsFresh ws h (StoreAt f m i x ∷ cs) k = IsFresh ws (store_of f m i x h).held cs k

-- the variables that calls leave open: those that were there before, and those of fresh literals
abbrev pub IsOpen : List ℕ → Held → List Call → ℕ → Type 0
IsOpen ws h cs k = (k < h.next) ⊎ IsFresh ws h cs k

-- the store that cells' literals spell under an assignment
abbrev pub spelled_store : (ℕ → Bool) → List (List Lit) → List ℕ
spelled_store v cells = map (number v) cells

-- the store after a call: a cell gets the value of its new literals, or of what is stored there; nothing is stored where
-- the index is not below the count
abbrev pub store_by : (ℕ → Bool) → Call → List ℕ → List ℕ
store_by v (Blast ts t) s = s
store_by v (Fresh w) s = s
store_by v (Rebind c to) s = slice_set s c (number v to)
store_by v Renew s = s
store_by v (StoreAt f m i x) s = if nat_lt (number v i) m then slice_set s (f + number v i) (number v x) else s

-- what a call's literals spell: those of a term, its value in the store
abbrev pub Answers : (ℕ → Bool) → List ℕ → List ℕ → Call → List Lit → Type 0
Answers v ws s (Blast ts t) outs = number v outs ≡ slice_index (values (table_of ws ts) s) t
Answers v ws s (Fresh w) outs = Unit {0}
Answers v ws s (Rebind c to) outs = Unit {0}
Answers v ws s Renew outs = Unit {0}
Answers v ws s (StoreAt f m i x) outs = Unit {0}

-- before, between and after calls the cells spell the store, and each call answers what its term is there
abbrev pub Told : (ℕ → Bool) → List ℕ → Held → List ℕ → List Call → Type 0
Told v ws h s [] = spelled_store v h.cells ≡ s
Told v ws h s (c ∷ cs) =
    (spelled_store v h.cells ≡ s)
    × Answers v ws s c (made_by ws c h).outs
    × Told v ws (made_by ws c h).held (store_by v c s) cs

-- each literal of each cell has a variable below n
abbrev pub CellsBelow : ℕ → List (List Lit) → Type 0
CellsBelow n [] = Unit {0}
CellsBelow n (c ∷ cs) = LitsBelow n c × CellsBelow n cs

-- the beginning of a step: cells of these widths, no constant literal, no term done
pub record IsStart (ws : List ℕ) (h : Held) : Type 0 where
  pub sizes : All IsWidth ws
  pub widths : map length h.cells ≡ ws
  pub below : CellsBelow h.next h.cells
  pub one : h.one ≡ None
  pub done : h.done ≡ []

-- the test holds at the variable of each literal of each cell
abbrev pub CellsIn : (ℕ → Bool) → List (List Lit) → Type 0
CellsIn p [] = Unit {0}
CellsIn p (c ∷ cs) = AllIn p c × CellsIn p cs

-- the test holds at the variable of each literal that these calls are handed
abbrev pub HandedIn : (ℕ → Bool) → List Call → Type 0
HandedIn p [] = Unit {0}
HandedIn p (Blast ts t ∷ cs) = HandedIn p cs
HandedIn p (Fresh w ∷ cs) = HandedIn p cs
HandedIn p (Rebind c to ∷ cs) = AllIn p to × HandedIn p cs
HandedIn p (Renew ∷ cs) = HandedIn p cs
HandedIn p (StoreAt f m i x ∷ cs) = AllIn p i × AllIn p x × HandedIn p cs

-- the test holds at the variable of each literal that these calls answer
abbrev pub OutsIn : (ℕ → Bool) → List ℕ → Held → List Call → Type 0
OutsIn p ws h [] = Unit {0}
OutsIn p ws h (c ∷ cs) = AllIn p (made_by ws c h).outs × OutsIn p ws (made_by ws c h).held cs
