-- Which cells calls read, and which they set.
use Rattle.std.specs.Prelude.{ℕ, ◌≡◌, ◌≤◌, ◌<◌, ◌+◌, true, List, [], ◌∷◌, ◌⊎◌}
use Rattle.prop.specs.Trues.{listed}
use Rattle.bv_term.specs.declared.term.Term.{Term}
use Rattle.bv_term.specs.declared.term.Term.TheVariants.{Constant, Cell, Element, Add, Subtract, Multiply, Divide, Remainder, And, Or, Xor, Not, ShiftLeft, ShiftRight, ShiftSigned, Equal, Less, LessSigned, Select, ZeroExtend, SignExtend, Truncate, Bit}
use Rattle.bit_blast.specs.Cone.{cone_of}
use Rattle.bit_blast.specs.Emission.{term_at}
use Rattle.bit_blast.specs.Held.{Held}
use Rattle.blast_laws.specs.Calls.{Call, Blast, Fresh, Rebind, Renew, StoreAt, made_by}

-- the term reads the cell by itself
abbrev pub IsOwn : Term → ℕ → Type 0
IsOwn (Constant w v) c = ⊥
IsOwn (Cell k) c = c ≡ k
IsOwn (Element first n i) c = (first ≤ c) × (c < first + n)
IsOwn (Add i j) c = ⊥
IsOwn (Subtract i j) c = ⊥
IsOwn (Multiply i j) c = ⊥
IsOwn (Divide i j) c = ⊥
IsOwn (Remainder i j) c = ⊥
IsOwn (And i j) c = ⊥
IsOwn (Or i j) c = ⊥
IsOwn (Xor i j) c = ⊥
IsOwn (Not i) c = ⊥
IsOwn (ShiftLeft i j) c = ⊥
IsOwn (ShiftRight i j) c = ⊥
IsOwn (ShiftSigned i j) c = ⊥
IsOwn (Equal i j) c = ⊥
IsOwn (Less i j) c = ⊥
IsOwn (LessSigned i j) c = ⊥
IsOwn (Select i j k) c = ⊥
IsOwn (ZeroExtend w i) c = ⊥
IsOwn (SignExtend w i) c = ⊥
IsOwn (Truncate w i) c = ⊥
IsOwn (Bit k i) c = ⊥

-- a call reads the cell: it is read by a term that has to be done, or something is stored among cells of which it is one
abbrev pub Reads : Held → Call → ℕ → Type 0
Reads h (Blast ts t) c = (k : ℕ) × (listed (cone_of ts h.done t) k ≡ true) × IsOwn (term_at ts k) c
Reads h (Fresh w) c = ⊥
Reads h (Rebind k to) c = ⊥
Reads h Renew c = ⊥
Reads h (StoreAt f m i x) c = (f ≤ c) × (c < f + m)

-- a call gives the cell literals that it is handed, whatever the cell had before
abbrev pub Sets : Call → ℕ → Type 0
Sets (Blast ts t) c = ⊥
Sets (Fresh w) c = ⊥
Sets (Rebind k to) c = c ≡ k
Sets Renew c = ⊥
Sets (StoreAt f m i x) c = ⊥

-- one of these calls reads the cell, and none before it sets it
abbrev pub IsRead : List ℕ → Held → List Call → ℕ → Type 0
IsRead ws h [] c = ⊥
IsRead ws h (k ∷ ks) c = Reads h k c ⊎ ((Sets k c → ⊥) × IsRead ws (made_by ws k h).held ks c)

-- one of these calls sets the cell
abbrev pub IsSet : List Call → ℕ → Type 0
IsSet [] c = ⊥
IsSet (k ∷ ks) c = Sets k c ⊎ IsSet ks c
