use Rattle.std.specs.Prelude.{ℕ, List, [], ◌∷◌, ◌++◌, ◌+◌, ◌-◌, ◌*◌, length, take, drop, suc, cond, ltb}
use Rattle.prop.specs.declared.Lit.{Lit}
use Rattle.prop.specs.Logic.{negated, positive_of}
use Rattle.bit_gates.specs.declared.netlist.Def.TheVariants.{Select}
use Rattle.bit_gates.specs.declared.shifters.Shift.{Shift}
use Rattle.bit_gates.specs.declared.shifters.Shift.TheVariants.{Left, Logical, Arithmetic}
use Rattle.bit_gates.specs.Products.{Made, masked}
use Rattle.bit_gates.specs.Quotients.{selected, none_of}

-- each literal where c is, else z
abbrev pub filled : ℕ → Lit → List Lit → Lit → Made
filled n c [] z = record { defs = []; outs = [] }
filled n c (x ∷ xs) z =
    let r = filled (suc n) c xs z in
    record { defs = Select c x z ∷ r.defs; outs = positive_of n ∷ r.outs }

-- each literal where c is, else what comes in by this shift, z being the top literal
abbrev pub emptied : ℕ → Shift → Lit → Lit → List Lit → Made
emptied n Left z c xs = masked n xs c
emptied n Logical z c xs = masked n xs c
emptied n Arithmetic z c xs = filled n c xs z

-- the two parts of a stage in this order
abbrev pub joined : Made → Made → Made
joined p q = record { defs = p.defs ++ q.defs; outs = p.outs ++ q.outs }

-- xs by k places to the right where b is, z coming in
abbrev pub right_stage : ℕ → Shift → Lit → ℕ → Lit → List Lit → Made
right_stage n how z k b xs =
    let s = selected n b (drop k xs) (take (length xs - k) xs) in
    joined s (emptied (n + length s.defs) how z (negated b) (drop (length xs - k) xs))

-- xs by k places where b is, k being at most their number
abbrev pub stage : ℕ → Shift → Lit → ℕ → Lit → List Lit → Made
stage n Left z k b xs =
    let m = masked n (take k xs) (negated b) in
    joined m (selected (n + length m.defs) b (take (length xs - k) xs) (drop k xs))
stage n Logical z k b xs = right_stage n Logical z k b xs
stage n Arithmetic z k b xs = right_stage n Arithmetic z k b xs

-- all of xs goes out where one of b ∷ bs is
abbrev pub last_stage : ℕ → Shift → Lit → List Lit → Lit → List Lit → Made
last_stage n how z xs b bs =
    let c = none_of n (negated b) bs in
    let m = emptied (n + length c.defs) how z c.out xs in
    record { defs = c.defs ++ m.defs; outs = m.outs }

-- xs by k times the number that the bits spell: a stage for each bit, by twice the places of the one before, as long as
-- a stage moves by less than the width, and one stage for all bits above
abbrev pub stages : ℕ → Shift → Lit → ℕ → List Lit → List Lit → Made
stages n how z k xs [] = record { defs = []; outs = xs }
stages n how z k xs (b ∷ bs) =
    let s = stage n how z k b xs in
    let r = stages (n + length s.defs) how z (2 * k) s.outs bs in
    cond (ltb k (length xs)) (record { defs = s.defs ++ r.defs; outs = r.outs }) (last_stage n how z xs b bs)

-- the top literal, which is the last one
abbrev pub top_of : List Lit → Lit
top_of [] = positive_of 0
top_of (x ∷ []) = x
top_of (x ∷ y ∷ ys) = top_of (y ∷ ys)

-- xs shifted by the number that bs spell
abbrev pub shift_of : ℕ → Shift → List Lit → List Lit → Made
shift_of n how xs bs = stages n how (top_of xs) 1 xs bs
