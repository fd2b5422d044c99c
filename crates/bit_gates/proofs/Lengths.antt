use Rattle.std.proofs.Common.{◌≡◌, ℕ, ◌+◌, ◌-◌, ◌≤◌, length, List, [], ◌∷◌, take, drop, arith, ap, refl, suc}
use Rattle.std.proofs.lemmas.List.{length-append, length-take-le, length-drop}
use Rattle.prop.specs.declared.Lit.{Lit}
use Rattle.prop.specs.Logic.{negated}
use Rattle.bit_gates.specs.declared.shifters.Shift.{Shift}
use Rattle.bit_gates.specs.declared.shifters.Shift.TheVariants.{Left, Logical, Arithmetic}
use Rattle.bit_gates.specs.Products.{masked}
use Rattle.bit_gates.specs.Quotients.{selected}
use Rattle.bit_gates.specs.Shifts.{filled, emptied, right_stage, stage}
use Rattle.bit_gates.proofs.ProductLaws.{masked-length}
use Rattle.bit_gates.proofs.DivideLaws.{selected-length}

pub filled-length : (n : ℕ) (c : Lit) (xs : List Lit) (z : Lit) → length (filled n c xs z).outs ≡ length xs
filled-length n c [] z = refl
filled-length n c (x ∷ xs) z = ap suc (filled-length (suc n) c xs z)

pub emptied-length : (n : ℕ) (how : Shift) (z c : Lit) (xs : List Lit) → length (emptied n how z c xs).outs ≡ length xs
emptied-length n Left z c xs = masked-length n xs c
emptied-length n Logical z c xs = masked-length n xs c
emptied-length n Arithmetic z c xs = filled-length n c xs z

right_stage-length : (n : ℕ) (how : Shift) (z : Lit) (k : ℕ) (b : Lit) (xs : List Lit) → k ≤ length xs → length (right_stage n how z k b xs).outs ≡ length xs
right_stage-length n how z k b xs le =
    let s = selected n b (drop k xs) (take (length xs - k) xs) in
    let hi = drop (length xs - k) xs in
    let m = emptied (n + length s.defs) how z (negated b) hi in
    let a = length-append s.outs m.outs in
    let l1 = length-drop k xs in
    let l2 = length-take-le (length xs - k) xs (omega arith) in
    let l3 = length-drop (length xs - k) xs in
    let w1 = selected-length n b (drop k xs) (take (length xs - k) xs) (omega arith) in
    let w2 = emptied-length (n + length s.defs) how z (negated b) hi in
    omega arith

pub stage-length : (n : ℕ) (how : Shift) (z : Lit) (k : ℕ) (b : Lit) (xs : List Lit) → k ≤ length xs → length (stage n how z k b xs).outs ≡ length xs
stage-length n Logical z k b xs le = right_stage-length n Logical z k b xs le
stage-length n Arithmetic z k b xs le = right_stage-length n Arithmetic z k b xs le
stage-length n Left z k b xs le =
    let p = masked n (take k xs) (negated b) in
    let m = n + length p.defs in
    let s = selected m b (take (length xs - k) xs) (drop k xs) in
    let a = length-append p.outs s.outs in
    let l1 = length-drop k xs in
    let l2 = length-take-le (length xs - k) xs (omega arith) in
    let l3 = length-take-le k xs le in
    let w1 = masked-length n (take k xs) (negated b) in
    let w2 = selected-length m b (take (length xs - k) xs) (drop k xs) (omega arith) in
    omega arith
