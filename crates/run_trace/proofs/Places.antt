-- A place at which an instruction stands.
use Rattle.std.proofs.Common.{◌≡◌, ℕ, zero, suc, ◌<◌, List, [], ◌∷◌, length, Some, arith}
use Rattle.std.specs.Prelude.{slice_get}
use Rattle.slot_code.specs.declared.flat.Instruction.{Instruction}

pub stands : (code : List Instruction) (n : ℕ) (x : Instruction) → slice_get code n ≡ Some x → n < length code
stands [] n x e = absurd cc
stands (y ∷ ys) zero x e = omega arith
stands (y ∷ ys) (suc n) x e = omega (arith, stands ys n x e)
