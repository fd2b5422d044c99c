-- Tokens that have no clause of their own.
use Rattle.std.proofs.Common.{◌≡◌, ℕ, List, refl}
use Rattle.c_tree.specs.declared.symbol.Bracket.{Bracket}
use Rattle.c_tree.specs.declared.symbol.Symbol.{Symbol}
use Rattle.c_tree.specs.declared.symbol.Symbol.TheVariants as sy
use Rattle.parse_machine.specs.Tokens as tk
use Rattle.parse_machine.specs.Contexts as m
use Rattle.parse_machine.specs.Expressions as ex

pub maybe_else : (names : List (List ℕ)) (t : Symbol) (at : ℕ) (k : m.Inner) → ((b : Bracket) → t ≡ sy.Close b → ⊥) → (t ≡ sy.Semicolon → ⊥) → ex.step_maybe names t at k ≡ ex.step_operand names (tk.prefix_of t) at k
maybe_else names (sy.Close b) at k h i = absurd (h b refl)
maybe_else names sy.Semicolon at k h i = absurd (i refl)
maybe_else names t at k h i = refl
