-- The values of the operators that a witness writes.
use Rattle.std.proofs.Common.{◌≡◌, ◌∙◌, ap, refl, ℕ, zero, suc, ◌<◌, List, ℤ, pos, Bool, arith}
use Rattle.std.specs.Prelude.{bit_and, bit_or}
use Rattle.lv_base.specs.declared.kind.Model.{Model}
use Rattle.lv_base.specs.Integers.{truth, is_zero}
use Rattle.bv_term.specs.Numbers.{complement_in}
use Rattle.c_tree.specs.declared.symbol.BinaryOp.TheVariants as op
use Rattle.c_tree.specs.declared.tree.PrefixOp.TheVariants as pre
use Rattle.c_tree.specs.Tree.{Ex, eParen, ePrefix, eBinary}
use Rattle.c_run.specs.Run.{State, Got, Value, after, give, choose, is_true}
use Rattle.c_run.specs.Loops.{Calls}
use Rattle.c_meaning.specs.Bindings.{Env}
use Rattle.c_meaning.specs.Program.{Function}
use Rattle.witness_truth_laws.specs.Telling.{meant, IsTrueIn}

module _ (env : Env) (model : Model) (inputs : List ℤ) (functions : List Function) (call : Calls) (at : ℕ) (st : State) where
  abbrev means : Ex → State → Got ℤ
  means = meant env model inputs functions call

  -- the right operand behind a left one of this value
  abbrev and_then : Ex → ℤ → State → Got ℤ
  and_then y v now = choose (is_true v) (λ s. after (means y s) (λ w. give (truth (is_true w)))) (give (pos 0)) now

  abbrev or_then : Ex → ℤ → State → Got ℤ
  or_then y v now = choose (is_true v) (give (pos 1)) (λ s. after (means y s) (λ w. give (truth (is_true w)))) now

  abbrev last : Got ℤ → Got ℤ
  last g = after g (λ w. give (truth (is_true w)))

  bit-last : (b : ℕ) → b < 2 → last (Value (pos b) st) ≡ Value (pos b) st
  bit-last zero lt = refl
  bit-last (suc zero) lt = refl
  bit-last (suc (suc b)) lt = absurd (omega (arith, lt))

  and-one : (b : ℕ) → b < 2 → b ≡ bit_and 1 b
  and-one zero lt = refl
  and-one (suc zero) lt = refl
  and-one (suc (suc b)) lt = absurd (omega (arith, lt))

  and-zero : (b : ℕ) → b < 2 → 0 ≡ bit_and 0 b
  and-zero zero lt = refl
  and-zero (suc zero) lt = refl
  and-zero (suc (suc b)) lt = absurd (omega (arith, lt))

  or-one : (b : ℕ) → b < 2 → 1 ≡ bit_or 1 b
  or-one zero lt = refl
  or-one (suc zero) lt = refl
  or-one (suc (suc b)) lt = absurd (omega (arith, lt))

  or-zero : (b : ℕ) → b < 2 → b ≡ bit_or 0 b
  or-zero zero lt = refl
  or-zero (suc zero) lt = refl
  or-zero (suc (suc b)) lt = absurd (omega (arith, lt))

  pub both-means : (x y : Ex) (a b : ℕ) → a < 2 → b < 2 → means x st ≡ Value (pos a) st → means y st ≡ Value (pos b) st
      → means (eParen at (eBinary x op.AndAlso at y) at) st ≡ Value (pos (bit_and a b)) st
  both-means x y zero b p q e f = ap (λ (g : Got ℤ). after g (and_then y)) e ∙ ap (λ (n : ℕ). Value (pos n) st) (and-zero b q)
  both-means x y (suc zero) b p q e f = ap (λ (g : Got ℤ). after g (and_then y)) e ∙ ap last f ∙ bit-last b q ∙ ap (λ (n : ℕ). Value (pos n) st) (and-one b q)
  both-means x y (suc (suc a)) b p q e f = absurd (omega (arith, p))

  pub either-means : (x y : Ex) (a b : ℕ) → a < 2 → b < 2 → means x st ≡ Value (pos a) st → means y st ≡ Value (pos b) st
      → means (eParen at (eBinary x op.OrElse at y) at) st ≡ Value (pos (bit_or a b)) st
  either-means x y zero b p q e f = ap (λ (g : Got ℤ). after g (or_then y)) e ∙ ap last f ∙ bit-last b q ∙ ap (λ (n : ℕ). Value (pos n) st) (or-zero b q)
  either-means x y (suc zero) b p q e f = ap (λ (g : Got ℤ). after g (or_then y)) e ∙ ap (λ (n : ℕ). Value (pos n) st) (or-one b q)
  either-means x y (suc (suc a)) b p q e f = absurd (omega (arith, p))

  not-bit : (a : ℕ) → a < 2 → truth (is_zero (pos a)) ≡ pos (complement_in 1 a)
  not-bit zero lt = refl
  not-bit (suc zero) lt = refl
  not-bit (suc (suc a)) lt = absurd (omega (arith, lt))

  pub not-means : (x : Ex) (a : ℕ) → a < 2 → means x st ≡ Value (pos a) st → means (eParen at (ePrefix pre.Not at x) at) st ≡ Value (pos (complement_in 1 a)) st
  not-means x a p e = ap (λ (g : Got ℤ). after g (λ v. give (truth (is_zero v)))) e ∙ ap (λ (v : ℤ). Value v st) (not-bit a p)

  -- both of two true ones are true
  pub and-true : (x y : Ex) → IsTrueIn st (means x st) → IsTrueIn st (means y st) → IsTrueIn st (means (eBinary x op.AndAlso at y) st)
  and-true x y (v, e, t) (w, f, s) = (
    pos 1,
    ap (λ (g : Got ℤ). after g (and_then y)) e
        ∙ ap (λ (b : Bool). choose b (λ z. after (means y z) (λ u. give (truth (is_true u)))) (give (pos 0)) st) t
        ∙ ap last f ∙ ap (λ (b : Bool). Value (truth b) st) s,
    refl,
  )
