-- `++` and `--`.
use Rattle.std.proofs.Common.{◌≡◌, ℕ, refl, sym, ap, ◌∙◌, arith, Bool, true, false, if◌then◌else◌, None, Result, Ok, Err, ℤ, pos, negsuc, ◌+ℤ◌, ◌-ℤ◌, ◌≤ℤ◌}
use Rattle.std.proofs.lemmas.Int.{ints}
use Rattle.lv_base.specs.declared.kind.Kind.{Kind}
use Rattle.lv_base.specs.declared.kind.Kind.TheVariants.{Bool as ABool, Char, UChar, Short, UShort, Int, UInt, Long, ULong, LongLong, ULongLong}
use Rattle.lv_base.specs.declared.kind.Model.{Model}
use Rattle.lv_base.specs.declared.kind.Op.TheVariants as arithmetic
use Rattle.lv_base.specs.declared.fault.ErrorKind.{ErrorKind}
use Rattle.lv_base.specs.declared.fault.ErrorKind.TheVariants as error
use Rattle.lv_base.specs.Integers.{InRange, InAny, residue, converted, is_promoted, held}
use Rattle.c_tree.specs.declared.symbol.Crement.{Crement}
use Rattle.c_tree.specs.declared.symbol.Crement.TheVariants as by
use Rattle.c_typed.specs.Run.{promoted}
use Rattle.c_run.specs.Operators.{is_logical, crement_op}
use Rattle.typed_range_laws.proofs.Bounds.{in_any}
use Rattle.typed_range_laws.proofs.Ranging.{converted_in_range, in_range_test}
use Rattle.word_laws.specs.Laws.{done, meant, turned_over, error_of, first_met}
use Rattle.word_laws.proofs.Whole.{conversions, operations, all_failures}
use Rattle.c_terms.specs.Numbers.{converted as word_converted}
use Rattle.code_moves.specs.Values.{applied, tested, operation_of, stepped, step_tested}
use Rattle.code_move_laws.proofs.Numbers.{wrapped_same}
use Rattle.code_move_laws.proofs.Plain.{meant-any}

-- ---- One more or less, in a kind

-- what the machine computes
abbrev pub step_result : Crement → Kind → Model → ℤ → Result ℤ ErrorKind
step_result x k model old = done (crement_op x) (promoted k) model (converted (promoted k) model old) (pos 1)

plain : (r : Result ℤ ErrorKind) → turned_over false r ≡ r
plain (Ok v) = refl
plain (Err e) = refl

meant-step : (x : Crement) (k : Kind) (model : Model) (a b : ℤ) → meant (operation_of x) k model a b ≡ done (crement_op x) k model a b
meant-step by.Increment k model a b = plain (done arithmetic.Add k model a b)
meant-step by.Decrement k model a b = plain (done arithmetic.Sub k model a b)

step-logical : (x : Crement) → is_logical (operation_of x) ≡ false
step-logical by.Increment = refl
step-logical by.Decrement = refl

promoted-is : (k : Kind) → is_promoted (promoted k) ≡ true
promoted-is ABool = refl
promoted-is Char = refl
promoted-is UChar = refl
promoted-is Short = refl
promoted-is UShort = refl
promoted-is Int = refl
promoted-is UInt = refl
promoted-is Long = refl
promoted-is ULong = refl
promoted-is LongLong = refl
promoted-is ULongLong = refl

one-any : InAny (pos 1)
one-any = (omega (arith, ints), omega (arith, ints))

-- the value that is written, where there is no error
pub step-value : (x : Crement) (k : Kind) (model : Model) (old v : ℤ) → InAny old → step_result x k model old ≡ Ok v → stepped x k model (residue 64 old) ≡ residue 64 (converted k model v)
step-value x k model old v any e =
    let p : ℤ = converted (promoted k) model old in
    let p_any : InAny (converted (promoted k) model old) = in_any (promoted k) model (converted (promoted k) model old) (converted_in_range (promoted k) model old) in
    let m : meant (operation_of x) (promoted k) model (converted (promoted k) model old) (pos 1) ≡ Ok v = meant-step x (promoted k) model (converted (promoted k) model old) (pos 1) ∙ e in
    ap (λ (n : ℕ). word_converted k model (applied (operation_of x) (promoted k) model n (residue 64 (pos 1)))) (conversions (promoted k) model old any)
    ∙ ap (word_converted k model) (operations (operation_of x) (promoted k) model (converted (promoted k) model old) (pos 1) v (promoted-is k) (step-logical x) p_any one-any m)
    ∙ conversions k model v (meant-any (operation_of x) (promoted k) model (converted (promoted k) model old) (pos 1) v m)

-- ---- A narrow kind has no overflow

-- a value of `int` that is converted to `int`
int-same : (model : Model) (v : ℤ) → InRange Int model v → converted Int model v ≡ v
int-same model v h = wrapped_same Int model v h

-- of 17 bits at most
record IsNarrow (v : ℤ) : Type 0 where
  low : negsuc 65535 ≤ℤ v
  high : v ≤ℤ pos 65535

int-fits : (model : Model) (v : ℤ) → negsuc 65536 ≤ℤ v → v ≤ℤ pos 65536 → InRange Int model v
int-fits model v l h = (omega (arith, ints, l), omega (arith, ints, h))

held-fits : (model : Model) (v : ℤ) → InRange Int model v → held Int model error.Overflow v ≡ Ok v
held-fits model v h = ap (λ (b : Bool). if b then Ok v else Err error.Overflow) (in_range_test Int model v h)

narrow-step : (x : Crement) (model : Model) (old : ℤ) → IsNarrow old → error_of (done (crement_op x) Int model (converted Int model old) (pos 1)) ≡ None
narrow-step by.Increment model old n =
    let same : converted Int model (converted Int model old) ≡ old =
    ap (converted Int model) (int-same model old (int-fits model old (omega (arith, ints, n.low)) (omega (arith, ints, n.high)))) ∙ int-same model old (int-fits model old (omega (arith, ints, n.low)) (omega (arith, ints, n.high))) in
    let one : converted Int model (pos 1) ≡ pos 1 = int-same model (pos 1) (int-fits model (pos 1) (omega (arith, ints)) (omega (arith, ints))) in
    ap error_of (ap (λ (a : ℤ). held Int model error.Overflow (a +ℤ converted Int model (pos 1))) same ∙ ap (λ (b : ℤ). held Int model error.Overflow (old +ℤ b)) one
    ∙ held-fits model (old +ℤ pos 1) (int-fits model (old +ℤ pos 1) (omega (arith, ints, n.low)) (omega (arith, ints, n.high))))
narrow-step by.Decrement model old n =
    let same : converted Int model (converted Int model old) ≡ old =
    ap (converted Int model) (int-same model old (int-fits model old (omega (arith, ints, n.low)) (omega (arith, ints, n.high)))) ∙ int-same model old (int-fits model old (omega (arith, ints, n.low)) (omega (arith, ints, n.high))) in
    let one : converted Int model (pos 1) ≡ pos 1 = int-same model (pos 1) (int-fits model (pos 1) (omega (arith, ints)) (omega (arith, ints))) in
    ap error_of (ap (λ (a : ℤ). held Int model error.Overflow (a -ℤ converted Int model (pos 1))) same ∙ ap (λ (b : ℤ). held Int model error.Overflow (old -ℤ b)) one
    ∙ held-fits model (old -ℤ pos 1) (int-fits model (old -ℤ pos 1) (omega (arith, ints, n.low)) (omega (arith, ints, n.high))))

wide-fails : (x : Crement) (k : Kind) (model : Model) (old : ℤ) → is_promoted k ≡ true → InAny old
    → first_met (tested (operation_of x) (promoted k) model (word_converted (promoted k) model (residue 64 old)) (residue 64 (pos 1))) ≡ error_of (step_result x k model old)
wide-fails x k model old p any =
    let p_any : InAny (converted (promoted k) model old) = in_any (promoted k) model (converted (promoted k) model old) (converted_in_range (promoted k) model old) in
    ap (λ (n : ℕ). first_met (tested (operation_of x) (promoted k) model n (residue 64 (pos 1)))) (conversions (promoted k) model old any)
    ∙ all_failures (operation_of x) (promoted k) model (converted (promoted k) model old) (pos 1) (promoted-is k) (step-logical x) p_any one-any
    ∙ ap error_of (meant-step x (promoted k) model (converted (promoted k) model old) (pos 1))

-- the check that fails is the error that is met
pub step-fails : (x : Crement) (k : Kind) (model : Model) (old : ℤ) → InRange k model old → first_met (step_tested x k model (residue 64 old)) ≡ error_of (step_result x k model old)
step-fails x ABool model old h = sym (narrow-step x model old (record { low = omega (arith, ints, h.0); high = omega (arith, ints, h.1) }))
step-fails x Char model old h = sym (narrow-step x model old (record { low = omega (arith, ints, h.0); high = omega (arith, ints, h.1) }))
step-fails x UChar model old h = sym (narrow-step x model old (record { low = omega (arith, ints, h.0); high = omega (arith, ints, h.1) }))
step-fails x Short model old h = sym (narrow-step x model old (record { low = omega (arith, ints, h.0); high = omega (arith, ints, h.1) }))
step-fails x UShort model old h = sym (narrow-step x model old (record { low = omega (arith, ints, h.0); high = omega (arith, ints, h.1) }))
step-fails x Int model old h = wide-fails x Int model old refl (in_any Int model old h)
step-fails x UInt model old h = wide-fails x UInt model old refl (in_any UInt model old h)
step-fails x Long model old h = wide-fails x Long model old refl (in_any Long model old h)
step-fails x ULong model old h = wide-fails x ULong model old refl (in_any ULong model old h)
step-fails x LongLong model old h = wide-fails x LongLong model old refl (in_any LongLong model old h)
step-fails x ULongLong model old h = wide-fails x ULongLong model old refl (in_any ULongLong model old h)
