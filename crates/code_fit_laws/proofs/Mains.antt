-- Where one function is `main`, it has a number.
use Rattle.std.proofs.Common.{◌≡◌, ℕ, ◌+◌, ◌<◌, Bool, true, false, List, [], ◌∷◌, length, filter, Some, None, refl, sym, ap, ◌∙◌, arith, lt-ltb}
use Rattle.std.specs.Prelude.{cond, not}
use Rattle.std.specs.List.{position_or_len}
use Rattle.c_typed.specs.Tree.{Function}
use Rattle.c_typed.specs.Facts.{is_main, HasMain}
use Rattle.c_typed.specs.Run.{main_number}

first_main : (fs : List Function) (m : Function) (ms : List Function) → filter is_main fs ≡ m ∷ ms → position_or_len is_main fs < length fs
first_main [] m ms e = absurd cc
first_main (f ∷ fs) m ms e = by (λ h. first_main fs m ms h) (is_main f) refl
  where
    by : (filter is_main fs ≡ m ∷ ms → position_or_len is_main fs < length fs) → (b : Bool) → is_main f ≡ b → position_or_len is_main (f ∷ fs) < length (f ∷ fs)
    by later true q = let n : position_or_len is_main (f ∷ fs) ≡ 0 = ap (λ b. cond (not b) (1 + position_or_len is_main fs) 0) q in omega (arith, n)
    by later false q =
        let n : position_or_len is_main (f ∷ fs) ≡ 1 + position_or_len is_main fs = ap (λ b. cond (not b) (1 + position_or_len is_main fs) 0) q in
        let rest = later (sym (ap (λ b. cond b (f ∷ filter is_main fs) (filter is_main fs)) q) ∙ e) in
        omega (arith, n, rest)

-- the number of `main`
pub main_there : (fs : List Function) → HasMain fs → (n : ℕ) × (main_number fs ≡ Some n)
main_there fs h =
    let n : ℕ = position_or_len is_main fs in
    (n, ap (λ b. cond b (Some n) None) (lt-ltb n (length fs) (first_main fs h.main [] h.only)))
