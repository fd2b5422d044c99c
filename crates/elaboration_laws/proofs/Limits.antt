-- Where nothing refuses a source, no rule is broken, and no array is too long.
use Rattle.std.proofs.Common.{◌≡◌, ℕ, ◌+◌, ◌≤◌, ltb-false, Bool, true, false, ◌||◌, if◌then◌else◌, List, [], ◌∷◌, Option, None, Some, refl, arith}
use Rattle.std.specs.Prelude.{nat_lt, nat_le}
use Rattle.lv_base.specs.declared.fail.SourceFail.{SourceFail}
use Rattle.lv_base.specs.declared.fail.SourceFail.TheVariants as fail
use Rattle.c_run.specs.Breaking.{Broken, first_broken}
use Rattle.c_meaning.specs.Bindings.{Object, size_of_object}
use Rattle.source_refusals.specs.declared.cells.Passed.{Passed}
use Rattle.source_refusals.specs.Cells.{passed, is_over}
use Rattle.source_refusals.specs.Refusals.{refused}

either_some : (q : Bool) (x y : SourceFail) → (if q then Some x else Some y) ≡ None → ⊥
either_some true x y h = cc
either_some false x y h = cc

pub no_broken : (b : Option Broken) (p : Option Passed) → refused b p ≡ None → b ≡ None
no_broken None p h = refl
no_broken (Some b) None h = cc
no_broken (Some b) (Some p) h = absurd (either_some (nat_le b.at p.at) (fail.Fault b.fault b.at) (fail.Over 4 p.count) h)

pub no_passed : (b : Option Broken) (p : Option Passed) → refused b p ≡ None → p ≡ None
no_passed None None h = refl
no_passed None (Some p) h = cc
no_passed (Some b) None h = refl
no_passed (Some b) (Some p) h = absurd (either_some (nat_le b.at p.at) (fail.Fault b.fault b.at) (fail.Over 4 p.count) h)

pub none_broken : (bs : List Broken) → first_broken bs ≡ None → bs ≡ []
none_broken [] h = refl
none_broken (b ∷ bs) h = cc

abbrev pub AllSmall : List Object → Type 0
AllSmall [] = Unit {0}
AllSmall (o ∷ os) = (size_of_object (Some o) ≤ 1024) × AllSmall os

not_over : (cells n : ℕ) → is_over cells n ≡ false → n ≤ 1024
not_over cells n h = by_test (nat_lt 1024 n) refl h
  where
    by_test : (b : Bool) → nat_lt 1024 n ≡ b → (b || nat_lt 65536 (cells + n)) ≡ false → n ≤ 1024
    by_test true e q = cc
    by_test false e q = omega (arith, ltb-false 1024 n e)

-- where the first one is not over, what is left is small too
small_more : (cells : ℕ) (o : Object) (os : List Object) (b : Bool) → is_over cells (size_of_object (Some o)) ≡ b → (x : Passed) → (if b then Some x else passed (cells + size_of_object (Some o)) os) ≡ None →
    (passed (cells + size_of_object (Some o)) os ≡ None → AllSmall os) → AllSmall (o ∷ os)
small_more cells o os true e x h more = cc
small_more cells o os false e x h more = (not_over cells (size_of_object (Some o)) e, more h)

pub all_small : (cells : ℕ) (os : List Object) → passed cells os ≡ None → AllSmall os
all_small cells [] h = tt
all_small cells (o ∷ os) h = small_more cells o os (is_over cells (size_of_object (Some o))) refl _ h (all_small (cells + size_of_object (Some o)) os)
