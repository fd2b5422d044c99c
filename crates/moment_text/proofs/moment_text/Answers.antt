use Rattle.std.proofs.Common.{◌≡◌, ◌∙◌, arith, w64, FitsSigned, ℤ, pos, negsuc, ◌*ℤ◌, ◌+ℤ◌, ◌≤ℤ◌, unsigned_abs}
use Rattle.std.proofs.lemmas.Int.{to_z-of_z}
use Rattle.jiff_core.proofs.SignedLemmas.{signed_arith}
use Rattle.jiff_core.specs.DateTime.{civil_nanos}
use Rattle.moment_text.proofs.Walks.{time_found}
use Rattle.moment_text.proofs.moment_text.Goals as goal

in_nanoseconds : (moment timestamp civil : ℤ) → pos 0 ≤ℤ moment → timestamp ≡ moment *ℤ pos 1000000000 → civil ≡ timestamp +ℤ pos 0 → civil ≡ pos (unsigned_abs moment) *ℤ pos 1000000000
in_nanoseconds (pos n) timestamp civil least e f = omega (arith, signed_arith)
in_nanoseconds (negsuc n) timestamp civil least e f = absurd (omega (arith, signed_arith))

-- src/lib.rt:15:1
pub returns : goal.returns
returns c =
    let fits : FitsSigned w64 c.args.moment = c.ranges.moment in
    let stamp = rw c.unwrap-timestamp.ensures at c.from_second.ensures.value in
    let second = simp to_z-of_z at stamp in
    let nanos = in_nanoseconds c.args.moment c.unwrap-timestamp.result.nanosecond (civil_nanos c.to_datetime-time.result) c.requires.0 second c.to_datetime-time.ensures in
    c.in_ok-format.ensures.ok ∙ time_found c.to_datetime-time.result (unsigned_abs c.args.moment) nanos
