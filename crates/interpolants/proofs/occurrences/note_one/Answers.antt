use Rattle.std.proofs.Common.{◌≡◌, ◌<◌, ℕ, length, ap, arith, slice_set}
use Rattle.resolution_log.specs.Codes.{place}
use Rattle.interpolants.proofs.Ending.{noted-there}
use Rattle.interpolants.proofs.occurrences.note_one.Goals as goal

pub returns-in-Some : goal.returns-in-Some
returns-in-Some c =
    let e : c.in-Some.number ≡ place c.args.vars.now c.args.var = c.in-Some.ensures.1 in
    let lt : place c.args.vars.now c.args.var < length c.args.ends.now = omega (arith, e, c.in-Some.ensures.2, c.requires.alike) in
    λ x h. noted-there c.args.vars.now c.args.ends.now _ c.args.var c.args.end lt (ap (λ (n : ℕ). slice_set c.args.ends.now n c.args.end) e) x
