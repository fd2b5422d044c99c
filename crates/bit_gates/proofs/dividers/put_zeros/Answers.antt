use Rattle.std.proofs.Common.{◌≡◌, ◌+◌, arith, drop, ◌∷◌, get_or, ap}
use Rattle.std.proofs.lemmas.Grind.{common_steps}
use Rattle.std.proofs.lemmas.List.{drop_more}
use Rattle.bit_gates.specs.Quotients.{zeros}
use Rattle.bit_gates.proofs.dividers.put_zeros.Goals as goal

pub loop-i-preserved : goal.loop-i-preserved
loop-i-preserved c =
    let i = c.loop-i.i in
    let e : drop i c.args.b.now ≡ get_or c.args.b.now i c.args.z ∷ drop (i + 1) c.args.b.now = drop_more c.args.b.now i c.args.z c.loop-i-test.true in
    let p : zeros c.args.z (drop i c.args.b.now) ≡ c.args.z ∷ zeros c.args.z (drop (i + 1) c.args.b.now) = ap (zeros c.args.z) e in
    grind (arith, common_steps)
