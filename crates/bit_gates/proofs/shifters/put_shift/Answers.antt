use Rattle.std.proofs.Common.{rules, ◌≡◌, ◌-◌, length, get_or, false}
use Rattle.prop.specs.declared.Lit.{Lit}
use Rattle.bit_gates.specs.Shifts.{top_of}
use Rattle.bit_gates.proofs.Puts.{top_of-last}
use Rattle.bit_gates.proofs.shifters.put_shift.Goals as goal

pub returns-clause-grew : goal.returns-clause-grew
returns-clause-grew c =
    let d : Lit = record { var = 0; positive = false } in
    let e : top_of c.args.xs.now ≡ get_or c.args.xs.now (length c.args.xs.now - 1) d = top_of-last c.args.xs.now d c.requires in
    rw e (search rules)
