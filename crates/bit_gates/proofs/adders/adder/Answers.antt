use Rattle.std.proofs.Common.{◌≡◌, ◌+◌, length, ◌++◌, arith}
use Rattle.std.proofs.lemmas.Grind.{common_steps}
use Rattle.bit_gates.specs.Net.{net_clauses}
use Rattle.bit_gates.specs.Sums.{ripple}
use Rattle.bit_gates.proofs.Gates.{add_exact, add_scope}
use Rattle.bit_gates.proofs.Weights.{count_after, ripple-weights}
use Rattle.bit_gates.proofs.adders.adder.Goals as goal

pub returns-clause-law : goal.returns-clause-law
returns-clause-law c =
    let m = ripple c.args.next.now c.args.a.now c.args.b.now c.args.carry in
    let o : c.in-Ok.made.0.items ≡ m.outs = grind (arith, common_steps) in
    let k : c.in-Ok.made.1 ≡ m.carry = grind (arith, common_steps) in
    rw (o, k) (add_exact c.args.next.now c.args.a.now c.args.b.now c.args.carry c.requires.same_length c.requires.a_below c.requires.b_below c.requires.carry_below)

pub returns-clause-scope : goal.returns-clause-scope
returns-clause-scope c =
    let m = ripple c.args.next.now c.args.a.now c.args.b.now c.args.carry in
    let o : c.in-Ok.made.0.items ≡ m.outs = grind (arith, common_steps) in
    let k : c.in-Ok.made.1 ≡ m.carry = grind (arith, common_steps) in
    let e : c.close.new.next ≡ c.args.next.now + length m.defs = grind (arith, common_steps) in
    rw (o, k, e) (add_scope c.args.next.now c.args.a.now c.args.b.now c.args.carry)

pub returns-clause-size : goal.returns-clause-size
returns-clause-size c =
    let m = ripple c.args.next.now c.args.a.now c.args.b.now c.args.carry in
    let e : c.close.new.clauses ≡ c.args.clauses.now ++ net_clauses c.args.next.now m.defs = grind (arith, common_steps) in
    omega (arith, count_after c.args.clauses.now c.close.new.clauses c.args.next.now m.defs e, ripple-weights c.args.next.now c.args.a.now c.args.b.now c.args.carry c.requires.same_length)
