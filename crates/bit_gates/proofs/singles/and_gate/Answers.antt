use Rattle.std.proofs.Common.{◌≡◌, ◌+◌, length, ◌++◌, arith}
use Rattle.std.proofs.lemmas.Grind.{common_steps}
use Rattle.bit_gates.specs.Net.{net_clauses}
use Rattle.bit_gates.specs.Singles.{and_of}
use Rattle.bit_gates.proofs.Gates.{and_exact, and_scope}
use Rattle.bit_gates.proofs.Weights.{count_after, and_of-weights}
use Rattle.bit_gates.proofs.singles.and_gate.Goals as goal

pub returns-clause-law : goal.returns-clause-law
returns-clause-law c =
    let m = and_of c.args.next.now c.args.a c.args.b in
    let o : c.in-Ok.made ≡ m.out = grind (arith, common_steps) in
    rw o (and_exact c.args.next.now c.args.a c.args.b c.requires.a_below c.requires.b_below)

pub returns-clause-scope : goal.returns-clause-scope
returns-clause-scope c =
    let m = and_of c.args.next.now c.args.a c.args.b in
    let o : c.in-Ok.made ≡ m.out = grind (arith, common_steps) in
    let e : c.close.new.next ≡ c.args.next.now + length m.defs = grind (arith, common_steps) in
    rw (o, e) (and_scope c.args.next.now c.args.a c.args.b)

pub returns-clause-size : goal.returns-clause-size
returns-clause-size c =
    let m = and_of c.args.next.now c.args.a c.args.b in
    let e : c.close.new.clauses ≡ c.args.clauses.now ++ net_clauses c.args.next.now m.defs = grind (arith, common_steps) in
    omega (arith, count_after c.args.clauses.now c.close.new.clauses c.args.next.now m.defs e, and_of-weights c.args.next.now c.args.a c.args.b)
