use Rattle.std.proofs.Common.{rules}
use Rattle.bit_gates.proofs.Puts.{row_put}
use Rattle.bit_gates.proofs.products.put_row.Goals as goal

pub returns-clause-grew : goal.returns-clause-grew
returns-clause-grew c =
    let p = row_put c.args.net.now.next c.define.new.self.next c.put_masked.new.net.next c.put_half.new.net.next
    c.args.a c.args.xs.now c.args.b c.args.low.now
    c.args.net.now.defs.items c.define.new.self.defs.items c.put_masked.new.net.defs.items c.put_half.new.net.defs.items
    c.in_ok-first.first c.deref.result.now c.in_ok-sums.sums.items
    (search rules) (search rules) (search rules) (search rules) (search rules) (search rules) in
    (p.0, search rules)
