use Rattle.std.proofs.Common.{rules}
use Rattle.bit_gates.proofs.Puts.{quotient_put}
use Rattle.bit_gates.proofs.dividers.put_quotient.Goals as goal

pub returns-clause-grew : goal.returns-clause-grew
returns-clause-grew c =
    let p = quotient_put c.args.net.now.next c.define.new.self.next c.put_divided.new.net.next c.put_none.new.net.next c.put_masked.new.net.next c.put_masked-2.new.net.next
    c.args.xs.now c.args.b.now c.in_ok-one.one c.in_ok-none.none
    c.args.net.now.defs.items c.define.new.self.defs.items c.put_divided.new.net.defs.items c.put_none.new.net.defs.items c.put_masked.new.net.defs.items c.put_masked-2.new.net.defs.items
    c.deref.result.now c.deref-2.result.now c.in_ok-quot.quot.items c.in_ok-rest.rest.items
    c.in_ok-one.ensures.grew.0 c.in_ok-one.ensures.grew.1
    c.in_ok-backward.ensures.grew.0 (search rules) (search rules)
    c.in_ok-none.ensures.grew.0 c.in_ok-none.ensures.grew.1
    (search rules) (search rules) (search rules) (search rules) in
    p
