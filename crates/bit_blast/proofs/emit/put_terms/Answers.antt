use Rattle.std.proofs.Common.{rules, ◌≡◌, ◌+◌, ◌-◌, get_or, arith, refl}
use Rattle.bit_blast.proofs.Steps.{turn-ready, turn-put}
use Rattle.bit_blast.proofs.emit.put_terms.Goals as goal

pub put_term-requires : goal.put_term-requires
put_term-requires c =
    let i = c.loop-left.left - 1 in
    let back : i + 1 ≡ c.loop-left.left = omega arith in
    (turn-ready c.args.one c.args.cells.now c.args.terms.now.terms c.args.net.now.next c.args.done.now c.loop-left.done c.args.cone.now
    i c.loop-left.left (get_or c.args.cone.now i 0) c.get.result back c.loop-left.invariant.0 refl c.get.ensures c.loop-left.invariant.4 c.requires.ready).0

pub push-requires : goal.push-requires
push-requires c =
    let i = c.loop-left.left - 1 in
    let back : i + 1 ≡ c.loop-left.left = omega arith in
    (turn-ready c.args.one c.args.cells.now c.args.terms.now.terms c.args.net.now.next c.args.done.now c.loop-left.done c.args.cone.now
    i c.loop-left.left (get_or c.args.cone.now i 0) c.get.result back c.loop-left.invariant.0 refl c.get.ensures c.loop-left.invariant.4 c.requires.ready).1

pub loop-left-preserved : goal.loop-left-preserved
loop-left-preserved c =
    let i = c.loop-left.left - 1 in
    let back : i + 1 ≡ c.loop-left.left = omega arith in
    let p = turn-put c.args.one c.args.cells.now c.args.terms.now.terms c.args.net.now.next c.loop-left.net.next c.put_term.new.net.next
    c.args.done.now c.loop-left.done c.push.new.self c.args.cone.now i c.loop-left.left (get_or c.args.cone.now i 0) c.get.result
    c.args.net.now.defs.items c.loop-left.net.defs.items c.put_term.new.net.defs.items c.in_ok-lits.lits.items
    back c.loop-left.invariant.0 refl c.get.ensures c.loop-left.invariant.2 c.loop-left.invariant.3 c.loop-left.invariant.4
    c.in_ok-lits.ensures.grew.0 c.in_ok-lits.ensures.grew.1 c.in_ok-push.ensures in
    (omega arith, search rules, p.0, p.1, p.2)
