use Rattle.std.proofs.Common.{◌≡◌, suc, ◌+◌, ◌≤◌, length, Some, slice_get, arith, rules}
use Rattle.cfg_build.proofs.Numbers.{owners-linked, owners-whole}
use Rattle.cfg_build.proofs.numbering.owners_of.Goals as goal

pub loop-number-preserved : goal.loop-number-preserved
loop-number-preserved c =
    let links = c.args.code.now.links.items in
    let n = c.loop-number.number in
    let x = c.in-Some.link in
    let there : slice_get links n ≡ Some x = search rules in
    let next : suc n ≡ n + 1 = omega arith in
    owners-linked (length c.args.code.now.instructions.items) links n (n + 1) x c.loop-number.owners.items c.own_all.new.owners.items c.entry_at-in-loop-number.result there next
    c.entry_at-in-loop-number.ensures c.loop-number.invariant c.in_ok-own_all.ensures

pub returns : goal.returns
returns c =
    let links = c.args.code.now.links.items in
    let past : length links ≤ c.loop-number.number = search rules in
    owners-whole (length c.args.code.now.instructions.items) links c.loop-number.number c.loop-number.owners.items past c.loop-number.invariant
