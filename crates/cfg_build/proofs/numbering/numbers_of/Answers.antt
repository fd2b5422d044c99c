use Rattle.std.proofs.Common.{◌≡◌, suc, ◌+◌, ◌++◌, ◌≤◌, length, List, Some, slice_get, subst, arith, rules}
use Rattle.slot_code.specs.declared.flat.Instruction.{Instruction}
use Rattle.cfg_build.specs.Numbers.{numbers_from, code_between}
use Rattle.cfg_build.proofs.Numbers.{numbers-linked, numbers-whole}
use Rattle.cfg_build.proofs.numbering.numbers_of.Goals as goal

pub loop-number-preserved : goal.loop-number-preserved
loop-number-preserved c =
    let code = c.args.code.now.instructions.items in
    let links = c.args.code.now.links.items in
    let n = c.loop-number.number in
    let x = c.in-Some.link in
    let there : slice_get links n ≡ Some x = search rules in
    let next : suc n ≡ n + 1 = omega arith in
    let first = c.first_of-first.result in
    let to = c.entry_at-end.result in
    let more : c.number_all.new.numbers.items ≡ c.loop-number.numbers.items ++ numbers_from first (code_between code x.entry to) =
    subst (λ (xs : List Instruction). c.number_all.new.numbers.items ≡ c.loop-number.numbers.items ++ numbers_from first (code_between xs x.entry to)) c.deref.ensures.value c.in_ok-number_all.ensures in
    numbers-linked code c.args.main (length code) links n (n + 1) x c.loop-number.numbers.items c.number_all.new.numbers.items first to there next c.first_of-first.ensures c.entry_at-end.ensures c.loop-number.invariant more

pub returns : goal.returns
returns c =
    let links = c.args.code.now.links.items in
    let past : length links ≤ c.loop-number.number = search rules in
    numbers-whole c.args.code.now.instructions.items c.args.main (length c.args.code.now.instructions.items) links c.loop-number.number c.loop-number.numbers.items past c.loop-number.invariant
