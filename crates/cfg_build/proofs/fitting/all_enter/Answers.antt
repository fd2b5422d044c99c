use Rattle.std.proofs.Common.{◌≡◌, suc, ◌+◌, ◌≤◌, length, Some, slice_get, arith, rules}
use Rattle.std.specs.Prelude.{IsTrue}
use Rattle.slot_code.specs.declared.flat.Instruction.{Instruction}
use Rattle.slot_values.specs.Linked.{links_of}
use Rattle.cfg_build.specs.Fitting.{Enters}
use Rattle.cfg_build.proofs.Entering.{below-more, below-all, calls-enter}
use Rattle.cfg_build.proofs.fitting.all_enter.Goals as goal

pub loop-place-init : goal.loop-place-init
loop-place-init c = λ k x lt is. absurd (omega (arith, lt))

pub loop-place-preserved : goal.loop-place-preserved
loop-place-preserved c =
    let n = c.loop-place.place in
    let passed : IsTrue c.enters.result = search rules in
    let there : slice_get c.args.code.now n ≡ Some c.in-Some.instruction = search rules in
    let next : suc n ≡ n + 1 = omega arith in
    below-more (λ (x : Instruction). Enters (links_of c.args.links.now) x) c.args.code.now n (n + 1) c.in-Some.instruction next there (c.enters.ensures.enters passed) c.loop-place.invariant

pub returns-clause-enter : goal.returns-clause-enter
returns-clause-enter c = λ t.
    let past : length c.args.code.now ≤ c.loop-place.place = search rules in
    calls-enter (links_of c.args.links.now) c.args.code.now (below-all (λ (x : Instruction). Enters (links_of c.args.links.now) x) c.args.code.now c.loop-place.place past c.loop-place.invariant)
