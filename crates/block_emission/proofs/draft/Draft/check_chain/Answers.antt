use Rattle.std.proofs.Common.{◌≤◌, ◌∙◌, ◌-◌, arith, drop, length, sym}
use Rattle.std.proofs.lemmas.List.{length-drop}
use Rattle.block_emission.specs.Putting.{sketch_of}
use Rattle.block_emission.proofs.Putting.{chain-done}
use Rattle.block_emission.proofs.draft.Draft.check_chain.Goals as goal

pub returns : goal.returns
returns c =
    let rest = drop (c.loop-number.number - 1) c.args.checks.now in
    let few : length rest ≤ 1 = omega (arith, length-drop (c.loop-number.number - 1) c.args.checks.now, c.loop-number-test.false) in
    record { made = sym (chain-done (sketch_of c.loop-number.self) c.loop-number.from rest few) ∙ c.loop-number.invariant }
