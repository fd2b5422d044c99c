use Rattle.std.proofs.Common.{◌≡◌, suc, ◌+◌, ◌≤◌, length, map, Some, slice_get, arith, rules}
use Rattle.std.specs.Prelude.{IsTrue}
use Rattle.std.proofs.lemmas.Bool.{false≢true}
use Rattle.slot_code.specs.declared.flat.Instruction.{Instruction}
use Rattle.c_typed.specs.View.{object_of}
use Rattle.cfg_build.specs.Fitting.{IsFit}
use Rattle.cfg_build.proofs.Entering.{below-more, below-all}
use Rattle.cfg_build.proofs.fitting.are_fit.Goals as goal

pub loop-place-init : goal.loop-place-init
loop-place-init c = λ model k x lt is. absurd (omega (arith, lt))

pub loop-place-preserved : goal.loop-place-preserved
loop-place-preserved c = λ model.
    let n = c.loop-place.place in
    let passed : IsTrue c.is_fit.result = search rules in
    let there : slice_get c.args.code.now n ≡ Some c.in-Some.instruction = search rules in
    let next : suc n ≡ n + 1 = omega arith in
    below-more (λ (x : Instruction). IsFit model (map object_of c.args.objects.now) x) c.args.code.now n (n + 1) c.in-Some.instruction next there ((c.is_fit.ensures model).0 passed) (c.loop-place.invariant model)

pub returns : goal.returns
returns c = λ model.
    let past : length c.args.code.now ≤ c.loop-place.place = search rules in
    (λ t. below-all (λ (x : Instruction). IsFit model (map object_of c.args.objects.now) x) c.args.code.now c.loop-place.place past (c.loop-place.invariant model), λ h. search rules)

pub returns-then-not-is_fit : goal.returns-then-not-is_fit
returns-then-not-is_fit c = λ model.
    let there : slice_get c.args.code.now c.loop-place.place ≡ Some c.in-Some.instruction = search rules in
    (λ t. absurd (false≢true t), λ h. (c.if-not-is_fit.ensures model).1 (h c.loop-place.place c.in-Some.instruction there))
