use Rattle.std.proofs.Common.{◌≡◌, All, take}
use Rattle.refine.specs.declared.witnesses.Truth.TheVariants.{Yes}
use Rattle.refine.specs.Witnesses.{truth_at}
use Rattle.refine.proofs.witnesses.Witness.meets.Given as goal

abbrev pub invariant-loop-conjunct : goal.invariant-loop-conjunct
invariant-loop-conjunct l = All (λ t. truth_at l.self.truths t.0 ≡ Yes) (take l.conjunct-index l.label)
