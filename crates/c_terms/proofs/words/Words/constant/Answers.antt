use Rattle.std.proofs.Common.{ap, refl, arith}
use Rattle.std.specs.Int.{w128}
use Rattle.std.proofs.lemmas.Int.{to_z-of_z}
use Rattle.lv_base.specs.Integers.{residue}
use Rattle.c_terms.specs.Made as made
use Rattle.c_terms.proofs.Putting.{equals}
use Rattle.c_terms.proofs.Choosing.{thus}
use Rattle.c_terms.proofs.words.Words.constant.Goals as goal

pub returns-clause-shows : goal.returns-clause-shows
returns-clause-shows c = λ s. equals _ _ _ s _ _ _ (ap (λ z. residue 64 z) (to_z-of_z w128 c.args.value c.ranges.value)) (c.constant_of.ensures.shows s 64 refl (omega arith) (omega arith))

pub returns-clause-made : goal.returns-clause-made
returns-clause-made c = thus _ _ _ _ c.constant_of.ensures.made (ap (made.constant_of c.args.self.now 64) (to_z-of_z w128 c.args.value c.ranges.value))
