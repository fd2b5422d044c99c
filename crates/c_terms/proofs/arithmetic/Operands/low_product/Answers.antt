use Rattle.std.proofs.Common.{arith, ℕ}
use Rattle.bv_term.specs.declared.term.TermId.{TermId}
use Rattle.c_terms.specs.declared.words.Words.{Words}
use Rattle.c_terms.specs.Made as made
use Rattle.c_terms.proofs.Putting.{after}
use Rattle.c_terms.proofs.Slots.{width_is}
use Rattle.c_terms.proofs.Choosing.{thus, two}
use Rattle.c_terms.proofs.arithmetic.Operands.low_product.Goals as goal

pub returns-clause-shows : goal.returns-clause-shows
returns-clause-shows c = λ s a b x h.
    let z = c.in_ok-exact.ensures.shows s a b x h in
    after _ _ _ _ s _ _ z.grows (c.truncate.ensures.shows s _ _ _ c.bits-bits.ensures.value (width_is _ _) (omega arith) z.shows)

pub returns-clause-made : goal.returns-clause-made
returns-clause-made c = thus _ _ _ _ c.truncate.ensures.made (two (λ (n : ℕ) (p : Words × TermId). made.word_truncate p.0 n p.1) c.bits-bits.ensures.value c.in_ok-exact.ensures.made)
