use Rattle.std.proofs.Common.{arith, ◌∙◌, ap}
use Rattle.bv_term.specs.declared.term.TermId.{TermId}
use Rattle.c_terms.specs.declared.words.Words.{Words}
use Rattle.c_terms.specs.Made as made
use Rattle.c_terms.proofs.Putting.{later, after}
use Rattle.c_terms.proofs.Slots.{width_some, width_most}
use Rattle.c_terms.proofs.Choosing.{thus}
use Rattle.c_terms.proofs.arithmetic.Operands.divides_by_zero.Goals as goal

pub returns-clause-shows : goal.returns-clause-shows
returns-clause-shows c = λ s a b x h.
    let z = c.in_ok-zero.ensures.shows s _ c.bits-bits.ensures.value (width_some _ _) (omega (arith, width_most c.args.self.now.kind c.args.self.now.model)) in
    after _ _ _ _ s _ _ z.grows (c.equal.ensures.shows s _ _ _ (later _ _ s _ _ _ z.grows h.right_shows) z.shows)

pub returns-clause-made : goal.returns-clause-made
returns-clause-made c = thus _ _ _ _ c.equal.ensures.made (ap (λ (p : Words × TermId). made.word_equal p.0 c.args.self.now.right p.1) (c.in_ok-zero.ensures.made ∙ ap (made.zero c.args.words.now) c.bits-bits.ensures.value))
