use Rattle.std.proofs.Common.{arith, ◌∙◌, ap}
use Rattle.bv_term.specs.declared.term.TermId.{TermId}
use Rattle.c_terms.specs.declared.words.Words.{Words}
use Rattle.c_terms.specs.Made as made
use Rattle.c_terms.proofs.Putting.{grows-twice, later, after}
use Rattle.c_terms.proofs.Slots.{width_some, width_most}
use Rattle.c_terms.proofs.Choosing.{thus}
use Rattle.c_terms.proofs.arithmetic.Operands.with_sign.Goals as goal

pub returns-clause-shows : goal.returns-clause-shows
returns-clause-shows c = λ s q a g h.
    let z = c.in_ok-zero.ensures.shows s _ c.bits-bits.ensures.value (width_some _ _) (omega (arith, width_most c.args.self.now.kind c.args.self.now.model)) in
    let n = c.in_ok-opposite.ensures.shows s _ _ _ z.shows (later _ _ s _ _ _ z.grows h) in
    after _ _ _ _ s _ _ (grows-twice _ _ _ z.grows n.grows) (c.choose.ensures.shows s _ _ _ _ (later _ _ s _ _ _ (grows-twice _ _ _ z.grows n.grows) g) n.shows (later _ _ s _ _ _ (grows-twice _ _ _ z.grows n.grows) h))

pub returns-clause-made : goal.returns-clause-made
returns-clause-made c =
    let e = c.in_ok-zero.ensures.made ∙ ap (made.zero c.args.words.now) c.bits-bits.ensures.value in
    let f = c.in_ok-opposite.ensures.made ∙ ap (λ (p : Words × TermId). made.word_subtract p.0 p.1 c.args.term) e in
    thus _ _ _ _ c.choose.ensures.made (ap (λ (p : Words × TermId). made.word_choose p.0 c.args.sign p.1 c.args.term) f)
