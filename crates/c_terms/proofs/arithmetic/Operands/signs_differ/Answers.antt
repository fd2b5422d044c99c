use Rattle.std.proofs.Common.{◌∙◌, ℕ, ap}
use Rattle.bv_term.specs.declared.term.TermId.{TermId}
use Rattle.c_terms.specs.declared.words.Words.{Words}
use Rattle.c_terms.specs.Made as made
use Rattle.c_terms.proofs.Putting.{grows-twice, later, after}
use Rattle.c_terms.proofs.Slots.{width_some}
use Rattle.c_terms.proofs.Choosing.{thus, two}
use Rattle.c_terms.proofs.arithmetic.Operands.signs_differ.Goals as goal

pub returns-clause-shows : goal.returns-clause-shows
returns-clause-shows c = λ s a b x h.
    let f = c.in_ok-first.ensures.shows s _ _ c.bits-bits.ensures.value (width_some _ _) h.left_shows in
    let n = c.in_ok-second.ensures.shows s _ _ c.bits-bits.ensures.value (width_some _ _) (later _ _ s _ _ _ f.grows h.right_shows) in
    after _ _ _ _ s _ _ (grows-twice _ _ _ f.grows n.grows) (c.differ.ensures.shows s _ _ _ (later _ _ s _ _ _ n.grows f.shows) n.shows)

pub returns-clause-made : goal.returns-clause-made
returns-clause-made c =
    let e = c.in_ok-first.ensures.made ∙ ap (λ n. made.word_top c.args.words.now n c.args.self.now.left) c.bits-bits.ensures.value in
    let f = c.in_ok-second.ensures.made ∙ two (λ (n : ℕ) (p : Words × TermId). made.word_top p.0 n c.args.self.now.right) c.bits-bits.ensures.value e in
    thus _ _ _ _ c.differ.ensures.made (two (λ (p q : Words × TermId). made.word_differ q.0 p.1 q.1) e f)
