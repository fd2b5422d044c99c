use Rattle.std.proofs.Common.{◌∙◌, ℕ, negsuc}
use Rattle.bv_term.specs.declared.term.TermId.{TermId}
use Rattle.c_terms.specs.declared.words.Words.{Words}
use Rattle.c_terms.specs.Made as made
use Rattle.c_terms.proofs.Putting.{grows-twice, later, after}
use Rattle.c_terms.proofs.Slots.{width_some, width_most}
use Rattle.c_terms.proofs.Choosing.{thus, two}
use Rattle.c_terms.proofs.arithmetic.Operands.quotient_overflows.Goals as goal

pub returns-clause-shows : goal.returns-clause-shows
returns-clause-shows c = λ s a b x h.
    let l = c.in_ok-least.ensures.shows s in
    let m = c.in_ok-minus_one.ensures.shows s _ c.bits-bits.ensures.value (width_some _ _) (width_most _ _) in
    let i = c.in_ok-is_least.ensures.shows s _ _ _ (later _ _ s _ _ _ (grows-twice _ _ _ l.grows m.grows) h.left_shows) (later _ _ s _ _ _ m.grows l.shows) in
    let j = c.in_ok-is_minus_one.ensures.shows s _ _ _ (later _ _ s _ _ _ (grows-twice _ _ _ (grows-twice _ _ _ l.grows m.grows) i.grows) h.right_shows) (later _ _ s _ _ _ i.grows m.shows) in
    after _ _ _ _ s _ _ (grows-twice _ _ _ (grows-twice _ _ _ (grows-twice _ _ _ l.grows m.grows) i.grows) j.grows) (c.both.ensures.shows s _ _ _ (later _ _ s _ _ _ j.grows i.shows) j.shows)

pub returns-clause-made : goal.returns-clause-made
returns-clause-made c =
    let e = c.in_ok-least.ensures.made in
    let f = c.in_ok-minus_one.ensures.made ∙ two (λ (n : ℕ) (p : Words × TermId). made.constant_of p.0 n (negsuc 0)) c.bits-bits.ensures.value e in
    let g = c.in_ok-is_least.ensures.made ∙ two (λ (p q : Words × TermId). made.word_equal q.0 c.args.self.now.left p.1) e f in
    let h = c.in_ok-is_minus_one.ensures.made ∙ two (λ (p q : Words × TermId). made.word_equal q.0 c.args.self.now.right p.1) f g in
    thus _ _ _ _ c.both.ensures.made (two (λ (p q : Words × TermId). made.word_both q.0 p.1 q.1) g h)
