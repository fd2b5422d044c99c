use Rattle.std.proofs.Common.{◌*◌, ap, arith, ◌∙◌, ℕ}
use Rattle.bv_term.specs.declared.term.TermId.{TermId}
use Rattle.c_terms.specs.declared.words.Words.{Words}
use Rattle.c_terms.specs.Made as made
use Rattle.c_terms.proofs.Putting.{grows-twice, later, after}
use Rattle.c_terms.proofs.Slots.{double_is}
use Rattle.c_terms.proofs.Choosing.{thus, two}
use Rattle.c_terms.proofs.arithmetic.Operands.exact_product.Goals as goal

pub returns-clause-shows : goal.returns-clause-shows
returns-clause-shows c = λ s a b x h.
    let l = c.in_ok-left.ensures.shows s _ _ _ (ap (λ n. n * 2) c.bits-double.ensures.value) (double_is _ _) (omega arith) h.left_shows in
    let r = c.in_ok-right.ensures.shows s _ _ _ (ap (λ n. n * 2) c.bits-double.ensures.value) (double_is _ _) (omega arith) (later _ _ s _ _ _ l.grows h.right_shows) in
    after _ _ _ _ s _ _ (grows-twice _ _ _ l.grows r.grows) (c.multiply.ensures.shows s _ _ _ (later _ _ s _ _ _ r.grows l.shows) r.shows)

pub returns-clause-made : goal.returns-clause-made
returns-clause-made c =
    let e = c.in_ok-left.ensures.made ∙ ap (λ n. made.word_extend_sign c.args.words.now n c.args.self.now.left) (ap (λ n. n * 2) c.bits-double.ensures.value) in
    let f = c.in_ok-right.ensures.made ∙ two (λ (n : ℕ) (p : Words × TermId). made.word_extend_sign p.0 n c.args.self.now.right) (ap (λ n. n * 2) c.bits-double.ensures.value) e in
    thus _ _ _ _ c.multiply.ensures.made (two (λ (p q : Words × TermId). made.word_multiply q.0 p.1 q.1) e f)
