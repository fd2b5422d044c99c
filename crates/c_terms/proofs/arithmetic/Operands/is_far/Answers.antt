use Rattle.std.proofs.Common.{◌∙◌, refl, arith, ap}
use Rattle.bv_term.specs.declared.term.TermId.{TermId}
use Rattle.bv_term.specs.declared.term.Term.TheVariants.{Constant}
use Rattle.c_terms.specs.declared.words.Words.{Words}
use Rattle.c_terms.specs.Made as made
use Rattle.c_terms.proofs.Putting.{grows-twice, later, after, gives-constant}
use Rattle.c_terms.proofs.Slots.{width_fits}
use Rattle.c_terms.proofs.Choosing.{thus}
use Rattle.c_terms.proofs.arithmetic.Operands.is_far.Goals as goal

pub returns-clause-shows : goal.returns-clause-shows
returns-clause-shows c = λ s a b x h.
    let m = c.in_ok-most.ensures.shows s _ _ (gives-constant _ s _ 64 _ _ refl (c.from.ensures ∙ c.bits-bits.ensures.value) (omega arith) (omega arith) (width_fits _ _)) in
    let i = c.in_ok-is_below.ensures.shows s _ _ _ (later _ _ s _ _ _ m.grows h.whole_shows) m.shows in
    after _ _ _ _ s _ _ (grows-twice _ _ _ m.grows i.grows) (c.not.ensures.shows s _ _ i.shows)

pub returns-clause-made : goal.returns-clause-made
returns-clause-made c =
    let e = c.in_ok-most.ensures.made ∙ ap (λ n. made.put c.args.words.now (Constant 64 n)) (c.from.ensures ∙ c.bits-bits.ensures.value) in
    let f = c.in_ok-is_below.ensures.made ∙ ap (λ (p : Words × TermId). made.word_less p.0 c.args.self.now.whole p.1) e in
    thus _ _ _ _ c.not.ensures.made (ap (λ (p : Words × TermId). made.word_not p.0 p.1) f)
