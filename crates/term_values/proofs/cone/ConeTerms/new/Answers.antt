use Rattle.term_values.proofs.Reading.{cone-made, cone-stays}
use Rattle.term_values.proofs.cone.ConeTerms.new.Goals as goal

pub returns-clause-cone : goal.returns-clause-cone
returns-clause-cone c =
    cone-made c.args.terms.now c.args.term c.number_in-top.result c.in_ok-part.part c.in_ok-part.ensures.part c.in_ok-part.ensures.placed c.number_in-top.ensures

pub returns-clause-later : goal.returns-clause-later
returns-clause-later c = λ later g.
    cone-stays c.args.terms.now later c.args.term _ c.requires g
    (cone-made c.args.terms.now c.args.term c.number_in-top.result c.in_ok-part.part c.in_ok-part.ensures.part c.in_ok-part.ensures.placed c.number_in-top.ensures)
