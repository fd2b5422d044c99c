use Rattle.std.proofs.Common.{◌∙◌, ap}
use Rattle.bv_term.specs.declared.term.TermId.{TermId}
use Rattle.c_terms.specs.declared.words.Words.{Words}
use Rattle.c_terms.specs.Made as made
use Rattle.c_terms.proofs.Putting.{grows-twice, later}
use Rattle.c_terms.proofs.Choosing.{two}
use Rattle.c_terms.proofs.arithmetic.Operands.new.Goals as goal

pub returns-clause-grows : goal.returns-clause-grows
returns-clause-grows c = λ s a b h g.
    let z = c.in_ok-low.ensures.shows s a h in
    let n = c.in_ok-second.ensures.shows s b (later _ _ s _ _ _ z.grows g) in
    grows-twice _ _ _ z.grows n.grows

pub returns-clause-pair : goal.returns-clause-pair
returns-clause-pair c = λ s a b h g.
    let z = c.in_ok-low.ensures.shows s a h in
    let n = c.in_ok-second.ensures.shows s b (later _ _ s _ _ _ z.grows g) in
    record { left_shows = (later _ _ s _ _ _ n.grows z.shows); right_shows = n.shows; whole_shows = (later _ _ s _ _ _ (grows-twice _ _ _ z.grows n.grows) g) }

pub returns-clause-made : goal.returns-clause-made
returns-clause-made c =
    let e = c.in_ok-low.ensures.made in
    let f = c.in_ok-second.ensures.made ∙ ap (λ (p : Words × TermId). made.narrow p.0 c.args.kind c.args.model c.args.right) e in
    two (λ (p q : Words × TermId). (q.0, made.operands_of c.args.kind c.args.model p.1 q.1 c.args.right)) e f
