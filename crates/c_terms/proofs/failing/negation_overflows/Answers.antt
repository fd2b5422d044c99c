use Rattle.std.proofs.Common.{refl, arith, ◌∙◌, ap}
use Rattle.lv_base.specs.Integers.{width_of}
use Rattle.bv_term.specs.declared.term.TermId.{TermId}
use Rattle.c_terms.specs.Numbers.{difference_overflows, narrowed}
use Rattle.c_terms.specs.declared.words.Words.{Words}
use Rattle.c_terms.specs.declared.arithmetic.Operands.{Operands}
use Rattle.c_terms.specs.Made as made
use Rattle.c_terms.proofs.Putting.{grows-twice, later, after, equals}
use Rattle.c_terms.proofs.Finding.{over}
use Rattle.c_terms.proofs.Choosing.{thus}
use Rattle.c_terms.proofs.failing.negation_overflows.Goals as goal

pub returns-clause-shows : goal.returns-clause-shows
returns-clause-shows c = λ s a h.
    let z = c.in_ok-zero.ensures.shows s 64 refl (omega arith) (omega arith) in
    let k = (later _ _ s _ _ _ z.grows h) in
    let g = c.in_ok-operands.ensures.grows s _ _ z.shows k in
    let o = c.in_ok-operands.ensures.pair s _ _ z.shows k in
    let e = over (λ kind model. difference_overflows (width_of kind model) (narrowed c.args.kind c.args.model 0) (narrowed c.args.kind c.args.model a)) _ _ _ _ c.in_ok-operands.ensures.kind c.in_ok-operands.ensures.model in
    after _ _ _ _ s _ _ (grows-twice _ _ _ z.grows g) (equals _ _ _ s _ _ _ e (c.difference_overflows.ensures.shows s _ _ _ o))

pub returns-clause-made : goal.returns-clause-made
returns-clause-made c =
    let e = c.in_ok-zero.ensures.made in
    let f = c.in_ok-operands.ensures.made ∙ ap (λ (p : Words × TermId). made.operands p.0 c.args.kind c.args.model p.1 c.args.slot) e in
    thus _ _ _ _ c.difference_overflows.ensures.made (ap (λ (q : Words × Operands). made.difference_overflows q.0 q.1) f)
