use Rattle.std.proofs.Common.{IfOk, Option, sym, subst}
use Rattle.bv_term.specs.declared.term.TermId.{TermId}
use Rattle.invariant_map.specs.Labels.{IsFilled}
use Rattle.invariant_map.proofs.Joins.{none_filled}
use Rattle.invariant_map.proofs.joining.put_whole.Goals as goal

pub returns-in-None-clause-filled : goal.returns-in-None-clause-filled
returns-in-None-clause-filled c =
    subst (λ (o : Option TermId). IfOk c.put_term.result (λ id. IsFilled c.args.terms.now c.put_term.new.terms o id)) (sym c.in-None.is)
    (none_filled _ c.args.terms.now c.put_term.new.terms c.put_term.ensures.table c.put_term.ensures.named)
