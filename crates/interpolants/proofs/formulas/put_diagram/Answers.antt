use Rattle.std.proofs.Common.{sym, subst}
use Rattle.interpolants.specs.Keeping.{term-told}
use Rattle.interpolants.specs.Walks.{IsCutTruth}
use Rattle.interpolants.proofs.formulas.put_diagram.Goals as goal

pub returns-clause-told : goal.returns-clause-told
returns-clause-told c =
    λ store covered room some.
    subst (IsCutTruth c.args.cut.now store) (sym (term-told _ _ _ store c.in_ok-term.ensures.truth)) (c.in_ok-formula.ensures.told store covered room some)
