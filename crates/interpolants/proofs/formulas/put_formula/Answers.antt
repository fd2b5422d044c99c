use Rattle.std.proofs.Common.{◌∙◌}
use Rattle.interpolants.proofs.Meant.{cut-meant, formula-meant}
use Rattle.interpolants.proofs.formulas.put_formula.Goals as goal

pub returns-in-Ok-clause-meaning : goal.returns-in-Ok-clause-meaning
returns-in-Ok-clause-meaning c =
    λ bits ends same room some.
    cut-meant c.args.cut.now c.put_diagram.new.terms bits c.in-Ok.term ends same (λ store covered. c.in-Ok.ensures.told store covered room some)

pub returns-in-Err-TooLarge-clause-meaning : goal.returns-in-Err-TooLarge-clause-meaning
returns-in-Err-TooLarge-clause-meaning c =
    λ bits ends same room some.
    formula-meant _ c.args.cut.now c.put_plain.new.terms bits ends same
    (λ store covered. c.put_plain.ensures.told store covered (c.put_diagram.ensures.long ∙ room) some)
