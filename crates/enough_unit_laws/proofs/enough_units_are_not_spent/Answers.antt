use Rattle.enough_unit_laws.proofs.Spending as law
use Rattle.enough_unit_laws.proofs.enough_units_are_not_spent.Goals as goal

pub returns : goal.returns
returns c = law.enough_units_are_not_spent
