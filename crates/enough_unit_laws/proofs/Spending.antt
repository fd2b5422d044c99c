-- As many units as are allowed are fewer than enough.
use Rattle.std.proofs.Common.{arith}
use Rattle.explore.specs.declared.strategy.Explored.TheVariants.{Complete, Feasible, Units, Learned, Over, OverLog}
use Rattle.journal_length_laws.proofs.Short.{journals_are_short}
use Rattle.enough_unit_laws.specs.Laws.{EnoughUnitsAreNotSpent}

pub enough_units_are_not_spent : EnoughUnitsAreNotSpent
enough_units_are_not_spent g paths units learn (Complete u) flow all most l e h = h
enough_units_are_not_spent g paths units learn (Feasible u values) flow all most l e h = h
enough_units_are_not_spent g paths units learn (Units u) flow all most l e h =
    let short = journals_are_short g u paths flow all l in
    let spent = e.1 in
    omega (arith, short, spent, most)
enough_units_are_not_spent g paths units learn (Learned u log) flow all most l e h = h
enough_units_are_not_spent g paths units learn (Over u n) flow all most l e h = h
enough_units_are_not_spent g paths units learn (OverLog u log) flow all most l e h = h
