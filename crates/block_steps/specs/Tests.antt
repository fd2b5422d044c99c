-- Tests of guards and terms.
use Rattle.std.specs.Prelude.{ℕ, Bool, List}
use Rattle.bv_term.specs.WellFormed.{Table}
use Rattle.block_rule.specs.Rule.{is_on, under}
use Rattle.block_steps.specs.declared.tests.Test.{Test}
use Rattle.block_steps.specs.declared.tests.Test.TheVariants.{On, Under}

-- the truth of a test
abbrev pub holds : Table → Test → List ℕ → Bool
holds table (On guard) s = is_on guard s
holds table (Under guard t) s = under table guard t s
