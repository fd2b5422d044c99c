use Rattle.block_laws.proofs.Testing.{complements_exclude}
use Rattle.block_edges.proofs.Covering.{complements_cover}
use Rattle.block_places.proofs.regular.exclude.Goals as goal

pub returns-then-are_complements-clause-alone : goal.returns-then-are_complements-clause-alone
returns-then-are_complements-clause-alone c = λ t.
    (complements_exclude c.args.terms.now c.args.first c.args.second c.are_complements.ensures.table (c.are_complements.ensures.found t)).0

pub returns-else-are_complements-clause-alone : goal.returns-else-are_complements-clause-alone
returns-else-are_complements-clause-alone c = λ t.
    (complements_exclude c.args.terms.now c.args.second c.args.first c.are_complements.ensures.table (c.are_complements-else-are_complements.ensures.found t)).1

pub returns-then-are_complements-clause-either : goal.returns-then-are_complements-clause-either
returns-then-are_complements-clause-either c = λ t.
    (complements_cover c.args.terms.now c.args.first c.args.second c.are_complements.ensures.table (c.are_complements.ensures.found t)).0

pub returns-else-are_complements-clause-either : goal.returns-else-are_complements-clause-either
returns-else-are_complements-clause-either c = λ t.
    (complements_cover c.args.terms.now c.args.second c.args.first c.are_complements.ensures.table (c.are_complements-else-are_complements.ensures.found t)).1
