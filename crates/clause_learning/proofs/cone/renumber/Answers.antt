use Rattle.std.proofs.Common.{◌≡◌, ◌<◌, ◌≤◌, ◌∙◌, ℕ, length, get_or, subst, sym, arith, Fits, w32}
use Rattle.std.proofs.lemmas.Grind.{get_or_default_zero}
use Rattle.resolution_log.specs.Cones.{rank}
use Rattle.clause_learning.specs.Cuts.{need_in, AreRanks}
use Rattle.clause_learning.proofs.ConeLaws.{rank_read, rank_fits}
use Rattle.clause_learning.proofs.cone.renumber.Goals as goal

pub overflow_cast-result : goal.overflow_cast-result
overflow_cast-result c = rank_fits (need_in c.args.cone.now.marks.items) c.args.clause c.index.result.now (rank_read (need_in c.args.cone.now.marks.items) c.args.cone.now.numbers.items (length c.args.cone.now.marks.items) c.args.clause c.index.result.now c.args.cone.now.all c.args.cone.now.ranks c.requires c.index.ensures) c.ranges.clause

pub returns : goal.returns
returns c = rank_read (need_in c.args.cone.now.marks.items) c.args.cone.now.numbers.items (length c.args.cone.now.marks.items) c.args.clause c.index.result.now c.args.cone.now.all c.args.cone.now.ranks c.requires c.index.ensures
