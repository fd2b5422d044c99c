use Rattle.std.proofs.Common.{refl, []}
use Rattle.std.specs.BinaryHeap.{heap_items}
use Rattle.bit_blast.specs.Done.{is_done}
use Rattle.bit_blast.proofs.ConeLemmas.{wanted-push}
use Rattle.path_formula.proofs.reads.want.Goals as goal

pub returns-clause-wanted : goal.returns-clause-wanted
returns-clause-wanted c =
    wanted-push (heap_items c.args.pending.now) (heap_items c.push.new.self) (is_done []) c.args.term refl c.in_ok-push.ensures.permutation
