use Rattle.std.proofs.Common.{sym, ◌∙◌}
use Rattle.std.specs.BinaryHeap.{heap_items}
use Rattle.bit_blast.specs.Done.{is_done}
use Rattle.bit_blast.proofs.ConeLemmas.{wanted-push}
use Rattle.bit_blast.proofs.cone.want.Goals as goal

pub returns-in-Ok-clause-wanted : goal.returns-in-Ok-clause-wanted
returns-in-Ok-clause-wanted c =
    wanted-push (heap_items c.args.pending.now) (heap_items c.push.new.self) (is_done c.args.done.now) c.args.term (sym c.has.ensures ∙ c.if-has.false) c.in-Ok.ensures.permutation
