use Rattle.std.proofs.Common.{nat_eq, length, refl}
use Rattle.cdcl_solver.proofs.OpenLaws.{built_start, watch_first, watch_second, watch_push}
use Rattle.cdcl_solver.proofs.opening.watch_all.Goals as goal

pub loop-number-init : goal.loop-number-init
loop-number-init c = built_start c.args.rows.now c.new-watches.result.items c.in_ok-lists.lists c.args.codes c.new-watches.ensures.items c.in_ok-lists.ensures.len c.in_ok-lists.ensures.empty

pub add_watch-requires-clause-first : goal.add_watch-requires-clause-first
add_watch-requires-clause-first c = watch_first c.args.rows.now c.loop-number.watches.items c.loop-number.lists c.args.codes c.loop-number.number c.loop-number.invariant c.row-row.result.now c.row-row.ensures c.requires.some c.requires.below c.other_code-second.result c.other_code-second.ensures (nat_eq (length c.row-row.result.now) 2) refl

pub add_watch-requires-clause-second : goal.add_watch-requires-clause-second
add_watch-requires-clause-second c = watch_second c.args.rows.now c.loop-number.watches.items c.loop-number.lists c.args.codes c.loop-number.number c.loop-number.invariant c.row-row.result.now c.row-row.ensures c.requires.some c.requires.below c.other_code-second.result c.other_code-second.ensures (nat_eq (length c.row-row.result.now) 2) refl

pub loop-number-preserved : goal.loop-number-preserved
loop-number-preserved c = watch_push c.args.rows.now c.loop-number.watches.items c.loop-number.lists c.args.codes c.loop-number.number c.loop-number.invariant c.row-row.result.now c.row-row.ensures c.requires.some c.requires.below c.other_code-second.result c.other_code-second.ensures (nat_eq (length c.row-row.result.now) 2) refl c.add_watch.new.watches.items c.add_watch.new.lists c.in_ok-add_watch.ensures.watches c.in_ok-add_watch.ensures.lists
