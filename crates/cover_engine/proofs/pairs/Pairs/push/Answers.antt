use Rattle.std.proofs.Common.{◌≤◌, ap, arith, length}
use Rattle.cover_engine.proofs.Onto.{onto_push, read_at, times_few}
use Rattle.cover_engine.proofs.pairs.Pairs.push.Goals as goal

pub overflow_add-index_mut : goal.overflow_add-index_mut
overflow_add-index_mut c =
    omega (arith, read_at c.grow.new.counts.items c.args.w.0 c.index_mut.result.now c.in_ok-grow.ensures.there c.index_mut.ensures.value, c.grow.ensures.same c.args.w.0, c.self.invariant c.args.w.0, times_few c.args.w.0 c.self.inside.items.items, ap length c.self.view_is, c.requires)

pub invariant_of-self-2 : goal.invariant_of-self-2
invariant_of-self-2 c =
    onto_push c.self.inside.items.items c.push.new.self.items (c.args.v, c.args.w) c.self.inside.onto.items c.grow.new.counts.items c.index_mut.result.now c.self.invariant c.grow.ensures.same c.in_ok-grow.ensures.there
    (read_at c.grow.new.counts.items c.args.w.0 c.index_mut.result.now c.in_ok-grow.ensures.there c.index_mut.ensures.value) c.in_ok-push.ensures.items
