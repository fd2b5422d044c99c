use Rattle.std.proofs.Common.{◌≤◌, arith}
use Rattle.cover_engine.proofs.Onto.{counted_there, last_counted, onto_pop, read_at}
use Rattle.cover_engine.proofs.pairs.Pairs.pop.Goals as goal

pub index_mut-requires : goal.index_mut-requires
index_mut-requires c =
    omega (arith, counted_there c.self.inside.onto.items c.in-Some.pair.1.0 (last_counted c.pop.new.self.items c.self.inside.items.items c.in-Some.pair c.self.inside.onto.items c.self.invariant c.in-Some.ensures.items))

pub overflow_sub-index_mut : goal.overflow_sub-index_mut
overflow_sub-index_mut c =
    let one = last_counted c.pop.new.self.items c.self.inside.items.items c.in-Some.pair c.self.inside.onto.items c.self.invariant c.in-Some.ensures.items in
    omega (arith, one, read_at c.self.inside.onto.items c.in-Some.pair.1.0 c.index_mut.result.now (counted_there c.self.inside.onto.items c.in-Some.pair.1.0 one) c.index_mut.ensures.value)

pub invariant_of-self-in-Some : goal.invariant_of-self-in-Some
invariant_of-self-in-Some c =
    let one = last_counted c.pop.new.self.items c.self.inside.items.items c.in-Some.pair c.self.inside.onto.items c.self.invariant c.in-Some.ensures.items in
    onto_pop c.pop.new.self.items c.self.inside.items.items c.in-Some.pair c.self.inside.onto.items c.index_mut.result.now c.self.invariant
    (read_at c.self.inside.onto.items c.in-Some.pair.1.0 c.index_mut.result.now (counted_there c.self.inside.onto.items c.in-Some.pair.1.0 one) c.index_mut.ensures.value) c.in-Some.ensures.items
