use Rattle.std.proofs.Common.{rules, ◌≡◌, length, ap, sym, ◌∙◌, arith}
use Rattle.std.specs.BinaryHeap.{heap_items}
use Rattle.bit_blast.specs.Done.{is_done}
use Rattle.bit_blast.specs.Cone.{numbers}
use Rattle.bit_blast.proofs.ConeLemmas.{cone-step, cone-again, cone-end, operands-at}
use Rattle.bit_blast.proofs.cone.cone.Goals as goal

pub loop-k-preserved-then-k-below : goal.loop-k-preserved-then-k-below
loop-k-preserved-then-k-below c =
    let k = c.in-Some.k in
    let o = ap numbers c.operands.ensures ∙ sym (operands-at c.args.terms.now.terms k c.get.result c.get.ensures) in
    let h = c.in-Some.ensures.heap_order c.loop-k.invariant.0 in (
      c.in_ok-want_all.ensures.ordered h.0,
      omega (arith, c.if-k-below.true, c.loop-k.invariant.1),
      cone-step c.args.terms.now.terms (is_done c.args.done.now) c.loop-k.below k (heap_items c.loop-k.pending) (heap_items c.pop.new.self) (heap_items c.want_all.new.pending)
          (numbers c.operands.result) _ c.loop-k.found.items c.push_term.new.found.items c.loop-k.invariant.2 c.in-Some.ensures.permutation
          (c.in-Some.ensures.below_top c.loop-k.invariant.0) c.if-k-below.true c.in_ok-want_all.ensures.wanted o c.in_ok-push_term.ensures,
    )

pub loop-k-preserved : goal.loop-k-preserved
loop-k-preserved c =
    let k = c.in-Some.k in
    let h = c.in-Some.ensures.heap_order c.loop-k.invariant.0 in (
      h.0,
      c.loop-k.invariant.1,
      cone-again c.args.terms.now.terms (is_done c.args.done.now) c.loop-k.below k (heap_items c.loop-k.pending) (heap_items c.pop.new.self) _ c.loop-k.found.items
          c.loop-k.invariant.2 c.in-Some.ensures.permutation c.if-k-below.false,
    )

pub returns : goal.returns
returns c =
    let z : length (heap_items c.loop-k.pending) ≡ 0 = search rules in
    cone-end c.args.terms.now.terms (is_done c.args.done.now) c.loop-k.below (heap_items c.loop-k.pending) _ c.loop-k.found.items c.loop-k.invariant.2 z
