use Rattle.std.proofs.Common.{rules, ◌≡◌, length, ap, ◌∙◌, arith}
use Rattle.std.specs.BinaryHeap.{heap_items}
use Rattle.bit_blast.specs.Cone.{numbers}
use Rattle.path_formula.specs.declared.reads.Span.{Span}
use Rattle.path_formula.specs.Reads.{cells_from, with_cells}
use Rattle.path_formula.proofs.Reading.{read_step, read_again, read_end}
use Rattle.path_formula.proofs.reads.need_cells.Goals as goal

pub loop-k-preserved-then-k-below : goal.loop-k-preserved-then-k-below
loop-k-preserved-then-k-below c =
    let k = c.in-Some.k in
    let h = c.in-Some.ensures.heap_order c.loop-k.invariant.0 in
    let own : c.need_all.new.needed.keys ≡ with_cells c.loop-k.needed.keys (cells_from c.own_cells-own.result.first c.own_cells-own.result.count) = c.in_ok-need_all.ensures in (
      c.in_ok-want_all.ensures.ordered h.0,
      omega (arith, c.if-k-below.true, c.loop-k.invariant.1),
      read_step c.args.terms.now.terms c.loop-k.below k (heap_items c.loop-k.pending) (heap_items c.pop.new.self) (heap_items c.want_all.new.pending)
          (numbers c.operands.result) c.loop-k.needed.keys c.need_all.new.needed.keys _ c.get-found.result c.loop-k.invariant.2 c.in-Some.ensures.permutation
          (c.in-Some.ensures.below_top c.loop-k.invariant.0) c.if-k-below.true c.in_ok-want_all.ensures.wanted c.get-found.ensures (ap numbers c.operands.ensures)
          (own ∙ ap (λ (s : Span). with_cells c.loop-k.needed.keys (cells_from s.first s.count)) c.own_cells-own.ensures),
    )

pub loop-k-preserved : goal.loop-k-preserved
loop-k-preserved c =
    let k = c.in-Some.k in
    let h = c.in-Some.ensures.heap_order c.loop-k.invariant.0 in (
      h.0,
      c.loop-k.invariant.1,
      read_again c.args.terms.now.terms c.loop-k.below k (heap_items c.loop-k.pending) (heap_items c.pop.new.self) c.loop-k.needed.keys _
          c.loop-k.invariant.2 c.in-Some.ensures.permutation c.if-k-below.false,
    )

pub returns : goal.returns
returns c =
    let z : length (heap_items c.loop-k.pending) ≡ 0 = search rules in
    read_end c.args.terms.now.terms c.loop-k.below (heap_items c.loop-k.pending) c.loop-k.needed.keys _ c.loop-k.invariant.2 z
