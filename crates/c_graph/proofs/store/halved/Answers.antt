use Rattle.std.proofs.Common.{◌≤◌, ◌∙◌, arith, sym, slice_index_or}
use Rattle.c_graph.specs.declared.store.Named.{Named}
use Rattle.c_graph.proofs.Halving.{kept-here, none-here, none-left}
use Rattle.c_graph.proofs.store.halved.Goals as goal

pub returns-then-at-named : goal.returns-then-at-named
returns-then-at-named c = sym (c.first_from-at.ensures.below ∙ none-left c.args.named.now c.first_from-at.result c.args.cell c.if-at-named.true)

pub returns-then-named-at : goal.returns-then-named-at
returns-then-named-at c =
    let d : Named = record { cell = 0; value = 0 } in
    let le : c.args.cell ≤ (slice_index_or c.args.named.now c.first_from-at.result d).cell = c.first_from-at.ensures.above c.first_from-at.result d (omega arith) c.if-at-named.false in
    sym (c.first_from-at.ensures.below ∙ none-here c.args.named.now c.first_from-at.result d c.args.cell c.requires c.if-at-named.false (omega (arith, le, c.if-named-at.true)))

pub returns : goal.returns
returns c =
    let d : Named = record { cell = 0; value = 0 } in
    sym (c.first_from-at.ensures.below ∙ kept-here c.args.named.now c.first_from-at.result d c.args.cell c.if-at-named.false c.if-named-at.false)
