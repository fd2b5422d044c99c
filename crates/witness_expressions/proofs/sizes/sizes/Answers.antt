use Rattle.witness_expressions.specs.Names.{named}
use Rattle.witness_expressions.specs.Sizes.{sizes_of}
use Rattle.witness_expressions.proofs.Sized.{one_more}
use Rattle.witness_expressions.proofs.sizes.sizes.Goals as goal

pub loop-number-preserved : goal.loop-number-preserved
loop-number-preserved c =
    let sized = rw c.deref.ensures.value at c.in_ok-size.ensures in
    let more = one_more (named c.args.spellings.now c.args.cells.now) c.args.terms.now.terms c.loop-number.sizes.items c.loop-number.number c.get-term.result c.in_ok-size.size (sizes_of (named c.args.spellings.now c.args.cells.now) c.args.terms.now.terms) c.get-term.ensures sized c.loop-number.invariant in
    rw (c.in_ok-push.ensures.items) more
