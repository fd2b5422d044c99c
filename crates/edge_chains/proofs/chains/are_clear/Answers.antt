use Rattle.std.proofs.Common.{◌≡◌, ◌∙◌, arith, sym, true}
use Rattle.std.proofs.lemmas.List.{at_drop_all}
use Rattle.edge_chains.specs.Made as made
use Rattle.edge_chains.proofs.Telling.{clear-told}
use Rattle.edge_chains.proofs.chains.are_clear.Goals as goal

pub returns-clause-clear : goal.returns-clause-clear
returns-clause-clear c =
    let all : true ≡ made.are_clear c.args.inner.now c.args.loops.now =
    sym (at_drop_all (made.are_clear c.args.inner.now) c.args.loops.now c.loop-number.number (omega (arith, c.loop-number-test.false))) ∙ c.loop-number.invariant in
    λ t. clear-told c.args.inner.now c.args.loops.now all
