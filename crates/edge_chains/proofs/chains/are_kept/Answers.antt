use Rattle.std.proofs.Common.{◌≡◌, ◌∙◌, arith, sym, true}
use Rattle.std.proofs.lemmas.List.{at_drop_all}
use Rattle.edge_chains.specs.Made as made
use Rattle.edge_chains.proofs.Telling.{kept-told}
use Rattle.edge_chains.proofs.chains.are_kept.Goals as goal

pub returns-clause-kept : goal.returns-clause-kept
returns-clause-kept c =
    let all : true ≡ made.are_kept c.args.nodes.now c.args.inner.now =
    sym (at_drop_all (made.kept_from c.args.inner.now c.loop-number.number) c.args.nodes.now c.loop-number.number (omega (arith, c.loop-number-test.false))) ∙ c.loop-number.invariant in
    λ t. kept-told c.args.nodes.now c.args.inner.now all
