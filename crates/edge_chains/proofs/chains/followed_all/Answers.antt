use Rattle.std.proofs.Common.{rules, ◌≡◌, ◌+◌, ◌∷◌, ◌∙◌, List, Option, ap, drop, get_or, sym, true}
use Rattle.std.proofs.lemmas.List.{at_drop_more}
use Rattle.c_graph.specs.declared.graph.Edge.{Edge}
use Rattle.edge_chains.specs.Links.{Adds}
use Rattle.edge_chains.specs.Made as made
use Rattle.edge_chains.proofs.Following.{one_more}
use Rattle.edge_chains.proofs.Telling.{all-step}
use Rattle.edge_chains.proofs.chains.followed_all.Goals as goal

pub loop-number-preserved : goal.loop-number-preserved
loop-number-preserved c =
    let x : Edge = c.index-edges-number.result in
    let is : x ≡ get_or c.args.edges.now c.loop-number.number x = search rules in
    let adds : Adds c.args.inner.now c.args.edges.now x c.loop-number.found.items c.add.new.found.items = c.in_ok-add.ensures.adds (search rules) in
    let es = c.args.edges.now in
    let n = c.loop-number.number in
    let rest : List Edge = drop (n + 1) es in
    let all : List Edge → Option (List Edge) = made.add_all es c.args.inner.now c.args.links.now c.loop-number.found.items in
    let ends : c.in_ok-add.field-0 ≡ true = search rules in
    let step : all (x ∷ rest) ≡ made.add_all es c.args.inner.now c.args.links.now c.add.new.found.items rest =
    all-step es c.args.inner.now c.args.links.now c.loop-number.found.items c.add.new.found.items rest x c.in_ok-add.field-0 c.in_ok-add.ensures.made ends in (
      one_more c.args.inner.now es n x c.loop-number.found.items c.add.new.found.items c.loop-number-test.true is adds c.loop-number.invariant.0,
      sym step ∙ ap (λ (y : Edge). all (y ∷ rest)) is ∙ sym (at_drop_more all es n x c.loop-number-test.true) ∙ c.loop-number.invariant.1,
    )
