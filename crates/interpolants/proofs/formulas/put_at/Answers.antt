use Rattle.std.proofs.Common.{length, sym, ap, ◌∙◌}
use Rattle.interpolants.proofs.KeptCells.{kept-cells, named-at}
use Rattle.interpolants.proofs.Meant.{edge-inner, formula-at, some-chain}
use Rattle.interpolants.proofs.Truths.{names-below}
use Rattle.interpolants.proofs.formulas.put_at.Goals as goal

pub put_kept-requires-clause-bits : goal.put_kept-requires-clause-bits
put_kept-requires-clause-bits c =
    c.in_ok-bits.ensures.bits _ (c.bundles_at-bundles.ensures.bundles _ c.requires.bundles)

pub put_kept-requires-clause-exact : goal.put_kept-requires-clause-exact
put_kept-requires-clause-exact c = record {
  placing = c.in_ok-bits.ensures.placing;
  clauses = c.requires.known.clauses_of;
  lows = c.requires.known.lows;
  many = c.requires.known.many;
  long = c.requires.known.long;
  cone = c.requires.known.cone;
  names = names-below _ _ _ c.requires.refuted.1;
}

pub returns-clause-meaning : goal.returns-clause-meaning
returns-clause-meaning c =
    let same = c.in_ok-bits.ensures.same _ c.count-count.ensures.table.cells (c.bundles_at-bundles.ensures.bundles _ c.requires.bundles) in
    formula-at _ c.put_kept.new.terms c.args.query.now c.args.log.now c.args.number c.edge_at-edge.result c.bundles_at-bundles.result.now
    c.bundles_at-bundles.ensures.at (c.edge_at-edge.ensures ∙ sym (edge-inner c.args.query.now c.args.number c.requires.inner))
    (c.put_kept.ensures.meaning c.bundles_at-bundles.result.now c.requires.known.ends same
    (kept-cells _ _ _ _ _ c.deref.ensures.value c.in_ok-kept.ensures.long (ap length c.cells.ensures.value) c.in_ok-kept.ensures.mask
    (c.bundles_at-bundles.ensures.bundles _ c.requires.bundles))
    c.requires.room (some-chain _ _ c.requires.refuted))

pub returns-clause-names : goal.returns-clause-names
returns-clause-names c =
    named-at _ _ c.args.query.now c.args.number _ _ _ c.bundles_at-bundles.ensures.at c.deref.ensures.value c.in_ok-kept.ensures.mask c.put_kept.ensures.names
