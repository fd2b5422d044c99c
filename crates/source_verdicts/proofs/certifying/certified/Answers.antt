use Rattle.std.proofs.Common.{subst}
use Rattle.bv_term.specs.WellFormed.{IsTable}
use Rattle.obligation_laws.specs.Laws.{AllRefuted}
use Rattle.source_verdicts.proofs.Holding.{found_map}
use Rattle.source_verdicts.proofs.certifying.certified.Goals as goal

pub proved-verdict-requires-clause-refuted : goal.proved-verdict-requires-clause-refuted
proved-verdict-requires-clause-refuted g c =
    let graph = c.args.graph.now in
    let u = c.args.unwinding.now in
    let m = c.in-Ok.map in
    let flow = c.entry-entry.ensures.flow in
    let refuted : AllRefuted graph m =
    (c.inductive_exact.ensures graph m flow (subst IsTable c.terms-in-Ok.ensures c.cells-widths.ensures.table) c.in-Ok.ensures.map).1
    (c.extracted_is_inductive.ensures graph u m flow (subst IsTable c.terms.ensures c.cells-cells.ensures.table) c.requires.legal c.requires.complete c.in-Ok.ensures.map
    c.in-Ok.ensures.says) in
    λ _ _. refuted

pub returns-in-Ok : goal.returns-in-Ok
returns-in-Ok g c = λ p units few. (
  c.proved-verdict.ensures.0 p units
      (record {
        unwinding = c.args.unwinding.now;
        legal = c.requires.legal;
        steered = c.requires.steered;
        complete = c.requires.complete;
        few = few;
        map = c.in-Ok.ensures.map;
        says = c.in-Ok.ensures.says;
      }),
  found_map p c.args.graph.now c.args.source.now c.args.model c.in-Ok.map c.proved-verdict.result c.proved-verdict.ensures.1,
)
