use Rattle.std.proofs.Common.{List, length, Bool, Option, sym, ap, subst, ◌∙◌}
use Rattle.bv_term.specs.declared.term.TermId.{TermId}
use Rattle.bv_term.specs.WellFormed.{Table}
use Rattle.c_graph.specs.Runs.{Formulas}
use Rattle.invariant_map.specs.Copies.{AreCopies}
use Rattle.invariant_map.specs.Labels.{AreFilled, ArePlaced, SaysLabels}
use Rattle.invariant_map.proofs.Whole.{labels_placed, map_says}
use Rattle.invariant_map.proofs.extraction.extract.Goals as goal

pub needed-requires : goal.needed-requires
needed-requires c = c.vertices-vertices.ensures.labelled

pub joined-requires : goal.joined-requires
joined-requires c =
    let marks : List Bool = c.in_ok-marks.marks.items in
    let ps : List TermId = c.in_ok-places.places.items in
    let a : AreCopies c.terms-2.result.now c.copied.new.terms c.deref.result.now ps = c.in_ok-places.ensures.copies in
    let b : AreCopies c.args.unwinding.now.terms c.copied.new.terms c.deref.result.now ps = subst (λ (t : Table). AreCopies t c.copied.new.terms c.deref.result.now ps) c.terms-2.ensures a in
    let d : AreCopies c.args.unwinding.now.terms c.copied.new.terms marks ps = subst (λ (m : List Bool). AreCopies c.args.unwinding.now.terms c.copied.new.terms m ps) c.deref.ensures.value b in
    record {
      placed = subst (λ (w : List TermId). ArePlaced c.args.unwinding.now (length c.nodes-nodes.result.now) c.copied.new.terms w) (sym c.deref-2.ensures.value)
          (labels_placed c.args.unwinding.now (length c.nodes-nodes.result.now) c.copied.new.terms marks ps c.vertices-vertices.ensures.labelled c.in_ok-marks.ensures.length
          (c.in_ok-places.ensures.length ∙ ap length c.deref.ensures.value) c.in_ok-marks.ensures.marked d);
    }

pub returns-clause-says : goal.returns-clause-says
returns-clause-says c =
    let parts : List (Option TermId) = c.in_ok-parts.parts.items in
    let f : AreFilled c.joined.new.terms c.filled.new.terms parts c.in_ok-formulas.formulas.items =
    subst (λ (w : List (Option TermId)). AreFilled c.joined.new.terms c.filled.new.terms w c.in_ok-formulas.formulas.items) c.deref-3.ensures.value c.in_ok-formulas.ensures.filled in
    subst (λ (m : Formulas). SaysLabels c.args.graph.now c.args.unwinding.now m) (sym c.new.ensures)
    (map_says c.args.graph.now c.args.unwinding.now c.joined.new.terms c.filled.new.terms parts c.in_ok-formulas.formulas.items
    (c.in_ok-parts.ensures.length ∙ ap length c.nodes-nodes.ensures.value) (c.in_ok-formulas.ensures.length ∙ ap length c.deref-3.ensures.value)
    c.filled.ensures.extends c.in_ok-parts.ensures.parts f)
