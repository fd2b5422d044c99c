use Rattle.std.proofs.Common.{rules, ◌≡◌, ◌∙◌, ◌<◌, ◌≤◌, subst, sym, Bool, Vec, Global, List, take, set, ◌+◌, true, length, length-set}
use Rattle.c_graph.specs.declared.graph.Edge.{Edge}
use Rattle.c_graph.specs.Parts.{AllMarked, AreMarks}
use Rattle.c_graph.proofs.Marks.{all-more, all-set, marks-more, marks-set}
use Rattle.c_graph.proofs.parts.marks_of.Goals.{then-from-len, else-from-len}
use Rattle.c_graph.proofs.parts.marks_of.Goals as goal

pub loop-edge-preserved : goal.loop-edge-preserved
loop-edge-preserved c =
    let n = c.args.nodes in
    let edges = c.args.edges.now in
    let i = c.loop-edge.edge-index in
    let marks : List Bool = c.loop-edge.marks.items in
    let R : List Bool → Type 0 = λ ms. AreMarks (take (i + 1) edges) ms × AllMarked n (take (i + 1) edges) ms × (length ms ≡ n) in
    let P : Vec Bool Global → Type 0 = λ m. R m.items in
    let Q : Edge → Type 0 = λ e. R (set marks e.from.0 true) in
    let kept = c.loop-edge.invariant in
    elim c.if-from-len.branch [
      | then-from-len w ↦ subst P (sym w.marks-is) (subst Q (sym c.edge-item.is) (
        marks-set edges marks i c.edge-item.result c.loop-edge-test.true kept.0,
        all-set n edges marks i c.edge-item.result c.loop-edge-test.true kept.1 (subst (λ (e : Edge). e.from.0 < length marks) c.edge-item.is (search rules)),
        length-set marks _ true ∙ kept.2,
      ))
      | else-from-len w ↦ subst P (sym w.marks-is) (
        marks-more edges marks i c.edge-item.result c.loop-edge-test.true kept.0,
        all-more n edges marks i c.edge-item.result c.loop-edge-test.true kept.1
            (subst (λ (e : Edge). n ≤ e.from.0) c.edge-item.is (search rules)),
        kept.2,
      )
    ]
