use Rattle.std.proofs.Common.{◌∙◌, ◌<◌, length, arith, sym, subst}
use Rattle.explore.specs.Standing.{node_at}
use Rattle.explore.proofs.Walks.{beside-noted}
use Rattle.explore.proofs.beside.Beside.follow.Goals as goal

pub loop-number-preserved : goal.loop-number-preserved
loop-number-preserved c =
    let vs = c.args.unwinding.now.vertices in
    let n = c.loop-number.number in
    let lt : n < length vs = omega (arith, c.loop-number-test.true, c.count-number-end.ensures) in
    let there : node_at vs n < length c.loop-number.self.last.items =
    subst (λ m. node_at vs n < m) (sym c.loop-number.invariant.nodes) (c.requires.nodes n lt) in
    let m = beside-noted vs c.vertices-vertices.result.now c.loop-number.self.before.items c.loop-number.self.last.items c.note.new.self.before.items
    c.note.new.self.last.items n c.index-vertices-number.result c.vertices-vertices.ensures.value c.loop-number.invariant.number lt there
    c.in_ok-note.ensures.before c.in_ok-note.ensures.last c.loop-number.invariant.beside in
    record { number = m.0; nodes = m.1 ∙ c.loop-number.invariant.nodes; beside = m.2 }
