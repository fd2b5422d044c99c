use Rattle.std.proofs.Common.{◌≡◌, ◌≤◌, ℕ, List, length, arith, sym, ap, subst, ◌∙◌}
use Rattle.prop.specs.declared.Lit.{Lit}
use Rattle.prop.specs.Trues.{listed}
use Rattle.bit_gates.specs.Net.{number}
use Rattle.c_graph.specs.declared.store.Named.{Named}
use Rattle.pair_query.specs.Laws.{store_read}
use Rattle.refine.proofs.Stores.{AreNamed, cell_read, cell_short, named_end, named_skip, named_start, named_turn, read_whole}
use Rattle.refine.proofs.reading.named_by.Goals.{then-value-ne0+in_ok-push, else-value-ne0}
use Rattle.refine.proofs.reading.named_by.Goals as goal

pub loop-cell-init : goal.loop-cell-init
loop-cell-init c =
    let values : List ℕ = store_read c.args.terms.now (listed c.args.found.now) in
    subst (λ (xs : List Named). AreNamed xs values 0) (sym c.new-named.ensures.items) (named_start values)

pub number_of-value-requires : goal.number_of-value-requires
number_of-value-requires c =
    let ws = c.args.terms.now.cells in
    subst (λ (ls : List Lit). length ls ≤ 128) (sym c.cell.ensures)
    (cell_short ws c.loop-cell.cell c.args.bits.now.cells c.cells.ensures.table.cells (omega (arith, c.loop-cell-test.true, ap length c.cells.ensures.value)) c.requires.cells)

pub loop-cell-preserved : goal.loop-cell-preserved
loop-cell-preserved c =
    let ws = c.args.terms.now.cells in
    let v : ℕ → _ = listed c.args.found.now in
    let values : List ℕ = store_read c.args.terms.now (listed c.args.found.now) in
    let n = c.loop-cell.cell in
    let read : c.number_of-value.result ≡ _ =
    c.number_of-value.ensures ∙ (ap (number (listed c.args.found.now)) c.cell.ensures
    ∙ cell_read (listed c.args.found.now) ws n c.args.bits.now.cells (omega (arith, c.loop-cell-test.true, ap length c.cells.ensures.value)) c.requires.cells) in
    elim c.if-value-ne0.branch [
      | then-value-ne0+in_ok-push w ↦
          rw w.named-is (named_turn c.loop-cell.named.items w.push.new.self.items values n c.number_of-value.result read w.in_ok-push.ensures.items c.loop-cell.invariant)
      | else-value-ne0 w ↦
          rw w.named-is (named_skip c.loop-cell.named.items values n (omega (arith, read, w.if-value-ne0.false)) c.loop-cell.invariant)
    ]

pub returns : goal.returns
returns c =
    let ws = c.args.terms.now.cells in
    let values : List ℕ = store_read c.args.terms.now (listed c.args.found.now) in
    let e : c.loop-cell.cell ≡ length ws = omega (arith, c.loop-cell-test.false, c.loop-cell.auto.cell-end, ap length c.cells.ensures.value) in
    record {
      read = named_end c.loop-cell.named.items values (length ws) (read_whole (listed c.args.found.now) ws)
          (subst (λ (n : ℕ). AreNamed c.loop-cell.named.items values n) e c.loop-cell.invariant);
    }
