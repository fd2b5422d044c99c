use Rattle.std.proofs.Common.{◌∙◌, ◌-◌, arith, ap, sym}
use Rattle.std.specs.Prelude.{map}
use Rattle.std.specs.Option.{option_copied}
use Rattle.c_meaning.specs.Program as program
use Rattle.type_scopes.specs.Found.{some_initial}
use Rattle.type_scopes.specs.Seen.{entry_of}
use Rattle.type_scopes.specs.Chains.{by_order}
use Rattle.type_scopes.proofs.Walks.{gathering_starts, gathering_jumps, gathering_goes, gathering_ends, read, older_less, jump_less}
use Rattle.type_scopes.proofs.collected.Declarations.initial_of.Goals as goal

pub rows-init : goal.rows-init
rows-init c = gathering_starts c.args.number c.self.inside.rows.items c.len-left.result (c.len-left.ensures ∙ c.self.inside.rows.ok.0)

pub index-row-requires : goal.index-row-requires
index-row-requires c = omega (arith, c.rows.invariant.few, c.rows-test.true)

pub rows-smaller-then-has_no_number : goal.rows-smaller-then-has_no_number
rows-smaller-then-has_no_number c =
    let at = read c.self.inside.rows.items c.rows.left c.index-row.result.now c.rows-test.true c.rows.invariant.few c.index-row.ensures in
    jump_less by_order c.self.inside.rows.items c.rows.left c.index-row.result.now c.self.invariant.orders c.rows-test.true at

pub rows-preserved-then-has_no_number : goal.rows-preserved-then-has_no_number
rows-preserved-then-has_no_number c =
    let xs = c.self.inside.rows.items in
    let x = c.index-row.result.now in
    let k = c.rows.left - 1 in
    let at = read xs c.rows.left x c.rows-test.true c.rows.invariant.few c.index-row.ensures in
    gathering_jumps c.args.number xs (some_initial (option_copied c.rows.found)) c.rows.left k x (omega (arith, c.rows-test.true)) at (c.self.invariant.orders k x at) (sym c.has_no_number.ensures ∙ c.if-has_no_number.true) c.rows.invariant

pub rows-smaller : goal.rows-smaller
rows-smaller c =
    let at = read c.self.inside.rows.items c.rows.left c.index-row.result.now c.rows-test.true c.rows.invariant.few c.index-row.ensures in
    older_less by_order c.self.inside.rows.items c.rows.left c.index-row.result.now c.self.invariant.orders c.rows-test.true at

pub rows-preserved : goal.rows-preserved
rows-preserved c =
    let xs = c.self.inside.rows.items in
    let x = c.index-row.result.now in
    let k = c.rows.left - 1 in
    let at = read xs c.rows.left x c.rows-test.true c.rows.invariant.few c.index-row.ensures in
    let later = some_initial (option_copied c.rows.found) in
    gathering_goes c.args.number xs later (some_initial (option_copied c.or_initial-found.result)) c.rows.left k x (omega (arith, c.rows-test.true)) at (c.self.invariant.orders k x at)
    (c.or_initial-found.ensures ∙ ap (λ i. program.or_initial i later) c.own_initial.ensures) c.rows.invariant

pub returns : goal.returns
returns c =
    gathering_ends c.args.number c.self.inside.rows.items (some_initial (option_copied c.rows.found)) c.rows.left (omega (arith, c.rows-test.false)) c.rows.invariant
    ∙ ap (λ es. program.initial_of c.args.number (map entry_of es)) c.self.view_is
