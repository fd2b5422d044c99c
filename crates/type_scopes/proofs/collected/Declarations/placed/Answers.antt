use Rattle.std.proofs.Common.{◌≡◌, ◌∙◌, ◌-◌, length, arith, ap, sym, refl, find}
use Rattle.std.specs.Prelude.{map}
use Rattle.std.specs.Option.{option_copied}
use Rattle.type_scopes.specs.Found.{some_entry}
use Rattle.type_scopes.specs.Seen.{entry_of}
use Rattle.type_scopes.specs.Chains.{by_order}
use Rattle.type_scopes.specs.Walking.{is_placed, or_found}
use Rattle.type_scopes.proofs.Joining.{finding_starts, finding_jumps, finding_goes, finding_ends}
use Rattle.type_scopes.proofs.Walks.{not_placed, order_start, order_few, read, older_less, jump_less}
use Rattle.type_scopes.proofs.collected.Declarations.placed.Goals as goal

pub rows-init : goal.rows-init
rows-init c =
    let xs = c.self.inside.rows.items in
    let all : c.len-left.result ≡ length xs = c.len-left.ensures ∙ c.self.inside.rows.ok.0 in
    finding_starts by_order 0 (is_placed c.args.at) xs (λ z other. absurd (other refl)) c.len-left.result (order_start xs c.len-left.result (omega (arith, all))) (λ j x lo hi at of. omega (arith, lo, hi, all))

pub index-row-requires : goal.index-row-requires
index-row-requires c =
    let few = order_few c.self.inside.rows.items c.rows.left c.rows.invariant.leads in
    omega (arith, few, c.rows-test.true)

pub rows-smaller-then-is_elsewhere : goal.rows-smaller-then-is_elsewhere
rows-smaller-then-is_elsewhere c =
    let few = order_few c.self.inside.rows.items c.rows.left c.rows.invariant.leads in
    let at = read c.self.inside.rows.items c.rows.left c.index-row.result.now c.rows-test.true few c.index-row.ensures in
    jump_less by_order c.self.inside.rows.items c.rows.left c.index-row.result.now c.self.invariant.orders c.rows-test.true at

pub rows-preserved-then-is_elsewhere : goal.rows-preserved-then-is_elsewhere
rows-preserved-then-is_elsewhere c =
    let xs = c.self.inside.rows.items in
    let x = c.index-row.result.now in
    let k = c.rows.left - 1 in
    let few = order_few xs c.rows.left c.rows.invariant.leads in
    let at = read xs c.rows.left x c.rows-test.true few c.index-row.ensures in
    finding_jumps by_order 0 (is_placed c.args.at) xs (λ z other. absurd (other refl)) (some_entry (option_copied c.rows.first)) c.rows.left k x (omega (arith, c.rows-test.true)) at (c.self.invariant.orders k x at) c.rows.invariant
    (λ z w. not_placed c.args.at x.order.span z (sym c.is_elsewhere.ensures ∙ c.if-is_elsewhere.true) w)

pub rows-smaller : goal.rows-smaller
rows-smaller c =
    let few = order_few c.self.inside.rows.items c.rows.left c.rows.invariant.leads in
    let at = read c.self.inside.rows.items c.rows.left c.index-row.result.now c.rows-test.true few c.index-row.ensures in
    older_less by_order c.self.inside.rows.items c.rows.left c.index-row.result.now c.self.invariant.orders c.rows-test.true at

pub rows-preserved : goal.rows-preserved
rows-preserved c =
    let xs = c.self.inside.rows.items in
    let x = c.index-row.result.now in
    let k = c.rows.left - 1 in
    let few = order_few xs c.rows.left c.rows.invariant.leads in
    let at = read xs c.rows.left x c.rows-test.true few c.index-row.ensures in
    let later = some_entry (option_copied c.rows.first) in
    finding_goes by_order 0 (is_placed c.args.at) xs (λ z other. absurd (other refl)) later (some_entry (option_copied c.or_found-first.result)) c.rows.left k x (omega (arith, c.rows-test.true)) at (c.self.invariant.orders k x at) c.rows.invariant
    (c.or_found-first.ensures ∙ ap (λ t. or_found t (entry_of x.entry) later) c.is_placed.ensures)

pub returns : goal.returns
returns c =
    finding_ends by_order 0 (is_placed c.args.at) c.self.inside.rows.items (λ z other. absurd (other refl)) (some_entry (option_copied c.rows.first)) c.rows.left (omega (arith, c.rows-test.false)) c.rows.invariant
    ∙ ap (λ es. find (is_placed c.args.at) (map entry_of es)) c.self.view_is
