use Rattle.std.proofs.Common.{◌≡◌, Some, None, sym, ap, ◌∙◌, arith}
use Rattle.std.specs.Prelude.{option_map}
use Rattle.std.specs.Option.{option_copied}
use Rattle.c_tree.specs.View as v
use Rattle.trace_lines.specs.Pairing as pairing
use Rattle.trace_lines.proofs.Sites.{body_left}
use Rattle.trace_lines.proofs.pairing.body_at.Goals as goal

pub returns-in-Some : goal.returns-in-Some
returns-in-Some c =
    let own : Some (v.body_of c.in-Some.body.now) ≡ pairing.body_in (v.item_of c.index-items-left.result) c.args.at = ap (λ o. option_map v.body_of (option_copied o)) (sym c.in-Some.is) ∙ c.body_in.ensures in
    body_left c.args.items.now c.items.left c.index-items-left.result c.args.at (Some (v.body_of c.in-Some.body.now)) _ (omega arith) c.items.invariant.1 c.index-items-left.is own c.items.invariant.0

pub items-preserved : goal.items-preserved
items-preserved c =
    let own : None ≡ pairing.body_in (v.item_of c.index-items-left.result) c.args.at = ap (λ o. option_map v.body_of (option_copied o)) (sym c.in_default.is) ∙ c.body_in.ensures in
    (body_left c.args.items.now c.items.left c.index-items-left.result c.args.at None _ (omega arith) c.items.invariant.1 c.index-items-left.is own c.items.invariant.0, omega (arith, c.items.invariant.1))
