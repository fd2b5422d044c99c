use Rattle.std.proofs.Common.{◌≡◌, length, set, get_or, pos, ◌∙◌, ap, arith, rules, take, ◌+◌}
use Rattle.std.proofs.lemmas.List.{length-set}
use Rattle.slot_board.proofs.Elements.{begin_more, begin_done}
use Rattle.slot_board.proofs.row.Row.begin.Goals as goal

pub elements-preserved : goal.elements-preserved
elements-preserved c =
    let e : c.set.new.self ≡ set c.elements.self c.elements.index (get_or c.args.first.now c.elements.index (pos 0)) = search rules in
    let more = begin_more (length c.args.self.now) c.elements.index c.args.first.now c.elements.self (omega arith) (omega (arith, c.elements.invariant.0)) c.elements.invariant.0 c.elements.invariant.1 in
    (ap length e ∙ length-set c.elements.self c.elements.index (get_or c.args.first.now c.elements.index (pos 0)) ∙ c.elements.invariant.0, ap (λ xs. take (c.elements.index + 1) xs) e ∙ more)

pub returns-clause-values : goal.returns-clause-values
returns-clause-values c =
    begin_done (length c.args.self.now) c.elements.index c.args.first.now c.elements.self (omega arith) (omega (arith, c.elements.invariant.0)) c.elements.invariant.0 c.elements.invariant.1
