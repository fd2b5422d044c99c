use Rattle.std.proofs.Common.{List, refl, subst}
use Rattle.bv_term.specs.WellFormed.{Table}
use Rattle.c_graph.specs.declared.graph.Operation.{Operation}
use Rattle.block_rule.specs.Blocked.{plain_deeds}
use Rattle.block_rule.specs.Deeds.{AreDeeds, Ends, Leading}
use Rattle.block_steps.specs.Cursors.{Meets}
use Rattle.block_follow.specs.Following.{straight}
use Rattle.block_follow.proofs.Straight.{leading-straight, same-straight}
use Rattle.block_follow.proofs.keeping.is_same_edge.Goals as goal

pub returns-in-Some-ends-clause-leads : goal.returns-in-Some-ends-clause-leads
returns-in-Some-ends-clause-leads c = λ _.
    let h = c.args.new.now in
    let to = c.args.edge.now.to.0 in
    let m : Meets h (record { edge_at = c.args.at; op_at = 0 }) (straight c.terms.result.now c.as_slice.result.now (Ends to)) =
    c.in-Some.ensures.tells (Ends to) c.in-Some-ends.ensures.means in
    let found : Leading h c.args.node (plain_deeds c.terms.result.now c.as_slice.result.now) to =
    leading-straight h c.terms.result.now c.args.at c.args.node to c.as_slice.result.now (c.if-not-leads_from.ensures.means refl) m in
    let same : Leading h c.args.node (plain_deeds c.terms.result.now c.args.edge.now.ops) to =
    subst (λ (xs : List Operation). Leading h c.args.node (plain_deeds c.terms.result.now xs) to) c.as_slice.ensures found in
    subst (λ (t : Table). Leading h c.args.node (plain_deeds t c.args.edge.now.ops) to) c.terms.ensures.value same

pub returns-in-Some-ends-clause-same : goal.returns-in-Some-ends-clause-same
returns-in-Some-ends-clause-same c = λ _ e get.
    let h = c.args.new.now in
    let to = c.args.edge.now.to.0 in
    let m : Meets h (record { edge_at = c.args.at; op_at = 0 }) (straight c.terms.result.now c.as_slice.result.now (Ends to)) =
    c.in-Some.ensures.tells (Ends to) c.in-Some-ends.ensures.means in
    let (goal, found) = same-straight h c.terms.result.now c.args.at to c.as_slice.result.now m e get in
    let same : AreDeeds h.terms e.ops (plain_deeds c.terms.result.now c.args.edge.now.ops) =
    subst (λ (xs : List Operation). AreDeeds h.terms e.ops (plain_deeds c.terms.result.now xs)) c.as_slice.ensures found in
    (goal, subst (λ (t : Table). AreDeeds h.terms e.ops (plain_deeds t c.args.edge.now.ops)) c.terms.ensures.value same)
