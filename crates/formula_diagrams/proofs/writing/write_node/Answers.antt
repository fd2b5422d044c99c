use Rattle.std.proofs.Common.{◌≡◌, ◌≢◌, ℕ, ◌+◌, ◌-◌, ◌<◌, ◌≤◌, ◌&&◌, ◌||◌, ◌==◌, Bool, true, false, not, List, [], ◌∷◌, ◌++◌, length, refl, sym, ap, ◌∙◌, subst, arith, rules, Some, Result, Ok, Err, slice_get, zero, suc}
use Rattle.formula_diagrams.specs.Truths.{holds}
use Rattle.formula_diagrams.proofs.Putting.{same-result}
use Rattle.formula_diagrams.proofs.Marking.{end-holds}
use Rattle.formula_diagrams.proofs.writing.write_node.Goals as goal

pub returns-then-is_end-clause-truth : goal.returns-then-is_end-clause-truth
returns-then-is_end-clause-truth c =
    let lt : c.args.id.0 < 2 = search rules in
    same-result _ _ (λ store. c.args.id.0 == 1) (λ store. holds c.args.nodes.now store c.args.id.0) (λ store. end-holds _ c.args.id lt store) c.put_end.ensures.truth
