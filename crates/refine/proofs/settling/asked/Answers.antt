use Rattle.std.proofs.Common.{◌≡◌, true, List, subst}
use Rattle.prop.specs.declared.Lit.{Lit}
use Rattle.prop.specs.Logic.{all_hold}
use Rattle.prop.specs.Trues.{listed}
use Rattle.clause_learning.specs.Solve.{IsAnswer, IsRefuted}
use Rattle.refine.proofs.Pairs.{refuted_implies, satisfied_parts}
use Rattle.refine.proofs.settling.asked.Goals as goal

pub returns-in-Ok-store_of : goal.returns-in-Ok-store_of
returns-in-Ok-store_of c = record {
  decided = satisfied_parts c.args.terms.now c.args.left.now c.args.right.now c.in-Ok-Sat.found c.in-Ok-store_of.store c.cells-cells.ensures.table c.requires.left c.requires.right
      (subst (λ (cs : List (List Lit)). all_hold (listed c.in-Ok-Sat.found) cs ≡ true) c.in-Ok.ensures.clauses
      (subst (IsAnswer c.in-Ok.made.0 c.args.learn) c.in-Ok-Sat.field-0-is c.in-Ok-Sat.ensures)) c.in-Ok-store_of.ensures.read;
  refused = tt;
}

pub returns-in-Ok-Unsat : goal.returns-in-Ok-Unsat
returns-in-Ok-Unsat c = record {
  decided = refuted_implies c.args.terms.now c.args.left.now c.args.right.now c.args.learn c.in-Ok-Unsat.field-0-0 c.cells-cells.ensures.table c.requires.left c.requires.right
      (subst (λ (cs : List (List Lit)). IsRefuted cs c.args.learn c.in-Ok-Unsat.field-0-0) c.in-Ok.ensures.clauses
      (subst (IsAnswer c.in-Ok.made.0 c.args.learn) c.in-Ok-Unsat.field-0-is c.in-Ok-Unsat.ensures));
  refused = tt;
}
