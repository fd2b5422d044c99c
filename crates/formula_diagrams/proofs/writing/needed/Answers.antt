use Rattle.std.proofs.Common.{◌≡◌, ◌≢◌, ℕ, ◌+◌, ◌-◌, ◌<◌, ◌≤◌, ◌&&◌, ◌||◌, ◌==◌, Bool, true, false, not, List, [], ◌∷◌, ◌++◌, length, refl, sym, ap, ◌∙◌, subst, arith, rules, Some, Result, Ok, Err, slice_get, zero, suc}
use Rattle.formula_diagrams.proofs.Marking.{are-below, whole-back}
use Rattle.formula_diagrams.specs.Writings.{IsClosed}
use Rattle.formula_diagrams.specs.declared.items.Node.{Node}
use Rattle.formula_diagrams.proofs.writing.needed.Goals as goal

pub mark_below-requires-clause-below : goal.mark_below-requires-clause-below
mark_below-requires-clause-below c = rw c.nodes.ensures.value (are-below _ c.nodes.ensures.arena)

pub returns-clause-closed : goal.returns-clause-closed
returns-clause-closed c =
    let q : c.in_ok-marks.marks.len ≡ length c.mark_below.new.marks = first_of (search rules, omega arith, omega (arith, c.mark_below.auto.marks, c.deref_mut.ensures.len, ap length c.deref_mut.ensures.value), grind arith) in
    let h : IsClosed c.args.nodes.now.nodes c.mark_below.new.marks 0 = subst (λ (ns : List Node). IsClosed ns c.mark_below.new.marks 0) c.nodes.ensures.value c.mark_below.ensures.closed in
    subst (λ (m : List Bool). IsClosed c.args.nodes.now.nodes m 0) (sym (whole-back _ c.mark_below.new.marks _ q)) h
