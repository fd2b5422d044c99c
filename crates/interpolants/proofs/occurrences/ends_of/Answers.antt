use Rattle.std.proofs.Common.{◌≡◌, ℕ, ◌+◌, List, cond, drop, length, slice_index, sym, ap, ◌∙◌, subst, arith, rules}
use Rattle.prop.specs.Trues.{listed}
use Rattle.resolution_log.specs.Codes.{place, vars_of}
use Rattle.interpolants.specs.Sources.{last_end}
use Rattle.interpolants.proofs.Ending.{ends-next, take-whole}
use Rattle.interpolants.proofs.occurrences.ends_of.Goals as goal

pub loop-number-preserved : goal.loop-number-preserved
loop-number-preserved c =
    let q : c.loop-number.ends.len ≡ length c.note.new.ends =
    first_of (search rules, omega arith, omega (arith, c.note.auto.ends, c.deref_mut.ensures.len, ap length c.deref_mut.ensures.value), grind arith) in
    let w = take-whole c.loop-number.ends.len c.note.new.ends (drop (length c.note.new.ends) c.loop-number.ends.items) q in
    record {
      long = ap length w ∙ first_of (search rules, omega (arith, q, c.loop-number.invariant.long, c.deref_mut.ensures.len, ap length c.deref_mut.ensures.value));
      told = λ x h.
          let at : ℕ = place c.args.vars.now x in
          let P : List ℕ → Type 0 = λ es.
          last_end (slice_index es at) (c.loop-number.number + 1) (drop (c.loop-number.number + 1) c.args.clauses.now) x ≡ last_end 0 0 c.args.clauses.now x in
          subst P (sym w)
          (ends-next c.args.clauses.now c.loop-number.number x (slice_index c.loop-number.ends.items at) (slice_index c.note.new.ends at) _ c.clause.result.now c.clause.ensures
          (c.note.ensures x h ∙ ap (λ (es : List ℕ). cond (listed (vars_of c.clause.result.now) x) (c.loop-number.number + 1) (slice_index es at)) c.deref_mut.ensures.value)
          (c.loop-number.invariant.told x h));
    }
