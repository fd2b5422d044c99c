use Rattle.std.proofs.Common.{arith, ◌≡◌, ◌∙◌, ◌*◌, ◌/◌, Some, None, ap, sym, subst, length, get_or, true}
use Rattle.prop.specs.Trues.{listed}
use Rattle.resolution_log.specs.Codes.{AllBelow}
use Rattle.dense_trail.specs.Dense.{negation}
use Rattle.dense_trail.proofs.CodeLaws.{negation_half}
use Rattle.conflict_analysis.specs.Minimizing.{kept, IsMinimal}
use Rattle.conflict_analysis.proofs.KeptLaws.{kept_small}
use Rattle.conflict_analysis.proofs.MinimalLaws.{counted_start, minimal_none}
use Rattle.conflict_analysis.proofs.MinimizeLaws.{reason_known}
use Rattle.conflict_analysis.proofs.minimizing.minimize.Goals as goal

pub implied_count-count-requires-clause-known : goal.implied_count-count-requires-clause-known
implied_count-count-requires-clause-known c = λ z r l ne h. reason_known c.args.vars.now c.args.rows.now c.args.trail.now c.args.uip c.args.left c.args.notes.now.epoch c.args.notes.now.stamps.items c.args.notes.now.learnt.items c.args.pairs.now c.requires.rising c.requires.wide c.requires.fit c.requires.stamps c.requires.begin (negation z) r (c.requires.begin.falsified z (subst (λ w. listed w z ≡ true) c.as_slice-3.ensures.value l) ne) (ap (λ n. get_or c.args.trail.now.reasons.items n None) (negation_half z) ∙ subst (λ w. get_or w (z / 2) None ≡ Some r) c.as_slice.ensures.value h)

pub returns-clause-fits : goal.returns-clause-fits
returns-clause-fits c = subst (AllBelow (2 * length c.args.vars.now)) (sym c.in_ok-clause.ensures) (kept_small (2 * length c.args.vars.now) _ c.as_slice-4.result.now c.as_slice-5.result.now (subst (AllBelow (2 * length c.args.vars.now)) (sym (c.as_slice-5.ensures.value ∙ c.in_ok-gone.ensures.learnt)) c.requires.begin.small))

pub resolve_implied-requires-clause-enough : goal.resolve_implied-requires-clause-enough
resolve_implied-requires-clause-enough c = let e = (counted_start c.args.notes.now.epoch c.args.notes.now.stamps.items c.as_slice-2.result.now c.args.rows.now c.args.trail.now.reasons.items c.as_slice.result.now c.args.uip c.args.notes.now.learnt.items c.as_slice-3.result.now c.implied_count-count.result c.implied_count-count.ensures c.as_slice-2.ensures.value c.as_slice.ensures.value c.as_slice-3.ensures.value c.requires.marked) in omega (arith, e)

pub returns-then-count-eq0-clause-minimal : goal.returns-then-count-eq0-clause-minimal
returns-then-count-eq0-clause-minimal c = subst (IsMinimal c.args.rows.now c.args.trail.now.reasons.items c.args.uip) c.requires.marked (minimal_none c.args.notes.now.epoch c.args.notes.now.stamps.items c.args.rows.now c.args.trail.now.reasons.items c.args.uip c.args.notes.now.learnt.items c.implied_count-count.result (counted_start c.args.notes.now.epoch c.args.notes.now.stamps.items c.as_slice-2.result.now c.args.rows.now c.args.trail.now.reasons.items c.as_slice.result.now c.args.uip c.args.notes.now.learnt.items c.as_slice-3.result.now c.implied_count-count.result c.implied_count-count.ensures c.as_slice-2.ensures.value c.as_slice.ensures.value c.as_slice-3.ensures.value c.requires.marked) c.if-count-eq0.true)

pub returns-clause-minimal : goal.returns-clause-minimal
returns-clause-minimal c = subst (IsMinimal c.args.rows.now c.args.trail.now.reasons.items c.args.uip) (sym (c.in_ok-clause.ensures ∙ ap (λ w. kept c.resolve_implied.new.notes.epoch w c.as_slice-5.result.now) c.as_slice-4.ensures.value ∙ ap (kept c.resolve_implied.new.notes.epoch c.resolve_implied.new.notes.stamps.items) c.as_slice-5.ensures.value)) c.in_ok-gone.ensures.minimal
