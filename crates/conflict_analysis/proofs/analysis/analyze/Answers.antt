use Rattle.std.proofs.Common.{◌≡◌, ℕ, ◌*◌, Option, MatchOption, subst, length, true}
use Rattle.prop.specs.Trues.{listed}
use Rattle.resolution_log.proofs.MarkLaws.{all_below_listed}
use Rattle.conflict_analysis.specs.Walk.{IsTaught}
use Rattle.conflict_analysis.proofs.MinimizeLaws.{taught_uip}
use Rattle.conflict_analysis.proofs.analysis.analyze.Goals as goal

pub returns-clause-uip : goal.returns-clause-uip
returns-clause-uip c =
    let l : listed c.first_point.new.notes.learnt.items c.in-Some.literal ≡ true = subst (λ (o : Option ℕ). MatchOption o (Unit {0}) (λ k. listed c.first_point.new.notes.learnt.items k ≡ true)) c.in-Some.is c.in_ok-walked.ensures.uip in
    taught_uip c.args.vars.now c.args.rows.now c.args.trail.now c.args.level c.args.conflict c.minimize.new.notes.learnt.items c.minimize.new.pairs c.in-Some.literal c.in_ok-walked.walked.left c.requires.rising c.in_ok-gone.ensures.fits (all_below_listed (2 * length c.args.vars.now) c.first_point.new.notes.learnt.items c.in_ok-walked.ensures.fits c.in-Some.literal l) (c.in_ok-gone.ensures.taught c.args.level c.args.conflict (subst (λ o. IsTaught c.args.vars.now c.args.rows.now c.args.trail.now c.args.level c.args.conflict c.first_point.new.notes.learnt.items c.in_ok-walked.walked.pairs o c.in_ok-walked.walked.left) c.in-Some.is c.in_ok-walked.ensures.taught))
