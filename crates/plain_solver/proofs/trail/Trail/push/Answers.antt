use Rattle.std.proofs.Common.{rules, ◌≡◌, ◌∙◌, sym, ap, arith, ℕ, ◌+◌, ◌*◌, ◌<◌, ◌++◌, ◌∷◌, [], length, length-set, subst, set, true, cond}
use Rattle.prop.specs.Trues.{listed}
use Rattle.resolution_log.specs.Codes.{code_of, place}
use Rattle.resolution_log.proofs.Places.{code_below}
use Rattle.clause_learning.specs.Covers.{Valued, Levelled, IsCovered, distinct}
use Rattle.clause_learning.proofs.StoreLaws.{valued_push, levelled_push, covered_push, distinct_push}
use Rattle.plain_solver.proofs.trail.Trail.push.Goals as goal

pub invariant_of-self-2 : goal.invariant_of-self-2
invariant_of-self-2 c =
    let s = c.args.self.now in
    let more : c.push.new.self.items ≡ s.entries.items ++ (c.args.e ∷ []) = search rules in
    let n : c.in-Some.number ≡ place s.vars.items c.args.e.lit.var = search rules in
    let lt : c.in-Some.number < length s.vars.items = search rules in
    let at : c.code_at.result ≡ code_of s.vars.items c.args.e.lit = search rules in
    let below = code_below s.vars.items c.args.e.lit c.requires.listed in
    let lt2 : c.code_at.result < length s.truth.items = omega (arith, below, s.wide, at) in
    let lt3 : c.in-Some.number < length s.levels.items = omega (arith, lt, s.long) in
    record {
      rising = s.rising;
      few = s.few;
      wide = length-set s.truth.items c.code_at.result true ∙ s.wide;
      long = length-set s.levels.items c.in-Some.number c.args.e.level ∙ s.long;
      valued = subst (Valued s.vars.items (set s.truth.items c.code_at.result true)) (sym more) (valued_push s.vars.items s.entries.items c.args.e c.code_at.result at s.truth.items lt2 s.valued);
      levelled = subst (Levelled s.vars.items (set s.levels.items c.in-Some.number c.args.e.level)) (sym more) (levelled_push s.vars.items s.levels.items s.entries.items c.args.e c.in-Some.number n lt3 c.requires.free c.requires.free_not s.levelled);
      covered = subst (IsCovered s.vars.items) (sym more) (covered_push s.vars.items s.entries.items c.args.e c.requires.listed s.covered);
      distinct = ap distinct more ∙ distinct_push s.entries.items c.args.e c.requires.free s.distinct;
    }
