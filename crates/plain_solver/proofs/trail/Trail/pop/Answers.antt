use Rattle.std.proofs.Common.{rules, ◌≡◌, ◌∙◌, sym, ap, arith, ℕ, ◌+◌, ◌*◌, ◌<◌, ◌++◌, ◌∷◌, [], length, length-set, subst, set, false, true, cond, refl}
use Rattle.std.proofs.lemmas.Bool.{both_ways}
use Rattle.prop.specs.Trues.{listed}
use Rattle.resolution_log.specs.Codes.{code_of, place}
use Rattle.resolution_log.proofs.Places.{code_below}
use Rattle.clause_learning.specs.Trail.{Set}
use Rattle.clause_learning.specs.Covers.{Valued, Levelled, IsCovered, distinct}
use Rattle.clause_learning.proofs.TrailLaws.{Set-last}
use Rattle.clause_learning.proofs.StoreLaws.{valued_pop, levelled_pop, covered_pop, distinct_pop}
use Rattle.plain_solver.proofs.trail.Trail.pop.Goals as goal

pub invariant_of-self-in-Some : goal.invariant_of-self-in-Some
invariant_of-self-in-Some c =
    let s = c.args.self.now in
    let is : s.entries.items ≡ c.pop.new.self.items ++ (c.in_ok-e.e ∷ []) = c.in_ok-e.ensures.items in
    let d = distinct_pop c.pop.new.self.items c.in_ok-e.e (ap distinct (sym is) ∙ s.distinct) in
    let fresh = d.0 in
    let h : listed s.vars.items c.in_ok-e.e.lit.var ≡ true = search rules in
    let at : c.code_at.result ≡ code_of s.vars.items c.in_ok-e.e.lit = search rules in
    let below = code_below s.vars.items c.in_ok-e.e.lit h in
    let lt2 : c.code_at.result < length s.truth.items = omega (arith, below, s.wide, at) in
    record {
      rising = s.rising;
      few = s.few;
      wide = length-set s.truth.items c.code_at.result false ∙ s.wide;
      long = s.long;
      valued = valued_pop s.vars.items c.pop.new.self.items c.in_ok-e.e c.code_at.result at s.truth.items lt2 fresh (subst (Valued s.vars.items s.truth.items) is s.valued);
      levelled = levelled_pop s.vars.items s.levels.items c.pop.new.self.items c.in_ok-e.e fresh (subst (Levelled s.vars.items s.levels.items) is s.levelled);
      covered = covered_pop s.vars.items c.pop.new.self.items c.in_ok-e.e (subst (IsCovered s.vars.items) is s.covered);
      distinct = d.1;
    }

pub invariant_of-self-in_default : goal.invariant_of-self-in_default
invariant_of-self-in_default c =
    let s = c.args.self.now in
    let is : s.entries.items ≡ c.pop.new.self.items ++ (c.in_ok-e.e ∷ []) = c.in_ok-e.ensures.items in
    let h : listed s.vars.items c.in_ok-e.e.lit.var ≡ true = s.covered c.in_ok-e.e.lit (subst (λ w. Set w c.in_ok-e.e.lit) (sym is) (Set-last c.pop.new.self.items c.in_ok-e.e)) in
    let g : listed s.vars.items c.in_ok-e.e.lit.var ≡ false = search rules in
    absurd (both_ways (listed s.vars.items c.in_ok-e.e.lit.var) g h)
