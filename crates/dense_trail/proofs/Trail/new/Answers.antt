use Rattle.std.proofs.Common.{rules, arith, ◌≡◌, ◌∙◌, ℕ, ◌+◌, ◌*◌, ◌≤◌, length, false, sym, ap, refl, subst, replicate, Bool, List, []}
use Rattle.std.proofs.lemmas.List.{length-replicate}
use Rattle.prop.specs.Trues.{listed}
use Rattle.std.proofs.lemmas.Bool.{both_ways}
use Rattle.dense_trail.specs.Dense.{negation, is_true, Valued, distinct, falses}
use Rattle.dense_trail.proofs.ValueLaws.{blank, blank_falses}
use Rattle.dense_trail.proofs.Trail.new.Goals as goal

pub invariant_of-result : goal.invariant_of-result
invariant_of-result c =
    let n : ℕ = 2 * c.args.vars in
    let t : c.in_ok-truth.truth.items ≡ replicate n false = search rules in
    let none : c.new.result.items ≡ [] = c.new.ensures.items in
    let lt : length c.in_ok-truth.truth.items ≡ n = ap length t ∙ length-replicate n false in
    let ll : length c.in_ok-levels.levels.items ≡ c.args.vars = search rules in
    let lr : length c.in_ok-reasons.reasons.items ≡ c.args.vars = search rules in
    let dark = λ (k : ℕ). (ap (λ w. is_true w k) t ∙ blank n k) in
    record {
      wide = omega (arith, lt, ll);
      long = omega (arith, lr, ll);
      few = omega (arith, ll, c.requires);
      valued = λ k. dark k ∙ sym (ap (λ w. listed w k) none);
      quiet = λ k h. absurd (both_ways (is_true c.in_ok-truth.truth.items k) (dark k) h);
      distinct = ap distinct none;
      counted = let f : falses c.in_ok-truth.truth.items ≡ n = ap falses t ∙ blank_falses n in omega (arith, ap length none, f, lt);
    }
