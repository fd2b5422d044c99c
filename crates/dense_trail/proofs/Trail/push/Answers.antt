use Rattle.std.proofs.Common.{rules, arith, ◌≡◌, ◌∙◌, ℕ, ◌+◌, ◌*◌, ◌/◌, ◌<◌, ◌≤◌, ◌++◌, ◌∷◌, [], length, false, true, sym, ap, subst, set, length-set, List}
use Rattle.dense_trail.specs.Dense.{negation, is_true, Valued, Quiet, distinct, falses}
use Rattle.dense_trail.proofs.ValueLaws.{valued_push, quiet_push, distinct_push, counted_push}
use Rattle.dense_trail.proofs.Trail.push.Goals as goal

pub invariant_of-self-2 : goal.invariant_of-self-2
invariant_of-self-2 c =
    let s = c.args.self.now in
    let code = c.args.code in
    let truth = set s.truth.items code true in
    let is : c.push.new.self.items ≡ s.codes.items ++ (code ∷ []) = c.in_ok-push.ensures.items in
    let lt = c.requires.below in
    record {
      wide = length-set s.truth.items code true ∙ s.wide ∙ ap (λ n. 2 * n) (sym (length-set s.levels.items (code / 2) c.args.level));
      long = length-set s.reasons.items (code / 2) c.args.reason ∙ s.long ∙ sym (length-set s.levels.items (code / 2) c.args.level);
      few = omega (arith, s.few, length-set s.levels.items (code / 2) c.args.level);
      valued = subst (Valued truth) (sym is) (valued_push s.truth.items s.codes.items code lt s.valued);
      quiet = quiet_push s.truth.items code lt c.requires.free_not s.quiet;
      distinct = ap distinct is ∙ distinct_push s.codes.items code (sym (s.valued code) ∙ c.requires.free) s.distinct;
      counted = ap (λ (w : List ℕ). length w + falses truth) is ∙ counted_push s.truth.items s.codes.items code lt c.requires.free s.counted ∙ sym (length-set s.truth.items code true);
    }
