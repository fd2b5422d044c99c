use Rattle.std.proofs.Common.{rules, arith, ◌≡◌, ◌∙◌, ℕ, ◌+◌, ◌*◌, ◌/◌, ◌<◌, ◌≤◌, ◌++◌, ◌∷◌, [], length, false, true, sym, ap, subst, length-set, List}
use Rattle.dense_trail.specs.Dense.{negation, is_true, Valued, Quiet, distinct, falses}
use Rattle.dense_trail.proofs.ValueLaws.{valued_pop, quiet_pop, distinct_pop, counted_pop, true_below, listed_last}
use Rattle.dense_trail.proofs.Trail.pop.Goals as goal
use Rattle.prop.specs.Trues.{listed}

pub index_mut-requires : goal.index_mut-requires
index_mut-requires c =
    let s = c.args.self.now in
    let is : s.codes.items ≡ c.pop.new.self.items ++ (c.in_ok-code.code ∷ []) = c.in_ok-code.ensures.items in
    let here : is_true s.truth.items c.in_ok-code.code ≡ true = s.valued c.in_ok-code.code ∙ ap (λ w. listed w c.in_ok-code.code) is ∙ listed_last c.pop.new.self.items c.in_ok-code.code in
    let lt = true_below s.truth.items c.in_ok-code.code here in
    omega (arith, lt, s.truth.ok.0)

pub invariant_of-self-2 : goal.invariant_of-self-2
invariant_of-self-2 c =
    let s = c.args.self.now in
    let code = c.in_ok-code.code in
    let front = c.pop.new.self.items in
    let is : s.codes.items ≡ front ++ (code ∷ []) = c.in_ok-code.ensures.items in
    let here : is_true s.truth.items code ≡ true = s.valued code ∙ ap (λ w. listed w code) is ∙ listed_last front code in
    let lt = true_below s.truth.items code here in
    let d = distinct_pop front code (ap distinct (sym is) ∙ s.distinct) in
    record {
      wide = length-set s.truth.items code false ∙ s.wide;
      long = s.long;
      few = s.few;
      valued = valued_pop s.truth.items front code lt d.0 (subst (Valued s.truth.items) is s.valued);
      quiet = quiet_pop s.truth.items code lt s.quiet;
      distinct = d.1;
      counted = counted_pop s.truth.items front code lt here (ap (λ (w : List ℕ). length w + falses s.truth.items) (sym is) ∙ s.counted) ∙ sym (length-set s.truth.items code false);
    }
