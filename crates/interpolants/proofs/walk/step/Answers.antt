use Rattle.std.proofs.Common.{ℕ, Bool, List, ap, ◌∙◌}
use Rattle.interpolants.specs.Rules.{joined}
use Rattle.interpolants.specs.Walks.{noted_behind}
use Rattle.interpolants.proofs.Walking.{ok-at, on-ok, true-stays}
use Rattle.interpolants.proofs.walk.step.Goals as goal

pub returns-clause-told : goal.returns-clause-told
returns-clause-told g c =
    λ store agree covered all kept.
    let b : Bool = noted_behind c.args.cut.now c.args.pair.0 in
    let T : List ℕ → Bool = λ s. g.A.Algebra.truth c.operand.new.algebra c.args.so_far s in
    let U : List ℕ → Bool = λ s. g.A.Algebra.truth c.operand.new.algebra c.in_ok-other.other s in
    ok-at _ (g.A.Algebra.truth c.resolved.new.algebra) store (λ s. joined b (T s) (U s)) _
    (ap (λ (x : Bool). joined b x (U store)) (g.met.A.Algebra.truth_stays _ _ c.args.so_far store c.operand.ensures.keeps c.requires.so_far)
    ∙ ap (λ (y : Bool). joined b (g.A.Algebra.truth c.args.algebra.now c.args.so_far store) y) (c.in_ok-other.ensures.told store agree covered all kept))
    c.resolved.ensures.told

pub returns-clause-truths : goal.returns-clause-truths
returns-clause-truths g c =
    λ store agree covered all kept.
    on-ok _ _
    (true-stays (g.A.Algebra.truth c.operand.new.algebra) (g.A.Algebra.truth c.resolved.new.algebra) c.args.cut.now store c.operand.new.memo (g.A.Algebra.has c.operand.new.algebra)
    (c.in_ok-other.ensures.truths store agree covered all kept) c.in_ok-other.ensures.known (λ f h. g.met.A.Algebra.truth_stays _ _ f store c.resolved.ensures.keeps h))
