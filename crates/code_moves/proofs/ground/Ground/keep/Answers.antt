use Rattle.std.proofs.Common.{refl, subst, ◌++◌, [], Option, ℕ, ap}
use Rattle.c_terms.specs.Shown.{Shows}
use Rattle.code_moves.specs.Deeds.{Sets, Does}
use Rattle.code_moves.specs.Moves.{kept_deeds, kept_value}
use Rattle.code_moves.proofs.Standing.{index-stands, shown-by}
use Rattle.code_moves.proofs.Doing.{pushed, set-fits, does-none, done-by}
use Rattle.code_moves.proofs.Making.{kept-made}
use Rattle.code_moves.specs.Made as made
use Rattle.code_moves.proofs.ground.Ground.keep.Goals as goal

pub returns-in-None-clause-ops : goal.returns-in-None-clause-ops
returns-in-None-clause-ops c = λ ds f h d k.
    subst (λ (o : Option ℕ). Does c.args.words.now c.args.words.now c.args.ops.now.items (ds ++ kept_deeds o f)) c.in-None.ensures (does-none _ _ ds d)

pub returns-in-None-clause-kept : goal.returns-in-None-clause-kept
returns-in-None-clause-kept c = λ f s h k.
    subst (λ (o : Option ℕ). Shows c.args.words.now.terms s c.args.index 64 (kept_value o f s)) c.in-None.ensures (k s)

pub returns-in_ok-push-in-Some-clause-ops : goal.returns-in_ok-push-in-Some-clause-ops
returns-in_ok-push-in-Some-clause-ops c = λ ds f h d k.
    let w = index-stands _ _ c.args.object _ h c.in-Some.ensures in
    done-by _ _ _ _ ds c.in-Some.cell _ _ [] f _ c.in-Some.ensures (pushed _ _ _ ds _ (Sets c.in-Some.cell f) c.in_ok-push-in-Some.ensures.items d (refl, (64, k), set-fits _ _ _ _ f w k)) (c.cell.ensures.shows [] w.0)

pub returns-in_ok-push-in-Some-clause-kept : goal.returns-in_ok-push-in-Some-clause-kept
returns-in_ok-push-in-Some-clause-kept c = λ f s h k.
    let w = index-stands _ _ c.args.object _ h c.in-Some.ensures in
    shown-by _ _ _ s c.in-Some.cell _ f _ c.in-Some.ensures w.1 (c.cell.ensures.shows s w.0)

pub returns-in-None-clause-made : goal.returns-in-None-clause-made
returns-in-None-clause-made c = ap (λ (o : Option ℕ). made.keep_in c.args.words.now c.args.ops.now.items o c.args.index) c.in-None.ensures

pub returns-in_ok-push-in-Some-clause-made : goal.returns-in_ok-push-in-Some-clause-made
returns-in_ok-push-in-Some-clause-made c = kept-made _ _ _ _ _ _ c.in_ok-push-in-Some.ensures.items c.cell.ensures.made (ap (λ (o : Option ℕ). made.keep_in c.args.words.now c.args.ops.now.items o c.args.index) c.in-Some.ensures)
