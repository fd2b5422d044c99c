use Rattle.std.proofs.Common.{[], List, ℕ}
use Rattle.cfg_build.proofs.Adding.{turned}
use Rattle.cfg_build.proofs.Drawing.{check-drawn}
use Rattle.cfg_build.proofs.steps.add_check.Goals as goal

pub returns-clause-passes : goal.returns-clause-passes
returns-clause-passes c = λ f t.
    let z = λ (s : List ℕ). c.in_ok-passed.ensures.shows s 1 _ (t s) in
    ((z []).grows, turned _ _ _ _ f (z []).grows t (λ s. (z s).shows))

pub returns-clause-adds : goal.returns-clause-adds
returns-clause-adds c = c.in_ok-error.ensures

pub returns-clause-made : goal.returns-clause-made
returns-clause-made c = check-drawn c.args.words.now _ _ _ _ c.args.fails c.args.at _ c.in_ok-error.ensures c.in_ok-passed.ensures.made
