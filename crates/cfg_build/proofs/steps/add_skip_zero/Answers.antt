use Rattle.std.proofs.Common.{[], List, ℕ, ap, ◌∙◌}
use Rattle.c_terms.proofs.Putting.{grows-twice}
use Rattle.cfg_build.proofs.Checking.{built-after}
use Rattle.bv_term.specs.declared.term.TermId.{TermId}
use Rattle.c_terms.specs.declared.words.Words.{Words}
use Rattle.c_terms.specs.Made as term
use Rattle.code_moves.proofs.Making.{so}
use Rattle.cfg_build.specs.Made as made
use Rattle.cfg_build.specs.Made.{drawn_of}
use Rattle.cfg_build.proofs.steps.add_skip_zero.Goals as goal

pub returns-clause-built : goal.returns-clause-built
returns-clause-built c = λ h.
    let x = λ (s : List ℕ). c.in_ok-value.ensures.shows s h in
    let y = λ (s : List ℕ). c.in_ok-is_zero.ensures.shows s _ (x s).shows in
    let z = λ (s : List ℕ). c.in_ok-is_true.ensures.shows s 1 _ (y s).shows in
    built-after _ _ _ _ _ _ _ (grows-twice _ _ _ (grows-twice _ _ _ (x []).grows (y []).grows) (z []).grows) (c.add_branch.ensures.built _ (λ s. (z s).shows))

pub returns-clause-made : goal.returns-clause-made
returns-clause-made c =
    let is_zero = c.in_ok-is_zero.ensures.made ∙ ap (λ (p : Words × TermId). term.is_zero p.0 p.1) c.in_ok-value.ensures.made in
    let is_true = c.in_ok-is_true.ensures.made ∙ ap (λ (p : Words × TermId). term.word_not p.0 p.1) is_zero in
    so _ _ _ _ c.add_branch.ensures.made (ap (λ (p : Words × TermId). made.add_branch (drawn_of p.0 c.args.draft.now) p.1 c.args.next c.args.to) is_true)
