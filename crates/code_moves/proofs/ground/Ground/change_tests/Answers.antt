use Rattle.c_terms.proofs.Putting.{grows-twice}
use Rattle.code_moves.proofs.Standing.{stand-later, finds-after}
use Rattle.c_terms.specs.declared.words.Words.{Words}
use Rattle.bv_term.specs.declared.term.TermId.{TermId}
use Rattle.code_moves.specs.Setting.{setting_of, site_of}
use Rattle.std.proofs.Common.{ap, ◌∙◌}
use Rattle.c_terms.proofs.Choosing.{thus}
use Rattle.code_moves.specs.Made as made
use Rattle.code_moves.proofs.ground.Ground.change_tests.Goals as goal

pub returns-clause-shows : goal.returns-clause-shows
returns-clause-shows c = λ s h.
    let z = c.in_ok-index.ensures.shows s h in
    let n = c.in_ok-old.ensures.shows s _ (stand-later _ _ _ z.grows h) z.shows in
    finds-after _ _ _ _ s _ (grows-twice _ _ _ z.grows n.grows) (c.step_tested.ensures.shows s _ n.shows)

pub returns-clause-made : goal.returns-clause-made
returns-clause-made c =
    let g = site_of (setting_of c.args.self.now) in
    let e = c.in_ok-old.ensures.made ∙ ap (λ (p : Words × TermId). made.element g p.0 c.args.object p.1) c.in_ok-index.ensures.made in
    thus _ _ _ _ c.step_tested.ensures.made (ap (λ (p : Words × TermId). made.step_tested g p.0 c.args.by c.args.kind p.1) e)
