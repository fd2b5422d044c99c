use Rattle.c_terms.proofs.Putting.{grows-twice, later}
use Rattle.code_moves.proofs.Standing.{stand-later, finds-after}
use Rattle.c_terms.proofs.Choosing.{thus, two}
use Rattle.c_terms.specs.declared.words.Words.{Words}
use Rattle.bv_term.specs.declared.term.TermId.{TermId}
use Rattle.code_moves.specs.Setting.{setting_of, site_of}
use Rattle.std.proofs.Common.{ap, ◌∙◌}
use Rattle.code_moves.specs.Made as made
use Rattle.code_moves.proofs.ground.Ground.binary_tests.Goals as goal

pub returns-clause-shows : goal.returns-clause-shows
returns-clause-shows c = λ s h.
    let z = c.in_ok-left.ensures.shows s h in
    let n = c.in_ok-right.ensures.shows s (stand-later _ _ _ z.grows h) in
    finds-after _ _ _ _ s _ (grows-twice _ _ _ z.grows n.grows) (c.tested.ensures.shows s _ _ (later _ _ s _ _ _ n.grows z.shows) n.shows)

pub returns-clause-made : goal.returns-clause-made
returns-clause-made c =
    let g = site_of (setting_of c.args.self.now) in
    let e = c.in_ok-left.ensures.made in
    let f = c.in_ok-right.ensures.made ∙ ap (λ (p : Words × TermId). made.slot_behind g p.0 c.args.slot 1) e in
    thus _ _ _ _ c.tested.ensures.made (two (λ (p q : Words × TermId). made.tested g q.0 c.args.op c.args.kind p.1 q.1) e f)
