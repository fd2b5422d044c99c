use Rattle.c_terms.proofs.Putting.{grows-twice, later, after}
use Rattle.code_moves.proofs.Standing.{stand-later}
use Rattle.c_terms.proofs.Choosing.{thus, two}
use Rattle.c_terms.specs.declared.words.Words.{Words}
use Rattle.bv_term.specs.declared.term.TermId.{TermId}
use Rattle.code_moves.specs.Setting.{setting_of, site_of}
use Rattle.std.proofs.Common.{ap, ◌∙◌}
use Rattle.code_moves.specs.Made as made
use Rattle.c_terms.specs.Made as term
use Rattle.code_moves.proofs.ground.Ground.updated.Goals as goal

pub returns-clause-shows : goal.returns-clause-shows
returns-clause-shows c = λ s h.
    let z = c.in_ok-old.ensures.shows s h in
    let n = c.in_ok-right.ensures.shows s (stand-later _ _ _ z.grows h) in
    let l = c.in_ok-left.ensures.shows s _ (later _ _ s _ _ _ n.grows z.shows) in
    let v = c.in_ok-value.ensures.shows s _ _ l.shows (later _ _ s _ _ _ l.grows n.shows) in
    after _ _ _ _ s 64 _ (grows-twice _ _ _ (grows-twice _ _ _ (grows-twice _ _ _ z.grows n.grows) l.grows) v.grows) (c.converted-2.ensures.shows s _ v.shows)

pub returns-clause-made : goal.returns-clause-made
returns-clause-made c =
    let g = site_of (setting_of c.args.self.now) in
    let e = c.in_ok-old.ensures.made in
    let f = c.in_ok-right.ensures.made ∙ ap (λ (p : Words × TermId). made.slot_behind g p.0 c.args.slot 2) e in
    let h = c.in_ok-left.ensures.made ∙ two (λ (p q : Words × TermId). term.converted q.0 c.args.kind g.model p.1) e f in
    let k = c.in_ok-value.ensures.made ∙ two (λ (q r : Words × TermId). made.applied g r.0 c.args.op c.args.kind r.1 q.1) f h in
    thus _ _ _ _ c.converted-2.ensures.made (ap (λ (p : Words × TermId). term.converted p.0 c.args.to g.model p.1) k)
