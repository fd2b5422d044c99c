use Rattle.std.proofs.Common.{ap, ◌∙◌, rules, ℤ}
use Rattle.std.specs.Int.{w128}
use Rattle.std.proofs.lemmas.Int.{to_z-of_z}
use mir.Val.{SFits}
use Rattle.lv_base.specs.Integers.{residue}
use Rattle.c_terms.proofs.Putting.{grows-twice, later, recast}
use Rattle.c_terms.proofs.Finding.{found-always}
use Rattle.code_moves.proofs.Standing.{since}
use Rattle.c_terms.proofs.Choosing.{two}
use Rattle.c_terms.specs.declared.words.Words.{Words}
use Rattle.bv_term.specs.declared.term.TermId.{TermId}
use Rattle.code_moves.specs.Made as made
use Rattle.c_terms.specs.Made as term
use Rattle.lv_base.specs.declared.fault.ErrorKind.TheVariants as error
use Rattle.code_moves.proofs.ground.Ground.index_test.Goals as goal

pub returns-clause-shows : goal.returns-clause-shows
returns-clause-shows c = λ s h.
    let z = c.in_ok-index.ensures.shows s h in
    let f : SFits w128 c.whole.result = search rules in
    let n = recast _ _ s _ _ _ _ (c.in_ok-most.ensures.shows s) (ap (λ x. residue 64 x) (to_z-of_z w128 c.whole.result f ∙ c.whole.ensures)) in
    let l = c.in_ok-is_there.ensures.shows s _ _ _ (later _ _ s _ _ _ n.grows z.shows) n.shows in
    let w = c.in_ok-when.ensures.shows s _ _ l.shows in
    found-always _ _ s _ _ _ (since _ _ _ s _ _ _ (grows-twice _ _ _ (grows-twice _ _ _ z.grows n.grows) l.grows) w)

pub returns-clause-made : goal.returns-clause-made
returns-clause-made c =
    let fits : SFits w128 c.whole.result = search rules in
    let e = c.in_ok-index.ensures.made in
    let f = c.in_ok-most.ensures.made ∙ two (λ (p : Words × TermId) (x : ℤ). term.constant p.0 x) e (to_z-of_z w128 c.whole.result fits ∙ c.whole.ensures) in
    let h = c.in_ok-is_there.ensures.made ∙ two (λ (p q : Words × TermId). term.word_less q.0 p.1 q.1) e f in
    ap (made.one error.Index) (c.in_ok-when.ensures.made ∙ ap (λ (p : Words × TermId). term.word_not p.0 p.1) h)
