use Rattle.std.proofs.Common.{◌≡◌, ◌∙◌, List, ap, sym, slice_index_or}
use Rattle.std.proofs.lemmas.List.Elements.{All-more}
use Rattle.bv_term.specs.declared.term.TermId.{TermId}
use Rattle.c_graph.proofs.Checking.{All-seen}
use Rattle.refine.specs.declared.witnesses.Truth.{Truth}
use Rattle.refine.specs.declared.witnesses.Truth.TheVariants.{Yes}
use Rattle.refine.specs.Witnesses.{Known, truth_at}
use Rattle.refine.proofs.witnesses.Witness.meets.Goals as goal

pub loop-conjunct-preserved : goal.loop-conjunct-preserved
loop-conjunct-preserved c =
    let d : TermId = record { 0 = 0 } in
    let i = c.loop-conjunct.conjunct-index in
    let t : TermId = slice_index_or c.args.label.now i d in
    let e : c.deref.result.now ≡ c.args.self.now.truths = c.deref.ensures.value ∙ ap (λ (k : Known). k.truths) c.self.view_is in
    All-more (λ (t : TermId). truth_at c.args.self.now.truths t.0 ≡ Yes) c.args.label.now i d c.loop-conjunct-test.true c.loop-conjunct.invariant
    (sym (ap (λ (ts : List Truth). truth_at ts t.0) e) ∙ (sym c.truth_at.ensures ∙ c.is_yes.ensures c.if-not-is_yes.false))

pub returns : goal.returns
returns c =
    λ is. All-seen (λ (t : TermId). truth_at c.args.self.now.truths t.0 ≡ Yes) c.args.label.now c.loop-conjunct.conjunct-index c.loop-conjunct-test.false c.loop-conjunct.invariant
