use Rattle.std.proofs.Common.{◌≡◌, ℕ, List, inl, refl, ◌∙◌, rules, get_or, subst, Some, slice_get}
use Rattle.std.proofs.lemmas.Option.{slice_get-get_or}
use Rattle.interpolants.proofs.Walking.{chain-first, chain-step, truths-step}
use Rattle.interpolants.proofs.walk.chain_formula.Goals as goal

pub loop-pair-init : goal.loop-pair-init
loop-pair-init g c = record {
  keeps = c.operand.ensures.keeps;
  made = c.in_ok-so_far.ensures.made;
  known = c.in_ok-so_far.ensures.known;
  long = c.operand.ensures.long;
  grows = c.operand.ensures.grows;
  told = λ store agree covered all kept.
      chain-first c.args.cut.now store c.args.chain.now _ (c.in_ok-so_far.ensures.told store agree covered all (kept c.args.chain.now.first (inl refl)));
  truths = λ store agree covered all kept. c.in_ok-so_far.ensures.truths store agree covered all (kept c.args.chain.now.first (inl refl));
}

pub loop-pair-preserved : goal.loop-pair-preserved
loop-pair-preserved g c =
    let items : List (ℕ × ℕ) = c.as_slice-pair-items.result.now in
    let get : slice_get c.args.chain.now.pairs c.loop-pair.pair-index ≡ Some (get_or items c.loop-pair.pair-index (0, 0)) =
    subst (λ (ps : List (ℕ × ℕ)). slice_get ps c.loop-pair.pair-index ≡ Some (get_or items c.loop-pair.pair-index (0, 0))) c.as_slice-pair-items.ensures
    (slice_get-get_or items c.loop-pair.pair-index (0, 0) (search rules)) in
    record {
      keeps = g.met.A.Algebra.again _ _ _ c.loop-pair.invariant.keeps c.step.ensures.keeps;
      made = c.in_ok-so_far-2.ensures.made;
      known = c.in_ok-so_far-2.ensures.known;
      long = c.step.ensures.long ∙ c.loop-pair.invariant.long;
      grows = λ k h. c.step.ensures.grows k (c.loop-pair.invariant.grows k h);
      told = λ store agree covered all kept.
          chain-step c.args.cut.now store c.args.chain.now c.loop-pair.pair-index _ _ _ _ _ c.args.memo.now c.loop-pair.memo
          (c.in_ok-so_far-2.ensures.told store agree covered (c.loop-pair.invariant.truths store agree covered all kept)) kept c.loop-pair.invariant.grows
          get (c.loop-pair.invariant.told store agree covered all kept);
      truths = λ store agree covered all kept.
          truths-step c.args.cut.now c.args.chain.now c.loop-pair.pair-index (get_or items c.loop-pair.pair-index (0, 0)).0 (get_or items c.loop-pair.pair-index (0, 0)).1 c.args.memo.now c.loop-pair.memo _
          (c.in_ok-so_far-2.ensures.truths store agree covered (c.loop-pair.invariant.truths store agree covered all kept)) kept c.loop-pair.invariant.grows
          get;
    }
