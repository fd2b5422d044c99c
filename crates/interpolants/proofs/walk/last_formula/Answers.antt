use Rattle.std.proofs.Common.{◌≡◌, List, length, ap, ◌∙◌, refl, rules, subst, arith, Some, slice_get}
use Rattle.std.proofs.lemmas.Option.{slice_get_read}
use Rattle.resolution_log.specs.declared.Chain.{Chain}
use Rattle.interpolants.proofs.Walking.{last-told, told-next, true-stays}
use Rattle.interpolants.proofs.walk.last_formula.Goals as goal

pub loop-place-init : goal.loop-place-init
loop-place-init g c = record {
  keeps = c.constant.ensures.keeps;
  made = c.in_ok-formula.ensures.made;
  known = λ k f h. g.met.A.Algebra.stays _ _ f c.constant.ensures.keeps (c.requires.known k f h);
  few = omega arith;
  long = refl;
  met = λ met. met;
  truths = λ store agree covered all met.
      true-stays (g.A.Algebra.truth c.args.algebra.now) (g.A.Algebra.truth c.constant.new.self) c.args.cut.now store c.args.memo.now (g.A.Algebra.has c.args.algebra.now) all c.requires.known
      (λ f h. g.met.A.Algebra.truth_stays _ _ f store c.constant.ensures.keeps h);
  told = λ store agree covered all met p q last. absurd (omega (arith, q));
}

pub visit-requires-clause-at : goal.visit-requires-clause-at
visit-requires-clause-at g c =
    subst (λ (chs : List Chain). slice_get chs c.loop-place.place ≡ Some c.index-chains-place.result) c.chains-chains.ensures.value
    (slice_get_read c.chains-chains.result.now _ c.loop-place.place c.index-chains-place.result refl (search rules) c.index-chains-place.is)

pub loop-place-preserved : goal.loop-place-preserved
loop-place-preserved g c =
    let e : length c.chains-chains.result.now ≡ length c.args.cut.now.log.now = ap length c.chains-chains.ensures.value in
    record {
      keeps = g.met.A.Algebra.again _ _ _ c.loop-place.invariant.keeps c.visit.ensures.keeps;
      made = c.in_ok-formula-2.ensures.made;
      known = c.in_ok-formula-2.ensures.known;
      few = omega (arith, e, c.loop-place-test.true);
      long = c.visit.ensures.long ∙ c.loop-place.invariant.long;
      met = λ met. c.in_ok-formula-2.ensures.met (c.loop-place.invariant.met met);
      truths = λ store agree covered all met.
          c.in_ok-formula-2.ensures.truths store agree covered (c.loop-place.invariant.truths store agree covered all met) (c.loop-place.invariant.met met);
      told = λ store agree covered all met.
          told-next c.args.cut.now store c.loop-place.place _
          (c.in_ok-formula-2.ensures.told store agree covered (c.loop-place.invariant.truths store agree covered all met) (c.loop-place.invariant.met met));
    }

pub returns-clause-told : goal.returns-clause-told
returns-clause-told g c =
    let e : length c.chains-chains.result.now ≡ length c.args.cut.now.log.now = ap length c.chains-chains.ensures.value in
    λ store agree covered all met some.
    last-told c.args.cut.now store c.loop-place.place _ (omega (arith, e, c.loop-place-test.false, c.loop-place.invariant.few)) some
    (c.loop-place.invariant.told store agree covered all met)
