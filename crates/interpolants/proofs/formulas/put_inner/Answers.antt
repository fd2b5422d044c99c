use Rattle.std.proofs.Common.{◌≡◌, length, ap, ◌∙◌, arith, rules}
use Rattle.formula_diagrams.proofs.Putting.{extends-none, extends-twice}
use Rattle.interpolants.proofs.Listing.{adds-none, adds-push, adds-same}
use Rattle.interpolants.proofs.KeptCells.{named-push}
use Rattle.interpolants.proofs.Meant.{added-long, made-all, made-more, made-none}
use Rattle.interpolants.proofs.formulas.put_inner.Goals as goal

pub loop-number-init : goal.loop-number-init
loop-number-init c = record {
  few = omega arith;
  extends = extends-none _;
  adds = adds-none _ _;
  room = first_of (search rules, omega arith, grind arith);
  named = c.requires.named;
  made = made-none c.args.terms.now c.args.query.now c.args.log.now 1 c.args.formulas.now.items (omega arith);
}

pub loop-number-preserved : goal.loop-number-preserved
loop-number-preserved c =
    let e : length c.as_slice-number-end.result.now ≡ length c.args.query.now.starts = ap length c.as_slice-number-end.ensures in
    let long = added-long _ _ _ _ c.requires.first c.loop-number.invariant.adds in
    record {
      few = omega (arith, e, c.loop-number-test.true);
      extends = extends-twice _ _ _ c.loop-number.invariant.extends c.put_at.ensures.extends;
      adds = adds-push _ _ _ _ _ _ _ _ c.put_at.ensures.extends c.loop-number.invariant.adds c.in_ok-formula.ensures.bit c.in_ok-push.ensures.items (omega arith);
      room = c.put_at.ensures.long ∙ c.loop-number.invariant.room;
      named = named-push _ _ c.args.query.now _ _ c.loop-number.number _ c.put_at.ensures.extends c.loop-number.invariant.named (omega (arith, long))
          c.in_ok-formula.ensures.names c.in_ok-push.ensures.items;
      made = made-more _ _ c.args.query.now c.args.log.now c.loop-number.number c.args.formulas.now.items _ _ _ c.put_at.ensures.extends c.requires.first
          c.loop-number.invariant.adds (omega arith) c.loop-number.invariant.made c.in_ok-formula.ensures.meaning c.in_ok-push.ensures.items;
    }

pub returns-clause-adds : goal.returns-clause-adds
returns-clause-adds c =
    let e : length c.as_slice-number-end.result.now ≡ length c.args.query.now.starts = ap length c.as_slice-number-end.ensures in
    adds-same _ _ _ _ _ (omega (arith, e, c.loop-number.invariant.few, c.loop-number-test.false)) c.loop-number.invariant.adds

pub returns-clause-meaning : goal.returns-clause-meaning
returns-clause-meaning c =
    let e : length c.as_slice-number-end.result.now ≡ length c.args.query.now.starts = ap length c.as_slice-number-end.ensures in
    made-all c.loop-number.terms c.args.query.now c.args.log.now c.loop-number.number _ (omega (arith, e, c.loop-number-test.false)) c.loop-number.invariant.made
