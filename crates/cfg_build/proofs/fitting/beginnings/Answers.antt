use Rattle.std.proofs.Common.{◌≡◌, suc, ◌+◌, ◌≤◌, length, Some, slice_get, ap, ◌∙◌, arith, rules}
use Rattle.std.proofs.lemmas.List.{length-set}
use Rattle.std.proofs.lemmas.Option.{slice_get_within}
use Rattle.cfg_build.proofs.Entering.{begins-more}
use Rattle.cfg_build.proofs.fitting.beginnings.Goals as goal

pub loop-number-preserved : goal.loop-number-preserved
loop-number-preserved c =
    let links = c.args.links.now in
    let n = c.loop-number.number in
    let x = c.in-Some.link in
    let there : slice_get links n ≡ Some x = search rules in
    let next : suc n ≡ n + 1 = omega arith in
    let long = c.loop-number.invariant.0 in (
      ap length c.put_at.ensures ∙ length-set c.loop-number.numbers.items x.entry n ∙ long,
      begins-more links n (n + 1) x c.args.places c.loop-number.numbers.items c.put_at.new.numbers.items there next long c.put_at.ensures c.loop-number.invariant.1,
    )

pub returns : goal.returns
returns c = λ n x there below.
    let past : length c.args.links.now ≤ c.loop-number.number = search rules in
    c.loop-number.invariant.1 n x (omega (arith, past, slice_get_within c.args.links.now n x there)) there below
