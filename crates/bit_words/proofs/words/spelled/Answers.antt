use Rattle.std.proofs.Common.{◌≡◌, ◌+◌, ◌-◌, length, false, arith}
use Rattle.std.specs.Prelude.{Some}
use Rattle.prop.specs.declared.Lit.{Lit}
use Rattle.bit_words.specs.declared.folds.Relation.TheVariants.{Equal, Opposite, Apart}
use Rattle.bit_words.proofs.WordPuts.{spelled_step, spelled_none, spelled_bound, spelled_fits}
use Rattle.bit_words.proofs.words.spelled.Goals as goal

abbrev d : Lit
d = record { var = 0; positive = false }

pub overflow_mul-value : goal.overflow_mul-value
overflow_mul-value c =
    let h = spelled_fits (length c.args.lits.now) c.loop-left.left c.loop-left.value c.requires c.loop-left-test.true c.loop-left.invariant.0 c.loop-left.invariant.2 in
    omega (arith, h)

pub overflow_add-value : goal.overflow_add-value
overflow_add-value c =
    let h = spelled_fits (length c.args.lits.now) c.loop-left.left c.loop-left.value c.requires c.loop-left-test.true c.loop-left.invariant.0 c.loop-left.invariant.2 in
    omega (arith, h)

pub overflow_mul-value-in-Opposite : goal.overflow_mul-value-in-Opposite
overflow_mul-value-in-Opposite c =
    let h = spelled_fits (length c.args.lits.now) c.loop-left.left c.loop-left.value c.requires c.loop-left-test.true c.loop-left.invariant.0 c.loop-left.invariant.2 in
    omega (arith, h)

pub loop-left-preserved-in-Equal : goal.loop-left-preserved-in-Equal
loop-left-preserved-in-Equal c =
    let i : c.loop-left.left - 1 + 1 ≡ c.loop-left.left = omega arith in (
      omega arith,
      spelled_step Equal c.args.one d c.args.lits.now (c.loop-left.left - 1) c.loop-left.left (Some c.loop-left.value) i c.loop-left.invariant.0 c.in-Equal.ensures c.loop-left.invariant.1,
      spelled_bound (length c.args.lits.now) c.loop-left.left c.loop-left.value c.loop-left-test.true c.loop-left.invariant.0 c.loop-left.invariant.2,
    )

pub loop-left-preserved : goal.loop-left-preserved
loop-left-preserved c =
    let i : c.loop-left.left - 1 + 1 ≡ c.loop-left.left = omega arith in
    let b = spelled_bound (length c.args.lits.now) c.loop-left.left c.loop-left.value c.loop-left-test.true c.loop-left.invariant.0 c.loop-left.invariant.2 in (
      omega arith,
      spelled_step Opposite c.args.one d c.args.lits.now (c.loop-left.left - 1) c.loop-left.left (Some c.loop-left.value) i c.loop-left.invariant.0 c.in-Opposite.ensures c.loop-left.invariant.1,
      omega (arith, b),
    )

pub returns-in-Apart : goal.returns-in-Apart
returns-in-Apart c =
    let i : c.loop-left.left - 1 + 1 ≡ c.loop-left.left = omega arith in
    spelled_none c.args.one c.args.lits.now (c.loop-left.left - 1)
    (spelled_step Apart c.args.one d c.args.lits.now (c.loop-left.left - 1) c.loop-left.left (Some c.loop-left.value) i c.loop-left.invariant.0 c.in-Apart.ensures c.loop-left.invariant.1)
