use Rattle.std.proofs.Common.{subst, sym, ◌<◌, ◌^◌, length}
use Rattle.prop.specs.Trues.{listed}
use Rattle.bit_gates.proofs.AddLaws.{number-lt}
use Rattle.refine.proofs.values.value_of.Goals as goal

pub read_as-requires-clause-number : goal.read_as-requires-clause-number
read_as-requires-clause-number c =
    subst (λ n. n < 2 ^ length c.args.bits.now) (sym c.number_of.ensures) (number-lt (listed c.args.found.now) c.args.bits.now)
