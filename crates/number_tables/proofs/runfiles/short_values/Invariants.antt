use Rattle.stored_text.specs.RunText.{AreShort}
use Rattle.number_tables.proofs.runfiles.short_values.Given as goal

abbrev pub invariant-loop-number : goal.invariant-loop-number
invariant-loop-number l = AreShort l.values.items
