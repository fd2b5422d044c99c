use Rattle.std.proofs.Common.{◌≡◌, drop}
use Rattle.bit_gates.specs.Shifts.{stages}
use Rattle.bit_gates.proofs.Puts.{Left}
use Rattle.bit_gates.proofs.shifters.put_stages.Given as goal

abbrev pub invariant-loop-i : goal.invariant-loop-i
invariant-loop-i l = record {
  start : l.net.start ≡ l.initial.net.start;
  left : Left l.initial.net.next l.initial.net.defs.items (stages l.initial.net.next l.how l.z 1 l.xs l.bs)
      l.net.next l.net.defs.items (stages l.net.next l.how l.z l.places l.outs.items (drop l.i l.bs));
}
