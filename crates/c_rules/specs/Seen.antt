-- What is gathered by the program.
use Rattle.std.specs.Prelude.{List, map, Vec}
use Rattle.std.proofs.Common.{Global}
use Rattle.first_broken.specs.declared.lines.Found.{Found}
use Rattle.first_broken.specs.Seen.{found_of}
use Rattle.call_order.specs.declared.calls.CallAt.{CallAt}
use Rattle.call_order.specs.Seen.{calls, all_calls}
use Rattle.c_rules.specs.declared.checks.Gathered.{Gathered}
use Rattle.c_rules.specs.declared.checks.Checked.{Checked}
use Rattle.c_rules.specs.Gathered as g

abbrev pub gathering_of : Gathered → g.Gathering
gathering_of x = record { found = found_of x.found; labels = x.labels.items; calls = all_calls x.calls.items }

abbrev pub checked_of : Checked → g.Checked
checked_of x = record { found = found_of x.found; calls = calls x.calls.items }
