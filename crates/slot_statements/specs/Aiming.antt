-- Where the parts of a statement begin, and where a `break` and a `continue` in them go.
use Rattle.std.specs.Prelude.{ℕ, ◌+◌}
use Rattle.slot_code.specs.Statements.{loop_size}
use Rattle.slot_statements.specs.declared.frames.Aims.{Aims}

abbrev pub beyond : Aims → ℕ → Aims
beyond aims count = record { broke = aims.broke; continued = aims.continued; place = aims.place + count }

abbrev pub loop_aims : (place before test body third : ℕ) → Aims
loop_aims place before test body third = record {
  broke = place + (before + 1 + loop_size test body third);
  continued = place + (before + 1 + test + 1 + body);
  place = place + (before + 1 + test + 1);
}

abbrev pub switch_aims : Aims → (head body : ℕ) → Aims
switch_aims aims head body = record { broke = aims.place + (head + body); continued = aims.continued; place = aims.place + head }
