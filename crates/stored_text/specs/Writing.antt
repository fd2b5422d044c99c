-- How a run file is written.
use Rattle.std.specs.Prelude.{List, ℕ, length, nat_lt, if◌then◌else◌, ℤ, Result, Ok, Err}
use Rattle.stored_text.specs.declared.StoredFail.{StoredFail}
use Rattle.stored_text.specs.declared.StoredFail.TheVariants.{Over}
use Rattle.stored_text.specs.RunText.{run_text}

-- the run text of at most a million values
abbrev pub write_run_of : List ℤ → Result (List ℕ) StoredFail
write_run_of values = if nat_lt 1000000 (length values) then Err (Over 9 (length values)) else Ok (run_text values)
