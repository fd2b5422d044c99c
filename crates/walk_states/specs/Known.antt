-- The plan that tables stand for.
use Rattle.std.specs.Prelude.{ℕ, ◌==◌, ◌||◌, Bool, false, List, [], ◌∷◌, Option, None, Some}
use Rattle.plan_tables.specs.Tables.{flag_at, is_live_in, unit_at, units_of}
use Rattle.block_rule.specs.Plans.{Plan}
use Rattle.walk_states.specs.declared.known.Known.{Known}

abbrev pub has_unit : List ℕ → ℕ → Bool
has_unit [] unit = false
has_unit (u ∷ us) unit = u == unit || has_unit us unit

abbrev pub on_unit : (ℕ → Bool) → Option ℕ → Bool
on_unit marks None = false
on_unit marks (Some unit) = marks unit

-- what the tables say: a cell is read where its unit is
abbrev pub plan_of : Known → Plan
plan_of known = record {
  reached = flag_at known.reached;
  alive = flag_at known.alive;
  cuts = flag_at known.cuts;
  live = λ v c. on_unit (is_live_in known.live v) (unit_at known.units c);
  reads = λ t c. on_unit (has_unit (units_of known.reads t)) (unit_at known.units c);
  most = 64;
}
