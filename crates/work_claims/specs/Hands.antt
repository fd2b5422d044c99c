-- What a claimer knows, and what a step adds to it.
use Rattle.std.specs.Prelude.{◌≡◌, ℕ, ◌+◌, ◌-◌, min, [], ◌∷◌, ◌++◌, nat_lt, if◌then◌else◌}
use Rattle.atomic_table.specs.Table.{Me}
use Rattle.work_claims.specs.declared.knowledge.Hand.{Hand}
use Rattle.work_claims.specs.Counts.{Among}

-- given nothing so far
abbrev pub fresh : ℕ → ℕ → Hand
fresh total parts = record { total = total; parts = parts; given = []; reported = []; least = 4294967295; finishes = 0 }

-- handed over: it stands for no claimer
abbrev pub spent : Hand
spent = fresh 0 0

abbrev pub with_given : Hand → ℕ → Hand
with_given v k = record { total = v.total; parts = v.parts; given = v.given ++ k ∷ []; reported = v.reported; least = v.least; finishes = v.finishes }

abbrev pub with_finish : Hand → Hand
with_finish v = record { total = v.total; parts = v.parts; given = v.given; reported = v.reported; least = v.least; finishes = v.finishes + 1 }

abbrev pub with_report : Hand → ℕ → Hand
with_report v k = record { total = v.total; parts = v.parts; given = v.given; reported = v.reported ++ k ∷ []; least = v.least; finishes = v.finishes }

abbrev pub with_answer : Hand → ℕ → Hand
with_answer v n = record { total = v.total; parts = v.parts; given = v.given; reported = v.reported; least = n; finishes = v.finishes }

-- the number found is given where it is below the total
abbrev pub taken : Hand → ℕ → Hand
taken v n = if nat_lt n v.total then with_given v n else with_finish v

abbrev pub one_less : Hand → Hand
one_less v = record { total = v.total; parts = v.parts - 1; given = v.given; reported = v.reported; least = v.least; finishes = v.finishes }

-- the first stands for the second too
abbrev pub both : Hand → Hand → Hand
both v w = record {
  total = v.total;
  parts = v.parts + w.parts;
  given = v.given ++ w.given;
  reported = v.reported ++ w.reported;
  least = min v.least w.least;
  finishes = v.finishes + w.finishes;
}

-- it stands for one claimer, with no slot, and each number that it reported was given to it
pub record IsClaimer (me : Me (Unit {0}) Hand) : Type 0 where
  pub one : me.0.parts ≡ 1
  pub no_slot : me.1 ≡ []
  pub own : Among me.0.reported me.0.given
