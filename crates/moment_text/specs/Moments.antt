-- Moments as texts, by the proleptic Gregorian calendar in UTC.
use Rattle.std.specs.Prelude.{ℕ, zero, suc, ◌+◌, ◌-◌, ◌/◌, ◌%◌, List, ◌++◌, nat_lt, if◌then◌else◌, codes, ℤ, pos, ◌≤ℤ◌}
use Rattle.jiff_core.specs.Calendar.{days_in_year, days_in_month}
use Rattle.jiff_fmt.specs.Text.{pad2, pad4}

-- seconds since the first of January 1970, up to the last of the year 9998
abbrev pub IsMoment : ℤ → Type 0
IsMoment moment = (pos 0 ≤ℤ moment) × (moment ≤ℤ pos 253370764799)

-- a year with a day of it, or a month with a day of it; the day is counted from 0
pub record DayOf : Type 0 where
  pub part : ℕ
  pub day : ℕ

abbrev pub day_of : ℕ → ℕ → DayOf
day_of part day = record { part = part; day = day }

-- the year of a day that is counted from the first of January of a year, looked for in so many years
abbrev pub year_from : ℕ → ℕ → ℕ → DayOf
year_from zero year day = day_of year day
year_from (suc n) year day =
    if nat_lt day (days_in_year (pos year)) then day_of year day else year_from n (suc year) (day - days_in_year (pos year))

-- the month of a day that is counted from the first of a month of a year, looked for in so many months
abbrev pub month_from : ℕ → ℕ → ℕ → ℕ → DayOf
month_from zero year month day = day_of month day
month_from (suc n) year month day =
    if nat_lt day (days_in_month (pos year) month) then day_of month day else month_from n year (suc month) (day - days_in_month (pos year) month)

-- a date as `YYYY-MM-DD`
abbrev pub ymd_text : ℕ → DayOf → List ℕ
ymd_text year month = pad4 year ++ (codes "-" ++ (pad2 month.part ++ (codes "-" ++ pad2 (month.day + 1))))

abbrev pub date_text : DayOf → List ℕ
date_text year = ymd_text year.part (month_from 11 year.part 1 year.day)

-- a second of a day as `hh:mm:ss`
abbrev pub clock_text : ℕ → List ℕ
clock_text second = pad2 (second / 3600) ++ (codes ":" ++ (pad2 (second / 60 % 60) ++ (codes ":" ++ pad2 (second % 60))))

-- a moment as `YYYY-MM-DDThh:mm:ssZ`; no year has fewer than 365 days
unfoldable pub time_text : ℕ → List ℕ
time_text moment =
    date_text (year_from (moment / 86400 / 365) 1970 (moment / 86400)) ++ (codes "T" ++ (clock_text (moment % 86400) ++ codes "Z"))
