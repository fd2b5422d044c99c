-- The walk over years and months finds the date of the calendar.
use Rattle.std.proofs.Common.{◌≡◌, ℕ, zero, suc, ◌+◌, ◌-◌, ◌*◌, ◌/◌, ◌%◌, ◌<◌, ◌≤◌, inl, inr, Bool, true, false, nat_lt, List, [], ◌∷◌, ◌++◌, refl, ap, append_assoc, arith, ℤ, pos, negsuc, ◌+ℤ◌, ◌-ℤ◌, ◌*ℤ◌, ◌≤ℤ◌, unsigned_abs}
use Rattle.std.specs.Prelude.{if◌then◌else◌, None}
use Rattle.std.proofs.lemmas.Bool.{cases_order}
use Rattle.std.proofs.lemmas.Bool.Decides.{nat_tests}
use Rattle.std.proofs.lemmas.Int.{by_lt_z}
use Rattle.jiff_core.specs.declared.civil.time.Time.{Time}
use Rattle.jiff_core.specs.declared.civil.datetime.DateTime.{DateTime}
use Rattle.jiff_core.specs.Calendar.{days_in_year, days_in_month, days_of_years, days_of_months, day_of_year, day_count, days_from_civil, IsCivilDate}
use Rattle.jiff_core.specs.Date.{epoch_day}
use Rattle.jiff_core.specs.Time.{time_nanos}
use Rattle.jiff_core.specs.DateTime.{civil_nanos}
use Rattle.jiff_core.proofs.SignedLemmas.{signed_arith}
use Rattle.jiff_core.proofs.CalendarLemmas.{day_count-epoch, days_from_civil-day_count, days_in_year_bounds, day_count-lt_year, day_of_year_bound, days_of_months-zero}
use Rattle.jiff_core.proofs.DateLemmas.{civil}
use Rattle.jiff_core.proofs.DateTimeLemmas.{civil_nanos-parts, time_nanos_bound}
use Rattle.jiff_fmt.specs.Text.{pad2, year_text, time_text as iso_time_text, datetime_text as iso_text}
use Rattle.moment_text.specs.Moments.{day_of, year_from, month_from, date_text, clock_text, time_text}
use borrow.Author.Differences.{up, down}

-- a year's days come behind those of the years before
year_step : (year : ℕ) → days_of_years (suc year + 10000) ≡ days_of_years (year + 10000) + days_in_year (pos year)
unfolding days_of_years
year_step year =
    let next : suc year + 10000 ≡ suc (year + 10000) = omega arith in
    let back : pos (year + 10000) -ℤ pos 10000 ≡ pos year = omega (arith, signed_arith) in
    rw next (ap (λ (z : ℤ). days_of_years (year + 10000) + days_in_year z) back)

-- each year has at least 365 days
years_grow : (year k : ℕ) → days_of_years (year + 10000) + 365 * k ≤ days_of_years (k + year + 10000)
years_grow year zero = let same : 0 + year + 10000 ≡ year + 10000 = omega arith in rw same (omega arith)
years_grow year (suc k) =
    let next : suc k + year + 10000 ≡ suc (k + year) + 10000 = omega arith in
    rw next (omega (arith, years_grow year k, year_step (k + year), days_in_year_bounds (pos (k + year))))

later_year : (year later : ℕ) → year < later → days_of_years (year + 10000) + days_in_year (pos year) ≤ days_of_years (later + 10000)
later_year year later h =
    let k = later - suc year in
    let there : k + suc year + 10000 ≡ later + 10000 = omega arith in
    omega (arith, rw there at (years_grow (suc year) k), year_step year)

same_day : (part other day more : ℕ) → part ≡ other → day ≡ more → day_of part day ≡ day_of other more
same_day part other day more e f = cc

year_found : (n year day found rest : ℕ) → day + days_of_years (year + 10000) ≡ days_of_years (found + 10000) + rest → rest < days_in_year (pos found) → year ≤ found → found ≤ n + year
    → year_from n year day ≡ day_of found rest
year_found zero year day found rest e small low high =
    let same : year ≡ found = omega arith in
    same_day year found day rest same (omega (arith, ap (λ (k : ℕ). days_of_years (k + 10000)) same))
year_found (suc n) year day found rest e small low high = by_test (λ next f g h. year_found n (suc year) next found rest f small g h) (nat_lt day (days_in_year (pos year))) refl
  where
    by_test : ((next : ℕ) → next + days_of_years (suc year + 10000) ≡ days_of_years (found + 10000) + rest → suc year ≤ found → found ≤ n + suc year → year_from n (suc year) next ≡ day_of found rest)
        → (here : Bool) → nat_lt day (days_in_year (pos year)) ≡ here
        → (if here then day_of year day else year_from n (suc year) (day - days_in_year (pos year))) ≡ day_of found rest
    by_test again true is =
        let below : day < days_in_year (pos year) = grind (arith, is, nat_tests) in
        elim (cases_order year found) [
          | inl same ↦ same_day year found day rest same (omega (arith, ap (λ (k : ℕ). days_of_years (k + 10000)) same))
          | inr (inl lt) ↦ absurd (omega (arith, later_year year found lt))
          | inr (inr gt) ↦ absurd (omega arith)
        ]
    by_test again false is =
        let past : days_in_year (pos year) ≤ day = grind (arith, is, nat_tests) in
        elim (cases_order year found) [
          | inl same ↦ absurd (omega (arith, ap (λ (k : ℕ). days_of_years (k + 10000)) same, ap (λ (k : ℕ). days_in_year (pos k)) same))
          | inr (inl lt) ↦ again (day - days_in_year (pos year)) (omega (arith, year_step year)) (omega arith) (omega arith)
          | inr (inr gt) ↦ absurd (omega arith)
        ]

month_step : (y : ℤ) (m : ℕ) → days_of_months y (suc m) ≡ days_of_months y m + days_in_month y (suc m)
unfolding days_of_months
month_step y m = refl

months_grow : (y : ℤ) (m k : ℕ) → days_of_months y m ≤ days_of_months y (k + m)
months_grow y m zero = let same : 0 + m ≡ m = omega arith in rw same (omega arith)
months_grow y m (suc k) =
    let next : suc k + m ≡ suc (k + m) = omega arith in
    rw next (omega (arith, months_grow y m k, month_step y (k + m)))

later_month : (y : ℤ) (m later : ℕ) → m < later → days_of_months y m + days_in_month y (suc m) ≤ days_of_months y later
later_month y m later h =
    let k = later - suc m in
    let there : k + suc m ≡ later = omega arith in
    omega (arith, rw there at (months_grow y (suc m) k), month_step y m)

-- the months before one are counted by `m`
month_found : (n year m day found rest : ℕ) → day + days_of_months (pos year) m ≡ days_of_months (pos year) found + rest → rest < days_in_month (pos year) (suc found) → m ≤ found → found ≤ n + m
    → month_from n year (suc m) day ≡ day_of (suc found) rest
month_found zero year m day found rest e small low high =
    let same : m ≡ found = omega arith in
    same_day (suc m) (suc found) day rest (ap (λ (k : ℕ). suc k) same) (omega (arith, ap (days_of_months (pos year)) same))
month_found (suc n) year m day found rest e small low high = by_test (λ next f g h. month_found n year (suc m) next found rest f small g h) (nat_lt day (days_in_month (pos year) (suc m))) refl
  where
    by_test : ((next : ℕ) → next + days_of_months (pos year) (suc m) ≡ days_of_months (pos year) found + rest → suc m ≤ found → found ≤ n + suc m → month_from n year (suc (suc m)) next ≡ day_of (suc found) rest)
        → (here : Bool) → nat_lt day (days_in_month (pos year) (suc m)) ≡ here
        → (if here then day_of (suc m) day else month_from n year (suc (suc m)) (day - days_in_month (pos year) (suc m))) ≡ day_of (suc found) rest
    by_test again true is =
        let below : day < days_in_month (pos year) (suc m) = grind (arith, is, nat_tests) in
        elim (cases_order m found) [
          | inl same ↦ same_day (suc m) (suc found) day rest (ap (λ (k : ℕ). suc k) same) (omega (arith, ap (days_of_months (pos year)) same))
          | inr (inl lt) ↦ absurd (omega (arith, later_month (pos year) m found lt))
          | inr (inr gt) ↦ absurd (omega arith)
        ]
    by_test again false is =
        let past : days_in_month (pos year) (suc m) ≤ day = grind (arith, is, nat_tests) in
        elim (cases_order m found) [
          | inl same ↦ absurd (omega (arith, ap (days_of_months (pos year)) same, ap (λ (k : ℕ). days_in_month (pos year) (suc k)) same))
          | inr (inl lt) ↦ again (day - days_in_month (pos year) (suc m)) (omega (arith, month_step (pos year) m)) (omega arith) (omega arith)
          | inr (inr gt) ↦ absurd (omega arith)
        ]

day_parts : (year m d : ℕ) → 1 ≤ d → day_count (pos year) m d + 1 ≡ days_of_years (year + 10000) + day_of_year (pos year) m d
unfolding day_count
day_parts year m d h =
    let same : unsigned_abs (pos year +ℤ pos 10000) ≡ year + 10000 = omega (arith, signed_arith) in
    rw same (omega arith)

epoch_days : days_of_years (1970 + 10000) ≡ 4371953
epoch_days = omega (arith, day_parts 1970 1 1 (omega arith), day_count-epoch, days_of_months-zero (pos 1970))

-- a date not before 1970 with its day number, the year and the month counted from 0
date_found : (year m d day : ℕ) → IsCivilDate (pos year) (suc m) d → 1970 ≤ year → days_from_civil (pos year) (suc m) d ≡ pos day
    → (year_from (day / 365) 1970 day ≡ day_of year (day_of_year (pos year) (suc m) d - 1)) × (month_from 11 year 1 (day_of_year (pos year) (suc m) d - 1) ≡ day_of (suc m) (d - 1))
date_found year m d day civil least e =
    let back : suc m - 1 ≡ m = omega arith in
    let count : day_count (pos year) (suc m) d ≡ day + 4371953 = omega (arith, signed_arith, days_from_civil-day_count (pos year) (suc m) d, ap up e, ap down e) in
    let parts = day_parts year (suc m) d civil.2.0 in
    let bound = day_of_year_bound (pos year) (suc m) d civil in
    let there : year - 1970 + 1970 + 10000 ≡ year + 10000 = omega arith in
    let grow = rw there at (years_grow 1970 (year - 1970)) in
    let place : day_of_year (pos year) (suc m) d ≡ days_of_months (pos year) m + d = rw back in (
      year_found (day / 365) 1970 day year (day_of_year (pos year) (suc m) d - 1) (omega (arith, epoch_days)) (omega arith) least (omega (arith, epoch_days)),
      month_found 11 year 0 (day_of_year (pos year) (suc m) d - 1) m (d - 1) (omega (arith, days_of_months-zero (pos year))) (omega arith) (omega arith) (omega arith),
    )

-- no date before 1970 has a day number from 0 on
late : (y : ℤ) (m d day : ℕ) → IsCivilDate y m d → days_from_civil y m d ≡ pos day → pos 1970 ≤ℤ y
late y m d day civil e =
    by_lt_z y (pos 1970) (λ lt. absurd (omega (arith, signed_arith, days_from_civil-day_count y m d, day_count-lt_year y m d (pos 1970) 1 1 civil (omega arith) lt, day_count-epoch, ap up e, ap down e))) (λ le. le)

date_of : (y : ℤ) (month d day : ℕ) → IsCivilDate y month d → days_from_civil y month d ≡ pos day → pos 1970 ≤ℤ y
    → year_text y ++ 45 ∷ [] ++ pad2 month ++ 45 ∷ [] ++ pad2 d ≡ date_text (year_from (day / 365) 1970 day)
date_of (negsuc n) month d day civil e least = absurd (omega (arith, signed_arith))
date_of (pos year) zero d day civil e least = absurd (omega arith)
date_of (pos year) (suc m) d day civil e least =
    let found = date_found year m d day civil (omega (arith, signed_arith)) e in
    let same : d - 1 + 1 ≡ d = omega arith in
    rw (found.0, found.1, same)

clock_of : (t : Time) (second : ℕ) → time_nanos t ≡ second * 1000000000 → iso_time_text None t ≡ clock_text second
clock_of t second e =
    let hour : t.hour ≡ second / 3600 = omega arith in
    let minute : t.minute ≡ second / 60 % 60 = omega arith in
    let part : t.second ≡ second % 60 = omega arith in
    let whole : t.subsec_nanosecond ≡ 0 = omega arith in
    rw (hour, minute, part, whole)

assembled : (date day time clock : List ℕ) → date ≡ day → time ≡ clock → (date ++ 84 ∷ time) ++ 90 ∷ [] ≡ day ++ 84 ∷ (clock ++ 90 ∷ [])
assembled date day time clock e f = rw (e, f) (append_assoc day (84 ∷ clock) (90 ∷ []))

-- what the library writes of a datetime that lies so many seconds after the start of 1970
pub time_found : (dt : DateTime) (moment : ℕ) → civil_nanos dt ≡ pos moment *ℤ pos 1000000000 → iso_text false 84 None dt ++ 90 ∷ [] ≡ time_text moment
unfolding time_text
time_found dt moment e =
    let day : epoch_day dt.date ≡ pos (moment / 86400) = omega (arith, signed_arith, civil_nanos-parts dt, time_nanos_bound dt.time, ap up e, ap down e) in
    let second : time_nanos dt.time ≡ moment % 86400 * 1000000000 = omega (arith, signed_arith, civil_nanos-parts dt, time_nanos_bound dt.time, ap up e, ap down e) in
    let date = date_of dt.date.year dt.date.month dt.date.day (moment / 86400) (civil dt.date) day (late dt.date.year dt.date.month dt.date.day (moment / 86400) (civil dt.date) day) in
    let clock = clock_of dt.time (moment % 86400) second in
    assembled _ (date_text (year_from (moment / 86400 / 365) 1970 (moment / 86400))) _ (clock_text (moment % 86400)) date clock
