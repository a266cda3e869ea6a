-- The date of a moment in Unix seconds, as IMF-fixdate (RFC 9110, section 5.6.7).
use Rattle.std.specs.Prelude.{ℕ, zero, suc, ◌+◌, ◌-◌, ◌/◌, ◌%◌, List, ◌++◌, codes, if◌then◌else◌}
use Rattle.std.specs.Prelude.{nat_lt}
use Rattle.httpdate.specs.Calendar.{days_in_year, days_in_month, weekday}
use Rattle.httpdate.specs.Text.{day_name, month_name, two_digits, four_digits}

-- the moment at which the year 10000 begins
abbrev pub year_10000 : ℕ
year_10000 = 253_402_300_800

-- In a row of spans of days, the span in which a day falls that lies so many days behind the
-- beginning of span n, and how many days of that span are before it. `more` bounds how many spans
-- are looked at.
unfoldable pub span_of : (ℕ → ℕ) → ℕ → ℕ → ℕ → ℕ × ℕ
span_of size zero n days = (n, days)
span_of size (suc more) n days =
    if nat_lt days (size n) then (n, days) else span_of size more (suc n) (days - size n)

-- the year of a day, counted from 1970, and the days of the year before it: 8030 years are those
-- from 1970 to 9999
unfoldable pub year_of : ℕ → ℕ × ℕ
year_of days = span_of (λ n. days_in_year (1970 + n)) 8030 0 days

-- the month of a day of a year, counted from 0, and the days of the month before it
unfoldable pub month_of : ℕ → ℕ → ℕ × ℕ
month_of year days = span_of (λ n. days_in_month year (suc n)) 12 0 days

-- date1 = day SP month SP year, as `06 Nov 1994`
abbrev pub date1 : ℕ → ℕ → ℕ → List ℕ
date1 year month day =
    two_digits day ++ codes " " ++ month_name month ++ codes " " ++ four_digits year

-- the date1 of a day, counted from 1 January 1970
unfoldable pub date1_of : ℕ → List ℕ
date1_of days =
    let year = year_of days in
    let month = month_of (1970 + year.0) year.1 in
    date1 (1970 + year.0) (suc month.0) (suc month.1)

-- time-of-day = hour ":" minute ":" second, of a second of the day
unfoldable pub time_of_day : ℕ → List ℕ
time_of_day second =
    two_digits (second / 3600) ++ codes ":" ++ two_digits (second % 3600 / 60)
    ++ codes ":" ++ two_digits (second % 3600 % 60)

-- IMF-fixdate = day-name "," SP date1 SP time-of-day SP GMT
unfoldable pub imf_fixdate : ℕ → List ℕ
imf_fixdate moment =
    day_name (weekday (moment / 86400)) ++ codes ", " ++ date1_of (moment / 86400) ++ codes " "
    ++ time_of_day (moment % 86400) ++ codes " GMT"
