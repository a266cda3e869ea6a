-- The parts of a moment are a valid date, with that many seconds, so httpdate writes them.
use Rattle.std.proofs.Common.{◌≡◌, ◌≤◌, ◌<◌, ◌+◌, ◌-◌, ◌*◌, ◌/◌, ◌%◌, ℕ, zero, suc, true, false}
use Rattle.std.proofs.Common.{Bool, refl, ap, sym, ◌∙◌, cond, arith, append_assoc}
use Rattle.std.specs.Prelude.{nat_lt}
use Rattle.std.proofs.lemmas.Bool.{ltb-true, ltb-false}
use Rattle.httpdate.specs.declared.date.HttpDate.{HttpDate}
use Rattle.httpdate.specs.Calendar.{days_in_year, days_in_month, days_of_years, days_of_months}
use Rattle.httpdate.specs.Calendar.{weekday, days_from_civil}
use Rattle.httpdate.specs.Date.{unix_secs, date_text}
use Rattle.httpdate.specs.Text.{imf_fixdate as text_of}
use Rattle.httpdate.specs.declared.parts.Parts.{Parts}
use Rattle.httpdate.proofs.CalendarLemmas.{days_of_years_closed, days_of_months_all}
use Rattle.httpdate.proofs.Theorems.{unix_secs_injective}
use Rattle.imf_fixdate.specs.Date.{span_of, year_of, month_of, date1_of, time_of_day, imf_fixdate}

pub record Found (size total : ℕ → ℕ) (r : ℕ × ℕ) (n more days : ℕ) : Type 0 where
  pub same : total r.0 + r.1 ≡ total n + days
  pub within : r.1 < size r.0
  pub low : r.0 < n + more

module _ (size total : ℕ → ℕ) (more_total : (n : ℕ) → total (suc n) ≡ total n + size n) where
  span_step : (t : Bool) (n more days : ℕ) → (t ≡ true → days < size n) →
      (t ≡ false → Found size total (span_of size more (suc n) (days - size n)) n (suc more) days) →
      Found size total (cond t (n, days) (span_of size more (suc n) (days - size n))) n
      (suc more) days
  span_step true n more days h ih = let l = h refl in record
      { same = refl; within = l; low = omega arith }
  span_step false n more days h ih = ih refl

  later : (r : ℕ × ℕ) (n more days : ℕ) → size n ≤ days →
      Found size total r (suc n) more (days - size n) → Found size total r n (suc more) days
  later r n more days h f = let s = f.same in let t = more_total n in let l = f.low in
      record { same = omega arith; within = f.within; low = omega arith }

  pub span_found : (more n days : ℕ) → total n + days < total (n + more) →
      Found size total (span_of size more n days) n more days
  unfolding span_of
  span_found zero n days h =
      let e : total (n + 0) ≡ total n = ap total (let z : n + 0 ≡ n = omega arith in z) in
      absurd (omega arith)
  span_found (suc more) n days h =
      let e : total (n + suc more) ≡ total (suc n + more)
      = ap total (let z : n + suc more ≡ suc n + more = omega arith in z) in
      let t = more_total n in
      span_step (nat_lt days (size n)) n more days
      (λ b. ltb-true days (size n) b)
      (λ b. let ge : size n ≤ days = ltb-false days (size n) b in
      later (span_of size more (suc n) (days - size n)) n more days ge
      (span_found more (suc n) (days - size n) (omega arith)))

years_more : (n : ℕ) → days_of_years (suc n) ≡ days_of_years n + days_in_year (1970 + n)
unfolding days_of_years
years_more n = refl

months_more : (y n : ℕ) → days_of_months y (suc n) ≡ days_of_months y n + days_in_month y (suc n)
unfolding days_of_months
months_more y n = refl

no_years : days_of_years 0 ≡ 0
unfolding days_of_years
no_years = refl

no_months : (y : ℕ) → days_of_months y 0 ≡ 0
unfolding days_of_months
no_months y = refl

all_years : days_of_years 8030 ≡ 2932897
all_years = let e = days_of_years_closed 8030 in omega (arith, e)

pub year_found : (days : ℕ) → days < 2932897 →
    Found (λ n. days_in_year (1970 + n)) days_of_years (year_of days) 0 8030 days
unfolding year_of
year_found days h =
    span_found (λ n. days_in_year (1970 + n)) days_of_years years_more 8030 0 days
    (let a = all_years in let z = no_years in omega arith)

pub month_found : (y days : ℕ) → days < days_in_year y →
    Found (λ n. days_in_month y (suc n)) (days_of_months y) (month_of y days) 0 12 days
unfolding month_of
month_found y days h =
    span_found (λ n. days_in_month y (suc n)) (days_of_months y) (months_more y) 12 0 days
    (let a = days_of_months_all y in let z = no_months y in omega arith)

-- the seconds of a day and of a time of day
seconds : (secs d : ℕ) → d ≡ secs / 86400 →
    d * 86400 + secs % 86400 / 3600 * 3600 + secs % 86400 % 3600 / 60 * 60 + secs % 86400 %
    3600 % 60 ≡ secs
seconds secs d e = omega arith

-- the days of the date that was found
days_found : (y m q r days : ℕ) →
    days_of_years y + r ≡ days → days_of_months (1970 + y) m + q ≡ r →
    days_from_civil (1970 + y) (suc m) (suc q) ≡ days
days_found y m q r days e f =
    let a : days_of_years (1970 + y - 1970) ≡ days_of_years y
    = ap days_of_years (let z : 1970 + y - 1970 ≡ y = omega arith in z) in
    let b : days_of_months (1970 + y) (suc m - 1) ≡ days_of_months (1970 + y) m
    = ap (days_of_months (1970 + y)) (let z : suc m - 1 ≡ m = omega arith in z) in
    omega arith

-- the parts of a moment, as the calendar counts them
parts_of : ℕ → Parts
parts_of secs =
    let days = secs / 86400 in
    let year = year_of days in
    let month = month_of (1970 + year.0) year.1 in
    record {
      year = 1970 + year.0;
      mon = suc month.0;
      day = suc month.1;
      hour = secs % 86400 / 3600;
      min = secs % 86400 % 3600 / 60;
      sec = secs % 86400 % 3600 % 60;
      wday = weekday days;
    }

-- the text of these parts is the date of the moment
text_of_parts : (secs : ℕ) → text_of (parts_of secs) ≡ imf_fixdate secs
unfolding parts_of imf_fixdate date1_of time_of_day
text_of_parts secs = simp append_assoc

pub date_text-is : (d : HttpDate) (secs : ℕ) → unix_secs d ≡ secs → secs < 253402300800 →
    date_text d ≡ imf_fixdate secs
unfolding parts_of
date_text-is d secs e small =
    let days : ℕ = secs / 86400 in
    let y = year_found days (omega arith) in
    let zy = no_years in
    let m = month_found (1970 + (year_of days).0) (year_of days).1 y.within in
    let zm = no_months (1970 + (year_of days).0) in
    let sy = y.same in let ly = y.low in let sm = m.same in let lm = m.low in let wm = m.within in
    let found : days_from_civil (1970 + (year_of days).0)
    (suc (month_of (1970 + (year_of days).0) (year_of days).1).0)
    (suc (month_of (1970 + (year_of days).0) (year_of days).1).1) ≡ days
    = days_found _ _ _ (year_of days).1 days (omega arith) (omega arith) in
    let b : HttpDate = record {
      parts = parts_of secs;
      civil = ((omega arith, omega arith), (omega arith, omega arith), (omega arith, omega arith));
      time = (omega arith, omega arith, omega arith);
      right_day = ap weekday (sym found);
    } in
    ap text_of (unix_secs_injective d b (e ∙ sym (seconds secs _ found))) ∙ text_of_parts secs
