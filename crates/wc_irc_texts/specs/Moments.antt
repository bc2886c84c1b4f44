-- Moments as servers write them: `YYYY-MM-DDThh:mm:ssZ` in UTC, where a `.` and 1 to 9 digits of a
-- fraction may be before the `Z` (ISO 8601, IRCv3 server-time).
use Rattle.std.specs.Prelude.{ℕ, suc, zero, ◌+◌, ◌-◌, ◌*◌, ◌%◌, Bool, not, ◌&&◌, ◌||◌, ◌==◌}
use Rattle.std.specs.Prelude.{nat_lt, nat_le, List, [], ◌∷◌, length, codes, slice_get}
use Rattle.std.specs.Prelude.{Option, Some, None, option_and_then, if◌then◌else◌}
use Rattle.std.specs.Char.{is_ascii_digit}
use Rattle.std.specs.List.{list_all}
use Rattle.wc_text.specs.Splits.{before, text_after}
use Rattle.wc_irc_texts.specs.declared.moment.Moment.{Moment}

-- ---- the calendar of Gregory

abbrev pub is_leap : ℕ → Bool
is_leap year = (year % 4 == 0) && (not (year % 100 == 0) || (year % 400 == 0))

abbrev pub year_days : ℕ → ℕ
year_days year = if is_leap year then 366 else 365

-- the days of so many years, of which the first is 1970
abbrev pub days_of_years : ℕ → ℕ
days_of_years zero = 0
days_of_years (suc n) = days_of_years n + year_days (1970 + n)

-- the months that have 30 days
abbrev pub is_short : ℕ → Bool
is_short month = (month == 4) || ((month == 6) || ((month == 9) || (month == 11)))

abbrev pub february : ℕ → ℕ
february year = if is_leap year then 29 else 28

-- the days of a month, which are 0 where there is no such month
abbrev pub month_days : ℕ → ℕ → ℕ
month_days year month = if month == 2 then february year else (if is_short month then 30 else (
    if nat_lt 0 month && nat_le month 12 then 31 else 0))

-- the days of a year before one of its months
abbrev pub days_before : ℕ → ℕ → ℕ
days_before year zero = 0
days_before year (suc month) = days_before year month + month_days year month

abbrev pub is_date : ℕ → ℕ → ℕ → Bool
is_date year month day = nat_le 1970 year && (nat_lt 0 day && nat_le day (month_days year month))

-- the days from 1970-01-01 to a date
abbrev pub day_number : ℕ → ℕ → ℕ → ℕ
day_number year month day = days_of_years (year - 1970) + days_before year month + (day - 1)

-- a minute may have a second 60, which leaps
abbrev pub is_clock : ℕ → ℕ → ℕ → Bool
is_clock hour minute second = nat_lt hour 24 && (nat_lt minute 60 && nat_le second 60)

abbrev pub second_number : ℕ → ℕ → ℕ → ℕ → ℕ
second_number days hour minute second = ((days * 24 + hour) * 60 + minute) * 60 + second

-- ---- texts

abbrev pub digit_of : Option ℕ → ℕ
digit_of None = 0
digit_of (Some b) = if is_ascii_digit b then b - 48 else 0

-- the number of two digits, of which one that is not there counts as 0
abbrev pub two_at : ℕ → List ℕ → ℕ
two_at place text = digit_of (slice_get text place) * 10 + digit_of (slice_get text (place + 1))

abbrev pub year_at : List ℕ → ℕ
year_at text = two_at 0 text * 100 + two_at 2 text

-- the seconds since 1970 of a text that begins in the form
abbrev pub seconds_of : List ℕ → Option ℕ
seconds_of text =
    if is_date (year_at text) (two_at 5 text) (two_at 8 text)
    && is_clock (two_at 11 text) (two_at 14 text) (two_at 17 text)
    then Some (second_number (day_number (year_at text) (two_at 5 text) (two_at 8 text))
    (two_at 11 text) (two_at 14 text) (two_at 17 text)) else None

-- what a text begins with up to its seconds, where each 0 stands for a digit
abbrev pub form : List ℕ
form = codes "0000-00-00T00:00:00"

abbrev pub fits : ℕ → ℕ → Bool
fits sign b = if sign == 48 then is_ascii_digit b else b == sign

-- what comes after these signs, where the text begins so
abbrev pub after_form : List ℕ → List ℕ → Option (List ℕ)
after_form [] text = Some text
after_form (sign ∷ signs) [] = None
after_form (sign ∷ signs) (b ∷ text) = if fits sign b then after_form signs text else None

-- the microseconds of a fraction with these digits
abbrev pub microseconds_of : List ℕ → ℕ
microseconds_of digits = (two_at 0 digits * 100 + two_at 2 digits) * 100 + two_at 4 digits

abbrev pub is_fraction : List ℕ → Bool
is_fraction digits = nat_lt 0 (length digits)
    && (nat_le (length digits) 9 && list_all is_ascii_digit digits)

-- nothing comes after the `Z`
abbrev pub if_ended : Option (List ℕ) → Option ℕ → Option ℕ
if_ended None fraction = None
if_ended (Some []) fraction = fraction
if_ended (Some (b ∷ text)) fraction = None

abbrev pub fraction_in : List ℕ → Option ℕ
fraction_in digits = if is_fraction digits then Some (microseconds_of digits) else None

-- the microseconds that come after the seconds, and the end
abbrev pub fraction_of : List ℕ → Option ℕ
fraction_of [] = None
fraction_of (b ∷ text) =
    if b == 90 then if_ended (Some text) (Some 0) else (
    if b == 46 then if_ended (text_after 90 text) (fraction_in (before 90 text)) else None)

-- the first second of 1970 counts as none
abbrev pub moment_at : ℕ → ℕ → Option Moment
moment_at seconds microseconds = if seconds == 0 then None
    else Some (record { seconds = seconds; microseconds = microseconds })

abbrev pub moment_after : Option ℕ → Option ℕ → Option Moment
moment_after seconds fraction = option_and_then
    (λ microseconds. option_and_then (λ second. moment_at second microseconds) seconds) fraction

-- the moment that a text writes, where it is one of this form after the first second of 1970
unfoldable pub read_time : List ℕ → Option Moment
read_time text = option_and_then (λ rest. moment_after (seconds_of text) (fraction_of rest))
    (after_form form text)
