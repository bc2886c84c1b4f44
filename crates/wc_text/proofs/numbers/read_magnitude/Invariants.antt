use Rattle.std.proofs.Common.{◌≡◌, ◌^◌, ◌<◌, true, take}
use Rattle.std.specs.List.{list_all}
use Rattle.std.specs.Char.{is_ascii_digit}
use Rattle.std.specs.Str.Parse.{digits_value}
use Rattle.wc_text.proofs.numbers.read_magnitude.Given as goal

-- the bytes so far are digits, and `value` is what they write
abbrev pub invariant-loop-b : goal.invariant-loop-b
invariant-loop-b l =
    (l.value ≡ digits_value 10 (take l.b-index l.digits)) × (list_all is_ascii_digit (take l.b-index l.digits) ≡ true) × (l.value < 2 ^ 64)
