use Rattle.std.proofs.Common.{◌≡◌, ◌^◌, ◌<◌, true, take}
use Rattle.std.specs.List.{list_all}
use Rattle.std.specs.Str.Parse.{digits_value}
use Rattle.wc_session.proofs.NameLemmas.{is_digit}
use Rattle.wc_session.proofs.names.hex_number.Given as goal

-- the bytes so far are digits, and `value` is what they write
abbrev pub invariant-loop-b : goal.invariant-loop-b
invariant-loop-b l =
    (l.value ≡ digits_value 16 (take l.b-index l.digits)) × (list_all is_digit (take l.b-index l.digits) ≡ true) × (l.value < 2 ^ 64)
