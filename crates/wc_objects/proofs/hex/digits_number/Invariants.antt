use Rattle.std.proofs.Common.{◌≡◌, take, drop, map}
use Rattle.std.specs.List.{list_all}
use Rattle.std.specs.Int.Digits.{number_from_digits, AllBelowBase}
use Rattle.wc_objects.specs.Hex.{is_hex, digit}
use Rattle.wc_objects.proofs.hex.digits_number.Given as goal

-- the digits so far are digits, and spell the number so far
abbrev pub invariant-loop-c : goal.invariant-loop-c
invariant-loop-c l =
    (list_all is_hex l.text ≡ list_all is_hex (drop l.c-index l.text)) × AllBelowBase 16 (map digit (take l.c-index l.text))
    × (l.number ≡ number_from_digits 16 (map digit (take l.c-index l.text)))
