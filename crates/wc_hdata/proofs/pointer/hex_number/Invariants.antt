use Rattle.std.proofs.Common.{◌≡◌, ◌≤◌, length, take}
use Rattle.std.specs.Str.Parse.{digits_value, AllDigits}
use Rattle.wc_hdata.proofs.pointer.hex_number.Given as goal

-- the bytes so far are digits, and `value` is what they write
abbrev pub invariant-loop-b : goal.invariant-loop-b
invariant-loop-b l = record {
  value : l.value ≡ digits_value 16 (take l.b-index l.digits);
  digits : AllDigits 16 (take l.b-index l.digits);
  least : 1 ≤ length l.digits;
  most : length l.digits ≤ 16;
}
