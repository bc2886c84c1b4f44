use Rattle.std.proofs.Common.{◌≡◌, ◌-◌, ◌^◌, true, min, take}
use Rattle.std.specs.List.{list_all}
use Rattle.std.specs.Char.{is_ascii_digit}
use Rattle.std.specs.Str.Parse.{digits_value}
use Rattle.wc_core.proofs.typed.read_number.Given as goal

-- the bytes so far are digits, and `value` is what they write, up to the largest
abbrev pub invariant-loop-b : goal.invariant-loop-b
invariant-loop-b l = record {
  value : l.value ≡ min (digits_value 10 (take l.b-index l.bytes)) (2 ^ 32 - 1);
  digits : list_all is_ascii_digit (take l.b-index l.bytes) ≡ true;
}
