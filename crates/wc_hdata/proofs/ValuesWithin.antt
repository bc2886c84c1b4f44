-- Single numbers, texts and tables keep to their types.
use Rattle.std.proofs.Common.{◌≡◌, ℕ, ◌-◌, ◌^◌, ◌<◌, Bool, true, false, cond, leb, List, [], ◌∷◌, map, Option, Some, refl, arith}
use Rattle.std.specs.Prelude.{ℤ, pos}
use Rattle.std.specs.List.{AllByRecursion}
use Rattle.std.specs.Int.{w8, w32, w64}
use Rattle.std.specs.Int.RustNames.{FitsSigned}
use Rattle.std.proofs.lemmas.Bool.Decides.{nat_tests}
use denote.Hole.Carrier.{out}
use Rattle.wc_text.specs.declared.names.Pair.{Pair}
use Rattle.wc_objects.specs.declared.kind.Kind.TheVariants as kind
use Rattle.wc_objects.specs.declared.object.Object.TheVariants as o
use Rattle.wc_objects.specs.declared.object.Object.TheViews.{out-Object, out-roll-Object}
use Rattle.wc_objects.specs.Within.{SimpleWithin, PairWithin, ValueWithin}
use Rattle.wc_events.specs.BufferObjects.{count, pair_of, table}
use Rattle.wc_events.specs.LineObjects.{moment, texts, truth}

-- ---- single numbers

pub moment_within : (date : ℕ) → FitsSigned w64 (moment date)
moment_within date = by (leb date (2 ^ 63 - 1)) refl where
  by : (b : Bool) → leb date (2 ^ 63 - 1) ≡ b → FitsSigned w64 (pos (cond b date (2 ^ 63 - 1)))
  by true e = record { sfits = grind (arith, nat_tests) }
  by false e = record { sfits = omega arith }

pub count_within : (n : ℕ) → FitsSigned w32 (count n)
count_within n = by (leb n (2 ^ 31 - 1)) refl where
  by : (b : Bool) → leb n (2 ^ 31 - 1) ≡ b → FitsSigned w32 (pos (cond b n (2 ^ 31 - 1)))
  by true e = record { sfits = grind (arith, nat_tests) }
  by false e = record { sfits = omega arith }

pub truth_within : (on : Bool) → FitsSigned w8 (truth on)
truth_within true = record { sfits = omega arith }
truth_within false = record { sfits = omega arith }

pub flag_within : (on : Bool) → FitsSigned w32 (truth on)
flag_within true = record { sfits = omega arith }
flag_within false = record { sfits = omega arith }

-- ---- values

pub value_tim : (n : ℤ) → FitsSigned w64 n → ValueWithin (o.Tim n)
unfolding ValueWithin out-Object out
value_tim n fit = fit

pub value_chr : (n : ℤ) → FitsSigned w8 n → ValueWithin (o.Chr n)
unfolding ValueWithin out-Object out
value_chr n fit = fit

pub value_int : (n : ℤ) → FitsSigned w32 n → ValueWithin (o.Int n)
unfolding ValueWithin out-Object out
value_int n fit = fit

pub value_ptr : (n : ℕ) → n < 2 ^ 64 → ValueWithin (o.Ptr n)
unfolding ValueWithin out-Object out
value_ptr n fit = fit

pub value_str : (text : List ℕ) → ValueWithin (o.Str (Some text))
unfolding ValueWithin out-Object out
value_str text = tt

pub simple_str : (text : Option (List ℕ)) → SimpleWithin (o.Str text)
unfolding SimpleWithin out-Object out
simple_str text = tt

pub texts_within : (tags : List (List ℕ)) → AllByRecursion SimpleWithin (texts tags)
texts_within [] = tt
texts_within (tag ∷ tags) = (simple_str (Some tag), texts_within tags)

pub value_texts : (tags : List (List ℕ)) → ValueWithin (o.Arr kind.Str (texts tags))
unfolding ValueWithin
value_texts tags = rw (← o.rolls-Arr kind.Str (texts tags), out-roll-Object) (texts_within tags)

pub pairs_within : (vars : List Pair) → AllByRecursion PairWithin (map pair_of vars)
pairs_within [] = tt
pairs_within (v ∷ vars) = ((simple_str (Some v.name), simple_str (Some v.value)), pairs_within vars)

pub value_table : (vars : List Pair) → ValueWithin (table vars)
unfolding ValueWithin
value_table vars = rw (← o.rolls-Htb kind.Str kind.Str (map pair_of vars), out-roll-Object) (pairs_within vars)
