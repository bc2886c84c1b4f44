use Rattle.std.proofs.Common.{◌≡◌, drop}
use Rattle.wc_view.specs.Each.{each, following}
use Rattle.wc_view.specs.Values.{text_in}
use Rattle.wc_view.proofs.values.each_text.Given as goal

-- the texts so far and those of the values that are left
abbrev pub invariant-loop-value : goal.invariant-loop-value
invariant-loop-value l = (following l.texts (each text_in (drop l.value-index l.value-items)) ≡ each text_in l.values) × (l.value-items ≡ l.values)
