use Rattle.std.specs.Prelude.{◌≡◌, ℕ, Result, Ok, Err}
use Rattle.wc_options.specs.Options.{OptionsValue}
use Rattle.wc_options.specs.declared.refusal.ConfigRefused.{ConfigRefused}
use Rattle.wc_options.specs.declared.refusal.ConfigRefused.TheVariants.{BadLine}

-- the refusal names the line at which the reading ends
abbrev pub IsBadLine : ConfigRefused → Result OptionsValue ℕ → Type 0
IsBadLine refused (Ok options) = ⊥
IsBadLine refused (Err number) = refused ≡ BadLine number
