-- What is built of the text of a pattern.
use Rattle.std.specs.Prelude.{◌≡◌, ℕ, List}
use Rattle.regex.specs.Strings.{regex_source, regex_config, IsReadFromSource}
use Rattle.regex.specs.declared.string.regex.Regex.{Regex}
use Rattle.wc_eval.specs.Matching.{folding_config}

-- the regex is what the text stands for, with case ignored
pub record IsBuiltOf (text : List ℕ) (r : Regex) : Type 0 where
  pub source : regex_source r ≡ text
  pub config : regex_config r ≡ folding_config
  pub read : IsReadFromSource r
