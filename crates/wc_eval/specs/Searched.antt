-- What searches for a pattern that was built.
use Rattle.std.specs.Prelude.{◌≡◌}
use Rattle.regex.specs.Strings.{regex_pattern, regex_source, matcher_pattern}
use Rattle.regex.specs.declared.string.regex.Regex.{Regex}
use Rattle.regex.specs.declared.string.matcher.Matcher.{Matcher}
use Rattle.wc_eval.specs.Built.{IsBuiltOf}

-- the regex was built of its text, and the matcher is its own
pub record SearchesFor (r : Regex) (m : Matcher) : Type 0 where
  pub built : IsBuiltOf (regex_source r) r
  pub pattern : matcher_pattern m ≡ regex_pattern r
