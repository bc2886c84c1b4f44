use Rattle.std.proofs.Common.{◌≡◌, ◌++◌, length, map}
use Rattle.regex.specs.Patterns.{find_all_str}
use Rattle.regex.specs.Strings.{regex_pattern, group_count, captures_left}
use Rattle.regex.specs.Locations.{location_count}
use Rattle.wc_eval.specs.Matching.{groups_in}
use Rattle.wc_eval.proofs.search.all_groups.Given as goal

abbrev pub invariant-matches : goal.invariant-matches
invariant-matches l = record {
  count : location_count l.locations ≡ group_count l.fn.regex;
  found : l.groups ++ map (groups_in (group_count l.fn.regex)) (captures_left l.all)
      ≡ map (groups_in (group_count l.fn.regex)) (find_all_str (regex_pattern l.fn.regex) l.fn.text);
}

abbrev pub decreases-matches : goal.decreases-matches
decreases-matches l = length (captures_left l.all)
