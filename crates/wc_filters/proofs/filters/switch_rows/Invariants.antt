use Rattle.std.proofs.Common.{◌≡◌, ◌++◌, map, take, drop}
use Rattle.std.specs.Option.{option_copied}
use Rattle.wc_filters.specs.Kept.{with_switch}
use Rattle.wc_filters.proofs.filters.switch_rows.Given as goal

-- the filters up to here are switched, and the others are as they were
abbrev pub invariant-loop-row : goal.invariant-loop-row
invariant-loop-row l =
    let F = with_switch (option_copied l.name) l.switch in
    l.rows ≡ map F (take l.row-index l.initial.rows) ++ drop l.row-index l.initial.rows
