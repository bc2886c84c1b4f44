use Rattle.std.proofs.Common.{ap, ◌∙◌, sym}
use Rattle.wc_nicklist.specs.Rows.{last_or, root_name}
use Rattle.wc_nicklist.proofs.Paths.{last_or-last}
use Rattle.wc_nickdiff.proofs.row.parent_of.Goals as goal

-- the last name of the path
pub returns-in-Some : goal.returns-in-Some
returns-in-Some c =
    c.as_slice-in-Some.ensures ∙ sym (last_or-last root_name c.as_slice.result.now c.in-Some.name.now (sym c.in-Some.ensures.value)) ∙ ap (last_or root_name) c.as_slice.ensures
