use Rattle.std.proofs.Common.{sym}
use Rattle.wc_nicklist.proofs.Paths.{last_or-last}
use Rattle.wc_view.proofs.nick_list.parent_in.Goals as goal

-- the last name of the path
pub returns-in-Some : goal.returns-in-Some
returns-in-Some c = sym (last_or-last c.args.root_name.now c.args.path.now c.in-Some.name.now (sym c.in-Some.ensures.value))
