use Rattle.std.proofs.Common.{ap, ◌∙◌}
use Rattle.wc_nicklist.specs.Index.{at_short}
use Rattle.wc_nicklist.proofs.Numbers.{name_short, name_long}
use Rattle.wc_nicklist.proofs.by_name.IdsByName.find.Goals as goal

pub returns-in-Some : goal.returns-in-Some
returns-in-Some c = c.copied.ensures ∙ c.get.ensures.value ∙ ap (at_short c.args.self.now.short) c.in-Some.ensures.short.1 ∙ name_short c.args.self.now c.args.name.now c.in-Some.ensures.short.0

pub returns-in-None : goal.returns-in-None
returns-in-None c = c.copied-in-None.ensures ∙ c.get-in-None.ensures.value ∙ name_long c.args.self.now c.args.name.now c.in-None.ensures.long
