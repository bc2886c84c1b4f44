use Rattle.std.proofs.Common.{None, refl, sym}
use Rattle.wc_core.proofs.FilterLemmas.{plans-done}
use Rattle.wc_core.proofs.ResolvedTexts.{no-filter-utf8}
use Rattle.wc_core.proofs.core_state.Core.take_planned.Goals as goal

pub refuse-requires : goal.refuse-requires
refuse-requires c = no-filter-utf8 c.args.name.now c.requires.name

pub returns-in-None : goal.returns-in-None
returns-in-None c = plans-done c.args.self.now c.refuse.new.self c.args.name.now c.args.name.now None c.args.plan refl (sym c.in-None.is) c.refuse.ensures
