use Rattle.std.proofs.Common.{sym}
use Rattle.wc_turns.proofs.KeyedLemmas.{PlaceOf-position}
use Rattle.wc_turns.specs.Links.{link_number}
use Rattle.wc_turns.proofs.links.Links.place.Goals as goal

pub returns : goal.returns
returns c = rw (sym c.deref.ensures.value) (PlaceOf-position link_number c.args.link.0 c.deref.result.now c.position_of.result c.position_of.ensures)
