use Rattle.std.proofs.Common.{◌≡◌, map, drop}
use Rattle.std.specs.Vec.Iter.{into_iter_items}
use Rattle.wc_irc.specs.Channels.{joined}
use Rattle.wc_irc.specs.ReadySeen.{give_each, AllCanGive}
use Rattle.wc_irc.proofs.ReadyLemmas.{give_from}
use Rattle.wc_irc.proofs.rename_state.give_all.Given as goal

abbrev pub invariant-loop-next : goal.invariant-loop-next
invariant-loop-next l = record {
  can : AllCanGive l.old (drop l.place l.channels) (into_iter_items l.next-iterator);
  same : give_from l.old l.place (into_iter_items l.next-iterator) (map joined l.channels) ≡ give_each l.old l.fn.names.items (map joined l.fn.channels);
}
