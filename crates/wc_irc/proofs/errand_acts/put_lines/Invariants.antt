use Rattle.std.proofs.Common.{◌≡◌, ◌++◌, map}
use Rattle.std.specs.Vec.Iter.{into_iter_items}
use Rattle.wc_irc.specs.Autojoin.{message}
use Rattle.wc_irc.specs.CommandSeen.{AreWritable}
use Rattle.wc_irc.specs.SentLines.{each_acts}
use Rattle.wc_irc.proofs.errand_acts.put_lines.Given as goal

abbrev pub invariant-loop-params : goal.invariant-loop-params
invariant-loop-params l = record {
  may : AreWritable l.command (into_iter_items l.params-iterator);
  same : l.acts ++ each_acts l.buffers (map (λ p. message l.command p) (into_iter_items l.params-iterator)) ≡ l.fn.acts ++ each_acts l.buffers (map (λ p. message l.command p) l.fn.each);
}
