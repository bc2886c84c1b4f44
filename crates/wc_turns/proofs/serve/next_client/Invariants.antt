use Rattle.std.proofs.Common.{◌≡◌, ℕ, ◌<◌, false, None, IfSome, take}
use Rattle.wc_outside.specs.Keyed.{at_key}
use Rattle.wc_board.specs.Connections.{connection_link}
use Rattle.wc_turns.specs.Sources.{has_flag, may_write}
use Rattle.wc_turns.proofs.serve.next_client.Given as goal

abbrev pub invariant-loop-connection : goal.invariant-loop-connection
invariant-loop-connection l = record {
  above : IfSome l.next (λ link. l.last < link.0);
  between : IfSome l.next (λ link. (other : ℕ) → l.last < other → other < link.0 → has_flag (may_write l.links.opened.items) (at_key connection_link other (take l.connection-index l.connections)) ≡ false);
  none : l.next ≡ None → (other : ℕ) → l.last < other → has_flag (may_write l.links.opened.items) (at_key connection_link other (take l.connection-index l.connections)) ≡ false;
}
