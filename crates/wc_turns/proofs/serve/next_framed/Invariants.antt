use Rattle.wc_turns.proofs.serve.next_framed.Given as goal
use Rattle.std.proofs.Common.{◌≡◌, ℕ, ◌<◌, false, None, IfSome, take}
use Rattle.wc_outside.specs.Keyed.{at_key}
use Rattle.wc_turns.specs.Links.{link_number}
use Rattle.wc_turns.specs.Sources.{has_flag, may_write_frames}

abbrev pub invariant-loop-state : goal.invariant-loop-state
invariant-loop-state l = record {
  above : IfSome l.next (λ link. l.last < link.0);
  between : IfSome l.next (λ link. (other : ℕ) → l.last < other → other < link.0 → has_flag may_write_frames (at_key link_number other (take l.state-index l.states)) ≡ false);
  none : l.next ≡ None → (other : ℕ) → l.last < other → has_flag may_write_frames (at_key link_number other (take l.state-index l.states)) ≡ false;
}
