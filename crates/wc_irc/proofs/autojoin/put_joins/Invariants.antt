use Rattle.std.proofs.Common.{◌≡◌, ◌++◌, true}
use Rattle.wc_irc.specs.Autojoin.{joins_from}
use Rattle.wc_irc_texts.specs.Pieces.{pieces, pieces_left, length_left, is_bare_left}
use Rattle.wc_irc.proofs.autojoin.put_joins.Given as goal

abbrev pub invariant-loop-left : goal.invariant-loop-left
invariant-loop-left l = record {
  bare : is_bare_left l.left ≡ true;
  bare_keys : is_bare_left l.keys_left ≡ true;
  same : l.lines ++ joins_from (pieces_left l.left) (pieces_left l.keys_left) ≡ l.fn.lines ++ joins_from (pieces l.channels) (pieces l.keys);
}

abbrev pub decreases-loop-left : goal.decreases-loop-left
decreases-loop-left l = length_left l.left
