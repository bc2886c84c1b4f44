use Rattle.std.proofs.Common.{◌≡◌, length, take}
use Rattle.wc_ircmsg.specs.CaseMaps.{folded_name}
use Rattle.wc_irc_nicks.proofs.folded.FoldedNick.new.Given as goal

abbrev pub invariant-loop-byte : goal.invariant-loop-byte
invariant-loop-byte l = record {
  size : length l.bytes ≡ 64;
  at_index : l.len ≡ l.byte-index;
  same : take l.len l.bytes ≡ folded_name l.case_map (take l.byte-index l.nick);
}
