use Rattle.std.proofs.Common.{drop}
use Rattle.wc_world.specs.Near.{numbers}
use Rattle.wc_board.specs.Served.{flags_of}
use Rattle.wc_board.proofs.FlagLemmas.{IsTelling}
use Rattle.wc_board.proofs.flags.tell_group.Given as goal

abbrev pub invariant-loop-buffer : goal.invariant-loop-buffer
invariant-loop-buffer g l = record {
  tells : IsTelling l.world (flags_of l.world l.flips (numbers l.group)) (flags_of l.world l.flips (numbers (drop l.buffer-index l.group))) l.told l.initial.clients l.clients l.initial.spellings l.spellings;
}
