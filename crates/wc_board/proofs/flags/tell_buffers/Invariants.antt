use Rattle.wc_model.specs.Parts.{flag_parts}
use Rattle.wc_world.specs.Near.{all_numbers}
use Rattle.wc_board.specs.Served.{flags_of}
use Rattle.wc_board.proofs.FlagLemmas.{IsTelling}
use Rattle.wc_board.proofs.flags.tell_buffers.Given as goal

abbrev pub invariant-loop-group : goal.invariant-loop-group
invariant-loop-group g l = record {
  tells : IsTelling l.world (flag_parts l.world l.flips) (flags_of l.world l.flips (all_numbers l.group-iterator)) l.told l.initial.clients l.clients l.initial.spellings l.spellings;
}
