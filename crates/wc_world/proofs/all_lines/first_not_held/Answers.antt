use Rattle.std.proofs.Common.{◌∙◌, option_map, ap}
use Rattle.wc_lines.specs.Flags.{flag_at}
use Rattle.wc_model.specs.declared.change.Flip.{Flip}
use Rattle.wc_world.specs.Flips.{is_stored}
use Rattle.wc_world.specs.Near.{numbers}
use Rattle.wc_world.proofs.LastFlags.{first_alike}
use Rattle.wc_world.proofs.all_lines.first_not_held.Goals as goal

pub returns : goal.returns
returns c =
    c.first_in.ensures
    ∙ ap (option_map (λ (flip : Flip). flip.content)) (first_alike (flag_at c.in_ok-flags.flags) (flag_at c.take_all_out.new.flags) (is_stored c.args.held.now (numbers c.args.buffers.now)) c.args.flips.now c.in_ok-flags.ensures c.take_all_out.ensures)
