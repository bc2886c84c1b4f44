use Rattle.std.proofs.Common.{refl, sym, ◌∙◌}
use Rattle.wc_model.specs.Parts.{flag_part}
use Rattle.wc_board.proofs.FlagLemmas.{flags_unheard, flags_absent, flags_told}
use Rattle.wc_board.proofs.flags.tell_buffer.Goals as goal

pub returns-then-not-some_listens : goal.returns-then-not-some_listens
returns-then-not-some_listens g c =
    flags_unheard c.args.world.now c.args.flips.now c.args.buffer.0 c.args.spellings.now c.args.clients.now (sym (rw c.as_slice.ensures at c.some_listens.ensures) ∙ c.if-not-some_listens.true)

pub returns-then-not-has_flips : goal.returns-then-not-has_flips
returns-then-not-has_flips g c =
    flags_absent c.args.world.now c.args.flips.now c.args.buffer.0 c.args.spellings.now c.args.clients.now (sym c.has_flips.ensures ∙ c.if-not-has_flips.true)

pub returns : goal.returns
returns g c =
    let w = c.args.world.now in
    let part = flag_part c.args.flips.now c.args.buffer.0 in
    let event = c.of_flags-spelled.ensures.event in
    flags_told w c.args.flips.now c.args.buffer.0 c.serve_spelled.result c.args.clients.now c.serve_spelled.new.clients c.args.spellings.now c.of_flags-spelled.new.self
    (sym c.has_flips.ensures ∙ c.if-not-has_flips.false)
    (sym (rw c.as_slice.ensures at c.some_listens.ensures) ∙ c.if-not-some_listens.false)
    (λ told. c.serve_spelled.ensures.told told w part event)
    (c.serve_spelled.ensures.each w part refl refl event)
    c.of_flags-spelled.ensures.count
