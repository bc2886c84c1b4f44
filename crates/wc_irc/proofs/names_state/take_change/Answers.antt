use Rattle.std.proofs.Common.{ap, ◌∙◌}
use Rattle.wc_irc_texts.specs.declared.seat.ModeSet.{ModeSet}
use Rattle.wc_irc_nicks.specs.Kept.{MembersValue}
use Rattle.wc_irc_texts.specs.ModesSeen.{change_in}
use Rattle.wc_irc_nicks.specs.Seats.{with_modes}
use Rattle.wc_irc.proofs.ModeLemmas.{taken_none, taken_some}
use Rattle.wc_irc.proofs.names_state.take_change.Goals as goal

pub returns-in_default-clause-seats : goal.returns-in_default-clause-seats
returns-in_default-clause-seats c = taken_none c.args.prefixes.now c.args.list.now.case_map (change_in c.args.change) c.args.list.now.seats c.in_default.ensures.found

pub returns-clause-seats : goal.returns-clause-seats
returns-clause-seats c =
    let list = c.args.list.now in
    let change = change_in c.args.change in
    ap (λ (v : MembersValue). v.seats) c.put_modes.ensures ∙ ap (λ (m : ModeSet). with_modes list.case_map change.nick m list.seats) c.modes_after-modes.ensures
    ∙ taken_some c.args.prefixes.now list.case_map change list.seats c.in-Some.seat.now c.in-Some.ensures.found
