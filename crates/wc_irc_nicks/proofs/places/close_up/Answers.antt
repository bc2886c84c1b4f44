use Rattle.std.proofs.Common.{◌∙◌, Option, List, length, ap, sym, subst}
use Rattle.wc_nicklist.specs.Index.{at_long}
use Rattle.wc_irc_texts.specs.declared.seat.Seat.{Seat}
use Rattle.wc_irc_nicks.specs.Kept.{filled, IsNoted}
use Rattle.wc_irc_nicks.proofs.KeptLemmas.{noted_none, filled-solid, length-solid}
use Rattle.wc_irc_nicks.proofs.places.close_up.Goals as goal

pub note_all-requires : goal.note_all-requires
note_all-requires c =
    let f = at_long c.args.index.now in
    subst (λ (l : List (Option Seat)). IsNoted c.args.case_map l f 0) (sym (c.as_slice.ensures.value ∙ c.without_holes.ensures)) (noted_none c.args.case_map c.args.places.now.items f c.requires)

pub returns-clause-seats : goal.returns-clause-seats
returns-clause-seats c = ap filled c.without_holes.ensures ∙ filled-solid c.args.places.now.items

pub returns-clause-full : goal.returns-clause-full
returns-clause-full c =
    ap (λ (l : List (Option Seat)). length l) c.without_holes.ensures ∙ length-solid c.args.places.now.items ∙ sym (ap (λ (l : List (Option Seat)). length (filled l)) c.without_holes.ensures)
