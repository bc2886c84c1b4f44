use Rattle.wc_turns.proofs.serve.next_unsent.Goals as goal
use Rattle.wc_turns.proofs.LeastLemmas.{least-above, next-between, next-none}
use Rattle.wc_turns.specs.Links.{link_number}
use Rattle.wc_turns.specs.Sources.{has_flag, may_write_party, may_write_frames}
use Rattle.wc_outside.specs.Keyed.{at_key}

pub returns-clause-above : goal.returns-clause-above
returns-clause-above c = least-above c.lesser_of.result c.next_party-party.result c.next_framed-framed.result c.args.last c.lesser_of.ensures.one c.next_party-party.ensures.above c.next_framed-framed.ensures.above

pub returns-clause-between : goal.returns-clause-between
returns-clause-between c =
    next-between c.lesser_of.result c.next_party-party.result c.next_framed-framed.result c.args.last
    (λ k. may_write_party k c.args.links.now.opened.items c.args.core.now)
    (λ k. has_flag may_write_frames (at_key link_number k c.args.links.now.opened.items))
    c.lesser_of.ensures.first c.lesser_of.ensures.second c.next_party-party.ensures.between c.next_party-party.ensures.none
    (rw c.as_slice.ensures.value at c.next_framed-framed.ensures.between) (λ e k low. rw c.as_slice.ensures.value at (c.next_framed-framed.ensures.none e k low))

pub returns-clause-none : goal.returns-clause-none
returns-clause-none c = λ e k low.
    let none = c.lesser_of.ensures.none e in
    next-none
    (may_write_party k c.args.links.now.opened.items c.args.core.now)
    (has_flag may_write_frames (at_key link_number k c.args.links.now.opened.items))
    (c.next_party-party.ensures.none none.0 k low) (rw c.as_slice.ensures.value at (c.next_framed-framed.ensures.none none.1 k low))
