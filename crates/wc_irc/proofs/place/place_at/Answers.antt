use Rattle.std.proofs.Common.{◌≡◌, ap, sym, subst, ◌∙◌}
use Rattle.wc_buffers.specs.Calls.{vars_at}
use Rattle.wc_irc.specs.CommandActs.{place_in}
use Rattle.wc_irc.specs.CommandSeen.{place_seen, IsPlaceUtf8}
use Rattle.wc_irc.proofs.ErrandLemmas.{place_utf8}
use Rattle.wc_irc.proofs.place.place_at.Goals as goal

pub returns-in-Some-clause-text : goal.returns-in-Some-clause-text
returns-in-Some-clause-text c =
    let is : place_seen c.place_of.result ≡ place_in (vars_at c.args.buffer c.args.buffers.now) = c.place_of.ensures ∙ ap place_in c.in-Some.ensures in
    subst IsPlaceUtf8 (sym is) (place_utf8 c.args.buffer c.args.buffers.now c.groups.ensures.held)
