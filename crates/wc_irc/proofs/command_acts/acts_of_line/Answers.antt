use Rattle.std.proofs.Common.{ap, sym, ◌∙◌, option_map}
use Rattle.wc_irc.specs.CommandSeen.{place_seen, errand_seen, link_seen}
use Rattle.wc_irc_words.specs.Typed.{asked_of}
use Rattle.wc_irc_words.specs.TypedSeen.{meaning}
use Rattle.wc_irc.proofs.AskedLemmas.{asked_ready}
use Rattle.wc_irc.proofs.ErrandLemmas.{read_fit}
use Rattle.wc_irc.proofs.command_acts.acts_of_line.Goals as goal

pub put_errand-requires : goal.put_errand-requires
put_errand-requires c =
    read_fit (link_seen c.args.link) (place_seen c.args.place) (asked_of c.args.line.now) (meaning c.in-Some.command) (errand_seen c.in-Some-2.errand) c.requires.place
    (asked_ready c.args.line.now c.requires.one_line c.requires.text) (sym c.in-Some.ensures) (sym c.in_ok-errand.ensures ∙ ap (option_map errand_seen) c.in-Some-2.is)
