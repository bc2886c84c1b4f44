use Rattle.std.proofs.Common.{refl}
use Rattle.wc_turns.proofs.TakesLemmas.{TakesHappening-stands, stood-at}
use Rattle.wc_turns.proofs.WakeLemmas.{stands-causes}
use Rattle.wc_turns.proofs.headless.Headless.link_stands.Goals as goal
use Rattle.wc_core.specs.Served.{plain_beside}

pub returns-clause-takes : goal.returns-clause-takes
returns-clause-takes c =
    let old = c.args.self.now in
    TakesHappening-stands old (record old { core = c.link_stands.new.self; links = c.mark_standing.new.self; ran = c.saturating_add-self.result }) c.args.link c.requires.going c.requires.connecting refl refl refl refl refl refl
    c.mark_standing.ensures.closed c.mark_standing.ensures.opened c.saturating_add-self.ensures c.link_stands.ensures.does (record { does = c.link_stands.ensures.does; contained = c.link_stands.ensures.contained; counted = c.link_stands.ensures.counted; drops = c.link_stands.ensures.drops })

pub returns-clause-stands : goal.returns-clause-stands
returns-clause-stands c = stood-at c.args.link.0 c.args.self.now.links.opened.items c.mark_standing.new.self.opened.items c.mark_standing.ensures.opened

pub returns-clause-links : goal.returns-clause-links
returns-clause-links c = λ distinct other. stands-causes c.args.self.now.core c.link_stands.new.self c.args.link.0 c.link_stands.ensures.does distinct other

pub returns-clause-keeps : goal.returns-clause-keeps
returns-clause-keeps c = (c.link_stands.ensures.does (plain_beside c.args.self.now.core)).keeps
