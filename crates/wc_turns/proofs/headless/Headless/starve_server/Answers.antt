use Rattle.std.proofs.Common.{◌≤◌, refl, ap, arith}
use Rattle.wc_text.specs.declared.names.Cause.TheVariants.{NoMemory}
use Rattle.wc_core.specs.CoreView.{CoreView}
use Rattle.wc_turns.proofs.ContainedLemmas.{starved-counted}
use Rattle.wc_turns.proofs.LossLemmas.{LosesLink-of}
use Rattle.wc_turns.proofs.headless.Headless.starve_server.Goals as goal
use Rattle.wc_core.specs.Served.{plain_beside}

pub returns-clause-drops : goal.returns-clause-drops
returns-clause-drops c =
    let e = c.link_gone.ensures in
    let x = c.args.self.now.core in
    let lost = c.link_gone.new.self in
    let rises = (e.does (plain_beside x)).keeps.rises in
    let same = ap (λ (s : CoreView). s.starved) c.forget.ensures in
    let low : x.starved ≤ x.starved = omega arith in
    record {
      starved = starved-counted x.starved x.starved c.forget.new.self.starved low (omega arith) (λ below. (let more = e.counted refl below in omega arith));
      lost = lost;
      loses = LosesLink-of x lost c.args.link.0 NoMemory e.does e.stays e.gone e.servers (record { does = e.does; contained = e.contained; counted = e.counts; drops = e.drops });
      forgets = c.forget.ensures;
    }
