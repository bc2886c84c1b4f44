use Rattle.std.proofs.Common.{◌≡◌, ◌≤◌, ◌<◌, ◌^◌, ap, arith}
use Rattle.wc_core.specs.CoreView.{CoreView}
use Rattle.wc_core.proofs.AskedLemmas.{spent-says, begins-free}
use Rattle.wc_core.proofs.core_state.Core.connect_free.Goals as goal

pub returns-then-used-ge-LAST_LINK : goal.returns-then-used-ge-LAST_LINK
returns-then-used-ge-LAST_LINK c =
    let same : c.self.inside.servers.used ≡ c.args.self.now.servers.used = ap (λ (core : CoreView). core.servers.used) c.self.view_is in
    let most : 2 ^ 62 ≤ c.args.self.now.servers.used = omega (arith, same, c.used.ensures, c.if-used-ge-LAST_LINK.true) in
    spent-says c.args.self.now c.say_bytes.new.self c.args.name.now most c.say_bytes.ensures

pub returns : goal.returns
returns c =
    let same : c.self.inside.servers.used ≡ c.args.self.now.servers.used = ap (λ (core : CoreView). core.servers.used) c.self.view_is in
    let few : c.args.self.now.servers.used < 2 ^ 62 = omega (arith, same, c.used.ensures, c.if-used-ge-LAST_LINK.false) in
    begins-free c.args.self.now c.begin.new.self c.args.name.now few c.begin.ensures
