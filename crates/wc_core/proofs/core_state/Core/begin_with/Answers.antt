use Rattle.std.proofs.Common.{◌≡◌, ap, sym, ◌∙◌, arith}
use Rattle.wc_core.specs.CoreView.{CoreView}
use Rattle.wc_core.proofs.AskedLemmas.{begins-then, begins-cut}
use Rattle.wc_core.proofs.core_state.Core.begin_with.Goals as goal

pub seat-requires : goal.seat-requires
seat-requires c =
    let same : c.open_server.new.self.servers.used ≡ c.args.self.now.servers.used = ap (λ (core : CoreView). core.servers.used) c.open_server.ensures.stays in
    omega (arith, same, c.requires)

pub returns-then-self-cuts : goal.returns-then-self-cuts
returns-then-self-cuts c =
    let following : c.self-2.inside.cuts ≡ c.open_server.new.self.cuts = ap (λ (core : CoreView). core.cuts) c.self-2.view_is in
    let before : c.self.inside.cuts ≡ c.args.self.now.cuts = ap (λ (core : CoreView). core.cuts) c.self.view_is in
    begins-cut c.args.self.now c.open_server.new.self c.args.server (λ same. c.if-self-cuts.true (following ∙ same ∙ sym before)) c.open_server.ensures.does

pub returns : goal.returns
returns c =
    let following : c.self-2.inside.cuts ≡ c.open_server.new.self.cuts = ap (λ (core : CoreView). core.cuts) c.self-2.view_is in
    let before : c.self.inside.cuts ≡ c.args.self.now.cuts = ap (λ (core : CoreView). core.cuts) c.self.view_is in
    begins-then c.args.self.now c.open_server.new.self c.seat.new.self c.args.server (sym following ∙ c.if-self-cuts.false ∙ before) c.open_server.ensures.does c.seat.ensures
