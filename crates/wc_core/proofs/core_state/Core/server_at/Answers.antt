use Rattle.std.proofs.Common.{Option, ap, ◌∙◌}
use Rattle.std.specs.Borrow.{Bor}
use Rattle.std.specs.Option.{option_copied}
use Rattle.std.specs.Prelude.{option_map}
use Rattle.wc_model.specs.World.{World}
use Rattle.wc_servers.specs.Seats.{SeatView, open_of, server_named, seat_of}
use Rattle.wc_core.specs.CoreView.{CoreView}
use Rattle.wc_core.proofs.ServedLemmas.{serves-none, serves-unnamed, serves-named}
use Rattle.wc_core.proofs.core_state.Core.server_at.Goals as goal

pub returns-in_err-vars : goal.returns-in_err-vars
returns-in_err-vars c =
    let shown = c.buffers.ensures ∙ ap (λ (w : World). w.groups) c.world.ensures.world ∙ ap (λ (core : CoreView). core.world.groups) c.self.view_is in
    ap (λ (o : Option (Bor SeatView)). option_map seat_of (option_copied o)) c.from_residual.ensures ∙ serves-none c.args.self.now c.args.buffer c.buffers.result.now shown c.in_err-vars.ensures

pub returns-in_err-name : goal.returns-in_err-name
returns-in_err-name c =
    let shown = c.buffers.ensures ∙ ap (λ (w : World). w.groups) c.world.ensures.world ∙ ap (λ (core : CoreView). core.world.groups) c.self.view_is in
    ap (λ (o : Option (Bor SeatView)). option_map seat_of (option_copied o)) c.from_residual-in_err-name.ensures
    ∙ serves-unnamed c.args.self.now c.args.buffer c.buffers.result.now c.in_ok-vars.vars.now shown c.in_ok-vars.ensures c.in_err-name.ensures

pub returns : goal.returns
returns c =
    let shown = c.buffers.ensures ∙ ap (λ (w : World). w.groups) c.world.ensures.world ∙ ap (λ (core : CoreView). core.world.groups) c.self.view_is in
    let found = c.named.ensures ∙ ap (λ (core : CoreView). server_named c.as_slice.result.now (open_of core.servers.seats)) c.self.view_is in
    serves-named c.args.self.now c.args.buffer c.buffers.result.now c.in_ok-vars.vars.now c.in_ok-name.name.now c.as_slice.result.now _ shown c.in_ok-vars.ensures c.in_ok-name.ensures c.as_slice.ensures found
