-- What becomes of the hotlist by commands.
use Rattle.std.proofs.Common.{◌≡◌, List, refl, sym, subst, inl, inr, arith, append-nil}
use Rattle.wc_text.specs.declared.names.Handle.{Handle}
use Rattle.wc_hotlist.specs.declared.row.HotRow.{HotRow}
use Rattle.wc_session.specs.declared.client.Client.{Client}
use Rattle.wc_servers.proofs.OutLemmas.{ServersFollow-refl}
use Rattle.wc_board.specs.Connections.{unsent_on}
use Rattle.wc_core.specs.declared.typed_hotlist.HotlistUse.{HotlistUse}
use Rattle.wc_core.specs.BoardSteps.{board_of}
use Rattle.wc_core.specs.CoreView.{CoreView}
use Rattle.wc_core.specs.Contained.{Rest, state_with, RunsAt, Runs}
use Rattle.wc_core.specs.News.{rows_used}
use Rattle.wc_core.specs.Served.{clients_of}
use Rattle.wc_core.specs.State.{Stepped}
use Rattle.wc_core.specs.Step.{put_step, with_hotlist, hotlist_step}
use Rattle.wc_core.proofs.BoardStepLemmas.{by-same}
use Rattle.wc_core.proofs.ComeLemmas.{ServersKeep-refl, LeaveInOrder-refl}
use Rattle.wc_core.proofs.CountLemmas.{counts-none}
use Rattle.wc_core.proofs.DidLemmas.{leaves-none, KeepsClients-connections, or-false}
use Rattle.wc_core.proofs.RunLemmas.{RunsAt-exact}

rows-are : (told : Rest) (old : CoreView) (rows : List HotRow) → RunsAt told old (record old { hotlist = rows }) (put_step (with_hotlist (state_with old told) rows))
rows-are told old rows =
    let new : CoreView = record old { hotlist = rows } in
    let of : List Client → Stepped = λ clients. put_step (record (with_hotlist (state_with old told) rows) { clients = clients }) in
    RunsAt-exact told old new of (KeepsClients-connections old new refl (omega arith) (inl (refl, refl)) (ServersKeep-refl old.servers) refl) (by-same (board_of old) (board_of old) refl) (counts-none old new refl refl refl)
    (λ distinct. leaves-none old (of (clients_of old.connections)) (λ j. refl))
    (λ distinct were. record { means = record { same = refl; told = were }; oracle = refl; bytes = λ j. sym (append-nil (unsent_on j old.connections)); leaving = leaves-none old (of (clients_of old.connections)) (λ j. refl); quits = sym (or-false old.quits); servers = ServersFollow-refl old.servers; parts = LeaveInOrder-refl old.servers })
    (λ distinct were. record { holds = record { same = refl; told = were }; is_on = inr refl; oracle = refl; quits = sym (or-false old.quits); servers = ServersFollow-refl old.servers })

-- a command takes rows out
pub rows_used-done : (old new : CoreView) (usage : HotlistUse) (buffer : Handle) → new ≡ record old { hotlist = rows_used usage buffer old.hotlist } → Runs old new (λ state. hotlist_step state usage buffer)
rows_used-done old new usage buffer e = λ told.
    let P : CoreView → Type 0 = λ core. RunsAt told old core (hotlist_step (state_with old told) usage buffer) in
    subst P (sym e) (rows-are told old (rows_used usage buffer old.hotlist))
