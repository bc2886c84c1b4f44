use Rattle.std.proofs.Common.{refl, sym, ◌∙◌}
use Rattle.wc_core.proofs.DidLemmas.{KeepsSaved-trans}
use Rattle.wc_turns.proofs.ContainedLemmas.{KeepsLinks-refl}
use Rattle.wc_turns.proofs.TurnLemmas.{turn-continues, turn-causes, turn-closes-exactly}
use Rattle.wc_turns.proofs.GuestLemmas.{Reaches-of, OneLogin-none, OneLogin-first, nothing-read}
use Rattle.wc_turns.proofs.SourceLemmas.{later-of}
use Rattle.wc_turns.proofs.ServeLemmas.{AllServed-following, AllSent-following, Nothing-within}
use Rattle.wc_turns.proofs.WaitLemmas.{Within-none, closes-unwoken, OnOk-get, OnErr-get, LoopStep-then, goes-on, quits-by, loses-none}
use Rattle.wc_turns.proofs.headless.Headless.serve_turn.Goals as goal

pub returns-then-is_err-clause-within : goal.returns-then-is_err-clause-within
returns-then-is_err-clause-within g c =
    let woken = OnErr-get c.wake.result _ (sym c.is_err.ensures.value ∙ c.if-is_err.true) c.wake.ensures.failed in
    Within-none _ _ woken.nothing

pub returns-then-is_err-clause-contained : goal.returns-then-is_err-clause-contained
returns-then-is_err-clause-contained g c =
    let woken = OnErr-get c.wake.result _ (sym c.is_err.ensures.value ∙ c.if-is_err.true) c.wake.ensures.failed in
    loses-none _ _ _ woken.loses woken.rises (KeepsLinks-refl _)

pub returns-then-is_err-clause-closes : goal.returns-then-is_err-clause-closes
returns-then-is_err-clause-closes g c =
    let woken = OnErr-get c.wake.result _ (sym c.is_err.ensures.value ∙ c.if-is_err.true) c.wake.ensures.failed in
    closes-unwoken _ _ _ _ c.requires.agrees woken

pub returns-clause-continues : goal.returns-clause-continues
returns-clause-continues g c =
    let woken = OnOk-get c.wake.result _ (sym c.is_err.ensures.value ∙ c.if-is_err.false) c.wake.ensures.woken in
    let seen = g.S.Sockets.seen in
    LoopStep-then c.serve_ready-listened.result _ c.turn_end.result c.args.self.now c.serve_ready-listened.new.headless (seen c.args.sockets.now) (seen c.serve_ready-listened.new.sockets) c.turn_end.ensures
    (turn-continues c.args.self.now c.wake.new.self c.serve_ready-listened.new.headless (seen c.args.sockets.now) (seen c.wake.new.sockets) (seen c.serve_ready-listened.new.sockets) woken.continues c.serve_ready-listened.ensures.continues)

pub returns-clause-causes : goal.returns-clause-causes
returns-clause-causes g c =
    let woken = OnOk-get c.wake.result _ (sym c.is_err.ensures.value ∙ c.if-is_err.false) c.wake.ensures.woken in
    let seen = g.S.Sockets.seen in
    turn-causes c.args.self.now c.wake.new.self c.serve_ready-listened.new.headless (seen c.args.sockets.now) (seen c.wake.new.sockets) (seen c.serve_ready-listened.new.sockets) c.requires.agrees woken.calm c.serve_ready-listened.ensures.calm woken.continues (woken.causes c.requires.agrees) c.serve_ready-listened.ensures.continues

pub returns-clause-served : goal.returns-clause-served
returns-clause-served g c = λ on.
    let woken = OnOk-get c.wake.result _ (sym c.is_err.ensures.value ∙ c.if-is_err.false) c.wake.ensures.woken in
    let e = c.serve_ready-listened.ensures in
    let seen = g.S.Sockets.seen in
    let goes = goes-on c.serve_ready-listened.result _ c.turn_end.result c.turn_end.ensures on in
    AllServed-following c.args.self.now c.wake.new.self c.serve_ready-listened.new.headless (seen c.args.sockets.now) (seen c.wake.new.sockets) (seen c.serve_ready-listened.new.sockets) (Reaches-of _ _ _ _ woken.continues) (Reaches-of _ _ _ _ e.continues)
    (OnOk-get c.serve_ready-listened.result _ goes.0 e.served (woken.continues.agrees c.requires.agrees) goes.1)

pub returns-clause-sent : goal.returns-clause-sent
returns-clause-sent g c = λ quit.
    let woken = OnOk-get c.wake.result _ (sym c.is_err.ensures.value ∙ c.if-is_err.false) c.wake.ensures.woken in
    let e = c.serve_ready-listened.ensures in
    let seen = g.S.Sockets.seen in
    AllSent-following c.serve_ready-listened.new.headless (seen c.args.sockets.now) (seen c.wake.new.sockets) (seen c.serve_ready-listened.new.sockets) (later-of _ _ woken.continues) (later-of _ _ e.continues) woken.continues.counts
    (e.sent (woken.continues.agrees c.requires.agrees) (quits-by c.serve_ready-listened.result _ c.turn_end.result c.turn_end.ensures quit))

pub returns-clause-within : goal.returns-clause-within
returns-clause-within g c =
    let woken = OnOk-get c.wake.result _ (sym c.is_err.ensures.value ∙ c.if-is_err.false) c.wake.ensures.woken in
    let e = c.serve_ready-listened.ensures in
    let seen = g.S.Sockets.seen in
    Nothing-within (seen c.args.sockets.now) (seen c.wake.new.sockets) (seen c.serve_ready-listened.new.sockets) (later-of _ _ e.continues) woken.nothing e.within

pub returns-clause-contained : goal.returns-clause-contained
returns-clause-contained g c =
    let woken = OnOk-get c.wake.result _ (sym c.is_err.ensures.value ∙ c.if-is_err.false) c.wake.ensures.woken in
    loses-none _ _ _ woken.loses woken.rises (c.serve_ready-listened.ensures.contained (woken.continues.agrees c.requires.agrees))

pub returns-clause-closes : goal.returns-clause-closes
returns-clause-closes g c =
    let woken = OnOk-get c.wake.result _ (sym c.is_err.ensures.value ∙ c.if-is_err.false) c.wake.ensures.woken in
    let seen = g.S.Sockets.seen in
    turn-closes-exactly c.args.self.now c.wake.new.self c.serve_ready-listened.new.headless (seen c.args.sockets.now) (seen c.wake.new.sockets) (seen c.serve_ready-listened.new.sockets) c.requires.agrees woken.calm c.serve_ready-listened.ensures.calm woken.continues woken.closed c.serve_ready-listened.ensures.continues

pub returns-then-is_err-clause-saves : goal.returns-then-is_err-clause-saves
returns-then-is_err-clause-saves g c =
    let woken = OnErr-get c.wake.result _ (sym c.is_err.ensures.value ∙ c.if-is_err.true) c.wake.ensures.failed in
    woken.saves

pub returns-clause-saves : goal.returns-clause-saves
returns-clause-saves g c =
    let woken = OnOk-get c.wake.result _ (sym c.is_err.ensures.value ∙ c.if-is_err.false) c.wake.ensures.woken in
    KeepsSaved-trans c.args.self.now.core c.wake.new.self.core c.serve_ready-listened.new.headless.core woken.saves (c.serve_ready-listened.ensures.continues.saves refl (woken.continues.agrees c.requires.agrees))

pub returns-then-is_err-clause-causes : goal.returns-then-is_err-clause-causes
returns-then-is_err-clause-causes g c =
    let woken = OnErr-get c.wake.result _ (sym c.is_err.ensures.value ∙ c.if-is_err.true) c.wake.ensures.failed in
    woken.causes c.requires.agrees

pub returns-then-is_err-clause-once : goal.returns-then-is_err-clause-once
returns-then-is_err-clause-once g c =
    let woken = OnErr-get c.wake.result _ (sym c.is_err.ensures.value ∙ c.if-is_err.true) c.wake.ensures.failed in
    OneLogin-none _ _ _ _ _ (nothing-read _ _ woken.nothing) (Reaches-of _ _ _ _ woken.continues)

pub returns-clause-once : goal.returns-clause-once
returns-clause-once g c =
    let woken = OnOk-get c.wake.result _ (sym c.is_err.ensures.value ∙ c.if-is_err.false) c.wake.ensures.woken in
    OneLogin-first _ _ _ _ _ _ _ (nothing-read _ _ woken.nothing) (Reaches-of _ _ _ _ woken.continues) c.serve_ready-listened.ensures.once
