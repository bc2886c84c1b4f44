use Rattle.std.proofs.Common.{◌≡◌, ◌≢◌, false, None, refl, sym, ap, ◌∙◌, subst}
use Rattle.std.proofs.lemmas.Bool.{false≢true}
use Rattle.wc_core.specs.CoreView.{CoreView}
use Rattle.wc_turns.specs.declared.turn.TurnEnd.TheVariants.{WaitFault}
use Rattle.wc_core.specs.Served.{unwritten_of}
use Rattle.wc_turns.specs.Saves.{WritesText, written_state}
use Rattle.wc_turns.proofs.CauseLemmas.{causes-as}
use Rattle.wc_turns.specs.Turns.{LoopStep, faults_then}
use Rattle.wc_turns.proofs.SaveLemmas.{agrees-written, step-written, closes-written, loses-written, sent-written, served-written, once-written, fits-then, faults-most, woke-once, saves-turn}
use Rattle.wc_turns.proofs.WaitLemmas.{OnOk-get, OnErr-get}
use Rattle.wc_turns.proofs.headless.Headless.turn.Goals as goal

-- ---- the keeper failed

pub returns-then-is_err-clause-continues : goal.returns-then-is_err-clause-continues
returns-then-is_err-clause-continues g c =
    let bad = sym c.is_err.ensures.value ∙ c.if-is_err.true in
    let seen = g.S.Sockets.seen in
    let end = c.serve_turn-end in
    let stays = OnErr-get c.save.result _ bad c.save.ensures.kept in
    let unwritten = OnErr-get c.save.result _ bad c.save.ensures.unwritten in
    let woken : end.result ≢ WaitFault = λ q. false≢true (sym (ap (λ (core : CoreView). core.unwritten) (end.ensures.unsaved q) ∙ c.requires.written) ∙ unwritten) in
    rw stays (record { faults = faults_then end.result; fits = faults-most end.result; step = subst (λ n. LoopStep false n (faults_then end.result) c.args.self.now end.new.self (seen c.args.sockets.now) (seen end.new.sockets)) (woke-once end.result woken) end.ensures.continues })

pub returns-then-is_err-clause-agrees : goal.returns-then-is_err-clause-agrees
returns-then-is_err-clause-agrees g c =
    let stays = OnErr-get c.save.result _ (sym c.is_err.ensures.value ∙ c.if-is_err.true) c.save.ensures.kept in
    rw stays c.serve_turn-end.ensures.agrees

pub returns-then-is_err-clause-calm : goal.returns-then-is_err-clause-calm
returns-then-is_err-clause-calm g c =
    let stays = OnErr-get c.save.result _ (sym c.is_err.ensures.value ∙ c.if-is_err.true) c.save.ensures.kept in
    rw stays c.serve_turn-end.ensures.calm

pub returns-then-is_err-clause-causes : goal.returns-then-is_err-clause-causes
returns-then-is_err-clause-causes g c =
    let stays = OnErr-get c.save.result _ (sym c.is_err.ensures.value ∙ c.if-is_err.true) c.save.ensures.kept in
    rw stays c.serve_turn-end.ensures.causes

pub returns-then-is_err-clause-contained : goal.returns-then-is_err-clause-contained
returns-then-is_err-clause-contained g c =
    let stays = OnErr-get c.save.result _ (sym c.is_err.ensures.value ∙ c.if-is_err.true) c.save.ensures.kept in
    rw stays c.serve_turn-end.ensures.contained

pub returns-then-is_err-clause-closes : goal.returns-then-is_err-clause-closes
returns-then-is_err-clause-closes g c =
    let stays = OnErr-get c.save.result _ (sym c.is_err.ensures.value ∙ c.if-is_err.true) c.save.ensures.kept in
    rw stays c.serve_turn-end.ensures.closes

pub returns-then-is_err-clause-once : goal.returns-then-is_err-clause-once
returns-then-is_err-clause-once g c =
    let stays = OnErr-get c.save.result _ (sym c.is_err.ensures.value ∙ c.if-is_err.true) c.save.ensures.kept in
    rw stays c.serve_turn-end.ensures.once

-- ---- it did not

pub returns-clause-once : goal.returns-clause-once
returns-clause-once g c =
    let states = OnOk-get c.save.result _ (sym c.is_err.ensures.value ∙ c.if-is_err.false) c.save.ensures.states in
    rw states (once-written false c.args.self.now c.serve_turn-end.new.self (g.S.Sockets.seen c.args.sockets.now) (g.S.Sockets.seen c.serve_turn-end.new.sockets) c.serve_turn-end.ensures.once)

pub returns-clause-continues : goal.returns-clause-continues
returns-clause-continues g c =
    let states = OnOk-get c.save.result _ (sym c.is_err.ensures.value ∙ c.if-is_err.false) c.save.ensures.states in
    let seen = g.S.Sockets.seen in
    let end = c.serve_turn-end in
    rw states (record { faults = faults_then end.result; fits = fits-then end.result; step = step-written c.args.self.now end.new.self (seen c.args.sockets.now) (seen end.new.sockets) end.ensures.continues })

pub returns-clause-agrees : goal.returns-clause-agrees
returns-clause-agrees g c =
    let states = OnOk-get c.save.result _ (sym c.is_err.ensures.value ∙ c.if-is_err.false) c.save.ensures.states in
    rw states (agrees-written c.serve_turn-end.new.self (g.S.Sockets.seen c.serve_turn-end.new.sockets) c.serve_turn-end.ensures.agrees)

pub returns-clause-calm : goal.returns-clause-calm
returns-clause-calm g c =
    let states = OnOk-get c.save.result _ (sym c.is_err.ensures.value ∙ c.if-is_err.false) c.save.ensures.states in
    let calm = c.serve_turn-end.ensures.calm in
    rw states (record { parted = calm.parted; asked = calm.asked })

pub returns-clause-causes : goal.returns-clause-causes
returns-clause-causes g c =
    let states = OnOk-get c.save.result _ (sym c.is_err.ensures.value ∙ c.if-is_err.false) c.save.ensures.states in
    let y = c.serve_turn-end.new.self in
    let seen = g.S.Sockets.seen in
    rw states (causes-as c.args.self.now y (written_state y) (seen c.args.sockets.now) (seen c.serve_turn-end.new.sockets) refl y.links.closed.items c.serve_turn-end.ensures.causes)

pub returns-clause-served : goal.returns-clause-served
returns-clause-served g c =
    let states = OnOk-get c.save.result _ (sym c.is_err.ensures.value ∙ c.if-is_err.false) c.save.ensures.states in
    rw states (λ on. (let served = c.serve_turn-end.ensures.served on in record { links = λ link one. served-written link c.args.self.now c.serve_turn-end.new.self (g.S.Sockets.seen c.args.sockets.now) (g.S.Sockets.seen c.serve_turn-end.new.sockets) (served.links link one); listener = served.listener; written = λ link one. sent-written link c.serve_turn-end.new.self (g.S.Sockets.seen c.serve_turn-end.new.sockets) (served.written link one) }))

pub returns-clause-sent : goal.returns-clause-sent
returns-clause-sent g c =
    let states = OnOk-get c.save.result _ (sym c.is_err.ensures.value ∙ c.if-is_err.false) c.save.ensures.states in
    rw states c.serve_turn-end.ensures.sent

pub returns-clause-contained : goal.returns-clause-contained
returns-clause-contained g c =
    let states = OnOk-get c.save.result _ (sym c.is_err.ensures.value ∙ c.if-is_err.false) c.save.ensures.states in
    rw states (loses-written c.args.self.now c.serve_turn-end.new.self c.serve_turn-end.ensures.contained)

pub returns-clause-closes : goal.returns-clause-closes
returns-clause-closes g c =
    let states = OnOk-get c.save.result _ (sym c.is_err.ensures.value ∙ c.if-is_err.false) c.save.ensures.states in
    let seen = g.S.Sockets.seen in
    rw states (closes-written c.args.self.now c.serve_turn-end.new.self (seen c.args.sockets.now) (seen c.serve_turn-end.new.sockets) c.serve_turn-end.ensures.closes)

pub returns-clause-quit : goal.returns-clause-quit
returns-clause-quit g c =
    let states = OnOk-get c.save.result _ (sym c.is_err.ensures.value ∙ c.if-is_err.false) c.save.ensures.states in
    rw states c.serve_turn-end.ensures.quit

pub returns-clause-goes_on : goal.returns-clause-goes_on
returns-clause-goes_on g c =
    let states = OnOk-get c.save.result _ (sym c.is_err.ensures.value ∙ c.if-is_err.false) c.save.ensures.states in
    rw states c.serve_turn-end.ensures.goes_on

pub returns-clause-unwoken : goal.returns-clause-unwoken
returns-clause-unwoken g c =
    let states = OnOk-get c.save.result _ (sym c.is_err.ensures.value ∙ c.if-is_err.false) c.save.ensures.states in
    rw states c.serve_turn-end.ensures.unwoken

pub returns-clause-unsaved : goal.returns-clause-unsaved
returns-clause-unsaved g c = λ waits.
    let states = OnOk-get c.save.result _ (sym c.is_err.ensures.value ∙ c.if-is_err.false) c.save.ensures.states in
    let same = c.serve_turn-end.ensures.unsaved waits in
    rw states (ap (λ (core : CoreView). record core { unwritten = false }) same ∙ ap (λ unwritten. record c.args.self.now.core { unwritten = unwritten }) (sym c.requires.written))

pub returns-clause-written : goal.returns-clause-written
returns-clause-written g c = λ kept.
    let states = OnOk-get c.save.result _ (sym c.is_err.ensures.value ∙ c.if-is_err.false) c.save.ensures.states in
    rw states refl

pub returns-clause-saves : goal.returns-clause-saves
returns-clause-saves g c = λ kept.
    let good = sym c.is_err.ensures.value ∙ c.if-is_err.false in
    let states = OnOk-get c.save.result _ good c.save.ensures.states in
    let writes = OnOk-get c.save.result _ good c.save.ensures.saves in
    let contents = g.K.Keeper.contents in
    rw states (saves-turn c.args.self.now.core c.serve_turn-end.new.self.core (contents c.args.keeper.now) (contents c.save.new.keeper) c.requires.written c.serve_turn-end.ensures.saves writes)

pub returns-clause-unwritten : goal.returns-clause-unwritten
returns-clause-unwritten g c = λ waits.
    let good = sym c.is_err.ensures.value ∙ c.if-is_err.false in
    let writes = OnOk-get c.save.result _ good c.save.ensures.saves in
    let contents = g.K.Keeper.contents in
    let none : unwritten_of c.serve_turn-end.new.self.core ≡ None = rw (c.serve_turn-end.ensures.unsaved waits, c.requires.written) refl in
    subst (λ o. WritesText o (contents c.args.keeper.now) (contents c.save.new.keeper)) none writes
