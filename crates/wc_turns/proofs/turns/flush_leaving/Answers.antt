use Rattle.wc_turns.proofs.turns.flush_leaving.Goals as goal
use Rattle.std.proofs.Common.{sym, ◌∙◌}
use Rattle.wc_turns.proofs.CloseLemmas.{LoopStep-refl}
use Rattle.wc_turns.proofs.PartLemmas.{FailureIgnored-departed, IsSettled-failed, IsSettled-blocked, IsSettled-sent}

pub returns-then-is_lost-clause-continues : goal.returns-then-is_lost-clause-continues
returns-then-is_lost-clause-continues g c = LoopStep-refl _ _

pub send_link-requires : goal.send_link-requires
send_link-requires g c = record { missed = FailureIgnored-departed c.args.headless.now.core c.args.departure c.requires.first }

pub returns-then-is_lost-clause-done : goal.returns-then-is_lost-clause-done
returns-then-is_lost-clause-done g c = λ s. IsSettled-failed c.args.departure.link c.args.lost c.args.headless.now _ (c.is_lost.ensures c.if-is_lost.true) c.requires.failed

pub returns-then-is_blocked-clause-continues : goal.returns-then-is_blocked-clause-continues
returns-then-is_blocked-clause-continues g c = LoopStep-refl _ _

pub returns-then-is_blocked-clause-done : goal.returns-then-is_blocked-clause-done
returns-then-is_blocked-clause-done g c = λ s. IsSettled-blocked c.args.departure.link.0 c.args.headless.now _ (sym c.is_blocked.ensures ∙ c.if-is_blocked.true) s

pub returns-clause-done : goal.returns-clause-done
returns-clause-done g c = λ s. IsSettled-sent c.args.departure.link.0 c.send_link.new.headless (g.S.Sockets.seen c.args.sockets.now) (g.S.Sockets.seen c.send_link.new.sockets) (c.send_link.ensures.done s)
