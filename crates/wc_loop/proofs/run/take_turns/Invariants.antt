use Rattle.std.proofs.Common.{◌≡◌, false, None, IsTrue, ◌≤◌}
use Rattle.wc_turns.specs.Saves.{SavesTurn}
use Rattle.wc_turns.specs.Parties.{IsCalm}
use Rattle.wc_turns.specs.Turns.{LoopStep, AgreesWithSockets}
use Rattle.wc_loop.specs.Endings.{LastTurn, ServedLast}
use Rattle.wc_loop.proofs.run.take_turns.Given as goal

abbrev pub invariant-loop : goal.invariant-loop
invariant-loop g l = record {
  continues : LoopStep false l.counter 0 l.fn.headless l.headless (g.S.Sockets.seen l.fn.sockets) (g.S.Sockets.seen l.sockets);
  agrees : AgreesWithSockets l.headless (g.S.Sockets.seen l.sockets);
  calm : IsCalm l.headless.core;
  going : l.headless.core.quits ≡ false;
  causes : 1 ≤ l.headless.turns → LastTurn l.fn.headless l.headless (g.S.Sockets.seen l.fn.sockets) (g.S.Sockets.seen l.sockets);
  served : 1 ≤ l.counter → ServedLast (g.S.Sockets.seen l.fn.sockets) (g.S.Sockets.seen l.sockets) l.headless;
  written : l.headless.core.unwritten ≡ false;
  saves : SavesTurn l.fn.headless.core l.headless.core (g.K.Keeper.contents l.fn.keeper) (g.K.Keeper.contents l.keeper);
  unsaved : l.headless.turns ≡ 0 → l.headless.core.saved ≡ None;
  unwoken : l.headless.turns ≡ 0 → g.K.Keeper.contents l.keeper ≡ g.K.Keeper.contents l.fn.keeper;
  unasked : l.headless.turns ≡ 0 → IsTrue (g.S.Sockets.seen l.sockets).tells → (g.S.Sockets.seen l.sockets).asked ≡ (g.S.Sockets.seen l.fn.sockets).asked;
  faults : g.K.Keeper.faults l.keeper ≡ g.K.Keeper.faults l.fn.keeper;
  count : l.headless.turns ≡ l.counter;
}
