use Rattle.std.proofs.Common.{◌≡◌, ◌++◌, true, map, take, drop, length}
use Rattle.wc_board.specs.RelayPass.{IsGivenAt}
use Rattle.wc_board.specs.Services.{kind_of, buffer_of, serve_connection}
use Rattle.wc_board.proofs.ConnectionLemmas.{ServedTo}
use Rattle.wc_board.proofs.relay_pass.serve_pass.Given as goal

abbrev pub invariant-loop-place : goal.invariant-loop-place
invariant-loop-place g l = record {
  pass : IsGivenAt l.hooks l.ids l.place l.connections.items l.given;
  told : l.told ≡ true → l.connections.items ≡ map (serve_connection l.service) (take l.place l.fn.connections.items) ++ drop l.place l.fn.connections.items;
  each : ServedTo (kind_of l.service) (buffer_of l.service) (serve_connection l.service) l.place l.fn.connections.items l.connections.items;
  length : length l.connections.items ≡ length l.fn.connections.items;
  drawn : l.hooks.hooked ≡ l.fn.hooks.hooked;
  here : l.pass ≡ l.fn.pass;
}
