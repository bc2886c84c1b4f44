use Rattle.std.proofs.Common.{◌≡◌, false, [], drop}
use Rattle.std.specs.Prelude.{map, string_bytes}
use Rattle.wc_core.specs.CoreView.{CoreView}
use Rattle.wc_core.specs.Step.{commands_step}
use Rattle.wc_core.specs.Served.{Does}
use Rattle.wc_core.specs.Starts.{RunsCommands}
use Rattle.wc_core.proofs.core_state.Core.run_commands.Given as goal

-- what does the commands that are left has done all of them
abbrev pub invariant-loop-command : goal.invariant-loop-command
invariant-loop-command l = record {
  going : l.self.quits ≡ false;
  onward : (final : CoreView) → Does l.self final (λ state. commands_step state (map string_bytes (drop l.command-index l.commands))) → Does l.fn.self final (λ state. commands_step state (map string_bytes l.commands));
  each : (final : CoreView) → RunsCommands (map string_bytes (drop l.command-index l.commands)) l.self final → RunsCommands (map string_bytes l.commands) l.fn.self final;
  idle : map string_bytes l.commands ≡ [] → l.self ≡ l.fn.self;
}
