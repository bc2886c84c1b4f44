use Rattle.std.proofs.Common.{◌≡◌, ◌++◌, map, drop}
use Rattle.std.specs.List.{flat_map}
use Rattle.wc_options.specs.Config.{text_of_lines, server_lines}
use Rattle.wc_options.proofs.options.Options.write_servers.Given as goal

abbrev pub invariant-loop-place : goal.invariant-loop-place
invariant-loop-place l =
    l.text ++ text_of_lines (flat_map server_lines (drop l.place l.fn.self.servers)) ≡ l.fn.text ++ text_of_lines (flat_map server_lines l.fn.self.servers)
