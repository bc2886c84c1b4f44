use Rattle.std.proofs.Common.{◌≡◌, ◌++◌}
use Rattle.std.specs.Prelude.{All, IfSome}
use Rattle.std.specs.Str.{IsUtf8}
use Rattle.std.specs.Option.{option_copied}
use Rattle.wc_triggers.specs.Commands.{commands_of, filled_of, pieces_left}
use Rattle.wc_triggers.proofs.KeyLemmas.{left_in}
use Rattle.wc_triggers.proofs.commands.commands_of.Given as goal

abbrev pub invariant-loop-rest : goal.invariant-loop-rest
invariant-loop-rest l = record {
  read : l.commands ++ filled_of (pieces_left (option_copied l.rest)) ≡ commands_of l.text;
  rest : IfSome (option_copied l.rest) IsUtf8;
  commands : All IsUtf8 l.commands;
}

abbrev pub decreases-loop-rest : goal.decreases-loop-rest
decreases-loop-rest l = left_in (option_copied l.rest)
