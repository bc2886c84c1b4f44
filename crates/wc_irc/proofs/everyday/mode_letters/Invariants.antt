use Rattle.std.proofs.Common.{◌≡◌, ◌++◌, List, ℕ, map, drop}
use Rattle.wc_irc.specs.CommandActs.{mode_letters}
use Rattle.wc_irc.proofs.everyday.mode_letters.Given as goal

-- one letter for each name so far
abbrev pub invariant-loop : goal.invariant-loop
invariant-loop l = l.letters ++ map (λ (name : List ℕ). l.letter) (drop l.index l.names) ≡ mode_letters l.adds l.letter l.names
