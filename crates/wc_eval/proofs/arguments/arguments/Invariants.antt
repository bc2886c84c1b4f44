use Rattle.std.proofs.Common.{◌≡◌, ◌-◌, ◌++◌, option_map}
use Rattle.wc_eval.specs.Arguments.{arguments_of, lent_texts}
use Rattle.wc_eval.proofs.arguments.arguments.Given as goal

abbrev pub invariant-loop-turn : goal.invariant-loop-turn
invariant-loop-turn l =
    option_map (λ more. lent_texts l.texts.items ++ more) (arguments_of (l.commas - l._turn) l.rest)
    ≡ arguments_of l.commas l.text
