-- What is wrong with the replacements is wrong with the trigger.
use Rattle.std.proofs.Common.{◌≡◌, ℕ, List, Some, Result, Err, ap, subst, ◌∙◌}
use Rattle.wc_hooks.specs.declared.kind.HookKind.{HookKind}
use Rattle.wc_eval.specs.Verdicts.{Oracle}
use Rattle.wc_triggers.specs.Words.{word_at}
use Rattle.wc_triggers.specs.Hooks.{kind_named}
use Rattle.wc_triggers.specs.Arguments.{arguments_of}
use Rattle.wc_triggers.specs.Replacements.{replacements_of}
use Rattle.wc_triggers.specs.Triggers.{fine_only, by_patterns, by_arguments, by_hook, IsReading, Reading}
use Rattle.wc_triggers.specs.declared.arguments.Arguments.{Arguments}
use Rattle.wc_triggers.specs.declared.replacements.Replacement.{Replacement}
use Rattle.wc_triggers.specs.declared.refused.TriggerRefused.{TriggerRefused}
use Rattle.wc_triggers.specs.declared.refused.TriggerRefused.TheVariants as refused

module _ (words : List (List ℕ)) (kind : HookKind) (arguments : Arguments) where
  patterns_refused : (found : Result (List Replacement) TriggerRefused) (e : TriggerRefused) → IsReading found (Err e) →
      IsReading (by_patterns words kind arguments found) (Err e)
  patterns_refused found refused.BadWords is = ap (by_patterns words kind arguments) is
  patterns_refused found refused.BadHook is = ap (by_patterns words kind arguments) is
  patterns_refused found refused.BadArguments is = ap (by_patterns words kind arguments) is
  patterns_refused found refused.BadPattern is = ap (by_patterns words kind arguments) is
  patterns_refused found refused.BadReturn is = ap (by_patterns words kind arguments) is
  patterns_refused found refused.BadPost is = ap (by_patterns words kind arguments) is
  patterns_refused found refused.NoMemory is = tt

  pub replacements_refused : (oracle : Oracle) (e : TriggerRefused) → Some kind ≡ kind_named (word_at words 1) →
      Some arguments ≡ arguments_of kind (word_at words 2) →
      IsReading (fine_only oracle (replacements_of kind (word_at words 4))) (Err e) →
      IsReading (by_hook oracle words (kind_named (word_at words 1))) (Err e)
  replacements_refused oracle e hook said is =
      let P : Reading → Type 0 = λ r. IsReading r (Err e) in
      subst P (ap (by_arguments oracle words kind) said ∙ ap (by_hook oracle words) hook)
      (patterns_refused (fine_only oracle (replacements_of kind (word_at words 4))) e is)
