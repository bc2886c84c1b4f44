-- What a trigger is, and what a text says that it is.
use Rattle.std.specs.Prelude.{◌≡◌, ℕ, Bool, true, not, ◌&&◌, ◌||◌, List, All, IsTrue}
use Rattle.std.specs.Prelude.{Option, Some, None, is_some, Result, Ok, Err, if◌then◌else◌}
use Rattle.std.specs.Str.{IsUtf8}
use Rattle.wc_text.specs.Mask.{some_end, is_nothing, after_front}
use Rattle.wc_hooks.specs.Kinds.{same_kind}
use Rattle.wc_hooks.specs.declared.kind.HookKind.{HookKind}
use Rattle.wc_hooks.specs.declared.kind.HookKind.TheVariants.{Print}
use Rattle.wc_lines.specs.declared.line.Line.{Line}
use Rattle.wc_eval.specs.Verdicts.{Oracle, VerdictsView}
use Rattle.wc_filters.specs.Masks.{buffers_match, tags_match}
use Rattle.wc_triggers.specs.Words.{trigger_words, word_at}
use Rattle.wc_triggers.specs.Hooks.{kind_named}
use Rattle.wc_triggers.specs.Arguments.{arguments_of}
use Rattle.wc_triggers.specs.Commands.{commands_of}
use Rattle.wc_triggers.specs.Outcomes.{code_of, post_of}
use Rattle.wc_triggers.specs.Replacements.{replacements_of, HasTexts, are_fine, are_known}
use Rattle.wc_triggers.specs.declared.arguments.Arguments.{Arguments}
use Rattle.wc_triggers.specs.declared.replacements.Replacement.{Replacement}
use Rattle.wc_triggers.specs.declared.outcomes.ReturnCode.{ReturnCode}
use Rattle.wc_triggers.specs.declared.outcomes.PostAction.{PostAction}
use Rattle.wc_triggers.specs.declared.trigger.TriggerParts.{TriggerParts}
use Rattle.wc_triggers.specs.declared.refused.TriggerRefused.{TriggerRefused}
use Rattle.wc_triggers.specs.declared.refused.TriggerRefused.TheVariants as refused

-- ---- what holds of each trigger

-- what is evaluated and searched for is UTF-8
pub record AreTexts (t : TriggerParts) : Type 0 where
  pub condition : IsUtf8 t.condition
  pub replacements : All HasTexts t.replacements
  pub commands : All IsUtf8 t.commands

-- each pattern was judged to be one
abbrev pub IsFine : VerdictsView → TriggerParts → Type 0
IsFine verdicts t = IsTrue (are_known verdicts t.replacements)

-- ---- which lines a print listens to

-- the part stands somewhere in the text, with ASCII case ignored
abbrev pub contains_folded : List ℕ → List ℕ → Bool
contains_folded part text = some_end (λ end. is_some (after_front true part end)) text

abbrev pub listens_to_buffer : List ℕ → List ℕ → Bool
listens_to_buffer masks full_name = is_nothing masks || buffers_match masks full_name

abbrev pub listens_to_tags : List ℕ → List (List ℕ) → Bool
listens_to_tags items tags = is_nothing items || tags_match items tags

-- the arguments of a print match the line, of which an empty one always does
abbrev pub matches_line : Arguments → List ℕ → Line → Bool
matches_line arguments full_name line =
    listens_to_buffer arguments.buffers full_name
    && (listens_to_tags arguments.tags line.tags
    && contains_folded arguments.text line.message)

-- another hook listens to all
abbrev pub listens : TriggerParts → List ℕ → Line → Bool
listens t full_name line = not (same_kind t.kind Print)
    || matches_line t.arguments full_name line

-- ---- what a text says

abbrev pub new_trigger : List (List ℕ) → HookKind → Arguments → List Replacement → ReturnCode →
    PostAction → TriggerParts
new_trigger words kind arguments replacements code post = record {
  name = word_at words 0;
  kind = kind;
  arguments = arguments;
  condition = word_at words 3;
  replacements = replacements;
  commands = commands_of (word_at words 5);
  code = code;
  post = post;
  enabled = true;
}

abbrev pub Reading : Type 0
Reading = Result TriggerParts TriggerRefused

abbrev pub by_post : List (List ℕ) → HookKind → Arguments → List Replacement → ReturnCode →
    Option PostAction → Reading
by_post words kind arguments replacements code None = Err refused.BadPost
by_post words kind arguments replacements code (Some post) =
    Ok (new_trigger words kind arguments replacements code post)

abbrev pub by_code : List (List ℕ) → HookKind → Arguments → List Replacement →
    Option ReturnCode → Reading
by_code words kind arguments replacements None = Err refused.BadReturn
by_code words kind arguments replacements (Some code) =
    by_post words kind arguments replacements code (post_of (word_at words 7))

-- what is replaced, where each pattern is one
abbrev pub fine_only : Oracle → Option (List Replacement) →
    Result (List Replacement) TriggerRefused
fine_only oracle None = Err refused.BadPattern
fine_only oracle (Some replacements) = if are_fine oracle replacements
    then Ok replacements else Err refused.BadPattern

abbrev pub by_patterns : List (List ℕ) → HookKind → Arguments →
    Result (List Replacement) TriggerRefused → Reading
by_patterns words kind arguments (Err refusal) = Err refusal
by_patterns words kind arguments (Ok replacements) =
    by_code words kind arguments replacements (code_of (word_at words 6))

abbrev pub by_arguments : Oracle → List (List ℕ) → HookKind → Option Arguments → Reading
by_arguments oracle words kind None = Err refused.BadArguments
by_arguments oracle words kind (Some arguments) =
    by_patterns words kind arguments (fine_only oracle (replacements_of kind (word_at words 4)))

abbrev pub by_hook : Oracle → List (List ℕ) → Option HookKind → Reading
by_hook oracle words None = Err refused.BadHook
by_hook oracle words (Some kind) =
    by_arguments oracle words kind (arguments_of kind (word_at words 2))

abbrev pub by_words : Oracle → Option (List (List ℕ)) → Reading
by_words oracle None = Err refused.BadWords
by_words oracle (Some words) = by_hook oracle words (kind_named (word_at words 1))

-- the trigger that a text is, or the first reason why it is none
abbrev pub reading_of : Oracle → List ℕ → Reading
reading_of oracle text = by_words oracle (trigger_words text)

-- Only want of memory comes of itself.
abbrev pub IsReading : {A : Type 0} → Result A TriggerRefused → Result A TriggerRefused → Type 0
IsReading reading (Ok found) = reading ≡ Ok found
IsReading reading (Err refused.NoMemory) = Unit {0}
IsReading reading (Err other) = reading ≡ Err other
