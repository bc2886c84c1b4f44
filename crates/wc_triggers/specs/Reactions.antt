-- What a trigger does at an event, up to its commands.
use Rattle.std.specs.Prelude.{ℕ, Bool, true, false, ◌||◌, List, [], ◌∷◌, map, All, bytes_eq}
use Rattle.std.specs.Prelude.{Option, Some, None, if◌then◌else◌}
use Rattle.std.specs.Str.{IsUtf8}
use Rattle.wc_text.specs.Mask.{is_nothing}
use Rattle.wc_text.specs.declared.names.Pair.{Pair}
use Rattle.wc_eval.specs.Verdicts.{Oracle}
use Rattle.wc_eval.specs.Names.{Facts, HasText, value_of}
use Rattle.wc_eval.specs.Progress.{fresh}
use Rattle.wc_eval.specs.Matching.{all_groups_in}
use Rattle.wc_eval.specs.Meaning.{condition_holds}
use Rattle.wc_eval.specs.Replaced.{Groups, Evaluation, group_texts, replaced}
use Rattle.wc_triggers.specs.declared.replacements.Replacement.{Replacement}
use Rattle.wc_triggers.specs.declared.trigger.TriggerParts.{TriggerParts}
use Rattle.wc_triggers.specs.declared.outcomes.ReturnCode.TheVariants as codes_are
use Rattle.wc_triggers.specs.declared.outcomes.PostAction.TheVariants as actions
use Rattle.wc_triggers.specs.declared.run.Run.{Run}
use Rattle.wc_triggers.specs.declared.react.Reaction.{Reaction}

-- ---- variables

-- the value of a variable after this name is given this value
abbrev pub value_after : List ℕ → List ℕ → Pair → List ℕ
value_after name value v = if bytes_eq v.name name then value else v.value

abbrev pub var_after : List ℕ → List ℕ → Pair → Pair
var_after name value v = record { name = v.name; value = value_after name value v }

abbrev pub with_value : List ℕ → List ℕ → List Pair → List Pair
with_value name value vars = map (var_after name value) vars

-- ---- what is replaced

-- Where a run begins: what its replacements come to is one evaluation.
abbrev pub begun : Facts → Run
begun facts = record { vars = facts.vars; groups = facts.groups; evaluation = Some fresh }

-- the last of some matches
abbrev pub last_match : Groups → List Groups → Groups
last_match m [] = m
last_match m (n ∷ ns) = last_match n ns

-- a variable has another value, and the last match had these groups
abbrev pub with_replaced : List ℕ → List (List ℕ) → List ℕ × Evaluation → Run → Run
with_replaced name groups made run = record {
  vars = with_value name made.0 run.vars;
  groups = groups;
  evaluation = made.1;
}

-- these matches in the text of the part's variable; where there is none nothing changes
abbrev pub matched : Facts → Oracle → Replacement → List ℕ → List Groups → Run → Run
matched facts oracle part text [] run = run
matched facts oracle part text (m ∷ ms) run =
    with_replaced part.variable (group_texts text (last_match m ms))
    (replaced (record facts { vars = run.vars }) oracle part.replacement text (m ∷ ms)
    run.evaluation) run

-- a variable that is not there has no match
abbrev pub in_variable : Facts → Oracle → Replacement → Option (List ℕ) → Run → Run
in_variable facts oracle part None run = run
in_variable facts oracle part (Some text) run =
    matched facts oracle part text (all_groups_in part.pattern text) run

-- after a part: each match in its variable is replaced
abbrev pub replaced_by : Facts → Oracle → Replacement → Run → Run
replaced_by facts oracle part run =
    in_variable facts oracle part (value_of part.variable run.vars) run

-- after all parts, in order
abbrev pub all_replaced : Facts → Oracle → List Replacement → Run → Run
all_replaced facts oracle [] run = run
all_replaced facts oracle (part ∷ parts) run =
    all_replaced facts oracle parts (replaced_by facts oracle part run)

-- ---- what it does

-- an empty condition always holds
abbrev pub fires : TriggerParts → Facts → Oracle → Bool
fires t facts oracle = is_nothing t.condition || condition_holds facts oracle t.condition

-- it does nothing
abbrev pub idle : Run → Reaction
idle run = record {
  fired = false;
  vars = run.vars;
  groups = run.groups;
  commands = [];
  code = codes_are.Ok;
  post = actions.Keep;
}

-- it goes on with its commands, which are texts that are still to be evaluated, each at its turn
abbrev pub reaction_after : TriggerParts → Run → Reaction
reaction_after t run = record {
  fired = true;
  vars = run.vars;
  groups = run.groups;
  commands = t.commands;
  code = t.code;
  post = t.post;
}

-- what a trigger does at an event of which these facts are known
unfoldable pub reaction_of : TriggerParts → Facts → Oracle → Reaction
reaction_of t facts oracle = if fires t facts oracle
    then reaction_after t (all_replaced facts oracle t.replacements (begun facts))
    else idle (begun facts)

-- ---- what is UTF-8

pub record RunsOnTexts (run : Run) : Type 0 where
  pub vars : All HasText run.vars
  pub groups : All IsUtf8 run.groups

pub record SaysTexts (reaction : Reaction) : Type 0 where
  pub vars : All HasText reaction.vars
  pub groups : All IsUtf8 reaction.groups
  pub commands : All IsUtf8 reaction.commands
