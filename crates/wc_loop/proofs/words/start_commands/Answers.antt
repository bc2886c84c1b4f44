use Rattle.std.proofs.Common.{sym, ap, ◌∙◌, ◌++◌, ◌∷◌, [], cond, map, string_bytes}
use Rattle.wc_loop.specs.Words.{commands_from}
use Rattle.wc_loop.proofs.WordsLemmas.{names_command, names_other, names_nothing, pushed_map}
use Rattle.wc_loop.proofs.words.start_commands.Goals as goal

pub loop-word-preserved-then-is_command : goal.loop-word-preserved-then-is_command
loop-word-preserved-then-is_command c =
    let items = c.loop-word.commands.items in
    let command = c.in_ok-command.command in
    let pushed = c.push.ensures.items ∙ ap (λ b. cond b (items ++ command ∷ []) items) c.if-is_err.ensures.negation in
    let all = ap (map string_bytes) pushed ∙ pushed_map items command ∙ ap (λ t. map string_bytes items ++ t ∷ []) c.in_ok-command.ensures in
    ap (λ commands. commands_from commands (map string_bytes c.in-Some-first.following.now)) all
    ∙ sym (names_command _ c.in-Some.word.now c.in-Some-first.value.now _ _ _ c.in-Some.ensures.some c.in-Some-first.ensures.some (sym c.is_command.ensures ∙ c.if-is_command.true)) ∙ c.loop-word.invariant

pub loop-word-preserved-then-passes_command : goal.loop-word-preserved-then-passes_command
loop-word-preserved-then-passes_command c = sym (names_other _ c.in-Some.word.now c.in-Some-first.value.now _ _ _ c.in-Some.ensures.some c.in-Some-first.ensures.some (sym c.is_command.ensures ∙ c.if-is_command.false) (sym c.passes_command.ensures ∙ c.if-passes_command.true)) ∙ c.loop-word.invariant

pub loop-word-preserved : goal.loop-word-preserved
loop-word-preserved c = sym (names_nothing _ c.in-Some.word.now c.in-Some-first.value.now _ _ _ c.in-Some.ensures.some c.in-Some-first.ensures.some (sym c.is_command.ensures ∙ c.if-is_command.false) (sym c.passes_command.ensures ∙ c.if-passes_command.false)) ∙ c.loop-word.invariant
