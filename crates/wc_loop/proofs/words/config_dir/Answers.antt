use Rattle.std.proofs.Common.{sym, ◌∙◌}
use Rattle.wc_loop.proofs.WordsLemmas.{names_folder, names_turns, names_none}
use Rattle.wc_loop.proofs.words.config_dir.Goals as goal

pub loop-word-preserved-then-is_folder : goal.loop-word-preserved-then-is_folder
loop-word-preserved-then-is_folder c = sym (names_folder _ c.in-Some.word.now c.in-Some-first.value.now _ _ _ c.in-Some.ensures.some c.in-Some-first.ensures.some (sym c.is_folder.ensures ∙ c.if-is_folder.true)) ∙ c.loop-word.invariant

pub loop-word-preserved-then-passes_folder : goal.loop-word-preserved-then-passes_folder
loop-word-preserved-then-passes_folder c = sym (names_turns _ c.in-Some.word.now c.in-Some-first.value.now _ _ _ c.in-Some.ensures.some c.in-Some-first.ensures.some (sym c.is_folder.ensures ∙ c.if-is_folder.false) (sym c.passes_folder.ensures ∙ c.if-passes_folder.true)) ∙ c.loop-word.invariant

pub loop-word-preserved : goal.loop-word-preserved
loop-word-preserved c = sym (names_none _ c.in-Some.word.now c.in-Some-first.value.now _ _ _ c.in-Some.ensures.some c.in-Some-first.ensures.some (sym c.is_folder.ensures ∙ c.if-is_folder.false) (sym c.passes_folder.ensures ∙ c.if-passes_folder.false)) ∙ c.loop-word.invariant
