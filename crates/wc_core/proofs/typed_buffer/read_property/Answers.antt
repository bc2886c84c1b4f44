use Rattle.std.proofs.Common.{sym, ◌∙◌}
use Rattle.wc_core.proofs.TypedWords.{other_property}
use Rattle.wc_core.proofs.typed_buffer.read_property.Goals as goal

pub returns-else-eq-4 : goal.returns-else-eq-4
returns-else-eq-4 c = λ text. c.var_property.ensures text
    ∙ sym (other_property c.args.word.now text (sym (rw c.as_slice.ensures at c.eq.ensures) ∙ c.if-eq.false) (sym (rw c.as_slice-else-eq.ensures at c.eq-else-eq.ensures) ∙ c.if-eq-2.false) (sym (rw c.as_slice-else-eq-2.ensures at c.eq-else-eq-2.ensures) ∙ c.if-eq-3.false)
    (sym (rw c.as_slice-else-eq-3.ensures at c.eq-else-eq-3.ensures) ∙ c.if-eq-4.false))
