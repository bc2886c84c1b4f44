use Rattle.std.proofs.Common.{◌∙◌}
use Rattle.wc_objects.proofs.Decimals.{not_text, not_parsed, not_spelt, is_number}
use Rattle.wc_objects.proofs.hex.decimal_number.Goals as goal

pub returns-in_default : goal.returns-in_default
returns-in_default c = not_text c.args.text.now c.in_default.ensures.cases.0

pub returns-in_default-from_str_radix : goal.returns-in_default-from_str_radix
returns-in_default-from_str_radix c =
    not_parsed _ c.args.text.now c.in-Ok.digits.now c.in_default-from_str_radix.field-0 c.in-Ok.ensures.cases.0 c.in_default-from_str_radix.ensures.value

pub returns-then-eq : goal.returns-then-eq
returns-then-eq c =
    let parsed = c.in-Ok-from_str_radix.ensures.value in
    is_number c.args.text.now c.in-Ok.digits.now c.as_bytes.result.now c.in-Ok-from_str_radix.number parsed.0.1 parsed.1
    (c.as_bytes.ensures.value ∙ c.format.ensures.text) c.if-eq.ensures

pub returns-else-eq : goal.returns-else-eq
returns-else-eq c =
    let parsed = c.in-Ok-from_str_radix.ensures.value in
    not_spelt c.args.text.now c.in-Ok.digits.now c.as_bytes.result.now c.in-Ok-from_str_radix.number c.in-Ok.ensures.cases.0 parsed.0.1 parsed.1
    (c.as_bytes.ensures.value ∙ c.format.ensures.text) c.if-eq.ensures
