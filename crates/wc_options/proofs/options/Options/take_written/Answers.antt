use Rattle.std.proofs.Common.{sym, subst, ◌∙◌}
use Rattle.std.specs.Str.{IsUtf8}
use Rattle.wc_options.proofs.QuotesLemmas.{unquoted-text}
use Rattle.wc_options.proofs.options.Options.take_written.Goals as goal

pub take_value-requires-in-Ok-Some : goal.take_value-requires-in-Ok-Some
take_value-requires-in-Ok-Some c =
    subst IsUtf8 (sym c.as_slice.ensures) (unquoted-text c.args.written.now c.in-Ok-Some.value c.requires (sym c.in-Ok-Some.ensures.value ∙ c.in-Ok-Some.field-0-is))
