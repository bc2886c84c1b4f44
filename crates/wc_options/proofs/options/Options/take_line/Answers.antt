use Rattle.std.proofs.Common.{◌∙◌, sym}
use Rattle.std.proofs.lemmas.Str.{IsUtf8-from_is_utf8}
use Rattle.wc_options.proofs.ConfigLemmas.{line_taken}
use Rattle.wc_options.proofs.options.Options.take_line.Goals as goal

pub take_text-requires : goal.take_text-requires
take_text-requires c = IsUtf8-from_is_utf8 c.args.line.now (sym c.is_utf8.ensures ∙ c.if-is_utf8.true)

pub returns-then-is_utf8-clause-taken : goal.returns-then-is_utf8-clause-taken
returns-then-is_utf8-clause-taken c =
    rw (line_taken c.args.version c.args.self.now c.args.line.now (sym c.if-is_passed_over.false ∙ c.is_passed_over.ensures) (sym c.if-is_utf8.true ∙ c.is_utf8.ensures)) c.take_text.ensures.taken

pub returns-then-is_utf8-clause-refused : goal.returns-then-is_utf8-clause-refused
returns-then-is_utf8-clause-refused c =
    rw (line_taken c.args.version c.args.self.now c.args.line.now (sym c.if-is_passed_over.false ∙ c.is_passed_over.ensures) (sym c.if-is_utf8.true ∙ c.is_utf8.ensures)) c.take_text.ensures.refused
