use Rattle.std.proofs.Common.{None, sym, ◌∙◌}
use Rattle.std.proofs.lemmas.Bool.{false≢true}
use Rattle.wc_relaycmd.proofs.ReadLemmas.{request_of-no_text, request_of-called, request_from_call, refused_by}
use Rattle.wc_relaycmd.proofs.line.request_in.Goals as goal

pub returns-then-not-is_text-clause-computed : goal.returns-then-not-is_text-clause-computed
returns-then-not-is_text-clause-computed c =
    request_of-no_text c.args.line.now c.args.escaped (λ utf8. false≢true (sym c.if-not-is_text.true ∙ c.is_text.ensures.1 utf8))

pub returns-in_default-clause-computed : goal.returns-in_default-clause-computed
returns-in_default-clause-computed c =
    request_of-called c.args.line.now c.args.escaped None (c.is_text.ensures.0 c.if-not-is_text.false) (rw c.in_default.is at c.read_call.ensures)

pub returns-clause-computed : goal.returns-clause-computed
returns-clause-computed c =
    request_from_call _ c.args.line.now c.args.escaped _ (c.is_text.ensures.0 c.if-not-is_text.false) (rw c.in-Some.is at c.read_call.ensures) c.request_by.ensures

pub returns-clause-refused : goal.returns-clause-refused
returns-clause-refused c =
    refused_by _ c.args.line.now _ (c.is_text.ensures.0 c.if-not-is_text.false) (rw c.in-Some.is at c.read_call.ensures)
