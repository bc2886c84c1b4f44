use Rattle.std.proofs.Common.{◌++◌}
use Rattle.wc_core.specs.Typed.{typed_line}
use Rattle.wc_core.proofs.TypedLemmas.{typed_utf8, others_text}
use Rattle.wc_core.proofs.core_state.Core.plain_input.Goals as goal

pub serve_line-requires-clause-text : goal.serve_line-requires-clause-text
serve_line-requires-clause-text c = others_text (typed_line c.args.line.now) (c.in-Some.front.now ++ c.in-Some.name.now) (typed_utf8 c.args.line.now c.requires) c.in-Some.ensures
