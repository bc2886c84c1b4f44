use Rattle.wc_options.proofs.ConfigLemmas.{value-text}
use Rattle.wc_options.proofs.options.Options.take_text.Goals as goal

pub take_written-requires : goal.take_written-requires
take_written-requires c = value-text c.args.line.now c.in-Some.name.now c.in-Some.written.now c.in-Some.ensures c.requires
