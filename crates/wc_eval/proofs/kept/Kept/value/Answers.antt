use Rattle.std.proofs.Common.{◌∙◌, Some, ap, option_map}
use Rattle.std.specs.Prelude.{string_bytes}
use Rattle.wc_eval.specs.Names.{defined_in}
use Rattle.wc_eval.proofs.KeptLemmas.{names_found}
use Rattle.wc_eval.proofs.kept.Kept.value.Goals as goal

pub returns-in-Some : goal.returns-in-Some
returns-in-Some c =
    ap Some c.as_str.ensures.value ∙ ap (option_map string_bytes) c.in-Some.ensures.value
    ∙ names_found c.args.name.now c.self.inside.names.entries
    ∙ ap (λ progress. defined_in c.args.name.now progress.names) c.self.view_is

pub returns-in-None : goal.returns-in-None
returns-in-None c =
    ap (option_map string_bytes) c.in-None.ensures.value
    ∙ names_found c.args.name.now c.self.inside.names.entries
    ∙ ap (λ progress. defined_in c.args.name.now progress.names) c.self.view_is
