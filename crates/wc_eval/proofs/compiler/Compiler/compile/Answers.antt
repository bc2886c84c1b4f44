use Rattle.std.proofs.Common.{◌≡◌, ap, ◌∙◌, true}
use Rattle.regex.specs.Patterns.{Config}
use Rattle.wc_eval.specs.Matching.{folding_config}
use Rattle.wc_eval.proofs.Meaning.{refused_is_none}
use Rattle.wc_eval.proofs.compiler.Compiler.compile.Goals as goal

pub returns-in-Err-Syntax-clause-syntax : goal.returns-in-Err-Syntax-clause-syntax
returns-in-Err-Syntax-clause-syntax c _ =
    let made = c.in-Err-Syntax in
    let builder = c.case_insensitive-builder in
    let fold : Config → Config = λ k. record k { flags = record k.flags { case_insensitive = true } } in
    let sized = c.size_limit in
    let config : sized.result.config ≡ folding_config = ap (λ b. b.config) sized.ensures ∙ ap (λ b. b.config) builder.ensures ∙ ap fold c.new.ensures.config in
    let source : sized.result.source.now ≡ c.args.pattern.now = ap (λ b. b.source.now) sized.ensures ∙ ap (λ b. b.source.now) builder.ensures ∙ c.new.ensures.source ∙ c.in-Ok.ensures.cases.0 ∙ c.as_slice.ensures in
    rw (config, source) at (refused_is_none _ _ _ (made.ensures.by_grammar _ made.field-0-is) (rw made.field-0-is at made.ensures.kind))
