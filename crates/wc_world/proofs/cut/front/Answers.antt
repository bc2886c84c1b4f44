use Rattle.std.proofs.Common.{◌≡◌, ◌∙◌, ap, subst, sym}
use Rattle.std.specs.Prelude.{take}
use Rattle.std.specs.Str.{IsUtf8}
use Rattle.wc_text.proofs.CutLemmas.{cut_utf8}
use Rattle.wc_world.proofs.cut.front.Goals as goal

-- the front up to the place of a cut is text
pub returns-clause-utf8 : goal.returns-clause-utf8
returns-clause-utf8 c =
    let text = c.as_slice-text.result.now in
    let place : c.split_at.result.0.now ≡ take c.cut.result text = c.split_at.ensures.front in
    subst IsUtf8 (sym (place ∙ ap (λ n. take n text) c.cut.ensures)) (cut_utf8 text c.args.limit)
