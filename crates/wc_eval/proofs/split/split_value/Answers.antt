use Rattle.std.proofs.Common.{◌∙◌, length, ap, sym}
use Rattle.std.proofs.lemmas.Bool.{eqb-true}
use Rattle.std.specs.Str.{chars}
use Rattle.std.proofs.Common.{IsUtf8, subst}
use Rattle.wc_eval.proofs.CharacterLemmas.{comma_utf8, split_is, ok_maps}
use Rattle.wc_eval.proofs.split.split_value.Goals as goal

pub characters-requires : goal.characters-requires
characters-requires c =
    subst IsUtf8 (sym c.or_comma.ensures.text) (comma_utf8 c.args.separators.now c.requires.separators)

pub returns-clause-text : goal.returns-clause-text
returns-clause-text c =
    ok_maps c.part_of.result _ _ (λ value is.
    split_is c.args.number.now c.args.separators.now c.args.flags.now c.args.text.now
    c.as_slice.result.now c.as_slice-2.result.now value
    (eqb-true (length c.args.flags.now) 0 (sym c.if-not-is_empty.ensures))
    (c.as_slice.ensures.value ∙ c.in_ok-among.ensures ∙ ap chars c.or_comma.ensures.text)
    (c.as_slice-2.ensures.value ∙ c.in_ok-characters.ensures)
    (is c.as_slice.result.now c.in_ok-set.ensures)) c.part_of.ensures.text
