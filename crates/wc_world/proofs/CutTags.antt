-- The tags that a line takes are a front of those that are given.
use Rattle.std.proofs.Common.{◌≡◌, ℕ, ◌+◌, ◌≤◌, ◌||◌, ltb, List, [], ◌∷◌, length, take, refl, ap, sym, subst, ◌∙◌, arith, All}
use Rattle.std.specs.Str.{IsUtf8}
use Rattle.std.proofs.lemmas.List.Elements.{All-take}
use Rattle.wc_lines.specs.LineText.{HasUtf8Texts}
use Rattle.wc_text.proofs.CutLemmas.{cut_utf8}
use Rattle.wc_buffers.proofs.GroupLaws.{by_bool}
use Rattle.wc_model.specs.declared.change.LineSpec.{LineSpec}
use Rattle.wc_model.specs.LineCuts.{tags_from, cut_tags, line_of}
use Rattle.wc_world.specs.Texts.{IsLineText}

front_from : (count size : ℕ) (tags : List (List ℕ)) → tags_from count size tags ≡ take (length (tags_from count size tags)) tags
front_from count size [] = refl
front_from count size (tag ∷ tags) = by_bool (ltb 32 (count + 1) || ltb 256 (size + length tag)) _
    (λ t. rw t refl)
    (λ t. rw t (ap (λ l. tag ∷ l) (front_from (count + 1) (size + length tag) tags)))

shorter_from : (count size : ℕ) (tags : List (List ℕ)) → length (tags_from count size tags) ≤ length tags
shorter_from count size [] = omega arith
shorter_from count size (tag ∷ tags) = by_bool (ltb 32 (count + 1) || ltb 256 (size + length tag)) _
    (λ t. rw t (omega arith))
    (λ t. rw t (let r = shorter_from (count + 1) (size + length tag) tags in omega arith))

pub cut_tags_front : (tags : List (List ℕ)) → cut_tags tags ≡ take (length (cut_tags tags)) tags
cut_tags_front tags = front_from 0 0 tags

pub cut_tags_length : (tags : List (List ℕ)) → length (cut_tags tags) ≤ length tags
cut_tags_length tags = shorter_from 0 0 tags

-- a line that is cut has text where what was given is text
pub line_text : (printed handle : ℕ) (spec : LineSpec) → IsLineText spec → HasUtf8Texts (line_of printed handle spec)
line_text printed handle spec t = record {
  tags = subst (λ tags. All IsUtf8 tags) (sym (cut_tags_front spec.tags)) (All-take IsUtf8 (length (cut_tags spec.tags)) spec.tags t.tags);
  prefix = cut_utf8 spec.prefix 128;
  message = cut_utf8 spec.message 1024;
}

take_whole : (tags : List (List ℕ)) → take (length tags) tags ≡ tags
take_whole [] = refl
take_whole (tag ∷ tags) = ap (λ l. tag ∷ l) (take_whole tags)

-- where as many tags fit as there are, all do
pub all_fit : (tags : List (List ℕ)) → length (cut_tags tags) ≡ length tags → tags ≡ cut_tags tags
all_fit tags e = sym (cut_tags_front tags ∙ ap (λ n. take n tags) e ∙ take_whole tags)

-- what `fitting_tags` needs
pub ruleset fitting_tags_facts = (cut_tags_front, cut_tags_length, all_fit)
