-- A line that is printed is short.
use Rattle.std.proofs.Common.{◌≡◌, ℕ, ◌+◌, ◌≤◌, ◌^◌, Bool, true, false, cond, ◌||◌, ltb, List, [], ◌∷◌, length, sum_by, All, refl, sym, subst, arith, IsUtf8}
use Rattle.std.specs.Prelude.{pos, negsuc, codes}
use Rattle.std.specs.Int.{w8}
use Rattle.std.specs.Int.RustNames.{FitsSigned}
use Rattle.std.proofs.lemmas.Bool.Decides.{nat_tests}
use Rattle.std.proofs.lemmas.List.{length-take}
use Rattle.std.proofs.lemmas.List.Elements.{All-take}
use Rattle.std.proofs.lemmas.List.Sums.{sum_by-cons}
use Rattle.wc_text.specs.Cut.{cut_of}
use Rattle.wc_text.proofs.CutLemmas.{cut_within, cut_utf8}
use Rattle.wc_buffers.specs.Vars.{cut_to}
use Rattle.wc_world.proofs.CutTags.{cut_tags_front}
use Rattle.wc_model.specs.declared.change.LineSpec.{LineSpec}
use Rattle.wc_model.specs.LineCuts.{tags_from, cut_tags, line_of}
use Rattle.wc_model.specs.Levels.{has_tag, highlight_of, notify_of}
use Rattle.wc_mirror_laws.specs.Printed.{IsPrinted}

tags_few : (count size : ℕ) (tags : List (List ℕ)) → count ≤ 32 → count + length (tags_from count size tags) ≤ 32
tags_few count size [] most = omega arith
tags_few count size (tag ∷ tags) most = by (ltb 32 (count + 1)) (ltb 256 (size + length tag)) refl (tags_few (count + 1) (size + length tag) tags) where
  by : (a b : Bool) → ltb 32 (count + 1) ≡ a → (count + 1 ≤ 32 → count + 1 + length (tags_from (count + 1) (size + length tag) tags) ≤ 32)
      → count + length (cond (a || b) [] (tag ∷ tags_from (count + 1) (size + length tag) tags)) ≤ 32
  by true b t rest = omega arith
  by false true t rest = omega arith
  by false false t rest = let le : count + 1 ≤ 32 = grind (arith, nat_tests) in let h = rest le in omega arith

abbrev sizes : List (List ℕ) → ℕ
sizes tags = sum_by (λ tag. length tag) tags

tags_short : (count size : ℕ) (tags : List (List ℕ)) → size ≤ 256 → size + sizes (tags_from count size tags) ≤ 256
tags_short count size [] most = omega arith
tags_short count size (tag ∷ tags) most = by (ltb 32 (count + 1)) (ltb 256 (size + length tag)) refl (tags_short (count + 1) (size + length tag) tags) where
  by : (a b : Bool) → ltb 256 (size + length tag) ≡ b → (size + length tag ≤ 256 → size + length tag + sizes (tags_from (count + 1) (size + length tag) tags) ≤ 256)
      → size + sizes (cond (a || b) [] (tag ∷ tags_from (count + 1) (size + length tag) tags)) ≤ 256
  by true b t rest = omega arith
  by false true t rest = omega arith
  by false false t rest =
      let le : size + length tag ≤ 256 = grind (arith, nat_tests) in
      let h = rest le in
      omega (arith, sum_by-cons (λ (tag : List ℕ). length tag) tag (tags_from (count + 1) (size + length tag) tags))

cut_size : (text : List ℕ) (limit : ℕ) → length (cut_to limit text) ≤ limit
cut_size text limit = omega (arith, length-take (cut_of text limit) text, cut_within text limit)

pub line_printed : (printed next : ℕ) (spec : LineSpec) → next ≤ 2 ^ 62 → All IsUtf8 spec.tags → FitsSigned w8 spec.notify → IsPrinted (line_of printed next spec)
line_printed printed next spec below tags level = record {
  handle = omega arith;
  content = omega arith;
  notify = level;
  few = (let h = tags_few 0 0 spec.tags (omega arith) in omega arith);
  tags = (let h = tags_short 0 0 spec.tags (omega arith) in omega arith);
  prefix = cut_size spec.prefix 128;
  message = cut_size spec.message 1024;
  text = record {
    tags = subst (All IsUtf8) (sym (cut_tags_front spec.tags)) (All-take IsUtf8 (length (cut_tags spec.tags)) spec.tags tags);
    prefix = cut_utf8 spec.prefix 128;
    message = cut_utf8 spec.message 1024;
  };
}

-- ---- the levels

level_by : (highlight none message private : Bool) → FitsSigned w8 (cond highlight (pos 3) (cond none (negsuc 0) (cond message (pos 1) (cond private (pos 2) (pos 0)))))
level_by true none message private = record { sfits = omega arith }
level_by false true message private = record { sfits = omega arith }
level_by false false true private = record { sfits = omega arith }
level_by false false false true = record { sfits = omega arith }
level_by false false false false = record { sfits = omega arith }

pub level_fits : (tags : List (List ℕ)) (calls_user : Bool) → FitsSigned w8 (notify_of tags calls_user)
unfolding notify_of
level_fits tags calls_user =
    level_by (highlight_of tags calls_user) (has_tag (codes "notify_none") tags) (has_tag (codes "notify_message") tags) (has_tag (codes "notify_private") tags)
