-- The lines of all buffers, as flags of them are set and as another limit leaves them.
use Rattle.std.proofs.Common.{◌≡◌, ℕ, ◌-◌, ◌≤◌, Bool, List, [], ◌∷◌, length, map, All, Option, Some, None, option_map, unwrap_or, refl, sym, ap, subst, ◌∙◌, arith, drop}
use Rattle.std.specs.FinMap.{FinMap, get, entries, from_entries, get-entries, get-from_entries}
use Rattle.std.specs.Ordering.{nat_cmp}
use Rattle.std.specs.Cmp.{nat_cmp_total}
use Rattle.std.proofs.lemmas.List.{length-drop, length-map}
use Rattle.std.proofs.lemmas.List.Elements.{All-map, All-weaker}
use Rattle.wc_lines.specs.declared.line.Line.{Line}
use Rattle.wc_lines.specs.Flags.{set_flag, with_own_flag}
use Rattle.wc_lines.specs.Ring.{last_of}
use Rattle.wc_model.specs.declared.change.Flip.{Flip}
use Rattle.wc_model.specs.World.{World, lines_at}
use Rattle.wc_model.specs.Apply.{flip_all, with_flips, with_limit}
use Rattle.wc_world.specs.Flips.{last_flag}
use Rattle.wc_world.specs.Kept.{AreContentsApart}
use Rattle.wc_world.proofs.FlipsDone.{find_mapped}
use Rattle.wc_world.proofs.LastFlags.{apart_flagged, flipped_last}
use Rattle.wc_mirror_laws.specs.Printed.{IsPrinted}
use Rattle.wc_mirror_laws.specs.Worlds.{IsWorldKept}

abbrev no_line_list : List Line
no_line_list = []

-- where the lines of each buffer are changed alike, and none stay none
module _ (f : List Line → List Line) (none : f [] ≡ []) (w : World) where
  abbrev changed_lines : FinMap nat_cmp (List Line)
  changed_lines = from_entries (map (λ (e : ℕ × List Line). (e.0, f e.1)) (entries w.lines))

  found_none : (o : Option (List Line)) → unwrap_or (option_map f o) [] ≡ f (unwrap_or o [])
  found_none None = sym none
  found_none (Some lines) = refl

  pub changed_at : (q : ℕ) → unwrap_or (get changed_lines q) [] ≡ f (lines_at w q)
  changed_at q =
      ap (λ o. unwrap_or o [])
      (get-from_entries nat_cmp_total (map (λ (e : ℕ × List Line). (e.0, f e.1)) (entries w.lines)) q ∙ find_mapped f q (entries w.lines) ∙ ap (option_map f) (sym (get-entries w.lines q)))
      ∙ found_none (get w.lines q)

-- ---- another limit

pub last_within : {X : Type 0} (n : ℕ) (xs : List X) → length (last_of n xs) ≤ n
last_within n xs = omega (arith, length-drop (length xs - n) xs)

pub none_last : (limit : ℕ) → last_of limit no_line_list ≡ []
none_last limit = let e : 0 - limit ≡ 0 = omega arith in ap (λ n. drop n no_line_list) e

pub limited_at : (limit : ℕ) (w : World) (q : ℕ) → lines_at (with_limit limit w) q ≡ last_of limit (lines_at w q)
limited_at limit w q = changed_at (last_of limit) (none_last limit) w q

-- ---- flags

pub none_flipped : (flips : List Flip) → with_flips flips [] ≡ []
none_flipped [] = refl
none_flipped (flip ∷ flips) = none_flipped flips

flag_printed : (flag : Option Bool) (line : Line) → IsPrinted line → IsPrinted (set_flag flag line)
flag_printed None line is = is
flag_printed (Some on) line is = record {
  handle = is.handle;
  content = is.content;
  notify = is.notify;
  few = is.few;
  tags = is.tags;
  prefix = is.prefix;
  message = is.message;
  text = record { tags = is.text.tags; prefix = is.text.prefix; message = is.text.message };
}

-- flags that are set leave all that holds of a world
pub flipped : (limit : ℕ) (w : World) (flips : List Flip) → IsWorldKept limit w → IsWorldKept limit (flip_all flips w)
flipped limit w flips is =
    let own = with_own_flag (last_flag flips) in
    let at : (q : ℕ) → lines_at (flip_all flips w) q ≡ map own (lines_at w q) = λ q. changed_at (with_flips flips) (none_flipped flips) w q ∙ flipped_last w.next flips (lines_at w q) (is.apart q) in
    record {
      same = is.same;
      started = is.started;
      ended = is.ended;
      groups = is.groups;
      each = is.each;
      within = λ q. subst (λ ls. length ls ≤ limit) (sym (at q)) (subst (λ n. n ≤ limit) (sym (length-map (lines_at w q) own)) (is.within q));
      printed = λ q. subst (All IsPrinted) (sym (at q)) (All-map IsPrinted own (lines_at w q) (All-weaker IsPrinted (λ line. IsPrinted (own line)) (λ line. flag_printed (last_flag flips line.content.0) line) (lines_at w q) (is.printed q)));
      apart = λ q. subst (AreContentsApart w.next) (sym (at q)) (apart_flagged (last_flag flips) w.next (lines_at w q) (is.apart q));
      none = λ q lacks. at q ∙ ap (map own) (is.none q lacks);
      nicks = is.nicks;
      counted = is.counted;
    }
