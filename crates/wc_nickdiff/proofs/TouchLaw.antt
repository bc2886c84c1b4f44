-- A change of one key's row, once it is touched, keeps what was told.
use Rattle.std.proofs.Common.{◌≡◌, Bool, true, false, cond, ◌&&◌, ◌==◌, Option, Some, None, List, refl, sym, ap, ◌∙◌, eq-eqb}
use Rattle.wc_text.specs.declared.names.Handle.{Handle}
use Rattle.wc_nicklist.specs.declared.item.Key.{Key}
use Rattle.wc_nicklist.specs.declared.item.Row.{Row}
use Rattle.wc_nicklist.specs.Rows.{key_eq, find_row, IsRows}
use Rattle.wc_nicklist.specs.Touched.{earlier_or, first_touch}
use Rattle.wc_nicklist.proofs.OrderLaws.{by_bool, key_eq-true}
use Rattle.wc_nicklist.proofs.RowLaws.{same_rows}
use Rattle.wc_nickdiff.specs.Told.{told_or, told_at, IsTold}

pub pushed_told : (now : List Row) → IsRows now → IsTold (λ k. None) now now
pushed_told now ok = record { held = ok; found = λ k. refl }

pub untouched_told : (first : Key → Option (Option Row)) (now told : List Row) → IsRows now → ((k : Key) → first k ≡ None) → IsTold first now told → told ≡ now
untouched_told first now told new none h =
    same_rows told now h.held.ascending h.held.keyed new.ascending new.keyed (λ k. sym (h.found k) ∙ ap (λ o. told_or o (find_row k now)) (none k))

pub touch_law : (b : Handle) (k : Key) (first : Handle → Key → Option (Option Row)) (old new told : List Row) → ((q : Key) → key_eq k q ≡ false → find_row q new ≡ find_row q old) → IsTold (first b) old told → IsTold (first_touch b k (find_row k old) first b) new told
touch_law b k first old new told other h = record {
  held = h.held;
  found = λ q. by_bool (key_eq k q) _
      (λ t.
      let i : find_row k old ≡ find_row q old = ap (λ z. find_row z old) (key_eq-true k q t) in
      rw (eq-eqb b.0 b.0 refl, t) (earlier (first b q) (find_row k old) (find_row q new) ∙ ap (told_or (first b q)) i ∙ h.found q))
      (λ t. rw (eq-eqb b.0 b.0 refl, t) (ap (told_or (first b q)) (other q t) ∙ h.found q));
}
  where
    earlier : (o : Option (Option Row)) (was now : Option Row) → told_or (earlier_or o was) now ≡ told_or o was
    earlier None was now = refl
    earlier (Some r) was now = refl
