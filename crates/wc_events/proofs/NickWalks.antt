-- Items of nicklists that are put one after another, as they are counted.
use Rattle.std.proofs.Common.{◌≡◌, ℕ, ◌+◌, ◌-◌, ◌^◌, ◌<◌, ◌≤◌, List, [], ◌++◌, Result, Ok, Err, refl, sym, ap, ◌∙◌, append-nil, append_assoc, arith}
use Rattle.bytes.specs.Filled.{Filled}
use Rattle.wc_objects.specs.declared.object.HdaItem.{HdaItem}
use Rattle.wc_objects.specs.declared.write.WriteRefused.{WriteRefused}
use Rattle.wc_objects.specs.Spelling.{HasRoomFor, Puts}
use Rattle.wc_events.specs.declared.nick_bytes.Left.{Left}
use Rattle.wc_events.specs.HdaBytes.{items_bytes}
use Rattle.wc_events.specs.NickBytes.{IsAfter, IsOver, Grows, Written, Refused, Writes}
use Rattle.wc_events.proofs.NickBytes.{after_none, first_over, then_over, then_after, bytes_append, IsAmid, amid_start, amid_on, amid_over, amid_end}

-- ---- one item

pub grows_same : (old new : Filled) → new.items ≡ old.items → Grows old new
grows_same old new same = ([], same ∙ sym (append-nil old.items))

pub grows_on : (a b c : Filled) → Grows a b → Grows b c → Grows a c
grows_on a b c p q = (p.0 ++ q.0, q.1 ∙ ap (λ (x : List ℕ). x ++ q.0) p.1 ∙ append_assoc a.items p.0 q.0)

pub one_too_long : (left : Left) (out : Filled) (items : List HdaItem) → IsOver left items → Refused WriteRefused.TooLong left out out items
one_too_long left out items over = record { kept = grows_same out out refl; too_long = λ _. over }

pub one_no_memory : (left : Left) (old new : Filled) (items : List HdaItem) → new.items ≡ old.items → Refused WriteRefused.NoMemory left old new items
one_no_memory left old new items same = record { kept = grows_same old new same; too_long = λ e. absurd cc }

-- there is room for what was counted
pub counted_room : (left rest : Left) (mid : Filled) (items : List HdaItem) → left.items + left.room < 2 ^ 31 → IsAfter left rest items → left.room - rest.room ≤ mid.spare → HasRoomFor mid (items_bytes items)
counted_room left rest mid items few after spare = (omega (arith, after.room, spare), omega (arith, after.room, few))

pub one_written : (left rest : Left) (old mid new : Filled) (items : List HdaItem) → IsAfter left rest items → mid.items ≡ old.items → Puts mid new (items_bytes items) → Written left rest old new items
one_written left rest old mid new items after same puts = record { after = after; bytes = puts.0 ∙ ap (λ (x : List ℕ). x ++ items_bytes items) same }

-- ---- in mid-list

-- what was put of a list and what is left of its room, and the items that are still to come
pub record WritesAmid (whole left : Left) (old now : Filled) (all rest : List HdaItem) : Type 0 where
  pub amid : IsAmid whole left all rest
  pub bytes : now.items ++ items_bytes rest ≡ old.items ++ items_bytes all
  pub kept : Grows old now

pub walk_start : (whole : Left) (old : Filled) (all rest : List HdaItem) → rest ≡ all → WritesAmid whole whole old old all rest
walk_start whole old all rest is = record {
  amid = amid_start whole all rest is;
  bytes = ap (λ items. old.items ++ items_bytes items) is;
  kept = grows_same old old refl;
}

pub walk_on : (whole left next : Left) (old now new : Filled) (all rest first more : List HdaItem) → rest ≡ first ++ more → WritesAmid whole left old now all rest → Written left next now new first
    → WritesAmid whole next old new all more
walk_on whole left next old now new all rest first more is walk one = record {
  amid = amid_on whole left next all rest first more is walk.amid one.after;
  bytes =
      ap (λ (x : List ℕ). x ++ items_bytes more) one.bytes ∙ append_assoc now.items (items_bytes first) (items_bytes more)
      ∙ ap (λ (x : List ℕ). now.items ++ x) (sym (ap items_bytes is ∙ bytes_append first more)) ∙ walk.bytes;
  kept = grows_on old now new walk.kept (items_bytes first, one.bytes);
}

pub walk_refused : (refused : WriteRefused) (whole left : Left) (old now new : Filled) (all rest first more : List HdaItem) → rest ≡ first ++ more → WritesAmid whole left old now all rest
    → Refused refused left now new first → Refused refused whole old new all
walk_refused refused whole left old now new all rest first more is walk one = record {
  kept = grows_on old now new walk.kept one.kept;
  too_long = λ e. amid_over whole left all rest first more is walk.amid (one.too_long e);
}

pub walk_end : (whole left : Left) (old now : Filled) (all rest : List HdaItem) → rest ≡ [] → WritesAmid whole left old now all rest → Written whole left old now all
walk_end whole left old now all rest none walk = record {
  after = amid_end whole left all rest none walk.amid;
  bytes = sym (append-nil now.items) ∙ ap (λ items. now.items ++ items_bytes items) (sym none) ∙ walk.bytes;
}

-- ---- two lists

pub none_written : (left : Left) (out : Filled) → Written left left out out []
none_written left out = record { after = after_none left; bytes = sym (append-nil out.items) }

pub first_refused : (refused : WriteRefused) (left : Left) (old new : Filled) (all first more : List HdaItem) → all ≡ first ++ more → Refused refused left old new first → Refused refused left old new all
first_refused refused left old new all first more is one = record { kept = one.kept; too_long = λ e. first_over left all first more is (one.too_long e) }

-- the second list after the first
pub then_writes : (r : Result Left WriteRefused) (left mid : Left) (old now new : Filled) (all first more : List HdaItem) → all ≡ first ++ more → Written left mid old now first → Writes r mid now new more → Writes r left old new all
then_writes (Ok rest) left mid old now new all first more is one two = record {
  after = then_after left mid rest all first more is one.after two.after;
  bytes =
      two.bytes ∙ ap (λ (x : List ℕ). x ++ items_bytes more) one.bytes ∙ append_assoc old.items (items_bytes first) (items_bytes more)
      ∙ ap (λ (x : List ℕ). old.items ++ x) (sym (ap items_bytes is ∙ bytes_append first more));
}
then_writes (Err refused) left mid old now new all first more is one two = record {
  kept = grows_on old now new (items_bytes first, one.bytes) two.kept;
  too_long = λ e. then_over left mid all first more is one.after (two.too_long e);
}
