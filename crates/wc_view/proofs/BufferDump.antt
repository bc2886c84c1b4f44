-- The dump of the buffers of a world is folded to these buffers in their groups.
use Rattle.std.proofs.Common.{◌≡◌, ℕ, ◌+◌, ◌<◌, ◌≤◌, Bool, true, false, ◌||◌, eqb, List, [], ◌∷◌, ◌++◌, map, codes, Some, refl, ap, ◌∙◌, arith}
use Rattle.std.specs.Option.{option_and_then}
use Rattle.std.proofs.lemmas.Bool.{eq-eqb}
use Rattle.std.proofs.lemmas.Bool.Decides.{nat_tests}
use Rattle.wc_buffers.specs.declared.row.BufferEntry.{BufferEntry}
use Rattle.wc_buffers.specs.Groups.{AllFilled, times, times_in, in_group}
use Rattle.wc_buffers.specs.Calls.{handle_of}
use Rattle.wc_buffers.proofs.GroupLaws.{in_group_tells}
use Rattle.wc_objects.specs.declared.object.HdaItem.{HdaItem}
use Rattle.wc_events.specs.BufferObjects.{dump_keys, dumped_values, dumped_buffer, dumped_groups as told_groups, buffer_dump}
use Rattle.wc_view.specs.declared.told_buffer.ToldBuffer.{ToldBuffer}
use Rattle.wc_keys.specs.declared.key.KeyList.TheVariants as l
use Rattle.wc_keys.specs.Keys.{keys_in}
use Rattle.wc_view.specs.Each.{each}
use Rattle.wc_view.specs.ToldBuffer.{carry, buffer_in}
use Rattle.wc_view.specs.BufferFold.{is_told, are_once, in_front, runs, buffers_on, dumped_groups}
use Rattle.wc_view.specs.BufferViews.{shown_buffer, shown_groups, BufferDumpShows}
use Rattle.wc_view.proofs.LineTold.{number_told, text_told, items_told, same_bytes}
use Rattle.wc_view.proofs.BufferTold.{switch_told, pairs_told}

-- ---- what is read of the dump
abbrev row : ℕ → BufferEntry → ToldBuffer
row number e = record { number = number; prev = 0; buffer = shown_buffer e }

row_told : (number : ℕ) (e : BufferEntry) → buffer_in (keys_in l.Dump) (dumped_buffer number e) ≡ Some (row number e)
unfolding buffer_in carry dumped_values
row_told number e = rw (number_told, text_told e.row.full_name, text_told e.row.short_name, switch_told, text_told e.row.title, pairs_told) refl

abbrev rows_from : ℕ → List (List BufferEntry) → List ToldBuffer
rows_from number [] = []
rows_from number (group ∷ groups) = map (row number) group ++ rows_from (number + 1) groups

group_told : (number : ℕ) (group : List BufferEntry) (items : List HdaItem) (told : List ToldBuffer) → each (buffer_in (keys_in l.Dump)) items ≡ Some told
    → each (buffer_in (keys_in l.Dump)) (map (dumped_buffer number) group ++ items) ≡ Some (map (row number) group ++ told)
group_told number [] items told e = e
group_told number (x ∷ group) items told e = rw (row_told number x, group_told number group items told e) refl

rows_told : (number : ℕ) (groups : List (List BufferEntry)) → each (buffer_in (keys_in l.Dump)) (told_groups number groups) ≡ Some (rows_from number groups)
rows_told number [] = refl
rows_told number (group ∷ groups) = group_told number group (told_groups (number + 1) groups) (rows_from (number + 1) groups) (rows_told (number + 1) groups)

dump_read : (groups : List (List BufferEntry)) → buffers_on (buffer_dump groups) ≡ Some (rows_from 1 groups)
dump_read groups = ap (option_and_then (each (buffer_in (keys_in l.Dump)))) (items_told (codes "buffer") dump_keys (told_groups 1 groups) refl refl) ∙ rows_told 1 groups

-- ---- no buffer is told twice
not_told : (h number : ℕ) (group : List BufferEntry) (told : List ToldBuffer) → is_told h (map (row number) group ++ told) ≡ (in_group handle_of h group || is_told h told)
not_told h number [] told = refl
not_told h number (x ∷ group) told = ap (λ b. eqb (handle_of x) h || b) (not_told h number group told) ∙ assoc (eqb (handle_of x) h) (in_group handle_of h group) (is_told h told)
  where
    assoc : (a b c : Bool) → (a || (b || c)) ≡ ((a || b) || c)
    assoc true b c = refl
    assoc false b c = refl

told_there : (h number : ℕ) (groups : List (List BufferEntry)) → times handle_of h groups ≡ 0 → is_told h (rows_from number groups) ≡ false
told_there h number [] n = refl
told_there h number (group ∷ groups) n =
    let none : in_group handle_of h group ≡ false = (let z : times_in handle_of h group ≡ 0 = omega arith in grind (arith, in_group_tells handle_of h group)) in
    not_told h number group (rows_from (number + 1) groups) ∙ rw none (told_there h (number + 1) groups (omega arith))

once_more : (number : ℕ) (group : List BufferEntry) (told : List ToldBuffer) → ((h : ℕ) → times_in handle_of h group ≤ 1)
    → ((h : ℕ) → 1 ≤ times_in handle_of h group → is_told h told ≡ false) → are_once told ≡ true → are_once (map (row number) group ++ told) ≡ true
once_more number [] told few apart e = e
once_more number (x ∷ group) told few apart e =
    let h = handle_of x in
    let own : times_in handle_of h (x ∷ group) ≡ 1 + times_in handle_of h group = rw (eq-eqb h h refl) refl in
    let none : in_group handle_of h group ≡ false = (let f = few h in let z : times_in handle_of h group ≡ 0 = omega arith in grind (arith, in_group_tells handle_of h group)) in
    let free : is_told h told ≡ false = apart h (omega arith) in
    let head : is_told h (map (row number) group ++ told) ≡ false = not_told h number group told ∙ rw (none, free) refl in
    let rest : are_once (map (row number) group ++ told) ≡ true =
    once_more number group told (λ q. let f = few q in let g = fewer q in omega arith) (λ q l. apart q (let g = fewer q in omega arith)) e in
    rw (head, rest) refl
  where
    fewer : (q : ℕ) → times_in handle_of q group ≤ times_in handle_of q (x ∷ group)
    fewer q = omega arith

once_told : (number : ℕ) (groups : List (List BufferEntry)) → ((h : ℕ) → times handle_of h groups ≤ 1) → are_once (rows_from number groups) ≡ true
once_told number [] few = refl
once_told number (group ∷ groups) few =
    once_more number group (rows_from (number + 1) groups)
    (λ h. let v : times_in handle_of h group + times handle_of h groups ≤ 1 = few h in omega arith)
    (λ h l. let v : times_in handle_of h group + times handle_of h groups ≤ 1 = few h in told_there h (number + 1) groups (omega arith))
    (once_told (number + 1) groups (λ h. let v : times_in handle_of h group + times handle_of h groups ≤ 1 = few h in omega arith))

-- ---- runs of equal numbers
abbrev starts : ℕ → List ToldBuffer → Type 0
starts number [] = Unit {0}
starts number (r ∷ rows) = r.number ≡ number

group_runs : (number : ℕ) (x : BufferEntry) (group : List BufferEntry) (told : List ToldBuffer) (later : ℕ) → number < later → starts later told
    → runs (map (row number) (x ∷ group) ++ told) ≡ map shown_buffer (x ∷ group) ∷ runs told
group_runs number x [] [] later l s = refl
group_runs number x [] (r ∷ told) later l s = let apart : eqb number r.number ≡ false = (let z = s in grind (arith, nat_tests)) in rw apart refl
group_runs number x (y ∷ group) told later l s =
    rw (eq-eqb number number refl) (ap (in_front (shown_buffer x)) (group_runs number y group told later l s))

starts_from : (number : ℕ) (groups : List (List BufferEntry)) → AllFilled groups → starts number (rows_from number groups)
starts_from number [] filled = tt
starts_from number ([] ∷ groups) filled = absurd filled
starts_from number ((x ∷ group) ∷ groups) filled = refl

all_runs : (number : ℕ) (groups : List (List BufferEntry)) → AllFilled groups → runs (rows_from number groups) ≡ shown_groups groups
all_runs number [] filled = refl
all_runs number ([] ∷ groups) filled = absurd filled
all_runs number ((x ∷ group) ∷ groups) filled =
    group_runs number x group (rows_from (number + 1) groups) (number + 1) (omega arith) (starts_from (number + 1) groups filled)
    ∙ ap (λ gs. map shown_buffer (x ∷ group) ∷ gs) (all_runs (number + 1) groups filled)

pub dump_shows : BufferDumpShows
dump_shows id part world are =
    rw (same_bytes id) (ap (λ rows. dumped_groups rows part) (dump_read world.groups)
    ∙ rw (once_told 1 world.groups are.once) (ap Some (all_runs 1 world.groups are.filled)))
