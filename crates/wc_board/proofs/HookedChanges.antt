-- The clients stay hooked as they come, go, leave, and are served.
use Rattle.std.proofs.Common.{◌≡◌, ℕ, ◌+◌, ◌<◌, true, false, List, [], ◌∷◌, ◌++◌, length, map, get_or, set, refl, ap, sym, subst, ◌∙◌, arith, length-set}
use Rattle.std.specs.List.{remove}
use Rattle.std.proofs.lemmas.List.{length-map, length_push}
use Rattle.std.proofs.lemmas.List.Edits.{length-remove}
use Rattle.wc_text.specs.declared.names.LinkId.{LinkId}
use Rattle.wc_hooks.specs.declared.entry.HookId.{HookId}
use Rattle.wc_hooks.specs.Rows.{put_in, without}
use Rattle.wc_hooks.specs.Passes.{without_mark}
use Rattle.wc_hooks.specs.Table.{Table, with_row, without_row, new_table}
use Rattle.wc_board.specs.declared.connection.Connection.{Connection}
use Rattle.wc_board.specs.Connections.{is_open}
use Rattle.wc_board.specs.Hooked.{relay_row, entry_rows, are_rising, AreHooked}
use Rattle.wc_board.proofs.HookedLemmas.{rows_kept, rows_mapped, rows_shut, rows_removed, rows_pushed, put_last, rising_pushed, rising_removed}

pub none_hooked : (table : Table) → table ≡ new_table → AreHooked table [] 0 []
none_hooked table made = subst (λ (t : Table). AreHooked t [] 0 []) (sym made) (record {
  rows = refl;
  marks = refl;
  passes = refl;
  count = refl;
  rising = refl;
  each = refl;
})

-- a client came, with the next number
pub one_admitted : (old new : Table) (ids : List HookId) (drawn next : ℕ) (cs : List Connection) (id : HookId) (link : LinkId) (c : Connection) → AreHooked old ids drawn cs → id.0 ≡ drawn + 1 → next ≡ drawn + 1 → new ≡ with_row (relay_row id link) old
    → link ≡ c.session.client.link → is_open c ≡ true → AreHooked new (ids ++ id ∷ []) next (cs ++ c ∷ [])
one_admitted old new ids drawn next cs id link c hooked number next_is made link_is opened =
    let number_is : id.0 ≡ next = number ∙ sym next_is in
    subst (λ (t : Table). AreHooked t (ids ++ id ∷ []) next (cs ++ c ∷ [])) (sym made) (record {
      rows = ap (put_in (relay_row id link)) hooked.rows ∙ put_last id link ids cs ∙ ap (λ (l : LinkId). entry_rows ids cs ++ relay_row id l ∷ []) link_is ∙ sym (rows_pushed id ids c cs hooked.each opened);
      marks = hooked.marks;
      passes = hooked.passes;
      count = ap (λ n. n + 1) hooked.count ∙ sym next_is;
      rising = subst (λ (n : ℕ). are_rising 0 n (ids ++ id ∷ []) ≡ true) number_is (rising_pushed 0 drawn id ids (omega arith) (omega (arith, number)) hooked.rising);
      each = length_push ids id ∙ ap (λ n. n + 1) hooked.each ∙ sym (length_push cs c);
    })

-- a client leaves, and its entry is unhooked
pub one_retired : (old new : Table) (ids : List HookId) (drawn : ℕ) (cs : List Connection) (i : ℕ) (id : HookId) (y : Connection) → AreHooked old ids drawn cs → i < length cs → id ≡ get_or ids i id → new ≡ without_row id old → is_open y ≡ false → AreHooked new ids drawn (set cs i y)
one_retired old new ids drawn cs i id y hooked inside at made shut =
    let within : i < length ids = omega (arith, inside, hooked.each) in
    subst (λ (t : Table). AreHooked t ids drawn (set cs i y)) (sym made) (record {
      rows = ap (without id) hooked.rows ∙ sym (rows_shut id 0 drawn ids cs i y hooked.rising hooked.each within at shut);
      marks = ap (without_mark id) hooked.marks;
      passes = hooked.passes;
      count = hooked.count;
      rising = hooked.rising;
      each = hooked.each ∙ sym (length-set cs i y);
    })

-- a client goes, and its entry is unhooked where it had one
pub one_removed : (old new : Table) (ids : List HookId) (drawn : ℕ) (cs : List Connection) (i : ℕ) (id : HookId) → AreHooked old ids drawn cs → i < length cs → id ≡ get_or ids i id → new ≡ without_row id old → AreHooked new (remove ids i) drawn (remove cs i)
one_removed old new ids drawn cs i id hooked inside at made =
    let within : i < length ids = omega (arith, inside, hooked.each) in
    let a = length-remove ids i within in
    let b = length-remove cs i inside in
    subst (λ (t : Table). AreHooked t (remove ids i) drawn (remove cs i)) (sym made) (record {
      rows = ap (without id) hooked.rows ∙ sym (rows_removed id 0 drawn ids cs i hooked.rising hooked.each within at);
      marks = ap (without_mark id) hooked.marks;
      passes = hooked.passes;
      count = hooked.count;
      rising = rising_removed 0 drawn ids i hooked.rising;
      each = omega (arith, a, b, hooked.each);
    })

-- a connection changes whose client is open as before, on the same link
pub one_kept : (table : Table) (ids : List HookId) (drawn : ℕ) (cs : List Connection) (i : ℕ) (x y : Connection) → AreHooked table ids drawn cs → x ≡ get_or cs i x → is_open y ≡ is_open x → y.session.client.link ≡ x.session.client.link → AreHooked table ids drawn (set cs i y)
one_kept table ids drawn cs i x y hooked at opens link = record {
  rows = hooked.rows ∙ sym (rows_kept ids cs i x y at opens link);
  marks = hooked.marks;
  passes = hooked.passes;
  count = hooked.count;
  rising = hooked.rising;
  each = hooked.each ∙ sym (length-set cs i y);
}

-- all connections change so
pub all_kept : (table : Table) (ids : List HookId) (drawn : ℕ) (cs : List Connection) (f : Connection → Connection) → AreHooked table ids drawn cs → ((c : Connection) → is_open (f c) ≡ is_open c) → ((c : Connection) → (f c).session.client.link ≡ c.session.client.link) → AreHooked table ids drawn (map f cs)
all_kept table ids drawn cs f hooked opens links = record {
  rows = hooked.rows ∙ sym (rows_mapped f opens links ids cs);
  marks = hooked.marks;
  passes = hooked.passes;
  count = hooked.count;
  rising = hooked.rising;
  each = hooked.each ∙ sym (length-map cs f);
}
