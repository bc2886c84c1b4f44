-- The roots of nicklists, as a client is told them.
use Rattle.std.specs.Prelude.{◌≡◌, ◌≢◌, ℕ, true, List, [], ◌∷◌, map, Option, Some, None, is_some}
use Rattle.std.specs.Prelude.{if◌then◌else◌, bytes_eq}
use Rattle.std.specs.FinMap.{FinMap, get, insert, remove, empty}
use Rattle.std.specs.Ordering.{nat_cmp}
use Rattle.wc_nicklist.specs.declared.item.Item.{Item}
use Rattle.wc_model.specs.World.{root_at}
use Rattle.wc_model.specs.declared.notice.EventKind.TheVariants as event
use Rattle.wc_objects.specs.declared.object.Object.{Object}
use Rattle.wc_objects.specs.declared.object.WireMessage.{WireMessage}
use Rattle.wc_keys.specs.Events.{id_of}
use Rattle.wc_board.specs.Told.{Told, told_of}
use Rattle.wc_view.specs.Named.{buffer_named}
use Rattle.wc_view.specs.NickFold.{is_root_item}
use Rattle.wc_view.specs.NickRows.{nick_rows_on, nick_changes_on}

-- the handle of the root of each buffer of which a root was told, by the buffer's handle
abbrev pub RootPart : Type 0
RootPart = FinMap nat_cmp ℕ

-- an item of a buffer that is its root is held, in place of the root that was
abbrev pub with_item : ℕ → Item → RootPart → RootPart
with_item buffer item roots = if is_root_item item then insert roots buffer item.handle.0 else roots

-- the items that a message tells, each with its buffer
abbrev pub with_items : List (ℕ × Item) → RootPart → RootPart
with_items [] roots = roots
with_items (told ∷ others) roots = with_items others (with_item told.0 told.1 roots)

abbrev pub with_items_told : Option (List (ℕ × Item)) → RootPart → RootPart
with_items_told None roots = roots
with_items_told (Some told) roots = with_items told roots

-- the dump tells all roots anew
abbrev pub with_dump_told : Option (List (ℕ × Item)) → RootPart → RootPart
with_dump_told None roots = roots
with_dump_told (Some told) roots = with_items told empty

abbrev pub without_named : Option ℕ → RootPart → RootPart
without_named None roots = roots
without_named (Some buffer) roots = remove roots buffer

-- the items of what a message tells, with their buffers
abbrev pub paired : {X : Type 0} → Option (List X) → (X → ℕ × Item) → Option (List (ℕ × Item))
paired None pair = None
paired (Some told) pair = Some (map pair told)

abbrev pub rows_in : List Object → Option (List (ℕ × Item))
rows_in objects = paired (nick_rows_on objects) (λ row. (row.buffer, row.item))

abbrev pub changes_in : List Object → Option (List (ℕ × Item))
changes_in objects = paired (nick_changes_on objects)
    (λ change. (change.buffer, change.diff.item))

abbrev pub fold_root_event : RootPart → WireMessage → RootPart
fold_root_event roots message =
    if bytes_eq message.id (id_of event.NicklistDiff)
    then with_items_told (changes_in message.objects) roots
    else (if bytes_eq message.id (id_of event.Nicklist)
    then with_items_told (rows_in message.objects) roots
    else (if bytes_eq message.id (id_of event.Closing)
    then without_named (buffer_named message.objects) roots else roots))

-- The roots that a client holds after a message: those of a dump, a whole nicklist or a diff, and
-- none of a buffer that is closed.
abbrev pub fold_roots : List ℕ → RootPart → WireMessage → RootPart
fold_roots id roots message =
    if bytes_eq message.id id then with_dump_told (rows_in message.objects) roots
    else fold_root_event roots message

-- Each root that is held is that of its buffer, which is there; a nicklist with rows has one.
pub record HasRoots (roots : RootPart) (told : Told) : Type 0 where
  pub own : (buffer root : ℕ) → get roots buffer ≡ Some root → root ≡ (root_at buffer).0
  pub there : (buffer : ℕ) → is_some (get roots buffer) ≡ true → is_some (get told buffer) ≡ true
  pub filled : (buffer : ℕ) → told_of told buffer ≢ [] → is_some (get roots buffer) ≡ true
