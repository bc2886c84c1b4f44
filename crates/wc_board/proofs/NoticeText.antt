-- The name of the buffer of which a change is noticed is text.
use Rattle.std.proofs.Common.{◌≡◌, Option, Some, None, option_map, refl, sym, subst}
use Rattle.std.specs.Str.{IsUtf8}
use Rattle.std.proofs.lemmas.Str.{IsUtf8-nil}
use Rattle.wc_buffers.specs.declared.row.BufferEntry.{BufferEntry}
use Rattle.wc_buffers.specs.Kept.{IsBuffer, AreBuffers}
use Rattle.wc_buffers.specs.Calls.{EntryGroups, entry_of}
use Rattle.wc_model.specs.declared.change.Change.{Change}
use Rattle.wc_model.specs.declared.change.What.{What}
use Rattle.wc_model.specs.declared.change.What.TheVariants as what
use Rattle.wc_model.specs.declared.notice.Notice.{Notice}
use Rattle.wc_model.specs.Notices.{Accepted, about, told_groups, name_in}
use Rattle.wc_model.specs.Apply.{after}
use Rattle.wc_model.specs.World.{World}

row_text : (o : Option BufferEntry) → ((e : BufferEntry) → o ≡ Some e → IsBuffer e) → IsUtf8 (name_in (option_map (λ (e : BufferEntry). e.row) o))
row_text None fit = IsUtf8-nil
row_text (Some e) fit = (fit e refl).text.full_name

told_are : (before following : World) (w : What) → AreBuffers before.groups → AreBuffers following.groups → AreBuffers (told_groups before following w)
told_are before following what.Close p q = p
told_are before following (what.Add spec) p q = q
told_are before following (what.MoveTo n) p q = q
told_are before following (what.MergeInto into) p q = q
told_are before following what.Unmerge p q = q
told_are before following what.Hide p q = q
told_are before following what.Unhide p q = q
told_are before following (what.Rename name flips) p q = q
told_are before following (what.ShortName name) p q = q
told_are before following (what.Title title) p q = q
told_are before following (what.SetVar var) p q = q
told_are before following (what.RemoveVar name) p q = q
told_are before following (what.Print line) p q = q
told_are before following what.Clear p q = q
told_are before following (what.Flips flips) p q = q
told_are before following (what.AddGroup parent item) p q = q
told_are before following (what.AddNick group item) p q = q
told_are before following (what.RemoveGroup name) p q = q
told_are before following (what.RemoveNick name) p q = q
told_are before following (what.ChangeGroup item) p q = q
told_are before following (what.ChangeNick item) p q = q
told_are before following (what.Limit limit) p q = q

-- the name of the buffer is text
pub notice-utf8 : (before : World) (change : Change) (following : World) (n : Notice) (groups groups' : EntryGroups) → Accepted before change following n → groups ≡ before.groups → groups' ≡ following.groups → AreBuffers groups → AreBuffers groups' → IsUtf8 n.full_name
notice-utf8 before change following n groups groups' made e e' p q =
    let w = change.what in
    let later : AreBuffers (after before change).groups = subst (λ (world : World). AreBuffers world.groups) made.after (subst AreBuffers e' q) in
    let are = told_are before (after before change) w (subst AreBuffers e p) later in
    let buffer = about before change.buffer w in
    subst (λ (n : Notice). IsUtf8 n.full_name) (sym made.notice) (row_text (entry_of buffer (told_groups before (after before change) w)) (are.fit buffer))
