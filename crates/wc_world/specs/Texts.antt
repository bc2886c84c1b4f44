-- The texts of a change are text, and a limit of lines is one that there may be.
use Rattle.std.specs.Prelude.{◌≤◌, All}
use Rattle.std.specs.Str.{IsUtf8}
use Rattle.wc_nicklist.specs.Rows.{TextsAreUtf8}
use Rattle.wc_buffers.specs.Entries.{IsText}
use Rattle.wc_buffers.specs.declared.row.BufferSpec.{BufferSpec}
use Rattle.wc_model.specs.declared.change.LineSpec.{LineSpec}
use Rattle.wc_model.specs.declared.change.What.{What}
use Rattle.wc_model.specs.declared.change.What.TheVariants.{Add, Close, MoveTo, MergeInto, Unmerge}
use Rattle.wc_model.specs.declared.change.What.TheVariants.{Hide, Unhide, Rename, ShortName, Title}
use Rattle.wc_model.specs.declared.change.What.TheVariants.{SetVar, RemoveVar, Print, Clear, Flips}
use Rattle.wc_model.specs.declared.change.What.TheVariants.{AddGroup, AddNick, RemoveGroup}
use Rattle.wc_model.specs.declared.change.What.TheVariants.{RemoveNick, ChangeGroup, ChangeNick, Limit}

pub record IsLineText (spec : LineSpec) : Type 0 where
  pub tags : All IsUtf8 spec.tags
  pub prefix : IsUtf8 spec.prefix
  pub message : IsUtf8 spec.message

pub record IsBufferText (spec : BufferSpec) : Type 0 where
  pub full_name : IsUtf8 spec.full_name
  pub short_name : IsUtf8 spec.short_name
  pub title : IsUtf8 spec.title
  pub vars : All IsText spec.vars

abbrev pub IsChangeText : What → Type 0
IsChangeText (Add spec) = IsBufferText spec
IsChangeText Close = Unit {0}
IsChangeText (MoveTo number) = Unit {0}
IsChangeText (MergeInto into) = Unit {0}
IsChangeText Unmerge = Unit {0}
IsChangeText Hide = Unit {0}
IsChangeText Unhide = Unit {0}
IsChangeText (Rename name flips) = IsUtf8 name
IsChangeText (ShortName name) = IsUtf8 name
IsChangeText (Title title) = IsUtf8 title
IsChangeText (SetVar var) = IsText var
IsChangeText (RemoveVar name) = Unit {0}
IsChangeText (Print line) = IsLineText line
IsChangeText Clear = Unit {0}
IsChangeText (Flips flips) = Unit {0}
IsChangeText (AddGroup parent item) = IsUtf8 parent × TextsAreUtf8 item
IsChangeText (AddNick group item) = IsUtf8 group × TextsAreUtf8 item
IsChangeText (RemoveGroup name) = Unit {0}
IsChangeText (RemoveNick name) = Unit {0}
IsChangeText (ChangeGroup item) = TextsAreUtf8 item
IsChangeText (ChangeNick item) = TextsAreUtf8 item
IsChangeText (Limit limit) = (1 ≤ limit) × (limit ≤ 4096)
