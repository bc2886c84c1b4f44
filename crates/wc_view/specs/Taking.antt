-- What a client holds, and what it makes of bytes.
use Rattle.std.specs.Prelude.{◌≡◌, ℕ, List, Option, Some, None, Result, Ok, Err}
use Rattle.wc_objects.specs.declared.object.WireMessage.{WireMessage}
use Rattle.wc_view.specs.declared.mirror.MirrorRefused.{MirrorRefused}
use Rattle.wc_view.specs.declared.mirror.MirrorRefused.TheVariants.{BadMessage, BadDiff, NoMemory}
use Rattle.wc_view.specs.Parts.{Part}
use Rattle.wc_view.specs.Grouped.{MirrorGroups}
use Rattle.wc_view.specs.BufferFold.{fold_buffers}
use Rattle.wc_view.specs.NickFold.{NickPart, fold_nicks}
use Rattle.wc_view.specs.Fold.{fold_lines}

-- how many lines of a buffer are held at most, where there is a limit, the ids of the dumps of
-- buffers, of lines and of nicklists, and what they and the events after them told, once they were
-- taken
pub record MirrorParts : Type 0 where
  pub limit : Option ℕ
  pub buffer_dump : List ℕ
  pub line_dump : List ℕ
  pub nick_dump : List ℕ
  pub buffers : Option MirrorGroups
  pub lines : Option Part
  pub nicks : Option NickPart

abbrev pub nothing_taken : Option ℕ → List ℕ → List ℕ → List ℕ → MirrorParts
nothing_taken limit buffer_dump line_dump nick_dump =
    record {
      limit = limit;
      buffer_dump = buffer_dump;
      line_dump = line_dump;
      nick_dump = nick_dump;
      buffers = None;
      lines = None;
      nicks = None;
    }

abbrev pub with_nicks : MirrorParts → WireMessage → Result (Option NickPart) ℕ →
    Result MirrorParts ℕ
with_nicks mirrored message (Err place) = Err place
with_nicks mirrored message (Ok nicks) = Ok (record mirrored {
  buffers = fold_buffers mirrored.buffer_dump mirrored.buffers message;
  lines = fold_lines mirrored.limit mirrored.line_dump mirrored.lines message;
  nicks = nicks;
})

-- all parts after a message, or the place of the item of a diff that is refused
abbrev pub parts_after : MirrorParts → WireMessage → Result MirrorParts ℕ
parts_after mirrored message = with_nicks mirrored message
    (fold_nicks mirrored.nick_dump mirrored.nicks message)

-- What a call answers and leaves, by what reading gives of its bytes: a message at the front is
-- folded, unless it is a diff that is refused. In each other case, and where memory is refused,
-- nothing changes.
abbrev pub TakesMessage : Result ℕ MirrorRefused → MirrorParts → MirrorParts →
    Result (Option (WireMessage × ℕ)) ℕ → Type 0
TakesMessage (Ok size) old new (Ok (Some found)) = (size ≡ found.1)
    × (parts_after old found.0 ≡ Ok new)
TakesMessage (Ok size) old new (Ok None) = (size ≡ 0) × (new ≡ old)
TakesMessage (Ok size) old new (Err place) = ⊥
TakesMessage (Err NoMemory) old new read = new ≡ old
TakesMessage (Err (BadMessage at)) old new (Err place) = (at ≡ place) × (new ≡ old)
TakesMessage (Err (BadMessage at)) old new (Ok front) = ⊥
TakesMessage (Err (BadDiff at)) old new (Ok (Some found)) = (parts_after old found.0 ≡ Err at)
    × (new ≡ old)
TakesMessage (Err (BadDiff at)) old new (Ok None) = ⊥
TakesMessage (Err (BadDiff at)) old new (Err place) = ⊥
