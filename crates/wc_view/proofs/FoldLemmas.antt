-- What a message makes of all that a client holds.
use Rattle.std.proofs.Common.{◌≡◌, ℕ, Option, List, refl, sym, ap, ◌∙◌}
use Rattle.std.specs.Prelude.{Result, Ok, Err}
use Rattle.wc_nickdiff.specs.declared.refused.DiffRefused.{DiffRefused}
use Rattle.wc_nickdiff.specs.declared.refused.DiffRefused.TheVariants.{BadItem, NoMemory}
use Rattle.wc_objects.specs.declared.object.WireMessage.{WireMessage}
use Rattle.wc_view.specs.BufferFold.{fold_buffers}
use Rattle.wc_view.specs.Fold.{fold_lines}
use Rattle.wc_view.specs.Grouped.{MirrorGroups}
use Rattle.wc_view.specs.NickFold.{NickPart, fold_nicks}
use Rattle.wc_view.specs.NickSteps.{RefusesDiff}
use Rattle.wc_view.specs.Parts.{Part}
use Rattle.wc_view.specs.Taking.{MirrorParts, with_nicks, parts_after}

pub fold_done : (old new : MirrorParts) (message : WireMessage) → new.limit ≡ old.limit → new.buffer_dump ≡ old.buffer_dump → new.line_dump ≡ old.line_dump → new.nick_dump ≡ old.nick_dump
    → new.buffers ≡ fold_buffers old.buffer_dump old.buffers message → new.lines ≡ fold_lines old.limit old.line_dump old.lines message
    → fold_nicks old.nick_dump old.nicks message ≡ Ok new.nicks → parts_after old message ≡ Ok new
fold_done old new message a b c d buffers lines nicks =
    ap (with_nicks old message) nicks
    ∙ (λ j. Ok (record {
      limit = sym a j;
      buffer_dump = sym b j;
      line_dump = sym c j;
      nick_dump = sym d j;
      buffers = sym buffers j;
      lines = sym lines j;
      nicks = new.nicks;
    }))

pub fold_refused : (old : MirrorParts) (message : WireMessage) (e : DiffRefused) → RefusesDiff e (fold_nicks old.nick_dump old.nicks message) → RefusesDiff e (parts_after old message)
fold_refused old message (BadItem place) h = ap (with_nicks old message) h
fold_refused old message NoMemory h = tt

-- what `fold` needs
pub ruleset fold_facts = (fold_done, fold_refused)
