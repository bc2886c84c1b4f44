-- What holds of every world.
use Rattle.std.specs.Prelude.{◌≡◌}
use Rattle.wc_text.specs.declared.names.Handle.{Handle}
use Rattle.wc_buffers.specs.declared.row.BufferSpec.{BufferSpec}
use Rattle.wc_model.specs.declared.change.LineSpec.{LineSpec}
use Rattle.wc_model.specs.declared.change.What.TheVariants.{Add, Print, Clear}
use Rattle.wc_model.specs.World.{World}
use Rattle.wc_model.specs.Apply.{after_of}
use Rattle.wc_model.specs.Notices.{notice}

pub record LinesLeaveBuffers : Type 0 where
  pub print : (world : World) (buffer : Handle) (line : LineSpec) →
      (after_of world buffer (Print line)).groups ≡ world.groups
  pub clear : (world : World) (buffer : Handle) → (after_of world buffer Clear).groups
      ≡ world.groups

abbrev pub NoticeOfNewBuffer : Type 0
NoticeOfNewBuffer = (world : World) (buffer : Handle) (spec : BufferSpec) →
    (notice world (record { buffer = buffer; what = Add spec })).buffer ≡ record { 0 = world.next }
