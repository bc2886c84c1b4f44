-- Changes of a world.
use Rattle.std.proofs.Common.{◌≡◌, refl}
use Rattle.wc_text.specs.declared.names.Handle.{Handle}
use Rattle.wc_model.specs.declared.change.LineSpec.{LineSpec}
use Rattle.wc_model.specs.declared.change.What.TheVariants.{Print, Clear}
use Rattle.wc_model.specs.World.{World}
use Rattle.wc_model.specs.Apply.{after_of}

pub print_groups : (world : World) (buffer : Handle) (line : LineSpec) → (after_of world buffer (Print line)).groups ≡ world.groups
unfolding after_of
print_groups world buffer line = refl

pub clear_groups : (world : World) (buffer : Handle) → (after_of world buffer Clear).groups ≡ world.groups
unfolding after_of
clear_groups world buffer = refl
