-- The buffers of channels and nicks that are opened.
use Rattle.std.specs.Prelude.{ℕ, List, [], ◌∷◌, codes, Option, Some, None}
use Rattle.wc_buffers.specs.Vars.{pair, cut_to}
use Rattle.wc_buffers.specs.declared.row.BufferSpec.{BufferSpec}
use Rattle.wc_irc.specs.declared.act.Act.{Act}
use Rattle.wc_irc.specs.declared.act.Act.TheVariants as act
use Rattle.wc_irc.specs.Servers.{ServerState}
use Rattle.wc_irc.specs.Targets.{full_name}

unfoldable pub target_spec : List ℕ → ServerState → List ℕ → BufferSpec
target_spec kind s target = record {
  full_name = full_name s.name target;
  short_name = cut_to 128 target;
  title = [];
  vars = pair (codes "type") kind ∷ pair (codes "server") s.name ∷ pair (codes "channel") target
      ∷ pair (codes "nick") s.nick ∷ [];
}

-- the buffer of a channel or a nick is opened where it is not there
abbrev pub opened : Option (List ℕ) → List ℕ → ServerState → List ℕ → List Act
opened None kind s target = act.Open (target_spec kind s target) ∷ []
opened (Some buffer) kind s target = []

-- the full name that it has then
abbrev pub name_or : Option (List ℕ) → List ℕ → List ℕ
name_or None name = name
name_or (Some buffer) name = buffer
