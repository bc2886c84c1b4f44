-- The groups and the nicks of a channel's buffer.
use Rattle.std.specs.Prelude.{ℕ, Bool, true, false, List, [], map, codes, Option}
use Rattle.wc_nicklist.specs.declared.item.Item.{Item}
use Rattle.wc_ircmsg.specs.declared.prefixes.Prefixes.{Prefixes}
use Rattle.wc_model.specs.declared.change.What.TheVariants as what
use Rattle.wc_irc.specs.declared.act.Act.{Act}
use Rattle.wc_irc.specs.declared.act.Act.TheVariants as act
use Rattle.wc_irc_texts.specs.declared.seat.Seat.{Seat}
use Rattle.wc_irc_texts.specs.Groups.{group_names, group_at, sign_at}

-- a group or a nick before its handle is drawn
abbrev pub item : Bool → ℕ → List ℕ → List ℕ → Item
item is_group level name sign = record {
  handle = record { 0 = 0 };
  is_group = is_group;
  visible = true;
  level = level;
  name = name;
  color = [];
  prefix = sign;
  prefix_color = [];
}

abbrev pub add_group : List ℕ → List ℕ → Act
add_group buffer name = act.On buffer (what.AddGroup (codes "root") (item true 1 name []))

-- the groups of a channel; one that is there stays, since an act that is refused is passed over
abbrev pub add_groups : Prefixes → List ℕ → List Act
add_groups prefixes buffer = map (add_group buffer) (group_names prefixes)

-- a nick comes into the group of its highest mode, whose place this is, with its sign or a space
abbrev pub add_nick : Prefixes → List ℕ → List ℕ → Option ℕ → Act
add_nick prefixes buffer nick place = act.On buffer
    (what.AddNick (group_at prefixes place) (item false 0 nick (sign_at prefixes place)))

abbrev pub remove_nick : List ℕ → List ℕ → Act
remove_nick buffer nick = act.On buffer (what.RemoveNick nick)

-- all nicks of a list go, in its order
abbrev pub emptied : List ℕ → List Seat → List Act
emptied buffer seats = map (λ (seat : Seat). remove_nick buffer seat.nick) seats
