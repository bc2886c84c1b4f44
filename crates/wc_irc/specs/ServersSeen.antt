-- A server as the code keeps it.
use Rattle.std.specs.Prelude.{map, drop}
use Rattle.wc_irc.specs.declared.state.State.{State}
use Rattle.wc_irc.specs.Channels.{joined}
use Rattle.wc_irc.specs.Servers.{ServerState}

abbrev pub seen : State → ServerState
seen s = record {
  name = s.name;
  address = s.address;
  user = s.login.user;
  real_name = s.login.real_name;
  password = s.login.password;
  autojoin = s.login.autojoin;
  nick = s.nick;
  nicks_left = drop s.tried s.nicks;
  taken = s.taken;
  negotiation = s.negotiation;
  mask = s.mask;
  is_connected = s.is_connected;
  is_registered = s.is_registered;
  features = s.features;
  channels = map joined s.channels.items;
  private_max = s.private_max;
}
