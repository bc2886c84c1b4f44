use Rattle.std.proofs.Common.{◌≡◌, true, rules}
use Rattle.wc_irc_words.specs.Typed.{is_target}
use Rattle.wc_irc.proofs.AutojoinLemmas.{join_writable}
use Rattle.wc_irc.proofs.autojoin.put_join.Goals as goal

pub join_line-requires : goal.join_line-requires
join_line-requires c =
    let sent : is_target c.args.channel.now ≡ true = search rules in
    join_writable c.args.channel.now c.args.key.now sent c.requires.channel c.requires.key
