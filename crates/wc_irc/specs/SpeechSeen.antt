-- What a text is, as the code lends it.
use Rattle.wc_irc.specs.declared.talk.Talk.{Talk as Lent}
use Rattle.wc_irc.specs.declared.talk.Talk.TheVariants as lent
use Rattle.wc_irc.specs.SpeechActs.{Talk, Says, Does, Requests}

abbrev pub talk_seen : Lent → Talk
talk_seen (lent.Says text) = Says text.now
talk_seen (lent.Does deed) = Does deed.now
talk_seen (lent.Requests word) = Requests word.now
