use Rattle.std.proofs.Common.{◌≡◌, sym, ap, ◌∙◌, refl, arith, subst, length, ◌++◌, ◌∷◌, []}
use Rattle.wc_irc.specs.declared.names_state.Comer.{Comer}
use Rattle.wc_irc_nicks.specs.Kept.{NewNickValue}
use Rattle.wc_irc.specs.NamesSeen.{AllMayCome, MayCome}
use Rattle.wc_irc.proofs.ComerLemmas.{comers_none, comers_some, may_more}
use Rattle.wc_irc.proofs.OneChannelLemmas.{short_nick}
use Rattle.wc_irc.proofs.names_state.put_comer.Goals as goal

pub returns-then-not-is_nick-clause-seats : goal.returns-then-not-is_nick-clause-seats
returns-then-not-is_nick-clause-seats c = comers_none c.args.prefixes.now c.args.has_hosts c.args.comers.now.items c.args.name.now c.listed_name-listed.result.nick.now c.listed_name-listed.ensures.nick (sym c.is_nick.ensures ∙ c.if-not-is_nick.true)

pub returns-clause-seats : goal.returns-clause-seats
returns-clause-seats c = comers_some c.args.prefixes.now c.args.has_hosts c.args.comers.now.items c.push_reserved.new.self.items (record { new = c.in_ok-new.new; modes = c.listed_name-listed.result.modes }) c.args.name.now c.listed_name-listed.result.nick.now c.listed_name-listed.result.modes
    c.listed_name-listed.ensures.nick c.listed_name-listed.ensures.modes (sym c.is_nick.ensures ∙ c.if-not-is_nick.false) (ap (λ (v : NewNickValue). v.nick) c.in_ok-new.ensures) refl (cc)

pub returns-clause-may : goal.returns-clause-may
returns-clause-may c =
    let comer : Comer = record { new = c.in_ok-new.new; modes = c.listed_name-listed.result.modes } in
    let made : c.push_reserved.new.self.items ≡ c.args.comers.now.items ++ comer ∷ [] = cc in
    let short = short_nick c.args.prefixes.now c.listed_name-listed.result.nick.now (sym c.is_nick.ensures ∙ c.if-not-is_nick.false) in
    let may : MayCome c.args.case_map comer = record {
      map_is = ap (λ (v : NewNickValue). v.case_map) c.in_ok-new.ensures;
      short = omega (arith, ap (λ (v : NewNickValue). length v.nick) c.in_ok-new.ensures, short);
    } in
    subst (AllMayCome c.args.case_map) (sym made) (may_more c.args.case_map c.args.comers.now.items comer c.requires may)
