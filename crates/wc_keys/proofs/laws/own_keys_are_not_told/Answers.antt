use Rattle.wc_keys.proofs.OwnKeys.{own_not_told, own_not_dumped}
use Rattle.wc_keys.proofs.laws.own_keys_are_not_told.Goals as goal

pub returns-clause-events : goal.returns-clause-events
returns-clause-events c = own_not_told

pub returns-clause-dump : goal.returns-clause-dump
returns-clause-dump c = own_not_dumped
