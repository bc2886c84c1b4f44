use Rattle.wc_relaycmd.proofs.LoginLemmas.{hash_of-one, hash_of-two, hash_of-five, read_as, three_read, four_read}
use Rattle.wc_relaycmd.proofs.login.read_hash.Goals as goal

pub returns-in_default : goal.returns-in_default
returns-in_default c = hash_of-one c.args.text.now (rw c.in_default.is at c.split_once.ensures.back)

pub returns-in_default-text_after : goal.returns-in_default-text_after
returns-in_default-text_after c =
    hash_of-two c.args.text.now _ (rw c.in-Some.is at c.split_once.ensures.back) (rw c.in_default-text_after.is at c.split_once-2.ensures.back)

pub returns-in_default-text_after-2 : goal.returns-in_default-text_after-2
returns-in_default-text_after-2 c =
    read_as _ _ c.args.text.now c.hash_from.ensures
    (three_read c.args.text.now c.in-Some.text_after.now c.in-Some-text_after.text_after.now _ _ _ _ c.hash_named.ensures c.split_once.ensures.front c.split_once-2.ensures.front c.split_once-3.ensures.front
    (rw c.in-Some.is at c.split_once.ensures.back) (rw c.in-Some-text_after.is at c.split_once-2.ensures.back) (rw c.in_default-text_after-2.is at c.split_once-3.ensures.back))

pub returns-in-Some-more : goal.returns-in-Some-more
returns-in-Some-more c =
    hash_of-five c.args.text.now c.in-Some.text_after.now c.in-Some-text_after.text_after.now c.in-Some-text_after-2.text_after.now _
    (rw c.in-Some.is at c.split_once.ensures.back) (rw c.in-Some-text_after.is at c.split_once-2.ensures.back) (rw c.in-Some-text_after-2.is at c.split_once-3.ensures.back) (rw c.in-Some-more.is at c.split_once-4.ensures.back)

pub returns : goal.returns
returns c =
    read_as _ _ c.args.text.now c.hash_from-2.ensures
    (four_read c.args.text.now c.in-Some.text_after.now c.in-Some-text_after.text_after.now c.in-Some-text_after-2.text_after.now _ _ _ _ _ _ c.rounds_named.ensures c.rounds_in.ensures
    c.split_once.ensures.front c.split_once-2.ensures.front c.split_once-3.ensures.front c.split_once-4.ensures.front
    (rw c.in-Some.is at c.split_once.ensures.back) (rw c.in-Some-text_after.is at c.split_once-2.ensures.back) (rw c.in-Some-text_after-2.is at c.split_once-3.ensures.back) (rw c.in_default-more.is at c.split_once-4.ensures.back))
