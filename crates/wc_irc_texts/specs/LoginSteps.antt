-- What a message is to a login at a stage (IRCv3 capability negotiation and SASL).
use Rattle.std.specs.Prelude.{ℕ, ◌&&◌, ◌||◌, Bool, List, [], bytes_eq, codes, if◌then◌else◌}
use Rattle.wc_ircmsg.specs.declared.message.Message.{Message}
use Rattle.wc_irc_texts.specs.declared.login_step.LoginStep.{LoginStep}
use Rattle.wc_irc_texts.specs.declared.login_step.LoginStep.TheVariants as step
use Rattle.wc_irc_texts.specs.declared.login_step.Stage.{Stage}
use Rattle.wc_irc_texts.specs.declared.login_step.Stage.TheVariants.{Idle, Lists, Asks, Begins, Proves}
use Rattle.wc_irc_texts.specs.Capabilities.{is_among}
use Rattle.wc_irc_texts.specs.Rows.{param, has_params}

-- ---- CAP: the second parameter says what it is, and the last one has the words

-- a list goes on in another line
abbrev pub goes_on : Message → Bool
goes_on m = has_params 4 m && bytes_eq (param 2 m) (codes "*")

abbrev pub cap_text : Message → List ℕ
cap_text m = if goes_on m then param 3 m else param 2 m

-- ---- what a message is to a login at a stage

abbrev pub list_step : Stage → Message → LoginStep
list_step Idle m = step.Nothing
list_step Lists m = if goes_on m then step.Lists else step.EndsList
list_step Asks m = step.Nothing
list_step Begins m = step.Nothing
list_step Proves m = step.Nothing

abbrev pub answer_step : Stage → LoginStep → LoginStep
answer_step Idle answer = step.Nothing
answer_step Lists answer = step.Nothing
answer_step Asks answer = answer
answer_step Begins answer = step.Nothing
answer_step Proves answer = step.Nothing

abbrev pub cap_step : Stage → Message → LoginStep
cap_step stage m =
    if bytes_eq (param 1 m) (codes "LS") then list_step stage m else (
    if bytes_eq (param 1 m) (codes "ACK") then answer_step stage step.Grants else (
    if bytes_eq (param 1 m) (codes "NAK") then answer_step stage step.Refuses else (
    if bytes_eq (param 1 m) (codes "DEL") then step.TakesAway else (
    if bytes_eq (param 1 m) (codes "NEW") then step.Nothing else step.Foreign))))

abbrev pub is_go_on : Message → Bool
is_go_on m = bytes_eq (param 0 m) (codes "+")

abbrev pub proof_step : Stage → Message → LoginStep
proof_step Idle m = step.Nothing
proof_step Lists m = step.Nothing
proof_step Asks m = step.Nothing
proof_step Begins m = if is_go_on m then step.AsksProof else step.Nothing
proof_step Proves m = step.Nothing

-- the numerics by which a server lets none in
abbrev pub is_rejection : List ℕ → Bool
is_rejection command = bytes_eq command (codes "902") || (bytes_eq command (codes "904")
    || (bytes_eq command (codes "905") || (bytes_eq command (codes "906")
    || (bytes_eq command (codes "907") || bytes_eq command (codes "908")))))

abbrev pub verdict : List ℕ → LoginStep
verdict command = if bytes_eq command (codes "903") then step.Admits else (
    if is_rejection command then step.Rejects else step.Foreign)

abbrev pub verdict_step : Stage → List ℕ → LoginStep
verdict_step Idle command = step.Foreign
verdict_step Lists command = step.Foreign
verdict_step Asks command = step.Foreign
verdict_step Begins command = verdict command
verdict_step Proves command = verdict command

-- ---- what a message is to a login

-- the capability without which no such message comes
abbrev pub capability_of : List ℕ → List ℕ
capability_of command =
    if bytes_eq command (codes "AWAY") then codes "away-notify" else (
    if bytes_eq command (codes "ACCOUNT") then codes "account-notify" else (
    if bytes_eq command (codes "CHGHOST") then codes "chghost" else (
    if bytes_eq command (codes "SETNAME") then codes "setname" else (
    if bytes_eq command (codes "TAGMSG") then codes "message-tags" else []))))

-- one that comes by a capability that stands tells nothing that is printed
abbrev pub other_step : Stage → List (List ℕ) → List ℕ → LoginStep
other_step stage stands command = if is_among (capability_of command) stands then step.Nothing
    else verdict_step stage command

abbrev pub used_step : Stage → List (List ℕ) → Message → LoginStep
used_step stage stands m = if bytes_eq m.command (codes "CAP") then cap_step stage m else (
    if bytes_eq m.command (codes "AUTHENTICATE") then proof_step stage m
    else other_step stage stands m.command)
