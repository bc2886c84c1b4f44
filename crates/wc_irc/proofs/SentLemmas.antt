-- The acts of a line that is too long, and of a link that stands.
use Rattle.std.proofs.Common.{◌≡◌, ℕ, Bool, true, false, cond, List, [], ◌∷◌, refl, ap, sym, ◌∙◌, Option, Some, None}
use Rattle.std.specs.Prelude.{is_some, map}
use Rattle.std.specs.List.{AllByRecursion}
use Rattle.std.proofs.lemmas.Bool.{false≢true}
use Rattle.std.specs.Borrow.{Bor}
use Rattle.wc_text.specs.Splits.{word_of}
use Rattle.wc_buffers.specs.Calls.{EntryGroups}
use Rattle.wc_irc.specs.CommandActs.{if_linked}
use Rattle.wc_irc.specs.Autojoin.{message}
use Rattle.wc_irc.specs.CommandSeen.{AreWritable, IsSent, link_seen}
use Rattle.wc_irc.specs.SentLines.{too_long, fits_line, line_acts, both_acts}
use Rattle.wc_irc.specs.declared.act.Act.{Act}
use Rattle.wc_irc.specs.declared.act.Act.TheVariants as act
use Rattle.wc_irc.specs.declared.state.State.{State}

-- a line that does not fit
pub long_line : (groups : EntryGroups) (line lent : List ℕ) (fits : Bool) → fits ≡ fits_line line → fits ≡ false → lent ≡ line → too_long groups (word_of lent) ≡ line_acts groups line
long_line groups line lent fits is unfit same =
    ap (λ l. too_long groups (word_of l)) same
    ∙ sym (ap (λ b. cond b (act.Send line ∷ []) (too_long groups (word_of line))) (sym is ∙ unfit))

-- the first of two lines does not
pub long_first : (groups : EntryGroups) (first second lent : List ℕ) (fits : Bool) → fits ≡ fits_line first → fits ≡ false → lent ≡ first → too_long groups (word_of lent) ≡ both_acts groups first second
long_first groups first second lent fits is unfit same =
    ap (λ l. too_long groups (word_of l)) same
    ∙ sym (ap (λ b. cond b (cond (fits_line second) (act.Send first ∷ act.Send second ∷ []) (too_long groups (word_of second))) (too_long groups (word_of first))) (sym is ∙ unfit))

-- the second does not
pub long_second : (groups : EntryGroups) (first second lent : List ℕ) (a b : Bool) → a ≡ fits_line first → a ≡ true → b ≡ fits_line second → b ≡ false → lent ≡ second → too_long groups (word_of lent) ≡ both_acts groups first second
long_second groups first second lent a b is fit also unfit same =
    ap (λ l. too_long groups (word_of l)) same
    ∙ sym (ap (λ f. cond f (act.Send first ∷ act.Send second ∷ []) (too_long groups (word_of second))) (sym also ∙ unfit))
    ∙ sym (ap (λ f. cond f (cond (fits_line second) (act.Send first ∷ act.Send second ∷ []) (too_long groups (word_of second))) (too_long groups (word_of first))) (sym is ∙ fit))

-- a link that is there
pub linked_acts : (groups : EntryGroups) (link : Option (Bor State)) (acts : List Act) → is_some link ≡ true → if_linked groups (link_seen link) (λ s. acts) ≡ acts
linked_acts groups None acts e = absurd (false≢true e)
linked_acts groups (Some state) acts e = refl

-- what can be sent one after another can be written
pub each_writable : (command : List ℕ) (each : List (List (List ℕ))) → AllByRecursion IsSent (map (λ params. message command params) each) → AreWritable command each
each_writable command [] sent = tt
each_writable command (params ∷ each) sent = (sent.0.0, each_writable command each sent.1)
