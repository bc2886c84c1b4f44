-- What is told of a path, where there is an answer and where there is none.
use Rattle.std.proofs.Common.{◌≡◌, ℕ, ◌-◌, ◌^◌, ◌<◌, ◌≤◌, Bool, ◌&&◌, true, false, cond, List, [], ◌∷◌, ◌++◌, length, Option, Some, None, refl, sym, ap, ◌∙◌, arith}
use Rattle.std.specs.Prelude.{nat_lt}
use Rattle.std.specs.Str.{IsUtf8, bytes_eq}
use Rattle.std.proofs.lemmas.Bool.{and_parts}
use Rattle.std.proofs.lemmas.Bool.Decides.{nat_tests}
use Rattle.std.proofs.lemmas.Slice.Eq.{bytes_eq-Decides}
use Rattle.wc_buffers.specs.Groups.{rows}
use Rattle.wc_model.specs.World.{World}
use Rattle.wc_objects.specs.declared.object.Object.{Object}
use Rattle.wc_objects.specs.Forms.{well_formed}
use Rattle.wc_objects.specs.Spelling.{message_bytes}
use Rattle.wc_events.specs.BufferObjects.{buffer_dump}
use Rattle.wc_events.specs.LineObjects.{line_dump}
use Rattle.wc_hdata.specs.declared.path.Path.{Path}
use Rattle.wc_hdata.specs.declared.refused.WalkRefused.{WalkRefused}
use Rattle.wc_hdata.specs.Answers.{path_of}
use Rattle.wc_hdata.specs.Dumps.{AreShort, buffers_text, buffers_path, buffers_keys, lines_text, lines_path, lines_keys}
use Rattle.wc_hdata.specs.Hdata.{message_refusal, refusal, walk_object, too_long}
use Rattle.wc_hdata.specs.Starts.{or_else}
use Rattle.wc_hdata.proofs.DumpVisits.{buffers_accepted, lines_accepted}
use Rattle.wc_hdata.proofs.DumpWalks.{AreOnce, buffers_read, buffers_walked, lines_read, lines_walked}
use Rattle.wc_hdata.proofs.WalkLengths.{long_buffers, long_lines}
use Rattle.wc_session.specs.Reply.{hdata_objects, is_buffer_dump, is_line_dump, path_objects, unless_refused}
use Rattle.wc_session.specs.Sending.{message, fits, fitting, reply, null_hdata, is_owed, Sends, IsTold}
use Rattle.wc_session.proofs.SendingLemmas.{fits_within, fits_not, reply_first, reply_second, owed_first, sends_one, sends_as}

pub reply_null : (id : List ℕ) → reply id null_hdata ≡ fitting (message id null_hdata)
unfolding reply fitting
reply_null id = by (fits (message id null_hdata)) where
  by : (b : Bool) → cond b (message id null_hdata ∷ []) (cond b (message id null_hdata ∷ []) []) ≡ cond b (message id null_hdata ∷ []) []
  by true = refl
  by false = refl

-- the text spells no path
pub no_path : (id : List ℕ) (world : World) (text keys : List ℕ) → path_of text ≡ None → reply id (hdata_objects world text keys) ≡ fitting (message id null_hdata)
unfolding hdata_objects
no_path id world text keys none = ap (λ p. reply id (path_objects world keys p)) none ∙ reply_null id

-- the walk is refused, or its message is too long
pub no_answer : (id : List ℕ) (world : World) (text keys : List ℕ) (path : Path) (r : WalkRefused) → path_of text ≡ Some path → message_refusal id world path keys ≡ Some r
    → reply id (hdata_objects world text keys) ≡ fitting (message id null_hdata)
unfolding hdata_objects message_refusal
no_answer id world text keys path r spelled refused = ap (λ p. reply id (path_objects world keys p)) spelled ∙ by (refusal world path keys) refused where
  object : Object
  object = walk_object world path keys

  long : (b : Bool) → nat_lt (2 ^ 31 - 1) (length (message_bytes id (object ∷ []))) ≡ b → cond b (Some too_long) None ≡ Some r → fits (message id (object ∷ [])) ≡ false
  long true e same = fits_not (message id (object ∷ [])) (grind (arith, nat_tests))
  long false e same = absurd (let given = same in cc)

  by : (o : Option WalkRefused) → or_else o (cond (nat_lt (2 ^ 31 - 1) (length (message_bytes id (object ∷ [])))) (Some too_long) None) ≡ Some r
      → reply id (unless_refused o object) ≡ fitting (message id null_hdata)
  by (Some first) e = reply_null id
  by None e = sym (reply_second id (object ∷ []) (long (nat_lt (2 ^ 31 - 1) (length (message_bytes id (object ∷ [])))) refl e))

-- the walk is accepted
accepted_objects : (world : World) (text keys : List ℕ) (path : Path) → path_of text ≡ Some path → refusal world path keys ≡ None → hdata_objects world text keys ≡ walk_object world path keys ∷ []
unfolding hdata_objects
accepted_objects world text keys path spelled accepted =
    ap (λ p. path_objects world keys p) spelled ∙ ap (λ o. unless_refused o (walk_object world path keys)) accepted

pub told_walk : (old new id : List ℕ) (world : World) (text keys : List ℕ) (path : Path) → path_of text ≡ Some path → refusal world path keys ≡ None
    → new ≡ old ++ message_bytes id (walk_object world path keys ∷ []) → length (message_bytes id (walk_object world path keys ∷ [])) ≤ 2 ^ 31 - 1
    → IsUtf8 id → well_formed (walk_object world path keys ∷ []) ≡ true → IsTold true old new id (hdata_objects world text keys)
told_walk old new id world text keys path spelled accepted e within text_is formed =
    let objects = walk_object world path keys ∷ [] in
    let same = accepted_objects world text keys path spelled accepted in
    let fit = fits_within (message id objects) within in (
      sends_as old new (fitting (message id objects)) (reply id (hdata_objects world text keys)) (reply_first id objects fit ∙ ap (reply id) (sym same)) (sends_one old new id objects e within text_is formed),
      ap (λ objects. is_owed (reply id objects)) same ∙ sym (owed_first id objects fit),
    )

-- ---- the dumps

-- a walk that is refused for its length alone is told as its objects would be
told_as : (id : List ℕ) (world : World) (path : Path) (keys : List ℕ) (objects : List Object) → walk_object world path keys ∷ [] ≡ objects
    → ((r : WalkRefused) → refusal world path keys ≡ Some r → 2 ^ 31 - 1 < length (message_bytes id (walk_object world path keys ∷ [])))
    → reply id (unless_refused (refusal world path keys) (walk_object world path keys)) ≡ reply id objects
told_as id world path keys objects same long = by (refusal world path keys) long where
  walked : List Object
  walked = walk_object world path keys ∷ []

  by : (o : Option WalkRefused) → ((r : WalkRefused) → o ≡ Some r → 2 ^ 31 - 1 < length (message_bytes id walked)) → reply id (unless_refused o (walk_object world path keys)) ≡ reply id objects
  by None long = ap (reply id) same
  by (Some r) long = reply_null id ∙ reply_second id walked (fits_not (message id walked) (long r refl)) ∙ ap (reply id) same

as_written : (id : List ℕ) (world : World) (text keys asked_text asked_keys : List ℕ) (path : Path) → bytes_eq text asked_text && bytes_eq keys asked_keys ≡ true → path_of asked_text ≡ Some path
    → reply id (hdata_objects world text keys) ≡ reply id (unless_refused (refusal world path asked_keys) (walk_object world path asked_keys))
unfolding hdata_objects
as_written id world text keys asked_text asked_keys path asks read =
    let parts = and_parts (bytes_eq text asked_text) (bytes_eq keys asked_keys) asks in
    (λ i. reply id (path_objects world ((bytes_eq-Decides keys asked_keys).0 parts.1 i) (path_of ((bytes_eq-Decides text asked_text).0 parts.0 i))))
    ∙ ap (λ p. reply id (path_objects world asked_keys p)) read

pub buffers_told : (id : List ℕ) (world : World) (text keys : List ℕ) → AreOnce world.groups → length world.groups ≤ 256 → length (rows world.groups) ≤ 256 → is_buffer_dump text keys ≡ true
    → reply id (hdata_objects world text keys) ≡ reply id (buffer_dump world.groups)
buffers_told id world text keys once groups few asks =
    as_written id world text keys buffers_text buffers_keys buffers_path asks buffers_read
    ∙ told_as id world buffers_path buffers_keys (buffer_dump world.groups) (buffers_walked world once groups) (λ r. long_buffers id world r (buffers_accepted world few))

pub lines_told : (id : List ℕ) (world : World) (text keys : List ℕ) → AreOnce world.groups → length (rows world.groups) ≤ 256 → AreShort world → is_line_dump text keys ≡ true
    → reply id (hdata_objects world text keys) ≡ reply id (line_dump world)
lines_told id world text keys once few short asks =
    as_written id world text keys lines_text lines_keys lines_path asks lines_read
    ∙ told_as id world lines_path lines_keys (line_dump world) (lines_walked world once) (λ r. long_lines id world r (lines_accepted world few short))
