-- The acts that servers ask for, one by one.
use Rattle.std.proofs.Common.{◌≡◌, ℕ, ◌≤◌, Bool, true, false, cond, ◌&&◌, nat_le, arith, List, [], ◌∷◌, inl, inr, Option, Some, None, IfSome, refl, ap, sym, subst, ◌∙◌}
use Rattle.std.proofs.lemmas.Bool.{false≢true}
use Rattle.std.proofs.lemmas.Bool.Decides.{nat_tests}
use Rattle.std.proofs.lemmas.List.Elements.{All-nil, All-cons}
use Rattle.std.proofs.lemmas.Str.{IsUtf8-from_is_utf8}
use Rattle.std.specs.List.{All, list_all}
use Rattle.std.specs.Str.{IsUtf8, is_utf8}
use Rattle.wc_text.specs.declared.names.Pair.{Pair}
use Rattle.wc_nicklist.specs.Rows.{TextsAreUtf8}
use Rattle.wc_nicklist.specs.declared.item.Item.{Item}
use Rattle.wc_text.specs.declared.names.Handle.{Handle}
use Rattle.wc_buffers.specs.Entries.{IsText}
use Rattle.wc_buffers.specs.declared.row.BufferSpec.{BufferSpec}
use Rattle.wc_model.specs.declared.change.Change.{Change}
use Rattle.wc_model.specs.declared.change.LineSpec.{LineSpec}
use Rattle.wc_model.specs.declared.change.What.{What}
use Rattle.wc_model.specs.declared.change.What.TheVariants as what
use Rattle.wc_model.specs.declared.refused.ChangeRefused.{ChangeRefused}
use Rattle.wc_world.specs.Texts.{IsChangeText, IsLineText, IsBufferText}
use Rattle.wc_servers.specs.Texts.{is_pair_text, is_spec_text, is_line_text, is_item_text, is_change_text}
use Rattle.wc_core.specs.CoreView.{CoreView}
use Rattle.wc_core.specs.Changing.{no_step, change_step_if, refused, refusal_step}
use Rattle.wc_core.specs.Inputs.{MakesChange, RefusesChange}
use Rattle.wc_core.specs.Resolved.{refusal_text}
use Rattle.wc_core.specs.ServerSteps.{say_step, told_step_if, try_step, on_step}
use Rattle.wc_core.specs.State.{State, Stepped}
use Rattle.wc_core.proofs.ChainLemmas.{Runs-as}
use Rattle.wc_core.proofs.PushLemmas.{Runs-over}
use Rattle.wc_core.specs.Contained.{state_with, RunsAt, Runs}
use Rattle.wc_core.proofs.RunLemmas.{Runs-starved, Runs-stays}

-- ---- texts

both_left : (a b : Bool) → (a && b) ≡ true → a ≡ true
both_left true b e = refl
both_left false b e = absurd (false≢true e)

both_right : (a b : Bool) → (a && b) ≡ true → b ≡ true
both_right true b e = e
both_right false b e = absurd (false≢true e)

all_from : {X : Type 0} (P : X → Type 0) (test : X → Bool) → ((x : X) → test x ≡ true → P x) → (xs : List X) → list_all test xs ≡ true → All P xs
all_from P test from [] e = All-nil P
all_from P test from (x ∷ xs) e = All-cons P x xs (from x (both_left (test x) (list_all test xs) e)) (all_from P test from xs (both_right (test x) (list_all test xs) e))

pair_text : (pair : Pair) → is_pair_text pair ≡ true → IsText pair
pair_text pair e = (IsUtf8-from_is_utf8 pair.name (both_left _ _ e), IsUtf8-from_is_utf8 pair.value (both_right _ _ e))

spec_text : (spec : BufferSpec) → is_spec_text spec ≡ true → IsBufferText spec
spec_text spec e =
    let rest = both_right _ _ e in
    let more = both_right _ _ rest in
    record {
      full_name = IsUtf8-from_is_utf8 spec.full_name (both_left _ _ e);
      short_name = IsUtf8-from_is_utf8 spec.short_name (both_left _ _ rest);
      title = IsUtf8-from_is_utf8 spec.title (both_left _ _ more);
      vars = all_from IsText is_pair_text pair_text spec.vars (both_right _ _ more);
    }

line_text : (line : LineSpec) → is_line_text line ≡ true → IsLineText line
line_text line e =
    let rest = both_right _ _ e in
    record {
      tags = all_from IsUtf8 is_utf8 IsUtf8-from_is_utf8 line.tags (both_left _ _ e);
      prefix = IsUtf8-from_is_utf8 line.prefix (both_left _ _ rest);
      message = IsUtf8-from_is_utf8 line.message (both_right _ _ rest);
    }

item_text : (item : Item) → is_item_text item ≡ true → TextsAreUtf8 item
item_text item e =
    let rest = both_right _ _ e in
    let more = both_right _ _ rest in
    record {
      name = IsUtf8-from_is_utf8 item.name (both_left _ _ e);
      color = IsUtf8-from_is_utf8 item.color (both_left _ _ rest);
      prefix = IsUtf8-from_is_utf8 item.prefix (both_left _ _ more);
      prefix_color = IsUtf8-from_is_utf8 item.prefix_color (both_right _ _ more);
    }

limit_text : (limit : ℕ) → nat_le 1 limit ≡ true → nat_le limit 4096 ≡ true → (1 ≤ limit) × (limit ≤ 4096)
limit_text limit low high = (grind (arith, nat_tests), grind (arith, nat_tests))

-- what passes the test is text, and a limit of lines is one that there may be
pub change_text : (w : What) → is_change_text w ≡ true → IsChangeText w
unfolding is_change_text
change_text (what.Add spec) e = spec_text spec e
change_text what.Close e = tt
change_text (what.MoveTo number) e = tt
change_text (what.MergeInto into) e = tt
change_text what.Unmerge e = tt
change_text what.Hide e = tt
change_text what.Unhide e = tt
change_text (what.Rename name flips) e = IsUtf8-from_is_utf8 name e
change_text (what.ShortName name) e = IsUtf8-from_is_utf8 name e
change_text (what.Title title) e = IsUtf8-from_is_utf8 title e
change_text (what.SetVar var) e = pair_text var e
change_text (what.RemoveVar name) e = tt
change_text (what.Print line) e = line_text line e
change_text what.Clear e = tt
change_text (what.Flips flips) e = tt
change_text (what.AddGroup parent item) e = (IsUtf8-from_is_utf8 parent (both_left _ _ e), item_text item (both_right _ _ e))
change_text (what.AddNick group item) e = (IsUtf8-from_is_utf8 group (both_left _ _ e), item_text item (both_right _ _ e))
change_text (what.RemoveGroup name) e = tt
change_text (what.RemoveNick name) e = tt
change_text (what.ChangeGroup item) e = item_text item e
change_text (what.ChangeNick item) e = item_text item e
change_text (what.Limit limit) e = limit_text limit (both_left (nat_le 1 limit) (nat_le limit 4096) e) (both_right (nat_le 1 limit) (nat_le limit 4096) e)

-- ---- changes

-- a change that is made, whether its refusal would be told or not
made-as : (old new : CoreView) (change : Change) (step : State → Option ChangeRefused → Stepped) → ((state : State) → change_step_if state change None ≡ step state None) → MakesChange old change new → Runs old new (λ state. step state (refused state change))
made-as old new change step same (inl made) = λ told.
    let P : Option ChangeRefused → Type 0 = λ o. RunsAt told old new (step (state_with old told) o) in
    let Q : Stepped → Type 0 = λ stepped. RunsAt told old new stepped in
    subst P (sym made.0) (subst Q (same (state_with old told)) (made.1 told))
made-as old new change step same (inr starves) = Runs-starved old new (λ state. step state (refused state change)) starves

pub tells-made : (old new : CoreView) (change : Change) → MakesChange old change new → Runs old new (λ state. told_step_if state change (refused state change))
tells-made old new change made = made-as old new change (λ state o. told_step_if state change o) (λ state. refl) made

pub passes-made : (old new : CoreView) (change : Change) → MakesChange old change new → Runs old new (λ state. change_step_if state change (refused state change))
passes-made old new change made = made-as old new change (λ state o. change_step_if state change o) (λ state. refl) made

-- one whose refusal is told
pub tells-refused : (old mid new : CoreView) (change : Change) (reason : ChangeRefused) (text : List ℕ) → RefusesChange old change reason mid → text ≡ refusal_text reason → Runs mid new (λ state. say_step state text)
    → Runs old new (λ state. told_step_if state change (refused state change))
tells-refused old mid new change reason text refuses e done = λ told.
    let P : Option ChangeRefused → Type 0 = λ o. RunsAt told old new (told_step_if (state_with old told) change o) in
    let Q : List ℕ → Type 0 = λ t. RunsAt told old new (say_step (state_with old told) t) in
    subst P (sym refuses.refused) (subst Q e (Runs-over old mid new (λ state. say_step state text) refuses.stays refuses.touches done told))

-- one that is refused and passed over
pub passes-refused : (old new : CoreView) (change : Change) (reason : ChangeRefused) → RefusesChange old change reason new → Runs old new (λ state. change_step_if state change (refused state change))
passes-refused old new change reason refuses = λ told.
    let P : Option ChangeRefused → Type 0 = λ o. RunsAt told old new (change_step_if (state_with old told) change o) in
    subst P (sym refuses.refused) (Runs-over old new new no_step refuses.stays refuses.touches (Runs-stays new) told)

pub passes : (old new : CoreView) (change : Change) (o : Option ChangeRefused) → (o ≡ None → MakesChange old change new) → IfSome o (λ reason. RefusesChange old change reason new) → Runs old new (λ state. change_step_if state change (refused state change))
passes old new change None made refused = passes-made old new change (made refl)
passes old new change (Some reason) made refused = passes-refused old new change reason refused

-- ---- what is chosen by a test

pub chosen : (old new : CoreView) (test b : Bool) (one other : State → Stepped) → test ≡ b → Runs old new (λ state. cond b (one state) (other state)) → Runs old new (λ state. cond test (one state) (other state))
chosen old new test b one other e done = Runs-as old new (λ state. cond b (one state) (other state)) (λ state. cond test (one state) (other state)) (λ told. ap (λ t. cond t (one (state_with old told)) (other (state_with old told))) (sym e)) done

pub utf8_by : (text : List ℕ) (b : Bool) → b ≡ is_utf8 text → b ≡ true → IsUtf8 text
utf8_by text b e passed = IsUtf8-from_is_utf8 text (sym e ∙ passed)

pub text_by : (w : What) (b : Bool) → b ≡ is_change_text w → b ≡ true → IsChangeText w
text_by w b e passed = change_text w (sym e ∙ passed)

pub says-not : (old : CoreView) (text : List ℕ) (b : Bool) → b ≡ is_utf8 text → b ≡ false → Runs old old (λ state. say_step state text)
says-not old text b e failed = chosen old old (is_utf8 text) false (λ state. refusal_step state text) no_step (sym e ∙ failed) (Runs-stays old)

pub says-told : (old new : CoreView) (text : List ℕ) (b : Bool) → b ≡ is_utf8 text → b ≡ true → Runs old new (λ state. refusal_step state text) → Runs old new (λ state. say_step state text)
says-told old new text b e passed done = chosen old new (is_utf8 text) true (λ state. refusal_step state text) no_step (sym e ∙ passed) done

abbrev tried : Bool → Change → State → Stepped
tried tells change state = cond tells (told_step_if state change (refused state change)) (change_step_if state change (refused state change))

pub tries-not : (old : CoreView) (tells : Bool) (change : Change) (b : Bool) → b ≡ is_change_text change.what → b ≡ false → Runs old old (λ state. try_step tells state change)
tries-not old tells change b e failed = chosen old old (is_change_text change.what) false (tried tells change) no_step (sym e ∙ failed) (Runs-stays old)

pub tries-told : (old new : CoreView) (tells : Bool) (change : Change) (b : Bool) → b ≡ is_change_text change.what → b ≡ true → tells ≡ true → Runs old new (λ state. told_step_if state change (refused state change)) → Runs old new (λ state. try_step tells state change)
tries-told old new tells change b e passed on done =
    chosen old new (is_change_text change.what) true (tried tells change) no_step (sym e ∙ passed)
    (chosen old new tells true (λ state. told_step_if state change (refused state change)) (λ state. change_step_if state change (refused state change)) on done)

pub tries-made : (old new : CoreView) (tells : Bool) (change : Change) (b : Bool) → b ≡ is_change_text change.what → b ≡ true → tells ≡ false → Runs old new (λ state. change_step_if state change (refused state change)) → Runs old new (λ state. try_step tells state change)
tries-made old new tells change b e passed off done =
    chosen old new (is_change_text change.what) true (tried tells change) no_step (sym e ∙ passed)
    (chosen old new tells false (λ state. told_step_if state change (refused state change)) (λ state. change_step_if state change (refused state change)) off done)

-- ---- a buffer that is named

pub passes-none : (old : CoreView) (tells : Bool) (w : What) (name : Option Handle) → None ≡ name → Runs old old (λ state. on_step tells state w name)
passes-none old tells w name e = Runs-as old old no_step (λ state. on_step tells state w name) (λ told. ap (on_step tells (state_with old told) w) e) (Runs-stays old)
