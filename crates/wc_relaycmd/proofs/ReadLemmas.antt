-- A line's request is the one that is computed.
use Rattle.std.proofs.Common.{◌≡◌, ℕ, List, [], ◌∷◌, refl, ap, sym, ◌∙◌, arith, eqb, Bool, true, false, cond, ◌&&◌, Option, Some, None, option_map, option_and_then, subst, Result, Ok, Err, IfOk, IfSome, OnErr, length}
use Rattle.std.proofs.lemmas.Bool.{false≢true}
use Rattle.std.proofs.lemmas.Str.{IsUtf8-from_is_utf8, is_utf8-from_IsUtf8}
use Rattle.std.specs.Str.{IsUtf8, is_utf8}
use Rattle.wc_text.specs.declared.no_memory.NoMemory.{NoMemory}
use Rattle.wc_relaycmd.specs.declared.request.Command.{Command}
use Rattle.wc_relaycmd.specs.declared.request.Request.{Request}
use Rattle.wc_relaycmd.specs.declared.word.Word.{Word}
use Rattle.wc_text.specs.Splits.{BeginsWithout, onward}
use Rattle.wc_relaycmd.specs.Escapes.{without_escapes, arguments_meant}
use Rattle.wc_relaycmd.specs.Grammar.{Calls, HasCommand, ReadsRequest}
use Rattle.wc_relaycmd.specs.Answers.{Called, call_of, command_of, asked_by, request_of}
use Rattle.wc_relaycmd.proofs.EscapeLemmas.{unescaped-plain}
use Rattle.wc_text.proofs.WordLemmas.{byte_differs}
use Rattle.wc_relaycmd.proofs.TagLemmas.{call_of-calls, calls-call_of}
use Rattle.wc_relaycmd.proofs.AskLemmas.{command_of-asks, asks-command_of}

-- reading escapes puts no blank at the front
unescaped-bare : (text : List ℕ) → BeginsWithout 32 text → BeginsWithout 32 (without_escapes text)
unescaped-bare [] bare = tt
unescaped-bare (b ∷ []) bare = bare
unescaped-bare (b ∷ c ∷ text) bare = by (eqb b 92 && eqb c 92) (eqb b 92 && eqb c 110) where
  by : (s t : Bool) → BeginsWithout 32 (cond s (92 ∷ without_escapes text) (cond t (10 ∷ without_escapes text) (b ∷ without_escapes (c ∷ text))))
  by true t = byte_differs 92 32 refl
  by false true = byte_differs 10 32 refl
  by false false = bare

meant-bare : (escaped : Bool) (text : List ℕ) → BeginsWithout 32 text → BeginsWithout 32 (arguments_meant escaped text)
meant-bare true text bare = unescaped-bare text bare
meant-bare false text bare = bare

-- what a line reads is computed
pub request_of-reads : (line : List ℕ) (escaped : Bool) (request : Request) → ReadsRequest line escaped request → request_of escaped line ≡ Some request
unfolding request_of asked_by
request_of-reads line escaped request reads =
    ap (λ t. cond t (option_and_then (asked_by escaped) (call_of line)) None) (is_utf8-from_IsUtf8 line reads.utf8) ∙
    ap (option_and_then (asked_by escaped)) (call_of-calls line request.id reads.word reads.arguments reads.calls) ∙
    ap (option_map (λ command. record { id = request.id; command = command })) (command_of-asks reads.word (arguments_meant escaped reads.arguments) request.command reads.asks)

-- the request of a call is read
asked_reads : (line : List ℕ) (escaped : Bool) (request : Request) (call : Called) → IsUtf8 line → Calls line call.id call.word call.arguments → asked_by escaped call ≡ Some request → ReadsRequest line escaped request
unfolding asked_by
asked_reads line escaped request call utf8 calls is = by (command_of call.word (arguments_meant escaped call.arguments)) refl is where
  by : (o : Option Command) → command_of call.word (arguments_meant escaped call.arguments) ≡ o → option_map (λ command. record { id = call.id; command = command }) o ≡ Some request → ReadsRequest line escaped request
  by None e here = absurd (cc)
  by (Some command) e here =
      let same : record { id = call.id; command = command } ≡ request = cc in
      subst (λ r. ReadsRequest line escaped r) same (record {
        utf8 = utf8;
        word = call.word;
        arguments = call.arguments;
        calls = calls;
        asks = asks-command_of call.word (arguments_meant escaped call.arguments) command (meant-bare escaped call.arguments calls.called.bare) e;
      })

pub reads-request_of : (line : List ℕ) (escaped : Bool) (request : Request) → request_of escaped line ≡ Some request → ReadsRequest line escaped request
unfolding request_of
reads-request_of line escaped request is = by (is_utf8 line) refl is where
  called : (o : Option Called) → call_of line ≡ o → IsUtf8 line → option_and_then (asked_by escaped) o ≡ Some request → ReadsRequest line escaped request
  called None e utf8 here = absurd (cc)
  called (Some call) e utf8 here = asked_reads line escaped request call utf8 (calls-call_of line call e) here

  by : (t : Bool) → is_utf8 line ≡ t → cond t (option_and_then (asked_by escaped) (call_of line)) None ≡ Some request → ReadsRequest line escaped request
  by true e here = called (call_of line) refl (IsUtf8-from_is_utf8 line e) here
  by false e here = absurd (cc)

-- a line has one request at most
pub ReadsRequest-one : (line : List ℕ) (escaped : Bool) (a b : Request) → ReadsRequest line escaped a → ReadsRequest line escaped b → a ≡ b
ReadsRequest-one line escaped a b reads_a reads_b =
    let first = request_of-reads line escaped a reads_a in
    let second = request_of-reads line escaped b reads_b in
    cc

-- a line with a request has a command
pub ReadsRequest-HasCommand : (line : List ℕ) (escaped : Bool) (request : Request) → ReadsRequest line escaped request → HasCommand line
ReadsRequest-HasCommand line escaped request reads = record { utf8 = reads.utf8; id = request.id; word = reads.word; arguments = reads.arguments; calls = reads.calls }

-- a line that is text, and whose call is found, has a command
pub called-HasCommand : (line : List ℕ) (call : Called) → IsUtf8 line → call_of line ≡ Some call → HasCommand line
called-HasCommand line call utf8 is = record { utf8 = utf8; id = call.id; word = call.word; arguments = call.arguments; calls = calls-call_of line call is }

-- the clauses of a reading, from what was computed
pub read_from : (result : Result (Option Request) NoMemory) (line : List ℕ) (escaped : Bool) → IfOk result (λ asked. asked ≡ request_of escaped line) → IfOk result (λ asked. IfSome asked (ReadsRequest line escaped))
read_from (Ok None) line escaped is = tt
read_from (Ok (Some request)) line escaped is = reads-request_of line escaped request (sym is)
read_from (Err e) line escaped is = tt

pub unread_from : (result : Result (Option Request) NoMemory) (line : List ℕ) (escaped : Bool) → IfOk result (λ asked. asked ≡ request_of escaped line) → result ≡ Ok None → (request : Request) → ReadsRequest line escaped request → ⊥
unread_from (Ok None) line escaped is none request reads = let some = request_of-reads line escaped request reads in cc
unread_from (Ok (Some asked)) line escaped is none request reads = cc
unread_from (Err e) line escaped is none request reads = cc

pub without_memory_from : (result : Result (Option Request) NoMemory) (line : List ℕ) (escaped : Bool) → IfOk result (λ asked. asked ≡ request_of escaped line) → OnErr result (HasCommand line) → (HasCommand line → ⊥) → result ≡ Ok None
without_memory_from (Ok None) line escaped is refused none = refl
without_memory_from (Ok (Some request)) line escaped is refused none = absurd (none (ReadsRequest-HasCommand line escaped request (reads-request_of line escaped request (sym is))))
without_memory_from (Err e) line escaped is refused none = absurd (none refused)

-- a line that is no text has no request
pub request_of-no_text : (line : List ℕ) (escaped : Bool) → (IsUtf8 line → ⊥) → None ≡ request_of escaped line
unfolding request_of
request_of-no_text line escaped none = by (is_utf8 line) refl where
  by : (t : Bool) → is_utf8 line ≡ t → None ≡ cond t (option_and_then (asked_by escaped) (call_of line)) None
  by true e = absurd (none (IsUtf8-from_is_utf8 line e))
  by false e = refl

-- a line that is text has the request of its call
pub request_of-called : (line : List ℕ) (escaped : Bool) (call : Option Called) → IsUtf8 line → call ≡ call_of line → option_and_then (asked_by escaped) call ≡ request_of escaped line
unfolding request_of
request_of-called line escaped call utf8 is =
    ap (option_and_then (asked_by escaped)) is ∙ ap (λ t. cond t (option_and_then (asked_by escaped) (call_of line)) None) (sym (is_utf8-from_IsUtf8 line utf8))

pub request_from_call : (result : Result (Option Request) NoMemory) (line : List ℕ) (escaped : Bool) (call : Called) → IsUtf8 line → Some call ≡ call_of line → IfOk result (λ asked. asked ≡ asked_by escaped call) → IfOk result (λ asked. asked ≡ request_of escaped line)
request_from_call (Ok asked) line escaped call utf8 is computed = computed ∙ request_of-called line escaped (Some call) utf8 is
request_from_call (Err e) line escaped call utf8 is computed = tt

pub refused_by : (result : Result (Option Request) NoMemory) (line : List ℕ) (call : Called) → IsUtf8 line → Some call ≡ call_of line → OnErr result (HasCommand line)
refused_by (Ok asked) line call utf8 is = tt
refused_by (Err e) line call utf8 is = called-HasCommand line call utf8 (sym is)

-- a command of a text without a `\`
pub command_plain : (result : Result (Option Command) NoMemory) (word : Word) (text text_after : List ℕ) (empty : Bool) → empty ≡ true → empty ≡ eqb (length text_after) 0 → text_after ≡ onward 92 text →
    IfOk result (λ asked. asked ≡ command_of word text) → IfOk result (λ asked. asked ≡ command_of word (without_escapes text))
command_plain result word text [] empty is test cut computed =
    subst (λ t. IfOk result (λ asked. asked ≡ command_of word t)) (sym (unescaped-plain text (sym cut))) computed
command_plain result word text (b ∷ text_after) empty is test cut computed = absurd (false≢true (sym longer ∙ (sym test ∙ is))) where
  longer : eqb (length (b ∷ text_after)) 0 ≡ false
  longer = grind arith
