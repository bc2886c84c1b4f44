-- The texts of a request that a line spells are UTF-8.
use Rattle.std.proofs.Common.{◌≡◌, ℕ, List, [], ◌∷◌, ◌++◌, ap, sym, ◌∙◌, arith, Bool, Option, Some, None, subst, append_assoc, lit<, Result, Ok, Err, IfOk, IfSome, codes}
use Rattle.std.proofs.lemmas.Str.{IsUtf8-nil}
use Rattle.std.specs.Str.{IsUtf8}
use Rattle.wc_text.specs.declared.no_memory.NoMemory.{NoMemory}
use Rattle.wc_relaycmd.specs.declared.word.Word.{Word}
use Rattle.wc_relaycmd.specs.declared.word.Word.TheVariants as Words
use Rattle.wc_relaycmd.specs.declared.request.Command.{Command}
use Rattle.wc_relaycmd.specs.declared.request.Request.{Request}
use Rattle.wc_text.specs.Splits.{blanks}
use Rattle.wc_relaycmd.specs.Escapes.{arguments_meant}
use Rattle.wc_relaycmd.specs.Grammar.{name_of, IsTag, Calls, TwoParts, AreOptions, Selects, AsksNicks, Asks, ReadsRequest}
use Rattle.wc_relaycmd.specs.Utf8.{AreUtf8Words, OptionsUtf8, CommandUtf8, RequestIsUtf8}
use Rattle.wc_relaycmd.proofs.Utf8Lemmas.{cut_text, put_byte, parts_text, meant_text, pairs_text, all_pieces_text, after_blanks_text}

-- an id, and what comes after it
tag_text : (tag id rest : List ℕ) → IsTag tag id → IsUtf8 (tag ++ rest) → IsUtf8 id × IsUtf8 rest
tag_text [] id rest is_tag utf8 = (subst IsUtf8 (sym is_tag) IsUtf8-nil, utf8)
tag_text (b ∷ tag) id rest is_tag utf8 =
    let is_open : b ≡ 40 = is_tag.0 in
    let named = (cut_text [] b (tag ++ rest) (omega arith) utf8).1 in
    cut_text id 41 rest (lit< tt) (subst IsUtf8 (ap (λ t. t ++ rest) is_tag.1 ∙ append_assoc id (41 ∷ []) rest) named)

-- the id and the arguments of a line
calls_text : (line id : List ℕ) (word : Word) (arguments : List ℕ) → Calls line id word arguments → IsUtf8 line → IsUtf8 id × IsUtf8 arguments
calls_text line id word arguments calls utf8 =
    let named = after_blanks_text calls.margin (calls.tag ++ (blanks calls.gap ++ calls.call)) (subst IsUtf8 calls.spelled utf8) in
    let cut = tag_text calls.tag id (blanks calls.gap ++ calls.call) calls.tagged named in
    (cut.0, (parts_text calls.call (name_of word) arguments calls.called (after_blanks_text calls.gap calls.call cut.1)).1)

-- two words and what follows them
pub record TwoTexts (first second rest : List ℕ) : Type 0 where
  pub first_text : IsUtf8 first
  pub second_text : IsUtf8 second
  pub rest_text : IsUtf8 rest

two_texts : (text first second rest : List ℕ) → TwoParts text first second rest → IsUtf8 text → TwoTexts first second rest
two_texts text first second rest two utf8 =
    let front = parts_text text first two.text_after two.front utf8 in
    let back = parts_text two.text_after second rest two.back front.1 in
    record { first_text = front.0; second_text = back.0; rest_text = back.1 }

options_text : (second : List ℕ) (options : Option (List (List ℕ))) → AreOptions second options → IsUtf8 second → OptionsUtf8 options
options_text second None are utf8 = tt
options_text second (Some options) are utf8 = subst AreUtf8Words (sym are.1) (all_pieces_text second utf8)

star_text : IsUtf8 (codes "*")
star_text = put_byte 42 [] (lit< tt) IsUtf8-nil

selection_text : (text : List ℕ) (buffers : List (List ℕ)) (options : Option (List (List ℕ))) → Selects text buffers options → IsUtf8 text → AreUtf8Words buffers × OptionsUtf8 options
selection_text [] buffers options selects utf8 = (subst AreUtf8Words (sym selects.0) (star_text, tt), subst OptionsUtf8 (sym selects.1) tt)
selection_text (b ∷ text) buffers options (first, second, rest, two, are, options_are) utf8 =
    let texts = two_texts (b ∷ text) first second rest two utf8 in
    (subst AreUtf8Words (sym are) (all_pieces_text first texts.first_text), options_text second options options_are texts.second_text)

nicks_text : (text : List ℕ) (command : Command) → AsksNicks text command → IsUtf8 text → CommandUtf8 command
unfolding CommandUtf8
nicks_text [] command asks utf8 = subst CommandUtf8 (sym asks) tt
nicks_text (b ∷ text) command (buffer, rest, parts, is) utf8 = subst CommandUtf8 (sym is) (parts_text (b ∷ text) buffer rest parts utf8).0

-- the texts of a command
command_text : (word : Word) (text : List ℕ) (command : Command) → Asks word text command → IsUtf8 text → CommandUtf8 command
unfolding Asks CommandUtf8
command_text Words.Handshake text command asks utf8 = subst CommandUtf8 (sym asks) (pairs_text text utf8)
command_text Words.Init text command asks utf8 = subst CommandUtf8 (sym asks.1) (pairs_text text utf8)
command_text Words.Hdata text command (path, keys, rest, two, is) utf8 =
    let texts = two_texts text path keys rest two utf8 in subst CommandUtf8 (sym is) (texts.first_text, texts.second_text)
command_text Words.Info text command (name, rest, some, parts, is) utf8 = subst CommandUtf8 (sym is) (parts_text text name rest parts utf8).0
command_text Words.Infolist text command (name, pointer, following, argument, rest, two, parts, is) utf8 =
    let texts = two_texts text name pointer following two utf8 in
    subst CommandUtf8 (sym is) (texts.first_text, (parts_text following argument rest parts texts.rest_text).0)
command_text Words.Nicklist text command asks utf8 = nicks_text text command asks utf8
command_text Words.Input text command (buffer, typed, some_buffer, some_typed, lacks, spelled, is) utf8 =
    subst CommandUtf8 (sym is) (cut_text buffer 32 typed (lit< tt) (subst IsUtf8 spelled utf8))
command_text Words.Completion text command (buffer, number, typed, position, two, reads, is) utf8 =
    let texts = two_texts text buffer number typed two utf8 in subst CommandUtf8 (sym is) (texts.first_text, texts.rest_text)
command_text Words.Sync text command (buffers, options, selects, is) utf8 = subst CommandUtf8 (sym is) (selection_text text buffers options selects utf8)
command_text Words.Desync text command (buffers, options, selects, is) utf8 = subst CommandUtf8 (sym is) (selection_text text buffers options selects utf8)
command_text Words.Test text command asks utf8 = subst CommandUtf8 (sym asks) tt
command_text Words.Ping text command asks utf8 = subst CommandUtf8 (sym asks) utf8
command_text Words.Quit text command asks utf8 = subst CommandUtf8 (sym asks) tt

pub RequestIsUtf8-reads : (line : List ℕ) (escaped : Bool) (request : Request) → ReadsRequest line escaped request → RequestIsUtf8 request
RequestIsUtf8-reads line escaped request reads =
    let texts = calls_text line request.id reads.word reads.arguments reads.calls reads.utf8 in
    record {
      id = texts.0;
      command = command_text reads.word (arguments_meant escaped reads.arguments) request.command reads.asks (meant_text escaped reads.arguments texts.1);
    }

pub texts_from : (result : Result (Option Request) NoMemory) (line : List ℕ) (escaped : Bool) → IfOk result (λ asked. IfSome asked (ReadsRequest line escaped)) → IfOk result (λ asked. IfSome asked RequestIsUtf8)
texts_from (Ok None) line escaped read = tt
texts_from (Ok (Some request)) line escaped read = RequestIsUtf8-reads line escaped request read
texts_from (Err e) line escaped read = tt
