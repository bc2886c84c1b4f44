-- What the sockets of the run give.
use Rattle.std.specs.Prelude.{ℕ, zero, suc, ◌+◌, ◌*◌, ◌/◌, ◌%◌, ◌==◌, List, [], ◌∷◌, ◌++◌, map}
use Rattle.std.specs.Prelude.{if◌then◌else◌, codes}
use Rattle.wc_text.specs.declared.names.LinkId.{LinkId}
use Rattle.wc_outside.specs.declared.happening.Happening.{Happening}
use Rattle.wc_outside.specs.declared.happening.Happening.TheVariants.{Woke, Accepted, Read, Ended}
use Rattle.wc_outside.specs.declared.happening.Happening.TheVariants.{Connected}
use Rattle.wc_scripted.specs.declared.scripted.Scripted.{Scripted}
use Rattle.wc_scripted.specs.declared.scripted.Scripted.TheVariants.{Wake, Arrive, Stands, Gives, Ends}
use Rattle.wc_demo.specs.Lines.{sent_line}

-- the server has the first link, which the program makes as it starts, and the client the second
abbrev pub server : LinkId
server = record { 0 = 1 }

abbrev pub client : LinkId
client = record { 0 = 2 }

-- the moment of the start, in milliseconds since 1970
abbrev pub start : ℕ
start = 1700000000000

abbrev pub nonce : List ℕ
nonce = codes "a client's nonce"

-- the start, the arrival of the client, and that the connection stands
abbrev pub start_steps : List Scripted
start_steps = Wake start ∷ Arrive nonce ∷ Wake start ∷ Stands server ∷ []

-- the program is welcome, and is on a channel
abbrev pub welcome_steps : List Scripted
welcome_steps = Gives server (codes ":s 001 me :hi\r\n")
    ∷ Gives server (codes ":me!m@h JOIN #d\r\n") ∷ []

-- the client logs in, and asks for all events
abbrev pub login_steps : List Scripted
login_steps = Gives client (codes "init password=x\n") ∷ Gives client (codes "sync\n") ∷ []

-- it takes the dumps of buffers, of lines and of nicklists
abbrev pub dump_steps : List Scripted
dump_steps = Gives client (codes "(b) hdata buffer:gui_buffers(*) "
    ++ codes "number,full_name,short_name,hidden,title,local_variables\n")
    ∷ Gives client (codes "(l) hdata buffer:gui_buffers(*)/own_lines/first_line(*)/data "
    ++ codes "buffer,id,date,date_usec,date_printed,date_usec_printed,"
    ++ codes "displayed,notify_level,highlight,tags_array,prefix,message\n")
    ∷ Gives client (codes "(n) nicklist\n") ∷ []

-- what is before the first line: the client takes its dumps after the server let the program on
-- the channel
abbrev pub opening_steps : List Scripted
opening_steps = start_steps ++ welcome_steps ++ login_steps ++ dump_steps ++ Wake start ∷ []

-- the moment after so many lines, which rises by 100 at each tenth
abbrev pub moment_of : ℕ → ℕ
moment_of count = start + count / 10 * 100

-- the line at a place, and after each tenth the rise of the moment
abbrev pub steps_at : ℕ → List Scripted
steps_at place = Gives server (sent_line place)
    ∷ (if place % 10 == 0 then Wake (moment_of place) ∷ [] else [])

-- the lines up to a place
abbrev pub steps_to : ℕ → List Scripted
steps_to zero = []
steps_to (suc place) = steps_to place ++ steps_at (suc place)

-- so many lines, after which the moment rises once more
abbrev pub demo_script : ℕ → List Scripted
demo_script count = opening_steps ++ steps_to count ++ Wake (moment_of count + 100) ∷ []

-- how many waits of it return
abbrev pub wakes_of : ℕ → ℕ
wakes_of count = count / 10 + 4

-- what a step is once the sockets gave it
abbrev pub given_as : Scripted → Happening
given_as (Wake moment) = Woke moment
given_as (Arrive with_nonce) = Accepted client with_nonce
given_as (Stands link) = Connected link
given_as (Gives link bytes) = Read link bytes
given_as (Ends link) = Ended link

-- what is taken of the sockets in a run of so many lines
abbrev pub demo_taken : ℕ → List Happening
demo_taken count = map given_as (demo_script count)
