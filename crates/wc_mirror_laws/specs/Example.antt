-- A client that settles by three lines.
use Rattle.std.specs.Prelude.{ℕ, List, [], ◌∷◌, ◌++◌, Option, Some, None, codes}
use Rattle.wc_options.specs.Options.{OptionsValue, fresh, with_value}
use Rattle.wc_core.specs.Events.{Event, Arrives, Line}
use Rattle.wc_core.specs.State.{first_state}
use Rattle.wc_mirror_laws.specs.Settled.{Settled, SettledBuffers, SettledNicks}
use Rattle.wc_eval.specs.Verdicts.{Oracle}

abbrev pub init_line : List ℕ
init_line = codes "init password=x"

-- one that keeps no limit of lines of its own asks for the events of lines that went
abbrev pub sync_line : Option ℕ → List ℕ
sync_line None = codes "sync * buffers,buffer,nicklist,trims"
sync_line (Some limit) = codes "sync"

abbrev pub dump_line : List ℕ
dump_line = codes "(l) hdata buffer:gui_buffers(*)/own_lines/first_line(*)/data "
    ++ codes "buffer,id,date,date_usec,date_printed,date_usec_printed,displayed,notify_level,"
    ++ codes "highlight,tags_array,prefix,message"

abbrev pub buffers_line : List ℕ
buffers_line
    =
    codes "(b) hdata buffer:gui_buffers(*) number,full_name,short_name,hidden,title,local_variables"

abbrev pub nicks_line : List ℕ
nicks_line = codes "(n) nicklist"

-- options of which the password alone is set
abbrev pub only_password : OptionsValue
only_password = with_value fresh (codes "relay.network.password") (codes "x")

-- a client logs in, asks for all events and says this line
abbrev pub three_lines : Option ℕ → List ℕ → List Event
three_lines limit line = Arrives 1 [] ∷ Line 1 init_line ∷ Line 1 (sync_line limit) ∷ Line 1 line ∷ []

-- whoever takes the line dump by it has settled
abbrev pub ThreeLinesSettle : Type 0
ThreeLinesSettle = (limit : Option ℕ) (oracle : Oracle) (lines : ℕ) →
    Settled limit 1 (codes "l") (first_state oracle only_password lines [])
    (three_lines limit dump_line)

-- and so has whoever takes the buffer dump
abbrev pub ThreeLinesSettleBuffers : Type 0
ThreeLinesSettleBuffers = (limit : Option ℕ) (oracle : Oracle) (lines : ℕ) →
    SettledBuffers limit 1 (codes "b") (first_state oracle only_password lines [])
    (three_lines limit buffers_line)

-- and whoever takes the nicklists of all buffers
abbrev pub ThreeLinesSettleNicks : Type 0
ThreeLinesSettleNicks = (limit : Option ℕ) (oracle : Oracle) (lines : ℕ) →
    SettledNicks limit 1 (codes "n") (first_state oracle only_password lines [])
    (three_lines limit nicks_line)
