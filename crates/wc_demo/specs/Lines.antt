-- What the server says, line by line.
use Rattle.std.specs.Prelude.{ℕ, ◌+◌, ◌/◌, ◌%◌, ◌==◌, List, ◌++◌, if◌then◌else◌, codes, decimal}

-- the nick that comes and speaks at a line, and the one that leaves
abbrev pub comer_of : ℕ → ℕ
comer_of place = place / 4 % 50

abbrev pub leaver_of : ℕ → ℕ
leaver_of place = (comer_of place + 25) % 50

abbrev pub line_end : List ℕ
line_end = codes "\r\n"

-- the line at a place, from 1 on, with its end: of four lines a nick comes at the first, which is
-- the one whose place is a multiple of four, speaks, and gets a voice, and another one leaves
abbrev pub sent_line : ℕ → List ℕ
sent_line place =
    if place % 4 == 0 then codes ":u" ++ decimal (comer_of place) ++ codes "!u@h JOIN #d\r\n" else (
    if place % 4 == 1 then codes ":u" ++ decimal (comer_of place) ++ codes "!u@h PRIVMSG #d :hello "
    ++ decimal place ++ line_end else (
    if place % 4 == 2 then codes ":me!m@h MODE #d +v u" ++ decimal (comer_of place) ++ line_end
    else codes ":u" ++ decimal (leaver_of place) ++ codes "!u@h PART #d\r\n"))
