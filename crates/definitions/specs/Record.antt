-- Held names, and the layout of a box record and of a state. Assumes nothing.
use Rattle.std.specs.Prelude.{List, ℕ, ◌+◌, ◌-◌, ◌*◌, ◌/◌, ◌%◌, set}
use Rattle.definitions.specs.Limits.{slot_limit}
use Rattle.definitions.specs.Slots.{word, slot, put_slot, push_slot, take_slot}

-- a held name: what a thread or a site carries at run time, a name's number with a stamp; 0 is none
unfoldable pub held : ℕ → ℕ → ℕ
held n stamp = 1 + n + 64 * stamp

unfoldable pub held_number : ℕ → ℕ
held_number v = (v - 1) % 64

unfoldable pub held_stamp : ℕ → ℕ
held_stamp v = (v - 1) / 64

-- the largest stamp: of 26 bits, so that the largest held name, of name 59, fits a word of 32
abbrev pub stamp_limit : ℕ
stamp_limit = 67108863

-- a box record of 1,139 words: last stamp, thread count, site count, 16 sites of 10 words, 16 threads of 61
abbrev pub site_base : ℕ
site_base = 3

abbrev pub site_width : ℕ
site_width = 10

abbrev pub thread_base : ℕ
thread_base = 163

abbrev pub thread_width : ℕ
thread_width = 61

abbrev pub record_length : ℕ
record_length = 1139

abbrev pub stamp : List ℕ → ℕ
stamp r = word r 0

abbrev pub threads : List ℕ → ℕ
threads r = word r 1

abbrev pub sites : List ℕ → ℕ
sites r = word r 2

abbrev pub site : List ℕ → ℕ → List ℕ
site r i = slot site_base site_width r i

abbrev pub thread : List ℕ → ℕ → List ℕ
thread r t = slot thread_base thread_width r t

-- a site: subject, 0 shown or 1 hidden, its type as 8 words
abbrev pub subject : List ℕ → ℕ
subject x = word x 0

abbrev pub flag : List ℕ → ℕ
flag x = word x 1

abbrev pub type_word : List ℕ → ℕ → ℕ
type_word x i = word x (2 + i)

-- a thread: its line, and a binding for each name
abbrev pub line : List ℕ → ℕ
line x = word x 0

abbrev pub binding : List ℕ → ℕ → ℕ
binding x n = word x (1 + n)

-- edits of a record
abbrev pub set_stamp : List ℕ → ℕ → List ℕ
set_stamp r v = set r 0 v

abbrev pub put_thread : List ℕ → ℕ → List ℕ → List ℕ
put_thread r t x = put_slot thread_base thread_width r t x

abbrev pub push_thread : List ℕ → List ℕ → List ℕ
push_thread r x = push_slot thread_base thread_width 1 r x

abbrev pub take_thread : List ℕ → ℕ → List ℕ
take_thread r t = take_slot thread_base thread_width slot_limit 1 r t

abbrev pub put_site : List ℕ → ℕ → List ℕ → List ℕ
put_site r i x = put_slot site_base site_width r i x

abbrev pub push_site : List ℕ → List ℕ → List ℕ
push_site r x = push_slot site_base site_width 2 r x

-- edits of a site and of a thread
abbrev pub set_flag : List ℕ → ℕ → List ℕ
set_flag x f = set x 1 f

abbrev pub goto : List ℕ → ℕ → List ℕ
goto x l = set x 0 l

abbrev pub bind : List ℕ → ℕ → ℕ → List ℕ
bind x n v = set x (1 + n) v

-- a state of 9,112 words: 8 box records
abbrev pub state_length : ℕ
state_length = 9112

abbrev pub record_of : List ℕ → ℕ → List ℕ
record_of st b = slot 0 record_length st b

abbrev pub put_record : List ℕ → ℕ → List ℕ → List ℕ
put_record st b r = put_slot 0 record_length st b r

-- each box's last stamp
unfoldable pub last_stamps : List ℕ → ℕ → ℕ
last_stamps st b = stamp (record_of st b)
