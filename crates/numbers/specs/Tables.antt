-- The numbers that 01 and 02 give to things, table by table: kinds of entries, refusals, codes, outcomes, reasons.
-- Assumes nothing.
use Rattle.std.specs.Prelude.{Bool, ◌&&◌, ℕ, leb}

-- ---- the kinds of entries on a tape. 01, "The tape"; 02, R-7 and R-12.

-- what the terminal is told before the first command
abbrev pub start : ℕ
start = 1

-- a command to the card
abbrev pub command : ℕ
command = 2

-- its answer, status bytes and all
abbrev pub answer : ℕ
answer = 3

-- none came
abbrev pub silence : ℕ
silence = 4

-- the issuer's reply
abbrev pub host : ℕ
host = 5

-- how the session ended
abbrev pub decision : ℕ
decision = 6

-- what the attendant saw of cardholder verification, a byte for each rule
abbrev pub results : ℕ
results = 7

-- which application the shopper chose. No tape can hold it yet
abbrev pub choice : ℕ
choice = 8

-- the last that a tape can hold
abbrev pub last_kind : ℕ
last_kind = results

-- one that it can
unfoldable pub is_kind : ℕ → Bool
is_kind k = leb start k && leb k last_kind

-- ---- when a call is turned away: the number of the first line that applies; 0 where the call is taken.
-- 01, "When a call is turned away"; 02, R-7 and R-12.

-- the command buffer is too short for the longest command
abbrev pub refused_buffer : ℕ
refused_buffer = 1

-- the session is decided, or closed by silence
abbrev pub refused_over : ℕ
refused_over = 2

-- START is invalid, or has not the length that begins a session
abbrev pub refused_start : ℕ
refused_start = 3

-- the event is not the one due
abbrev pub refused_event : ℕ
refused_event = 4

-- an answer that no block can hold
abbrev pub refused_answer : ℕ
refused_answer = 5

-- HOST is none of the issuer's replies
abbrev pub refused_host : ℕ
refused_host = 6

-- tape: no kind of entry, or a payload that no block can hold
abbrev pub refused_entry : ℕ
refused_entry = 7

-- tape: no room for another block, or as many as a tape may have
abbrev pub refused_room : ℕ
refused_room = 8

-- reading objects: too many bytes, or not a list
abbrev pub refused_reading : ℕ
refused_reading = 9

-- writing an object: a bad tag, a constructed one whose value is no list, or too many bytes
abbrev pub refused_writing : ℕ
refused_writing = 10

-- writing an object: the buffer is too short for it
abbrev pub refused_space : ℕ
refused_space = 11

-- the results of cardholder verification: not one for each rule, or not 0 to 4
abbrev pub refused_results : ℕ
refused_results = 12

-- the shopper's choice: not one byte, or none of those shown and not 'FF'
abbrev pub refused_choice : ℕ
refused_choice = 13

-- ---- why a tape is unreadable: the code beside the place, of the first test that fails; 0 where it reads as entries. 01, "The tape".

-- over the bytes that a tape may have
abbrev pub code_long : ℕ
code_long = 1

-- no multiple of a block
abbrev pub code_torn : ℕ
code_torn = 2

-- then block by block: the check
abbrev pub code_check : ℕ
code_check = 3

-- the block's number
abbrev pub code_number : ℕ
code_number = 4

-- its session number differs from that of block 0
abbrev pub code_session : ℕ
code_session = 5

-- its kind
abbrev pub code_kind : ℕ
code_kind = 6

-- byte 9 is not zero
abbrev pub code_spare : ℕ
code_spare = 7

-- its length is over that of a payload
abbrev pub code_length : ℕ
code_length = 8

-- a byte behind the payload is not zero
abbrev pub code_padding : ℕ
code_padding = 9

-- ---- how a session is decided: the first byte of DECISION. 01, "The tape".

abbrev pub approved : ℕ
approved = 1

abbrev pub declined : ℕ
declined = 2

-- a bad answer: the second byte is the reason
abbrev pub terminated : ℕ
terminated = 3

-- ---- why a session is terminated: the second byte of DECISION. Of those that apply to an answer it is the lowest; 0 is none of them.
-- 01, "What the card must answer"; 02, R-12.

-- the answer has under 2 bytes, or over 258
abbrev pub for_size : ℕ
for_size = 1

-- its status is not '9000'
abbrev pub for_status : ℕ
for_status = 2

-- its data is no list of objects, or not the one object that is expected
abbrev pub for_object : ℕ
for_object = 3

-- an object that is named stands twice at its place; in records, twice in the whole session
abbrev pub for_twice : ℕ
for_twice = 4

-- the length or the content of one is wrong
abbrev pub for_content : ℕ
for_content = 5

-- an entry of the AFL is wrong
abbrev pub for_locator : ℕ
for_locator = 6

-- the AFL names too many records
abbrev pub for_records : ℕ
for_records = 7

-- an object that must be there is not; in records, after the last
abbrev pub for_missing : ℕ
for_missing = 8

-- a list that is now to be filled is malformed, or would be too long
abbrev pub for_list : ℕ
for_list = 9

-- a cryptogram that the request does not allow
abbrev pub for_cryptogram : ℕ
for_cryptogram = 10

-- a hundred exchanges of a selection were made, and another would be due
abbrev pub for_exchanges : ℕ
for_exchanges = 11

-- no application is left, the shopper takes none, or the card ends the selection
abbrev pub for_nobody : ℕ
for_nobody = 12
