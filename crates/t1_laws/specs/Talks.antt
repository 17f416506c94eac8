-- A terminal and a card on one line, both begun fresh. The line is half duplex: it carries one block at a time (000, I-5.2.4.3). A block
-- comes as it was sent, or as bytes that are not valid where they come, or it is lost; then the terminal, which alone has a time-out,
-- sees silence (000, I-5.2.5.1). Once the terminal has stopped it deactivates the card, and nothing more happens.
-- Assumes nothing.
use Rattle.std.specs.Prelude.{◌≡◌, Bool, true, false, not, List, [], ◌∷◌, ◌++◌, ℕ, ◌+◌, ◌*◌, length, take}
use Rattle.slices.specs.Choice.{pick}
use Rattle.t1_block.specs.Blocks.{inf_of}
use Rattle.t1_block.specs.Faults.{heard_of}
use Rattle.t1_block.specs.declared.What.{What}
use Rattle.t1_state.specs.declared.Role.TheVariants.{Terminal, Card}
use Rattle.t1_state.specs.declared.Phase.{Phase}
use Rattle.t1_state.specs.declared.Phase.TheVariants.{Start, Asking, Due, Sent, Receiving, Over}
use Rattle.t1_state.specs.declared.State.{State}
use Rattle.t1_state.specs.declared.Act.{Act}
use Rattle.t1_state.specs.declared.Act.TheVariants.{Nothing, Send, Keep, Value, Whole, End, Refuse}
use Rattle.t1_state.specs.declared.Turn.{Turn}
use Rattle.t1_turns.specs.Turns.{on_block, on_silence, on_hello, on_ask, on_send}
use Rattle.t1.specs.Steps.{block_of, fresh_end}
use Rattle.t1_laws.specs.Stopping.{is_bad}

-- one end, the messages that it was given to send, those that came to it whole, and what has come of the next one
pub record Side : Type 0 where
  pub end : State
  pub given : List (List ℕ)
  pub whole : List (List ℕ)
  pub part : List ℕ

-- what is on the line: nothing, a block to the card, or one to the terminal
pub data Line : Type 0 where
  clear : Line
  forth : List ℕ → Line
  back : List ℕ → Line

pub record Talk : Type 0 where
  pub terminal : Side
  pub card : Side
  pub line : Line

-- what can happen: the terminal's first request, a command is to be sent, an answer is, the card asks for a size or for time; the block
-- under way comes, comes as other bytes, or the terminal waits in vain
pub data Happens : Type 0 where
  hello : Happens
  command : List ℕ → Happens
  answer : List ℕ → Happens
  asks : What → ℕ → Happens
  comes : Happens
  spoiled : List ℕ → Happens
  lost : Happens

-- whether a turn sends a block
abbrev pub speaks : Act → Bool
speaks Nothing = false
speaks Send = true
speaks Keep = true
speaks Value = true
speaks (Whole n) = false
speaks (End e) = false
speaks (Refuse why) = false

-- the line after a turn: the block that it sends, or what was on it
abbrev pub carrying : (List ℕ → Line) → Turn → Line → Line
carrying to t line = pick (speaks t.act) (to (block_of t.state)) line

-- a message that an end takes is given to it
abbrev pub given_by : Act → List ℕ → List (List ℕ) → List (List ℕ)
given_by Nothing m ms = ms
given_by Send m ms = ms ++ (m ∷ [])
given_by Keep m ms = ms
given_by Value m ms = ms
given_by (Whole n) m ms = ms
given_by (End e) m ms = ms
given_by (Refuse why) m ms = ms

-- a field that is kept lengthens what has come; the last one makes the message whole
abbrev pub whole_by : Act → List (List ℕ) → List ℕ → List (List ℕ)
whole_by Nothing ms m = ms
whole_by Send ms m = ms
whole_by Keep ms m = ms
whole_by Value ms m = ms
whole_by (Whole n) ms m = ms ++ (m ∷ [])
whole_by (End e) ms m = ms
whole_by (Refuse why) ms m = ms

abbrev pub part_by : Act → List ℕ → List ℕ → List ℕ
part_by Nothing part inf = part
part_by Send part inf = part
part_by Keep part inf = part ++ inf
part_by Value part inf = part
part_by (Whole n) part inf = []
part_by (End e) part inf = part
part_by (Refuse why) part inf = part

-- an end after an event of its own, after a message to send, and after bytes that came
abbrev pub moved : Turn → Side → Side
moved t x = record { end = t.state; given = x.given; whole = x.whole; part = x.part }

abbrev pub handed : List ℕ → Turn → Side → Side
handed m t x = record { end = t.state; given = given_by t.act m x.given; whole = x.whole; part = x.part }

abbrev pub heard : List ℕ → Turn → Side → Side
heard b t x =
    record {
      end = t.state;
      given = x.given;
      whole = whole_by t.act x.whole (x.part ++ inf_of b);
      part = part_by t.act x.part (inf_of b);
    }

-- bytes come to the card, or to the terminal
unfoldable pub to_card : List ℕ → Talk → Talk
to_card b t =
    record {
      terminal = t.terminal;
      card = heard b (on_block b t.card.end) t.card;
      line = carrying back (on_block b t.card.end) clear;
    }

unfoldable pub to_terminal : List ℕ → Talk → Talk
to_terminal b t =
    record {
      terminal = heard b (on_block b t.terminal.end) t.terminal;
      card = t.card;
      line = carrying forth (on_block b t.terminal.end) clear;
    }

-- the block under way comes
unfoldable pub arrives : Line → Talk → Talk
arrives clear t = t
arrives (forth b) t = to_card b t
arrives (back b) t = to_terminal b t

-- other bytes come in its place; bytes that would be valid there are not what a line makes of a block
unfoldable pub spoils : Line → List ℕ → Talk → Talk
spoils clear b t = t
spoils (forth sent) b t = pick (is_bad (heard_of b t.card.end.sizes.ours)) (to_card b t) t
spoils (back sent) b t = pick (is_bad (heard_of b t.terminal.end.sizes.ours)) (to_terminal b t) t

unfoldable pub happens : Happens → Talk → Talk
happens hello t =
    record {
      terminal = moved (on_hello t.terminal.end) t.terminal;
      card = t.card;
      line = carrying forth (on_hello t.terminal.end) t.line;
    }
happens (command m) t =
    record {
      terminal = handed m (on_send m t.terminal.end) t.terminal;
      card = t.card;
      line = carrying forth (on_send m t.terminal.end) t.line;
    }
happens (answer m) t =
    record {
      terminal = t.terminal;
      card = handed m (on_send m t.card.end) t.card;
      line = carrying back (on_send m t.card.end) t.line;
    }
happens (asks w v) t =
    record {
      terminal = t.terminal;
      card = moved (on_ask w v t.card.end) t.card;
      line = carrying back (on_ask w v t.card.end) t.line;
    }
happens comes t = arrives t.line t
happens (spoiled b) t = spoils t.line b t
happens lost t = record { terminal = moved (on_silence t.terminal.end) t.terminal; card = t.card; line = clear }

abbrev pub is_over : Phase → Bool
is_over Start = false
is_over Asking = false
is_over Due = false
is_over Sent = false
is_over Receiving = false
is_over Over = true

-- one thing after the other, until the terminal has stopped
unfoldable pub talk : List Happens → Talk → Talk
talk [] t = t
talk (h ∷ hs) t = pick (is_over t.terminal.end.phase) t (talk hs (happens h t))

-- both fresh: the card takes fields of so many bytes, as its answer to reset said, and the terminal 254 (000, I-5.2.4.2.1)
abbrev pub fresh : State → Side
fresh s = record { end = s; given = []; whole = []; part = [] }

unfoldable pub begun : ℕ → Talk
begun ifsc =
    record { terminal = fresh (fresh_end Terminal ifsc 254); card = fresh (fresh_end Card 254 ifsc); line = clear }

-- a part of a message, where one is on its way: some first bytes of it
abbrev pub Begins : List ℕ → List (List ℕ) → Type 0
Begins part [] = part ≡ []
Begins part (m ∷ ms) = (n : ℕ) × (part ≡ take n m)

-- what one end has is a beginning of what the other was given, message by message and byte by byte
pub record InOrder (given whole : List (List ℕ)) (part : List ℕ) : Type 0 where
  pub rest : List (List ℕ)
  pub split : whole ++ rest ≡ given
  pub begins : Begins part rest

-- both ways
pub record Ordered (t : Talk) : Type 0 where
  pub commands : InOrder t.terminal.given t.card.whole t.card.part
  pub answers : InOrder t.card.given t.terminal.whole t.terminal.part

abbrev pub is_clear : Line → Bool
is_clear clear = true
is_clear (forth b) = false
is_clear (back b) = false

-- an end is to send, to ask, or to begin
abbrev pub may_move : Phase → Bool
may_move Start = true
may_move Asking = false
may_move Due = true
may_move Sent = false
may_move Receiving = false
may_move Over = false

-- a card that has stopped, or whose request is open
abbrev pub is_mute : Phase → Bool
is_mute Start = false
is_mute Asking = true
is_mute Due = false
is_mute Sent = false
is_mute Receiving = false
is_mute Over = true

-- the conversation is over: the terminal has stopped; or nothing is under way and the card will send nothing more, so that the terminal's
-- time-out is all that can come
abbrev pub is_finished : Bool → Phase → Phase → Bool
is_finished clearly terminal card = pick (is_over terminal) true (pick clearly (is_mute card) false)

abbrev pub one : Bool → ℕ
one true = 1
one false = 0

-- how much is due: a block that is under way, an end that is to move, the end of the conversation
abbrev pub due_in : Bool → Phase → Phase → ℕ
due_in clearly terminal card =
    one (not clearly) + pick (is_finished clearly terminal card) 0 (one (may_move terminal) + one (may_move card))
    + one (is_finished clearly terminal card)

abbrev pub due : Talk → ℕ
due t = due_in (is_clear t.line) t.terminal.end.phase t.card.end.phase

-- how many blocks are damaged in a schedule, and how many are lost
unfoldable pub damaged : List Happens → ℕ
damaged [] = 0
damaged (hello ∷ hs) = damaged hs
damaged (command m ∷ hs) = damaged hs
damaged (answer m ∷ hs) = damaged hs
damaged (asks w v ∷ hs) = damaged hs
damaged (comes ∷ hs) = damaged hs
damaged (spoiled b ∷ hs) = 1 + damaged hs
damaged (lost ∷ hs) = damaged hs

unfoldable pub losses : List Happens → ℕ
losses [] = 0
losses (hello ∷ hs) = losses hs
losses (command m ∷ hs) = losses hs
losses (answer m ∷ hs) = losses hs
losses (asks w v ∷ hs) = losses hs
losses (comes ∷ hs) = losses hs
losses (spoiled b ∷ hs) = losses hs
losses (lost ∷ hs) = 1 + losses hs

-- the conversation goes on
abbrev pub finished : Talk → Bool
finished t = is_finished (is_clear t.line) t.terminal.end.phase t.card.end.phase

abbrev pub is_damage : Line → List ℕ → Talk → ℕ
is_damage clear b t = 0
is_damage (forth sent) b t = one (is_bad (heard_of b t.card.end.sizes.ours))
is_damage (back sent) b t = one (is_bad (heard_of b t.terminal.end.sizes.ours))

-- how many blocks come in a schedule, as they were sent or damaged; one that was sent and does not come is lost or still under way
abbrev pub landed : Happens → Talk → ℕ
landed hello t = 0
landed (command m) t = 0
landed (answer m) t = 0
landed (asks w v) t = 0
landed comes t = one (not (is_clear t.line))
landed (spoiled b) t = is_damage t.line b t
landed lost t = 0

unfoldable pub arrivals : List Happens → Talk → ℕ
arrivals [] t = 0
arrivals (h ∷ hs) t = pick (is_over t.terminal.end.phase) 0 (landed h t + arrivals hs (happens h t))

-- how many can come of it, whatever the line does: of a request six, of a message six for each byte and seven more
abbrev pub cost : Happens → ℕ
cost hello = 6
cost (command m) = 6 * length m + 7
cost (answer m) = 6 * length m + 7
cost (asks w v) = 6
cost comes = 0
cost (spoiled b) = 0
cost lost = 0

unfoldable pub costs : List Happens → ℕ
costs [] = 0
costs (h ∷ hs) = cost h + costs hs
