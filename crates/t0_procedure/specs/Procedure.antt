-- A procedure byte, or the first byte of a status. 000, Tables I-20 and I-21.
-- Assumes nothing.
use Rattle.std.specs.Prelude.{true, Ok, Err, ℕ, ◌+◌, ◌-◌, eqb, leb, ltb}
use Rattle.slices.specs.Choice.{pick}
use Rattle.t0_state.specs.Bytes.{ins_of, meaning_of, comes_in, may_get, may_repeat}
use Rattle.t0_state.specs.Changes.{at_phase, with_header, with_counts}
use Rattle.t0_state.specs.declared.Phase.{Phase}
use Rattle.t0_state.specs.declared.Phase.TheVariants.{Length61, Length6C, Data, Over, Status as SecondOf}
use Rattle.t0_state.specs.declared.State.{State}
use Rattle.t0_state.specs.declared.bytes.Meaning.{Meaning}
use Rattle.t0_state.specs.declared.bytes.Meaning.TheVariants.{All, Next, Wait, Get, Repeat, Status, Strange}
use Rattle.t0_state.specs.declared.Refusal.{Refusal}
use Rattle.t0_state.specs.declared.Refusal.TheVariants.{Byte, Place, Many60, Many61, Many6C}
use Rattle.t0_state.specs.declared.Act.TheVariants.{Nothing, Send}
use Rattle.t0_state.specs.declared.Turn.{Turn}

-- how many '60' and how many '61' one command takes (02, R-4)
abbrev pub waits_most : ℕ
waits_most = 255

abbrev pub gets_most : ℕ
gets_most = 16

-- a refusal ends the exchange
abbrev pub refused : Refusal → State → Turn
refused why s = record { state = at_phase Over s; act = Err why }

-- something else is waited for
abbrev pub onward : Phase → State → Turn
onward p s = record { state = at_phase p s; act = Ok Nothing }

-- n more of the header's bytes no longer left
abbrev pub less_left : ℕ → State → State
less_left n s =
    with_header (record { sent = s.header.sent; size = s.header.size; left = s.header.left - n }) s

-- n bytes are moved: they are then due from the card, or are sent from the first that was not. Out of place where none is left
unfoldable pub moving : ℕ → State → Turn
moving n s =
    pick (eqb n 0) (refused Place s)
    (pick (comes_in s.header.sent) (onward (Data n) (less_left n s))
    (record { state = less_left n s; act = Ok (Send (s.header.size - s.header.left) n) }))

-- INS: all that are left
unfoldable pub on_all : State → Turn
on_all s = moving s.header.left s

-- its complement: the next one
unfoldable pub on_next : State → Turn
on_next s = moving (pick (eqb s.header.left 0) 0 1) s

-- '60' changes nothing but its count
abbrev pub waited : State → State
waited s = with_counts (record { waits = s.counts.waits + 1; gets = s.counts.gets; repeated = s.counts.repeated }) s

unfoldable pub on_wait : State → Turn
on_wait s = pick (ltb s.counts.waits waits_most) (record { state = waited s; act = Ok Nothing }) (refused Many60 s)

-- '61': a length follows
abbrev pub got : State → State
got s = with_counts (record { waits = s.counts.waits; gets = s.counts.gets + 1; repeated = s.counts.repeated }) s

unfoldable pub on_get : State → Turn
on_get s =
    pick (leb gets_most s.counts.gets) (refused Many61 s)
    (pick (may_get s.header) (onward Length61 (got s)) (refused Place s))

-- '6C': a length follows
abbrev pub repeats : State → State
repeats s = with_counts (record { waits = s.counts.waits; gets = s.counts.gets; repeated = true }) s

unfoldable pub on_six_c : State → Turn
on_six_c s =
    pick s.counts.repeated (refused Many6C s)
    (pick (may_repeat s.header) (onward Length6C (repeats s)) (refused Place s))

unfoldable pub by_meaning : Meaning → State → ℕ → Turn
by_meaning All s b = on_all s
by_meaning Next s b = on_next s
by_meaning Wait s b = on_wait s
by_meaning Get s b = on_get s
by_meaning Repeat s b = on_six_c s
by_meaning Status s b = onward (SecondOf b) s
by_meaning Strange s b = refused Byte s

unfoldable pub on_procedure : State → ℕ → Turn
on_procedure s b = by_meaning (meaning_of (ins_of s) b) s b
