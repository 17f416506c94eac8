-- What a byte of the card's means where a procedure byte or a status is due, and where '61', '6C' and a warning have their
-- place. 000, Tables I-20 and I-21, I-5.3.1.1 and I-5.3.1.2.
-- Assumes nothing.
use Rattle.std.specs.Prelude.{Bool, true, false, ℕ, ◌-◌, eqb}
use Rattle.slices.specs.Choice.{pick}
use Rattle.apdu.specs.Answers.{is_status, is_warning}
use Rattle.apdu.specs.declared.Case.TheVariants.{One, Two, Three, Four}
use Rattle.apdu.specs.declared.Trailer.{Trailer}
use Rattle.t0_state.specs.declared.Sent.{Sent}
use Rattle.t0_state.specs.declared.Sent.TheVariants.{Own, GetResponse}
use Rattle.t0_state.specs.declared.Header.{Header}
use Rattle.t0_state.specs.declared.Command.{Command}
use Rattle.t0_state.specs.declared.State.{State}
use Rattle.t0_state.specs.declared.bytes.Meaning.{Meaning}
use Rattle.t0_state.specs.declared.bytes.Meaning.TheVariants.{All, Next, Wait, Get, Repeat, Status, Strange}

-- INS of GET RESPONSE (000, Table I-26)
abbrev pub get_response : ℕ
get_response = 0xC0

unfoldable pub ins_for : Sent → Command → ℕ
ins_for (Own case) c = c.ins
ins_for GetResponse c = get_response

-- INS of the header that the card is answering
unfoldable pub ins_of : State → ℕ
ins_of s = ins_for s.header.sent s.command

unfoldable pub complement : ℕ → ℕ
complement ins = 255 - ins

-- 000, Tables I-20 and I-21
unfoldable pub meaning_of : ℕ → ℕ → Meaning
meaning_of ins b =
    pick (eqb b ins) All
    (pick (eqb b (complement ins)) Next
    (pick (eqb b 0x60) Wait
    (pick (eqb b 0x61) Get
    (pick (eqb b 0x6C) Repeat
    (pick (is_status b) Status Strange)))))

-- case 2 and GET RESPONSE bring bytes from the card
unfoldable pub comes_in : Sent → Bool
comes_in (Own One) = false
comes_in (Own Two) = true
comes_in (Own Three) = false
comes_in (Own Four) = false
comes_in GetResponse = true

-- '61' tells of data to fetch: for case 2 at any time, for case 4 once all its data went out (000, I-5.3.1.2)
unfoldable pub may_get_after : Sent → ℕ → Bool
may_get_after (Own One) left = false
may_get_after (Own Two) left = true
may_get_after (Own Three) left = false
may_get_after (Own Four) left = eqb left 0
may_get_after GetResponse left = true

unfoldable pub may_get : Header → Bool
may_get h = may_get_after h.sent h.left

-- '6C' tells a better length: only where bytes come in, and before the first of them
unfoldable pub may_repeat : Header → Bool
may_repeat h = pick (comes_in h.sent) (eqb h.left h.size) false

-- a warning does not end case 4 once all its data went out (000, I-5.3.1.1.4, 4b)
unfoldable pub goes_on_after : Sent → ℕ → Trailer → Bool
goes_on_after (Own One) left t = false
goes_on_after (Own Two) left t = false
goes_on_after (Own Three) left t = false
goes_on_after (Own Four) left t = pick (eqb left 0) (is_warning t) false
goes_on_after GetResponse left t = false

unfoldable pub goes_on : Header → Trailer → Bool
goes_on h t = goes_on_after h.sent h.left t
