-- An answer: data, then two status bytes. 000, I-5.2.2.3.2 and I-5.4.2.
-- Assumes nothing.
use Rattle.std.specs.Prelude.{Bool, true, false, List, ℕ, ◌/◌, eqb, leb, length, take}
use Rattle.slices.specs.Choice.{pick}
use Rattle.apdu.specs.declared.Trailer.{Trailer}

-- a status from its two bytes, SW1 and SW2
abbrev pub trailer_of : ℕ → ℕ → Trailer
trailer_of a b = record { sw1 = a; sw2 = b }

-- '6x' and '9x' (000, Table I-21)
unfoldable pub is_status : ℕ → Bool
is_status b = pick (eqb (b / 16) 6) true (eqb (b / 16) 9)

-- '9000' alone is normal; '62', '63' and every other '9x' warn or belong to the application (000, I-5.3.1.1)
unfoldable pub is_warning : Trailer → Bool
is_warning t =
    pick (eqb t.sw1 0x62) true
    (pick (eqb t.sw1 0x63) true
    (pick (eqb (t.sw1 / 16) 9) (pick (eqb t.sw1 0x90) (pick (eqb t.sw2 0x00) false true) true) false))

-- the most bytes of an answer: what a command and sixteen '61' can bring by T=0, 256 bytes each, and the status (02, R-4). T=1 takes no
-- more either way
abbrev pub answer_most : ℕ
answer_most = 4354

-- the most bytes of an answer that a session takes (01, "When a call is turned away", 5), and what it is handed of a longer one
abbrev pub handed_most : ℕ
handed_most = 496

abbrev pub handed_of_longer : ℕ
handed_of_longer = 259

-- what a session is handed of an answer: all of it, or of one that it would not take enough to see that it is too long
unfoldable pub handed : List ℕ → List ℕ
handed a = pick (leb (length a) handed_most) a (take handed_of_longer a)
