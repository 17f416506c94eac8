-- A block: NAD, PCB, LEN, information field, LRC. 000, I-5.2.4.1 and Tables I-22 to I-25.
-- Assumes nothing.
use Rattle.std.specs.Prelude.{Option, Some, None, Bool, true, false, List, [], ◌∷◌, ◌++◌, ℕ, ◌+◌, ◌/◌, ◌%◌, eqb, leb, length, get_or, take, drop}
use Rattle.slices.specs.Choice.{pick}
use Rattle.slices.specs.Tables.{beside}
use Rattle.atr_characters.specs.Data.{joined_from}
use Rattle.t1_block.specs.declared.What.{What}
use Rattle.t1_block.specs.declared.What.TheVariants.{Resynch, Ifs, Abort, Wtx}
use Rattle.t1_block.specs.declared.Kind.{Kind}
use Rattle.t1_block.specs.declared.Kind.TheVariants.{Information, Ready, Request, Response}

-- the prologue's three bytes; what is not there reads as 0
abbrev pub nad_of : List ℕ → ℕ
nad_of b = get_or b 0 0

abbrev pub pcb_of : List ℕ → ℕ
pcb_of b = get_or b 1 0

abbrev pub len_of : List ℕ → ℕ
len_of b = get_or b 2 0

-- the information field: as many bytes as LEN says
unfoldable pub inf_of : List ℕ → List ℕ
inf_of b = take (len_of b) (drop 3 b)

-- the bytes of a field joined by exclusive or (000, I-5.2.4.1.3)
unfoldable pub lrc_of : List ℕ → ℕ
lrc_of s = joined_from 0 s

-- the longest information field
abbrev pub inf_most : ℕ
inf_most = 254

-- 000, Table I-23 (chaining is b6, the number b7) and Table I-25
abbrev pub kinds : List (ℕ × Option Kind)
kinds =
    (0x00, Some (Information false false))
    ∷ (0x20, Some (Information false true))
    ∷ (0x40, Some (Information true false))
    ∷ (0x60, Some (Information true true))
    ∷ (0xC0, Some (Request Resynch))
    ∷ (0xC1, Some (Request Ifs))
    ∷ (0xC2, Some (Request Abort))
    ∷ (0xC3, Some (Request Wtx))
    ∷ (0xE0, Some (Response Resynch))
    ∷ (0xE1, Some (Response Ifs))
    ∷ (0xE2, Some (Response Abort))
    ∷ (0xE3, Some (Response Wtx))
    ∷ []

-- what a protocol control byte says, where it says anything; of an R-block the number alone, b5 (000, Table I-24; I-5.2.5.1: b4-b1 are ignored)
unfoldable pub kind_of : ℕ → Option Kind
kind_of p = pick (eqb (p / 16) 8) (Some (Ready false)) (pick (eqb (p / 16) 9) (Some (Ready true)) (beside None p kinds))

-- the same the other way; an R-block with its error code
abbrev pub bit_of : Bool → ℕ → ℕ
bit_of true n = n
bit_of false n = 0

abbrev pub pcb_of_i : Bool → Bool → ℕ
pcb_of_i number more = bit_of number 0x40 + bit_of more 0x20

abbrev pub pcb_of_r : Bool → ℕ → ℕ
pcb_of_r number code = 0x80 + bit_of number 0x10 + code % 16

abbrev pub what_number : What → ℕ
what_number Resynch = 0
what_number Ifs = 1
what_number Abort = 2
what_number Wtx = 3

abbrev pub pcb_of_s : Bool → What → ℕ
pcb_of_s response w = 0xC0 + bit_of response 0x20 + what_number w

-- everything before the LRC
abbrev pub body_of : ℕ → List ℕ → List ℕ
body_of pcb inf = 0x00 ∷ pcb ∷ length inf ∷ inf

unfoldable pub framed : ℕ → List ℕ → List ℕ
framed pcb inf = body_of pcb inf ++ (lrc_of (body_of pcb inf) ∷ [])

-- the block that is written; a field that is too long is not
unfoldable pub written : ℕ → List ℕ → List ℕ
written pcb inf = pick (leb (length inf) inf_most) (framed pcb inf) []
