-- Cryptograms: how a command asks for one, how an answer gives one, and which answers a request allows.
-- Assumes nothing.
use Rattle.std.specs.Prelude.{Bool, true, false, ℕ, ◌/◌, eqb, Option, Some, None}
use Rattle.slices.specs.Choice.{pick}
use Rattle.decide_cryptogram.specs.declared.Cryptogram.{Cryptogram}
use Rattle.decide_cryptogram.specs.declared.Cryptogram.TheVariants.{Aac, Tc, Arqc}
use Rattle.decide_cryptogram.specs.declared.Request.{Request}
use Rattle.decide_cryptogram.specs.declared.Request.TheVariants.{First, Second}

-- what 9F27 says: a cryptogram, or the type that stands for none
abbrev pub Given : Type 0
Given = Option Cryptogram

-- P1 of GENERATE AC: 01, "The commands"
abbrev pub p1_of : Cryptogram → ℕ
p1_of Aac = 0x00
p1_of Tc = 0x40
p1_of Arqc = 0x80

-- the cryptogram that an answer gives, by the top two bits of 9F27: 01, "What the card must answer"
unfoldable pub given_by : ℕ → Given
given_by cid =
    pick (eqb (cid / 64) 0) (Some Aac)
    (pick (eqb (cid / 64) 1) (Some Tc)
    (pick (eqb (cid / 64) 2) (Some Arqc) None))

-- the first answer: to TC any, to ARQC no TC, to AAC an AAC (01, "From facts to a decision")
abbrev pub answers_first : Cryptogram → Cryptogram → Bool
answers_first Tc given = true
answers_first Arqc Tc = false
answers_first Arqc Arqc = true
answers_first Arqc Aac = true
answers_first Aac Tc = false
answers_first Aac Arqc = false
answers_first Aac Aac = true

-- the second answer: an AAC, or a TC where one was asked for (01, "From facts to a decision")
abbrev pub answers_second : Cryptogram → Cryptogram → Bool
answers_second asked Aac = true
answers_second asked Arqc = false
answers_second Tc Tc = true
answers_second Arqc Tc = false
answers_second Aac Tc = false

-- which answers a request allows: the reserved type never (01, "What the card must answer": it gives reason 10)
unfoldable pub allowed_by : Request → Given → Bool
allowed_by (First asked) (Some given) = answers_first asked given
allowed_by (Second asked) (Some given) = answers_second asked given
allowed_by request None = false
