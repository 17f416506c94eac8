-- 01, "Sessions on the bench", cases A to L, each of the definition that a function promises: what list_refusal and the reader by
-- place, fill, the commands, options_reason, selected and first_request answer.
-- Assumes nothing.
use Rattle.std.specs.Prelude.{◌≡◌, true, false, List, [], ◌∷◌, ◌++◌, ℕ, ◌+◌, length}
use Rattle.std.proofs.Math.Option.{some}
use Rattle.tlv_list.specs.Objects.{objects, read_refusal}
use Rattle.facts.specs.Facts.{Facts}
use Rattle.dol_fill.specs.Filled.{filling}
use Rattle.slices.specs.Writing.{zeros}
use Rattle.start_fields.specs.Reading.{Terminal}
use Rattle.start_fields.specs.Bare.{bare, weighing, telling}
use Rattle.commands.specs.Commands.{record_command}
use Rattle.answer_afl.specs.Entries.{to_read, record_count}
use Rattle.answer_gpo.specs.Options.{options_reason}
use Rattle.decide_tvr.specs.Selection.{selected}
use Rattle.decide_requests.specs.Requests.{first_request}
use Rattle.decide_cryptogram.specs.declared.Cryptogram.TheVariants.{Tc, Arqc}

-- a terminal of a type whose action codes are all zero, and an issuer's codes that are
unfoldable pub plain : ℕ → Terminal
plain kind = bare kind (zeros 5) (zeros 5) (zeros 5)

unfoldable pub no_codes : Facts
no_codes tag = some (zeros 5)

-- a terminal with the numbers of E, F and J, and a random number and an amount
unfoldable pub trial : ℕ → List ℕ → Terminal
trial random amount =
    telling
    (weighing (bare 2 (zeros 5) (zeros 5) (zeros 5)) random 10 70 amount (0x00 ∷ 0x00 ∷ 0x00 ∷ 0x00 ∷ 0x50 ∷ 0x00 ∷ [])
    (0x00 ∷ 0x00 ∷ 0x00 ∷ 0x01 ∷ 0x00 ∷ 0x00 ∷ []))
    (zeros 3)
    (zeros 2)
    (0x11 ∷ 0x22 ∷ 0x33 ∷ 0x44 ∷ [])

unfoldable pub amount7500 : List ℕ
amount7500 = 0x00 ∷ 0x00 ∷ 0x00 ∷ 0x00 ∷ 0x75 ∷ 0x00 ∷ []

unfoldable pub amount7499 : List ℕ
amount7499 = 0x00 ∷ 0x00 ∷ 0x00 ∷ 0x00 ∷ 0x74 ∷ 0x99 ∷ []

-- an answer to GPO with an AIP of zeros and an AFL, and one with the AFL alone
unfoldable pub located : List ℕ → List ℕ
located afl = 0x77 ∷ (6 + length afl) ∷ 0x82 ∷ 0x02 ∷ 0x00 ∷ 0x00 ∷ 0x94 ∷ length afl ∷ (afl ++ (0x90 ∷ 0x00 ∷ []))

unfoldable pub unprofiled : List ℕ → List ℕ
unprofiled afl = 0x77 ∷ (2 + length afl) ∷ 0x94 ∷ length afl ∷ (afl ++ (0x90 ∷ 0x00 ∷ []))

pub record Cases : Type 0 where
  -- a longer length form than needed
  pub a_read : read_refusal (0x5A ∷ 0x81 ∷ 0x02 ∷ 0x12 ∷ 0x34 ∷ []) ≡ 0
  pub a : objects (0x5A ∷ 0x81 ∷ 0x02 ∷ 0x12 ∷ 0x34 ∷ []) ≡ some (record { tag = 0x5A; value = 0x12 ∷ 0x34 ∷ [] } ∷ [])
  -- a value that is not there whole
  pub b : read_refusal (0x5A ∷ 0x02 ∷ 0x12 ∷ []) ≡ 9
  -- a first length byte that is refused
  pub c : read_refusal (0x5A ∷ 0x80 ∷ []) ≡ 9
  -- an empty list
  pub d_read : read_refusal (0x00 ∷ 0x00 ∷ []) ≡ 0
  pub d : objects (0x00 ∷ 0x00 ∷ []) ≡ some []
  -- the object lists 9F02 04 and 9F37 02, whatever else is known: the amount in four bytes, the unpredictable number in two
  pub e : (k : Facts) → filling (trial 40 amount7500) k (0x9F ∷ 0x02 ∷ 0x04 ∷ []) ≡ 0x00 ∷ 0x00 ∷ 0x75 ∷ 0x00 ∷ []
  pub f : (k : Facts) → filling (trial 40 amount7500) k (0x9F ∷ 0x37 ∷ 0x02 ∷ []) ≡ 0x11 ∷ 0x22 ∷ []
  -- three records, and the first command
  pub g : to_read (0x08 ∷ 0x01 ∷ 0x03 ∷ 0x01 ∷ []) ≡ (1, 1) ∷ (2, 1) ∷ (3, 1) ∷ []
  pub g_command : record_command 1 1 ≡ 0x00 ∷ 0xB2 ∷ 0x01 ∷ 0x0C ∷ 0x00 ∷ []
  -- 58 records are read
  pub h : record_count (0x08 ∷ 0x01 ∷ 0x3A ∷ 0x00 ∷ []) ≡ 58
  pub h_read : options_reason (located (0x08 ∷ 0x01 ∷ 0x3A ∷ 0x00 ∷ [])) ≡ 0
  -- 02, R-8: 59 too, and 500; 501 are too many, over two files at least since a record's number is one byte
  pub i_59 : options_reason (located (0x08 ∷ 0x01 ∷ 0x3B ∷ 0x00 ∷ [])) ≡ 0
  pub i_500 : options_reason (located (0x08 ∷ 0x01 ∷ 0xFA ∷ 0x00 ∷ 0x10 ∷ 0x01 ∷ 0xFA ∷ 0x00 ∷ [])) ≡ 0
  pub i : options_reason (located (0x08 ∷ 0x01 ∷ 0xFA ∷ 0x00 ∷ 0x10 ∷ 0x01 ∷ 0xFB ∷ 0x00 ∷ [])) ≡ 7
  -- reason 7 goes after 6 and before 8: a first record 0 beside 501 records; no AIP beside 501, and beside 500
  pub i_wrong : options_reason (located (0x08 ∷ 0x00 ∷ 0xFA ∷ 0x00 ∷ 0x10 ∷ 0x01 ∷ 0xFB ∷ 0x00 ∷ [])) ≡ 6
  pub i_lacks : options_reason (unprofiled (0x08 ∷ 0x01 ∷ 0xFA ∷ 0x00 ∷ 0x10 ∷ 0x01 ∷ 0xFB ∷ 0x00 ∷ [])) ≡ 7
  pub h_lacks : options_reason (unprofiled (0x08 ∷ 0x01 ∷ 0xFA ∷ 0x00 ∷ 0x10 ∷ 0x01 ∷ 0xFA ∷ 0x00 ∷ [])) ≡ 8
  -- target 10, maximum 70, threshold 5000, floor limit 10000
  pub j_selected : selected (trial 40 amount7500) ≡ true
  pub j_not : selected (trial 41 amount7500) ≡ false
  -- nothing is rounded
  pub k : selected (trial 40 amount7499) ≡ false
  -- TVR 8000000000, all codes zero, by the terminal's type
  pub l_offline : first_request (plain 0) no_codes (0x80 ∷ 0 ∷ 0 ∷ 0 ∷ 0 ∷ []) ≡ Tc
  pub l_online : first_request (plain 1) no_codes (0x80 ∷ 0 ∷ 0 ∷ 0 ∷ 0 ∷ []) ≡ Arqc
  pub l_both : first_request (plain 2) no_codes (0x80 ∷ 0 ∷ 0 ∷ 0 ∷ 0 ∷ []) ≡ Tc
