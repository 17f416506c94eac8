-- A right answer to GPO or GENERATE AC, in either of its forms, said of what stands in it: that just these have no reason is proved
-- (proofs/RightForms). 01, "What the card must answer".
-- Assumes nothing.
use Rattle.std.specs.Prelude.{◌≡◌, Bool, true, List, ◌⊎◌, ℕ, ◌≤◌}
use Rattle.answer_afl.specs.Entries.{AndEntries, entries_right, most_records, record_count}
use Rattle.answer_common.specs.Answer.{is_one, inside}
use Rattle.answer_common.specs.Named.{direct}
use Rattle.answer_common.specs.Right.{Framed, There, MayBe, Sized}
use Rattle.answer_common.specs.Forms.{template, joined, both_forms}
use Rattle.answer_gpo.specs.Options.{locator_of}
use Rattle.decide_cryptogram.specs.Cryptograms.{Given}
use Rattle.answer_cryptogram.specs.Cryptogram.{cryptogram_of}

-- GPO: 77 with 82 and 94, or 80 with both values joined
abbrev pub OptionsApart : List ℕ → Type 0
OptionsApart a = (is_one template a ≡ true) × There (Sized 2 2) (direct template a 0x82) × There (AndEntries 0) (direct template a 0x94)

abbrev pub OptionsJoined : List ℕ → Type 0
OptionsJoined a = (is_one joined a ≡ true) × AndEntries 2 (inside joined a)

pub record RightOptions (a : List ℕ) : Type 0 where
  pub framed : Framed both_forms a
  pub told : OptionsApart a ⊎ OptionsJoined a
  pub entries : entries_right (locator_of a) ≡ true
  pub few : record_count (locator_of a) ≤ most_records

-- GENERATE AC: 77 with 9F27, 9F36, 9F26 and, where the card has any, 9F10, or 80 with the values joined
pub record CryptogramApart (a : List ℕ) : Type 0 where
  pub is_apart : is_one template a ≡ true
  pub information : There (Sized 1 1) (direct template a 0x9F27)
  pub counter : There (Sized 2 2) (direct template a 0x9F36)
  pub cryptogram : There (Sized 8 8) (direct template a 0x9F26)
  pub issuer : MayBe (Sized 0 32) (direct template a 0x9F10)

abbrev pub CryptogramJoined : List ℕ → Type 0
CryptogramJoined a = (is_one joined a ≡ true) × Sized 11 43 (inside joined a)

pub record RightCryptogram (allowed : Given → Bool) (a : List ℕ) : Type 0 where
  pub framed : Framed both_forms a
  pub told : CryptogramApart a ⊎ CryptogramJoined a
  pub as_asked : allowed (cryptogram_of a) ≡ true
