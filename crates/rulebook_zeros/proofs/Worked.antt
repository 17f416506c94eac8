-- Worked numbers that hold the definitions to 02, R-6 and R-7. Each by computation.
-- Assumes nothing.
use mathlib.Core.Path.{◌≡◌, refl}
use mathlib.Core.List.{List, [], ◌∷◌}
use mathlib.Core.Option.{none, some}
use Prim.Native.Nat.{ℕ}
use Rattle.slices.specs.Choice.{pick, unless_empty}
use Rattle.slices.specs.Shorter.{counted, shorter}
use Rattle.slices.specs.Tables.{beside}
use Rattle.slices.specs.Tests.{is_some, between, every}
use Rattle.slices.specs.Writing.{zeros}
use Rattle.tlv_head.specs.Head.{first_byte, two_bytes, tag_size, tag_of, tag_right}
use Rattle.start_fields.specs.Reading.{Terminal, reading_of}
use Rattle.start_fields.proofs.Sample.{sample, full_sample}
use Rattle.dol_wanted.specs.Wanted.{and_then, size_at, first_wanted, asks as asks_for, wanted_step, entries_of, total, fits, fillable}
use Rattle.dol_values.specs.Shape.{format_of}
use Rattle.dol_values.specs.Known.{own_field, value_by, value_for, with_format, supplied}
use Rattle.dol_fill.specs.Filled.{missing, missing_in, missing_by, unsupplied}
use Rattle.decide_cryptogram.specs.declared.Cryptogram.{Cryptogram}
use Rattle.rulebook.specs.Situation.{Situation, known_in, list_in}
use Rattle.rulebook.specs.Phase.{optioning, first, second}
use Rattle.rulebook_zeros.specs.Zeros.{unsupplied_asking}

module _ (t : Terminal) (request : Cryptogram) where
  -- the records told the card number and both lists, and no version: 8C asks for 8A, the TVR, an unknown tag of no byte and the version,
  -- 8D for 8A, for the list 8C itself, and twice for an unknown tag
  abbrev told : Situation
  told = record {
    terminal = t;
    profile = 0x08 ∷ 0x00 ∷ [];
    facts = λ tag.
        beside none tag
        ((0x5A, some (0x12 ∷ []))
        ∷ (0x8C, some (0x8A ∷ 2 ∷ 0x95 ∷ 5 ∷ 0x9F ∷ 0x35 ∷ 0 ∷ 0x9F ∷ 0x08 ∷ 2 ∷ []))
        ∷ (0x8D, some (0x8A ∷ 2 ∷ 0x8C ∷ 4 ∷ 0xDF ∷ 0x01 ∷ 1 ∷ 0xDF ∷ 0x01 ∷ 1 ∷ []))
        ∷ []);
    tvr = zeros 5;
    tsi = zeros 2;
  }

  -- 8A is not there at the first request; an entry of no byte counts; the version was never told
  pub at_first : unsupplied_asking (first told request) ≡ 3
  unfolding unsupplied_asking unsupplied missing_by missing_in missing supplied with_format value_for value_by own_field format_of known_in
      unless_empty list_in fillable fits total entries_of shorter counted wanted_step asks_for and_then first_wanted size_at tag_of tag_size
      tag_right two_bytes first_byte beside is_some pick between every
  at_first = refl

  -- at the second 8A is; a list is known to no list, and a tag that is named twice counts twice
  pub at_second : unsupplied_asking (second told request (0x30 ∷ 0x30 ∷ [])) ≡ 3
  unfolding unsupplied_asking unsupplied missing_by missing_in missing supplied with_format value_for value_by own_field format_of known_in
      unless_empty list_in fillable fits total entries_of shorter counted wanted_step asks_for and_then first_wanted size_at tag_of tag_size
      tag_right two_bytes first_byte beside is_some pick between every
  at_second = refl

-- nothing is known but TVR and TSI, which are zeros, and what START has
abbrev begun : List ℕ → Situation
begun start = record { terminal = reading_of start; profile = []; facts = λ tag. none; tvr = zeros 5; tsi = zeros 2 }

abbrev lacking : List ℕ → List ℕ → ℕ
lacking start list = unsupplied_asking (optioning (begun start) list)

-- 9F38: the amount, TVR and TSI are supplied, whatever they are; AIP, card number and 8A are not there yet
pub at_options : lacking sample (0x9F ∷ 0x02 ∷ 6 ∷ 0x95 ∷ 5 ∷ 0x9B ∷ 2 ∷ 0x82 ∷ 2 ∷ 0x5A ∷ 10 ∷ 0x8A ∷ 2 ∷ []) ≡ 3
unfolding unsupplied_asking unsupplied missing_by missing_in missing supplied with_format value_for value_by own_field format_of known_in
    unless_empty fillable fits total entries_of shorter counted wanted_step asks_for and_then first_wanted size_at tag_of tag_size tag_right
    two_bytes first_byte beside is_some pick between every reading_of
at_options = refl

-- Terminal Capabilities are known where START has them; the verification list and the application's currency are known to no list
pub capabilities : (lacking sample (0x9F ∷ 0x33 ∷ 3 ∷ []) ≡ 1) × (lacking full_sample (0x9F ∷ 0x33 ∷ 3 ∷ []) ≡ 0)
    × (lacking full_sample (0x8E ∷ 8 ∷ 0x9F ∷ 0x42 ∷ 2 ∷ []) ≡ 2)
unfolding unsupplied_asking unsupplied missing_by missing_in missing supplied with_format value_for value_by own_field format_of known_in
    unless_empty fillable fits total entries_of shorter counted wanted_step asks_for and_then first_wanted size_at tag_of tag_size tag_right
    two_bytes first_byte beside is_some pick between every reading_of
capabilities = (refl, refl, refl)

-- a list that cannot be filled, here for its last byte, counts nothing
pub not_filled : lacking sample (0x82 ∷ 2 ∷ 0x9F ∷ []) ≡ 0
unfolding unsupplied_asking unsupplied fillable fits entries_of shorter counted wanted_step asks_for and_then first_wanted
    tag_size tag_right
    two_bytes first_byte pick between every
not_filled = refl
