-- SELECT and GPO: 84, A5, 9F38, 82 and 94 count. Of 84 only that it begins with the AID is ever asked for, of A5 only that it is there
-- and its 9F38; so these two count by a wrong and by a missing one, the others by another value.
-- Assumes nothing.
use mathlib.Core.Path.{refl}
use mathlib.Core.List.{[], ◌∷◌}
use Rattle.numbers.specs.Tables.{command, answer}
use Rattle.tape_read.specs.Entries.{entry}
use Rattle.rulebook.specs.Roles.{given}
use Rattle.rulebook.proofs.Opening.{reached}
use Rattle.rulebook.proofs.Made.{with_list, with_number, read_one, reads as reads_all}
use Rattle.card_seen.specs.Seen.{selection, options}
use Rattle.card_seen.specs.Given.{place_of}
use Rattle.card_seen.proofs.Freedoms.{viewed}
use Rattle.card_worked.specs.Matters.{others, besides, seen_beside, place_due, reason_said, Matters}
use Rattle.card_worked.proofs.Cards.{differ, chosen, name_ending, list_asking, offering, profile, five}
use Rattle.card_worked.proofs.Cards.{begins, chose, verified, tvr, decides, ending}
use Rattle.card_worked.proofs.Records.{record_with, plain, asks}

-- an AID that ends with 4, where 3 was selected
pub name_counts : Matters 0x84 5
unfolding reached viewed place_due place_of given others besides seen_beside reason_said
name_counts = record {
  before = begins;
  place = selection;
  due = refl;
  one = with_list;
  other = chosen 0x0F (name_ending 4) (list_asking 0x04);
  alone = refl;
  middle = [];
  asked = entry command with_number;
  otherwise = decides 3 5 (five 0) 0;
  first_given = refl;
  second_given = refl;
  first_reason = refl;
  second_reason = refl;
  apart = differ 0 _ _ refl;
  rest = ending (five 0) 0;
  more = [];
  session = reads_all _ refl;
  another = reads_all _ refl;
}

-- none
pub template_counts : Matters 0xA5 8
unfolding reached viewed place_due place_of given others besides seen_beside reason_said
template_counts = record {
  before = begins;
  place = selection;
  due = refl;
  one = with_list;
  other = chosen 0x07 (name_ending 3) [];
  alone = refl;
  middle = [];
  asked = entry command with_number;
  otherwise = decides 3 8 (five 0) 0;
  first_given = refl;
  second_given = refl;
  first_reason = refl;
  second_reason = refl;
  apart = differ 0 _ _ refl;
  rest = ending (five 0) 0;
  more = [];
  session = reads_all _ refl;
  another = reads_all _ refl;
}

-- a list that asks for two bytes and not for four
pub list_counts : Matters 0x9F38 0
unfolding reached viewed place_due place_of given others besides seen_beside reason_said
list_counts = record {
  before = begins;
  place = selection;
  due = refl;
  one = with_list;
  other = chosen 0x0F (name_ending 3) (list_asking 0x02);
  alone = refl;
  middle = [];
  asked = entry command with_number;
  otherwise = entry command (0x80 ∷ 0xA8 ∷ 0x00 ∷ 0x00 ∷ 0x04 ∷ 0x83 ∷ 0x02 ∷ 0x11 ∷ 0x22 ∷ 0x00 ∷ []);
  first_given = refl;
  second_given = refl;
  first_reason = refl;
  second_reason = refl;
  apart = differ 4 _ _ refl;
  rest = ending (five 0) 0;
  more = ending (five 0) 0;
  session = reads_all _ refl;
  another = reads_all _ refl;
}

-- another bit of the AIP, which 8C asks for
pub profile_counts : Matters 0x82 0
unfolding reached viewed place_due place_of given others besides seen_beside reason_said
profile_counts = record {
  before = chose;
  place = options;
  due = refl;
  one = offering profile 1;
  other = offering (0x10 ∷ 0x01 ∷ []) 1;
  alone = refl;
  middle = entry command read_one ∷ entry answer (record_with plain) ∷ verified ∷ [];
  asked = asks profile plain (tvr 0 0);
  otherwise = asks (0x10 ∷ 0x01 ∷ []) plain (tvr 0 0);
  first_given = refl;
  second_given = refl;
  first_reason = refl;
  second_reason = refl;
  apart = differ 6 _ _ refl;
  rest = ending (tvr 0 0) 0x40;
  more = ending (tvr 0 0) 0x40;
  session = reads_all _ refl;
  another = reads_all _ refl;
}

-- record 2 and not 1
pub locator_counts : Matters 0x94 0
unfolding reached viewed place_due place_of given others besides seen_beside reason_said
locator_counts = record {
  before = chose;
  place = options;
  due = refl;
  one = offering profile 1;
  other = offering profile 2;
  alone = refl;
  middle = [];
  asked = entry command read_one;
  otherwise = entry command (0x00 ∷ 0xB2 ∷ 0x02 ∷ 0x0C ∷ 0x00 ∷ []);
  first_given = refl;
  second_given = refl;
  first_reason = refl;
  second_reason = refl;
  apart = differ 2 _ _ refl;
  rest = ending (five 0) 0;
  more = ending (five 0) 0;
  session = reads_all _ refl;
  another = reads_all _ refl;
}
