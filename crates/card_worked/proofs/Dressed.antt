-- Two whole sessions, no answer of which has the bytes of the other's: '00' bytes, other length forms, objects that are not named, and
-- each of GPO and both GENERATE ACs in the other form. Both are sessions of the rulebook, so both are PASS, and what is seen of each
-- answer is the same.
-- Assumes nothing.
use mathlib.Core.Path.{refl}
use mathlib.Core.List.{List, [], ◌∷◌, ◌++◌}
use Prim.Native.Nat.{ℕ, ◌+◌}
use lib.ListN.{drop}
use Rattle.numbers.specs.Tables.{start, command, answer, host}
use Rattle.tape_read.specs.Entries.{Entry, entry}
use Rattle.rulebook.proofs.Opening.{reached}
use Rattle.rulebook.proofs.Made.{start_of, select, with_list, with_number, read_one, reads as reads_all}
use Rattle.card_seen.specs.Given.{place_of}
use Rattle.card_seen.specs.SideBySide.{none, asked, answered, said_both, decided_both}
use Rattle.card_seen.proofs.Freedoms.{viewed}
use Rattle.card_worked.specs.Dressed.{answers_differ, Dressed}
use Rattle.card_worked.proofs.Cards.{offering, profile, giving, counter, cryptogram, issuer, verified, tvr, decides}
use Rattle.card_worked.proofs.Records.{record_size, record_with, plain, asks}

-- from GPO on, with the four answers that are left
abbrev onward : List ℕ → List ℕ → List ℕ → List ℕ → List Entry
onward b c d e =
    entry command with_number ∷ entry answer b
    ∷ entry command read_one ∷ entry answer c
    ∷ verified
    ∷ asks profile plain (tvr 0 0) ∷ entry answer d
    ∷ entry host (1 ∷ 0x30 ∷ 0x30 ∷ [])
    ∷ entry command (0x80 ∷ 0xAE ∷ 0x40 ∷ 0x00 ∷ 0x04 ∷ 0x11 ∷ 0x22 ∷ 0x33 ∷ 0x44 ∷ 0x00 ∷ []) ∷ entry answer e
    ∷ decides 1 0 (tvr 0 0) 0x60
    ∷ []

abbrev pub plain_onward : List Entry
plain_onward =
    onward (offering profile 1) (record_with plain) (giving 0x18 0x80 (counter ++ (cryptogram ++ issuer)))
    (0x80 ∷ 0x0B ∷ 0x40 ∷ 0x00 ∷ 0x02 ∷ 8 ∷ 7 ∷ 6 ∷ 5 ∷ 4 ∷ 3 ∷ 2 ∷ 1 ∷ 0x90 ∷ 0x00 ∷ [])

abbrev pub dressed_onward : List Entry
dressed_onward =
    onward
    (0x80 ∷ 0x06 ∷ 0x10 ∷ 0x00 ∷ 0x08 ∷ 0x01 ∷ 0x01 ∷ 0x00 ∷ 0x00 ∷ 0x90 ∷ 0x00 ∷ [])
    (0x70 ∷ 0x81 ∷ (5 + record_size) ∷ 0x5F ∷ 0x20 ∷ 0x01 ∷ 0x41 ∷ 0x00 ∷ drop 2 (record_with plain))
    (0x80 ∷ 0x0C ∷ 0x80 ∷ 0x00 ∷ 0x01 ∷ 1 ∷ 2 ∷ 3 ∷ 4 ∷ 5 ∷ 6 ∷ 7 ∷ 8 ∷ 0xAA ∷ 0x90 ∷ 0x00 ∷ [])
    (0x77 ∷ 0x14 ∷ 0x9F ∷ 0x27 ∷ 0x01 ∷ 0x40 ∷ 0x9F ∷ 0x36 ∷ 0x02 ∷ 0x00 ∷ 0x02 ∷ 0x9F ∷ 0x26 ∷ 0x08 ∷ 8 ∷ 7 ∷ 6 ∷ 5 ∷ 4 ∷ 3 ∷ 2 ∷ 1
    ∷ 0x90 ∷ 0x00 ∷ [])

-- before it SELECT and its answer
abbrev session_of : List ℕ → List Entry → List Entry
session_of a es = entry start (start_of 2) ∷ entry command select ∷ entry answer a ∷ es

abbrev plain_session : List Entry
plain_session = session_of with_list plain_onward

abbrev dressed_session : List Entry
dressed_session =
    session_of
    (0x00 ∷ 0x6F ∷ 0x81 ∷ 0x15 ∷ 0x50 ∷ 0x01 ∷ 0x41 ∷ 0x84 ∷ 0x82 ∷ 0x00 ∷ 0x05 ∷ 0xA0 ∷ 0 ∷ 0 ∷ 0 ∷ 3 ∷ 0x00
    ∷ 0xA5 ∷ 0x06 ∷ 0x9F ∷ 0x38 ∷ 0x03 ∷ 0x9F ∷ 0x37 ∷ 0x04 ∷ 0x90 ∷ 0x00 ∷ [])
    dressed_onward

pub whole_pair : Dressed
unfolding reached viewed place_of answers_differ
whole_pair = record {
  plain = plain_session;
  dressed = dressed_session;
  plain_session_lem = reads_all _ refl;
  dressed_session_lem = reads_all _ refl;
  same_given =
      said_both _ (asked _ _ (answered _ _ refl (asked _ _ (answered _ _ refl (asked _ _ (answered _ _ refl
      (said_both _ (asked _ _ (answered _ _ refl (said_both _ (asked _ _ (answered _ _ refl (decided_both _ _ none)))))))))))));
  other_bytes = refl;
}
