-- What a search does look at beside the values of named objects: the order of a directory record's entries, by which equals are selected;
-- and whether a record is one 70, since an empty one is good and leads to the next, and an answer without data to the list of AIDs.
-- Assumes nothing.
use mathlib.Core.Path.{◌≡◌, refl, sym, ap, ◌∙◌}
use mathlib.Core.Bool.{false}
use mathlib.Core.List.{[], ◌∷◌, ◌++◌}
use Prim.Native.Nat.{ℕ}
use native.Mathlib.Omega.{arith}
use lib.ListN.{get_or}
use Rattle.tlv_list.specs.Objects.{is_list}
use Rattle.select_search.specs.declared.Step.TheVariants.{Directory}
use Rattle.sessions.specs.Rules.{asks, hears, decides}
use Rattle.rulebook.specs.Roles.{given}
use Rattle.rulebook_choosing.specs.Choosing as choosing
use Rattle.rulebook_choosing.specs.Choosing.{Choosing, ChoosingPhase, further, searched}
use Rattle.rulebook_choosing.specs.Session.{rules}
use Rattle.card_seen.specs.Seen as seen
use Rattle.card_seen.specs.Seen.{Shown}
use Rattle.card_seen.specs.Under.{reason_in}
use Rattle.card_seen.proofs.Freedoms.{viewed}
use Rattle.card_worked.specs.Matters.{others, besides, seen_beside, place_due, reason_said, MattersUnder}
use Rattle.card_worked.proofs.Cards.{differ}
use Rattle.card_choosing.specs.Places.{place_at, place_of}
use Rattle.card_choosing_worked.specs.Theorem.{MattersAt, Exchanged, FormParts}
use Rattle.card_choosing_worked.proofs.Cards.{reached, listing, ok, record_of, listed, select_name, opens, closes, pair}

-- ---- the order of the entries: two of the same priority

parts : MattersAt seen.directory 0x61
unfolding reached viewed place_due place_of place_at given others besides seen_beside reason_said
parts =
    pair 0x61 opens seen.directory (record_of 0x1A (listed 1 1 ++ listed 2 1)) (record_of 0x1A (listed 2 1 ++ listed 1 1)) closes
    (select_name 1) (select_name 2)
    refl refl refl refl refl refl (differ 10 _ _ refl) refl refl

abbrev shown_as : ℕ → Shown
shown_as last =
    record {
      tag = 0x61;
      value = [];
      members =
          record { tag = 0x4F; value = 0xA0 ∷ 0 ∷ 0 ∷ 0 ∷ 3 ∷ last ∷ [] }
          ∷ record { tag = 0x87; value = 1 ∷ [] }
          ∷ [];
    }

pub order_counts : (m : MattersUnder rules place_of 0x61 0) × Exchanged m.one m.other
unfolding viewed parts pair
order_counts = (parts.0, record { first = shown_as 1; second = shown_as 2; one = refl; other = refl })

-- ---- whether a record is one 70

-- at the directory's first record
abbrev reading : Choosing
reading =
    further (record { stand = record { exchanges = 2; step = Directory 1 1; fallen = false }; list = [] }) (choosing.listed listing)

-- INS of the command that is due
instruction : ChoosingPhase → ℕ
instruction (asks w) = get_or (rules.command_of w) 1 0
instruction (hears h) = 0
instruction (decides outcome reason s) = 0

empty_next : instruction (searched reading (0x70 ∷ 0x00 ∷ ok)) ≡ 0xB2
unfolding reached instruction
empty_next = refl

none_next : instruction (searched reading ok) ≡ 0xA4
unfolding reached instruction
none_next = refl

pub form_parts : FormParts
unfolding reached viewed place_of place_at is_list reason_in
form_parts = record {
  asking = reading;
  one = 0x70 ∷ 0x00 ∷ ok;
  other = ok;
  alike = record { status = refl; first_list_lem = refl; second_list_lem = refl; objects = refl };
  no_reason = (refl, refl);
  apart = λ same. (let z : ◌≡◌ {A = ℕ} 0xB2 0xA4 = sym empty_next ∙ (ap instruction same ∙ none_next) in omega arith);
}
