-- The order of the refusals: a wrong entry goes before a full tape, and an entry is taken exactly where neither is so.
-- Assumes nothing.
use mathlib.Core.Path.{◌≡◌, ap, ◌∙◌}
use mathlib.Core.Bool.{true, false, not}
use mathlib.Core.List.{List}
use Prim.Native.Nat.{ℕ, ◌+◌, ◌*◌, ◌≤◌, ◌<◌}
use lib.ListN.{length}
use borrow.Author.Tests.{lt-ltb, le-ltb, le-leb, lt-leb, ltb-false, leb-false, not-false}
use Rattle.numbers.specs.Tables.{is_kind}
use Rattle.tape_read.specs.Entries.{Entry, block_size, blocks_most, payload_most}
use Rattle.tape_write.specs.Appending.{refusal_of}
use Rattle.tape_read.proofs.Extra.{first_hit, first_skip, first_end, first_none}

-- what an entry that is taken fulfils
pub record Taken (used : ℕ) (e : Entry) (t : List ℕ) : Type 0 where
  pub kind : is_kind e.kind ≡ true
  pub fits : length e.payload ≤ payload_most
  pub blocks : used < blocks_most
  pub room : used * block_size + block_size ≤ length t

module _ (used : ℕ) (e : Entry) (t : List ℕ) where
  pub refused_kind : is_kind e.kind ≡ false → refusal_of used e t ≡ 7
  unfolding refusal_of
  refused_kind kind = first_hit _ _ _ (ap not kind)

  pub taken : refusal_of used e t ≡ 0 → Taken used e t
  unfolding refusal_of
  taken h =
      let kind = first_none _ 6 _ h in
      let fits = first_none _ 6 _ kind.1 in
      let blocks = first_none _ 7 _ fits.1 in
      let room = first_none _ 7 _ blocks.1 in
      record {
        kind = not-false _ kind.0;
        fits = ltb-false _ _ fits.0;
        blocks = leb-false _ _ blocks.0;
        room = ltb-false _ _ room.0;
      }

  module _ (kind : is_kind e.kind ≡ true) where
    pub refused_payload : payload_most < length e.payload → refusal_of used e t ≡ 7
    unfolding refusal_of
    refused_payload long = first_skip _ _ _ (ap not kind) ∙ first_hit _ _ _ (lt-ltb _ _ long)

    module _ (fits : length e.payload ≤ payload_most) where
      pub refused_blocks : blocks_most ≤ used → refusal_of used e t ≡ 8
      unfolding refusal_of
      refused_blocks full = first_skip _ _ _ (ap not kind) ∙ (first_skip _ _ _ (le-ltb _ _ fits) ∙ first_hit _ _ _ (le-leb _ _ full))

      module _ (blocks : used < blocks_most) where
        pub refused_room_lem : length t < used * block_size + block_size → refusal_of used e t ≡ 8
        unfolding refusal_of
        refused_room_lem short =
            first_skip _ _ _ (ap not kind)
            ∙ (first_skip _ _ _ (le-ltb _ _ fits) ∙ (first_skip _ _ _ (lt-leb _ _ blocks) ∙ first_hit _ _ _ (lt-ltb _ _ short)))

        pub not_refused : used * block_size + block_size ≤ length t → refusal_of used e t ≡ 0
        unfolding refusal_of
        not_refused room =
            first_skip _ _ _ (ap not kind)
            ∙ (first_skip _ _ _ (le-ltb _ _ fits)
            ∙ (first_skip _ _ _ (lt-leb _ _ blocks) ∙ (first_skip _ _ _ (le-ltb _ _ room) ∙ first_end)))
