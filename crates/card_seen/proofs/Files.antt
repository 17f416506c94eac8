-- What a SELECT is answered with, one 6F with 84 and A5 in it: what stands under 84, how often 84 and A5 stand there, and what stands in
-- A5 under the names that count there, from what is seen of it. Whichever names these are: those of 01's SELECT, the environment's, an
-- application's.
-- Assumes nothing.
use mathlib.Core.Path.{◌≡◌, refl, sym, ap, ◌∙◌}
use mathlib.Core.Bool.{true}
use mathlib.Core.List.{List, [], ◌∷◌}
use Prim.Native.Nat.{ℕ}
use Rattle.slices.specs.Choice.{pick}
use Rattle.slices.specs.Tables.{any_of, beside}
use Rattle.tlv_list.specs.Lookup.{Lookup, lookup}
use Rattle.answer_common.specs.Answer.{inside}
use Rattle.answer_common.specs.Named.{members_in, listed, among, direct, times, value_of}
use Rattle.answer_select.specs.Select.{select_tag, select_names, inner}
use Rattle.card_seen.specs.Seen.{Counts, whole, within, Shown, shown}
use Rattle.card_seen.proofs.Looking.{under, members_under, look_whole, look_times, look_within, lookup_named}

unfoldable pub inner_by : List Shown → ℕ → Lookup
inner_by ts name = lookup name (members_under 0xA5 ts)

module _ (names a : List ℕ) where
  abbrev table : List (ℕ × Counts)
  table = (0x84, whole) ∷ (0xA5, within names) ∷ []

  abbrev ts : List Shown
  ts = shown table (members_in (inside select_tag a))

  pub as_often : (name : ℕ) → listed name select_names ≡ true → times (direct select_tag a name) ≡ times (under ts name)
  unfolding direct among
  as_often name l = sym (look_times table name l (members_in (inside select_tag a)))

  pub name_seen : direct select_tag a 0x84 ≡ under ts 0x84
  unfolding direct among listed any_of beside pick
  name_seen = sym (look_whole table 0x84 refl refl (members_in (inside select_tag a)))

  pub inner_seen : (name : ℕ) → listed name names ≡ true → inner a name ≡ inner_by ts name
  unfolding inner inner_by direct among listed any_of beside pick
  inner_seen name l =
      sym (lookup_named names name l (members_in (value_of (lookup 0xA5 (members_in (inside select_tag a))))))
      ∙ ap (lookup name) (sym (look_within table 0xA5 names refl refl (members_in (inside select_tag a))))
