-- What is known of the terminal data that a valid START hands over: it is the reading of as many bytes as START can have, every field
-- has its length, and every number is in its range. Each fact is one of the tests that the START passed. A START that begins a session
-- is a valid one of the longest.
-- Assumes nothing.
use mathlib.Core.Path.{◌≡◌}
use mathlib.Core.Bool.{true, false}
use mathlib.Core.List.{List, [], ◌∷◌}
use mathlib.Core.Logic.{◌⊎◌, inl, inr}
use mathlib.Core.Option.{some, none, some-injective, none-ne-some}
use Prim.Native.Nat.{ℕ, ◌+◌, ◌≤◌, ◌<◌}
use native.Mathlib.Omega.{arith}
use lib.Dec.{leb, ltb, eqb}
use lib.ListN.{length, get_or, length-take, length-drop}
use borrow.Author.Tests.{leb-true, ltb-true, eqb-true}
use Rattle.slices.proofs.Choice.{pick_yes, pick_no, picked}
use Rattle.start_fields.specs.declared.fields.Field.{Field}
use Rattle.start_fields.specs.declared.fields.Field.TheVariants.{Amount, OtherAmount, FloorLimit, Capabilities}
use Rattle.slices.specs.Tests.{between}
use Rattle.start_fields.specs.Layout.{begin_of, size_of, start_length, full_length}
use Rattle.start_fields.specs.Reading.{Terminal, reading_of, bytes_of, amount_of}
use Rattle.start_fields.specs.Reading.{other_amount_of, floor_limit_of, threshold_of, aid_length_in}
use Rattle.start_valid.specs.Start.{start_tests, valid_kind, valid_digits, valid_random, valid_percentages}
use Rattle.start_valid.specs.Start.{valid_threshold, valid_aid, valid_start, terminal_of, begins_session}
use Rattle.slices.proofs.Tests.{each_held}
use Rattle.start_fields.proofs.Reading.{short_read, all_read, between_lengths, all_or_none}
use Rattle.decimal_dates.proofs.Digits.{digits_split, twelve_digits}

pub accepted : (s : List ℕ) → valid_start s ≡ true → terminal_of s ≡ some (reading_of s)
unfolding terminal_of
accepted s e = pick_yes _ _ _ e

pub turned_away : (s : List ℕ) → valid_start s ≡ false → terminal_of s ≡ none
unfolding terminal_of
turned_away s e = pick_no _ _ _ e

-- a terminal's data come from a valid START, and are its reading
pub handed_over : (s : List ℕ) (t : Terminal) → terminal_of s ≡ some t → (valid_start s ≡ true) × (reading_of s ≡ t)
unfolding terminal_of
handed_over s t =
    picked
    (λ o. o ≡ some t → (valid_start s ≡ true) × (reading_of s ≡ t))
    (valid_start s)
    (some (reading_of s))
    none
    (λ e q. (e, some-injective _ _ q))
    (λ e q. absurd (none-ne-some t q))

-- what a valid START's data keep to
pub record Ranges (t : Terminal) : Type 0 where
  pub kind : t.kind ≤ 2
  pub amount : amount_of t ≤ 999999999999
  pub other_amount : other_amount_of t ≤ 999999999999
  pub floor_limit : floor_limit_of t ≤ 999999999999
  pub random : (1 ≤ t.random) × (t.random ≤ 99)
  pub target : t.target ≤ t.maximum
  pub maximum : t.maximum ≤ 99
  pub threshold : (threshold_of t ≡ 0) ⊎ (threshold_of t < floor_limit_of t)
  pub bytes : (f : Field) → begin_of f + size_of f ≤ start_length → length (bytes_of f t) ≡ size_of f
  -- the one field behind the 74 bytes
  pub capabilities : (t.capabilities ≡ none) ⊎ (length (bytes_of Capabilities t) ≡ size_of Capabilities)
  pub aid : (5 ≤ length t.aid) × (length t.aid ≤ 16)

bounds : (low high n : ℕ) → between low high n ≡ true → (low ≤ n) × (n ≤ high)
unfolding between
bounds low high n e = let held = each_held (leb low n ∷ leb n high ∷ []) e in (leb-true low n (held 0), leb-true n high (held 1))

zero_or_below : (t : Terminal) → valid_threshold t ≡ true → (threshold_of t ≡ 0) ⊎ (threshold_of t < floor_limit_of t)
unfolding valid_threshold
zero_or_below t =
    picked
    (λ b. b ≡ true → (threshold_of t ≡ 0) ⊎ (threshold_of t < floor_limit_of t))
    (eqb (threshold_of t) 0)
    true
    (ltb (threshold_of t) (floor_limit_of t))
    (λ e q. inl (eqb-true _ _ e))
    (λ e q. inr (ltb-true _ _ q))

module _ (s : List ℕ) (valid : valid_start s ≡ true) where
  -- the tests that it passed, by their places in 01's order
  test : (k : ℕ) → get_or (start_tests s) k true ≡ true
  unfolding valid_start
  test k = each_held (start_tests s) valid k

  pub valid_least : start_length ≤ length s
  valid_least = (between_lengths (length s) (test 0)).0

  pub valid_length : length s ≤ full_length
  valid_length = (between_lengths (length s) (test 0)).1

  percentages : ((reading_of s).target ≤ (reading_of s).maximum) × ((reading_of s).maximum ≤ 99)
  unfolding valid_percentages
  percentages =
      let held = each_held _ (test 5) in
      (leb-true (reading_of s).target (reading_of s).maximum (held 0), leb-true (reading_of s).maximum 99 (held 1))

  -- the numbers of twelve digits
  amounts : (amount_of (reading_of s) ≤ 999999999999) × (other_amount_of (reading_of s) ≤ 999999999999)
      × (floor_limit_of (reading_of s) ≤ 999999999999)
  unfolding valid_digits reading_of
  amounts =
      let held = each_held _ (test 2) in
      let first = digits_split 6 14 1 s (held 0) in
      let second = digits_split 6 8 7 s first.1 in (
        twelve_digits _ (short_read Amount s) first.0,
        twelve_digits _ (short_read OtherAmount s) second.0,
        twelve_digits _ (short_read FloorLimit s) (held 1),
      )

  aid_size : (5 ≤ length (reading_of s).aid) × (length (reading_of s).aid ≤ 16)
  unfolding valid_aid reading_of
  aid_size =
      let size = bounds 5 16 (aid_length_in s) (each_held _ (test 7) 0) in
      simp (length-take, length-drop) (omega (arith, valid_least))

  pub in_range : Ranges (reading_of s)
  unfolding valid_kind valid_random
  in_range =
      record {
        kind = leb-true _ _ (test 1);
        amount = amounts.0;
        other_amount = amounts.1;
        floor_limit = amounts.2;
        random = bounds _ _ _ (test 4);
        target = percentages.0;
        maximum = percentages.1;
        threshold = zero_or_below _ (test 6);
        bytes = λ f h. all_read f s (omega (arith, valid_least));
        capabilities = all_or_none s (test 0);
        aid = aid_size;
      }

module _ (s : List ℕ) (begins : begins_session s ≡ true) where
  pub begins_full : length s ≡ full_length
  unfolding begins_session
  begins_full = eqb-true _ _ (each_held _ begins 0)

  pub begins_valid : valid_start s ≡ true
  unfolding begins_session
  begins_valid = each_held _ begins 1
