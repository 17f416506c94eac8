-- The answer to READ RECORD: its reason and what it tells, from what is seen of it.
-- Assumes nothing.
use mathlib.Core.Path.{◌≡◌, refl, sym, ap, ap₂}
use mathlib.Core.Bool.{Bool, true, ◌||◌}
use mathlib.Core.List.{List, [], ◌∷◌, ◌++◌}
use mathlib.Core.Option.{Option, none}
use Prim.Native.Nat.{ℕ}
use Rattle.slices.specs.Choice.{pick, first_of}
use Rattle.slices.proofs.Choice.{pick_cong}
use Rattle.slices.proofs.Lines.{one_more_lem}
use Rattle.answer_common.specs.Answer.{inside}
use Rattle.answer_common.specs.Content.{record_tag}
use Rattle.answer_common.specs.Named.{members_in, listed, among, direct, times, told, any_twice, any_wrong}
use Rattle.answer_common.proofs.Alike.{any_alike, times_alike, wrong_alike}
use Rattle.answer_record.specs.Records.{again, any_again, record_twice, record_lines, record_reason, value_in, named_in}
use Rattle.card_seen.specs.Seen.{names_at, objects_at, named_at, reading, Shown, Seen, seen, expected_at}
use Rattle.card_seen.proofs.Looking.{under, look_named}
use Rattle.card_seen.proofs.Frames.{frame_by, lines_seen}

unfoldable pub record_by : List ℕ → (ℕ → Bool) → Seen → ℕ
record_by names before v =
    let look = under v.objects in
    first_of (frame_by v ++ ((any_twice names look || any_again before names look, 4) ∷ (any_wrong names look, 5) ∷ []))

unfoldable pub named_by : List ℕ → Seen → ℕ → Option (List ℕ)
named_by names v name = pick (listed name names) (told (under v.objects name)) none

module _ (names a : List ℕ) where
  abbrev ts : List Shown
  ts = named_at (reading names) a

  in_record_lem : (name : ℕ) → listed name names ≡ true → direct record_tag a name ≡ under ts name
  unfolding direct among named_at names_at objects_at
  in_record_lem name l = sym (look_named names name l (members_in (inside record_tag a)))

  pub told_seen : (name : ℕ) → named_in names name a ≡ named_by names (seen (reading names) a) name
  unfolding named_in named_by value_in seen
  told_seen name = pick_cong (listed name names) _ _ none none (λ l. ap told (in_record_lem name l)) (λ n. refl)

  pub record_seen : (before : ℕ → Bool) → record_reason names before a ≡ record_by names before (seen (reading names) a)
  unfolding record_reason record_lines record_twice any_again record_by seen expected_at
  record_seen before =
      lines_seen (reading names) a _ _
      (one_more_lem 4 _ _
      (ap₂ ◌||◌ (times_alike names _ _ 2 (λ name l. ap times (in_record_lem name l)))
      (any_alike _ _ names (λ name l. ap (again (before name)) (in_record_lem name l))))
      (one_more_lem 5 [] [] (wrong_alike names _ _ in_record_lem) refl))
