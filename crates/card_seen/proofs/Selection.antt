-- The answer to SELECT: its reason and 9F38, from what is seen of it.
-- Assumes nothing.
use mathlib.Core.Path.{◌≡◌, refl, sym, ap, ap₂, ◌∙◌}
use mathlib.Core.Bool.{Bool, true, false, not, ◌||◌}
use mathlib.Core.List.{List, [], ◌∷◌, ◌++◌}
use Prim.Native.Nat.{ℕ}
use Rattle.slices.specs.Choice.{pick, first_of}
use Rattle.slices.specs.Tables.{any_of, beside}
use Rattle.slices.proofs.Lines.{one_more_lem}
use Rattle.tlv_list.specs.Lookup.{Lookup, absent, once, twice}
use Rattle.start_fields.specs.Reading.{Terminal}
use Rattle.dol_wanted.specs.Wanted.{fillable}
use Rattle.answer_common.specs.Content.{meets, rules, rule_for, right_value}
use Rattle.answer_common.specs.Named.{listed, direct, times, value_of, wrong_value, any_twice, any_missing, any_wrong}
use Rattle.answer_common.proofs.Alike.{times_alike, wrong_alike}
use Rattle.answer_select.specs.Select.{select_tag, select_names, inner_names, inner, pdol_of, name_wrong}
use Rattle.answer_select.specs.Select.{select_twice, select_wrong, select_lines, select_reason}
use Rattle.card_seen.specs.Seen.{names_at, objects_at, named_at, selection, Shown, Seen, seen, expected_at}
use Rattle.card_seen.proofs.Looking.{under}
use Rattle.card_seen.proofs.Files as File
use Rattle.card_seen.proofs.Files.{inner_by}
use Rattle.card_seen.proofs.Frames.{frame_by, lines_seen}

unfoldable pub pdol_by : Seen → List ℕ
pdol_by v = value_of (inner_by v.objects 0x9F38)

unfoldable pub select_by : List ℕ → Seen → ℕ
select_by aid v =
    let ts = v.objects in
    first_of (frame_by v
    ++ ((any_twice select_names (under ts) || any_twice inner_names (inner_by ts), 4)
    ∷ (any_wrong select_names (under ts) || (any_wrong inner_names (inner_by ts) || name_wrong aid (under ts 0x84)), 5)
    ∷ (any_missing select_names (under ts), 8)
    ∷ (not (fillable (value_of (inner_by ts 0x9F38))), 9)
    ∷ []))

-- a name without a rule is never wrong
free : (l : Lookup) → wrong_value 0xA5 l ≡ false
unfolding wrong_value right_value rule_for rules beside pick meets
free absent = refl
free (once v) = refl
free twice = refl

module _ (a : List ℕ) where
  abbrev ts : List Shown
  ts = named_at selection a

  as_often : (name : ℕ) → listed name select_names ≡ true → times (direct select_tag a name) ≡ times (under ts name)
  unfolding named_at names_at objects_at
  as_often = File.as_often inner_names a

  name_seen : direct select_tag a 0x84 ≡ under ts 0x84
  unfolding named_at names_at objects_at
  name_seen = File.name_seen inner_names a

  inner_seen : (name : ℕ) → listed name inner_names ≡ true → inner a name ≡ inner_by ts name
  unfolding named_at names_at objects_at
  inner_seen = File.inner_seen inner_names a

  pub pdol_seen : pdol_of a ≡ pdol_by (seen selection a)
  unfolding pdol_of pdol_by seen listed any_of pick
  pdol_seen = ap value_of (inner_seen 0x9F38 refl)

  -- only 84 has a rule of the two names in 6F
  outer_wrong : any_wrong select_names (direct select_tag a) ≡ any_wrong select_names (under ts)
  unfolding any_wrong any_of
  outer_wrong =
      ap₂ (λ (x y : Bool). pick x true (pick y true false))
      (ap (wrong_value 0x84) name_seen)
      (free (direct select_tag a 0xA5) ∙ sym (free (under ts 0xA5)))

  pub select_seen : (t : Terminal) → select_reason t a ≡ select_by t.aid (seen selection a)
  unfolding select_reason select_lines select_twice select_wrong select_by pdol_by seen expected_at
  select_seen t =
      lines_seen selection a _ _
      (one_more_lem 4 _ _ (ap₂ ◌||◌ (times_alike select_names _ _ 2 as_often)
      (times_alike inner_names _ _ 2 (λ name l. ap times (inner_seen name l))))
      (one_more_lem 5 _ _ (ap₂ ◌||◌ outer_wrong (ap₂ ◌||◌ (wrong_alike inner_names _ _ inner_seen) (ap (name_wrong t.aid) name_seen)))
      (one_more_lem 8 _ _ (times_alike select_names _ _ 0 as_often)
      (one_more_lem 9 [] [] (ap (λ (v : List ℕ). not (fillable v)) pdol_seen) refl))))
