-- Where every tag that a list asks for is supplied, nothing is counted.
-- Assumes nothing.
use mathlib.Core.Path.{◌≡◌, refl, ap₂}
use mathlib.Core.Bool.{true}
use mathlib.Core.List.{List, [], ◌∷◌}
use mathlib.Core.Option.{Option, none, some}
use Prim.Native.Nat.{ℕ, ◌+◌}
use Rattle.slices.specs.Tests.{is_some}
use Rattle.slices.proofs.Choice.{pick_yes, picked}
use Rattle.start_fields.specs.Reading.{Terminal}
use Rattle.facts.specs.Facts.{Facts}
use Rattle.dol_wanted.specs.Wanted.{Wanted, entries_of, fillable}
use Rattle.dol_values.specs.Known.{supplied}
use Rattle.dol_fill.specs.Filled.{missing, missing_in, missing_by, unsupplied}

module _ (t : Terminal) (k : Facts) where
  -- every entry's tag is supplied
  abbrev pub AllSupplied : List Wanted → Type 0
  AllSupplied [] = Unit {0}
  AllSupplied (w ∷ ws) = (is_some (supplied t k w.tag) ≡ true) × AllSupplied ws

  abbrev pub Supplied : Option (List Wanted) → Type 0
  Supplied none = Unit {0}
  Supplied (some ws) = AllSupplied ws

  not_missing : (tag : ℕ) → is_some (supplied t k tag) ≡ true → missing t k tag ≡ 0
  unfolding missing
  not_missing tag y = pick_yes _ _ _ y

  none_missing : (ws : List Wanted) → AllSupplied ws → missing_in t k ws ≡ 0
  unfolding missing_in
  none_missing [] all = refl
  none_missing (w ∷ ws) all = ap₂ ◌+◌ (not_missing w.tag all.0) (none_missing ws all.1)

  by_entries : (o : Option (List Wanted)) → Supplied o → missing_by t k o ≡ 0
  unfolding missing_by
  by_entries none all = refl
  by_entries (some ws) all = none_missing ws all

  pub all_supplied : (list : List ℕ) → Supplied (entries_of list) → unsupplied t k list ≡ 0
  unfolding unsupplied
  all_supplied list all = picked (λ (n : ℕ). n ≡ 0) (fillable list) _ _ (λ y. by_entries (entries_of list) all) (λ n. refl)
