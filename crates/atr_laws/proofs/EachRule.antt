-- Each rule by name is broken by a capture of its own, and by that capture no other rule is; and where LONG stands beside others.
-- Computed.
-- Assumes nothing.
use mathlib.Core.Path.{◌≡◌, refl}
use mathlib.Core.Bool.{false}
use mathlib.Core.List.{[], ◌∷◌, map}
use Rattle.std.proofs.Common.{Err}
use Prim.Native.Nat.{◌+◌, ◌-◌, ◌^◌}
use Rattle.slices.specs.Choice.{pick}
use Rattle.slices.specs.Tables.{any_of}
use Rattle.atr_table.specs.Turning.{opposite, turned}
use Rattle.atr_characters.specs.Data.{data_byte, data_of, joined_from}
use Rattle.atr_characters.specs.Levels.{found_at, level_of, first_of, after_of, walked, interface_of}
use Rattle.atr_characters.specs.Located.{historical_end, located_of}
use Rattle.atr_rules.specs.Lines.{is_long, first_lines, second_lines, third_lines, last_lines, lines_of, set_of, first_broken}
use Rattle.atr.specs.Reading.{is_inverse, ts_broken, reading_of, rules_of, read_reset}
use Rattle.atr_laws.specs.Broken.{Breaking, each_rule, long_behind, long_and_cut}

all_of_them : map (λ (b : Breaking). b.rule) each_rule
    ≡ 1 ∷ 2 ∷ 3 ∷ 4 ∷ 5 ∷ 6 ∷ 7 ∷ 8 ∷ 9 ∷ 10 ∷ 11 ∷ 12 ∷ 13 ∷ 14 ∷ 15 ∷ 16 ∷ 17 ∷ 18 ∷ 19 ∷ 20 ∷ 21 ∷ []
all_of_them = refl

-- the set has that rule's bit alone; it is the first, and its place is told
each_alone : map (λ (b : Breaking). (read_reset b.capture false).reading) each_rule
    ≡ map (λ (b : Breaking). Err (record { rules = 2 ^ (b.rule - 1); first = b.rule; place = b.place })) each_rule
unfolding opposite turned data_byte data_of joined_from found_at level_of first_of after_of walked interface_of historical_end located_of
    is_long first_lines second_lines third_lines last_lines lines_of set_of first_broken is_inverse ts_broken reading_of rules_of
    read_reset pick any_of
each_alone = refl

-- EXTRA stands at 3 and LONG behind it
long_behind_lem : (read_reset long_behind false).reading ≡ Err (record { rules = 2 ^ 20 + 2 ^ 21; first = 21; place = 3 })
unfolding opposite turned data_byte data_of joined_from found_at level_of first_of after_of walked interface_of historical_end located_of
    is_long first_lines second_lines third_lines last_lines lines_of set_of first_broken is_inverse ts_broken reading_of rules_of
    read_reset pick any_of
long_behind_lem = refl

-- LONG stands at 33, and CUT behind it
long_and_cut_lem : (read_reset long_and_cut false).reading ≡ Err (record { rules = 2 ^ 15 + 2 ^ 16; first = 16; place = 33 })
unfolding opposite turned data_byte data_of joined_from found_at level_of first_of after_of walked interface_of historical_end located_of
    is_long first_lines second_lines third_lines last_lines lines_of set_of first_broken is_inverse ts_broken reading_of rules_of
    read_reset pick any_of
long_and_cut_lem = refl
