-- A pair for each name of the rules' own lists, in their order, and the dressed session, as Theorem of specs/ states it.
-- Assumes nothing.
use mathlib.Core.List.{List, [], ◌∷◌, ◌++◌}
use Prim.Native.Nat.{ℕ}
use Rattle.answer_common.specs.Content.{record_names}
use Rattle.answer_common.proofs.Present.{Each, by_name}
use Rattle.answer_gpo.specs.Options.{option_names}
use Rattle.answer_select.specs.Select.{inner_names}
use Rattle.answer_cryptogram.specs.Cryptogram.{cryptogram_names}
use Rattle.card_worked.specs.Matters.{Matters}
use Rattle.card_worked.specs.Theorem.{every_name, by_value, Worked}
use Rattle.card_worked.proofs.Early.{name_counts, template_counts, list_counts, profile_counts, locator_counts}
use Rattle.card_worked.proofs.Records.{each_counts}
use Rattle.card_worked.proofs.Cryptograms.{information_counts, counter_counts, cryptogram_counts, issuer_counts}
use Rattle.card_worked.proofs.Dressed.{whole_pair}

abbrev Counts : ℕ → Type 0
Counts name = (reason : ℕ) × Matters name reason

abbrev ByValue : ℕ → Type 0
ByValue name = Matters name 0

-- of names and of more
also : (P : ℕ → Type 0) (ns ms : List ℕ) → Each P ns → Each P ms → Each P (ns ++ ms)
also P [] ms a b = b
also P (n ∷ ns) ms a b = (a.0, also P ns ms a.1 b)

counted : (ns : List ℕ) → Each ByValue ns → Each Counts ns
counted [] a = tt
counted (n ∷ ns) a = ((0, a.0), counted ns a.1)

-- those of SELECT's inner template, of GPO and of records
abbrev middle_names : List ℕ
middle_names = inner_names ++ (option_names ++ record_names)

middle : Each ByValue middle_names
middle = (list_counts, (profile_counts, (locator_counts, each_counts)))

pub theorem : Worked
theorem = record {
  every = by_name Counts every_name (
    (5, name_counts),
    (
      (8, template_counts),
      also Counts middle_names cryptogram_names (counted middle_names middle)
          ((0, information_counts), ((5, counter_counts), ((5, cryptogram_counts), ((5, issuer_counts), tt)))),
    ),
  );
  by_value_lem = by_name ByValue by_value (also ByValue middle_names (0x9F27 ∷ []) middle (information_counts, tt));
  dressed = whole_pair;
}
