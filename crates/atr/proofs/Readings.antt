-- A reading from the set of the rules that are broken: accepted where it is empty; else refused with its first rule and that
-- rule's place.
-- Assumes nothing.
use mathlib.Core.Path.{◌≡◌, sym, ap, ap₂, ◌∙◌}
use mathlib.Core.Bool.{Bool}
use mathlib.Core.List.{List}
use Prim.Native.Nat.{ℕ}
use Rattle.std.proofs.Common.{Result, Ok, Err}
use Rattle.slices.proofs.Choice.{pick_yes, pick_no}
use Rattle.atr_characters.specs.Data.{data_of}
use Rattle.atr_characters.specs.Located.{located_of}
use Rattle.atr_characters.specs.declared.Located.{Located}
use Rattle.atr_rules.specs.Names.{numbers}
use Rattle.atr_rules.specs.Lines.{lines_of, set_of}
use Rattle.atr_sets.specs.Sets.{lowest, place_of}
use Rattle.atr_sets.proofs.Firsts.{none_set, some_set}
use Rattle.atr_sets.proofs.Rules.{first_found, place_found}
use Rattle.atr.specs.Reading.{is_inverse, ts_broken, told_of, reading_of, rules_of, read_reset}
use Rattle.atr.specs.declared.Reset.{Reset}
use Rattle.atr.specs.declared.Told.{Told}
use Rattle.atr.specs.declared.Broken.{Broken}

module _ (ts : Bool) (l : Located) (warm : Bool) where
  accepted : set_of (lines_of ts l warm) ≡ 0 → Ok (told_of l) ≡ reading_of (lines_of ts l warm) l
  unfolding reading_of
  accepted e = sym (pick_no _ _ _ (none_set (lines_of ts l warm) e))

  refused : (rules first place : ℕ) → rules ≡ set_of (lines_of ts l warm) → (rules ≡ 0 → ⊥)
      → first ≡ lowest numbers 1 rules → place ≡ place_of l first
      → Err (record { rules = rules; first = first; place = place }) ≡ reading_of (lines_of ts l warm) l
  unfolding reading_of
  refused rules first place r some f p =
      let number = f ∙ (ap (lowest numbers 1) r ∙ first_found ts l warm) in
      let at = p ∙ (ap (place_of l) number ∙ place_found ts l warm) in
      rw (at, number, r) (sym (pick_yes _ _ _ (some_set (lines_of ts l warm) (λ e. some (r ∙ e)))))

-- the answer, from what was found of the capture
module _ (capture : List ℕ) (warm inverse ts : Bool) (l : Located)
    (i : inverse ≡ is_inverse capture) (at : l ≡ located_of (data_of inverse capture)) (t : ts ≡ ts_broken capture) where
  located : l ≡ located_of (data_of (is_inverse capture) capture)
  located = at ∙ ap (λ (v : Bool). located_of (data_of v capture)) i

  same_rules : lines_of ts l warm ≡ rules_of capture warm
  unfolding rules_of
  same_rules = ap₂ (λ (v : Bool) (m : Located). lines_of v m warm) t located

  answer : (reading : Result Told Broken) → reading ≡ reading_of (lines_of ts l warm) l
      → ◌≡◌ {A = Reset} (record { inverse = inverse; reading = reading }) (read_reset capture warm)
  unfolding read_reset
  answer reading e = let r = e ∙ ap₂ reading_of same_rules located in rw (r, i)

  module _ (rules : ℕ) (r : rules ≡ set_of (lines_of ts l warm)) where
    pub accepted_answer : (told : Told) → told ≡ told_of l → rules ≡ 0
        → ◌≡◌ {A = Reset} (record { inverse = inverse; reading = Ok told }) (read_reset capture warm)
    accepted_answer told e none = answer (Ok told) (ap Ok e ∙ accepted ts l warm (sym r ∙ none))

    pub refused_answer_lem : (first place : ℕ) → (rules ≡ 0 → ⊥) → first ≡ lowest numbers 1 rules → place ≡ place_of l first
        → ◌≡◌ {A = Reset}
        (record { inverse = inverse; reading = Err (record { rules = rules; first = first; place = place }) })
        (read_reset capture warm)
    refused_answer_lem first place some f p = answer _ (refused ts l warm rules first place r some f p)
