-- Where a session begins: nothing is told, and the slots of zeros say so.
-- Assumes nothing.
use mathlib.Core.Path.{◌≡◌, sym, ap, ◌∙◌}
use mathlib.Core.List.{List, []}
use mathlib.Core.Option.{none}
use Prim.Native.Nat.{ℕ}
use Rattle.slices.specs.Writing.{laid, zeros}
use Rattle.slices.proofs.Writing.{zeros_length}
use Rattle.start_fields.specs.Reading.{reading_of}
use Rattle.answer_gpo.specs.Options.{options_reason, profile_of}
use Rattle.answer_laws.proofs.AcceptedAnswers.{options_profile}
use Rattle.session_records.specs.Slots.{end, told_in, empty_store, told}
use Rattle.session_records.proofs.Keeping.{full_all}
use Rattle.session_records.proofs.There.{fixed_all}
use Rattle.session_state.proofs.Telling.{nothing_told}
use Rattle.rulebook.specs.Situation.{Situation, begun, known_in}
use Rattle.rulebook.specs.Turn.{with_profile}
use Rattle.quick_ask.specs.Standing.{situation_in}
use Rattle.quick_ask.specs.Known.{known_early}
use Rattle.quick_ask.proofs.Knowing.{early_known}

nothing : told_in (zeros end) ≡ (λ tag. none)
unfolding told empty_store
nothing = ap told_in (sym (full_all (zeros end) (zeros_length end))) ∙ nothing_told

module _ (start : List ℕ) where
  begun_as_lem : situation_in start (zeros end) [] (zeros 5) (zeros 2) ≡ begun (reading_of start)
  unfolding begun
  begun_as_lem = λ i. record { terminal = reading_of start; profile = []; facts = nothing i; tvr = zeros 5; tsi = zeros 2 }

  -- what an object list is filled from before the answer to GPO
  pub begun_known : told_in (known_early (zeros end) (zeros 5) (zeros 2)) ≡ known_in (begun (reading_of start)) none
  begun_known =
      early_known start (zeros end) (zeros 5) (zeros 2) (zeros_length end) (zeros_length 5) (zeros_length 2)
      ∙ ap (λ (s : Situation). known_in s none) begun_as_lem

  -- the AIP, once it was read
  pub options_as : (a aip : List ℕ) → options_reason a ≡ 0 → aip ≡ laid (profile_of a) 0 (zeros 2)
      → situation_in start (zeros end) aip (zeros 5) (zeros 2) ≡ with_profile (begun (reading_of start)) (profile_of a)
  unfolding begun with_profile
  options_as a aip good e =
      let pair = e ∙ fixed_all 2 (profile_of a) (options_profile a good) in
      λ i. record { terminal = reading_of start; profile = pair i; facts = nothing i; tvr = zeros 5; tsi = zeros 2 }
