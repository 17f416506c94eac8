-- Which number a call is turned away with, line by line of 01's table: an earlier line is given whatever the later ones say.
-- Assumes nothing.
use mathlib.Core.Path.{◌≡◌, refl, ap, ◌∙◌}
use mathlib.Core.Bool.{Bool, true, false, not, ◌&&◌}
use mathlib.Core.List.{List}
use Prim.Native.Nat.{ℕ, ◌≤◌, ◌<◌}
use lib.Dec.{eqb}
use lib.ListN.{length}
use borrow.Author.Tests.{lt-ltb, le-ltb}
use Rattle.slices.specs.Choice.{first_of}
use Rattle.slices.proofs.Choice.{pick_yes, pick_no}
use Rattle.start_valid.specs.Start.{begins_session}
use Rattle.numbers.specs.Tables.{start, answer, silence}
use Rattle.tape_read.specs.Entries.{Entry, entry}
use Rattle.commands.specs.Commands.{longest}
use Rattle.session_phase.specs.Waiting.{awaited, is_over}
use Rattle.session_phase.specs.Saying.{allowed_by, refusal_by}
use Rattle.session_phase.specs.declared.Speaker.{Speaker}
use Rattle.session_phase.specs.declared.Waiting.{Waiting}
use Rattle.session_phase.specs.declared.Waiting.TheVariants.{ForWord}
use Rattle.kernel_refusals.specs.Refusals.{is_due, start_bad, answer_bad, word_lines, refusal_lines, call_refusal}

module _ (waiting : Waiting) (buf : List ℕ) where
  -- 1, whatever the session and the event
  pub short_buffer : (e : Entry) → length buf < longest → call_refusal waiting e buf ≡ 1
  unfolding call_refusal refusal_lines first_of
  short_buffer e h = pick_yes _ _ _ (lt-ltb (length buf) longest h)

  module _ (room : longest ≤ length buf) where
    -- 2, whatever the event
    pub session_over : (e : Entry) → is_over waiting ≡ true → call_refusal waiting e buf ≡ 2
    unfolding call_refusal refusal_lines first_of
    session_over e h = pick_no _ _ _ (le-ltb (length buf) longest room) ∙ pick_yes _ _ _ h

    module _ (goes : is_over waiting ≡ false) where
      -- 3, in turn or not; then 4
      pub start_invalid : (b : List ℕ) → begins_session b ≡ false → call_refusal waiting (entry start b) buf ≡ 3
      unfolding call_refusal refusal_lines first_of start_bad
      start_invalid b h = pick_no _ _ _ (le-ltb (length buf) longest room) ∙ (pick_no _ _ _ goes ∙ pick_yes _ _ _ (ap not h))

      -- 4, whatever the event's own line says, but after 3
      pub not_due : (e : Entry) → start_bad e ≡ false → is_due waiting e ≡ false → call_refusal waiting e buf ≡ 4
      unfolding call_refusal refusal_lines first_of
      not_due e s h =
          pick_no _ _ _ (le-ltb (length buf) longest room) ∙ (pick_no _ _ _ goes ∙ (pick_no _ _ _ s ∙ pick_yes _ _ _ (ap not h)))

      module _ (e : Entry) (s : start_bad e ≡ false) (d : is_due waiting e ≡ true) where
        pub answer_long : answer_bad e ≡ true → call_refusal waiting e buf ≡ 5
        unfolding call_refusal refusal_lines first_of
        answer_long h =
            pick_no _ _ _ (le-ltb (length buf) longest room)
            ∙ (pick_no _ _ _ goes ∙ (pick_no _ _ _ s ∙ (pick_no _ _ _ (ap not d) ∙ pick_yes _ _ _ h)))

        -- the number of the word that is due: 6 for HOST, 12 for the results
        pub not_sayable : (speaker : Speaker) → waiting ≡ ForWord speaker → answer_bad e ≡ false → allowed_by speaker e.payload ≡ false
            → call_refusal waiting e buf ≡ refusal_by speaker
        unfolding call_refusal refusal_lines word_lines first_of
        not_sayable speaker k a h =
            pick_no _ _ _ (le-ltb (length buf) longest room)
            ∙ (pick_no _ _ _ goes
            ∙ (pick_no _ _ _ s
            ∙ (pick_no _ _ _ (ap not d)
            ∙ (pick_no _ _ _ a
            ∙ (ap (λ (w : Waiting). first_of (word_lines w e.payload)) k ∙ pick_yes _ _ _ (ap not h))))))

-- a silence is turned away wherever no answer is due
pub silence_not_due : (waiting : Waiting) (p : List ℕ) → eqb (awaited waiting) answer ≡ false → is_due waiting (entry silence p) ≡ false
unfolding is_due
silence_not_due waiting p h = pick_yes _ _ _ refl ∙ ap (λ (t : Bool). t && eqb (length p) 0) h
