-- The kernel's step is the rulebook's `turn` beside what the state keeps of an answer, and both are settled by what is seen; the
-- refusals look at an answer's length alone. So two calls of whose answers the same is seen give the same in everything, and any number
-- of such calls.
-- Assumes nothing.
use mathlib.Core.Path.{◌≡◌, refl, sym, ap, ap₂, ◌∙◌}
use mathlib.Core.Bool.{Bool, ◌&&◌}
use mathlib.Core.List.{List, [], ◌∷◌}
use mathlib.Core.Logic.{◌⊎◌, inl, inr}
use Prim.Native.Nat.{ℕ, ◌≤◌}
use lib.Dec.{eqb}
use lib.ListN.{length}
use borrow.Author.Tests.{le-ltb}
use Rattle.slices.specs.Choice.{pick, first_of}
use Rattle.slices.proofs.Lines.{one_more_lem}
use Rattle.numbers.specs.Tables.{answer}
use Rattle.tape_read.specs.Entries.{entry, payload_most}
use Rattle.rulebook.specs.Phase.{Asked, Phase}
use Rattle.session_phase.specs.declared.Question.{Question}
use Rattle.session_phase.specs.declared.Waiting.{Waiting}
use Rattle.session_phase.specs.declared.Waiting.TheVariants.{ForCard}
use Rattle.session_state.specs.Reading.{asked_by}
use Rattle.session_state.specs.declared.State.{State}
use Rattle.session_moves.specs.Moves.{moved}
use Rattle.session_events.specs.Events.{answer_step, step_at, step}
use Rattle.kernel_refusals.specs.Refusals.{is_due, start_bad, answer_bad, word_lines, refusal_lines, call_refusal}
use Rattle.kernel.specs.declared.Session.{Session}
use Rattle.kernel.specs.Calls.{Called, accepted, taken, unless, call}
use Rattle.kernel_laws.specs.Log.{Call, made}
use Rattle.card_seen.specs.Seen.{seen}
use Rattle.card_seen.proofs.Turning.{settled}
use Rattle.card_influence.specs.Calls.{place_in, OtherAnswer, CallsAlike, all_given}
use Rattle.card_influence.proofs.Keeping.{keeping_settled}

module _ (s : Session) (question : Question) (due : s.state.waiting ≡ ForCard question) (a b buf : List ℕ)
    (short : length a ≤ payload_most) (short' : length b ≤ payload_most)
    (alike : seen (place_in s question) a ≡ seen (place_in s question) b) where
  abbrev w : Asked
  w = asked_by question s.state

  same_step : step s.state a buf ≡ step s.state b buf
  unfolding step step_at answer_step
  same_step =
      ap (λ (x : Waiting). step_at x s.state a buf) due
      ∙ (ap₂ (λ (p : Phase) (z : State). moved p z buf) (settled w a b alike) (keeping_settled w a b alike s.state)
      ∙ sym (ap (λ (x : Waiting). step_at x s.state b buf) due))

  same_length : answer_bad (entry answer a) ≡ answer_bad (entry answer b)
  unfolding answer_bad
  same_length =
      ap (λ (t : Bool). eqb answer answer && t) (le-ltb payload_most (length a) short ∙ sym (le-ltb payload_most (length b) short'))

  no_word : word_lines s.state.waiting a ≡ word_lines s.state.waiting b
  unfolding word_lines
  no_word = ap (λ (x : Waiting). word_lines x a) due ∙ sym (ap (λ (x : Waiting). word_lines x b) due)

  same_refusal : call_refusal s.state.waiting (entry answer a) buf ≡ call_refusal s.state.waiting (entry answer b) buf
  unfolding call_refusal refusal_lines is_due start_bad pick
  same_refusal =
      one_more_lem 1 _ _ refl
      (one_more_lem 2 _ _ refl (one_more_lem 3 _ _ refl (one_more_lem 4 _ _ refl (one_more_lem 5 _ _ same_length (ap first_of no_word)))))

  pub same_call : call s (entry answer a) buf ≡ call s (entry answer b) buf
  unfolding call taken pick
  same_call = λ i. unless (same_refusal i) s buf (accepted s.zeros (same_step i))

pub same_made : (s : Session) (c d : Call) → (c ≡ d) ⊎ OtherAnswer s c d → made s c ≡ made s d
unfolding made
same_made s c d (inl e) = ap (made s) e
same_made s c d (inr o) =
    ap (made s) o.first_call
    ∙ (same_call s o.question o.due o.one o.other c.buffer o.first_short o.second_short o.alike
    ∙ sym (ap (made s) o.second_call))

-- call by call, on whatever session
pub all_same : (s : Session) (cs ds : List Call) → CallsAlike s cs ds → all_given s cs ≡ all_given s ds
unfolding CallsAlike all_given
all_same s [] [] h = refl
all_same s [] (d ∷ ds) h = absurd h
all_same s (c ∷ cs) [] h = absurd h
all_same s (c ∷ cs) (d ∷ ds) h =
    let same = same_made s c d h.0 in
    ap₂ (λ (r : Called) (rs : List Called). r ∷ rs) same
    (all_same (made s c).session cs ds h.1 ∙ ap (λ (r : Called). all_given r.session ds) same)
