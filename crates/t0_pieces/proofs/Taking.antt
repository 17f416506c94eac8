-- A piece from a place on: where the exchange is closed or the piece has ended nothing more is taken; else one byte is, and it is
-- the last or the rest follows. Assumes nothing.
use mathlib.Core.Path.{◌≡◌, sym, ap, ap₂, ◌∙◌}
use mathlib.Core.Bool.{true, false}
use mathlib.Core.List.{List}
use Prim.Native.Nat.{ℕ, ◌+◌, ◌<◌, ◌≤◌}
use native.Mathlib.Numerals.{add-one}
use lib.ListN.{length, drop, get_or, drop_of_length-le}
use lib.Seq.{drop-cons}
use Rattle.slices.proofs.Choice.{pick_yes, pick_no}
use Rattle.t0.specs.Steps.{Stepped, step_of}
use Rattle.t0_pieces.specs.Pieces.{is_closed, waiting_in, is_quiet, here, ends, takes_from}
use Rattle.t0_state.specs.declared.State.{State}
use Rattle.std.specs.Prelude.{Result}
use Rattle.t0_state.specs.declared.Refusal.{Refusal}
use Rattle.t0_begin.specs.declared.Reply.{Reply}

module _ (s : State) (piece out answer : List ℕ) (i : ℕ) where
  pub taken_all_lem : length piece ≤ i → takes_from i s (drop i piece) out answer ≡ here i s out answer
  unfolding takes_from
  taken_all_lem h = ap (λ (l : List ℕ). takes_from i s l out answer) (drop_of_length-le piece h)

  module _ (h : i < length piece) where
    pub taken_closed : is_closed s ≡ true → takes_from i s (drop i piece) out answer ≡ here i s out answer
    unfolding takes_from
    taken_closed e = ap (λ (l : List ℕ). takes_from i s l out answer) (drop-cons piece i 0 h) ∙ pick_yes _ _ _ e

    -- the step on the byte at this place is r
    module _ (open' : is_closed s ≡ false) (r : Stepped) (e : r ≡ step_of s (get_or piece i 0) out answer) where
      pub taken_last : is_quiet r.reply ≡ false → takes_from i s (drop i piece) out answer ≡ ends (i + 1) r
      unfolding takes_from
      taken_last f =
          ap (λ (l : List ℕ). takes_from i s l out answer) (drop-cons piece i 0 h)
          ∙ (pick_no _ _ _ open'
          ∙ (pick_no _ _ _ (ap (λ (x : Stepped). is_quiet x.reply) (sym e) ∙ f) ∙ ap (ends (i + 1)) (sym e)))

      pub taken_on : is_quiet r.reply ≡ true
          → takes_from i s (drop i piece) out answer ≡ takes_from (i + 1) r.state (drop (i + 1) piece) r.out r.answer
      unfolding takes_from
      taken_on f =
          ap (λ (l : List ℕ). takes_from i s l out answer) (drop-cons piece i 0 h)
          ∙ (pick_no _ _ _ open'
          ∙ (pick_yes _ _ _ (ap (λ (x : Stepped). is_quiet x.reply) (sym e) ∙ f)
          ∙ ap₂ (λ (x : Stepped) (n : ℕ). takes_from (i + 1) x.state (drop n piece) x.out x.answer) (sym e) (sym (add-one i))))

-- an answer that says where the exchange stands
pub stayed : {s s' : State} {n n' : ℕ} {y : Result Reply Refusal} (out answer : List ℕ) → s' ≡ s → n' ≡ n → y ≡ waiting_in s
    → record { state = s'; taken = n'; reply = y; out = out; answer = answer } ≡ here n s out answer
stayed out answer e f g = cc
