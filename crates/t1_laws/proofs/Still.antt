-- Turns that move nothing but counts, the block that is out, and the end: what follows a block that is not taken. Assumes nothing.
use mathlib.Core.Path.{◌≡◌, refl, ap, ◌∙◌}
use mathlib.Core.Bool.{Bool, true, false}
use mathlib.Core.List.{List, []}
use Prim.Native.Nat.{ℕ, ◌+◌, ◌/◌, ◌%◌}
use native.Mathlib.Omega.{arith}
use borrow.Author.Tests.{eq-eqb, ne_eqb}
use Rattle.std.specs.Prelude.{Some}
use Rattle.slices.proofs.Choice.{pick_yes, pick_no, picked}
use Rattle.t1_block.specs.Blocks.{kind_of, pcb_of_r}
use Rattle.t1_block.specs.declared.Kind.TheVariants.{Ready as R}
use Rattle.t1_state.specs.declared.Phase.{Phase}
use Rattle.t1_state.specs.declared.Phase.TheVariants.{Over}
use Rattle.t1_state.specs.declared.Last.{Last}
use Rattle.t1_state.specs.declared.Last.TheVariants.{Nothing, Information, Ready, Request, Response}
use Rattle.t1_state.specs.declared.State.{State}
use Rattle.t1_state.specs.declared.Turn.{Turn}
use Rattle.t1_again.specs.Again.{goes_out, ready_for, exhausted, same_again, information_again, wrong_after, wrong}
use Rattle.t1.specs.Steps.{kept_by}

-- the number of an R-block that we write, whatever its code
pub kind_of_r : (n : Bool) (code : ℕ) → kind_of (pcb_of_r n code) ≡ Some (R n)
unfolding kind_of
kind_of_r false code =
    let d : (0x80 + 0 + code % 16) / 16 ≡ 8 = omega arith in
    pick_yes _ _ _ (eq-eqb _ _ d)
kind_of_r true code =
    let d : (0x80 + 0x10 + code % 16) / 16 ≡ 9 = omega arith in
    pick_no _ _ _ (ne_eqb ((0x80 + 0x10 + code % 16) / 16) 8 (λ e. omega arith)) ∙ pick_yes _ _ _ (eq-eqb _ _ d)

-- a block that an end without a request of its own has out: an R-block is for the number that it expects
abbrev pub plain : Last → Bool
plain Nothing = true
plain Information = true
plain (Ready pcb) = true
plain (Request w v) = false
plain (Response w v) = true

pub record Says (x : State) : Type 0 where
  pub plainly : plain x.last ≡ true
  pub numbered : (p : ℕ) → x.last ≡ Ready p → kind_of p ≡ Some (R x.numbers.expected)

-- the same phase, or the end
pub data Stays (p q : Phase) : Type 0 where
  on : q ≡ p → Stays p q
  over : q ≡ Over → Stays p q

pub record Still (x y : State) : Type 0 where
  pub numbers : y.numbers ≡ x.numbers
  pub received : y.received ≡ x.received
  pub message : y.message ≡ x.message
  pub sizes : y.sizes ≡ x.sizes
  pub phase : Stays x.phase y.phase
  pub says : Says y

-- a turn that keeps no field and leaves the end as it was but for that
pub record Passes (x : State) (t : Turn) : Type 0 where
  pub still : Still x t.state
  pub keeps : (inf : List ℕ) → kept_by t.act inf ≡ []

module _ (x : State) (w : Says x) where
  pub nothing_moved : Still x x
  nothing_moved = record { numbers = refl; received = refl; message = refl; sizes = refl; phase = on refl; says = w }

  exhausted_passes : Passes x (exhausted x)
  unfolding exhausted kept_by
  exhausted_passes =
      picked (Passes x) _ _ _ (λ e. record { still = nothing_moved; keeps = λ inf. refl })
      (λ e. record {
        still = record {
          numbers = refl;
          received = refl;
          message = refl;
          sizes = refl;
          phase = over refl;
          says = record { plainly = w.plainly; numbered = w.numbered };
        };
        keeps = λ inf. refl;
      })

  same_passes : Passes x (same_again x)
  unfolding same_again kept_by
  same_passes =
      picked (Passes x) _ _ _
      (λ e. record {
        still = record {
          numbers = refl;
          received = refl;
          message = refl;
          sizes = refl;
          phase = on refl;
          says = record { plainly = w.plainly; numbered = w.numbered };
        };
        keeps = λ inf. refl;
      })
      (λ e. exhausted_passes)

  pub again_passes : Passes x (information_again x)
  unfolding information_again kept_by
  again_passes =
      picked (Passes x) _ _ _
      (λ e. record {
        still = record {
          numbers = refl;
          received = refl;
          message = refl;
          sizes = refl;
          phase = on refl;
          says = record { plainly = refl; numbered = λ p f. absurd (let z : ◌≡◌ {A = ℕ} 0 1 = cc in omega arith) };
        };
        keeps = λ inf. refl;
      })
      (λ e. record {
        still = record {
          numbers = refl;
          received = refl;
          message = refl;
          sizes = refl;
          phase = over refl;
          says = record { plainly = w.plainly; numbered = w.numbered };
        };
        keeps = λ inf. refl;
      })

  ready_passes : (code : ℕ) → Passes x (goes_out (ready_for code x))
  unfolding ready_for kept_by
  ready_passes code =
      record {
        still = record {
          numbers = refl;
          received = refl;
          message = refl;
          sizes = refl;
          phase = on refl;
          says = record { plainly = refl; numbered = λ p f. ap kind_of (same_pcb p f) ∙ kind_of_r x.numbers.expected code };
        };
        keeps = λ inf. refl;
      }
    where
      same_pcb : (p : ℕ) → Ready (pcb_of_r x.numbers.expected code) ≡ Ready p → p ≡ pcb_of_r x.numbers.expected code
      same_pcb p e = cc

  wrong_passes : (l : Last) (code : ℕ) → x.last ≡ l → Passes x (wrong_after l code x)
  unfolding wrong_after
  wrong_passes Nothing code e = ready_passes code
  wrong_passes Information code e = ready_passes code
  wrong_passes (Ready pcb) code e = same_passes
  wrong_passes (Request v u) code e = same_passes
  wrong_passes (Response v u) code e = ready_passes code

  pub passes : (code : ℕ) → Passes x (wrong code x)
  unfolding wrong
  passes code = wrong_passes x.last code refl
