-- With at most one damaged block no end comes to a limit. Where none was damaged each block is answered by the block that must follow it,
-- and every count stands at one. A damaged block brings an R-block or a request again, that brings the block again, and then all goes
-- on as before: so no count passes two, and two are allowed to every end. Assumes nothing.
use mathlib.Core.Path.{◌≡◌, refl, sym, ap, subst, ◌∙◌}
use mathlib.Core.Bool.{Bool, true, false, not, false≢true}
use mathlib.Core.List.{List}
use Prim.Native.Nat.{ℕ, ◌≤◌}
use lib.ListN.{length}
use Rattle.t1_block.specs.declared.What.{What}
use Rattle.t1_block.specs.declared.What.TheVariants.{Wtx}
use Rattle.t1_state.specs.Limits.{message_most, room, more_of}
use Rattle.t1_state.specs.declared.Phase.TheVariants.{Asking, Due}
use Rattle.t1_state.specs.declared.Last.{Last}
use Rattle.t1_state.specs.declared.Last.TheVariants.{Nothing, Information, Ready, Request, Response}
use Rattle.t1_state.specs.declared.Sizes.{Sizes}
use Rattle.t1_state.specs.declared.State.{State}
use Rattle.t1_state.specs.declared.Act.TheVariants.{Send}
use Rattle.t1_state.specs.declared.Turn.{Turn}
use Rattle.t1_again.specs.Again.{ready_for, wrong}
use Rattle.t1_asking.specs.Asking.{settled}
use Rattle.t1.specs.Steps.{block_of}
use Rattle.t1_laws.specs.Conduct.{listens, fits}
use Rattle.t1_laws.specs.Talks.{Side}
use Rattle.t1_laws.proofs.Rounds.{Going as Round}
use Rattle.t1_laws.proofs.Still.{plain, Says}
use Rattle.t1_laws.proofs.Lossy.{Inv, before, behind, whole}
use Rattle.t1_laws.proofs.Meeting.{Way, empty, there, here, Level, Going}
use Rattle.t1_laws.proofs.Meeting.{takes_listens}
use Rattle.t1_laws.proofs.Messages.{due_not}
use Rattle.t1_laws.proofs.Exactly.{wrong_ready, opens, wrong_opens, Askable}

-- every field of x's fits y
abbrev pub Roomy : State → State → Type 0
Roomy x y = room x.sizes.theirs ≤ y.sizes.ours

-- an R-block that is out has gone out once
abbrev pub Fresh : State → Type 0
Fresh y = (p : ℕ) → y.last ≡ Ready p → y.counts.same ≤ 1

-- x rests; asks, and its request is under way; the response is; an R-block is in its place. A piece of x's is under way; the R-block for
-- it; one that asks for it again; one that asks for the R-block again. The last of each group only where a block was damaged
pub data Mood (spare : Bool) (x y : Side) (w : Way) : Type 0 where
  rests : Level x y → x.end.phase ≡ Due → w ≡ empty → Roomy x.end y.end → Roomy y.end x.end → (spare ≡ true → Fresh y.end)
      → Mood spare x y w
  asks : Level x y → x.end.phase ≡ Asking → (v : What) (u : ℕ) → x.end.last ≡ Request v u → Askable y.end v u
      → w ≡ there (block_of x.end) → Roomy x.end y.end → (v ≡ Wtx → Roomy y.end x.end)
      → (spare ≡ true → (x.end.counts.same ≤ 1) × Fresh y.end) → Mood spare x y w
  replies : Level x y → x.end.phase ≡ Asking → (v : What) (u : ℕ) → x.end.last ≡ Request v u → Askable y.end v u
      → y.end.last ≡ Response v u → w ≡ here (block_of y.end) → Roomy x.end y.end → Roomy y.end (settled v u x.end)
      → (spare ≡ true → x.end.counts.same ≤ 1) → Mood spare x y w
  doubts : spare ≡ false → Level x y → x.end.phase ≡ Asking → (v : What) (u : ℕ) → x.end.last ≡ Request v u → Askable y.end v u
      → (p : ℕ) → y.end.last ≡ Ready p → w ≡ here (block_of y.end) → Roomy x.end y.end → (v ≡ Wtx → Roomy y.end x.end)
      → x.end.counts.same ≤ 1 → Mood spare x y w
  pieces : (m rest : List ℕ) → Going m rest x y → length m ≤ message_most → y.end.numbers.expected ≡ not x.end.numbers.next
      → x.end.last ≡ Information → w ≡ there (block_of x.end) → Roomy x.end y.end → Roomy y.end x.end
      → (spare ≡ true → (x.end.counts.information ≤ 1) × Fresh y.end) → Mood spare x y w
  wants : (m rest : List ℕ) → Going m rest x y → length m ≤ message_most → y.end.numbers.expected ≡ x.end.numbers.next
      → more_of x.end.message ≡ true → (p : ℕ) → y.end.last ≡ Ready p → w ≡ here (block_of y.end) → Roomy x.end y.end
      → Roomy y.end x.end → (spare ≡ true → (y.end.counts.same ≤ 1) × (x.end.last ≡ Information)) → Mood spare x y w
  again : spare ≡ false → (m rest : List ℕ) → Going m rest x y → length m ≤ message_most
      → y.end.numbers.expected ≡ not x.end.numbers.next → (p : ℕ) → y.end.last ≡ Ready p → w ≡ here (block_of y.end)
      → Roomy x.end y.end → Roomy y.end x.end → x.end.counts.information ≤ 1 → Mood spare x y w
  repeats : spare ≡ false → (m rest : List ℕ) → Going m rest x y → length m ≤ message_most
      → y.end.numbers.expected ≡ x.end.numbers.next → more_of x.end.message ≡ true → (p q : ℕ) → x.end.last ≡ Ready p
      → y.end.last ≡ Ready q → w ≡ there (block_of x.end) → Roomy x.end y.end → Roomy y.end x.end
      → y.end.counts.same ≤ 1 → Mood spare x y w

-- after an arrival: as before, or the message is whole and the other end's turn
pub data Then (spare : Bool) (x y : Side) (w : Way) : Type 0 where
  goes_on_lem : Mood spare x y w → Then spare x y w
  changes : w ≡ empty → Mood spare y x empty → Then spare x y w

not_self : (n : Bool) → n ≡ not n → ⊥
not_self true e = false≢true (sym e)
not_self false e = false≢true e

module _ (m rest : List ℕ) (x y : Side) (g : Going m rest x y) where
  y_hears : listens y.end.phase ≡ true
  y_hears = takes_listens y.end.phase (more_of y.end.message) g.ears

  pub says_x : Inv m rest x.end y.end y.part → Says x.end
  says_x (before b n c e) = b.sends.says
  says_x (behind b n c e o) = b.sends.says
  says_x (whole d e) = due_not y.end.phase d y_hears

  pub says_y : Inv m rest x.end y.end y.part → Says y.end
  says_y (before b n c e) = b.says
  says_y (behind b n c e o) = b.says
  says_y (whole d e) = due_not y.end.phase d y_hears

  pub step_is : Inv m rest x.end y.end y.part → x.end.numbers.expected ≡ y.end.numbers.next
  step_is (before b n c e) = b.step
  step_is (behind b n c e o) = b.step
  step_is (whole d e) = due_not y.end.phase d y_hears

  pub round : length m ≤ message_most → y.end.numbers.expected ≡ not x.end.numbers.next → x.end.last ≡ Information
      → Roomy x.end y.end → Inv m rest x.end y.end y.part → Round m rest x.end y.end y.part
  round most n out fits (before b k c e) =
      record {
        out = out;
        phase = g.live;
        bytes = b.sends.bytes;
        long = b.sends.long;
        inside = b.sends.inside;
        size = b.sends.size;
        number = n;
        takes = g.ears;
        received = c;
        kept = e;
        fits = fits;
        most = most;
      }
  round most n out fits (behind b k c e o) = absurd (not_self x.end.numbers.next (sym k ∙ n))
  round most n out fits (whole d e) = due_not y.end.phase d y_hears

-- an R-block of y's for a block that did not come
pub record Spoke (y : State) (t : Turn) : Type 0 where
  pub said : t.act ≡ Send
  pub stays : t.state.phase ≡ y.phase
  pub sized : t.state.sizes ≡ y.sizes
  pub numbered : t.state.numbers ≡ y.numbers
  pub role : t.state.role ≡ y.role
  pub out : (p : ℕ) × (t.state.last ≡ Ready p)

pub spoke : (y : State) (c : ℕ) → Says y → Fresh y → (l : Last) → y.last ≡ l → Spoke y (wrong c y)
unfolding ready_for
spoke y c w f Nothing e = subst (Spoke y) (sym (wrong_opens y c (ap opens e)))
    (record { said = refl; stays = refl; sized = refl; numbered = refl; role = refl; out = (_, refl) })
spoke y c w f Information e = subst (Spoke y) (sym (wrong_opens y c (ap opens e)))
    (record { said = refl; stays = refl; sized = refl; numbered = refl; role = refl; out = (_, refl) })
spoke y c w f (Ready p) e = subst (Spoke y) (sym (wrong_ready y p c e (f p e)))
    (record { said = refl; stays = refl; sized = refl; numbered = refl; role = refl; out = (p, e) })
spoke y c w f (Request v u) e = absurd (false≢true (sym (ap plain e) ∙ w.plainly))
spoke y c w f (Response v u) e = subst (Spoke y) (sym (wrong_opens y c (ap opens e)))
    (record { said = refl; stays = refl; sized = refl; numbered = refl; role = refl; out = (_, refl) })

-- the other one's sizes
pub roomy_y : (x y z : State) → z.sizes ≡ y.sizes → Roomy x y → Roomy x z
roomy_y x y z e h = subst (λ (s : Sizes). room x.sizes.theirs ≤ s.ours) (sym e) h

pub roomy_x : (x y z : State) → z.sizes ≡ x.sizes → Roomy x y → Roomy z y
roomy_x x y z e h = subst (λ (s : Sizes). room s.theirs ≤ y.sizes.ours) (sym e) h
