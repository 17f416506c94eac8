-- What a header can still bring, by the way its bytes go. Assumes nothing.
use mathlib.Core.Path.{◌≡◌, refl, sym}
use mathlib.Core.Bool.{Bool, true, false, false≢true}
use Prim.Native.Nat.{ℕ, ◌+◌, ◌*◌, ◌-◌, ◌≤◌, ◌<◌}
use native.Mathlib.Omega.{arith}
use lib.Dec.{eqb}
use borrow.Author.Tests.{eqb-true}
use Rattle.slices.proofs.Choice.{picked}
use Rattle.apdu.specs.Commands.{asked}
use Rattle.t0_state.specs.Bytes.{comes_in, may_repeat, goes_on_after, goes_on}
use Rattle.t0_state.specs.declared.Sent.{Sent}
use Rattle.t0_state.specs.declared.Sent.TheVariants.{Own, GetResponse}
use Rattle.t0_state.specs.declared.Header.{Header}
use Rattle.t0_laws.specs.Bounds.{moved, size_most, header_cost, header_data}
use Rattle.apdu.specs.declared.Case.TheVariants.{One, Two, Three, Four}
use Rattle.apdu.specs.Answers.{trailer_of}
use Rattle.apdu.specs.declared.Trailer.{Trailer}

-- bytes that come in
pub record In (x : Sent) : Type 0 where
  pub size : size_most x ≡ 256
  pub cost : (m : ℕ) → header_cost x m ≡ 2 * (256 - m)
  pub data' : (m : ℕ) → header_data x m ≡ 256 - m

pub comes_in_lem : (x : Sent) → comes_in x ≡ true → In x
unfolding comes_in size_most header_cost header_data
comes_in_lem (Own One) e = absurd (false≢true e)
comes_in_lem (Own Two) e = record { size = refl; cost = λ m. refl; data' = λ m. refl }
comes_in_lem (Own Three) e = absurd (false≢true e)
comes_in_lem (Own Four) e = absurd (false≢true e)
comes_in_lem GetResponse e = record { size = refl; cost = λ m. refl; data' = λ m. refl }

-- bytes that go out
pub record Out (x : Sent) : Type 0 where
  pub size : size_most x ≤ 255
  pub cost : 1 ≤ size_most x → (m : ℕ) → header_cost x m ≡ header_cost x 255 + (255 - m)
  pub data' : (m k : ℕ) → header_data x m ≡ header_data x k

pub goes_out_lem : (x : Sent) → comes_in x ≡ false → Out x
unfolding comes_in size_most header_cost header_data
goes_out_lem (Own One) e = record { size = omega arith; cost = λ h m. absurd (omega arith); data' = λ m k. refl }
goes_out_lem (Own Two) e = absurd (false≢true (sym e))
goes_out_lem (Own Three) e = record { size = omega arith; cost = λ h m. omega arith; data' = λ m k. refl }
goes_out_lem (Own Four) e = record { size = omega arith; cost = λ h m. omega arith; data' = λ m k. refl }
goes_out_lem GetResponse e = absurd (false≢true (sym e))

-- only case 4 goes on after a status
four : (x : Sent) (left : ℕ) (t : Trailer) → goes_on_after x left t ≡ true → x ≡ Own Four
unfolding goes_on_after
four (Own One) left t e = absurd (false≢true e)
four (Own Two) left t e = absurd (false≢true e)
four (Own Three) left t e = absurd (false≢true e)
four (Own Four) left t e = refl
four GetResponse left t e = absurd (false≢true e)

pub goes_on_four : (h : Header) (a b : ℕ) → goes_on h (trailer_of a b) ≡ true → h.sent ≡ Own Four
unfolding goes_on
goes_on_four h a b e = four h.sent h.left (trailer_of a b) e

-- '6C' in its place: bytes come in, and none has come
pub repeats_in : (h : Header) → may_repeat h ≡ true → (comes_in h.sent ≡ true) × (h.left ≡ h.size)
unfolding may_repeat
repeats_in h e =
    picked (λ (t : Bool). t ≡ true → (comes_in h.sent ≡ true) × (h.left ≡ h.size)) (comes_in h.sent) _ _
    (λ f g. (f, eqb-true _ _ g)) (λ f g. absurd (false≢true g)) e

-- how many are moved
pub moved_left : (h : Header) → h.left ≤ h.size → moved h + h.left ≡ h.size
unfolding moved
moved_left h e = omega arith

pub moved_none : (x : Sent) (n : ℕ) → moved (record { sent = x; size = n; left = n }) ≡ 0
unfolding moved
moved_none x n = omega arith

pub moved_more : (h : Header) (n : ℕ) → n ≤ h.left → h.left ≤ h.size
    → moved (record { sent = h.sent; size = h.size; left = h.left - n }) ≡ moved h + n
unfolding moved
moved_more h n e f = omega arith

-- a length byte asks for 256 bytes at most
pub asked_most : (b : ℕ) → b < 256 → asked b ≤ 256
unfolding asked
asked_most b h = picked (λ (n : ℕ). n ≤ 256) (eqb b 0) _ _ (λ e. omega arith) (λ e. omega arith)
