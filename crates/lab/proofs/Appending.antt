-- What `append` answers has the refusal's number, and 0 where there is none.
-- Assumes nothing.
use mathlib.Core.Path.{◌≡◌, refl, sym, ap, ◌∙◌}
use Prim.Native.Nat.{ℕ}
use lib.Dec.{eqb}
use borrow.Author.Tests.{eqb-true}
use Rattle.slices.proofs.Choice.{picked}
use Rattle.tape_write.specs.Appending.{appended_of}
use Rattle.tape_write.specs.declared.Writer.{Writer}
use Rattle.tape_write.specs.declared.Appended.{Appended}

refusal_kept : (w : Writer) (n : ℕ) → (appended_of w n).refusal ≡ n
unfolding appended_of
refusal_kept w n = picked (λ (a : Appended). a.refusal ≡ n) (eqb n 0) _ _ (λ y. sym (eqb-true n 0 y)) (λ m. refl)

pub refusal_told : (w : Writer) (n : ℕ) (a : Appended) → a ≡ appended_of w n → a.refusal ≡ n
refusal_told w n a h = ap (λ (x : Appended). x.refusal) h ∙ refusal_kept w n
