-- One turn of a loop over a list that is filled or counted: the entry at the front of what is left is passed.
-- Assumes nothing.
use Rattle.std.proofs.Common.{◌≡◌, ℕ, ◌+◌, ◌-◌, ◌≤◌, Bool, true, false, eqb, List, length, take, drop, ap, ◌∙◌, arith}
use Rattle.slices.specs.Tests.{is_some}
use Rattle.slices.proofs.Cutting.{rest_part}
use Rattle.tlv_head.specs.Head.{tag_size}
use Rattle.dol_wanted.specs.Wanted.{entries_of}
use Rattle.dol_wanted.proofs.Entries.{turn_fits, goes_on}

-- the entry's tag and length stand in what is left
pub inside : (r : List ℕ) {empty : Bool} {n : ℕ} → empty ≡ eqb (length r) 0 → empty ≡ false → is_some (entries_of r) ≡ true
    → n ≡ tag_size r → n + 1 ≤ length r
inside r e more right size = let h = turn_fits r (goes_on r _ e more) right in omega arith

-- and behind them what is left next
pub behind : (r : List ℕ) {n : ℕ} → n ≡ tag_size r → take (length r - (n + 1)) (drop (n + 1) r) ≡ drop (tag_size r + 1) r
behind r size = rest_part r _ ∙ ap (λ (k : ℕ). drop (k + 1) r) size
