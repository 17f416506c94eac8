-- What R-9 promises of a good tape some blocks of which were overwritten, in one place.
-- Assumes nothing.
use Rattle.std.specs.Prelude.{◌≡◌, Bool, true, List, ℕ, ◌<◌, length}
use Rattle.tape_read.specs.Entries.{Entry}
use Rattle.verdict.specs.Saying.{says}
use Rattle.verdict.specs.declared.Verdict.TheVariants.{Pass, Unreadable}
use Rattle.verdict.specs.declared.Ruling.{Ruling}
use Rattle.verdict_judged.specs.Judged.{Judged}
use Rattle.recover.specs.Salvage.{salvaged, tail_of}
use Rattle.recover_laws.specs.Damage.{FirstHit, untouched, listed}

-- whatever the judge says of some bytes, it is not PASS
abbrev pub NeverPasses : List ℕ → Type 0
NeverPasses u = (a : Ruling) → Judged u a → a.verdict ≡ Pass → ⊥

-- u is a tape of these entries and this session number, overwritten where it is marked
pub record Recovers (hit : ℕ → Bool) (session : ℕ) (es : List Entry) (u : List ℕ) : Type 0 where
  -- the list is exactly the untouched blocks, at their places, and there is no tail
  pub list : salvaged u ≡ untouched hit (listed 0 session es)
  pub tail : tail_of u ≡ 0
  -- the judge names the first overwritten block, with code 3
  pub verdict : (k : ℕ) → FirstHit hit k → k < length es → Judged u (says Unreadable k 3)
  pub only : (k : ℕ) → FirstHit hit k → k < length es → (a : Ruling) → Judged u a → a ≡ says Unreadable k 3
  -- so wherever a block was overwritten, it says no PASS
  pub no_pass : (k : ℕ) → hit k ≡ true → k < length es → NeverPasses u
