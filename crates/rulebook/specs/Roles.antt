-- What the rulebook asks of a kernel and of a judge, each taken as any function of the entries so far. Demands 2 and 3; 02, R-7.
-- Assumes nothing.
use Rattle.std.specs.Prelude.{◌≡◌, Bool, true, false, ◌||◌, List, [], ◌∷◌, ◌++◌, ℕ, eqb}
use Rattle.start_valid.specs.Start.{begins_session}
use Rattle.numbers.specs.Tables.{command, decision}
use Rattle.tape_read.specs.Entries.{Entry}
use Rattle.rulebook.specs.Session.{Session, Open, BreaksAt}

-- what a kernel gives: commands and the decision
unfoldable pub given : Entry → Bool
given e = eqb e.kind command || eqb e.kind decision

abbrev pub Kernel : Type 0
Kernel = List Entry → Entry

-- START is one that a session can be begun with; a session with the shorter START is only judged
unfoldable pub begins : List Entry → Bool
begins [] = false
begins (e ∷ es) = begins_session e.payload

-- in every session that can be begun, wherever a command or the decision stands, the kernel gives just that after the entries before it
unfoldable pub RightKernel : Kernel → Type 0
RightKernel k =
    (es : List Entry) (e : Entry) (rest : List Entry) → Session (es ++ (e ∷ rest)) → begins (es ++ (e ∷ rest)) ≡ true → given e ≡ true
    → k es ≡ e

-- the answers for a readable tape
pub data Verdict : Type 0 where
  pass : Verdict
  inconclusive : Verdict
  fail : ℕ → Verdict

abbrev pub Judge : Type 0
Judge = List Entry → Verdict

-- demand 3
pub record RightJudge (j : Judge) : Type 0 where
  pub finished : (es : List Entry) → Session es → j es ≡ pass
  pub unfinished : (es : List Entry) → Open es → j es ≡ inconclusive
  pub broken : (es : List Entry) (k : ℕ) → BreaksAt es k → j es ≡ fail k
