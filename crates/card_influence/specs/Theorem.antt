-- What a card can influence in the kernel's calls and in a verdict (02, R-13), in one record; that it holds is `theorem` of proofs/Theorem.
-- What is seen of an answer is `seen` of `card_seen`.
-- Assumes nothing.
use Rattle.std.specs.Prelude.{◌≡◌, List, ◌↔◌, ℕ}
use Rattle.verdict.specs.declared.Ruling.{Ruling}
use Rattle.verdict_judged.specs.Judged.{Judged}
use Rattle.verdict_judged.specs.Zeroed.{Zeroed}
use Rattle.kernel.specs.declared.Session.{Session}
use Rattle.kernel_laws.specs.Log.{Call, made}
use Rattle.card_influence.specs.Calls.{OtherAnswer, CallsAlike, all_given}
use Rattle.card_influence.specs.Exchanged.{TapesAlike}

pub record Influence : Type 0 where
  -- 3. The kernel, on any session value that waits for the card: a call with another answer of which the same is seen gives the same
  -- reply, the same buffer and the same session, byte for byte
  pub call : (s : Session) (c d : Call) → OtherAnswer s c d → made s c ≡ made s d
  -- and so do any calls, taken or refused, in which such answers stand
  pub calls : (s : Session) (cs ds : List Call) → CallsAlike s cs ds → all_given s cs ≡ all_given s ds
  -- 4. Tapes in which such answers stand, where answers are due: the same verdict, place and code, and the same fourth number, whatever
  -- the verdict is
  pub verdict : (t u : List ℕ) → TapesAlike t u → (a : Ruling) → Judged t a ↔ Judged u a
  pub zeros : (t u : List ℕ) → TapesAlike t u → (n : ℕ) → Zeroed t n ↔ Zeroed u n
