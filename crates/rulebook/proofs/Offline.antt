-- Named sessions without the issuer: approved by the card's first answer, and by its second on a terminal that never goes online. Each
-- is read to its end by computation. Those with more to tell stand in `rulebook_worked`.
-- Assumes nothing.
use mathlib.Core.Path.{refl}
use mathlib.Core.List.{List, ◌++◌}
use Prim.Native.Nat.{ℕ}
use Rattle.tape_read.specs.Entries.{Entry}
use Rattle.rulebook.specs.Session.{Session}
use Rattle.rulebook.proofs.Opening.{reached}
use Rattle.rulebook.proofs.Made.{first_asked, second_asked, given, tc, arqc, decides, exchange, opening, reads}

abbrev pub offline : ℕ → ℕ → ℕ → List Entry
offline kind cid outcome = opening kind ++ (exchange (first_asked tc) (given cid) ++ decides outcome 0 0x80 0x20)

pub approved_offline : Session (offline 2 tc 1) × Session (offline 0 tc 1)
unfolding reached
approved_offline = (reads _ refl, reads _ refl)

-- type 0 has no HOST entry and goes on as unable
pub offline_only : Session
    (opening 0 ++ (exchange (first_asked tc) (given arqc) ++ (exchange (second_asked tc) (given tc) ++ decides 1 0 0x80 0x20)))
unfolding reached
offline_only = reads _ refl
