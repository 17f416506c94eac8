-- `judge` meets its contract: piece by piece it hands in the whole tape, and what that finds is right of it.
-- Assumes nothing.
use mathlib.Core.Path.{◌≡◌, sym, ap, ◌∙◌, subst}
use native.Mathlib.Omega.{arith}
use Rattle.tape_crc.proofs.Bytes.{bytes_each}
use Rattle.tape_feed.specs.Feeding.{pieces_of}
use Rattle.verdict.specs.declared.Finding.{Finding}
use Rattle.verdict_judged.specs.Judged.{Judged}
use Rattle.verdict_judged.specs.Zeroed.{Zeroed}
use Rattle.judge.specs.Feeding.{begun, fed_all, closed}
use Rattle.judge.proofs.Fed.{fed_right}
use Rattle.judge.proofs.judge.Goals as goal

pub returns : goal.returns
returns c =
    let t = c.args.tape.now in
    let bytes = bytes_each t (λ i h. omega (arith, c.type_inv.tape i)) in
    let whole : c.close.result ≡ closed (fed_all begun (pieces_of t)) = c.close.ensures ∙ ap closed c.feed_all.ensures in
    let both = subst (λ (f : Finding). Judged t f.ruling × Zeroed t f.zeros) (sym whole) (fed_right t bytes) in
    record { verdict = both.0; zeros = both.1 }
