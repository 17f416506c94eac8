-- `runs::size_of` meets its contract: no more bytes count than there are.
-- Assumes nothing.
use mathlib.Core.Path.{◌≡◌, sym, ap, ◌∙◌}
use mathlib.Core.List.{List}
use Prim.Native.Nat.{ℕ, ◌≤◌}
use native.Mathlib.Omega.{arith}
use lib.ListN.{length, take}
use lib.Seq.{take_all, length-take-le}
use Rattle.session_records.specs.Runs.{longest}
use Rattle.session_records.proofs.There.{run_there, run_not_there}
use Rattle.session_records.proofs.runs.size_of.Goals as goal

-- so many bytes are cut off, and no fewer
cut_size : (n : ℕ) (b v : List ℕ) → n ≤ length b → take n b ≡ v → n ≡ length v
cut_size n b v h e = sym (length-take-le n b h) ∙ ap length e

pub returns-then-len-lt252 : goal.returns-then-len-lt252
returns-then-len-lt252 c =
    let b = c.bytes_of-bytes.ensures.1 in
    let r = c.args.run in
    let e = sym (run_there r c.if-run.true) in
    (e, omega (arith, b), b, cut_size _ _ _ (omega (arith, b)) e)

pub returns-else-len-lt252 : goal.returns-else-len-lt252
returns-else-len-lt252 c =
    let b = c.bytes_of-bytes.ensures.1 in
    let r = c.args.run in
    let e = take_all longest r.bytes (omega (arith, b))
    ∙ sym (run_there r c.if-run.true ∙ take_all r.len r.bytes (omega (arith, b))) in
    (e, omega arith, b, cut_size longest r.bytes _ (omega (arith, b)) e)

pub returns-else-run : goal.returns-else-run
returns-else-run c =
    let b = c.bytes_of-bytes.ensures.1 in
    let r = c.args.run in
    let e = sym (run_not_there r c.if-run.false) in
    (e, omega arith, b, cut_size 0 r.bytes _ (omega arith) e)
