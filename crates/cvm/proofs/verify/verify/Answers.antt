-- `verify::verify` meets its contract. The loop's invariant: what is left from rule i on, with the bits so far, comes to what the
-- whole list comes to. Assumes nothing.
use mathlib.Core.Path.{◌≡◌, sym, ap, ap₂, ◌∙◌}
use mathlib.Core.List.{List}
use Prim.Native.Nat.{ℕ, ◌+◌, ◌*◌, ◌<◌}
use native.Mathlib.Omega.{arith}
use lib.ListN.{length, drop, get_or}
use Rattle.cvm_rules.specs.Turns.{turn_of}
use Rattle.cvm_rules.specs.declared.Circumstances.{Circumstances}
use Rattle.cvm_rules.specs.declared.Turn.{Turn}
use Rattle.cvm.specs.Lists.{limit_of, limit_x, limit_y, rules_of, rules_in}
use Rattle.cvm.specs.Verified.{verified_from, verified}
use Rattle.cvm.proofs.Through.{inside, outside, past, turn_at, rule_ends, rule_goes_on}
use Rattle.cvm.proofs.verify.verify.Goals as goal

pub loop-i-init : goal.loop-i-init
unfolding verified limit_x limit_y rules_of
loop-i-init c =
    let a = c.args in
    let y = c.limit-y.ensures ∙ ap limit_of c.part.ensures in
    ap₂ (λ (n m : ℕ). verified_from a.c n m 0 (drop 8 a.list.now) a.results.now) c.limit-x.ensures y

-- the two bytes of a rule that is counted are there
there : (list : List ℕ) (i count : ℕ) → i < count → count ≡ rules_in list → 9 + 2 * i < length list
there list i count h e = inside list i (omega arith)

pub overflow_mul-i : goal.overflow_mul-i
overflow_mul-i c = omega (arith, there c.args.list.now c.loop-i.i _ (omega arith) c.rules_in-i-end.ensures)

pub overflow_add-i : goal.overflow_add-i
overflow_add-i c = omega (arith, there c.args.list.now c.loop-i.i _ (omega arith) c.rules_in-i-end.ensures)

pub overflow_mul-i-in-loop-i : goal.overflow_mul-i-in-loop-i
overflow_mul-i-in-loop-i c = omega (arith, there c.args.list.now c.loop-i.i _ (omega arith) c.rules_in-i-end.ensures)

pub overflow_add-i-in-loop-i : goal.overflow_add-i-in-loop-i
overflow_add-i-in-loop-i c = omega (arith, there c.args.list.now c.loop-i.i _ (omega arith) c.rules_in-i-end.ensures)

-- the turn that the code took is that of rule i
rule : (k : Circumstances) (x y first code byte bits i : ℕ) (t : Turn) (list results : List ℕ) → t ≡ turn_of k x y first code byte
    → first ≡ get_or list (8 + 2 * i) 0 → code ≡ get_or list (9 + 2 * i) 0 → byte ≡ get_or results i 0
    → t ≡ turn_at k x y list results i bits
rule k x y first code byte bits i t list results e f g h =
    e ∙ (ap₂ (λ (n m : ℕ). turn_of k x y n m byte) f g ∙ ap (turn_of k x y _ _) h)

pub returns-then-turn : goal.returns-then-turn
returns-then-turn c =
    let l = c.loop-i in
    let a = c.args in
    let whole = there a.list.now l.i _ (omega arith) c.rules_in-i-end.ensures in
    let turn =
    rule a.c _ _ _ _ _ l.bits l.i _ a.list.now a.results.now c.turn_of-turn.ensures c.byte-first.ensures.0 c.byte-code.ensures.0 c.byte.ensures.0
    in
    sym (rule_ends a.c _ _ a.list.now a.results.now l.i l.bits _ turn whole c.if-turn.true) ∙ l.invariant

pub loop-i-preserved : goal.loop-i-preserved
loop-i-preserved c =
    let l = c.loop-i in
    let a = c.args in
    let whole = there a.list.now l.i _ (omega arith) c.rules_in-i-end.ensures in
    let turn =
    rule a.c _ _ _ _ _ l.bits l.i _ a.list.now a.results.now c.turn_of-turn.ensures c.byte-first.ensures.0 c.byte-code.ensures.0 c.byte.ensures.0
    in
    sym (rule_goes_on a.c _ _ a.list.now a.results.now l.i l.bits _ turn whole c.if-turn.false) ∙ l.invariant

pub returns : goal.returns
returns c =
    let l = c.loop-i in
    let a = c.args in
    let end = outside a.list.now l.i (omega (arith, c.rules_in-i-end.ensures)) in
    sym (past a.c _ _ a.list.now a.results.now l.i l.bits end) ∙ l.invariant
