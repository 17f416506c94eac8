-- `head::sized` meets its contract: the forms of a length, one after the other.
-- Assumes nothing.
use Rattle.tlv_head.proofs.Sized.{in_itself, in_one, in_two, in_none}
use Rattle.tlv_head.proofs.head.sized.Goals as goal

pub returns-then-form-lt128 : goal.returns-then-form-lt128
returns-then-form-lt128 c =
    let a = c.args in
    in_itself a.s.now a.p c.requires.2 a.tag a.size _ c.requires.0 c.requires.3 c.requires.4
    c.byte-form.ensures.0 c.if-form-lt128.true c.fitting.ensures

pub returns-then-form-eq129 : goal.returns-then-form-eq129
returns-then-form-eq129 c =
    let a = c.args in
    in_one a.s.now a.p c.requires.2 a.tag a.size _ c.requires.0 c.requires.3 c.requires.4
    c.byte-form.ensures.0 c.if-form-lt128.false _ c.if-form-eq129.true
    c.byte.ensures.0 c.fitting-then-form-eq129.ensures

pub returns-then-form-eq130 : goal.returns-then-form-eq130
returns-then-form-eq130 c =
    let a = c.args in
    in_two a.s.now a.p c.requires.2 a.tag a.size _ c.requires.0 c.requires.3 c.requires.4
    c.byte-form.ensures.0 c.if-form-lt128.false _ _ c.if-form-eq129.false c.if-form-eq130.true
    c.byte-then-form-eq130.ensures.0 c.byte-then-form-eq130-2.ensures.0 c.fitting-then-form-eq130.ensures

pub returns-else-form-eq130 : goal.returns-else-form-eq130
returns-else-form-eq130 c =
    let a = c.args in
    in_none a.s.now a.p c.requires.2 a.tag a.size _ c.requires.0 c.requires.3 c.requires.4
    c.byte-form.ensures.0 c.if-form-lt128.false c.if-form-eq129.false c.if-form-eq130.false
