-- `tape_write::why_refused` meets its contract: each answer is a line of the list of refusals. Assumes nothing.
use mathlib.Core.Path.{◌≡◌, sym, ◌∙◌}
use mathlib.Core.Bool.{true}
use native.Mathlib.Omega.{arith}
use borrow.Author.Tests.{not-true, not-false}
use Rattle.numbers.specs.Tables.{is_kind}
use Rattle.tape_read.specs.Entries.{entry}
use Rattle.tape_write.proofs.Refusals.{refused_kind, refused_payload, refused_blocks, refused_room_lem, not_refused}
use Rattle.tape_write.proofs.why_refused.Goals as goal

pub returns-then-no_kind : goal.returns-then-no_kind
returns-then-no_kind c = sym (refused_kind _ _ _ (not-true _ (sym c.no_kind.ensures ∙ c.if-no_kind.true)))

pub returns-then-payload-gt-PAYLOAD : goal.returns-then-payload-gt-PAYLOAD
returns-then-payload-gt-PAYLOAD c =
    let kind_right : is_kind c.args.kind ≡ true =
    not-false _ (sym c.no_kind.ensures ∙ c.if-no_kind.false)
    in
    let a = c.args in
    let e = entry a.kind a.payload.now in
    sym (refused_payload a.used e a.tape.now (kind_right) (omega arith))

pub returns-then-used-ge-BLOCKS : goal.returns-then-used-ge-BLOCKS
returns-then-used-ge-BLOCKS c =
    let kind_right : is_kind c.args.kind ≡ true =
    not-false _ (sym c.no_kind.ensures ∙ c.if-no_kind.false)
    in
    let a = c.args in
    let e = entry a.kind a.payload.now in
    sym (refused_blocks a.used e a.tape.now (kind_right) (omega arith) (omega arith))

pub returns-then-tape-used : goal.returns-then-tape-used
returns-then-tape-used c =
    let kind_right : is_kind c.args.kind ≡ true =
    not-false _ (sym c.no_kind.ensures ∙ c.if-no_kind.false)
    in
    let a = c.args in
    let e = entry a.kind a.payload.now in
    sym (refused_room_lem a.used e a.tape.now (kind_right) (omega arith) (omega arith) (omega arith))

pub returns : goal.returns
returns c =
    let kind_right : is_kind c.args.kind ≡ true =
    not-false _ (sym c.no_kind.ensures ∙ c.if-no_kind.false)
    in
    let a = c.args in
    let e = entry a.kind a.payload.now in
    sym (not_refused a.used e a.tape.now (kind_right) (omega arith) (omega arith) (omega arith))
