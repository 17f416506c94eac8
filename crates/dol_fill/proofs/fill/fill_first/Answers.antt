-- `fill::fill_first` meets its contract: the entry's place comes back holding its bytes, and nothing else moves.
-- Assumes nothing.
use Rattle.std.proofs.Common.{◌≡◌, ℕ, ◌+◌, ◌≤◌, List, length, sym, ap, ◌∙◌, ap₂, arith}
use Rattle.tlv_head.specs.Head.{tag_of}
use Rattle.slices.specs.Writing.{put}
use Rattle.slices.proofs.Writing.{put_back}
use Rattle.start_fields.specs.Reading.{reading_of}
use Rattle.session_records.specs.Slots.{told_in}
use Rattle.dol_wanted.specs.Wanted.{size_at}
use Rattle.dol_values.specs.Known.{supplied}
use Rattle.dol_fill.specs.Filled.{entry_bytes, first_bytes}
use Rattle.dol_fill.proofs.Filling.{place_length, entry_length}
use Rattle.dol_fill.proofs.fill.fill_first.Goals as goal

pub returns : goal.returns
unfolding first_bytes
returns c =
    let room : c.args.p + c.size_at.result ≤ length c.args.buf.now =
    let e = c.size_at.ensures.0 in let h = c.requires in omega arith
    in
    let Filled : Type 0 =
    let a = c.args in
    c.fill_entry.new.part ≡ first_bytes (reading_of a.from.start.now) (told_in a.from.known.now) a.list.now
    in
    let first : Filled =
    let a = c.args in
    let tag = c.tag_of-tag in
    let n = c.size_at in
    c.fill_entry.ensures
    ∙ ap₂ entry_bytes
    (place_length a.buf.now a.p n.result (room) ∙ n.ensures.0)
    (ap (supplied (reading_of a.from.start.now) (told_in a.from.known.now)) tag.ensures.0)
    in
    let a = c.args in
    let n = c.size_at in
    let e = first in
    let size = ap length e
    ∙ (entry_length (size_at a.list.now) (supplied (reading_of a.from.start.now) (told_in a.from.known.now) (tag_of a.list.now))
    ∙ sym n.ensures.0) in
    put_back c.fill_entry.new.part a.p (a.p + n.result) a.buf.now (omega arith)
    ∙ ap (λ (s : List ℕ). put s a.p a.buf.now) e
