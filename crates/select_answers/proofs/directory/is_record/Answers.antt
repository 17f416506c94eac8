-- `directory::is_record` meets its contract: 70 has a list in it, so the entries that the reader finds are its members 61.
-- Assumes nothing.
use mathlib.Core.Path.{◌≡◌, refl, sym, ap, ◌∙◌}
use mathlib.Core.Bool.{true}
use mathlib.Core.List.{List, map}
use Prim.Native.Nat.{ℕ}
use Rattle.slices.specs.Choice.{pick}
use Rattle.slices.specs.Tests.{every}
use Rattle.slices.proofs.Tests.{held, failed, last}
use Rattle.tlv_head.specs.Head.{first_byte, constructed}
use Rattle.tlv_list.specs.Place.{object_at, places_from}
use Rattle.answer_common.specs.Answer.{inside}
use Rattle.answer_common.specs.Content.{record_tag}
use Rattle.answer_common.specs.Named.{standing, among}
use Rattle.answer_common.proofs.Members.{inside_list}
use Rattle.select_answers.specs.Directory.{entry_right, entries, entries_in, record_right}
use Rattle.select_answers.proofs.Entries.{entries_asked}
use Rattle.select_answers.proofs.directory.is_record.Goals as goal

constructed_record : constructed record_tag ≡ true
unfolding constructed first_byte pick
constructed_record = refl

found : (a s : List ℕ) → s ≡ inside record_tag a
    → every (map (λ e. entry_right (standing e)) (entries (map (object_at s) (places_from s 0))))
    ≡ every (map (λ e. entry_right (among e)) (entries_in a))
unfolding entries_in
found a s e =
    ap (λ t. every (map (λ x. entry_right (standing x)) (entries (map (object_at t) (places_from t 0))))) e
    ∙ ap every (entries_asked entry_right (inside record_tag a) (inside_list record_tag a constructed_record))

pub returns-then-is_one : goal.returns-then-is_one
unfolding record_right
returns-then-is_one c =
    let a = c.args.answer.now in
    sym (held c.is_one.ensures _ c.if-is_one.true
    ∙ last (c.entries_right.ensures ∙ found a _ c.inside.ensures))

pub returns-else-is_one : goal.returns-else-is_one
unfolding record_right
returns-else-is_one c = sym (failed c.is_one.ensures _ c.if-is_one.false)
