-- What is due after the pieces of a whole tape is what is due after the entries that it reads as; and where it is unreadable, that is known.
-- Assumes nothing.
use mathlib.Core.Path.{◌≡◌, sym, ap, ◌∙◌}
use mathlib.Core.Bool.{true}
use mathlib.Core.List.{List, [], ◌∷◌}
use Prim.Native.Nat.{ℕ, ◌+◌, ◌/◌}
use lib.ListN.{length}
use lib.Pow.{are_bytes}
use borrow.Author.Tests.{eq-eqb, ne_eqb}
use Rattle.slices.proofs.Choice.{pick_yes, pick_no}
use Rattle.tape_read.specs.Entries.{Entry, block_size}
use Rattle.tape_read.specs.Tapes.{Reading, entries, unreadable, read_tape}
use Rattle.tape_feed.specs.declared.Damage.{Damage}
use Rattle.tape_feed.specs.Feeding.{damage_of, entries_read, reading_of, pieces_of, begun as unread}
use Rattle.tape_feed.proofs.Whole.{fed_reading}
use Rattle.judge.specs.declared.UnderWay.{UnderWay}
use Rattle.judge.specs.Feeding.{begun, fed_all}
use Rattle.judge.proofs.Fed.{Bytes, cut_bytes, reader_after_lem}
use Rattle.std.specs.Prelude.{Option}
use Rattle.judge_due.specs.declared.DueNext.{DueNext}
use Rattle.judge_due.specs.Telling.{handed}
use Rattle.judge_due.specs.Standing.{due_of}
use Rattle.judge_due.specs.Theorem.{AllBytes}
use Rattle.judge_due.proofs.Fed.{told_of_tapes}
use Rattle.lab.specs.Due.{Lent, lent, in_numbers, laid_due, no_tape, due_on}

all_bytes_lem : (ps : List (List ℕ)) → Bytes ps → AllBytes ps
all_bytes_lem [] b = b
all_bytes_lem (p ∷ ps) b = (b.0, all_bytes_lem ps b.1)

-- what two equal ones hold is equal
pub both : {a b : Lent} → a ≡ b → (a.next ≡ b.next) × (a.buffer ≡ b.buffer)
both h = (ap (λ (x : Lent). x.next) h, ap (λ (x : Lent). x.buffer) h)

module _ (t : List ℕ) (u : UnderWay) (same : u ≡ fed_all begun (pieces_of t)) (d : Damage) (why : d ≡ damage_of u.reader)
    (out : List ℕ) where
  abbrev got : List Entry
  got = entries_read unread (pieces_of t)

  -- what the tape reads as, by what was found of its pieces
  read_as : reading_of d got ≡ read_tape t
  read_as =
      ap (λ (x : Damage). reading_of x got)
      (why ∙ ap damage_of (ap (λ (v : UnderWay). v.reader) same ∙ reader_after_lem (pieces_of t) begun))
      ∙ fed_reading t

  pub nothing_due : (d.code ≡ 0 → ⊥) → lent (no_tape ∷ d.code ∷ []) out ≡ due_on (read_tape t) out
  unfolding reading_of due_on
  nothing_due bad =
      let read : unreadable d.place d.code ≡ read_tape t = sym (pick_no _ _ _ (ne_eqb d.code 0 bad)) ∙ read_as in
      ap (λ (r : Reading). due_on r out) read

  pub next_due : are_bytes t ≡ true → d.code ≡ 0 → (n : Option DueNext) (after : List ℕ) → handed n after ≡ due_of u out
      → lent (in_numbers n) after ≡ due_on (read_tape t) out
  unfolding reading_of pieces_of due_on
  next_due bytes good n after due =
      let read : entries got ≡ read_tape t = sym (pick_yes _ _ _ (eq-eqb d.code 0 good)) ∙ read_as in
      let pieces = all_bytes_lem (pieces_of t) (cut_bytes (length t / block_size + 1) t bytes) in
      let rule = due ∙ (ap (λ (v : UnderWay). due_of v out) same ∙ told_of_tapes.pieces (pieces_of t) pieces out) in
      ap laid_due rule ∙ ap (λ (r : Reading). due_on r out) read
