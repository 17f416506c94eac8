-- R-9 of a good tape, overwritten: the list is the untouched blocks, and the judge names the first of the others. A tape is good where the
-- judge can read it, and so is every tape that was written entry by entry.
-- Assumes nothing.
use mathlib.Core.Path.{◌≡◌, refl, sym, ap, ◌∙◌}
use mathlib.Core.Bool.{Bool, true}
use mathlib.Core.List.{List}
use Prim.Native.Nat.{ℕ, ◌*◌, ◌%◌, ◌^◌, ◌≤◌, ◌<◌}
use native.Mathlib.Omega.{arith}
use lib.ListN.{length, take}
use Rattle.tape_read.specs.Entries.{Entry, block_size, blocks_most, all_storable}
use Rattle.tape_read.specs.Tapes.{entries, unreadable, session_of, read_tape, written}
use Rattle.tape_read.proofs.Roundtrip.{tape_back}
use Rattle.tape_write.specs.Appending.{append_all, fresh}
use Rattle.tape_write.proofs.Growing.{appends_read}
use Rattle.verdict.specs.Saying.{says}
use Rattle.verdict.specs.declared.Verdict.TheVariants.{Pass, Unreadable}
use Rattle.verdict.specs.declared.Ruling.{Ruling}
use Rattle.verdict_judged.specs.Judged.{Judged, damaged}
use Rattle.verdict_judged.proofs.Exactly.{unreadable_exactly}
use Rattle.recover_laws.specs.Damage.{Overwritten, FirstHit, untouched, listed}
use Rattle.recover_laws.specs.Recovers.{Recovers}
use Rattle.recover_laws.proofs.Listing.{Readable, is_readable, readable_listed, read_count, written_listed}
use Rattle.recover_laws.proofs.Overwriting.{overwritten_left}
use Rattle.recover_laws.proofs.Naming.{first_named, least}

module _ (hit : ℕ → Bool) (t u : List ℕ) (es : List Entry) (r : read_tape t ≡ entries es) (w : Overwritten hit t u) where
  readable : Readable t es
  readable = is_readable t es r

  unreadable_there : (k : ℕ) → FirstHit hit k → k < length es → read_tape u ≡ unreadable k 3
  unreadable_there k f there = first_named hit t u es readable w k f (omega (arith, read_count 0 (session_of t) es t readable.reads))

  named_there : (k : ℕ) → FirstHit hit k → k < length es → (a : Ruling) → Judged u a → a ≡ says Unreadable k 3
  named_there k f there a j = unreadable_exactly u k 3 a (unreadable_there k f there) j

  never_passes : (k : ℕ) → hit k ≡ true → k < length es → (a : Ruling) → Judged u a → a.verdict ≡ Pass → ⊥
  never_passes k h there a j p =
      let m = least hit k h in
      let said = named_there m.0 m.1.1 (omega (arith, m.1.0)) a j in
      let z : ◌≡◌ {A = ℕ} 0 1 = cc in
      omega arith

  -- any readable tape
  pub recovers : Recovers hit (session_of t) es u
  recovers =
      record {
        list = overwritten_left hit t u w ∙ ap (untouched hit) (readable_listed t es r);
        tail = ap (λ (n : ℕ). n % block_size) w.size ∙ readable.whole;
        verdict = λ k f there. damaged k 3 (unreadable_there k f there) refl;
        only = named_there;
        no_pass = never_passes;
      }

-- the session number of a tape that was written is the one that it was written with, or the tape is empty
listed_written : (s : ℕ) (es : List Entry) → all_storable es ≡ true → length es ≤ blocks_most → s < 2 ^ 32
    → listed 0 (session_of (written 0 s es)) es ≡ listed 0 s es
listed_written s es h most known =
    sym (readable_listed (written 0 s es) es (tape_back s es h most known)) ∙ written_listed s es h (omega arith) known

-- entries written one after the other
pub written_recovers : (hit : ℕ → Bool) (s : ℕ) (es : List Entry) (u : List ℕ) → all_storable es ≡ true → length es ≤ blocks_most
    → s < 2 ^ 32
    → Overwritten hit (written 0 s es) u → Recovers hit s es u
written_recovers hit s es u h most known w =
    let all = recovers hit (written 0 s es) u es (tape_back s es h most known) w in
    record {
      list = all.list ∙ ap (untouched hit) (listed_written s es h most known);
      tail = all.tail;
      verdict = all.verdict;
      only = all.only;
      no_pass = all.no_pass;
    }

-- and what a writer appended on an empty tape
pub appended_recovers : (hit : ℕ → Bool) (s : ℕ) (es : List Entry) (t u : List ℕ) → all_storable es ≡ true → length es ≤ blocks_most
    → length es * block_size ≤ length t → s < 2 ^ 32 → Overwritten hit (take (length es * block_size) (append_all (fresh s) es t).tape) u
    → Recovers hit (session_of (take (length es * block_size) (append_all (fresh s) es t).tape)) es u
appended_recovers hit s es t u h most room known w = recovers hit _ u es (appends_read s es t h most room known) w
