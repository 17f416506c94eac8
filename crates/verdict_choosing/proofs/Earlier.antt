-- A START of an earlier length is judged by its own rules (02, R-12): whatever its tape holds behind it, verdict and fourth number are
-- today's, and each entry is read as today.
-- Assumes nothing.
use mathlib.Core.Path.{◌≡◌, refl}
use mathlib.Core.List.{List, ◌∷◌}
use Prim.Native.Nat.{ℕ}
use Rattle.numbers.specs.Tables.{start}
use Rattle.tape_read.specs.Entries.{Entry, entry}
use Rattle.tape_read.specs.Tapes.{read_tape}
use Rattle.start_choosing.specs.Start.{is_listing}
use Rattle.rulebook.specs.Later.{Earlier}
use Rattle.rulebook.specs.Session.{rules as today}
use Rattle.rulebook.proofs.Said.{sample}
use Rattle.rulebook.proofs.Kept.{sample_session}
use Rattle.rulebook_zeros.specs.Zeros.{unsupplied_in}
use Rattle.rulebook_zeros.specs.Summing as TodayNumbers
use Rattle.rulebook_choosing.specs.Choosing.{choosing}
use Rattle.choosing_zeros.specs.Zeros.{unsupplied_later}
use Rattle.choosing_zeros.specs.Summing.{zeros_of}
use Rattle.choosing_zeros.proofs.Counting.{was_counted}
use Rattle.verdict.specs.declared.Ruling.{Ruling}
use Rattle.verdict_judged.specs.Judged as TodayJudged
use Rattle.verdict_judged.specs.Zeroed as TodayZeroed
use Rattle.verdict_judged.specs.Progress as Today
use Rattle.verdict_judged.proofs.Meaning as TodayMeaning
use Rattle.verdict_editions.specs.Editions.{Same, First, FirstOf, Some}
use Rattle.verdict_editions.specs.Was.{was_progress, StartRead, ReadsToday}
use Rattle.verdict_editions.proofs.Later.{judged_as_it_was, zeroed_as_it_was}
use Rattle.verdict_editions.proofs.Was as Was
use Rattle.verdict_choosing.specs.Judged.{Judged}
use Rattle.verdict_choosing.specs.Zeroed.{Zeroed}
use Rattle.verdict_choosing.specs.Progress.{reads, reads_all, progress_of, new_by, verdict_of}
use Rattle.verdict_choosing.proofs.Meaning.{zeros_in}

-- ---- what is right to say

-- some session of today's has such a START
some_earlier : Some today (Earlier choosing)
unfolding First is_listing
some_earlier = (entry start sample ∷ sample_session.0, (refl, sample_session.1))

pub judged_earlier : (t : List ℕ) (a : Ruling) → FirstOf (Earlier choosing) t → Same (Judged t a) (TodayJudged.Judged t a)
judged_earlier = judged_as_it_was choosing some_earlier

pub zeroed_earlier : (t : List ℕ) (n : ℕ) → FirstOf (Earlier choosing) t → Same (Zeroed t n) (TodayZeroed.Zeroed t n)
zeroed_earlier = zeroed_as_it_was choosing some_earlier unsupplied_later was_counted

-- ---- how it is found

-- an entry: where START is due one of an earlier length, elsewhere any
pub reads_earlier : (m : Today.Progress) (e : Entry) → ReadsToday choosing m e → reads (was_progress m) e ≡ was_progress (Today.reads m e)
reads_earlier = Was.reads_was choosing

-- all entries, once START is read
pub rest_earlier : (es : List Entry) (m : Today.Progress) → StartRead m → reads_all (was_progress m) es
    ≡ was_progress (Today.reads_all m es)
rest_earlier = Was.all_was choosing

-- and from the opening on
pub progress_earlier : (es : List Entry) → First (Earlier choosing) es → progress_of es ≡ was_progress (Today.progress_of es)
progress_earlier = Was.progress_was choosing

pub sum_earlier : (es : List Entry) → First (Earlier choosing) es → zeros_of es ≡ TodayNumbers.zeros_of es
sum_earlier = Was.sum_was choosing unsupplied_later unsupplied_in was_counted

pub new_earlier : (m : Today.Progress) → new_by (was_progress m) ≡ Today.new_by m
new_earlier = Was.new_by_was choosing unsupplied_later unsupplied_in was_counted

pub verdict_earlier : (t : List ℕ) → FirstOf (Earlier choosing) t → verdict_of t ≡ Today.verdict_of t
verdict_earlier = Was.verdict_was choosing

pub zeros_earlier : (t : List ℕ) → FirstOf (Earlier choosing) t → zeros_in (read_tape t) ≡ TodayMeaning.zeros_in (read_tape t)
zeros_earlier = Was.zeros_was choosing unsupplied_later unsupplied_in was_counted
