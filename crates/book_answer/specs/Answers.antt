-- The judge's answer as an entry of the campaign book (02, R-11: verdict, place, code; the layout has four bytes for a place and a code).
-- Assumes nothing.
use Rattle.std.specs.Prelude.{ℕ, ◌%◌, ◌^◌}
use Rattle.verdict.specs.declared.Verdict.{Verdict}
use Rattle.verdict.specs.declared.Verdict.TheVariants.{Pass, Fail, Inconclusive, Unreadable}
use Rattle.verdict.specs.declared.Ruling.{Ruling}
use Rattle.book_block.specs.Entries.{pass, fail, inconclusive, unreadable, made}
use Rattle.book_block.specs.declared.Entry.{Entry}

unfoldable pub verdict_number : Verdict → ℕ
verdict_number Pass = pass
verdict_number Fail = fail
verdict_number Inconclusive = inconclusive
verdict_number Unreadable = unreadable

-- what is entered for a tape under its number; no place and no code that the judge gives is above four bytes (`book_judged`)
unfoldable pub entry_of : ℕ → Ruling → Entry
entry_of tape a = made tape (verdict_number a.verdict) (a.place % 2 ^ 32) (a.code % 2 ^ 32)
