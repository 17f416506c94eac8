-- What a line says of a tape: verdict, place and code as the judge's program writes them (01, "The tape"), and behind them nothing, or
-- one number more, which is not entered (02, R-6 and R-11). Assumes nothing.
use Rattle.std.specs.Prelude.{Bool, true, ◌&&◌, Option, Some, None, is_some, unwrap_or, option_and_then, List, ℕ, ◌+◌, eqb, leb, length, take, drop}
use Rattle.std.specs.Bool.{then_some}
use Rattle.slices.specs.Choice.{pick}
use Rattle.slices.specs.Tests.{alike}
use Rattle.text_lines.specs.Lines.{line_end, word_end, after_word}
use Rattle.text_lines.specs.Decimal.{no_number, number_in}
use Rattle.verdict.specs.declared.Verdict.{Verdict}
use Rattle.verdict.specs.declared.Verdict.TheVariants.{Pass, Fail, Inconclusive, Unreadable}
use Rattle.verdict_line.specs.Line.{word_of}
use Rattle.book_block.specs.Entries.{made}
use Rattle.book_block.specs.declared.Entry.{Entry}
use Rattle.book_answer.specs.Answers.{verdict_number}

-- the first word of a text
unfoldable pub word_in : List ℕ → List ℕ
word_in s = take (word_end s 0) (drop 0 s)

-- the first word of a text as a number of four bytes, where it is one
unfoldable pub number_said : List ℕ → Option ℕ
number_said s = pick (leb no_number (number_in (word_in s))) None (Some (number_in (word_in s)))

-- the verdict that a word names, if it names one
unfoldable pub verdict_named : List ℕ → Option Verdict
verdict_named w =
    pick (alike w (word_of Pass)) (Some Pass)
    (pick (alike w (word_of Fail)) (Some Fail)
    (pick (alike w (word_of Inconclusive)) (Some Inconclusive)
    (pick (alike w (word_of Unreadable)) (Some Unreadable) None)))

-- nothing is left of a line, or one number
unfoldable pub closes : List ℕ → Bool
closes rest = pick (eqb (length rest) 0) true (is_some (number_said rest) && eqb (length (after_word rest)) 0)

-- its number in a block; 0: none
abbrev pub number_of : Option Verdict → ℕ
number_of (Some v) = verdict_number v
number_of None = 0

-- no verdict
abbrev pub nothing : ℕ → Entry
nothing tape = made tape 0 0 0

-- a line without its line feed: verdict, place and code, where both numbers are said and the line closes behind them
unfoldable pub fields_said : ℕ → List ℕ → Option Entry
fields_said tape s =
    option_and_then (λ place.
    option_and_then (λ code.
    then_some (closes (after_word (after_word (after_word s)))) (made tape (number_of (verdict_named (word_in s))) place code))
    (number_said (after_word (after_word s))))
    (number_said (after_word s))

-- one line: nothing stands behind its line feed
unfoldable pub entry_said : ℕ → List ℕ → Entry
entry_said tape s =
    pick (leb (length s) (line_end s 0 + 1)) (unwrap_or (fields_said tape (take (line_end s 0) (drop 0 s))) (nothing tape)) (nothing tape)
