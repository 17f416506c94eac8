-- Using the payment system environment and its directory: 001, 12.3.2.
-- Assumes nothing.
use Rattle.std.specs.Prelude.{not, ◌&&◌, List, [], ◌∷◌, ℕ, ◌+◌, ◌%◌, eqb, length}
use Rattle.slices.specs.Choice.{pick}
use Rattle.numbers.specs.Tables.{for_nobody}
use Rattle.start_list.specs.Listing.{Applications}
use Rattle.select_names.specs.Names.{supported}
use Rattle.select_answers.specs.Files.{directory_file}
use Rattle.select_answers.specs.Directory.{Met, record_right, applications_of}
use Rattle.select_list.specs.Order.{Candidate, candidate_of, placed}
use Rattle.select_search.specs.Search.{Search, Found, over, goes, with_list, has_status}
use Rattle.select_search.specs.Listing.{from_first}
use Rattle.select_search.specs.Final.{final_selection}
use Rattle.select_search.specs.declared.Step.TheVariants.{Directory}

-- 1: '6A81' ends the session; a good answer leads to the directory's first record, anything else to the list of AIDs
unfoldable pub after_environment : Search → List ℕ → Found
after_environment s a =
    pick (has_status 0x6A81 a) (over for_nobody)
    (pick (has_status 0x9000 a && not (eqb (directory_file a) 0)) (goes s (Directory (directory_file a) 1)) (from_first s))

-- 3: those that match one of the applications supported join, in the order of their entries
unfoldable pub joined_all : Applications → List Met → List Candidate → List Candidate
joined_all t [] l = l
joined_all t (m ∷ ms) l =
    joined_all t ms (pick (supported t m.name) (placed (candidate_of t.choice m.name m.indicator) l) l)

-- the record behind one: a number of one byte, which a selection counts up to 99
unfoldable pub next_record : ℕ → ℕ
next_record number = (number + 1) % 256

-- 4: behind the last record ('6A83') the list is complete, where somebody stands in it. 2 and 3: a good record's entries join, and the next
-- record is read. 5, and any error: the list is cleared, and the list of AIDs is used
unfoldable pub after_record : Applications → Search → ℕ → ℕ → List ℕ → Found
after_record t s file number a =
    pick (has_status 0x6A83 a && not (eqb (length s.list) 0)) (final_selection t s)
    (pick (has_status 0x9000 a && record_right a)
    (goes (with_list (joined_all t (applications_of a) s.list) s) (Directory file (next_record number)))
    (from_first (with_list [] s)))
