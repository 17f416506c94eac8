-- What a terminal remembers of a selection, and the command that is due. 001, 11.3.2 and 12.3; 02, R-12.
-- Assumes nothing.
use Rattle.std.specs.Prelude.{Bool, false, List, [], ◌∷◌, ◌++◌, ℕ, ◌+◌, ◌*◌, ◌-◌, eqb, ltb, length, get_or, take}
use Rattle.slices.specs.Choice.{pick}
use Rattle.numbers.specs.Tables.{for_exchanges}
use Rattle.start_list.specs.Listing.{Applications, listed_at}
use Rattle.commands.specs.Commands.{record_command}
use Rattle.select_answers.specs.Files.{environment}
use Rattle.select_list.specs.Order.{Candidate}
use Rattle.select_list.specs.Kept.{candidate_at}
use Rattle.select_search.specs.declared.Stand.{Stand}
use Rattle.select_search.specs.declared.Step.{Step}
use Rattle.select_search.specs.declared.Step.TheVariants.{Environment, Directory, Listed, Final}

-- where it stands, and the list of applications in its order
pub record Search : Type 0 where
  pub stand : Stand
  pub list : List Candidate

-- what follows an answer or a choice: the next exchange; a choice of the shopper's; GET PROCESSING OPTIONS, with the list 9F38 of the
-- application that runs; or the end, with its reason
pub data Found : Type 0 where
  asks : Search → Found
  shows : Search → Found
  runs : List ℕ → Found
  over : ℕ → Found

-- 12.3.2/1: the terminal begins by selecting the environment
unfoldable pub begun : Search
begun = record { stand = record { exchanges = 1; step = Environment; fallen = false }; list = [] }

-- SELECT by name: P2 '02' asks for the next occurrence (11.3.2)
unfoldable pub select_by : ℕ → List ℕ → List ℕ
select_by p2 name = 0x00 ∷ 0xA4 ∷ 0x04 ∷ p2 ∷ length name ∷ (name ++ (0x00 ∷ []))

unfoldable pub command_at : Applications → List Candidate → Step → List ℕ
command_at t l Environment = select_by 0 environment
command_at t l (Directory file number) = record_command number file
command_at t l (Listed aid again) = select_by (pick again 2 0) (listed_at t aid).aid
command_at t l (Final place taken) = select_by 0 (candidate_at l place).name

-- the command that a search asks
unfoldable pub asked : Applications → Search → List ℕ
asked t s = command_at t s.list s.stand.step

-- the most exchanges of a selection (02, R-12)
abbrev pub most_exchanges : ℕ
most_exchanges = 100

-- whether another exchange can be made
unfoldable pub may_go_on : Search → Bool
may_go_on s = ltb s.stand.exchanges most_exchanges

-- another exchange is due: where a hundred were made, the session ends at once
unfoldable pub goes : Search → Step → Found
goes s step =
    pick (may_go_on s)
    (asks
    (record {
      stand = record { exchanges = s.stand.exchanges + 1; step = step; fallen = s.stand.fallen };
      list = s.list;
    }))
    (over for_exchanges)

-- a choice before it is due: likewise
unfoldable pub offers : Search → Found
offers s = pick (may_go_on s) (shows s) (over for_exchanges)

-- the first n of its list
abbrev pub cut_to : ℕ → Search → Search
cut_to n s = record { stand = s.stand; list = take n s.list }

unfoldable pub with_list : List Candidate → Search → Search
with_list l s = record { stand = s.stand; list = l }

-- an answer's last two bytes
unfoldable pub has_status : ℕ → List ℕ → Bool
has_status status a = eqb (256 * get_or a (length a - 2) 0 + get_or a (length a - 1) 0) status
