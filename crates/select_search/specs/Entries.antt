-- How applications join while the list is made: the steps that the code takes. Nothing here need be believed.
-- Assumes nothing.
use Rattle.std.specs.Prelude.{Bool, ◌&&◌, List, [], ◌∷◌, ℕ, eqb, take}
use Rattle.slices.specs.Choice.{pick}
use Rattle.start_list.specs.Rows.{name_room}
use Rattle.start_list.specs.Listing.{Applications}
use Rattle.tlv_list.specs.Objects.{Object}
use Rattle.answer_common.specs.Named.{standing}
use Rattle.select_names.specs.Names.{supported}
use Rattle.select_answers.specs.Files.{application_name, application_indicator}
use Rattle.select_answers.specs.Directory.{entry_tag, is_named, entry_name, entry_indicator}
use Rattle.select_list.specs.Order.{Candidate, candidate_of, placed}
use Rattle.select_list.specs.Kept.{most_kept}
use Rattle.select_search.specs.Search.{has_status}

-- one joins, as far as there is room for its name and for the list
unfoldable pub joined_one : Applications → List ℕ → ℕ → List Candidate → List Candidate
joined_one t name indicator l = take most_kept (placed (candidate_of t.choice (take name_room name) indicator) l)

-- whether an entry has a name that matches
unfoldable pub entry_met : Applications → List ℕ → Bool
entry_met t e = is_named (standing e) && supported t (entry_name (standing e))

unfoldable pub member_joined : Applications → ℕ → List ℕ → List Candidate → List Candidate
member_joined t tag e l =
    pick (eqb tag entry_tag) (pick (entry_met t e) (joined_one t (entry_name (standing e)) (entry_indicator (standing e)) l) l) l

unfoldable pub members_joined : Applications → List Object → List Candidate → List Candidate
members_joined t [] l = l
members_joined t (m ∷ ms) l = members_joined t ms (member_joined t m.tag m.value l)

-- an application that an AID found, where it is not blocked
unfoldable pub found_joined : Applications → List ℕ → List Candidate → List Candidate
found_joined t a l = pick (has_status 0x9000 a) (joined_one t (application_name a) (application_indicator a) l) l
