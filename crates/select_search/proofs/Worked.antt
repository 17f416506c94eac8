-- Selections worked out, each by computation: what is asked, shown and found at every turn.
-- Assumes nothing.
use mathlib.Core.Path.{◌≡◌, refl}
use mathlib.Core.Bool.{Bool, true, false}
use mathlib.Core.List.{List, [], ◌∷◌, ◌++◌, map}
use Prim.Native.Nat.{ℕ}
use lib.ListN.{length}
use Rattle.slices.specs.Tests.{between, alike}
use Rattle.dol_wanted.specs.Wanted.{and_then, size_at, first_wanted, asks as asks_for, wanted_step, entries_of, total, fits, fillable}
use Rattle.start_list.specs.Listing.{Applications, listed_at}
use Rattle.answer_common.proofs.Opened.{one, two, good, opened}
use Rattle.answer_select.specs.Select.{inner, pdol_of}
use Rattle.commands.specs.Commands.{record_command}
use Rattle.select_names.specs.Names.{begins_with, matches, supported}
use Rattle.select_answers.specs.Objects.{name_right, indicator_right, indicator_of, file_right}
use Rattle.select_answers.specs.Files.{environment, environment_right, directory_file, application_right, is_application}
use Rattle.select_answers.specs.Files.{application_name, application_indicator}
use Rattle.select_answers.specs.Directory.{is_named, entry_right, entries, entries_in, record_right, entry_name}
use Rattle.select_answers.specs.Directory.{entry_indicator, applications, applications_of}
use Rattle.select_list.specs.Order.{priority, confirms, standing_of, candidate_of, placed, without, shown_of}
use Rattle.select_list.specs.Kept.{candidate_at}
use Rattle.select_search.specs.Search.{Search, Found, asks, shows, runs, over, begun, select_by, command_at, asked}
use Rattle.select_search.specs.Search.{may_go_on, goes, offers, with_list, has_status}
use Rattle.select_search.specs.Final.{attended, unattended, final_selection, chosen, less_one, selected, after_final}
use Rattle.select_search.specs.Listing.{from_first, next_aid, joined_by, compared, after_listed}
use Rattle.select_search.specs.Directory.{after_environment, joined_all, next_record, after_record}
use Rattle.select_search.specs.Heard.{heard_at, heard}
use Rattle.select_search.specs.declared.Step.TheVariants.{Listed}

-- the card's answer, or the shopper's choice; what does not fit changes nothing
data Said : Type 0 where
  answer : List ℕ → Said
  choice : ℕ → Said

turn : Applications → Found → Said → Found
unfolding opened between alike and_then size_at first_wanted asks_for wanted_step entries_of total fits fillable inner pdol_of begins_with
    matches supported name_right indicator_right indicator_of file_right environment_right directory_file application_right is_application
    application_name application_indicator is_named entry_right entries entries_in record_right entry_name entry_indicator applications
    applications_of priority confirms standing_of candidate_of placed without candidate_at listed_at may_go_on goes offers with_list
    has_status
    attended unattended final_selection chosen less_one selected after_final from_first next_aid joined_by compared after_listed
    after_environment joined_all next_record after_record heard_at heard
turn t (asks s) (answer a) = heard t s a
turn t (asks s) (choice c) = asks s
turn t (shows s) (answer a) = shows s
turn t (shows s) (choice c) = chosen s c
turn t (runs l) e = runs l
turn t (over r) e = over r

-- the command; how many are shown; '9F38' and the list; the reason
told : Applications → Found → List ℕ
unfolding turn asked command_at select_by record_command shown_of
told t (asks s) = asked t s
told t (shows s) = shown_of s.list ∷ []
told t (runs l) = 0x9F ∷ 0x38 ∷ l
told t (over r) = r ∷ []

trail : Applications → Found → List Said → List (List ℕ)
unfolding told turn begun
trail t f [] = told t f ∷ []
trail t f (e ∷ es) = told t f ∷ trail t (turn t f e) es

first : Found
unfolding trail
first = asks begun

abbrev visa : List ℕ
visa = 0xA0 ∷ 0x00 ∷ 0x00 ∷ 0x00 ∷ 0x03 ∷ 0x10 ∷ 0x10 ∷ []

abbrev other : List ℕ
other = 0xA0 ∷ 0x00 ∷ 0x00 ∷ 0x00 ∷ 0x04 ∷ []

abbrev longer : List ℕ
longer = 0xA0 ∷ 0x00 ∷ 0x00 ∷ 0x00 ∷ 0x04 ∷ 0x10 ∷ 0x10 ∷ 0x01 ∷ []

abbrev terminal : Bool → Applications
terminal can = record { list = record { aid = visa; partial = false } ∷ record { aid = other; partial = true } ∷ []; choice = can }

abbrev select : ℕ → List ℕ → List ℕ
select p2 name = 0x00 ∷ 0xA4 ∷ 0x04 ∷ p2 ∷ length name ∷ (name ++ (0x00 ∷ []))

abbrev status : ℕ → ℕ → List ℕ
status a b = a ∷ b ∷ []

abbrev fci : List ℕ → List ℕ → List ℕ
fci name inside = one 0x6F (one 0x84 name ++ one 0xA5 inside)

-- two applications in a directory; the shopper takes the one that is blocked, and confirms the other
directory : trail (terminal true) first
    (answer (good (fci environment (one 0x88 (0x02 ∷ []))))
    ∷ answer
    (good
    (one 0x70
    (one 0x61 (one 0x4F visa ++ (one 0x50 (0x43 ∷ []) ++ one 0x87 (0x02 ∷ [])))
    ++ one 0x61 (one 0x4F longer ++ (one 0x50 (0x44 ∷ []) ++ one 0x87 (0x81 ∷ []))))))
    ∷ answer (status 0x6A 0x83)
    ∷ choice 0
    ∷ answer (fci longer [] ++ status 0x62 0x83)
    ∷ choice 0
    ∷ answer (good (fci visa (two 0x9F 0x38 (0x9F ∷ 0x33 ∷ 0x03 ∷ []))))
    ∷ [])
    ≡ select 0x00 environment
    ∷ (0x00 ∷ 0xB2 ∷ 0x01 ∷ 0x14 ∷ 0x00 ∷ [])
    ∷ (0x00 ∷ 0xB2 ∷ 0x02 ∷ 0x14 ∷ 0x00 ∷ [])
    ∷ (2 ∷ [])
    ∷ select 0x00 longer
    ∷ (1 ∷ [])
    ∷ select 0x00 visa
    ∷ (0x9F ∷ 0x38 ∷ 0x9F ∷ 0x33 ∷ 0x03 ∷ [])
    ∷ []
unfolding first
directory = refl

-- no directory, and nobody to ask: the exact AID is missing, the partial one has two occurrences, of which the first wants a confirmation
partial_name : trail (terminal false) first
    (answer (status 0x6A 0x82)
    ∷ answer (status 0x6A 0x81)
    ∷ [])
    ≡ select 0x00 environment ∷ select 0x00 visa ∷ (12 ∷ []) ∷ []
unfolding first
partial_name = refl

next_occurrence : trail (terminal false) first
    (answer (status 0x6A 0x82)
    ∷ answer (status 0x6A 0x82)
    ∷ answer (good (fci longer (one 0x87 (0x81 ∷ []))))
    ∷ answer (good (fci (other ++ (0x20 ∷ [])) []))
    ∷ answer (status 0x6A 0x82)
    ∷ answer (status 0x69 0x85)
    ∷ [])
    ≡ select 0x00 environment
    ∷ select 0x00 visa
    ∷ select 0x00 other
    ∷ select 0x02 other
    ∷ select 0x02 other
    ∷ select 0x00 (other ++ (0x20 ∷ []))
    ∷ (12 ∷ [])
    ∷ []
unfolding first
next_occurrence = refl

-- 6A82 to everything: three exchanges with two AIDs, and nobody
nobody : trail (terminal true) first (answer (status 0x6A 0x82) ∷ answer (status 0x6A 0x82) ∷ answer (status 0x6A 0x82) ∷ [])
    ≡ select 0x00 environment ∷ select 0x00 visa ∷ select 0x00 other ∷ (12 ∷ []) ∷ []
unfolding first
nobody = refl

-- a record with a match, then one with a faulty entry: the match is forgotten, and the list of AIDs is used
faulty_directory : trail (terminal true) first
    (answer (good (fci environment (one 0x88 (0x01 ∷ []))))
    ∷ answer (good (one 0x70 (one 0x61 (one 0x4F visa))))
    ∷ answer (good (one 0x70 (one 0x61 (one 0x4F (0xA0 ∷ [])))))
    ∷ answer (status 0x6A 0x82)
    ∷ answer (status 0x6A 0x81)
    ∷ [])
    ≡ select 0x00 environment
    ∷ (0x00 ∷ 0xB2 ∷ 0x01 ∷ 0x0C ∷ 0x00 ∷ [])
    ∷ (0x00 ∷ 0xB2 ∷ 0x02 ∷ 0x0C ∷ 0x00 ∷ [])
    ∷ select 0x00 visa
    ∷ select 0x00 other
    ∷ (12 ∷ [])
    ∷ []
unfolding first
faulty_directory = refl

-- a blocked application does not join; one without b8 that stands alone is selected, and where the card answers with a name that only
-- begins with the name sent it falls out
later : trail (terminal true) first
    (answer (status 0x6A 0x82)
    ∷ answer (good (fci visa []))
    ∷ answer (fci other [] ++ status 0x62 0x83)
    ∷ answer (good (fci (visa ++ (0x01 ∷ [])) []))
    ∷ [])
    ≡ select 0x00 environment ∷ select 0x00 visa ∷ select 0x00 other ∷ select 0x00 visa ∷ (12 ∷ []) ∷ []
unfolding first
later = refl

-- '6A81' to a later AID is an answer like others
blocked_card : trail (terminal true) first (answer (status 0x6A 0x82) ∷ answer (good (fci visa [])) ∷ answer (status 0x6A 0x81) ∷ [])
    ≡ select 0x00 environment ∷ select 0x00 visa ∷ select 0x00 other ∷ select 0x00 visa ∷ []
unfolding first
blocked_card = refl

-- 'FF' is none of those shown; a list 9F38 that cannot be filled is reason 9
declined : trail (terminal true) first
    (answer (status 0x6A 0x82)
    ∷ answer (good (fci visa (one 0x87 (0x80 ∷ []))))
    ∷ answer (status 0x6A 0x82)
    ∷ choice 0xFF
    ∷ [])
    ≡ select 0x00 environment ∷ select 0x00 visa ∷ select 0x00 other ∷ (1 ∷ []) ∷ (12 ∷ []) ∷ []
unfolding first
declined = refl

unfilled : trail (terminal true) first
    (answer (status 0x6A 0x82)
    ∷ answer (good (fci visa []))
    ∷ answer (status 0x6A 0x82)
    ∷ answer (good (fci visa (two 0x9F 0x38 (0x00 ∷ []))))
    ∷ [])
    ≡ select 0x00 environment ∷ select 0x00 visa ∷ select 0x00 other ∷ select 0x00 visa ∷ (9 ∷ []) ∷ []
unfolding first
unfilled = refl

-- behind the hundredth exchange neither another nor a choice comes
made : ℕ → List ℕ → Search
unfolding turn
made n indicator =
    record {
      stand = record { exchanges = n; step = Listed 1 false; fallen = false };
      list = map (λ b. candidate_of true visa b) indicator;
    }

hundredth : map (λ f. told (terminal true) (turn (terminal true) (asks f) (answer (status 0x6A 0x82))))
    (made 99 (0x00 ∷ []) ∷ made 100 (0x00 ∷ []) ∷ made 99 (0x80 ∷ []) ∷ made 100 (0x80 ∷ []) ∷ made 100 [] ∷ [])
    ≡ select 0x00 visa ∷ (11 ∷ []) ∷ (1 ∷ []) ∷ (11 ∷ []) ∷ (12 ∷ []) ∷ []
unfolding first made
hundredth = refl
