-- A card that makes a selection as long as it can be, and the terminal that it meets: one AID is listed, exact, and the shopper can choose; the
-- directory has records of twenty-eight entries each, all under that AID; and whoever is taken falls out. What each exchange leads to.
-- Assumes nothing.
use mathlib.Core.Path.{◌≡◌, refl, ap, ◌∙◌}
use mathlib.Core.Bool.{Bool, true, false, not, ◌&&◌, ◌||◌}
use mathlib.Core.List.{List, [], ◌∷◌, ◌++◌}
use Prim.Native.Nat.{ℕ, zero, suc, ◌+◌, ◌<◌}
use native.Mathlib.Omega.{arith}
use lib.Dec.{eqb, ltb}
use lib.ListN.{length, take, drop, replicate}
use borrow.Author.Tests.{lt-ltb, ne_eqb}
use Rattle.slices.specs.Choice.{pick}
use Rattle.slices.specs.Writing.{zeros}
use Rattle.slices.proofs.Choice.{pick_yes, pick_no, and_both}
use Rattle.start_fields.specs.Reading.{reading_of}
use Rattle.start_list.specs.Rows.{room_in, name_in, mark_in, rows_in}
use Rattle.start_list.specs.Listing.{count_in, fields_in, listed_of, applications_in, listed_at}
use Rattle.start_list.specs.Valid.{valid_field, valid_list}
use Rattle.start_choosing.specs.Start.{is_listing, valid_listing, with_first_alone}
use Rattle.answer_common.specs.Answer.{size_bad}
use Rattle.select_names.specs.Names.{begins_with, matches, supported}
use Rattle.select_answers.specs.Objects.{name_right, indicator_right, indicator_of, file_right}
use Rattle.select_answers.specs.Files.{environment, environment_right, directory_file, application_right, is_application, application_name}
use Rattle.select_answers.specs.Files.{application_indicator}
use Rattle.select_answers.specs.Directory.{Met, is_named, entry_right, entries as entries_of}
use Rattle.select_answers.specs.Directory.{entries_in, record_right, entry_name, entry_indicator}
use Rattle.select_answers.specs.Directory.{applications, applications_of}
use Rattle.select_list.specs.Order.{Candidate, priority, confirms, standing_of, candidate_of, placed, without}
use Rattle.select_list.specs.Kept.{candidate_in, candidate_at}
use Rattle.select_search.specs.Search as search
use Rattle.select_search.specs.Search.{Search, select_by, command_at, asked, may_go_on, goes, offers, has_status}
use Rattle.select_search.specs.Final.{attended, unattended, final_selection, chosen, less_one, selected, after_final}
use Rattle.select_search.specs.Directory.{after_environment, joined_all, next_record, after_record}
use Rattle.select_search.specs.Heard.{heard_at, heard}
use Rattle.select_search.specs.declared.Step.{Step}
use Rattle.select_search.specs.declared.Step.TheVariants.{Environment, Directory, Final}
use Rattle.sessions.specs.Rules.{asks, hears}
use Rattle.rulebook.specs.Situation.{begun}
use Rattle.rulebook.proofs.Opening.{reached}
use Rattle.rulebook.proofs.Made.{start_of, with_list}
use Rattle.rulebook.proofs.Longest.{options_asked}
use Rattle.rulebook.specs.Later.{AskedLater, HeardLater, as_was, allowed_later, after_later}
use Rattle.rulebook_choosing.specs.Choosing.{Choosing, ChoosingPhase, further, following, searched, chose, listed}

-- ---- the terminal and the card

abbrev pub base : List ℕ
base = start_of 2

-- START with one AID, which is exact; the shopper can choose
abbrev pub listing : List ℕ
listing =
    take 57 base ++ (1 ∷ (take 17 (drop 57 base) ++ (0 ∷ (zeros 126 ++ (take 3 (drop 74 base) ++ (1 ∷ 1 ∷ []))))))

-- the environment, whose directory is file 1
abbrev pub directory : List ℕ
directory = 0x6F ∷ 0x15 ∷ 0x84 ∷ 0x0E ∷ (environment ++ (0xA5 ∷ 0x03 ∷ 0x88 ∷ 0x01 ∷ 0x01 ∷ 0x90 ∷ 0x00 ∷ []))

abbrev pub aid : List ℕ
aid = 0xA0 ∷ 0 ∷ 0 ∷ 0 ∷ 3 ∷ []

abbrev pub entries : ℕ → List ℕ
entries zero = []
entries (suc n) = 0x61 ∷ 0x07 ∷ 0x4F ∷ 0x05 ∷ (aid ++ entries n)

abbrev pub record28 : List ℕ
record28 = 0x70 ∷ 0x81 ∷ 0xFC ∷ (entries 28 ++ (0x90 ∷ 0x00 ∷ []))

abbrev pub no_record : List ℕ
no_record = 0x6A ∷ 0x83 ∷ []

abbrev pub missing : List ℕ
missing = 0x6A ∷ 0x82 ∷ []

abbrev pub met : Met
met = record { name = aid; indicator = 0 }

-- ---- what is computed of them

-- a search with every definition under it open
unfoldable pub computed : Choosing → List ℕ → ChoosingPhase
unfolding reached room_in name_in mark_in rows_in count_in fields_in listed_of applications_in listed_at valid_field valid_list is_listing
    with_first_alone
    valid_listing begins_with matches supported name_right indicator_right indicator_of file_right environment_right directory_file
    application_right is_application application_name application_indicator is_named entry_right entries_of entries_in record_right
    entry_name
    entry_indicator applications applications_of candidate_in candidate_at priority confirms standing_of candidate_of placed without
    after_environment next_record after_record attended unattended final_selection less_one selected after_final heard_at heard
    select_by command_at asked may_go_on goes offers has_status searched following further listed allowed_later after_later
computed x a = searched x a

pub listing_valid : valid_listing listing ≡ true
unfolding computed
listing_valid = refl

first_alone : with_first_alone listing ≡ base
unfolding computed
first_alone = refl

can_choose : (applications_in listing).choice ≡ true
unfolding computed
can_choose = refl

aid_supported : supported (applications_in listing) aid ≡ true
unfolding computed
aid_supported = refl

record_right_lem : record_right record28 ≡ true
unfolding computed
record_right_lem = refl

record_told : applications_of record28 ≡ replicate 28 met
unfolding computed
record_told = refl

record_size_lem : size_bad record28 ≡ false
unfolding computed
record_size_lem = refl

record_good : has_status 0x9000 record28 ≡ true
unfolding computed
record_good = refl

record_there : has_status 0x6A83 record28 ≡ false
unfolding computed
record_there = refl

-- ---- where the selection stands

-- the one application that is met, over and over
abbrev pub one : Candidate
one = candidate_of true aid 0

-- with so many of it in the list
abbrev pub at : ℕ → Step → Bool → ℕ → Choosing
at e step fallen n =
    record {
      situation = begun (reading_of base);
      applications = applications_in listing;
      search = record { stand = record { exchanges = e; step = step; fallen = fallen }; list = replicate n one };
    }

one_more_lem : (n : ℕ) → placed one (replicate n one) ≡ replicate (suc n) one
unfolding computed
one_more_lem zero = refl
one_more_lem (suc n) = ap (λ (l : List Candidate). one ∷ l) (one_more_lem n)

joins : (n : ℕ) → pick (supported (applications_in listing) aid)
    (placed (candidate_of (applications_in listing).choice aid 0) (replicate n one))
    (replicate n one)
    ≡ replicate (suc n) one
joins n =
    pick_yes _ _ _ aid_supported ∙ (ap (λ (b : Bool). placed (candidate_of b aid 0) (replicate n one)) can_choose ∙ one_more_lem n)

-- all of a record join
all_more : (k n : ℕ) → joined_all (applications_in listing) (replicate k met) (replicate n one) ≡ replicate (k + n) one
unfolding joined_all
all_more zero n = ap (λ (m : ℕ). replicate m one) (let same : n ≡ 0 + n = omega arith in same)
all_more (suc k) n =
    ap (joined_all (applications_in listing) (replicate k met)) (joins n)
    ∙ (all_more k (suc n) ∙ ap (λ (m : ℕ). replicate m one) (let same : k + suc n ≡ suc k + n = omega arith in same))

-- ---- from one exchange to the next

pub environment_found : searched (at 1 Environment false 0) directory ≡ asks (AskedLater.new (at 2 (Directory 1 1) false 0))
unfolding computed
environment_found = refl

pub record_read : (e number n : ℕ) → e < 100
    → searched (at e (Directory 1 number) false n) record28
    ≡ asks (AskedLater.new (at (e + 1) (Directory 1 (next_record number)) false (28 + n)))
unfolding searched following further heard heard_at after_record goes may_go_on search.with_list
record_read e number n h =
    let x = at e (Directory 1 number) false n in
    let t = applications_in listing in
    let s = x.search in
    let next = Directory 1 (next_record number) in
    ap (following x)
    (pick_no _ _ _ record_size_lem
    ∙ (pick_no _ _ _ (ap (λ (b : Bool). b && not (eqb (length s.list) 0)) record_there)
    ∙ (pick_yes _ _ _ (and_both _ _ record_good record_right_lem)
    ∙ (ap (λ (ms : List Met). goes (search.with_list (joined_all t ms s.list) s) next) record_told
    ∙ (ap (λ (l : List Candidate). goes (search.with_list l s) next) (all_more 28 n)
    ∙ pick_yes _ _ _ (lt-ltb e 100 h))))))

pub complete : searched (at 6 (Directory 1 5) false 112) no_record ≡ hears (HeardLater.new (at 6 (Directory 1 5) false 112))
unfolding computed
complete = refl

pub sent : (e : ℕ) (step : Step) (fallen : Bool) (n : ℕ) → e < 100
    → chose (at e step fallen n) (0 ∷ []) ≡ asks (AskedLater.new (at (e + 1) (Final 0 true) fallen n))
unfolding chose chosen following further goes may_go_on pick
sent e step fallen n h = ap (following (at e step fallen n)) (pick_yes _ _ _ (lt-ltb e 100 h))

or_true : (a b : Bool) → b ≡ true → (a || b) ≡ true
or_true true b h = refl
or_true false b h = h

missing_size : size_bad missing ≡ false
unfolding computed
missing_size = refl

missed : (l : List Candidate) → selected l 0 missing ≡ false
unfolding computed
missed l = refl

-- where one that the shopper took has fallen out and others are left, he is asked again
asked_again : (s : Search) → eqb (length s.list) 0 ≡ false → s.stand.fallen ≡ true → s.stand.exchanges < 100
    → final_selection (applications_in listing) s ≡ search.shows s
unfolding final_selection attended offers may_go_on
asked_again s some fallen h =
    pick_no _ _ _ some
    ∙ (pick_yes _ _ _ can_choose
    ∙ (pick_yes _ _ _ (or_true (ltb 1 (length s.list)) _ (or_true (candidate_at s.list 0).confirm _ fallen))
    ∙ pick_yes _ _ _ (lt-ltb s.stand.exchanges 100 h)))

some_left : (m : ℕ) → eqb (length (replicate (suc m) one)) 0 ≡ false
some_left m = ne_eqb (length (replicate (suc m) one)) 0 (λ z. omega arith)

pub falls_out : (e : ℕ) (fallen : Bool) (m : ℕ) → e < 100
    → searched (at e (Final 0 true) fallen (suc (suc m))) missing ≡ hears (HeardLater.new (at e (Final 0 true) true (suc m)))
unfolding searched following further heard heard_at after_final less_one without
falls_out e fallen m h =
    let x = at e (Final 0 true) fallen (suc (suc m)) in
    let taken = or_true fallen true refl in
    ap (following x)
    (pick_no _ _ _ missing_size
    ∙ (pick_no _ _ _ (missed x.search.list) ∙ asked_again (less_one 0 true x.search) (some_left m) taken h))
    ∙ ap (λ (b : Bool). hears (HeardLater.new (at e (Final 0 true) b (suc m)))) taken

pub runs : (fallen : Bool) (m : ℕ) → searched (at 100 (Final 0 true) fallen (suc m)) with_list ≡ as_was options_asked
unfolding computed as_was
runs fallen m = refl
