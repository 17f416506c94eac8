-- Whom a session selects: the search's own laws, at every phase that a session passes.
-- Assumes nothing.
use mathlib.Core.Path.{◌≡◌, refl, sym, ◌∙◌, subst}
use mathlib.Core.Bool.{Bool, true, false, ◌||◌, false≢true}
use mathlib.Core.List.{List, [], ◌∷◌}
use Prim.Native.Nat.{ℕ, zero, suc, ◌<◌, ◌≤◌}
use native.Mathlib.Omega.{arith}
use lib.Dec.{eqb, leb}
use lib.ListN.{length, get_or, length-map}
use borrow.Author.Tests.{ltb-true, leb-false}
use Rattle.slices.proofs.Choice.{picked, pick_yes, pick_no, either}
use Rattle.slices.proofs.Tests.{first_held}
use Rattle.answer_common.proofs.Limits.{bounds}
use Rattle.tape_read.specs.Entries.{Entry}
use Rattle.start_list.specs.Listing.{Applications, applications_in, count_in, fields_in, count_at}
use Rattle.start_list.specs.Rows.{rows_in}
use Rattle.start_list.specs.Valid.{valid_list}
use Rattle.start_list.proofs.InRows.{rows_length}
use Rattle.select_names.specs.Names.{supported}
use Rattle.select_list.specs.Order.{Candidate, shown_of}
use Rattle.select_list.specs.Kept.{candidate_at}
use Rattle.select_search.specs.Search as search
use Rattle.select_search.specs.Search.{Search, Found, runs, over, goes, may_go_on}
use Rattle.select_search.specs.Final.{chosen}
use Rattle.select_search.specs.Heard.{heard}
use Rattle.select_search.specs.declared.Step.{Step}
use Rattle.select_search.specs.declared.Step.TheVariants.{Environment, Directory, Listed, Final}
use Rattle.select_laws.specs.Supported.{AllSupported, Known}
use Rattle.select_laws.specs.Unasked.{TakenAt, Unasked}
use Rattle.select_laws.proofs.Matching.{heard_known, chosen_known}
use Rattle.select_laws.proofs.Words.{heard_unasked}
use Rattle.words.specs.Choice.{is_choice}
use Rattle.sessions.specs.Rules.{asks, hears, decides}
use Rattle.sessions.specs.Stated.{InRow}
use Rattle.sessions.proofs.Rows.{reading_in_row}
use Rattle.rulebook.specs.Phase.{Phase, terminal, says}
use Rattle.rulebook.specs.Turn.{turn, after}
use Rattle.rulebook.specs.Later.{AskedLater, HeardLater, as_was, turn_later, allowed_later, after_later}
use Rattle.start_choosing.specs.Start.{is_listing, valid_listing}
use Rattle.rulebook_choosing.specs.Choosing.{Choosing, ChoosingPhase, further, following, searched}
use Rattle.rulebook_choosing.specs.Choosing.{may_choose, chose, listed}
use Rattle.rulebook_choosing.specs.Session.{rules, Reads}
use Rattle.rulebook_choosing.specs.Sent.{Each, SentWell, Sound, Offered, SoundAt}
use Rattle.rulebook_choosing.specs.Sent.{ByItself, Worded, same, chosen as behind_choice, unasked}
use Rattle.rulebook_choosing.proofs.Along.{reading_along}

-- whom the terminal takes by itself is sent well
taken_well : (t : Applications) (s : Search) (step : Step) → TakenAt t s step → SentWell t s.list step
taken_well t s Environment h = tt
taken_well t s (Directory file number) h = tt
taken_well t s (Listed aid again) h = tt
taken_well t s (Final place taken) h = (h.0, λ cannot. h.2)

module _ (x : Choosing) (some : 0 < length x.applications.list) where
  -- after an answer
  found_sound : (f : Found) → Known x.applications f → Unasked x.applications f → SoundAt (following x f)
  unfolding following further
  found_sound (search.asks s) known unasked' =
      record { some = some; supported = known.0; listed = known.1; sent = taken_well x.applications s s.stand.step unasked' }
  found_sound (search.shows s) known can = record { some = some; supported = known; can = can }
  found_sound (runs list) known unasked' = tt
  found_sound (over reason) known unasked' = tt

-- of two, one holds, and it is not the second
first_of_two : (a b : Bool) → (a || b) ≡ true → b ≡ false → a ≡ true
first_of_two true b e n = refl
first_of_two false b e n = absurd (false≢true (sym n ∙ e))

-- a choice that is allowed and not 'FF' is a place in the list
place_there : (l : List Candidate) (p : List ℕ) → is_choice (shown_of l) p ≡ true → eqb (get_or p 0 0) 0xFF ≡ false
    → get_or p 0 0 < length l
unfolding is_choice shown_of
place_there l p e n =
    let one = first_held _ _ e in
    let either_way = (first_held _ _ one.1).0 in
    let small = ltb-true (get_or p 0 0) _ (first_of_two _ _ either_way n) in
    picked (λ (m : ℕ). get_or p 0 0 < m → get_or p 0 0 < length l) (leb (length l) 255) (length l) 255
    (λ y h. h)
    (λ no h. let more = leb-false (length l) 255 no in omega arith)
    small

module _ (x : Choosing) (offered : Offered x) (p : List ℕ) (fits : may_choose x p ≡ true) where
  -- after a choice
  choice_sound : SoundAt (chose x p)
  unfolding chose chosen following further goes may_choose
  choice_sound =
      let s = x.search in
      let place = get_or p 0 0 in
      let known = chosen_known x.applications s offered.supported place in
      picked (λ (f : Found). SoundAt (following x f)) (eqb place 0xFF) (over 12) (goes s (Final place true)) (λ y. tt)
      (λ n.
      picked (λ (f : Found). SoundAt (following x f)) (may_go_on s) _ (over 11)
      (λ y.
      record {
        some = offered.some;
        supported = offered.supported;
        listed = tt;
        sent = (place_there s.list p fits n, λ cannot. absurd (false≢true (sym cannot ∙ offered.can)));
      })
      (λ m. tt))

-- ---- START

-- as many are listed as START says, and no more than there are fields
pub list_count : (p : List ℕ) → length (applications_in p).list ≡ count_in p
unfolding applications_in
list_count p = length-map (rows_in (count_in p) (fields_in p)) _ ∙ rows_length (count_in p) (fields_in p)

count_one : (p : List ℕ) → 1 ≤ get_or p count_at 0 → 1 ≤ count_in p
unfolding count_in
count_one p h = picked (λ (n : ℕ). 1 ≤ n) (leb (get_or p count_at 0) 8) (get_or p count_at 0) 8 (λ y. h) (λ n. omega arith)

-- a valid list has an AID
pub list_some : (p : List ℕ) → valid_listing p ≡ true → 0 < length (applications_in p).list
unfolding valid_listing valid_list
list_some p e =
    let valid = (first_held _ _ (first_held _ _ (first_held _ _ e).1).1).0 in
    let count = bounds _ _ _ (first_held _ _ valid).0 in
    let many = list_count p in
    let counted = count_one p count.0 in
    omega arith

was_sound : (q : Phase) → SoundAt (as_was q)
unfolding as_was
was_sound (asks w) = tt
was_sound (hears h) = tt
was_sound (decides outcome reason s) = tt

listing_sound : (p : List ℕ) → valid_listing p ≡ true → SoundAt (asks (AskedLater.new (listed p)))
unfolding listed search.begun
listing_sound p valid = record { some = list_some p valid; supported = tt; listed = tt; sent = tt }

start_sound : (p : List ℕ) → rules.allowed (HeardLater.was terminal) p ≡ true → SoundAt (rules.after (HeardLater.was terminal) p)
unfolding allowed_later after_later
start_sound p fits =
    either (is_listing p)
    (λ y. subst SoundAt (sym (pick_yes _ _ _ y)) (listing_sound p (sym (pick_yes _ _ _ y) ∙ fits)))
    (λ n. subst SoundAt (sym (pick_no _ _ _ n)) (was_sound (after terminal p)))

-- ---- every phase of a reading

turn_sound : (w : AskedLater Choosing) (a : List ℕ) → SoundAt (asks w) → SoundAt (rules.turn w a)
unfolding turn_later searched
turn_sound (AskedLater.was w) a h = was_sound (turn w a)
turn_sound (AskedLater.new x) a h =
    let t = x.applications in
    found_sound x h.some (heard t x.search a) (heard_known t h.some x.search h.supported a h.listed)
    (heard_unasked t x.search a)

after_sound : (h : HeardLater Choosing) (p : List ℕ) → rules.allowed h p ≡ true → SoundAt (hears h) → SoundAt (rules.after h p)
unfolding after_later allowed_later
after_sound (HeardLater.was terminal) p fits h = start_sound p fits
after_sound (HeardLater.was (says word s)) p fits h = was_sound (after (says word s) p)
after_sound (HeardLater.new x) p fits h = choice_sound x h p fits

pub reading_sound : (es : List Entry) (ps : List ChoosingPhase) → Reads es ps → Each SoundAt ps
reading_sound = reading_along rules SoundAt turn_sound after_sound tt

-- so the name that a final SELECT sends equals an AID of START, or begins with one that is partial
all_at : (t : Applications) (l : List Candidate) (place : ℕ) → AllSupported t l → place < length l
    → supported t (candidate_at l place).name ≡ true
unfolding candidate_at
all_at t [] place h lt = absurd (omega arith)
all_at t (c ∷ l) zero h lt = h.0
all_at t (c ∷ l) (suc place) h lt = all_at t l place h.1 (omega arith)

pub sent_supported : (x : Choosing) (place : ℕ) (taken : Bool) → x.search.stand.step ≡ Final place taken → Sound x
    → supported x.applications (candidate_at x.search.list place).name ≡ true
sent_supported x place taken e sound =
    let well : SentWell x.applications x.search.list (Final place taken) =
    subst (SentWell x.applications x.search.list) e sound.sent in
    all_at x.applications x.search.list place sound.supported well.0

-- ---- the shopper's word

found_worded : (x : Choosing) (f : Found) → Unasked x.applications f → ByItself (following x f)
unfolding following further
found_worded x (search.asks s) h = h
found_worded x (search.shows s) h = tt
found_worded x (runs list) h = tt
found_worded x (over reason) h = tt

was_worded : (q : Phase) → ByItself (as_was q)
unfolding as_was
was_worded (asks w) = tt
was_worded (hears h) = tt
was_worded (decides outcome reason s) = tt

turn_worded : (w : AskedLater Choosing) (a : List ℕ) → Worded (asks w) (rules.turn w a)
unfolding turn_later searched
turn_worded (AskedLater.was w) a = unasked (was_worded (turn w a))
turn_worded (AskedLater.new x) a = unasked (found_worded x _ (heard_unasked x.applications x.search a))

listing_worded : (p : List ℕ) → ByItself (asks (AskedLater.new (listed p)))
unfolding listed search.begun
listing_worded p = tt

after_worded : (h : HeardLater Choosing) (p : List ℕ) → Worded (hears h) (rules.after h p)
unfolding after_later
after_worded (HeardLater.was terminal) p =
    unasked (picked ByItself (is_listing p) (asks (AskedLater.new (listed p))) (as_was (after terminal p)) (λ y. listing_worded p)
    (λ n. was_worded (after terminal p)))
after_worded (HeardLater.was (says word s)) p = unasked (was_worded (after (says word s) p))
after_worded (HeardLater.new x) p = behind_choice

pub reading_worded : (es : List Entry) (ps : List ChoosingPhase) → Reads es ps → InRow Worded ps
reading_worded = reading_in_row rules Worded (λ p. same) turn_worded after_worded
