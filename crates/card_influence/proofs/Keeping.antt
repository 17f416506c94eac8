-- What a session's state keeps of an answer is settled by what is seen of it, byte for byte: of GPO's the AIP and the AFL, of a record's
-- the named objects, and of the others nothing. The store passes every object over that is not named.
-- Assumes nothing.
use mathlib.Core.Path.{◌≡◌, refl, sym, ap, ◌∙◌}
use mathlib.Core.Bool.{Bool, false}
use mathlib.Core.List.{List, [], ◌∷◌, map}
use Prim.Native.Nat.{ℕ}
use lib.Dec.{eqb}
use Rattle.slices.specs.Choice.{pick}
use Rattle.slices.specs.Tables.{beside}
use Rattle.slices.specs.Tests.{is_some}
use Rattle.slices.proofs.Choice.{pick_yes, pick_no, either}
use Rattle.tlv_head.specs.Head.{constructed, first_byte}
use Rattle.tlv_list.specs.Objects.{Object}
use Rattle.tlv_list.specs.Place.{object_at, places_from}
use Rattle.tlv_list.proofs.Walking.{places_members}
use Rattle.answer_common.specs.Answer.{inside}
use Rattle.answer_common.specs.Content.{record_tag, names_for}
use Rattle.answer_common.specs.Named.{members_in, listed}
use Rattle.answer_common.proofs.Members.{members_of_lem, inside_list}
use Rattle.answer_afl.specs.Cursor.{start}
use Rattle.session_records.specs.Runs.{fixed, kept_run}
use Rattle.session_records.specs.Slots.{kept_told, kept_objects, kept_places, full, with_record}
use Rattle.session_records.specs.declared.Store.{Store}
use Rattle.rulebook.specs.Phase.{Asked, selecting, optioning, reading as reading_record, first, second}
use Rattle.session_state.specs.Keeping.{with_told, with_options}
use Rattle.session_state.specs.declared.State.{State}
use Rattle.session_answers.specs.Keeping.{keeping}
use Rattle.card_seen.specs.Seen.{Counts, whole, wholly, Shown, shown_as, shown, names_at, objects_at, named_at, reading, Seen, seen}
use Rattle.card_seen.specs.Given.{place_of}
use Rattle.card_seen.proofs.Looking.{back, every_whole, their_names}
use Rattle.card_seen.proofs.Options.{profile_by, locator_by, options_by, profile_seen, locator_seen, options_seen}
use Rattle.card_seen.proofs.Records.{record_by, record_seen}

as_it_is : (names : List ℕ) (m : Object) → shown_as (beside whole m.tag (wholly names)) m ≡ shown_as whole m
as_it_is names m = ap (λ (c : Counts). shown_as c m) (every_whole names m.tag)

not_kept : (names : List ℕ) (m : Object) (d : List ℕ) → listed m.tag names ≡ false → kept_told names m.tag m.value d ≡ d
unfolding kept_told
not_kept names m d n = pick_no _ _ _ n

-- only the named objects are kept
kept_named : (names : List ℕ) (ms : List Object) (d : List ℕ)
    → kept_objects names ms d ≡ kept_objects names (back (shown (wholly names) ms)) d
unfolding kept_objects shown back shown_as
kept_named names [] d = refl
kept_named names (m ∷ ms) d =
    let ts = shown (wholly names) ms in
    either (listed m.tag names)
    (λ y.
    kept_named names ms (kept_told names m.tag m.value d)
    ∙ sym (ap (λ (l : List Shown). kept_objects names (back l) d)
    (pick_yes _ _ _ (ap (listed m.tag) (their_names names) ∙ y) ∙ ap (λ (t : Shown). t ∷ ts) (as_it_is names m))))
    (λ n.
    kept_named names ms (kept_told names m.tag m.value d)
    ∙ (ap (kept_objects names (back ts)) (not_kept names m d n)
    ∙ sym (ap (λ (l : List Shown). kept_objects names (back l) d) (pick_no _ _ _ (ap (listed m.tag) (their_names names) ∙ n)))))

module _ (names a : List ℕ) (store : Store) where
  walked : map (object_at (inside record_tag a)) (places_from (inside record_tag a) 0) ≡ members_in (inside record_tag a)
  unfolding constructed first_byte pick
  walked = places_members (inside record_tag a) _ (members_of_lem (inside record_tag a) (inside_list record_tag a refl))

  record_kept_lem : with_record names a store
      ≡ record { bytes = kept_objects names (back (seen (reading names) a).objects) (full store.bytes) }
  unfolding with_record kept_places seen named_at names_at objects_at
  record_kept_lem = ap (λ (d : List ℕ). record { bytes = d })
      (ap (λ (ms : List Object). kept_objects names ms (full store.bytes)) walked
      ∙ kept_named names (members_in (inside record_tag a)) (full store.bytes))

-- what the state keeps, before the session goes on
pub keeping_settled : (w : Asked) (a b : List ℕ) → seen (place_of w) a ≡ seen (place_of w) b → (s : State) → keeping w a s ≡ keeping w b s
unfolding keeping place_of with_options with_told
keeping_settled (selecting z) a b e s = refl
keeping_settled (optioning z list) a b e s =
    let reason = options_seen a ∙ (ap options_by e ∙ sym (options_seen b)) in
    let profile = profile_seen a ∙ (ap profile_by e ∙ sym (profile_seen b)) in
    let locator = locator_seen a ∙ (ap locator_by e ∙ sym (locator_seen b)) in
    λ i. pick (eqb (reason i) 0)
    (record {
      waiting = s.waiting;
      start = s.start;
      size = s.size;
      tvr = s.tvr;
      tsi = s.tsi;
      profile = fixed 2 (profile i);
      locator = kept_run (locator i);
      cursor = start;
      told = s.told;
      listing = s.listing;
      stand = s.stand;
    }) s
keeping_settled (reading_record z number file rest) a b e s =
    let names = names_for z.terminal in
    let before : ℕ → Bool = λ name. is_some (z.facts name) in
    let reason = record_seen names a before ∙ (ap (record_by names before) e ∙ sym (record_seen names b before)) in
    let store : with_record names a s.told ≡ with_record names b s.told =
    record_kept_lem names a s.told
    ∙ (ap (λ (v : Seen). record { bytes = kept_objects names (back v.objects) (full s.told.bytes) }) e
    ∙ sym (record_kept_lem names b s.told)) in
    λ i. pick (eqb (reason i) 0) (with_told (store i) s) s
keeping_settled (first z request) a b e s = refl
keeping_settled (second z request code) a b e s = refl
