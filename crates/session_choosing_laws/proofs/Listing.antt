-- A state that took a START with a list stands where the search begins: what START holds beside its list is the situation's, the list is the
-- search's.
-- Assumes nothing.
use mathlib.Core.Path.{◌≡◌, refl, ap, ◌∙◌}
use mathlib.Core.Bool.{true}
use mathlib.Core.List.{List, [], ◌++◌}
use mathlib.Core.Option.{some}
use Prim.Native.Nat.{ℕ}
use native.Mathlib.Omega.{arith}
use lib.ListN.{length, take, drop, length-append, length-take, length-drop}
use lib.Seq.{take_all}
use borrow.Author.Tests.{eqb-true}
use Rattle.slices.specs.Writing.{zeros}
use Rattle.slices.proofs.Choice.{pick_yes}
use Rattle.tape_read.specs.Entries.{Entry}
use Rattle.start_fields.specs.Layout.{full_length}
use Rattle.start_fields.specs.Reading.{reading_of}
use Rattle.start_choosing.specs.Start.{listing_length, is_listing, with_first_alone, alone_in}
use Rattle.start_list.specs.Listing.{applications_in}
use Rattle.select_search.specs.Search as search
use Rattle.sessions.specs.Rules.{asks}
use Rattle.sessions.specs.Machine.{at, next}
use Rattle.rulebook.specs.Situation.{begun}
use Rattle.rulebook.specs.Later.{AskedLater, command_later}
use Rattle.rulebook_choosing.specs.Choosing.{listed}
use Rattle.rulebook_choosing.specs.Session.{rules}
use Rattle.session_records.proofs.There.{fixed_all}
use Rattle.session_state.specs.Reading.{situation_with, early}
use Rattle.session_state.specs.Keeping.{with_stand, changed, state_at, begun_listing}
use Rattle.session_state.proofs.Telling.{nothing_told}
use Rattle.session_choosing.specs.Moves.{beside, waits_at, asking, moved_later}
use Rattle.session_choosing.specs.Events.{begins}
use Rattle.rulebook_choosing.specs.Machine.{Machine}
use Rattle.session_choosing_laws.specs.Agreeing.{kept_later, tvr_later, tsi_later, Knows}
use Rattle.choosing_zeros.specs.Zeros.{unsupplied_asking_later, unsupplied_later}
use Rattle.session_choosing_laws.specs.Logging.{reply_later, buffer_later, Follows}

module _ (p : List ℕ) (y : is_listing p ≡ true) where
  size : length p ≡ listing_length
  unfolding is_listing
  size = eqb-true (length p) listing_length y

  alone_size : length (with_first_alone p) ≡ full_length
  unfolding with_first_alone
  alone_size =
      let all = size in
      let one = length-append (take 57 p) (take 17 (drop 58 p) ++ take 3 (drop 202 p)) in
      let two = length-append (take 17 (drop 58 p)) (take 3 (drop 202 p)) in
      let a = length-take 57 p in
      let b = length-take 17 (drop 58 p) in
      let c = length-take 3 (drop 202 p) in
      let d = length-drop 58 p in
      let e = length-drop 202 p in
      omega arith

  -- START as the state keeps it
  start_kept : take full_length (alone_in p) ≡ with_first_alone p
  unfolding alone_in
  start_kept =
      let all = alone_size in
      ap (take full_length) (pick_yes _ _ _ y) ∙ take_all full_length (with_first_alone p) (omega arith)

  pub listing_follows : (buf : List ℕ) (σ : Machine) (e : Entry) → next rules σ e ≡ some (at (asks (AskedLater.new (listed p))))
      → Follows σ e (asks (AskedLater.new (listed p))) buf (begins p buf)
  unfolding begins moved_later beside asking waits_at listed search.begun search.asked search.command_at kept_later tvr_later
      tsi_later Knows
      reply_later buffer_later unsupplied_later unsupplied_asking_later command_later with_stand changed begun_listing state_at early
      situation_with begun
  listing_follows buf σ e n =
      record {
        taken = n;
        stands =
            record {
              waits = refl;
              tvr = refl;
              tsi = refl;
              knows = (
                record {
                  situation =
                      λ i. record {
                        terminal = reading_of (start_kept i);
                        profile = [];
                        facts = nothing_told i;
                        tvr = zeros 5;
                        tsi = zeros 2;
                      };
                  applications = ap applications_in (fixed_all listing_length p size);
                  stand = refl;
                  list = refl;
                  few = omega arith;
                },
                tt,
              );
            };
        reply = refl;
        buffer = refl;
        zeros = refl;
      }
