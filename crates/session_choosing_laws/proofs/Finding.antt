-- What a search found, with its list cut or whole, leads a state to where the rules are: the same command, as many shown, the same end.
-- Assumes nothing.
use mathlib.Core.Path.{◌≡◌, refl, sym, ap, ◌∙◌, subst}
use mathlib.Core.List.{List}
use mathlib.Core.Option.{some}
use Prim.Native.Nat.{ℕ, ◌+◌, ◌-◌, ◌≤◌, ◌<◌}
use native.Mathlib.Omega.{arith}
use lib.ListN.{length, take}
use lib.Seq.{take-take}
use Rattle.slices.specs.Writing.{laid}
use Rattle.numbers.specs.Tables.{terminated}
use Rattle.tape_read.specs.Entries.{Entry}
use Rattle.commands.specs.Commands.{size_in}
use Rattle.start_list.specs.Listing.{applications_in}
use Rattle.select_list.specs.Order.{Candidate}
use Rattle.select_list.specs.Kept.{most_kept}
use Rattle.select_search.specs.Search as search
use Rattle.select_search.specs.Search.{Search, Found, runs, over, asked, command_at, most_exchanges, cut_to}
use Rattle.select_laws.specs.Cut.{room_now, room_next, cut, AmongShown}
use Rattle.select_laws.specs.Bounds.{Bounded}
use Rattle.select_laws.specs.Follows as Behind
use Rattle.sessions.specs.Rules.{asks, hears, decides}
use Rattle.sessions.specs.Machine.{at, next}
use Rattle.rulebook.specs.Phase.{Phase, optioning, situation_of, tvr_of, tsi_of}
use Rattle.rulebook.specs.Later.{AskedLater, HeardLater, as_was, command_later, kind_later}
use Rattle.rulebook_choosing.specs.Choosing.{further, following}
use Rattle.rulebook_choosing.specs.Session.{rules}
use Rattle.session_phase.specs.declared.Speaker.TheVariants.{Shopper}
use Rattle.session_phase.specs.declared.Waiting.TheVariants.{ForWord}
use Rattle.session_phase.specs.declared.Reply.TheVariants.{Command}
use Rattle.session_state.specs.Reading.{situation_with, early, asked_by}
use Rattle.session_state.specs.Keeping.{with_stand, changed}
use Rattle.session_state.specs.declared.State.{State}
use Rattle.session_moves.specs.Moves.{question_of, kept_as, cursor_asking, cursor_after, standing, moved}
use Rattle.session_laws.specs.Agreeing as Today
use Rattle.session_laws.proofs.Fitting.{Fits, fits_stands}
use Rattle.session_choosing.specs.Moves.{beside, waits_at, asking, offering, moved_later}
use Rattle.session_choosing.specs.Events.{choosing_in}
use Rattle.rulebook_choosing.specs.Machine.{Machine}
use Rattle.session_choosing_laws.specs.Agreeing.{speaker_later, kept_later, tvr_later, tsi_later, Knows}
use Rattle.choosing_zeros.specs.Zeros.{unsupplied_asking_later, unsupplied_later}
use Rattle.session_choosing_laws.specs.Logging.{reply_later, buffer_later, Follows}
use Rattle.session_choosing_laws.proofs.Carrying.{was_follows}
use Rattle.session_choosing_laws.proofs.Seeing.{command_seen, shown_seen}

-- two searches that are the same once cut
module _ (z z' : Search) where
  abbrev Same : (Search → ℕ) → Type 0
  Same room = cut_to (room z') z' ≡ cut_to (room z) z

  same_stand : (room : Search → ℕ) → Same room → z'.stand ≡ z.stand
  same_stand room e = ap (λ (x : Search). x.stand) e

  -- the list as it is left, as far as there is room
  lists_now : Same room_now → take (room_now z) (take most_kept z'.list) ≡ take (room_now z) z.list
  lists_now e =
      take-take (room_now z) most_kept z'.list (omega arith)
      ∙ (ap (λ (x : Search). take (most_kept - x.stand.exchanges) z'.list) (sym e) ∙ ap (λ (x : Search). x.list) e)

  lists_next : Same room_next → take (room_next z) (take most_kept z'.list) ≡ take (room_next z) z.list
  lists_next e =
      take-take (room_next z) most_kept z'.list (omega arith)
      ∙ (ap (λ (x : Search). take (most_kept - (x.stand.exchanges + 1)) z'.list) (sym e) ∙ ap (λ (x : Search). x.list) e)

module _ (s : State) (l left : List Candidate) (buf : List ℕ) (σ : Machine) (e : Entry) where
  -- another exchange
  asks_follows : (z z' : Search) → Same z z' room_now → z.stand.exchanges ≤ most_exchanges → AmongShown z.stand.step
      → next rules σ e ≡ some (at (asks (AskedLater.new (further z (choosing_in s l)))))
      → Follows σ e (asks (AskedLater.new (further z (choosing_in s l)))) buf
      (moved_later (asks (AskedLater.new (further z' (choosing_in s l)))) s left buf)
  unfolding moved_later beside asking waits_at asked further choosing_in kept_later tvr_later tsi_later Knows reply_later buffer_later
      unsupplied_later unsupplied_asking_later command_later with_stand changed early situation_with
  asks_follows z z' same few among n =
      let t = applications_in s.listing in
      let stand = same_stand z z' room_now same in
      let lists = lists_now z z' same in
      let command : command_at t (take most_kept z'.list) z'.stand.step ≡ command_at t z.list z.stand.step =
      ap (λ (x : _). command_at t (take most_kept z'.list) x.step) stand
      ∙ command_seen (room_now z) (omega arith) (take most_kept z'.list) z.list lists t z.stand.step among in
      record {
        taken = n;
        stands =
            record {
              waits = refl;
              tvr = refl;
              tsi = refl;
              knows = (record { situation = refl; applications = refl; stand = stand; list = lists; few = few }, among);
            };
        reply = ap (λ (x : List ℕ). Command (size_in (length buf) x)) command;
        buffer = ap (λ (x : List ℕ). laid x 0 buf) command;
        zeros = refl;
      }

  -- a choice
  shows_follows : (z z' : Search) → Same z z' room_next → z.stand.exchanges < most_exchanges
      → next rules σ e ≡ some (at (hears (HeardLater.new (further z (choosing_in s l)))))
      → Follows σ e (hears (HeardLater.new (further z (choosing_in s l)))) buf
      (moved_later (hears (HeardLater.new (further z' (choosing_in s l)))) s left buf)
  unfolding moved_later beside offering waits_at further choosing_in kept_later speaker_later tvr_later tsi_later Knows reply_later
      buffer_later
      unsupplied_later unsupplied_asking_later kind_later with_stand changed early situation_with
  shows_follows z z' same few n =
      let lists = lists_next z z' same in
      record {
        taken = n;
        stands =
            record {
              waits =
                  ap (λ (k : ℕ). ForWord (Shopper k)) (shown_seen (room_next z) (omega arith) (take most_kept z'.list) z.list lists);
              tvr = refl;
              tsi = refl;
              knows =
                  record {
                    situation = refl;
                    applications = refl;
                    stand = same_stand z z' room_next same;
                    list = lists;
                    few = omega arith;
                  };
            };
        reply = refl;
        buffer = refl;
        zeros = refl;
      }

  -- today's phases
  was_fits : (p : Phase) → Fits p s → next rules σ e ≡ some (at (as_was p)) → Follows σ e (as_was p) buf (beside left (moved p s buf))
  unfolding moved
  was_fits p h n = was_follows σ e p buf (moved p s buf) left n (fits_stands p s h) refl refl refl

  options_fit : (list : List ℕ) → Fits (asks (optioning (early s) list)) s
  unfolding Fits Today.Knows Today.forgets standing changed kept_as question_of tvr_of tsi_of situation_of cursor_after
      cursor_asking asked_by
      early situation_with
  options_fit list = refl

  decision_fits : (reason : ℕ) → Fits (decides terminated reason (early s)) s
  unfolding Fits Today.Knows
  decision_fits reason = tt

  -- two finds that are the same once cut
  pub found_follows : (f f' : Found) → cut f' ≡ cut f → (k : ℕ) → Behind.Follows k f → Bounded f
      → next rules σ e ≡ some (at (following (choosing_in s l) f))
      → Follows σ e (following (choosing_in s l) f) buf (moved_later (following (choosing_in s l) f') s left buf)
  unfolding cut following moved_later as_was choosing_in
  found_follows (search.asks z) (search.asks z') q k h b n = asks_follows z z' (cc q) (omega (arith, h.0, h.1)) b n
  found_follows (search.asks z) (search.shows z') q k h b n = absurd (let c : ◌≡◌ {A = ℕ} 0 1 = cc q in omega arith)
  found_follows (search.asks z) (runs list) q k h b n = absurd (let c : ◌≡◌ {A = ℕ} 0 1 = cc q in omega arith)
  found_follows (search.asks z) (over reason) q k h b n = absurd (let c : ◌≡◌ {A = ℕ} 0 1 = cc q in omega arith)
  found_follows (search.shows z) (search.shows z') q k h b n = shows_follows z z' (cc q) (omega (arith, h.0, h.1)) n
  found_follows (search.shows z) (search.asks z') q k h b n = absurd (let c : ◌≡◌ {A = ℕ} 0 1 = cc q in omega arith)
  found_follows (search.shows z) (runs list) q k h b n = absurd (let c : ◌≡◌ {A = ℕ} 0 1 = cc q in omega arith)
  found_follows (search.shows z) (over reason) q k h b n = absurd (let c : ◌≡◌ {A = ℕ} 0 1 = cc q in omega arith)
  found_follows (runs list) (runs list') q k h b n =
      let same : list' ≡ list = cc q in
      subst
      (λ (x : List ℕ). Follows σ e (asks (AskedLater.was (optioning (early s) list))) buf
      (beside left (moved (asks (optioning (early s) x)) s buf)))
      (sym same) (was_fits (asks (optioning (early s) list)) (options_fit list) n)
  found_follows (runs list) (search.asks z') q k h b n = absurd (let c : ◌≡◌ {A = ℕ} 0 1 = cc q in omega arith)
  found_follows (runs list) (search.shows z') q k h b n = absurd (let c : ◌≡◌ {A = ℕ} 0 1 = cc q in omega arith)
  found_follows (runs list) (over reason) q k h b n = absurd (let c : ◌≡◌ {A = ℕ} 0 1 = cc q in omega arith)
  found_follows (over reason) (over reason') q k h b n =
      let same : reason' ≡ reason = cc q in
      subst
      (λ (x : ℕ). Follows σ e (decides terminated reason (early s)) buf (beside left (moved (decides terminated x (early s)) s buf)))
      (sym same) (was_fits (decides terminated reason (early s)) (decision_fits reason) n)
  found_follows (over reason) (search.asks z') q k h b n = absurd (let c : ◌≡◌ {A = ℕ} 0 1 = cc q in omega arith)
  found_follows (over reason) (search.shows z') q k h b n = absurd (let c : ◌≡◌ {A = ℕ} 0 1 = cc q in omega arith)
  found_follows (over reason) (runs list) q k h b n = absurd (let c : ◌≡◌ {A = ℕ} 0 1 = cc q in omega arith)
