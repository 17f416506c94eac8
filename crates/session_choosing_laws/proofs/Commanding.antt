-- Every command under the amended rules fits 261 bytes: a selection's own have a name of at most 16, or ask for a record. A buffer of that many
-- bytes therefore holds the whole command.
-- Assumes nothing.
use mathlib.Core.Path.{◌≡◌, refl, ap, ◌∙◌}
use mathlib.Core.List.{List, [], ◌∷◌}
use Prim.Native.Nat.{ℕ, ◌≤◌}
use native.Mathlib.Omega.{arith}
use lib.ListN.{length, take, length-append}
use lib.Seq.{take_at}
use borrow.Author.Tests.{le-leb}
use Rattle.slices.specs.Choice.{pick}
use Rattle.slices.proofs.Choice.{pick_yes}
use Rattle.slices.proofs.Writing.{put_start, laid_fits}
use Rattle.commands.specs.Commands.{longest, size_in}
use Rattle.commands.proofs.Shapes.{record_most}
use Rattle.start_list.specs.Listing.{Applications, applications_in, listed_at}
use Rattle.select_answers.specs.Files.{environment}
use Rattle.select_list.specs.Kept.{list_in, candidate_at}
use Rattle.select_search.specs.Search.{select_by, command_at, asked}
use Rattle.select_search.specs.declared.Step.{Step}
use Rattle.select_search.specs.declared.Step.TheVariants.{Environment, Directory, Listed, Final}
use Rattle.select_laws.specs.Cut.{room_now}
use Rattle.select_commands.proofs.Rooms.{listed_most, kept_most}
use Rattle.sessions.specs.Rules.{asks, hears, decides}
use Rattle.rulebook.specs.Later.{AskedLater, command_later}
use Rattle.rulebook_choosing.specs.Choosing.{Choosing, ChoosingPhase}
use Rattle.rulebook_choosing.specs.Session.{rules}
use Rattle.session_phase.specs.declared.Reply.TheVariants.{Command}
use Rattle.session_state.specs.declared.State.{State}
use Rattle.session_laws.proofs.Commanding as today
use Rattle.session_choosing_laws.specs.Agreeing.{Knows, StandsAt}
use Rattle.session_choosing_laws.specs.Logging.{reply_later, buffer_later}
use Rattle.session_choosing_laws.proofs.Carrying.{asks_before}
use Rattle.session_choosing_laws.proofs.Seeing.{command_seen}

by_name : (p2 : ℕ) (name : List ℕ) → length name ≤ 16 → length (select_by p2 name) ≤ longest
unfolding select_by
by_name p2 name h = let e = length-append name (0x00 ∷ []) in omega arith

-- the command of a search whose lists stand in bytes
search_most : (b d : List ℕ) (step : Step) → length (command_at (applications_in b) (list_in d) step) ≤ longest
unfolding command_at
search_most b d Environment = by_name 0 environment (omega arith)
search_most b d (Directory file number) = record_most number file
search_most b d (Listed aid again) = by_name (pick again 2 0) (listed_at (applications_in b) aid).aid (listed_most b aid)
search_most b d (Final place taken) = by_name 0 (candidate_at (list_in d) place).name (kept_most d place)

pub command_most : (s : State) (d : List ℕ) (w : AskedLater Choosing) → StandsAt s (list_in d) (asks w)
    → length (rules.command_of w) ≤ longest
unfolding command_later asked Knows
command_most s d (AskedLater.was w) h = today.command_most s w (asks_before s (list_in d) w h)
command_most s d (AskedLater.new x) h =
    let alike = h.knows.0 in
    let z = x.search in
    let few = alike.few in
    let most = search_most s.listing d z.stand.step in
    let same : length (command_at (applications_in s.listing) (list_in d) z.stand.step)
    ≡ length (command_at x.applications z.list z.stand.step) =
    ap length
    (command_seen (room_now z) (omega arith) (list_in d) z.list alike.list (applications_in s.listing) z.stand.step h.knows.1
    ∙ ap (λ (t : Applications). command_at t z.list z.stand.step) alike.applications) in
    omega (arith, most, same)

-- a command in a buffer that has room for it
module _ (w : AskedLater Choosing) (buf : List ℕ) (room : length (rules.command_of w) ≤ length buf) where
  pub command_reply : reply_later (length buf) (asks w) ≡ Command (length (rules.command_of w))
  unfolding reply_later size_in
  command_reply = ap Command (pick_yes _ _ _ (le-leb (length (rules.command_of w)) (length buf) room))

  pub command_there : take (length (rules.command_of w)) (buffer_later (asks w) buf) ≡ rules.command_of w
  unfolding buffer_later
  command_there =
      let c = rules.command_of w in
      ap (take (length c)) (laid_fits c 0 buf (omega arith) ∙ put_start c buf) ∙ take_at c _ (length c) refl

-- the buffer stays as long as it was
pub buffer_length : (p : ChoosingPhase) (buf : List ℕ) → length (buffer_later p buf) ≡ length buf
unfolding buffer_later
buffer_length (asks w) buf = today.laid_length (rules.command_of w) buf
buffer_length (hears h) buf = refl
buffer_length (decides outcome reason z) buf = refl
