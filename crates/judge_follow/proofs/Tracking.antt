-- The judge stands where the rulebook's machine stands: what it expects next is the machine's, and so each entry leads both on alike.
-- Assumes nothing.
use mathlib.Core.Path.{◌≡◌, refl, sym, ap, ap₂, ◌∙◌, subst}
use mathlib.Core.Bool.{true, false}
use mathlib.Core.List.{List, ◌∷◌, ◌++◌}
use Prim.Native.Nat.{ℕ, ◌+◌, ◌%◌, ◌^◌, ◌≤◌}
use native.Mathlib.Nat.{add-zero}
use native.Mathlib.Omega.{arith}
use lib.Dec.{eqb}
use lib.ListN.{length, take}
use borrow.Author.Tests.{eqb-true, eqb-false}
use Rattle.slices.specs.Tests.{alike}
use Rattle.slices.proofs.Choice.{pick_yes, pick_no, either}
use Rattle.slices.proofs.Writing.{zeros_length}
use Rattle.slices.proofs.Cutting.{none_left}
use Rattle.slices.proofs.Comparing.{alike_same, same_alike}
use Rattle.numbers.specs.Tables.{command, answer, silence, decision}
use Rattle.tape_read.specs.Entries.{Entry, entry}
use Rattle.commands.specs.Commands.{longest}
use Rattle.sessions.specs.Session.{is_payload}
use Rattle.rulebook.specs.Situation.{Situation}
use Rattle.rulebook.specs.Phase.{Asked, Heard, Phase, opens, asks, hears, decides, command_of, due_kind, decision_of}
use Rattle.rulebook.specs.Turn.{turn, allowed, after}
use Rattle.rulebook.specs.Machine.{Machine, at, owes, done}
use Rattle.dol_fill.specs.Filled.{summed}
use Rattle.rulebook_zeros.specs.Zeros.{unsupplied_in}
use Rattle.rulebook.specs.Session.{rules}
use Rattle.verdict_under.specs.Progress as Any
use Rattle.verdict_under.specs.Summing as Sums
use Rattle.session_phase.specs.Waiting.{kind_of, outcome_of, reason_of}
use Rattle.session_phase.specs.declared.Waiting.{Waiting}
use Rattle.session_state.specs.Results.{decision_in}
use Rattle.session_moves.specs.Moves.{Moved, speaker_of, kept_as, reply_in}
use Rattle.session_phase.specs.Saying.{allowed_by}
use Rattle.session_events.specs.Events.{step}
use Rattle.session_laws.specs.Agreeing.{StandsAt}
use Rattle.session_laws.specs.Logging.{Follows}
use Rattle.session_laws.proofs.Words.{kind_due, allowed_by_lem}
use Rattle.session_laws.proofs.Standing.{stands_decision}
use Rattle.session_laws.proofs.Commanding.{command_most, command_reply, command_there, buffer_length}
use Rattle.session_laws.proofs.Stepping.{fresh_stands, answer_step_lem, word_step_lem}
use Rattle.verdict.specs.Saying.{says}
use Rattle.verdict.specs.declared.Verdict.TheVariants.{Pass, Inconclusive}
use Rattle.verdict_judged.specs.Progress.{Progress, reached, closed, broken, reads, new_by, concluded}
use Rattle.verdict_under.proofs.Taking.{reads_heard, heard_invalid, heard_missing, reads_command, command_wrong, command_missing}
use Rattle.verdict_under.proofs.Taking.{reads_answer, reads_silence, silence_wrong, answer_missing, reads_decision}
use Rattle.verdict_under.proofs.Taking.{decision_wrong, decision_missing, reads_after_end, reads_after_silence, reads_after_break}
use Rattle.judge_stages.specs.declared.Stage.{Stage}
use Rattle.judge_stages.specs.declared.Stage.TheVariants.{Word, Command, Answer, Decision, Done, Closed, Broken}
use Rattle.judge_stages.specs.Stages.{said_at}
use Rattle.judge_follow.specs.declared.Judgement.{Judgement}
use Rattle.judge_follow.specs.Following.{begun, stage_of, staged, moving, advanced, at_command}
use Rattle.judge_follow.specs.Following.{at_silence, at_answer, at_decision, spoken, word_at, fed_at, fed}
use Rattle.judge_follow.proofs.Deciding.{other_kind, test_fails, test_holds}

-- what the judge expects where the machine stands
unfoldable pub Expects : Judgement → Machine → Type 0
Expects j (at (asks w)) = (n : ℕ) × ((j.stage ≡ Command n) × (take n j.command ≡ command_of w) × StandsAt j.state (asks w))
Expects j (at (hears h)) = (j.stage ≡ Word) × StandsAt j.state (hears h)
Expects j (at (decides outcome reason z)) = (j.stage ≡ Decision) × StandsAt j.state (decides outcome reason z)
Expects j (owes w) = (j.stage ≡ Answer) × StandsAt j.state (asks w)
Expects j done = j.stage ≡ Done

-- after k entries
unfoldable pub Tracking : ℕ → Judgement → Progress → Type 0
Tracking k j (reached σ n) = (n ≡ k) × Expects j σ
Tracking k j (closed n) = (n ≡ k) × (j.stage ≡ Closed)
Tracking k j (broken place) = j.stage ≡ Broken place

-- and `zeros` entries of its lists filled with zeros
pub record Tracks (k zeros : ℕ) (j : Judgement) (m : Progress) : Type 0 where
  pub room : length j.command ≡ longest
  pub counted : j.zeros ≡ zeros % 2 ^ 64
  pub tracking : Tracking k j m

pub tracks_begun : Tracks 0 0 begun (reached (at opens) 0)
unfolding Tracking Expects begun
tracks_begun = record { room = zeros_length longest; counted = refl; tracking = (refl, (refl, fresh_stands)) }

-- a step of the session is expected to go on as the phase says
stands_next : (σ : Machine) (e : Entry) (p : Phase) (buf : List ℕ) (m : Moved) → length buf ≡ longest → Follows σ e p buf m → (z : ℕ)
    → Expects (moving z m) (at p)
unfolding Expects moving stage_of reply_in
stands_next σ e (asks w) buf m l f z =
    let most = command_most m.state w f.stands in
    let fits : length (command_of w) ≤ length buf = omega arith in (
      length (command_of w),
      (
        ap stage_of (f.reply ∙ command_reply w buf fits),
        ap (take (length (command_of w))) f.buffer
            ∙ command_there w buf fits,
        f.stands,
      ),
    )
stands_next σ e (hears h) buf m l f z = (ap stage_of f.reply, f.stands)
stands_next σ e (decides outcome reason s) buf m l f z = (ap stage_of f.reply, f.stands)

-- on equal judgements and equal progress
carried : (k z : ℕ) {x y : Judgement} {m n : Progress} → y ≡ x → m ≡ n → Tracks k (z + new_by n) y n → Tracks k (z + new_by m) x m
carried k z {x} {y} {m} {n} e f t =
    subst (λ (q : Progress). Tracks k (z + new_by q) x q) (sym f) (subst (λ (i : Judgement). Tracks k (z + new_by n) i n) e t)

mod_on : (z n : ℕ) → (z % 2 ^ 64 + n) % 2 ^ 64 ≡ (z + n) % 2 ^ 64
mod_on z n = omega arith

-- a sum that wraps, and one more
sum_on : (z n before more : ℕ) → before ≡ z % 2 ^ 64 → more ≡ n → (before + more) % 2 ^ 64 ≡ (z + n) % 2 ^ 64
sum_on z n before more e f = ap₂ (λ (x y : ℕ). (x + y) % 2 ^ 64) e f ∙ mod_on z n

different : (a b : List ℕ) → alike a b ≡ false → a ≡ b → ⊥
different a b n e =
    let z : true ≡ false = sym (same_alike b) ∙ (ap (λ (x : List ℕ). alike x b) (sym e) ∙ n) in let k : ◌≡◌ {A = ℕ} 0 1 = cc in omega arith

module _ (k total : ℕ) (j : Judgement) (kind : ℕ) (p : List ℕ) (ok : is_payload p ≡ true) (room : length j.command ≡ longest)
    (counted : j.zeros ≡ total % 2 ^ 64) where
  -- after the entry, with what it added
  abbrev Goes : Judgement → Progress → Type 0
  Goes i m = Tracks (k + 1) (total + new_by m) i m

  -- an entry that adds nothing
  as_before : j.zeros ≡ (total + 0) % 2 ^ 64
  as_before = counted ∙ ap (λ (n : ℕ). n % 2 ^ 64) (sym (add-zero total))

  breaks : Goes (staged (Broken k) j) (broken k)
  unfolding Tracking staged Any.new_by
  breaks = record { room = room; counted = as_before; tracking = refl }

  -- an entry of the kind that is due, under that kind's name
  as_kind : (due : ℕ) → kind ≡ due → (m : Progress) → reads m (entry kind p) ≡ reads m (entry due p)
  as_kind due e m = ap (λ (q : ℕ). reads m (entry q p)) e

  answering : (w : Asked) → StandsAt j.state (asks w) → Goes (staged Answer j) (reached (owes w) (k + 1))
  unfolding Tracking Expects staged Any.new_by Sums.new_in
  answering w s = record { room = room; counted = as_before; tracking = (refl, (refl, s)) }

  closing : Goes (staged Closed j) (closed (k + 1))
  unfolding Tracking staged Any.new_by
  closing = record { room = room; counted = as_before; tracking = (refl, refl) }

  ending : Goes (staged Done j) (reached done (k + 1))
  unfolding Tracking Expects staged Any.new_by Sums.new_in
  ending = record { room = room; counted = as_before; tracking = (refl, refl) }

  decision_due_lem : (outcome reason : ℕ) (z : Situation) → StandsAt j.state (decides outcome reason z)
      → decision_in j.state ≡ decision_of outcome reason z
  unfolding decision_in outcome_of reason_of kept_as
  decision_due_lem outcome reason z s =
      ap (λ (x : Waiting). outcome_of x ∷ reason_of x ∷ (j.state.tvr ++ j.state.tsi)) s.waits
      ∙ sym (stands_decision j.state outcome reason z s)

  moves : (σ : Machine) (e : Entry) (q : Phase) (m : Moved) → Follows σ e q j.command m
      → Goes (moving j.zeros m) (reached (at q) (k + 1))
  unfolding Tracking moving summed Any.new_by Sums.new_in
  moves σ e q m f =
      record {
        room = ap length f.buffer ∙ (buffer_length q j.command ∙ room);
        counted = sum_on total (unsupplied_in q) j.zeros m.zeros counted f.zeros;
        tracking = (refl, stands_next σ e q j.command m room f j.zeros);
      }

  command_tracks : (w : Asked) (n : ℕ) → take n j.command ≡ command_of w → StandsAt j.state (asks w)
      → Goes (at_command n j k kind p) (reads (reached (at (asks w)) k) (entry kind p))
  unfolding at_command
  command_tracks w n c s =
      let test = alike p (take n j.command) in
      either (eqb kind command)
      (λ y.
      let e = eqb-true kind command y in
      either test
      (λ v.
      carried (k + 1) total (test_holds kind command test (staged Answer j) (staged (Broken k) j) e v)
      (as_kind command e (reached (at (asks w)) k) ∙ reads_command rules k w p (alike_same p (take n j.command) v ∙ c))
      (answering w s))
      (λ v.
      carried (k + 1) total (test_fails kind command test (staged Answer j) (staged (Broken k) j) e v)
      (command_wrong rules k w p kind (λ q. different p (take n j.command) v (q ∙ sym c)))
      breaks))
      (λ n.
      let h = eqb-false kind command n in
      carried (k + 1) total (other_kind kind command test (staged Answer j) (staged (Broken k) j) h)
      (command_missing rules k w p kind h) breaks)

  silence_tracks : (w : Asked) → (kind ≡ answer → ⊥) → Goes (at_silence j k kind p) (reads (reached (owes w) k) (entry kind p))
  unfolding at_silence
  silence_tracks w a =
      either (eqb kind silence)
      (λ y.
      let e = eqb-true kind silence y in
      either (eqb (length p) 0)
      (λ v.
      carried (k + 1) total (test_holds kind silence (eqb (length p) 0) (staged Closed j) (staged (Broken k) j) e v)
      (as_kind silence e (reached (owes w) k) ∙ reads_silence rules k w p (none_left p (eqb-true (length p) 0 v)))
      closing)
      (λ v.
      carried (k + 1) total (test_fails kind silence (eqb (length p) 0) (staged Closed j) (staged (Broken k) j) e v)
      (as_kind silence e (reached (owes w) k) ∙ silence_wrong rules k w p (λ q. eqb-false (length p) 0 v (ap length q)))
      breaks))
      (λ n.
      let h = eqb-false kind silence n in
      carried (k + 1) total (other_kind kind silence (eqb (length p) 0) (staged Closed j) (staged (Broken k) j) h)
      (answer_missing rules k w p kind a h) breaks)

  answer_tracks : (w : Asked) → StandsAt j.state (asks w) → Goes (at_answer j k kind p) (reads (reached (owes w) k) (entry kind p))
  unfolding at_answer advanced
  answer_tracks w s =
      either (eqb kind answer)
      (λ y.
      let e = eqb-true kind answer y in
      carried (k + 1) total (sym (pick_yes _ _ _ y))
      (as_kind answer e (reached (owes w) k) ∙ reads_answer rules k w p ok)
      (moves (owes w) (entry answer p) (turn w p) (step j.state p j.command) (answer_step_lem j.state w p j.command s ok)))
      (λ n. carried (k + 1) total (sym (pick_no _ _ _ n)) refl (silence_tracks w (eqb-false kind answer n)))

  -- somebody else's word: the speaker that the state waits for is the machine's
  module _ (h : Heard) (s : StandsAt j.state (hears h)) where
    may_say : allowed_by (speaker_of h) p ≡ allowed h p
    may_say = allowed_by_lem h p

    abbrev standing : Progress
    standing = reached (at (hears h)) k

    spoken_tracks : Goes (spoken (speaker_of h) j k kind p) (reads standing (entry kind p))
    unfolding spoken advanced
    spoken_tracks =
        let due = kind_of (speaker_of h) in
        let test = allowed_by (speaker_of h) p in
        let on = moving j.zeros (step j.state p j.command) in
        either (eqb kind due)
        (λ y.
        let e = eqb-true kind due y in
        let named = as_kind (due_kind h) (e ∙ kind_due h) standing in
        either test
        (λ v.
        let fits = sym may_say ∙ v in
        carried (k + 1) total (test_holds kind due test on (staged (Broken k) j) e v) (named ∙ reads_heard rules k h p fits ok)
        (moves (at (hears h)) (entry (due_kind h) p) (after h p) (step j.state p j.command)
        (word_step_lem j.state h p j.command s fits ok)))
        (λ v.
        carried (k + 1) total (test_fails kind due test on (staged (Broken k) j) e v) (named
        ∙ heard_invalid rules k h p (sym may_say ∙ v)) breaks))
        (λ n.
        let other = eqb-false kind due n in
        carried (k + 1) total (other_kind kind due test on (staged (Broken k) j) other)
        (heard_missing rules k h p kind (λ e. other (e ∙ sym (kind_due h))))
        breaks)

    word_tracks : Goes (word_at j.state.waiting j k kind p) (reads standing (entry kind p))
    unfolding word_at kept_as
    word_tracks = carried (k + 1) total (sym (ap (λ (x : Waiting). word_at x j k kind p) s.waits)) refl spoken_tracks

  decision_tracks : (outcome reason : ℕ) (z : Situation) → StandsAt j.state (decides outcome reason z)
      → Goes (at_decision j k kind p) (reads (reached (at (decides outcome reason z)) k) (entry kind p))
  unfolding at_decision
  decision_tracks outcome reason z s =
      let test = alike p (decision_in j.state) in
      let due = decision_due_lem outcome reason z s in
      either (eqb kind decision)
      (λ y.
      let e = eqb-true kind decision y in
      either test
      (λ v.
      carried (k + 1) total (test_holds kind decision test (staged Done j) (staged (Broken k) j) e v)
      (as_kind decision e (reached (at (decides outcome reason z)) k)
      ∙ reads_decision rules k outcome reason z p (alike_same p (decision_in j.state) v ∙ due))
      ending)
      (λ v.
      carried (k + 1) total (test_fails kind decision test (staged Done j) (staged (Broken k) j) e v)
      (decision_wrong rules k outcome reason z p kind (λ q. different p (decision_in j.state) v (q ∙ sym due)))
      breaks))
      (λ n.
      let h = eqb-false kind decision n in
      carried (k + 1) total (other_kind kind decision test (staged Done j) (staged (Broken k) j) h)
      (decision_missing rules k outcome reason z p kind h) breaks)

-- every entry
pub fed_tracks : (k total : ℕ) (j : Judgement) (m : Progress) (kind : ℕ) (p : List ℕ) → is_payload p ≡ true → Tracks k total j m
    → Tracks (k + 1) (total + new_by (reads m (entry kind p))) (fed j k kind p) (reads m (entry kind p))
unfolding fed_at Tracking Expects Any.new_by
fed_tracks k total j (reached (at (asks w)) n) kind p ok t =
    let c = t.tracking.1 in
    carried (k + 1) total (sym (ap (λ (x : Stage). fed_at x j k kind p) c.1.0))
    (ap (λ (q : ℕ). reads (reached (at (asks w)) q) (entry kind p)) t.tracking.0)
    (command_tracks k total j kind p ok t.room t.counted w c.0 c.1.1 c.1.2)
fed_tracks k total j (reached (at (hears h)) n) kind p ok t =
    let c = t.tracking.1 in
    carried (k + 1) total (sym (ap (λ (x : Stage). fed_at x j k kind p) c.0))
    (ap (λ (q : ℕ). reads (reached (at (hears h)) q) (entry kind p)) t.tracking.0)
    (word_tracks k total j kind p ok t.room t.counted h c.1)
fed_tracks k total j (reached (at (decides outcome reason z)) n) kind p ok t =
    let c = t.tracking.1 in
    carried (k + 1) total (sym (ap (λ (x : Stage). fed_at x j k kind p) c.0))
    (ap (λ (q : ℕ). reads (reached (at (decides outcome reason z)) q) (entry kind p)) t.tracking.0)
    (decision_tracks k total j kind p ok t.room t.counted outcome reason z c.1)
fed_tracks k total j (reached (owes w) n) kind p ok t =
    let c = t.tracking.1 in
    carried (k + 1) total (sym (ap (λ (x : Stage). fed_at x j k kind p) c.0))
    (ap (λ (q : ℕ). reads (reached (owes w) q) (entry kind p)) t.tracking.0)
    (answer_tracks k total j kind p ok t.room t.counted w c.1)
fed_tracks k total j (reached done n) kind p ok t =
    carried (k + 1) total (sym (ap (λ (x : Stage). fed_at x j k kind p) t.tracking.1)) (reads_after_end rules n (entry kind p)
    ∙ ap broken t.tracking.0)
    (breaks k total j kind p ok t.room t.counted)
fed_tracks k total j (closed n) kind p ok t =
    carried (k + 1) total (sym (ap (λ (x : Stage). fed_at x j k kind p) t.tracking.1)) (reads_after_silence rules n (entry kind p)
    ∙ ap broken t.tracking.0)
    (breaks k total j kind p ok t.room t.counted)
fed_tracks k total j (broken place) kind p ok t =
    carried (k + 1) total (sym (ap (λ (x : Stage). fed_at x j k kind p) t.tracking)) (reads_after_break rules place (entry kind p))
    (record { room = t.room; counted = t.counted ∙ ap (λ (n : ℕ). n % 2 ^ 64) (sym (add-zero total)); tracking = t.tracking })

-- what is said at the end
pub said : (k total : ℕ) (j : Judgement) (m : Progress) → Tracks k total j m → said_at j.stage k ≡ concluded m
unfolding said_at concluded Tracking Expects
said k total j (reached (at (asks w)) n) t =
    ap (λ (x : Stage). said_at x k) t.tracking.1.1.0 ∙ ap (λ (q : ℕ). says Inconclusive q 0) (sym t.tracking.0)
said k total j (reached (at (hears h)) n) t =
    ap (λ (x : Stage). said_at x k) t.tracking.1.0 ∙ ap (λ (q : ℕ). says Inconclusive q 0) (sym t.tracking.0)
said k total j (reached (at (decides outcome reason z)) n) t =
    ap (λ (x : Stage). said_at x k) t.tracking.1.0 ∙ ap (λ (q : ℕ). says Inconclusive q 0) (sym t.tracking.0)
said k total j (reached (owes w) n) t =
    ap (λ (x : Stage). said_at x k) t.tracking.1.0 ∙ ap (λ (q : ℕ). says Inconclusive q 0) (sym t.tracking.0)
said k total j (reached done n) t = ap (λ (x : Stage). said_at x k) t.tracking.1 ∙ ap (λ (q : ℕ). says Pass q 0) (sym t.tracking.0)
said k total j (closed n) t = ap (λ (x : Stage). said_at x k) t.tracking.1 ∙ ap (λ (q : ℕ). says Inconclusive q 0) (sym t.tracking.0)
said k total j (broken place) t = ap (λ (x : Stage). said_at x k) t.tracking
