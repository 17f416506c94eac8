-- Whole sessions, whatever the rules: phases, entries but for the card's answers, and what each entry adds to the fourth number are
-- functions of what a session is given. Each follows a phase by what is given next, as the session itself does, but goes by what is seen
-- of an answer where that goes by the answer.
-- Assumes nothing.
use mathlib.Core.Path.{◌≡◌, refl, sym, ap, ap₂, ◌∙◌}
use mathlib.Core.Bool.{false}
use mathlib.Core.List.{List, [], ◌∷◌, map}
use Prim.Native.Nat.{ℕ}
use lib.Dec.{eqb}
use Rattle.slices.specs.Choice.{pick}
use Rattle.slices.proofs.Choice.{pick_no}
use Rattle.numbers.specs.Tables.{command, answer, decision}
use Rattle.tape_read.specs.Entries.{Entry, entry}
use Rattle.sessions.specs.Rules.{Phase, asks, hears, decides, Rules}
use Rattle.sessions.specs.Session.{Plays, exchanged, heard, decided, phases_of}
use Rattle.verdict_under.specs.Counted.{added_by}
use Rattle.card_seen.specs.Seen.{Seen, seen}
use Rattle.card_seen.specs.Under.{Given, said, showed, but_answer, but_answers, View, given_to, Same, Through}

pub kept : (c a : List ℕ) (d : List ℕ)
    → (but_answer (entry command c) ≡ entry command c) × ((but_answer (entry answer a) ≡ entry answer [])
    × (but_answer (entry decision d) ≡ entry decision d))
unfolding but_answer pick
kept c a d = (refl, (refl, refl))

module _ {A H S : Type 0} (rules : Rules A H S) (view : View A H S) (through : Through rules view) where
  open rules use {command_of, turn, due_kind, after, decision_of}
  open view use {place_of, tvr_of, tsi_of, unsupplied_in}

  abbrev turn_by : A → Seen → Phase A H S
  turn_by = through.0

  -- what is seen settles it
  pub settled : (w : A) (a b : List ℕ) → seen (place_of w) a ≡ seen (place_of w) b → turn w a ≡ turn w b
  settled w a b e = through.1 w a ∙ (ap (turn_by w) e ∙ sym (through.1 w b))

  -- ---- the functions

  unfoldable pub phases_by : List Given → Phase A H S → List (Phase A H S)
  phases_by [] (asks w) = []
  phases_by [] (hears h) = []
  phases_by [] (decides outcome reason s) = decides outcome reason s ∷ []
  phases_by (said p ∷ gs) (asks w) = []
  phases_by (said p ∷ gs) (hears h) = hears h ∷ phases_by gs (after h p)
  phases_by (said p ∷ gs) (decides outcome reason s) = []
  phases_by (showed v ∷ gs) (asks w) = asks w ∷ asks w ∷ phases_by gs (turn_by w v)
  phases_by (showed v ∷ gs) (hears h) = []
  phases_by (showed v ∷ gs) (decides outcome reason s) = []

  unfoldable pub entries_by : List Given → Phase A H S → List Entry
  entries_by [] (asks w) = []
  entries_by [] (hears h) = []
  entries_by [] (decides outcome reason s) = entry decision (decision_of outcome reason s) ∷ []
  entries_by (said p ∷ gs) (asks w) = []
  entries_by (said p ∷ gs) (hears h) = entry (due_kind h) p ∷ entries_by gs (after h p)
  entries_by (said p ∷ gs) (decides outcome reason s) = []
  entries_by (showed v ∷ gs) (asks w) = entry command (command_of w) ∷ entry answer [] ∷ entries_by gs (turn_by w v)
  entries_by (showed v ∷ gs) (hears h) = []
  entries_by (showed v ∷ gs) (decides outcome reason s) = []

  unfoldable pub adds_by : List Given → Phase A H S → List ℕ
  adds_by [] (asks w) = []
  adds_by [] (hears h) = []
  adds_by [] (decides outcome reason s) = 0 ∷ []
  adds_by (said p ∷ gs) (asks w) = []
  adds_by (said p ∷ gs) (hears h) = unsupplied_in (after h p) ∷ adds_by gs (after h p)
  adds_by (said p ∷ gs) (decides outcome reason s) = []
  adds_by (showed v ∷ gs) (asks w) = 0 ∷ unsupplied_in (turn_by w v) ∷ adds_by gs (turn_by w v)
  adds_by (showed v ∷ gs) (hears h) = []
  adds_by (showed v ∷ gs) (decides outcome reason s) = []

  -- ---- that they give what a session has

  pub phases_by_lem : {p : Phase A H S} {es : List Entry} (play : Plays rules p es) → phases_of rules play
      ≡ phases_by (given_to rules view play) p
  unfolding phases_of given_to phases_by
  phases_by_lem (exchanged {w} {c} {a} same ok play) =
      ap (λ (ps : List (Phase A H S)). asks w ∷ asks w ∷ ps)
      (phases_by_lem play ∙ ap (phases_by (given_to rules view play)) (through.1 w a))
  phases_by_lem (heard {h} {k} {p} same fits ok play) = ap (λ (ps : List (Phase A H S)). hears h ∷ ps) (phases_by_lem play)
  phases_by_lem (decided same) = refl

  pub adds_by_lem : {p : Phase A H S} {es : List Entry} (play : Plays rules p es)
      → added_by rules unsupplied_in play ≡ adds_by (given_to rules view play) p
  unfolding given_to added_by adds_by
  adds_by_lem (exchanged {w} {c} {a} same ok play) =
      ap (λ (ns : List ℕ). 0 ∷ ns)
      (ap₂ (λ (n : ℕ) (ns : List ℕ). n ∷ ns) (ap unsupplied_in (through.1 w a))
      (adds_by_lem play ∙ ap (adds_by (given_to rules view play)) (through.1 w a)))
  adds_by_lem (heard {h} {k} {p} same fits ok play) = ap (λ (ns : List ℕ). unsupplied_in (after h p) ∷ ns) (adds_by_lem play)
  adds_by_lem (decided same) = refl

  -- a word is no answer
  module _ (words : (h : H) → eqb answer (due_kind h) ≡ false) where
    word_kept : (h : H) (p : List ℕ) → but_answer (entry (due_kind h) p) ≡ entry (due_kind h) p
    unfolding but_answer
    word_kept h p = pick_no _ _ _ (words h)

    pub entries_by_lem : {p : Phase A H S} {es : List Entry} (play : Plays rules p es) → but_answers es
        ≡ entries_by (given_to rules view play) p
    unfolding given_to entries_by
    entries_by_lem (exchanged {w} {c} {a} same ok play) =
        let first = (kept c a []).0 ∙ ap (entry command) same in
        let second = (kept c a []).1.0 in
        let rest = entries_by_lem play ∙ ap (entries_by (given_to rules view play)) (through.1 w a) in
        λ i. first i ∷ second i ∷ rest i
    entries_by_lem (heard {h} {k} {p} same fits ok play) =
        ap₂ (λ (e : Entry) (es : List Entry). e ∷ es) (ap (λ (n : ℕ). but_answer (entry n p)) same ∙ word_kept h p) (entries_by_lem play)
    entries_by_lem (decided {outcome} {reason} {s} {d} same) =
        ap (λ (e : Entry). e ∷ []) ((kept [] [] d).1.1 ∙ ap (entry decision) same)

    -- ---- two sessions

    pub given_same : {p : Phase A H S} {es fs : List Entry} (one : Plays rules p es) (other : Plays rules p fs)
        → given_to rules view one ≡ given_to rules view other → Same rules view one other
    given_same {p = p} one other e =
        let phases = phases_by_lem one ∙ (ap (λ (gs : List Given). phases_by gs p) e ∙ sym (phases_by_lem other)) in
        record {
          phases = phases;
          tvr = ap (map tvr_of) phases;
          tsi = ap (map tsi_of) phases;
          entries = entries_by_lem one ∙ (ap (λ (gs : List Given). entries_by gs p) e ∙ sym (entries_by_lem other));
          zeros = adds_by_lem one ∙ (ap (λ (gs : List Given). adds_by gs p) e ∙ sym (adds_by_lem other));
        }
