-- The number of a call that is turned away is that of the first line of 01's table that applies to it, and a call is taken exactly
-- where no line does.
-- Assumes nothing.
use mathlib.Core.Path.{◌≡◌, refl, sym, ap, ◌∙◌}
use mathlib.Core.Bool.{Bool, true, false, not, false≢true}
use mathlib.Core.List.{List, [], ◌∷◌, map}
use mathlib.Core.Logic.{◌⊎◌, inl, inr, ⊎_elim}
use Prim.Native.Nat.{ℕ, zero, suc, ◌<◌}
use native.Mathlib.Omega.{arith}
use lib.Dec.{eqb}
use lib.ListN.{get_or}
use borrow.Author.Tests.{eqb-false, ne_eqb, not-true}
use Rattle.slices.specs.Choice.{pick, first_of}
use Rattle.slices.specs.Tests.{every}
use Rattle.slices.proofs.Choice.{pick_yes, pick_no}
use Rattle.slices.proofs.Tests.{first_held}
use Rattle.kernel.specs.declared.Session.{Session}
use Rattle.session_phase.specs.Saying.{refusal_by}
use Rattle.session_phase.specs.declared.Reply.TheVariants.{Refused}
use Rattle.session_phase.specs.declared.Waiting.{Waiting}
use Rattle.session_phase.specs.declared.Waiting.TheVariants.{Searching, ForCard, ForWord, Decided, Closed}
use Rattle.kernel_refusals.specs.Refusals.{word_lines, refusal_lines, call_refusal}
use Rattle.kernel.specs.Calls.{Called, refused}
use Rattle.kernel_laws.specs.Log.{Call, made}
use Rattle.kernel_laws.specs.Table.{table_of, numbers_of, FirstLine, NoLine}
use Rattle.kernel_laws.proofs.Turning.{call_refused}
use Rattle.kernel_laws.proofs.Refusing.{number_of}
use Rattle.kernel_laws.proofs.Words.{word_number}

-- ---- any table
deeper : (t : Bool) (table : List Bool) (line : ℕ) → t ≡ false → FirstLine table line → FirstLine (t ∷ table) (suc line)
deeper t table line f h = record { applies = h.applies; alone = alone }
  where
    alone : (n : ℕ) → n < suc line → get_or (t ∷ table) n false ≡ false
    alone zero l = f
    alone (suc n) l = h.alone n (omega arith)

none_deeper : (t : Bool) (table : List Bool) → t ≡ false → NoLine table → NoLine (t ∷ table)
none_deeper t table f h zero = f
none_deeper t table f h (suc n) = h n

-- either a line is the first, or there is none
found : (table : List Bool) → ((line : ℕ) × FirstLine table line) ⊎ NoLine table
found [] = inr (λ n. refl)
found (true ∷ table) = inl (0, record { applies = refl; alone = λ n l. absurd (omega arith) })
found (false ∷ table) =
    ⊎_elim (λ h. inl (suc h.0, deeper false table h.0 refl h.1)) (λ h. inr (none_deeper false table refl h)) (found table)

-- the tests of some lines, and their numbers
abbrev tests : List (Bool × ℕ) → List Bool
tests lines = map (λ line. line.0) lines

abbrev numbers : List (Bool × ℕ) → List ℕ
numbers lines = map (λ line. line.1) lines

-- each number is another than 0
abbrev numbered : List (Bool × ℕ) → Bool
numbered lines = every (map (λ line. not (eqb line.1 0)) lines)

next_line : (t : Bool) (table : List Bool) (line : ℕ) → FirstLine (t ∷ table) (suc line) → FirstLine table line
next_line t table line h = record { applies = h.applies; alone = λ n l. h.alone (suc n) (omega arith) }

first_number : (lines : List (Bool × ℕ)) (line : ℕ) → FirstLine (tests lines) line → first_of lines ≡ get_or (numbers lines) line 0
unfolding first_of
first_number [] line h = absurd (false≢true h.applies)
first_number (l ∷ lines) zero h = pick_yes _ _ _ h.applies
first_number (l ∷ lines) (suc line) h =
    pick_no _ _ _ (h.alone 0 (omega arith)) ∙ first_number lines line (next_line l.0 (tests lines) line h)

some_number : (lines : List (Bool × ℕ)) → numbered lines ≡ true → (line : ℕ) → FirstLine (tests lines) line
    → get_or (numbers lines) line 0 ≡ 0 → ⊥
some_number [] ns line h = absurd (false≢true h.applies)
some_number (l ∷ lines) ns zero h = eqb-false l.1 0 (not-true _ (first_held _ _ ns).0)
some_number (l ∷ lines) ns (suc line) h = some_number lines (first_held _ _ ns).1 line (next_line l.0 (tests lines) line h)

none_number : (lines : List (Bool × ℕ)) → NoLine (tests lines) → first_of lines ≡ 0
unfolding first_of
none_number [] h = refl
none_number (l ∷ lines) h = pick_no _ _ _ (h 0) ∙ none_number lines (λ n. h (suc n))

-- ---- the kernel's
words_numbered : (waiting : Waiting) (p : List ℕ) → numbered (word_lines waiting p) ≡ true
unfolding word_lines every
words_numbered (ForWord speaker) p = pick_yes _ _ _ (ap not (ne_eqb (refusal_by speaker) 0 (word_number speaker)))
words_numbered Searching p = refl
words_numbered (ForCard question) p = refl
words_numbered (Decided outcome reason) p = refl
words_numbered Closed p = refl

module _ (s : Session) (c : Call) where
  abbrev lines : List (Bool × ℕ)
  lines = refusal_lines s.state.waiting c.event c.buffer

  all_numbered : numbered lines ≡ true
  unfolding refusal_lines every pick
  all_numbered = words_numbered s.state.waiting c.event.payload

  -- a number, and the first line of the table that applies
  pub number_line : (n : ℕ) → (made s c).reply ≡ Refused n
      → (line : ℕ) × ((n ≡ get_or (numbers_of s c) line 0) × FirstLine (table_of s c) line)
  unfolding made call_refusal numbers_of table_of
  number_line n h =
      let it = number_of s c.event c.buffer n h in
      ⊎_elim (λ f. (f.0, (sym it.0 ∙ first_number lines f.0 f.1, f.1))) (λ none'. absurd (it.1 (none_number lines none')))
      (found (tests lines))

  pub line_number : (line : ℕ) → FirstLine (table_of s c) line → (made s c).reply ≡ Refused (get_or (numbers_of s c) line 0)
  unfolding made refused call_refusal numbers_of table_of
  line_number line h =
      let n = first_number lines line h in
      ap (λ (r : Called). r.reply) (call_refused s c.event c.buffer (λ z. some_number lines all_numbered line h (sym n ∙ z)))
      ∙ ap Refused n

  -- and taken exactly where none applies
  pub none_taken : NoLine (table_of s c) → (n : ℕ) → (made s c).reply ≡ Refused n → ⊥
  unfolding made call_refusal table_of
  none_taken h n e = (number_of s c.event c.buffer n e).1 (none_number lines h)

  pub taken_none : ((n : ℕ) → (made s c).reply ≡ Refused n → ⊥) → NoLine (table_of s c)
  taken_none h = ⊎_elim (λ f. absurd (h _ (line_number f.0 f.1))) (λ none'. none') (found (table_of s c))
