-- Piece by piece a tape gets the verdict that it gets whole: the dialogue stands where the rulebook's machine stands after the entries
-- read so far (judge_follow), and those are in the end the entries that the tape reads as (tape_feed).
-- Assumes nothing.
use mathlib.Core.Path.{◌≡◌, refl, sym, ap, ◌∙◌, subst, transport}
use mathlib.Core.Bool.{true, false}
use mathlib.Core.List.{List, [], ◌∷◌, ◌++◌, append-nil, append_assoc}
use Prim.Native.Nat.{ℕ, zero, suc, ◌+◌, ◌*◌, ◌-◌, ◌/◌, ◌^◌, ◌≤◌, ◌<◌}
use native.Mathlib.Nat.{mod-eq_of_lt}
use native.Mathlib.Omega.{arith}
use lib.Dec.{eqb}
use lib.ListN.{length, take, drop, length-append}
use lib.Pow.{are_bytes}
use borrow.Author.Tests.{eqb-true}
use Rattle.slices.proofs.Choice.{pick_yes, pick_no, picked, either}
use Rattle.tape_crc.proofs.Bytes.{bytes_take, bytes_drop}
use Rattle.tape_read.specs.Entries.{Entry, entry, block_size}
use Rattle.tape_read.specs.Blocks.{kind_in, payload_in, entry_in}
use Rattle.tape_read.specs.Tapes.{entries, unreadable, block_at, cut, read_tape}
use Rattle.tape_read.proofs.Steps.{rest_next}
use Rattle.tape_feed.specs.declared.Reader.{Reader}
use Rattle.tape_feed.specs.declared.Taken.{Taken}
use Rattle.tape_feed.specs.declared.Damage.{Damage}
use Rattle.tape_feed.specs.Feeding.{next, damage_of, reader_after, entries_read, reading_of, pieces_of, begun as unread}
use Rattle.tape_feed.proofs.Turns.{InStep, Steps, next_steps, none_bad}
use Rattle.tape_feed.proofs.Whole.{fed_reading}
use Rattle.rulebook.specs.Session.{rules}
use Rattle.rulebook.proofs.Kept.{kept}
use Rattle.rulebook_zeros.specs.Zeros.{unsupplied_in}
use Rattle.verdict_under.specs.Progress as Any
use Rattle.verdict_under.specs.Summing as Sums
use Rattle.verdict_under.proofs.Zeroing as Numbers
use Rattle.rulebook_zeros.specs.Summing.{zeros_of}
use Rattle.rulebook_zeros.proofs.Most.{zeros_most}
use Rattle.verdict.specs.Saying.{says, finds}
use Rattle.verdict.specs.declared.Verdict.TheVariants.{Unreadable}
use Rattle.verdict.specs.declared.Finding.{Finding}
use Rattle.verdict_judged.specs.Judged.{Judged}
use Rattle.verdict_judged.specs.Zeroed.{Zeroed}
use Rattle.verdict_judged.specs.Progress.{begun as opened, progress_of, finally}
use Rattle.verdict_under.proofs.Meaning.{progress_more}
use Rattle.verdict_judged.proofs.Once.{zeroed_once}
use Rattle.verdict_judged.proofs.Meaning.{verdict_right, right_verdict, zeros_in, zeroed_right}
use Rattle.verdict_under.proofs.Blockwise.{block_payload}
use Rattle.judge_stages.specs.Stages.{said_at}
use Rattle.judge_follow.specs.declared.Judgement.{Judgement}
use Rattle.judge_follow.specs.Following.{fed as follows, led}
use Rattle.judge_follow.proofs.Tracking.{Tracks, tracks_begun, fed_tracks, said}
use Rattle.judge.specs.declared.UnderWay.{UnderWay}
use Rattle.judge.specs.Feeding.{begun, fed_by, fed, fed_all, closed_by, closed}

-- where a judgement stands after the entries read
pub record Along (u : UnderWay) (es : List Entry) : Type 0 where
  pub tracks : Tracks (length es) (zeros_of es) u.dialogue (progress_of es)
  pub step : InStep u.reader (length es)

-- ---- one piece

module _ (u : UnderWay) (p : List ℕ) (es : List Entry) (bytes : are_bytes p ≡ true) (a : Along u es) where
  abbrev t : Taken
  t = next u.reader p

  abbrev e : Entry
  e = entry (kind_in p) (payload_in p)

  steps : Steps u.reader t (length es)
  steps = next_steps u.reader p (length es) a.step

  one_longer : length (es ++ (e ∷ [])) ≡ length es + 1
  one_longer = length-append es (e ∷ [])

  along_good : t.good ≡ true → Along (fed u p) (es ++ (entry_in p ∷ []))
  unfolding fed fed_by led entry_in
  along_good g =
      let on = steps.good g in
      let index = on.0 in
      let further = fed_tracks (length es) (zeros_of es) u.dialogue (progress_of es) (kind_in p) (payload_in p) (block_payload p bytes)
      a.tracks in
      let moved : Tracks (length (es ++ (e ∷ []))) (zeros_of (es ++ (e ∷ []))) (follows u.dialogue u.reader.blocks (kind_in p)
      (payload_in p)) (progress_of (es ++ (e ∷ []))) =
      transport (λ i. Tracks (sym one_longer i) (sym (Numbers.zeros_more kept unsupplied_in es e) i)
      (follows u.dialogue (sym index i) (kind_in p) (payload_in p))
      (sym (progress_more rules es e) i)) further
      in
      record {
        tracks =
            subst (λ (j : Judgement). Tracks (length (es ++ (e ∷ []))) (zeros_of (es ++ (e ∷ []))) j (progress_of (es ++ (e ∷ []))))
            (sym (pick_yes _ _ _ g)) moved;
        step = λ z. on.1 z ∙ sym one_longer;
      }

  along_other : t.good ≡ false → Along (fed u p) es
  unfolding fed fed_by led
  along_other n =
      record {
        tracks = subst (λ (j : Judgement). Tracks (length es) (zeros_of es) j (progress_of es)) (sym (pick_no _ _ _ n)) a.tracks;
        step = steps.other n;
      }

reader_on : (u : UnderWay) (p : List ℕ) → (fed u p).reader ≡ (next u.reader p).reader
unfolding fed fed_by
reader_on u p = refl

-- ---- pieces in a row

abbrev pub Bytes : List (List ℕ) → Type 0
Bytes [] = Unit {0}
Bytes (p ∷ ps) = (are_bytes p ≡ true) × Bytes ps

pub cut_bytes : (n : ℕ) (t : List ℕ) → are_bytes t ≡ true → Bytes (cut n t)
unfolding cut
cut_bytes zero t b = tt
cut_bytes (suc n) t b = (bytes_take block_size t b, cut_bytes n (drop block_size t) (bytes_drop block_size t b))

pub reader_after_lem : (ps : List (List ℕ)) (u : UnderWay) → (fed_all u ps).reader ≡ reader_after u.reader ps
unfolding fed_all reader_after
reader_after_lem [] u = refl
reader_after_lem (p ∷ ps) u = reader_after_lem ps (fed u p) ∙ ap (λ (r : Reader). reader_after r ps) (reader_on u p)

pub along_all : (ps : List (List ℕ)) (u : UnderWay) (es : List Entry) → Bytes ps → Along u es
    → Along (fed_all u ps) (es ++ entries_read u.reader ps)
unfolding fed_all entries_read
along_all [] u es b a = subst (Along u) (sym (append-nil es)) a
along_all (p ∷ ps) u es b a =
    let v = fed u p in
    let same : entries_read v.reader ps ≡ entries_read (next u.reader p).reader ps = ap (λ (r : Reader). entries_read r ps)
    (reader_on u p) in
    either (next u.reader p).good
    (λ g.
    let more : (es ++ (entry_in p ∷ [])) ++ entries_read v.reader ps ≡ es ++ entries_read u.reader (p ∷ ps) =
    append_assoc es (entry_in p ∷ []) (entries_read v.reader ps)
    ∙ ap (λ (x : List Entry). es ++ x) (ap (λ (x : List Entry). entry_in p ∷ x) same ∙ sym (pick_yes _ _ _ g))
    in
    subst (Along (fed_all v ps)) more (along_all ps v (es ++ (entry_in p ∷ [])) b.1 (along_good u p es b.0 a g)))
    (λ n.
    let more : es ++ entries_read v.reader ps ≡ es ++ entries_read u.reader (p ∷ ps) =
    ap (λ (x : List Entry). es ++ x) (same ∙ sym (pick_no _ _ _ n))
    in
    subst (Along (fed_all v ps)) more (along_all ps v es b.1 (along_other u p es b.0 a n)))

pub along_begun : Along begun []
unfolding Any.reads_all Sums.zeros_from
along_begun = record { tracks = tracks_begun; step = λ z. refl }

-- ---- the tape

module _ (t : List ℕ) (bytes : are_bytes t ≡ true) where
  abbrev u : UnderWay
  u = fed_all begun (pieces_of t)

  abbrev es : List Entry
  es = entries_read unread (pieces_of t)

  abbrev d : Damage
  d = damage_of u.reader

  along : Along u es
  unfolding pieces_of
  along = along_all (pieces_of t) begun [] (cut_bytes (length t / block_size + 1) t bytes) along_begun

  read_as : read_tape t ≡ reading_of d es
  read_as = sym (fed_reading t) ∙ ap (λ (r : Reader). reading_of (damage_of r) es) (sym (reader_after_lem (pieces_of t) begun))

  abbrev Right : Finding → Type 0
  Right f = Judged t f.ruling × Zeroed t f.zeros

  right_whole : eqb d.code 0 ≡ true → Right (finds (said_at u.dialogue.stage u.reader.blocks) u.dialogue.zeros)
  unfolding reading_of Any.finally Any.verdict_of Numbers.zeros_in
  right_whole y =
      let h : read_tape t ≡ entries es = read_as ∙ pick_yes _ _ _ y in
      let blocks = along.step (none_bad u.reader (eqb-true d.code 0 y)) in
      let most = zeros_most es in
      let small : zeros_of es < 2 ^ 64 = omega arith in (
        verdict_right t _
            (ap (said_at u.dialogue.stage) blocks
            ∙ (said (length es) (zeros_of es) u.dialogue (progress_of es) along.tracks ∙ sym (ap (finally opened) h))),
        zeroed_right t _ (along.tracks.counted ∙ (mod-eq_of_lt small ∙ sym (ap zeros_in h))),
      )

  right_damaged : eqb d.code 0 ≡ false → Right (finds (says Unreadable d.place d.code) 0)
  unfolding reading_of Any.finally Any.verdict_of Numbers.zeros_in
  right_damaged n =
      let h : read_tape t ≡ unreadable d.place d.code = read_as ∙ pick_no _ _ _ n in
      (verdict_right t _ (sym (ap (finally opened) h)), zeroed_right t 0 (sym (ap zeros_in h)))

  fed_finds : Right (closed u)
  unfolding closed closed_by
  fed_finds = picked Right (eqb d.code 0) _ _ right_whole right_damaged

-- fed piece by piece, a tape gets a verdict and a number that are right of it
pub fed_right : (t : List ℕ) → are_bytes t ≡ true → Judged t (closed (fed_all begun (pieces_of t))).ruling × Zeroed t (closed
    (fed_all begun (pieces_of t))).zeros
fed_right t bytes = fed_finds t bytes

-- and so the very ones that it gets whole (`judge`): verdict, place, code and number
pub fed_whole : (t : List ℕ) → are_bytes t ≡ true → (f : Finding) → Judged t f.ruling → Zeroed t f.zeros
    → closed (fed_all begun (pieces_of t)) ≡ f
fed_whole t bytes f a z =
    let g = closed (fed_all begun (pieces_of t)) in
    let right = fed_right t bytes in
    let same_ruling : g.ruling ≡ f.ruling = right_verdict t g.ruling right.0 ∙ sym (right_verdict t f.ruling a) in
    let same_zeros : g.zeros ≡ f.zeros = zeroed_once t g.zeros f.zeros right.1 z in
    λ i. record { ruling = same_ruling i; zeros = same_zeros i }

-- ---- the loop over a whole tape

-- what comes of a judgement that has k pieces of the tape behind it
unfoldable pub rest : UnderWay → ℕ → List ℕ → UnderWay
rest v k t = fed_all v (cut (length t / block_size + 1 - k) (drop (k * block_size) t))

pub rest_begun : (t : List ℕ) → rest begun 0 t ≡ fed_all begun (pieces_of t)
unfolding rest pieces_of
rest_begun t =
    let all : length t / block_size + 1 - 0 ≡ length t / block_size + 1 = omega arith in
    ap (λ (n : ℕ). fed_all begun (cut n t)) all

pub rest_turn : (v : UnderWay) (k : ℕ) (t : List ℕ) → k ≤ length t / block_size → rest v k t ≡ rest (fed v (block_at k t)) (k + 1) t
unfolding rest block_at cut fed_all
rest_turn v k t there =
    let more : length t / block_size + 1 - k ≡ suc (length t / block_size + 1 - (k + 1)) = omega arith in
    ap (λ (n : ℕ). fed_all v (cut n (drop (k * block_size) t))) more
    ∙ ap (λ (s : List ℕ). fed_all (fed v (take block_size (drop (k * block_size) t))) (cut (length t / block_size + 1 - (k + 1)) s))
    (rest_next k t)

pub rest_over : (v : UnderWay) (k : ℕ) (t : List ℕ) → length t / block_size < k → rest v k t ≡ v
unfolding rest cut fed_all
rest_over v k t past =
    let none : length t / block_size + 1 - k ≡ 0 = omega arith in
    ap (λ (n : ℕ). fed_all v (cut n (drop (k * block_size) t))) none
