-- No finished session is the beginning of a longer one, and a beginning has one reading: at each phase the kind of the entry due
-- and its payload settle how the session goes on. What has a reading is a session or a beginning of one, and each of these has one.
-- Assumes nothing.
use mathlib.Core.Path.{◌≡◌, refl, sym, ap, ◌∙◌, subst}
use mathlib.Core.List.{List, [], ◌∷◌, ◌++◌, append-nil}
use mathlib.Core.Logic.{inl, inr}
use Prim.Native.Nat.{ℕ, zero, suc}
use native.Mathlib.Numerals.{add-one}
use native.Mathlib.Omega.{arith}
use lib.ListN.{length, take}
use lib.Seq.{take-append-le}
use Rattle.numbers.specs.Tables.{command, answer, decision}
use Rattle.tape_read.specs.Entries.{Entry, entry}
use Rattle.sessions.specs.Rules.{Phase, asks, hears, Rules}
use Rattle.sessions.specs.Session.{Plays, exchanged, heard, decided, Session, Beginning, Open, Lawful, phases_of, Reads}
use Rattle.sessions.proofs.Lists.{head_same, tail_same}

payload_same : (j k : ℕ) (p q : List ℕ) → entry j p ≡ entry k q → p ≡ q
payload_same j k p q e = ap (λ (x : Entry). x.payload) e

module _ {A H S : Type 0} (rules : Rules A H S) where
  open rules use {opens, turn, after}

  -- nothing can follow
  pub ends : {p : Phase A H S} {es fs rest : List Entry} → Plays rules p es → Plays rules p fs → fs ≡ es ++ rest → rest ≡ []
  ends {rest} (exchanged {c} {a} {es} f ok play) (exchanged {w} {c = d} {a = b} {es = fs} g ok' other) e =
      let then : entry answer b ∷ fs ≡ entry answer a ∷ (es ++ rest) =
      tail_same (entry command d) (entry command c) (entry answer b ∷ fs) (entry answer a ∷ (es ++ rest)) e in
      let same : b ≡ a = payload_same answer answer b a (head_same (entry answer b) (entry answer a) fs (es ++ rest) then) in
      ends play (subst (λ (x : List ℕ). Plays rules (turn w x) fs) same other)
      (tail_same (entry answer b) (entry answer a) fs (es ++ rest) then)
  ends {rest} (heard {k} {p} {es} f fits ok play) (heard {h} {k = j} {p = q} {es = fs} g fits' ok' other) e =
      let same : q ≡ p = payload_same j k q p (head_same (entry j q) (entry k p) fs (es ++ rest) e) in
      ends play (subst (λ (x : List ℕ). Plays rules (after h x) fs) same other) (tail_same (entry j q) (entry k p) fs (es ++ rest) e)
  ends {rest} (decided {d = x} f) (decided {d = y} g) e = sym (tail_same (entry decision y) (entry decision x) [] rest e)

  -- no finished session is the beginning of a longer one
  pub prefix_free : (es rest : List Entry) → Session rules es → Session rules (es ++ rest) → rest ≡ []
  unfolding Session
  prefix_free es rest play longer = ends play longer refl

  -- a play with its phases, so that it can be carried from a phase to an equal one
  abbrev Passes : Phase A H S → List Entry → List (Phase A H S) → Type 0
  Passes p es ps = (play : Plays rules p es) × (phases_of rules play ≡ ps)

  -- two plays that begin with the same entries pass the same phases while these are read
  same_phases : (n : ℕ) {p : Phase A H S} {l m : List Entry} {qs : List (Phase A H S)}
      (a : Plays rules p l) (b : Plays rules p m) → phases_of rules b ≡ qs → take n l ≡ take n m
      → take (suc n) (phases_of rules a) ≡ take (suc n) qs
  unfolding phases_of
  same_phases zero (exchanged f ok play) (exchanged {w} g ok' other) q e = ap (take 1) q
  same_phases (suc zero) (exchanged f ok play) (exchanged {w} g ok' other) q e = ap (take 2) q
  same_phases (suc (suc n)) (exchanged {c} {a} {es} f ok play) (exchanged {w} {c = d} {a = b} {es = fs} g ok' other) q e =
      let then : entry answer a ∷ take n es ≡ entry answer b ∷ take n fs = tail_same (entry command c) (entry command d) _ _ e in
      let same : b ≡ a = sym (payload_same answer answer a b (head_same (entry answer a) (entry answer b) _ _ then)) in
      let moved = subst (λ (x : List ℕ). Passes (turn w x) fs (phases_of rules other)) same (other, refl) in
      ap (λ (ps : List (Phase A H S)). asks w ∷ asks w ∷ ps)
      (same_phases n play moved.0 moved.1 (tail_same (entry answer a) (entry answer b) _ _ then))
      ∙ ap (take (suc (suc (suc n)))) q
  same_phases zero (heard f fits ok play) (heard g fits' ok' other) q e = ap (take 1) q
  same_phases (suc n) (heard {k} {p} {es} f fits ok play) (heard {h} {k = j} {p = p'} {es = fs} g fits' ok' other) q e =
      let same : p' ≡ p = sym (payload_same k j p p' (head_same (entry k p) (entry j p') (take n es) (take n fs) e)) in
      let moved = subst (λ (x : List ℕ). Passes (after h x) fs (phases_of rules other)) same (other, refl) in
      ap (λ (ps : List (Phase A H S)). hears h ∷ ps)
      (same_phases n play moved.0 moved.1 (tail_same (entry k p) (entry j p') (take n es) (take n fs) e))
      ∙ ap (take (suc (suc n))) q
  same_phases n (decided f) (decided g) q e = ap (take (suc n)) q

  -- a list has one reading at most
  pub reads_once : (es : List Entry) (ps qs : List (Phase A H S)) → Reads rules es ps → Reads rules es qs → ps ≡ qs
  unfolding Reads
  reads_once es ps qs a b =
      let n = length es in
      let same : take n (es ++ a.0) ≡ take n (es ++ b.0) =
      take-append-le n es a.0 (omega arith) ∙ sym (take-append-le n es b.0 (omega arith)) in
      a.1.1 ∙ (rw add-one (same_phases n a.1.0 b.1.0 refl same) ∙ sym b.1.1)

  -- each session has one, and each beginning
  pub session_reads : (es : List Entry) → Session rules es → (ps : List (Phase A H S)) × Reads rules es ps
  unfolding Session Reads
  session_reads es s = (_, ([], (subst (λ (l : List Entry). Plays rules opens l) (sym (append-nil es)) s, refl)))

  pub beginning_reads : (es : List Entry) → Beginning rules es → (ps : List (Phase A H S)) × Reads rules es ps
  unfolding Beginning Session Reads
  beginning_reads es b = (_, (b.0 ∷ b.1.0, (b.1.1, refl)))

  -- and what has one is one of these
  pub reads_lawful : (es : List Entry) (ps : List (Phase A H S)) → Reads rules es ps → Lawful rules es
  unfolding Reads Lawful Open Beginning Session
  reads_lawful es ps read = by_rest read.0 read.1.0
    where
      by_rest : (rest : List Entry) → Plays rules opens (es ++ rest) → Lawful rules es
      by_rest [] play = inl (subst (λ (l : List Entry). Plays rules opens l) (append-nil es) play)
      by_rest (e ∷ rest) play = inr (inl (e, (rest, play)))
