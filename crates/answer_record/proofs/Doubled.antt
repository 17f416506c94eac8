-- Objects taken one after the other: the reason in the end is the one that the names and their look-ups give, and where there is none, all
-- was kept. A name counts as told once an object had it, whatever its value: so a second one is seen, and reason 4 stands before 5.
-- Assumes nothing.
use mathlib.Core.Path.{◌≡◌, refl, sym, ap, ap₂, ◌∙◌}
use mathlib.Core.Bool.{Bool, true, false, not, ◌&&◌, ◌||◌, false≢true}
use mathlib.Core.List.{List, [], ◌∷◌, map}
use Prim.Native.Nat.{ℕ, ◌≤◌, ◌<◌}
use native.Mathlib.Omega.{arith}
use lib.Dec.{eqb}
use lib.ListN.{length}
use borrow.Author.Tests.{eq-eqb, ne_eqb}
use Rattle.slices.specs.Choice.{pick}
use Rattle.slices.specs.Tables.{any_of}
use Rattle.slices.specs.Tests.{is_some}
use Rattle.slices.proofs.Choice.{pick_yes, pick_no, picked, either}
use Rattle.tlv_list.specs.Objects.{Object as Obj}
use Rattle.tlv_list.specs.Lookup.{Lookup, absent, once, twice, met, lookup}
use Rattle.answer_common.specs.Content.{record_names, right_value}
use Rattle.answer_common.specs.Named.{listed, times, wrong_value, any_times, any_wrong}
use Rattle.answer_common.proofs.Alike.{any_alike}
use Rattle.answer_common.proofs.Accepted.{any_clear}
use Rattle.answer_common.proofs.Members.{Held, none_left, and_then}
use Rattle.session_records.specs.Slots.{end, slot_for, told_in, kept_in, kept_told, kept_objects}
use Rattle.session_records.proofs.Apart.{named_size}
use Rattle.session_records.proofs.Keeping.{keep_same, keep_other, keep_all, right_room}
use Rattle.answer_record.specs.Records.{again, any_again}
use Rattle.answer_record.proofs.OneApart.{either_any, one_apart}
use Rattle.answer_record.specs.Taken.{Taken, taken, worse, one_taken, objects_taken}

module _ (names : List ℕ) (known : (tag : ℕ) → listed tag names ≡ true → listed tag record_names ≡ true) where
  abbrev has : List ℕ → ℕ → Bool
  has d name = is_some (told_in d name)

  abbrev among : List Obj → ℕ → Lookup
  among ms name = lookup name ms

  -- a name stands twice among some objects, or once and it was told
  abbrev doubled : List ℕ → List Obj → Bool
  doubled d ms = any_times 2 names (among ms) || any_again (has d) names (among ms)

  -- the same of one name
  abbrev double : List ℕ → List Obj → ℕ → Bool
  double d ms name = eqb (times (lookup name ms)) 2 || again (has d name) (lookup name ms)

  by_name : (d : List ℕ) (ms : List Obj) → doubled d ms ≡ any_of (map (double d ms) names)
  unfolding any_times any_again
  by_name d ms = either_any (λ name. eqb (times (lookup name ms)) 2) (λ name. again (has d name) (lookup name ms)) names

  abbrev wrong : List Obj → Bool
  wrong ms = any_wrong names (among ms)

  -- the reason in the end, given the reason so far
  abbrev finally : ℕ → Bool → Bool → ℕ
  finally why two bad = pick two 4 (worse why false (not bad))

  other_lookup : (m : Obj) (ms : List Obj) (name : ℕ) → (name ≡ m.tag → ⊥) → lookup name (m ∷ ms) ≡ lookup name ms
  unfolding lookup
  other_lookup m ms name k = pick_no _ _ _ (ne_eqb m.tag name (λ e. k (sym e)))

  own_lookup : (m : Obj) (ms : List Obj) → lookup m.tag (m ∷ ms) ≡ met m.value (lookup m.tag ms)
  unfolding lookup
  own_lookup m ms = pick_yes _ _ _ (eq-eqb m.tag m.tag refl)

  -- an object whose name counts
  module _ (m : Obj) (ms : List Obj) (l : listed m.tag names ≡ true) (short : length m.value ≤ 252) (d : List ℕ)
      (all : length d ≡ end) where
    tag : ℕ
    tag = m.tag

    v : List ℕ
    v = pick (right_value m.tag m.value) m.value []

    d' : List ℕ
    d' = kept_in m.tag v d

    room : length v < (slot_for m.tag).size
    unfolding v
    room =
        picked (λ x. length x < (slot_for m.tag).size) (right_value m.tag m.value) m.value []
        (λ r. right_room m.tag m.value (known m.tag l) r short)
        (λ n. let s = named_size m.tag (known m.tag l) in omega (arith, s))

    now_told : has d' m.tag ≡ true
    unfolding d' is_some
    now_told = ap is_some (keep_same d all m.tag v room)

    as_before : (name : ℕ) → (name ≡ m.tag → ⊥) → has d' name ≡ has d name
    unfolding d'
    as_before name k = ap is_some (keep_other d all m.tag name v (λ e. k (sym e)))

    -- the tests of its own name, one object on
    own : (b : Bool) (x : Lookup) → (eqb (times (met m.value x)) 2 || again b (met m.value x))
        ≡ (b || (eqb (times x) 2 || again true x))
    unfolding met times again
    own true absent = refl
    own false absent = refl
    own true (once w) = refl
    own false (once w) = refl
    own true twice = refl
    own false twice = refl

    doubled_on : doubled d (m ∷ ms) ≡ (has d m.tag || doubled d' ms)
    doubled_on =
        by_name d (m ∷ ms)
        ∙ (one_apart (double d (m ∷ ms)) (double d' ms) names m.tag (has d m.tag) l
        (λ name k. ap₂ (λ (x : Lookup) (b : Bool). eqb (times x) 2 || again b x) (other_lookup m ms name k) (sym (as_before name k)))
        (ap (λ (x : Lookup). eqb (times x) 2 || again (has d m.tag) x) (own_lookup m ms)
        ∙ (own (has d m.tag) (lookup m.tag ms)
        ∙ ap (λ (b : Bool). has d m.tag || (eqb (times (lookup m.tag ms)) 2 || again b (lookup m.tag ms))) (sym now_told)))
        ∙ ap (λ (b : Bool). has d m.tag || b) (sym (by_name d' ms)))

    -- where it is not doubled, it stands nowhere else
    alone : (x : Lookup) → (eqb (times x) 2 || again true x) ≡ false → x ≡ absent
    unfolding times again
    alone absent e = refl
    alone (once w) e = absurd (false≢true (sym e))
    alone twice e = absurd (false≢true (sym e))

    nowhere_else : doubled d' ms ≡ false → lookup m.tag ms ≡ absent
    nowhere_else e =
        alone (lookup m.tag ms)
        (ap (λ (b : Bool). eqb (times (lookup m.tag ms)) 2 || again b (lookup m.tag ms)) (sym now_told)
        ∙ any_clear (double d' ms) names (sym (by_name d' ms) ∙ e) m.tag l)

    or_false : (b : Bool) → b ≡ (b || false)
    or_false true = refl
    or_false false = refl

    wrong_on : doubled d' ms ≡ false → wrong (m ∷ ms) ≡ (not (right_value m.tag m.value) || wrong ms)
    unfolding any_wrong wrong_value met
    wrong_on e =
        let none_left' = nowhere_else e in
        one_apart (λ name. wrong_value name (lookup name (m ∷ ms))) (λ name. wrong_value name (lookup name ms)) names m.tag
        (not (right_value m.tag m.value)) l
        (λ name k. ap (wrong_value name) (other_lookup m ms name k))
        (ap (wrong_value m.tag) (own_lookup m ms ∙ ap (met m.value) none_left')
        ∙ (or_false (not (right_value m.tag m.value))
        ∙ ap (λ (x : Lookup). not (right_value m.tag m.value) || wrong_value m.tag x) (sym none_left')))

    four : (two bad : Bool) → finally 4 two bad ≡ 4
    unfolding worse pick
    four true bad = refl
    four false true = refl
    four false false = refl

    -- reason 5 stays
    stays : (why : ℕ) (right bad : Bool) → worse (worse why false right) false (not bad) ≡ worse why false (not (not right || bad))
    unfolding worse pick
    stays why true bad = refl
    stays why false false = refl
    stays why false true = go (eqb why 4) refl
      where
        go : (b : Bool) → eqb why 4 ≡ b → ◌≡◌ {A = ℕ} (pick (eqb (pick b 4 5) 4) 4 5) (pick b 4 5)
        go true e = refl
        go false e = refl

    finally_on : (why : ℕ) → finally (worse why (has d m.tag) (right_value m.tag m.value)) (doubled d' ms) (wrong ms)
        ≡ finally why (doubled d (m ∷ ms)) (wrong (m ∷ ms))
    unfolding worse pick
    finally_on why =
        by_told (has d m.tag) (doubled d' ms) refl
        ∙ ap (λ (b : Bool). finally why b (wrong (m ∷ ms))) (sym doubled_on)
      where
        by_told : (told two : Bool) → doubled d' ms ≡ two
            → finally (worse why told (right_value m.tag m.value)) two (wrong ms) ≡ finally why (told || two) (wrong (m ∷ ms))
        by_told true two e = four two (wrong ms)
        by_told false true e = refl
        by_told false false e =
            stays why (right_value m.tag m.value) (wrong ms)
            ∙ ap (λ (b : Bool). worse why false (not b)) (sym (wrong_on e))

  -- one that does not count changes nothing
  module _ (m : Obj) (ms : List Obj) (l : listed m.tag names ≡ false) where
    unlike : (name : ℕ) → listed name names ≡ true → name ≡ m.tag → ⊥
    unlike name k e = false≢true (sym l ∙ (ap (λ (n : ℕ). listed n names) (sym e) ∙ k))

    passed_doubled : (d : List ℕ) → doubled d (m ∷ ms) ≡ doubled d ms
    passed_doubled d =
        by_name d (m ∷ ms)
        ∙ (any_alike (double d (m ∷ ms)) (double d ms) names
        (λ name k. ap (λ (x : Lookup). eqb (times x) 2 || again (has d name) x) (other_lookup m ms name (unlike name k)))
        ∙ sym (by_name d ms))

    passed_wrong : wrong (m ∷ ms) ≡ wrong ms
    unfolding any_wrong
    passed_wrong =
        any_alike (λ name. wrong_value name (lookup name (m ∷ ms))) (λ name. wrong_value name (lookup name ms)) names
        (λ name k. ap (wrong_value name) (other_lookup m ms name (unlike name k)))

  none_wrong : wrong [] ≡ false
  unfolding any_wrong wrong_value lookup any_of
  none_wrong = nothing names
    where
      nothing : (ns : List ℕ) → any_of (map (λ (name : ℕ). false) ns) ≡ false
      nothing [] = refl
      nothing (n ∷ ns) = pick_no _ _ _ refl ∙ nothing ns

  none_doubled : (d : List ℕ) → doubled d [] ≡ false
  unfolding any_of lookup times again
  none_doubled d = by_name d [] ∙ nothing names
    where
      no : (b : Bool) → (b && false) ≡ false
      no true = refl
      no false = refl

      nothing : (ns : List ℕ) → any_of (map (double d []) ns) ≡ false
      nothing [] = refl
      nothing (n ∷ ns) = pick_no _ _ _ (no (has d n)) ∙ nothing ns

  module _ (m : Obj) (why : ℕ) (d : List ℕ) where
    counted : listed m.tag names ≡ true → one_taken names m.tag m.value (taken why d)
        ≡ taken (worse why (has d m.tag) (right_value m.tag m.value))
        (kept_in m.tag (pick (right_value m.tag m.value) m.value []) d)
    unfolding one_taken taken
    counted l = pick_yes _ _ _ l

    passed : listed m.tag names ≡ false → one_taken names m.tag m.value (taken why d) ≡ taken why d
    unfolding one_taken
    passed l = pick_no _ _ _ l

  clear : (why : ℕ) → finally why false false ≡ why
  unfolding worse pick
  clear why = refl

  -- the reason after some objects
  pub reason_taken : (n : ℕ) {ms : List Obj} → n ≤ 254 → Held n ms → (why : ℕ) (d : List ℕ) → length d ≡ end
      → (objects_taken names ms (taken why d)).why ≡ finally why (doubled d ms) (wrong ms)
  unfolding objects_taken taken v d'
  reason_taken n h none_left why d all =
      sym (ap₂ (λ (two bad : Bool). finally why two bad) (none_doubled d) none_wrong ∙ clear why)
  reason_taken n h (and_then {m} {ms} i k rest) why d all =
      either (listed m.tag names)
      (λ l.
      ap (λ (x : Taken). (objects_taken names ms x).why) (counted m why d l)
      ∙ (reason_taken n h rest _ _ (keep_all d all m.tag _)
      ∙ finally_on m ms l (omega arith) d all why))
      (λ l.
      ap (λ (x : Taken). (objects_taken names ms x).why) (passed m why d l)
      ∙ (reason_taken n h rest why d all
      ∙ sym (ap₂ (λ (two bad : Bool). finally why two bad) (passed_doubled m ms l d) (passed_wrong m ms l))))

  -- where there is none, all that counts was kept as it stands
  no_worse : (why : ℕ) (told right : Bool) → worse why told right ≡ 0 → (why ≡ 0) × (right ≡ true)
  unfolding worse pick
  no_worse why true right e = absurd (omega arith)
  no_worse why false true e = (e, refl)
  no_worse why false false e = absurd (go (eqb why 4) e)
    where
      go : (b : Bool) → ◌≡◌ {A = ℕ} (pick b 4 5) 0 → ⊥
      go true f = omega arith
      go false f = omega arith

  pub bytes_taken : (ms : List Obj) (why : ℕ) (d : List ℕ) → (objects_taken names ms (taken why d)).why ≡ 0
      → (why ≡ 0) × ((objects_taken names ms (taken why d)).bytes ≡ kept_objects names ms d)
  unfolding objects_taken kept_objects kept_told taken
  bytes_taken [] why d e = (e, refl)
  bytes_taken (m ∷ ms) why d e =
      either (listed m.tag names)
      (λ l.
      let here = ap (objects_taken names ms) (counted m why d l) in
      let later = bytes_taken ms _ _ (sym (ap (λ (x : Taken). x.why) here) ∙ e) in
      let right = no_worse why (has d m.tag) (right_value m.tag m.value) later.0 in (
        right.0,
        ap (λ (x : Taken). x.bytes) here
            ∙ (later.1
            ∙ ap (kept_objects names ms)
            (ap (λ (x : List ℕ). kept_in m.tag x d) (pick_yes _ _ _ right.1) ∙ sym (pick_yes _ _ _ l))),
      ))
      (λ l.
      let here = ap (objects_taken names ms) (passed m why d l) in
      let later = bytes_taken ms why d (sym (ap (λ (x : Taken). x.why) here) ∙ e) in (
        later.0,
        ap (λ (x : Taken). x.bytes) here ∙ (later.1 ∙ ap (kept_objects names ms) (sym (pick_no _ _ _ l))),
      ))
