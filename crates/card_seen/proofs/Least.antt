-- Of two good answers the reasons are both 0, so the rules go on with the same: what they take from an answer is what `used_of` names.
-- Assumes nothing.
use mathlib.Core.Path.{◌≡◌, sym, ap, ◌∙◌}
use mathlib.Core.List.{List}
use Prim.Native.Nat.{ℕ}
use Rattle.answer_common.specs.Content.{names_for}
use Rattle.answer_record.specs.Records.{named_in}
use Rattle.decide_cryptogram.specs.Cryptograms.{Given}
use Rattle.facts.specs.Facts.{Facts, or_else}
use Rattle.rulebook.specs.Situation.{Situation}
use Rattle.rulebook.specs.Phase.{Asked, selecting, optioning, reading, first, second, Phase, asks, decided}
use Rattle.rulebook.specs.Turn.{goes_on, selected, read_on, with_profile, optioned}
use Rattle.rulebook.specs.Turn.{with_record, recorded, answered, by_first, first_answered}
use Rattle.rulebook.specs.Turn.{by_second, second_answered, turn}
use Rattle.card_seen.specs.SideBySide.{reason_in}
use Rattle.card_seen.specs.Used.{Used, list, options, told, gave, used_of}
use Rattle.card_seen.proofs.SideBySide.{no_reason}

-- the reasons are both 0, so the same
good : (r q : ℕ) (s : Situation) (x y : Phase) → reason_in (goes_on r s x) ≡ 0 → reason_in (goes_on q s y) ≡ 0 → r ≡ q
good r q s x y e f = no_reason r s x e ∙ sym (no_reason q s y f)

same_list : (x y : List ℕ) → list x ≡ list y → x ≡ y
same_list x y e = cc

same_profile : (p q : List ℕ) (rs ts : List (ℕ × ℕ)) → options p rs ≡ options q ts → p ≡ q
same_profile p q rs ts e = cc

same_records : (p q : List ℕ) (rs ts : List (ℕ × ℕ)) → options p rs ≡ options q ts → rs ≡ ts
same_records p q rs ts e = cc

facts_of : Used → Facts → Facts
facts_of (list l) other = other
facts_of (options p rs) other = other
facts_of (told f) other = f
facts_of (gave g) other = other

same_gave : (g h : Given) → gave g ≡ gave h → g ≡ h
same_gave g h e = cc

pub least : (w : Asked) (a b : List ℕ) → used_of w a ≡ used_of w b → reason_in (turn w a) ≡ 0 → reason_in (turn w b) ≡ 0
    → turn w a ≡ turn w b
unfolding turn used_of selected optioned recorded first_answered second_answered with_record facts_of
least (selecting s) a b e one other =
    let reason = good _ _ s _ _ one other in
    let l = same_list _ _ e in
    λ i. goes_on (reason i) s (asks (optioning s (l i)))
least (optioning s l) a b e one other =
    let reason = good _ _ s _ _ one other in
    let profile = same_profile _ _ _ _ e in
    let records = same_records _ _ _ _ e in
    λ i. goes_on (reason i) s (read_on (with_profile s (profile i)) (records i))
least (reading s number file rest) a b e one other =
    let reason = good _ _ s _ _ one other in
    let f : ◌≡◌ {A = Facts} (λ tag. named_in (names_for s.terminal) tag a) (λ tag. named_in (names_for s.terminal) tag b) =
    ap (λ (u : Used). facts_of u s.facts) e in
    λ i. goes_on (reason i) s (read_on (record {
      terminal = s.terminal;
      profile = s.profile;
      facts = λ tag. or_else (s.facts tag) (f i tag);
      tvr = s.tvr;
      tsi = s.tsi;
    }) rest)
least (first s request) a b e one other =
    let reason = good _ _ s _ _ one other in
    let g = same_gave _ _ e in
    λ i. goes_on (reason i) s (by_first (g i) (answered s))
least (second s request code) a b e one other =
    let reason = good _ _ s _ _ one other in
    let g = same_gave _ _ e in
    λ i. goes_on (reason i) s (decided (by_second (g i)) s)
