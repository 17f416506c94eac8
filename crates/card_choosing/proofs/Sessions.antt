-- The rules with choosing keep what `Whole` asks of rules: every turn goes by what is seen, no word is an answer, and of alike answers that
-- end no session the same is seen. In a search an answer of a wrong size ends the session before anything else is asked.
-- Assumes nothing.
use mathlib.Core.Path.{◌≡◌, refl, sym, ap, ◌∙◌}
use mathlib.Core.Bool.{true, false}
use mathlib.Core.List.{List}
use Prim.Native.Nat.{ℕ}
use native.Mathlib.Omega.{arith}
use Rattle.slices.proofs.Choice.{pick_yes, either}
use Rattle.numbers.specs.Tables.{for_size}
use Rattle.answer_common.specs.Answer.{size_bad}
use Rattle.select_search.specs.Search.{Found}
use Rattle.select_search.specs.Heard.{heard}
use Rattle.sessions.specs.Rules.{asks, hears, decides}
use Rattle.rulebook.specs.Phase.{Phase}
use Rattle.rulebook.specs.Later.{AskedLater, as_was, turn_later}
use Rattle.rulebook_choosing.specs.Choosing.{Choosing, following, searched}
use Rattle.rulebook_choosing.specs.Session.{rules}
use Rattle.rulebook_choosing.proofs.Kept.{kinds}
use Rattle.card_seen.specs.Seen.{Place, seen}
use Rattle.card_seen.specs.Under.{reason_in, Whole}
use Rattle.card_seen.proofs.SideBySide.{alike_to}
use Rattle.card_seen.proofs.Whole.{whole}
use Rattle.card_choosing.specs.Places.{place_of, view, AlikeInForm, AlikeTo}
use Rattle.card_choosing.proofs.Turning.{through}

pub was_reason : (p : Phase) → reason_in (as_was {A = Choosing} {H = Choosing} p) ≡ reason_in p
unfolding as_was reason_in
was_reason (asks w) = refl
was_reason (hears h) = refl
was_reason (decides outcome reason s) = refl

size_ends : (x : Choosing) (a : List ℕ) → size_bad a ≡ true → reason_in (searched x a) ≡ for_size
unfolding searched heard following reason_in
size_ends x a y = ap (λ (f : Found). reason_in (following x f)) (pick_yes _ _ _ y)

size_right : (x : Choosing) (a : List ℕ) → reason_in (searched x a) ≡ 0 → size_bad a ≡ false
size_right x a e =
    either (size_bad a) (λ y. absurd (let z : for_size ≡ 0 = sym (size_ends x a y) ∙ e in omega arith)) (λ n. n)

alike_in_form : (p : Place) (a b : List ℕ) → AlikeInForm p a b → size_bad a ≡ false → size_bad b ≡ false → seen p a ≡ seen p b
unfolding seen
alike_in_form p a b same one other = λ i. record {
  size_wrong = (one ∙ sym other) i;
  status = same.alike.status i;
  form_wrong = same.form i;
  objects = same.alike.objects i;
}

alike : (w : AskedLater Choosing) (a b : List ℕ) → AlikeTo w a b → reason_in (rules.turn w a) ≡ 0 → reason_in (rules.turn w b) ≡ 0
    → seen (place_of w) a ≡ seen (place_of w) b
unfolding turn_later place_of
alike (AskedLater.was w) a b same one other = alike_to w a b same (sym (was_reason _) ∙ one) (sym (was_reason _) ∙ other)
alike (AskedLater.new x) a b same one other =
    alike_in_form (place_of (AskedLater.new x)) a b same (size_right x a one) (size_right x b other)

pub whole_choosing : Whole rules view AlikeTo
whole_choosing = whole rules view AlikeTo (record { through = through; no_answer = λ h. (kinds h).no_answer; alike = alike })
