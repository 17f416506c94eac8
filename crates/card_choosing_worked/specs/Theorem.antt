-- That what is seen of an answer while the application is chosen is not too much, nor what is left out too little (02, R-13 over R-12), in
-- one record: for each name of each place two sessions that differ in that object alone, and then in a command. That it holds is `theorem`
-- of proofs/Theorem. A name that is added to the lists of `card_seen` needs a pair more there.
-- Assumes nothing.
use Rattle.std.specs.Prelude.{◌≡◌, true, List, [], ◌∷◌, ◌++◌, ℕ}
use Rattle.answer_common.specs.Named.{listed}
use Rattle.answer_select.specs.Select.{select_names}
use Rattle.rulebook_choosing.specs.Choosing.{Choosing, searched}
use Rattle.rulebook_choosing.specs.Session.{rules}
use Rattle.rulebook.specs.Later.{AskedLater}
use Rattle.card_seen.specs.Seen as seen
use Rattle.card_seen.specs.Seen.{Place, environment_names, application_names, entry_names, entry_noted, Shown, named_at}
use Rattle.card_seen.specs.Under.{reason_in}
use Rattle.card_seen.specs.SideBySide.{Alike}
use Rattle.card_worked.specs.Matters.{MattersUnder}
use Rattle.card_worked.specs.Dressed.{DressedUnder}
use Rattle.card_choosing.specs.Places.{place_of, view}

-- two sessions of the rules with choosing, none of which ends with a reason by then: an answer that is not good leads on in a search
abbrev pub MattersAt : Place → ℕ → Type 0
MattersAt place name = (m : MattersUnder rules place_of name 0) × (m.place ≡ place)

-- all that is named in the environment's answer, in a directory record, and in an application's answer
abbrev pub in_environment : List ℕ
in_environment = select_names ++ environment_names

abbrev pub in_record : List ℕ
in_record = 0x61 ∷ (entry_names ++ entry_noted)

abbrev pub in_application : List ℕ
in_application = select_names ++ application_names

-- two directory records with the same two entries, in another order
pub record Exchanged (a b : List ℕ) : Type 0 where
  pub first : Shown
  pub second : Shown
  pub one : named_at seen.directory a ≡ first ∷ second ∷ []
  pub other : named_at seen.directory b ≡ second ∷ first ∷ []

-- two answers to a question of a search that are alike but for the one object, which stands in one of them alone, and lead to no reason
pub record FormParts : Type 0 where
  pub asking : Choosing
  pub one : List ℕ
  pub other : List ℕ
  pub alike : Alike (place_of (AskedLater.new asking)) one other
  pub no_reason : (reason_in (searched asking one) ≡ 0) × (reason_in (searched asking other) ≡ 0)
  pub apart : searched asking one ≡ searched asking other → ⊥

pub record Worked : Type 0 where
  pub environment : (name : ℕ) → listed name in_environment ≡ true → MattersAt seen.environment name
  pub directory : (name : ℕ) → listed name in_record ≡ true → MattersAt seen.directory name
  pub application : (name : ℕ) → listed name in_application ≡ true → MattersAt seen.application name
  -- the order of a record's entries counts, so that `any_order_there` of `card_choosing` keeps it
  pub entry_order : (m : MattersUnder rules place_of 0x61 0) × Exchanged m.one m.other
  -- and whether the one object stands there, so that `AlikeInForm` of `card_choosing` asks for it
  pub form : FormParts
  -- two whole sessions that are given the same, no answer of which has the bytes of the other's
  pub dressed : DressedUnder rules view
