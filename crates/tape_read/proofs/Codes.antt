-- The order of the codes: a block's code is that of the first test that fails, whatever the later ones say, and it is 0
-- exactly where none fails. Assumes nothing.
use mathlib.Core.Path.{◌≡◌, ◌∙◌}
use mathlib.Core.Bool.{true, false}
use mathlib.Core.List.{List}
use Prim.Native.Nat.{ℕ}
use Rattle.slices.specs.Choice.{first_of}
use Rattle.tape_read.specs.Blocks.{check_bad, number_bad, session_bad, kind_bad, spare_bad, length_bad, padding_bad, content_tests, code_of}
use Rattle.tape_read.proofs.Extra.{first_hit, first_skip, first_end, first_none}

module _ (b : List ℕ) where
  pub content_kind : kind_bad b ≡ true → first_of (content_tests b) ≡ 6
  unfolding content_tests
  content_kind kind = first_hit _ _ _ kind

  module _ (kind : kind_bad b ≡ false) where
    pub content_spare : spare_bad b ≡ true → first_of (content_tests b) ≡ 7
    unfolding content_tests
    content_spare spare = first_skip _ _ _ kind ∙ first_hit _ _ _ spare

    module _ (spare : spare_bad b ≡ false) where
      pub content_length : length_bad b ≡ true → first_of (content_tests b) ≡ 8
      unfolding content_tests
      content_length length = first_skip _ _ _ kind ∙ (first_skip _ _ _ spare ∙ first_hit _ _ _ length)

      module _ (length : length_bad b ≡ false) where
        pub content_padding : padding_bad b ≡ true → first_of (content_tests b) ≡ 9
        unfolding content_tests
        content_padding padding = first_skip _ _ _ kind ∙ (first_skip _ _ _ spare ∙ (first_skip _ _ _ length ∙ first_hit _ _ _ padding))

        pub content_good : padding_bad b ≡ false → first_of (content_tests b) ≡ 0
        unfolding content_tests
        content_good padding =
            first_skip _ _ _ kind ∙ (first_skip _ _ _ spare ∙ (first_skip _ _ _ length ∙ (first_skip _ _ _ padding ∙ first_end)))

module _ (n s : ℕ) (b : List ℕ) where
  pub code_check_lem : check_bad b ≡ true → code_of n s b ≡ 3
  unfolding code_of
  code_check_lem check = first_hit _ _ _ check

  module _ (check : check_bad b ≡ false) where
    pub code_number_lem : number_bad n b ≡ true → code_of n s b ≡ 4
    unfolding code_of
    code_number_lem number = first_skip _ _ _ check ∙ first_hit _ _ _ number

    module _ (number : number_bad n b ≡ false) where
      pub code_session_lem : session_bad s b ≡ true → code_of n s b ≡ 5
      unfolding code_of
      code_session_lem session = first_skip _ _ _ check ∙ (first_skip _ _ _ number ∙ first_hit _ _ _ session)

      pub code_content : session_bad s b ≡ false → code_of n s b ≡ first_of (content_tests b)
      unfolding code_of
      code_content session = first_skip _ _ _ check ∙ (first_skip _ _ _ number ∙ first_skip _ _ _ session)

-- every test is passed
pub record Good (n s : ℕ) (b : List ℕ) : Type 0 where
  pub check : check_bad b ≡ false
  pub number : number_bad n b ≡ false
  pub session : session_bad s b ≡ false
  pub kind : kind_bad b ≡ false
  pub spare : spare_bad b ≡ false
  pub length : length_bad b ≡ false
  pub padding : padding_bad b ≡ false

pub good_code : (n s : ℕ) (b : List ℕ) → Good n s b → code_of n s b ≡ 0
good_code n s b g =
    code_content n s b g.check g.number g.session ∙ content_good b g.kind g.spare g.length g.padding

pub code_good : (n s : ℕ) (b : List ℕ) → code_of n s b ≡ 0 → Good n s b
unfolding code_of content_tests
code_good n s b e =
    let after3 = first_none _ 2 _ e in
    let after4 = first_none _ 3 _ after3.1 in
    let after5 = first_none _ 4 _ after4.1 in
    let after6 = first_none _ 5 _ after5.1 in
    let after7 = first_none _ 6 _ after6.1 in
    let after8 = first_none _ 7 _ after7.1 in
    let after9 = first_none _ 8 _ after8.1 in
    record {
      check = after3.0;
      number = after4.0;
      session = after5.0;
      kind = after6.0;
      spare = after7.0;
      length = after8.0;
      padding = after9.0;
    }
