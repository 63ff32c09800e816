-- Whether a session is one of some inputs.
use Rattle.std.specs.Prelude.{◌≡◌, ◌≢◌, ◌==◌, ◌&&◌, ℕ, ◌+◌, Bool, List, [], ◌∷◌, ◌⊎◌}
use Rattle.std.specs.Cmp.Lexicographic.{pointwise}
use Rattle.irv_base.specs.Names.{Id, is_same}
use Rattle.assertion_file.specs.Content.{Content as FileContent, margins_of}
use Rattle.session_state.specs.declared.digests.Digests.{Digests}
use Rattle.session_state.specs.declared.inputs.InputFault.{InputFault}
use Rattle.session_state.specs.declared.inputs.InputFault.TheVariants.{Differs, Facts}
use Rattle.session_state.specs.Content.{Content}

-- ---- the digests

pub record AreSameDigests (session files : Digests) : Type 0 where
  pub ballots : session.ballots ≡ files.ballots
  pub manifest : session.manifest ≡ files.manifest
  pub assertions : session.assertions ≡ files.assertions

-- this is the first pair whose two lists differ, if the pairs are counted from this number
abbrev pub IsFirstDifferent : ℕ → List (List ℕ × List ℕ) → ℕ → List ℕ → List ℕ → Type 0
IsFirstDifferent k [] which expected found = ⊥
IsFirstDifferent k (pair ∷ pairs) which expected found =
    ((pair.0 ≢ pair.1) × (which ≡ k) × (expected ≡ pair.0) × (found ≡ pair.1))
    ⊎ ((pair.0 ≡ pair.1) × IsFirstDifferent (k + 1) pairs which expected found)

-- the digest of each file in the session, paired with the digest of the file itself
abbrev pub digest_pairs : Digests → Digests → List (List ℕ × List ℕ)
digest_pairs session files =
    (session.ballots, files.ballots) ∷ (session.manifest, files.manifest)
    ∷ (session.assertions, files.assertions) ∷ []

-- the fault names the first digest that differs
abbrev pub IsOtherDigest : Digests → Digests → InputFault → Type 0
IsOtherDigest session files (Differs which expected found) =
    IsFirstDifferent 1 (digest_pairs session files) which expected found
IsOtherDigest session files Facts = ⊥

-- ---- the cards, the contest and the margins

pub record HasFacts (content : Content) (cards : ℕ) (contest : Id)
    (margins : List ℕ) : Type 0 where
  pub cards_are : content.session.cards ≡ cards
  pub contest_is : content.contest ≡ contest
  pub margins_are : content.session.margins ≡ margins

-- the same as a test
abbrev pub has_facts : Content → ℕ → Id → List ℕ → Bool
has_facts content cards contest margins =
    (content.session.cards == cards) && is_same content.contest contest
    && pointwise ◌==◌ content.session.margins margins

-- ---- both

module _ (content : Content) (digests : Digests) (cards : ℕ) (contest : Id) (margins : List ℕ) where
  pub record IsOf : Type 0 where
    pub digests_are : AreSameDigests content.digests digests
    pub facts : HasFacts content cards contest margins

  -- the first digest that differs, or otherwise a fact that differs
  abbrev pub IsFault : InputFault → Type 0
  IsFault (Differs which expected found) =
      IsOtherDigest content.digests digests (Differs which expected found)
  IsFault Facts =
      AreSameDigests content.digests digests × (HasFacts content cards contest margins → ⊥)

-- the same with the contest and margins of an assertion file

abbrev pub IsOfInputs : Content → Digests → ℕ → FileContent → Type 0
IsOfInputs content digests cards file =
    IsOf content digests cards file.contest (margins_of file)

abbrev pub IsInputFault : Content → Digests → ℕ → FileContent → InputFault → Type 0
IsInputFault content digests cards file =
    IsFault content digests cards file.contest (margins_of file)
