-- What a JSON value states: the members of a session's object, and those of a round.
use Rattle.std.specs.Prelude.{ℕ, Bool, List, [], ◌∷◌, codes, Option, Some, None}
use Rattle.std.specs.Result.{result_ok}
use Rattle.hex.specs.Hex.{decode_sized}
use Rattle.serde_json.specs.Data.{Data}
use Rattle.serde_json.specs.Find.{as_bool, as_number, as_str, as_u64}
use Rattle.assertion_file.specs.Stated.{◌>>=◌, list, list_in, member_as, number, number_in, terms_of, text_in}
use Rattle.assertion_file.specs.declared.members.Terms.{Terms}
use Rattle.km_risk.specs.declared.draws.Counts.{Counts}
use Rattle.session_state.specs.declared.digests.Digests.{Digests}
use Rattle.session_state.specs.Sessions.{Round}

-- ---- the kinds of members

-- what the elements of a list are, if each of them is of that kind
abbrev pub each : {A : Type 0} → (Data → Option A) → List Data → Option (List A)
each kind [] = Some []
each kind (value ∷ values) = do
  first ← kind value
  rest ← each kind values
  Some (first ∷ rest)

-- the 32 bytes of 64 hexadecimal digits, whose letters may be in either case
abbrev pub digest : Data → Option (List ℕ)
digest value = do
  text ← as_str value
  result_ok (decode_sized text 32)

-- a risk in units of 10^-18
abbrev pub risk : Data → Option ℕ
risk value = do
  any ← as_number value
  as_u64 any

-- five numbers, for d from 0 to 4
abbrev pub counts_from : List Data → Option Counts
counts_from (d0 ∷ d1 ∷ d2 ∷ d3 ∷ d4 ∷ []) = do
  n0 ← number d0
  n1 ← number d1
  n2 ← number d2
  n3 ← number d3
  n4 ← number d4
  Some (record { n0 = n0; n1 = n1; n2 = n2; n3 = n3; n4 = n4 })
counts_from _ = None

abbrev pub counts : Data → Option Counts
counts value = do
  values ← list value
  counts_from values

-- ---- a round

-- the members of a round, with the elements of its lists as they are
pub record Entry : Type 0 where
  pub counts : List Data
  pub draws : ℕ
  pub risks : List Data

unfoldable pub entry_in : Data → Option Entry
entry_in value = do
  counts ← list_in (codes "counts") value
  draws ← number_in (codes "draws") value
  risks ← list_in (codes "risks") value
  Some (record { counts = counts; draws = draws; risks = risks })

unfoldable pub round : Data → Option Round
round value = do
  entry ← entry_in value
  counts ← each counts entry.counts
  risks ← each risk entry.risks
  Some (record { draws = entry.draws; counts = counts; risks = risks })

-- ---- the session's object

-- the members of a session, with the elements of its lists as they are
pub record Heading : Type 0 where
  pub contest : List ℕ
  pub margins : List Data
  pub seed : List ℕ
  pub rounds : List Data
  pub signed_off : Bool
  pub version : ℕ
  pub terms : Terms
  pub digests : Digests

unfoldable pub digests_in : Data → Option Digests
digests_in value = do
  assertions ← member_as digest (codes "assertions") value
  ballots ← member_as digest (codes "ballots") value
  manifest ← member_as digest (codes "manifest") value
  Some (record { ballots = ballots; manifest = manifest; assertions = assertions })

unfoldable pub heading_in : Data → Option Heading
heading_in value = do
  contest ← text_in (codes "contest") value
  margins ← list_in (codes "margins") value
  seed ← text_in (codes "seed") value
  rounds ← list_in (codes "rounds") value
  signed_off ← member_as as_bool (codes "signed_off") value
  version ← number_in (codes "version") value
  terms ← terms_of value
  digests ← digests_in value
  Some (record {
    contest = contest;
    margins = margins;
    seed = seed;
    rounds = rounds;
    signed_off = signed_off;
    version = version;
    terms = terms;
    digests = digests;
  })
