-- What files say if a command answers.
use Rattle.std.proofs.Common.{◌≡◌, inl, inr, ℕ, ◌≤◌, length, nat_le, Bool, true, false, if◌then◌else◌, List, Option, None, Some, Result, Ok, Err, sym, ap, subst, ◌∙◌, leb-true, le-leb, refl}
use Rattle.std.specs.Prelude.{ok_or, option_map}
use Rattle.desk.specs.Desk.{File, held_bytes}
use Rattle.ballots.specs.Ballots.{BallotFile}
use Rattle.manifest.specs.Cards.{Batches}
use Rattle.manifest.specs.Linked.{first_without_card}
use Rattle.manifest.specs.Manifest.{manifest_of}
use Rattle.cli_base.specs.Outcome.{Outcome, Verdict, Answered, Refused}
use Rattle.cli_base.specs.Script.{Script, Read, Readings, Bytes, TooLong, AsHeld, Concludes, May, limit, reading_of, stop_of}
use Rattle.cli_base.specs.declared.outcome.AnswerKind.{AnswerKind}
use Rattle.input_files.specs.Cards.{cards_for, without_card}
use Rattle.input_files.specs.Judged.{told, unless, then_judged, go_on}
use Rattle.input_files.specs.Refusals.{no_card, refused_manifest}
use Rattle.raire_cli.specs.Held.{Says}
use Rattle.input_files.proofs.Going.{IsRefusal, OnlyRefuses, told-only}

-- ---- a file that is read whole

pub held_whole : (held : Option (List ℕ)) (bytes : List ℕ) → Bytes bytes ≡ reading_of held → held ≡ Some bytes
held_whole None bytes e = cc
held_whole (Some all) bytes e = by_length (nat_le (length all) limit) e where
  by_length : (b : Bool) → Bytes bytes ≡ (if b then Bytes all else TooLong) → Some all ≡ Some bytes
  by_length true e = cc
  by_length false e = cc

pub short_of : (held : Option (List ℕ)) (bytes : List ℕ) → Bytes bytes ≡ reading_of held → length bytes ≤ limit
short_of None bytes e = absurd (cc e)
short_of (Some all) bytes e = by (nat_le (length all) limit) refl e where
  by : (b : Bool) → nat_le (length all) limit ≡ b → Bytes bytes ≡ (if b then Bytes all else TooLong) → length bytes ≤ limit
  by true le e = let same : all ≡ bytes = cc in subst (λ xs. length xs ≤ limit) same (leb-true (length all) limit le)
  by false le e = absurd (cc e)

pub read_whole : (name : List ℕ) (files : List File) (bytes : List ℕ) → held_bytes name files ≡ Some bytes → length bytes ≤ limit →
    Bytes bytes ≡ reading_of (held_bytes name files)
read_whole name files bytes held short =
    sym (ap reading_of held ∙ ap (λ b. if b then Bytes bytes else TooLong) (le-leb (length bytes) limit short))

pub none_is_some : {due : Outcome} → None ≡ Some due → ⊥
none_is_some e = cc e

-- ---- a file that is judged

-- a result is one value
pub only : {A E : Type 0} {r : Result A E} {x y : A} → r ≡ Ok x → r ≡ Ok y → x ≡ y
only {A = A} {E = E} {x = x} {y = y} first second = let same : ◌≡◌ {A = Result A E} (Ok x) (Ok y) = sym first ∙ second in cc

-- an answer comes from what is said
pub value_of : {A : Type 0} (readings : Readings) (judged : Result A Verdict) (next : A → Script) (kind : AnswerKind) (text : List ℕ) → OnlyRefuses judged →
    Concludes readings (go_on judged next) (Answered kind text) → (value : A) × (judged ≡ Ok value) × Concludes readings (next value) (Answered kind text)
value_of readings (Ok value) next kind text only comes = (value, refl, comes)
value_of readings (Err (Answered k t)) next kind text only comes = absurd only
value_of readings (Err (Refused name t)) next kind text only comes = absurd (cc comes)

-- the command continues with what is said
pub going : {A : Type 0} (readings : Readings) (judged : Result A Verdict) (value : A) (next : A → Script) (due : Outcome) → judged ≡ Ok value →
    May readings (next value) due →
    May readings (go_on judged next) due
going readings judged value next due is may = subst (λ j. May readings (go_on j next) due) (sym is) may

pub told_ok : {A Why : Type 0} (words : Why → Verdict) (read : Result A Why) (value : A) → told words read ≡ Ok value → read ≡ Ok value
told_ok words (Ok v) value is = cc is
told_ok words (Err why) value is = absurd (cc is)

-- the bytes of a file that a command reads and continues with, and what they say
pub record IsSaid {A Why : Type 0} (files : List File) (name : List ℕ) (read : List ℕ → Result A Why) (next : List ℕ → A → Script) (kind : AnswerKind)
    (text : List ℕ) : Type 0 where
  pub bytes : List ℕ
  pub held : held_bytes name files ≡ Some bytes
  pub is_short : length bytes ≤ limit
  pub value : A
  pub is : read bytes ≡ Ok value
  pub rest : Concludes (AsHeld files) (next bytes value) (Answered kind text)

pub says_of : {A Why : Type 0} {files : List File} {name : List ℕ} {read : List ℕ → Result A Why} {next : List ℕ → A → Script} {kind : AnswerKind}
    {text : List ℕ} (said : IsSaid files name read next kind text) → Says files name read said.value
says_of {A} {Why} {files} {name} {read} {next} {kind} {text} said =
    record { bytes = said.bytes; held = said.held; is_short = said.is_short; is = said.is }

module _ {A Why : Type 0} (files : List File) (name : List ℕ) (words : Why → Verdict) (read : List ℕ → Result A Why) (next : List ℕ → A → Script) where
  -- a command that answers comes to it
  pub said : (kind : AnswerKind) (text : List ℕ) → ((why : Why) → IsRefusal (words why)) →
      Concludes (AsHeld files) (Read name (λ bytes. go_on (told words (read bytes)) (next bytes))) (Answered kind text) → IsSaid files name read next kind text
  said kind text refuses (bytes, there, rest) =
      let (value, is, on) = value_of (AsHeld files) (told words (read bytes)) (next bytes) kind text (told-only words (read bytes) refuses) rest in
      record {
        bytes = bytes;
        held = held_whole (held_bytes name files) bytes there;
        is_short = short_of (held_bytes name files) bytes there;
        value = value;
        is = told_ok words (read bytes) value is;
        rest = on;
      }

  module _ (bytes : List ℕ) (held : held_bytes name files ≡ Some bytes) (is_short : length bytes ≤ limit) (value : A) (is : read bytes ≡ Ok value) where
    -- and the other way around
    pub saying : (v : Verdict) → Concludes (AsHeld files) (next bytes value) v →
        Concludes (AsHeld files) (Read name (λ bytes. go_on (told words (read bytes)) (next bytes))) v
    saying v rest =
        (bytes, read_whole name files bytes held is_short, subst (λ r. Concludes (AsHeld files) (go_on (told words r) (next bytes)) v) (sym is) rest)

    -- it has no other end
    pub says : (due : Outcome) → May (AsHeld files) (Read name (λ bytes. go_on (told words (read bytes)) (next bytes))) due →
        May (AsHeld files) (next bytes value) due
    says due (inl (reading, there, stops)) =
        let its : Bytes bytes ≡ reading = read_whole name files bytes held is_short ∙ sym there in
        absurd (none_is_some (subst (λ r. stop_of name r ≡ Some due) (sym its) stops))
    says due (inr (other, there, rest)) =
        let same : other ≡ bytes = let whole : Bytes other ≡ Bytes bytes = there ∙ sym (read_whole name files bytes held is_short) in cc in
        subst (λ r. May (AsHeld files) (go_on (told words r) (next bytes)) due) is
        (subst (λ b. May (AsHeld files) (go_on (told words (read b)) (next b)) due) same rest)

    pub may_say : (due : Outcome) → May (AsHeld files) (next bytes value) due →
        May (AsHeld files) (Read name (λ bytes. go_on (told words (read bytes)) (next bytes))) due
    may_say due rest =
        inr (bytes, read_whole name files bytes held is_short, subst (λ r. May (AsHeld files) (go_on (told words r) (next bytes)) due) (sym is) rest)

pub unless_ok : {A : Type 0} (wrong : Option Verdict) (judged : Result A Verdict) (value : A) → unless wrong judged ≡ Ok value →
    (wrong ≡ None) × (judged ≡ Ok value)
unless_ok None judged value is = (refl, is)
unless_ok (Some verdict) judged value is = absurd (cc is)

pub then_ok : {A B : Type 0} (first : Result A Verdict) (next : A → Result B Verdict) (value : B) → then_judged first next ≡ Ok value →
    (a : A) × (first ≡ Ok a) × (next a ≡ Ok value)
then_ok (Ok a) next value is = (a, refl, is)
then_ok (Err verdict) next value is = absurd (cc is)

pub some_ok : {A : Type 0} (o : Option A) (verdict : Verdict) (value : A) → ok_or o verdict ≡ Ok value → o ≡ Some value
some_ok None verdict value is = absurd (cc is)
some_ok (Some v) verdict value is = cc is

pub none_mapped : {A B : Type 0} (f : A → B) (o : Option A) → option_map f o ≡ None → o ≡ None
none_mapped f None none = refl
none_mapped f (Some x) none = absurd (cc none)

-- the batches that the command continues with are those of the manifest, and each ballot has a card
pub said_cards : (name : List ℕ) (ballots : BallotFile) (manifest bytes : List ℕ) (batches : Batches) → cards_for name ballots manifest bytes ≡ Ok batches →
    (manifest_of bytes ≡ Ok batches) × (first_without_card batches ballots ≡ None)
said_cards name ballots manifest bytes batches is =
    let (read, first, placed) = then_ok (told (refused_manifest manifest) (manifest_of bytes)) _ batches is in
    let (without, same) = unless_ok (without_card name ballots read) _ batches placed in
    let read-is : read ≡ batches = cc same in (
      told_ok (refused_manifest manifest) (manifest_of bytes) batches (first ∙ ap Ok read-is),
      subst (λ b. first_without_card b ballots ≡ None) read-is (none_mapped (no_card name) (first_without_card read ballots) without),
    )
