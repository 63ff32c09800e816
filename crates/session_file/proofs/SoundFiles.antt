-- What is read from a session file is sound, and has its forms.
use Rattle.std.proofs.Common.{◌≡◌, ◌==◌, ℕ, ◌<◌, true, ◌&&◌, List, Option, None, Some, Result, Ok, Err, sym, ap, subst, ◌∙◌, arith}
use Rattle.std.specs.Prelude.{codes}
use Rattle.std.specs.Result.{result_ok}
use Rattle.std.proofs.Math.Bool.{beq}
use Rattle.std.proofs.lemmas.Bool.{and_parts}
use Rattle.std.proofs.lemmas.List.{get_or_default}
use Rattle.std.proofs.lemmas.Option.{cond_some, option_and_then_some, same_Some}
use Rattle.hex.specs.Hex.{decode_sized}
use Rattle.hex.proofs.HexLemmas.{decode_of-ok, decode_sized-ok, decode_sized-twice}
use Rattle.serde_json.specs.Data.{Data}
use Rattle.serde_json.specs.Find.{as_bool, as_str, get}
use Rattle.irv_base.specs.Names.{is_name}
use Rattle.sampler.specs.Seeds.{is_seed}
use Rattle.assertion_file.specs.Stated.{list_in, member_as, number, number_in, terms_of, text_in}
use Rattle.assertion_file.specs.Text.{json_of}
use Rattle.session_state.specs.Content.{Content, IsSound}
use Rattle.session_state.specs.Sessions.{is_signed_off}
use Rattle.session_state.specs.declared.digests.Digests.{Digests}
use Rattle.session_file.specs.Forms.{HasForms, IsDigest}
use Rattle.session_file.specs.declared.print.TheConstants.{VERSION}
use Rattle.session_file.specs.Reading.{content_of, content_with, is_kept, session_of}
use Rattle.session_file.specs.Sound.{is_session, is_sound}
use Rattle.session_file.specs.Stated.{Heading, digest, digests_in, each, heading_in, round}
use Rattle.session_file.proofs.SoundSessions.{session-is}

-- ---- digests

ok-is : {A E : Type 0} (r : Result A E) (x : A) → result_ok r ≡ Some x → r ≡ Ok x
ok-is (Ok y) x h = ap Ok (same_Some y x h)
ok-is (Err e) x h = absurd cc

decoded : (text bytes : List ℕ) → decode_sized text 32 ≡ Ok bytes → IsDigest bytes
decoded text bytes h =
    let long = decode_sized-ok text 32 bytes h in
    let of = decode_of-ok text bytes (sym (decode_sized-twice text 32 long) ∙ h) in
    let twice = of.2 in
    let small = of.3 in
    record {
      long = omega arith;
      bytes = λ k d within. subst (λ b. b < 256) (get_or_default bytes k 0 d within) (small k);
    }

digest-is : (value : Data) (bytes : List ℕ) → digest value ≡ Some bytes → IsDigest bytes
digest-is value bytes h =
    option_and_then_some (λ text. result_ok (decode_sized text 32)) (as_str value) bytes h
    (λ text there d. decoded text bytes (ok-is (decode_sized text 32) bytes d))

member-is : (name : List ℕ) (value : Data) (bytes : List ℕ) → member_as digest name value ≡ Some bytes → IsDigest bytes
member-is name value bytes h = option_and_then_some digest (get name value) bytes h (λ found there d. digest-is found bytes d)

record AreDigests (digests : Digests) : Type 0 where
  ballots : IsDigest digests.ballots
  manifest : IsDigest digests.manifest
  assertions : IsDigest digests.assertions

digests-are : (value : Data) (digests : Digests) → digests_in value ≡ Some digests → AreDigests digests
unfolding digests_in
digests-are value digests h =
    option_and_then_some _ (member_as digest (codes "assertions") value) digests h (λ assertions a h.
    option_and_then_some _ (member_as digest (codes "ballots") value) digests h (λ ballots b h.
    option_and_then_some _ (member_as digest (codes "manifest") value) digests h (λ manifest m h.
    let found : Digests = record { ballots = ballots; manifest = manifest; assertions = assertions } in
    subst AreDigests (same_Some found digests h) (record {
      ballots = member-is (codes "ballots") value ballots b;
      manifest = member-is (codes "manifest") value manifest m;
      assertions = member-is (codes "assertions") value assertions a;
    }))))

heading-digests : (value : Data) (heading : Heading) → heading_in value ≡ Some heading → digests_in value ≡ Some heading.digests
unfolding heading_in
heading-digests value heading h =
    option_and_then_some _ (text_in (codes "contest") value) heading h (λ contest _ h.
    option_and_then_some _ (list_in (codes "margins") value) heading h (λ margins _ h.
    option_and_then_some _ (text_in (codes "seed") value) heading h (λ seed _ h.
    option_and_then_some _ (list_in (codes "rounds") value) heading h (λ rounds _ h.
    option_and_then_some _ (member_as as_bool (codes "signed_off") value) heading h (λ signed_off _ h.
    option_and_then_some _ (number_in (codes "version") value) heading h (λ version _ h.
    option_and_then_some _ (terms_of value) heading h (λ terms _ h.
    option_and_then_some _ (digests_in value) heading h (λ digests found h.
    found ∙ ap (λ o. option_digests o) h))))))))
  where
    option_digests : Option Heading → Option Digests
    option_digests None = None
    option_digests (Some heading) = Some heading.digests

-- ---- the session

abbrev pub Kept : Content → Type 0
Kept content = IsSound content × HasForms content

content-kept : (heading : Heading) (content : Content) → AreDigests content.digests → is_kept heading content ≡ true → Kept content
content-kept heading content d h =
    let (most, said) = and_parts ((heading.version == VERSION) && is_sound content) (beq heading.signed_off (is_signed_off content.session)) h in
    let (version, sound) = and_parts (heading.version == VERSION) (is_sound content) most in
    let (names, session) = and_parts (is_name content.contest && is_seed content.seed) (is_session content.session) sound in
    let (contest, seed) = and_parts (is_name content.contest) (is_seed content.seed) names in
    let is = session-is content.session session in (
      record { limits = is.limits; session = is.session_is },
      record { contest = contest; seed = seed; ballots = d.ballots; manifest = d.manifest; assertions = d.assertions },
    )

content-sound : (value : Data) (content : Content) → content_of value ≡ Some content → Kept content
unfolding content_of
content-sound value content h =
    option_and_then_some _ (heading_in value) content h (λ heading there h.
    option_and_then_some _ (each number heading.margins) content h (λ margins _ h.
    option_and_then_some _ (each round heading.rounds) content h (λ rounds _ h.
    let found = content_with heading margins rounds in
    let (held, same) = cond_some (is_kept heading found) found content h in
    subst Kept same (content-kept heading found (digests-are value heading.digests (heading-digests value heading there)) held))))

pub read_is_sound : (bytes : List ℕ) (content : Content) → session_of bytes ≡ Some content → IsSound content × HasForms content
unfolding session_of
read_is_sound bytes content h = option_and_then_some content_of (json_of bytes) content h (λ value _ h. content-sound value content h)
