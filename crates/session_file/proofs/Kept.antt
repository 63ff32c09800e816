-- Whether a session is kept, after its lists are read.
use Rattle.std.proofs.Common.{◌≡◌, ◌==◌, Bool, true, ◌&&◌, None, Some, ap}
use Rattle.std.specs.Prelude.{if◌then◌else◌}
use Rattle.std.proofs.Math.Bool.{beq}
use Rattle.std.proofs.lemmas.Bool.{and_from}
use Rattle.irv_base.specs.Names.{is_name}
use Rattle.sampler.specs.Seeds.{is_seed}
use Rattle.session_state.specs.Content.{Content, IsSound}
use Rattle.session_state.specs.Sessions.{is_signed_off}
use Rattle.session_file.specs.Forms.{HasForms}
use Rattle.session_file.specs.declared.print.TheConstants.{VERSION}
use Rattle.session_file.specs.Reading.{sound_session}
use Rattle.session_file.specs.Sound.{are_margins, are_rounds, is_cards, is_gamma, is_limit, is_session, is_sound}
use Rattle.session_file.specs.Stated.{Heading}
use Rattle.session_file.proofs.SoundSessions.{session-from, session-is}

module _ (content : Content) where
  abbrev limited : Bool
  limited = is_cards content.session.cards && is_limit content.session.limit && is_gamma content.session.gamma

  pub sound-tested : limited ≡ true → are_margins content.session.cards content.session.margins ≡ true → are_rounds content.session ≡ true → IsSound content
  sound-tested limits margins rounds =
      let is = session-is content.session
      (and_from (limited && are_margins content.session.cards content.session.margins) (are_rounds content.session)
      (and_from limited (are_margins content.session.cards content.session.margins) limits margins) rounds) in
      record { limits = is.limits; session = is.session_is }

  sound-is : IsSound content → HasForms content → is_sound content ≡ true
  sound-is s f =
      and_from (is_name content.contest && is_seed content.seed) (is_session content.session)
      (and_from (is_name content.contest) (is_seed content.seed) f.contest f.seed)
      (session-from content.session (record { limits = s.limits; session_is = s.session }))

  -- a sound session whose file correctly says whether it is signed off
  pub kept-sound : (heading : Heading) → (heading.version == VERSION) ≡ true → IsSound content → HasForms content →
      beq heading.signed_off (is_signed_off content.session) ≡ true → sound_session heading content ≡ Some content
  kept-sound heading v s f b =
      ap (λ c. if c then Some content else None)
      (and_from ((heading.version == VERSION) && is_sound content) (beq heading.signed_off (is_signed_off content.session))
      (and_from (heading.version == VERSION) (is_sound content) v (sound-is s f)) b)
