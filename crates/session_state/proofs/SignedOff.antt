-- A session that is signed off has confirmed each claim.
use Rattle.std.proofs.Common.{◌≡◌, ℕ, ◌-◌, ◌≤◌, true, List, map, length, take, get_or, All, subst}
use Rattle.std.proofs.lemmas.List.Elements.{All-contains, All-map}
use Rattle.std.proofs.lemmas.Option.{slice_get-get_or}
use Rattle.irv_base.proofs.Members.{contains-from_member}
use Rattle.manifest.specs.declared.recorded.Recorded.{Recorded}
use Rattle.manifest.specs.declared.recorded.Recorded.TheVariants.{Without}
use Rattle.km_risk.proofs.Confirmed.{confirmed_law}
use Rattle.assorters.specs.declared.seen.Seen.{Seen}
use Rattle.assorters.specs.declared.seen.Seen.TheVariants.{Missing}
use Rattle.assorters.specs.Cards.{IsAssorter, discrepancy_of}
use Rattle.session_state.specs.Sessions.{is_signed_off}
use Rattle.session_state.specs.Draws.{session_to}
use Rattle.session_state.specs.Laws.{SignedOffLaw}
use Rattle.assorters.proofs.Numbered.{discrepancy-within}
use Rattle.session_state.proofs.Rounds.{met_at}

pub each_within : (value : List ℕ → ℕ) → IsAssorter value → (recorded : List Recorded) (seen : List Seen) (drawn : List ℕ) →
    All (λ d. d ≤ 4) (map (discrepancy_of value recorded seen) drawn)
each_within value is recorded seen drawn =
    All-map (λ d. d ≤ 4) (discrepancy_of value recorded seen) drawn
    (λ k c within. discrepancy-within value is (get_or recorded (get_or drawn k c - 1) Without) (get_or seen (get_or drawn k c - 1) Missing))

pub signed_off_law : SignedOffLaw
signed_off_law limit gamma claims recorded seen draws session some lasting part assorters smaller of' signed j d below =
    let claim = get_or claims j d in
    let signed_to : is_signed_off (session_to limit gamma claims recorded seen draws of'.ends) ≡ true = subst (λ s. is_signed_off s ≡ true) of'.is signed in
    let (end, among, met) = met_at limit gamma claims recorded seen draws of'.ends signed_to j claim below (slice_get-get_or claims j d below) in (
      end,
      All-contains (λ e. e ≤ length draws) of'.ends end of'.are.drawn (contains-from_member among),
      confirmed_law (length recorded) claim.margin gamma limit (map (discrepancy_of claim.value recorded seen) (take end draws)) some
          (smaller j d below) lasting part
          (each_within claim.value (assorters j d below) recorded seen (take end draws)) met,
    )
