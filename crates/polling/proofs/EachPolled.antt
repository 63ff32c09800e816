-- The ends of all claims, by all draws and by the first draws only.
use Rattle.std.proofs.Common.{◌≡◌, ℕ, ◌<◌, ◌≤◌, Bool, true, false, ◌&&◌, List, [], ◌∷◌, length, map, take, Option, None, Some, is_some, refl, sym, ap, ◌∙◌, arith}
use Rattle.std.specs.List.{list_all}
use Rattle.std.proofs.lemmas.Bool.{and_parts}
use Rattle.std.proofs.lemmas.List.{length-map, take-map}
use Rattle.std.proofs.lemmas.Simd.{map-map}
use Rattle.assertions.specs.Assorter.{assorter_value}
use Rattle.assertions.specs.declared.assertion.Claim.{Claim}
use Rattle.assertion_file.specs.Content.{Content}
use Rattle.assorters.specs.declared.seen.Seen.{Seen}
use Rattle.assorters.specs.Cards.{seen_value}
use Rattle.audit_session.specs.Going.{seen_at, seen_card}
use Rattle.audit_session.specs.declared.seen.SeenCard.{SeenCard}
use Rattle.polling.specs.Each.{Polled, asked, confirmed_at, draws_of, end_of, ends_of, gamma_of, has_confirmed, is_each_confirmed, polled_claim, polled_of, values_of}
use Rattle.polling.specs.Polls.{polled}
use Rattle.polling.specs.declared.each.ClaimEnd.{ClaimEnd}
use Rattle.polling.proofs.Ended.{at-a-draw, ended-more, takes-few, takes-more}

-- ---- of the claims of a file

pub over-cards : (limit : ℕ) (gamma : Option ℕ) (cards : ℕ) (claims : List Claim) (seen : List Seen) (ds : List ℕ) →
    map (λ claim. end_of limit (gamma_of gamma cards claim) (map (polled (assorter_value claim.assertion)) (map (seen_card seen) ds))) claims
    ≡ ends_of limit (map (polled_claim gamma cards) claims) seen ds
over-cards limit gamma cards [] seen ds = refl
over-cards limit gamma cards (claim ∷ claims) seen ds =
    let value : List ℕ → ℕ = assorter_value claim.assertion in
    let first = ap (end_of limit (gamma_of gamma cards claim)) (map-map (polled value) (seen_card seen) ds) in
    let rest = over-cards limit gamma cards claims seen ds in
    λ i. first i ∷ rest i

pub all-confirmed : (limit : ℕ) (claims : List Polled) (seen : List Seen) (ds : List ℕ) →
    list_all has_confirmed (ends_of limit claims seen ds) ≡ is_each_confirmed limit claims seen ds
all-confirmed limit [] seen ds = refl
all-confirmed limit (claim ∷ claims) seen ds =
    ap (λ b. is_some (confirmed_at limit claim.gamma (values_of seen ds claim)) && b) (all-confirmed limit claims seen ds)

-- the ends of a file's claims, of cards that are drawn and seen so
pub ends_by : (limit : ℕ) (gamma : Option ℕ) (cards : ℕ) (file : Content) (seen : List Seen) (ds : List ℕ) (drawn : List SeenCard) (ends : List ClaimEnd) →
    drawn ≡ map (seen_card seen) ds →
    ends ≡ map (λ claim. end_of limit (gamma_of gamma cards claim) (map (polled (assorter_value claim.assertion)) drawn)) file.claims →
    ends ≡ ends_of limit (polled_of gamma cards file) seen ds
ends_by limit gamma cards file seen ds drawn ends so are =
    are
    ∙ ap (λ (drawn : List SeenCard). map (λ (claim : Claim). end_of limit (gamma_of gamma cards claim) (map (polled (assorter_value claim.assertion)) drawn))
    file.claims) so
    ∙ over-cards limit gamma cards file.claims seen ds

pub confirmed_by : (limit : ℕ) (claims : List Polled) (seen : List Seen) (ds : List ℕ) (ends : List ClaimEnd) (confirmed : Bool) →
    ends ≡ ends_of limit claims seen ds → confirmed ≡ list_all has_confirmed ends → confirmed ≡ is_each_confirmed limit claims seen ds
confirmed_by limit claims seen ds ends confirmed are is = is ∙ ap (list_all has_confirmed) are ∙ all-confirmed limit claims seen ds

-- ---- by the first draws

module _ (limit : ℕ) (seen : List Seen) (drawn : List ℕ) where
  long : (claim : Polled) → length (values_of seen drawn claim) ≡ length drawn
  long claim = length-map drawn (λ card. seen_value claim.value (seen_at seen card))

  -- a claim takes at most as many draws as there are
  takes-within : (claim : Polled) → draws_of limit claim.gamma (values_of seen drawn claim) ≤ length drawn
  takes-within claim = by (confirmed_at limit claim.gamma (values_of seen drawn claim)) refl where
    by : (o : Option ℕ) → confirmed_at limit claim.gamma (values_of seen drawn claim) ≡ o →
        Rattle.std.specs.Prelude.unwrap_or o (length (values_of seen drawn claim)) ≤ length drawn
    by None is = omega (arith, long claim)
    by (Some k) is = let at = at-a-draw limit claim.gamma (values_of seen drawn claim) k is in omega (arith, at.1, long claim)

  pub asked-within : (claims : List Polled) → asked limit claims seen drawn ≤ length drawn
  asked-within [] = omega arith
  asked-within (claim ∷ claims) = let first = takes-within claim in let rest = asked-within claims in omega (arith, first, rest)

  module _ (m : ℕ) (few : m ≤ length drawn) where
    first-values : (claim : Polled) → values_of seen (take m drawn) claim ≡ take m (values_of seen drawn claim)
    first-values claim = sym (take-map (λ card. seen_value claim.value (seen_at seen card)) m drawn)

    among : (claim : Polled) → m ≤ length (values_of seen drawn claim)
    among claim = omega (arith, few, long claim)

    -- one claim
    confirms-first : (claim : Polled) → is_some (confirmed_at limit claim.gamma (values_of seen (take m drawn) claim)) ≡ true →
        is_some (confirmed_at limit claim.gamma (take m (values_of seen drawn claim))) ≡ true
    confirms-first claim some = sym (ap (λ values. is_some (confirmed_at limit claim.gamma values)) (first-values claim)) ∙ some

    same-end : (claim : Polled) → is_some (confirmed_at limit claim.gamma (values_of seen (take m drawn) claim)) ≡ true →
        end_of limit claim.gamma (values_of seen (take m drawn) claim) ≡ end_of limit claim.gamma (values_of seen drawn claim)
    same-end claim some =
        ap (end_of limit claim.gamma) (first-values claim)
        ∙ ended-more limit claim.gamma (values_of seen drawn claim) m (among claim) (confirms-first claim some)

    -- if they confirm each claim, its end is the same by all draws, which ask for no more of them
    pub ends-first : (claims : List Polled) → is_each_confirmed limit claims seen (take m drawn) ≡ true →
        ends_of limit claims seen (take m drawn) ≡ ends_of limit claims seen drawn
    ends-first [] each = refl
    ends-first (claim ∷ claims) each =
        let (one, more) = and_parts (is_some (confirmed_at limit claim.gamma (values_of seen (take m drawn) claim))) _ each in
        let first = same-end claim one in
        let rest = ends-first claims more in
        λ i. first i ∷ rest i

    pub asked-first : (claims : List Polled) → is_each_confirmed limit claims seen (take m drawn) ≡ true → asked limit claims seen drawn ≤ m
    asked-first [] each = omega arith
    asked-first (claim ∷ claims) each =
        let (one, more) = and_parts (is_some (confirmed_at limit claim.gamma (values_of seen (take m drawn) claim))) _ each in
        let first = takes-few limit claim.gamma (values_of seen drawn claim) m (among claim) (confirms-first claim one) in
        let rest = asked-first claims more in
        omega (arith, first, rest)

    -- if they don't, more of them are asked for
    pub asked-more : m < length drawn → (claims : List Polled) → is_each_confirmed limit claims seen (take m drawn) ≡ false →
        m < asked limit claims seen drawn
    asked-more fewer [] each = absurd (cc each)
    asked-more fewer (claim ∷ claims) each =
        by (is_some (confirmed_at limit claim.gamma (values_of seen (take m drawn) claim))) refl each (asked-more fewer claims) where
          by : (b : Bool) → is_some (confirmed_at limit claim.gamma (values_of seen (take m drawn) claim)) ≡ b →
              (b && is_each_confirmed limit claims seen (take m drawn)) ≡ false →
              (is_each_confirmed limit claims seen (take m drawn) ≡ false → m < asked limit claims seen drawn) →
              m < asked limit (claim ∷ claims) seen drawn
          by true is each rest = let more = rest each in omega (arith, more)
          by false is each rest =
              let first = takes-more limit claim.gamma (values_of seen drawn claim) m (among claim) (omega (arith, fewer, long claim))
              (sym (ap (λ values. is_some (confirmed_at limit claim.gamma values)) (first-values claim)) ∙ is) in
              omega (arith, first)
