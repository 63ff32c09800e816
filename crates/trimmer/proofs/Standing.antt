-- What stands with one more candidate in front.
use Rattle.std.proofs.Common.{◌≡◌, ◌≢◌, inl, inr, ℕ, ◌<◌, ◌≤◌, Bool, true, false, List, [], ◌∷◌, length, Some, Contains, refl, sym, ap, arith, ◌∙◌}
use Rattle.std.proofs.lemmas.Bool.{and_from}
use Rattle.irv_base.specs.Candidates.{candidates, has, members, set_of}
use Rattle.irv_base.specs.Suffixes.{is_suffix}
use Rattle.irv_base.specs.declared.limits.TheConstants.{ROOM}
use Rattle.irv_base.proofs.Distinct.{distinct-le, distinct-range}
use Rattle.irv_base.proofs.Members.{candidate-member, contains-from_member, find-member, from_filter, from_find, member-filter, member-from_contains}
use Rattle.irv_base.proofs.Orders.{order_facts}
use Rattle.irv_base.proofs.Sames.{distinct-filter}
use Rattle.irv_base.proofs.Sets.{has-member, member-from_has}
use Rattle.irv_base.proofs.Suffixes.{suffix-distinct, suffix-has, suffix-short, suffix_more, suffix_whole}
use Rattle.assertions.specs.Suffixes.{alternative_orders}
use Rattle.assertions.proofs.Endings.{Suffix, suffix_facts, alternative-member, from_alternative}
use Rattle.set_walk.specs.Walks.{first_by_sets, standing, walks}
use Rattle.set_walk.proofs.Claims.{more-elects}
use Rattle.set_walk.proofs.Exact.{Walks}
use Rattle.set_walk.proofs.Firsts.{first_is}
use Rattle.set_walk.proofs.Orders.{alternative-suffix}
use Rattle.set_walk.proofs.Standing.{from_standing, standing-member}
use Rattle.trimmer.specs.Spreading.{IsStart}

-- a set has as many members as a suffix of this set has candidates
pub set-long : (n : ℕ) (t : List ℕ) → n ≤ ROOM → is_suffix n t ≡ true → length (members (set_of t)) ≡ length t
set-long n t room proper =
    let s : Suffix n t = suffix_facts n t proper in
    let d = suffix-distinct n t proper in
    let most = distinct-le (members (set_of t)) t (distinct-filter (has (set_of t)) (candidates ROOM) (distinct-range 0 ROOM))
    (λ z m. member-from_has t z d (from_filter (has (set_of t)) (candidates ROOM) m).1) in
    let fewest = distinct-le t (members (set_of t)) d (λ z m.
    member-filter (has (set_of t)) (candidates ROOM) (candidate-member z ROOM (omega (arith, s.below z m, room))) (has-member d m)) in
    omega (arith, most, fewest)

module _ (n winner : ℕ) (goes : ℕ → ℕ → Bool) where
  abbrev W : List ℕ → Type 0
  W t = Walks n winner goes t

  -- a suffix that walks, with one more candidate
  in-front : (t : List ℕ) (c : ℕ) → W t → c < n → has (set_of t) c ≡ false → goes (set_of t) c ≡ true → W (c ∷ t)
  in-front t c w below out passing = record {
    is = record {
      proper = suffix_more n c t below (sym (suffix-has n t c w.is.proper) ∙ out) w.is.proper;
      elected = w.is.elected;
      other = w.is.other;
      elects = more-elects c w.is.elected t w.is.elects;
    };
    going = and_from (goes (set_of t) c) (walks goes t) passing w.going;
  }

  alone : (c : ℕ) → c < n → c ≢ winner → goes 0 c ≡ true → W (c ∷ [])
  alone c below other passing = record {
    is = record { proper = suffix_more n c [] below refl refl; elected = c; other = other; elects = ([], refl) };
    going = and_from (goes 0 c) true passing refl;
  }

  -- from a start, by a step that passes
  pub stepped : (set c : ℕ) → IsStart winner (standing n winner goes) set c → c < n → has set c ≡ false → goes set c ≡ true →
      (tail : List ℕ) × W (c ∷ tail) × (set_of tail ≡ set)
  stepped set c (inl there) below out passing =
      let (t, s) = from_standing n winner goes set (member-from_contains set (standing n winner goes) there) in
      let w : W t = record { is = s.is; going = s.going } in
      (t, in-front t c w below (ap (λ s. has s c) s.same ∙ out) (ap (λ s. goes s c) s.same ∙ passing), s.same)
  stepped set c (inr (none, other)) below out passing = ([], alone c below other (ap (λ s. goes s c) (sym none) ∙ passing), sym none)

  pub short-stands : (t : List ℕ) → W t → length t < n → Contains (standing n winner goes) (set_of t)
  short-stands t w short =
      contains-from_member (standing-member n winner goes (set_of t) t (record { is = w.is; short = short; going = w.going; same = refl }))

  pub whole-walks : (t : List ℕ) → W t → length t ≡ n → (order : List ℕ) × (first_by_sets n winner goes ≡ Some order)
  whole-walks t w long =
      let m = alternative-member n winner w.is.elected t (suffix_whole n t w.is.proper long) w.is.other w.is.elects in
      let (order, e) = find-member (walks goes) t (alternative_orders n winner) m w.going in
      (order, sym (first_is n goes winner) ∙ e)

  pub first-walks : (order : List ℕ) → first_by_sets n winner goes ≡ Some order → W order × (length order ≡ n)
  first-walks order e =
      let (m, going) = from_find (walks goes) order (alternative_orders n winner) (first_is n goes winner ∙ e) in
      let (o, (c, other, elects)) = from_alternative n winner order m in (
        record { is = record { proper = alternative-suffix n winner order m; elected = c; other = other; elects = elects }; going = going },
        (order_facts n order o).long,
      )

  pub not-longer : (t : List ℕ) → W t → length t ≤ n
  not-longer t w = suffix-short n t w.is.proper
