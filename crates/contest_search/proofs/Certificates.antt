-- A contest has at most one certificate, and it has one if it is decided.
use Rattle.std.proofs.Common.{◌≡◌, ℕ, ◌<◌, Some, refl, sym, ap, subst, ◌∙◌}
use Rattle.assertions.proofs.Alternatives.{order_is}
use Rattle.ballots.specs.Ballots.{BallotFile}
use Rattle.assertion_file.specs.Content.{Content}
use Rattle.contest_search.specs.Certificate.{low_of, order_of, certificate_of, IsCertificateOfDecided}
use Rattle.contest_search.specs.Contest.{candidate_count, IsWon, IsElected}
use Rattle.contest_search.proofs.Contests.{winner-one, winner-below}

pub certificate-one : (ballots : BallotFile) (f g : Content) → IsCertificateOfDecided ballots f → IsCertificateOfDecided ballots g → f ≡ g
certificate-one ballots f g a b =
    let w : a.winner ≡ b.winner = winner-one ballots a.winner b.winner a.won b.won in
    let least : order_of ballots b.winner ≡ Some a.order = subst (λ x. order_of ballots x ≡ Some a.order) w a.least in
    let both : Some a.order ≡ Some b.order = sym least ∙ b.least in
    let o : a.order ≡ b.order = cc in
    a.is ∙ ap (λ x. certificate_of ballots x a.order) w ∙ ap (certificate_of ballots b.winner) o ∙ sym b.is

pub won-certificate : (ballots : BallotFile) (winner : ℕ) → IsWon ballots winner → IsElected ballots winner → 1 < candidate_count ballots →
    (file : Content) × IsCertificateOfDecided ballots file
won-certificate ballots winner won elected two =
    let n = candidate_count ballots in
    let (order, least, among, hard) = order_is n winner (low_of ballots) (winner-below ballots winner won) two in
    (certificate_of ballots winner order, record { winner = winner; won = won; decided = elected; order = order; least = least; is = refl })
