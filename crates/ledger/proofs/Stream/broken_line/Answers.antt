use Rattle.std.proofs.Common.{refl}
use Rattle.judging.specs.Judging.{judged}
use Rattle.judging.specs.Linking.{link_after}
use Rattle.ledger.specs.Meeting.{head_by}
use Rattle.ledger.proofs.Phases.{takes-wrong, takes-later, takes-past, takes-closed}
use Rattle.ledger.proofs.Stream.broken_line.Goals as goal

pub returns-in-First : goal.returns-in-First
unfolding head_by
returns-in-First g c l =
    let E = g.E.Verifier.scheme in
    let e = c.in-First.is in
    let h = c.headless.ensures in
    (takes-wrong E e refl h.0 h.1, takes-wrong E e refl h.0 h.1)

pub returns-in-Body : goal.returns-in-Body
unfolding judged link_after
returns-in-Body g c l =
    let E = g.E.Verifier.scheme in
    let e = c.in-Body.is in
    let h = c.later.ensures in
    (takes-later E e refl refl h.0 h.1, takes-later E e refl refl h.0 h.1)

pub returns-in-Past : goal.returns-in-Past
returns-in-Past g c l =
    let E = g.E.Verifier.scheme in
    let e = c.in-Past.is in
    let h = c.unheard.ensures in
    (takes-past E e h.0 h.1, takes-past E e h.0 h.1)

pub returns-in-Closed : goal.returns-in-Closed
returns-in-Closed g c l =
    let E = g.E.Verifier.scheme in
    let e = c.in-Closed.is in
    let h = c.unheard-in-Closed.ensures in
    (takes-closed E e h.0 h.1, takes-closed E e h.0 h.1)
