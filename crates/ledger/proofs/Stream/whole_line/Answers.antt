use Rattle.std.proofs.Common.{subst}
use Rattle.judging.specs.Judging.{judged}
use Rattle.judging.specs.Linking.{link_after}
use Rattle.judging.proofs.Adding.{whole-adds}
use Rattle.ledger.specs.Inside.{Keeps}
use Rattle.ledger.proofs.Phases.{takes-later, takes-past, takes-closed}
use Rattle.ledger.proofs.Stream.whole_line.Goals as goal

pub later-requires : goal.later-requires
later-requires g c =
    let E = g.E.Verifier.scheme in
    let k = subst Keeps c.in-Body.is c.requires.0 in
    (k.1, whole-adds E c.args.self.now.order c.in-Body.header c.in-Body.books c.args.line.now c.judge-judged.ensures.case)

pub returns-in-Body : goal.returns-in-Body
unfolding judged link_after
returns-in-Body g c = let E = g.E.Verifier.scheme in takes-later E c.in-Body.is c.judge-judged.ensures.case c.judge-judged.ensures.link c.later.ensures.0 c.later.ensures.1

pub returns-in-Past : goal.returns-in-Past
returns-in-Past g c = let E = g.E.Verifier.scheme in takes-past E c.in-Past.is c.unheard.ensures.0 c.unheard.ensures.1

pub returns-in-Closed : goal.returns-in-Closed
returns-in-Closed g c = let E = g.E.Verifier.scheme in takes-closed E c.in-Closed.is c.unheard-in-Closed.ensures.0 c.unheard-in-Closed.ensures.1
