use Rattle.std.proofs.Common.{refl, ap, ◌∙◌, None}
use Rattle.records.proofs.LineOne.{was-wrong, was-right}
use Rattle.judging.specs.declared.Books.{Books}
use Rattle.ledger.specs.Meeting.{head_by}
use Rattle.ledger.specs.Passing.{in_phase}
use Rattle.ledger.specs.declared.Phase.TheVariants.{Body}
use Rattle.ledger.proofs.Phases.{takes-wrong, takes-right}
use Rattle.ledger.proofs.Stream.first_line.Goals as goal

pub returns-in_default : goal.returns-in_default
unfolding head_by
returns-in_default g c = takes-wrong g.E.Verifier.scheme c.requires (was-wrong _ c.read_header.ensures c.in_default.is) c.headless.ensures.0 c.headless.ensures.1

pub returns : goal.returns
unfolding head_by
returns g c =
    takes-right g.E.Verifier.scheme c.requires (was-right _ c.read_header.ensures c.in-Some.is)
    (c.pass.ensures ∙ ap (λ (b : Books). in_phase c.args.self.now (Body c.in-Some.header None b)) c.open_books.ensures) refl
