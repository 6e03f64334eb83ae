use Rattle.std.proofs.Common.{rules, sym, ◌∙◌}
use lib.Dec.{ltb}
use Rattle.std.proofs.lemmas.List.Sorted.{answers_always}
use Rattle.summary.proofs.Climbing.{unfit-falls, climb-answers}
use Rattle.summary.proofs.judging.rises.Goals as goal

pub returns-then-all_fit : goal.returns-then-all_fit
returns-then-all_fit c = climb-answers _ _ (sym c.all_fit.ensures ∙ c.if-all_fit.true) (c.is_sorted_by.ensures.cases (λ a b. ltb a.card b.card) (answers_always _ _ _ (λ f a r g called. search rules)))

pub returns-else-all_fit : goal.returns-else-all_fit
returns-else-all_fit c = c.if-all_fit.false ∙ unfit-falls _ (sym c.all_fit.ensures ∙ c.if-all_fit.false)
