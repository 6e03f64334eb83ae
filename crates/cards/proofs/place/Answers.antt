use Rattle.std.proofs.Common.{rules}
use Rattle.std.proofs.lemmas.List.Sorted.{answers_always}
use Rattle.summary.specs.declared.CardEntry.{CardEntry}
use Rattle.summary.proofs.Places.{searched}
use Rattle.cards.proofs.place.Goals as goal

pub returns-clause-is : goal.returns-clause-is
returns-clause-is c =
    let f = c.binary_search_by_key.ensures in
    searched _ _ c.requires _ f.bound (f.position (λ (e : CardEntry). e.card) (answers_always _ _ _ (λ f a r g called. search rules)))
