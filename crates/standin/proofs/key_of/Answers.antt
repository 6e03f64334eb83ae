use Rattle.std.proofs.Common.{List, ◌++◌, ℕ, ap, ◌∙◌, append-nil}
use Rattle.standin.specs.Standin.{public_key, text}
use Rattle.standin.proofs.key_of.Goals as goal

pub returns : goal.returns
unfolding public_key text
returns c = ap (λ (d : List ℕ). text ++ d) (append-nil _ ∙ c.fill.ensures)
